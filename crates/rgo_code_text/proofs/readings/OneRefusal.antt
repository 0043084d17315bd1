-- A text has at most one first line without form, and the text of code has none.
use Rattle.std.proofs.Common.{◌≡◌, ◌∙◌, refl, sym, ap, subst, ℕ, ◌<◌, ◌≤◌, ◌⊎◌, inl, inr, List, [], ◌∷◌, ◌++◌, length, arith, append_assoc}
use Rattle.std.specs.Prelude.{All, Contains}
use Rattle.std.proofs.lemmas.Bool.{cases_lt}
use Rattle.std.proofs.lemmas.List.Elements.{All-head, All-tail, Contains-append_right, Contains-get_or}
use Rattle.rgo_code.specs.Code.{Code}
use Rattle.rgo_code_printing.specs.Text.{text_of}
use Rattle.rgo_code_text.specs.Forms.{IsLine, ended_lines, BeginsCode, HasNoForm, EndsEarly, IsFirstWithoutForm}
use Rattle.rgo_code_text.specs.Laws.{OneTextRefusal}
use Rattle.rgo_code_text.specs.Written.{HasCodeText}

-- ---- one way to cut a text into lines

no_newline : (b : ℕ) (bytes : List ℕ) → IsLine (b ∷ bytes) → b ≡ 10 → ⊥
no_newline b bytes line e = line (subst (Contains (b ∷ bytes)) e (Contains-get_or (b ∷ bytes) 0 b (omega arith)))

rest_line : (b : ℕ) (bytes : List ℕ) → IsLine (b ∷ bytes) → IsLine bytes
rest_line b bytes line h = line (Contains-append_right (b ∷ []) bytes 10 h)

-- two lines, each followed by a newline and more, that are the same bytes
record SameLine (x y a b : List ℕ) : Type 0 where
  line : x ≡ y
  more : a ≡ b

same_line : (x y a b : List ℕ) → IsLine x → IsLine y → x ++ 10 ∷ a ≡ y ++ 10 ∷ b → SameLine x y a b
same_line [] [] a b k l e = let rest : a ≡ b = cc in record { line = refl; more = rest }
same_line [] (d ∷ y) a b k l e = absurd (no_newline d y l (let first : d ≡ 10 = cc in first))
same_line (c ∷ x) [] a b k l e = absurd (no_newline c x k (let first : c ≡ 10 = cc in first))
same_line (c ∷ x) (d ∷ y) a b k l e =
    let first : c ≡ d = cc in
    let rest : x ++ 10 ∷ a ≡ y ++ 10 ∷ b = cc in
    let more = same_line x y a b (rest_line c x k) (rest_line d y l) rest in
    let lines = more.line in
    record { line = cc; more = more.more }

-- fewer lines of one text: the next line, and what follows it
record Further (before after : List (List ℕ)) (tail end : List ℕ) : Type 0 where
  line : List ℕ
  rest : List (List ℕ)
  is_line : IsLine line
  tail_is : tail ≡ line ++ 10 ∷ (ended_lines rest ++ end)
  after_is : ended_lines after ≡ ended_lines before ++ ((line ++ 10 ∷ []) ++ ended_lines rest)

further : (before after : List (List ℕ)) (tail end : List ℕ) → All IsLine before → All IsLine after
    → ended_lines before ++ tail ≡ ended_lines after ++ end → length before < length after → Further before after tail end
further [] [] tail end k l e h = absurd (omega (arith, h))
further [] (y ∷ after) tail end k l e h = record {
  line = y;
  rest = after;
  is_line = All-head IsLine y after l;
  tail_is = e ∙ (append_assoc (y ++ 10 ∷ []) (ended_lines after) end ∙ append_assoc y (10 ∷ []) (ended_lines after ++ end));
  after_is = refl;
}
further (x ∷ before) [] tail end k l e h = absurd (omega (arith, h))
further (x ∷ before) (y ∷ after) tail end k l e h =
    let left = append_assoc (x ++ 10 ∷ []) (ended_lines before) tail ∙ append_assoc x (10 ∷ []) (ended_lines before ++ tail) in
    let right = append_assoc (y ++ 10 ∷ []) (ended_lines after) end ∙ append_assoc y (10 ∷ []) (ended_lines after ++ end) in
    let same = same_line x y (ended_lines before ++ tail) (ended_lines after ++ end) (All-head IsLine x before k)
    (All-head IsLine y after l) (sym left ∙ (e ∙ right)) in
    let more = further before after tail end (All-tail IsLine x before k) (All-tail IsLine y after l) same.more
    (omega (arith, h)) in
    record {
      line = more.line;
      rest = more.rest;
      is_line = more.is_line;
      tail_is = more.tail_is;
      after_is = ap (λ t. (y ++ 10 ∷ []) ++ t) more.after_is
          ∙ (sym (append_assoc (y ++ 10 ∷ []) (ended_lines before) ((more.line ++ 10 ∷ []) ++ ended_lines more.rest))
          ∙ ap (λ z. ((z ++ 10 ∷ []) ++ ended_lines before) ++ ((more.line ++ 10 ∷ []) ++ ended_lines more.rest)) (sym same.line));
    }

-- ---- what begins a text

begins_less : (bytes rest : List ℕ) → BeginsCode (bytes ++ rest) → BeginsCode bytes
begins_less bytes rest b = record {
  code = b.code;
  rest = rest ++ b.rest;
  written = b.written;
  text = b.text ∙ append_assoc bytes rest b.rest;
}

-- a line after which more lines begin a text has a form
no_stop : (before : List (List ℕ)) (tail line : List ℕ) (more : List ℕ) → IsLine line → tail ≡ line ++ 10 ∷ more
    → BeginsCode (ended_lines before ++ (line ++ 10 ∷ [])) → HasNoForm (ended_lines before) tail ⊎ EndsEarly (ended_lines before) tail → ⊥
no_stop before tail line more is cut begins (inl stop) =
    let same = same_line line stop.bytes more stop.more is stop.line (sym cut ∙ stop.cut) in
    stop.stops (subst (λ l. BeginsCode (ended_lines before ++ (l ++ 10 ∷ []))) same.line begins)
no_stop before tail line more is cut begins (inr early) =
    early.line (subst (λ t. Contains t 10) (sym cut)
    (Contains-append_right line (10 ∷ more) 10 (Contains-get_or (10 ∷ more) 0 10 (omega arith))))

not_less : (text : List ℕ) (m n : ℕ) → IsFirstWithoutForm text m → IsFirstWithoutForm text n → m < n → ⊥
not_less text m n a b h =
    let shorter : length a.before < length b.before = omega (arith, a.number, b.number, h) in
    let f = further a.before b.before a.tail b.tail a.lines b.lines (sym a.cut ∙ b.cut) shorter in
    let all = subst BeginsCode (f.after_is ∙ sym (append_assoc (ended_lines a.before) (f.line ++ 10 ∷ []) (ended_lines f.rest))) b.begins in
    no_stop a.before a.tail f.line (ended_lines f.rest ++ b.tail) f.is_line f.tail_is
    (begins_less (ended_lines a.before ++ (f.line ++ 10 ∷ [])) (ended_lines f.rest) all) a.stops

one : (text : List ℕ) (m n : ℕ) → IsFirstWithoutForm text m → IsFirstWithoutForm text n → m ≡ n
one text m n a b = by_order (cases_lt m n) (cases_lt n m)
  where
    by_order : (m < n) ⊎ (n ≤ m) → (n < m) ⊎ (m ≤ n) → m ≡ n
    by_order (inl h) k = absurd (not_less text m n a b h)
    by_order (inr h) (inl k) = absurd (not_less text n m b a k)
    by_order (inr h) (inr k) = omega (arith, h, k)

-- ---- the text of code

stops_not : (code : Code) (head tail : List ℕ) → HasCodeText code → text_of code ≡ head ++ tail
    → HasNoForm head tail ⊎ EndsEarly head tail → ⊥
stops_not code head tail written cut (inl stop) = stop.stops (record {
  code = code;
  rest = stop.more;
  written = written;
  text = cut ∙ (ap (λ t. head ++ t) (stop.cut ∙ sym (append_assoc stop.bytes (10 ∷ []) stop.more))
      ∙ sym (append_assoc head (stop.bytes ++ 10 ∷ []) stop.more));
})
stops_not code head tail written cut (inr early) =
    early.stops (record { code = code; written = written; text = cut })

not_both : (code : Code) (n : ℕ) → HasCodeText code → IsFirstWithoutForm (text_of code) n → ⊥
not_both code n written first = stops_not code (ended_lines first.before) first.tail written first.cut first.stops

pub one_refusal : OneTextRefusal
one_refusal = record { one = one; not_both = not_both }
