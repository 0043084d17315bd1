-- Lines are cut into their words again, since no word but the last contains a space.
use Rattle.std.proofs.Common.{◌≡◌, ℕ, zero, suc, ◌+◌, ◌-◌, ◌<◌, ◌≤◌, ◌==◌, nat_lt, Bool, true, false, cond, List, [], ◌∷◌, ◌++◌, length, take, drop, get_or, refl, sym, ap, ◌∙◌, arith, append_assoc, length-append}
use Rattle.std.specs.List.{join_with_byte, position_or_len, before_first, after_first}
use Rattle.std.proofs.lemmas.Bool.Decides.{Decides-eqb, Decides-ltb, nat_tests}
use Rattle.std.proofs.lemmas.List.{take_all, take_at, drop_at, drop-drop, map_push}
use Rattle.std.proofs.lemmas.List.Elements.{All-head, All-tail}
use Rattle.std.proofs.lemmas.List.Sums.{split_at_first, passes_at_first}
use denote.Ref.{Bor}
use Rattle.rgo_code_words.specs.Cuts.{is_space, cut_line, nows, nth_word}
use Rattle.rgo_code_words.proofs.Lacks.{Lacks, AllLack}

-- a space after bytes without one
first_space : (w rest : List ℕ) → Lacks 32 w → position_or_len is_space (w ++ 32 ∷ rest) ≡ length w
first_space [] rest l = refl
first_space (b ∷ w) rest l =
    let tail = first_space w rest (All-tail (λ b. (b == 32) ≡ false) b w l) in
    rw (All-head (λ b. (b == 32) ≡ false) b w l) (ap (λ n. 1 + n) tail ∙ omega arith)

no_space : (w : List ℕ) → Lacks 32 w → position_or_len is_space w ≡ length w
no_space [] l = refl
no_space (b ∷ w) l =
    let tail = no_space w (All-tail (λ b. (b == 32) ≡ false) b w l) in
    rw (All-head (λ b. (b == 32) ≡ false) b w l) (ap (λ n. 1 + n) tail ∙ omega arith)

-- ---- the first word of a line

pub first_of_two : (w rest : List ℕ) → Lacks 32 w → before_first is_space (w ++ 32 ∷ rest) ≡ w
first_of_two w rest l =
    ap (λ n. take n (w ++ 32 ∷ rest)) (first_space w rest l) ∙ take_at w (32 ∷ rest) (length w) refl

pub first_of_one : (w : List ℕ) → Lacks 32 w → before_first is_space w ≡ w
first_of_one w l = ap (λ n. take n w) (no_space w l) ∙ take_all (length w) w (omega arith)

pub first_of_joined : (w : List ℕ) (ws : List (List ℕ)) → Lacks 32 w → before_first is_space (join_with_byte 32 (w ∷ ws)) ≡ w
first_of_joined w [] l = first_of_one w l
first_of_joined w (v ∷ ws) l = first_of_two w (join_with_byte 32 (v ∷ ws)) l

-- ---- all words

cut_here : (n : ℕ) (line : List ℕ) → position_or_len is_space line < length line
    → cut_line (suc n) line ≡ before_first is_space line ∷ cut_line n (after_first is_space line)
cut_here n line l =
    ap (λ t. cond t (before_first is_space line ∷ cut_line n (after_first is_space line)) (line ∷ []))
    ((Decides-ltb (position_or_len is_space line) (length line)).1 l)

-- a word and the rest of the line
pub cut_more : (n : ℕ) (w rest : List ℕ) → Lacks 32 w → cut_line (suc n) (w ++ 32 ∷ rest) ≡ w ∷ cut_line n rest
cut_more n w rest l =
    let line = w ++ 32 ∷ rest in
    let first = first_space w rest l in
    let after : drop (position_or_len is_space line + 1) line ≡ rest =
    ap (λ k. drop (k + 1) line) first
    ∙ sym (drop-drop 1 (length w) line) ∙ ap (drop 1) (drop_at w (32 ∷ rest) (length w) refl) in
    cut_here n line (omega (arith, first, length_two w rest)) ∙ ap (λ v. v ∷ cut_line n (after_first is_space line)) (first_of_two w rest l)
    ∙ ap (λ r. w ∷ cut_line n r) after
  where
    length_two : (w rest : List ℕ) → length w < length (w ++ 32 ∷ rest)
    length_two w rest = omega (arith, length-append w (32 ∷ rest))

-- the last word
pub cut_last : (n : ℕ) (w : List ℕ) → Lacks 32 w → cut_line n w ≡ w ∷ []
cut_last zero w l = refl
cut_last (suc n) w l =
    ap (λ k. cond (nat_lt k (length w)) (before_first is_space w ∷ cut_line n (after_first is_space w)) (w ∷ [])) (no_space w l)
    ∙ ap (λ t. cond t (before_first is_space w ∷ cut_line n (after_first is_space w)) (w ∷ [])) (not_less (length w))
  where
    not_less : (n : ℕ) → nat_lt n n ≡ false
    not_less n = grind (arith, nat_tests)

pub cut_words : (n : ℕ) (w : List ℕ) (ws : List (List ℕ)) → length ws ≤ n → AllLack 32 (w ∷ ws)
    → cut_line n (join_with_byte 32 (w ∷ ws)) ≡ w ∷ ws
cut_words n w [] h l = cut_last n w (All-head (Lacks 32) w [] l)
cut_words zero w (v ∷ ws) h l = absurd (omega (arith, h))
cut_words (suc n) w (v ∷ ws) h l =
    cut_more n w (join_with_byte 32 (v ∷ ws)) (All-head (Lacks 32) w (v ∷ ws) l)
    ∙ ap (λ t. w ∷ t) (cut_words n v ws (omega (arith, h)) (All-tail (Lacks 32) w (v ∷ ws) l))

-- ---- the line of the words

join_more : (w : List ℕ) (ws : List (List ℕ)) → 0 < length ws → join_with_byte 32 (w ∷ ws) ≡ w ++ 32 ∷ join_with_byte 32 ws
join_more w [] l = absurd (omega (arith, l))
join_more w (v ∷ ws) l = refl

pub cut_some : (n : ℕ) (line : List ℕ) → 0 < length (cut_line n line)
cut_some zero line = omega arith
cut_some (suc n) line = by (nat_lt (position_or_len is_space line) (length line))
  where
    by : (t : Bool) → 0 < length (cond t (before_first is_space line ∷ cut_line n (after_first is_space line)) (line ∷ []))
    by true = omega arith
    by false = omega arith

pub cut_short : (n : ℕ) (line : List ℕ) → length (cut_line n line) ≤ n + 1
cut_short zero line = omega arith
cut_short (suc n) line =
    by (nat_lt (position_or_len is_space line) (length line)) (cut_short n (after_first is_space line))
  where
    by : (t : Bool) → length (cut_line n (after_first is_space line)) ≤ n + 1
        → length (cond t (before_first is_space line ∷ cut_line n (after_first is_space line)) (line ∷ [])) ≤ suc n + 1
    by true l = omega (arith, l)
    by false l = omega arith

pub cut_joined : (n : ℕ) (line : List ℕ) → join_with_byte 32 (cut_line n line) ≡ line
cut_joined zero line = refl
cut_joined (suc n) line =
    by (nat_lt (position_or_len is_space line) (length line)) refl (cut_joined n (after_first is_space line))
  where
    by : (t : Bool) → nat_lt (position_or_len is_space line) (length line) ≡ t
        → join_with_byte 32 (cut_line n (after_first is_space line)) ≡ after_first is_space line
        → join_with_byte 32 (cond t (before_first is_space line ∷ cut_line n (after_first is_space line)) (line ∷ [])) ≡ line
    by true e rest =
        let l = (Decides-ltb (position_or_len is_space line) (length line)).0 e in
        join_more (before_first is_space line) (cut_line n (after_first is_space line)) (cut_some n (after_first is_space line))
        ∙ ap (λ r. before_first is_space line ++ 32 ∷ r) rest
        ∙ ap (λ b. before_first is_space line ++ b ∷ after_first is_space line)
        (sym ((Decides-eqb (get_or line (position_or_len is_space line) 0) 32).0 (passes_at_first is_space line 0 l)))
        ∙ sym (split_at_first is_space line 0 l)
    by false e rest = refl

-- the first of the words
pub first_of_cut : (n : ℕ) (line : List ℕ) → nth_word (cut_line (suc n) line) 0 ≡ before_first is_space line
first_of_cut n line = by (nat_lt (position_or_len is_space line) (length line)) refl
  where
    by : (t : Bool) → nat_lt (position_or_len is_space line) (length line) ≡ t
        → nth_word (cond t (before_first is_space line ∷ cut_line n (after_first is_space line)) (line ∷ [])) 0
        ≡ before_first is_space line
    by true e = refl
    by false e = sym (take_all (position_or_len is_space line) line (grind (arith, nat_tests)))

-- ---- words by their number

pub two_of : (ws : List (List ℕ)) → length ws ≡ 2 → ws ≡ nth_word ws 0 ∷ nth_word ws 1 ∷ []
two_of [] e = absurd (omega (arith, e))
two_of (a ∷ []) e = absurd (omega (arith, e))
two_of (a ∷ b ∷ []) e = refl
two_of (a ∷ b ∷ c ∷ ws) e = absurd (omega (arith, e))

pub three_of : (ws : List (List ℕ)) → length ws ≡ 3 → ws ≡ nth_word ws 0 ∷ nth_word ws 1 ∷ nth_word ws 2 ∷ []
three_of [] e = absurd (omega (arith, e))
three_of (a ∷ ws) e = ap (λ vs. a ∷ vs) (two_of ws (omega (arith, e)))

pub four_of : (ws : List (List ℕ)) → length ws ≡ 4 → ws ≡ nth_word ws 0 ∷ nth_word ws 1 ∷ nth_word ws 2 ∷ nth_word ws 3 ∷ []
four_of [] e = absurd (omega (arith, e))
four_of (a ∷ ws) e = ap (λ vs. a ∷ vs) (three_of ws (omega (arith, e)))

pub five_of : (ws : List (List ℕ)) → length ws ≡ 5
    → ws ≡ nth_word ws 0 ∷ nth_word ws 1 ∷ nth_word ws 2 ∷ nth_word ws 3 ∷ nth_word ws 4 ∷ []
five_of [] e = absurd (omega (arith, e))
five_of (a ∷ ws) e = ap (λ vs. a ∷ vs) (four_of ws (omega (arith, e)))

pub six_of : (ws : List (List ℕ)) → length ws ≡ 6
    → ws ≡ nth_word ws 0 ∷ nth_word ws 1 ∷ nth_word ws 2 ∷ nth_word ws 3 ∷ nth_word ws 4 ∷ nth_word ws 5 ∷ []
six_of [] e = absurd (omega (arith, e))
six_of (a ∷ ws) e = ap (λ vs. a ∷ vs) (five_of ws (omega (arith, e)))

-- ---- a line, cut word by word

nows_more : (words : List (Bor (List ℕ))) (w : Bor (List ℕ)) → nows (words ++ w ∷ []) ≡ nows words ++ w.now ∷ []
nows_more words w = map_push (λ word. word.now) words w

module _ (words more : List (Bor (List ℕ))) (line rest : List ℕ) (at left n : ℕ) (w : Bor (List ℕ)) (whole : rest ≡ drop at line)
    (pushed : more ≡ words ++ w ∷ []) (so_far : nows words ++ cut_line left (drop at line) ≡ cut_line n line) where
  -- the last word
  pub cut_ends : w.now ≡ rest → position_or_len is_space rest ≡ length rest → nows more ≡ cut_line n line
  cut_ends e l =
      ap nows pushed ∙ nows_more words w ∙ ap (λ v. nows words ++ v ∷ []) e
      ∙ ap (λ ws. nows words ++ ws) (sym (none left) ∙ ap (cut_line left) whole) ∙ so_far
    where
      none : (left : ℕ) → cut_line left rest ≡ rest ∷ []
      none zero = refl
      none (suc left) =
          let less : nat_lt (position_or_len is_space rest) (length rest) ≡ false = grind (arith, nat_tests) in
          ap (λ t. cond t (before_first is_space rest ∷ cut_line left (after_first is_space rest)) (rest ∷ [])) less

  -- one more word
  pub cut_goes_on : (len : ℕ) → w.now ≡ take len rest → len ≡ position_or_len is_space rest → len < length rest → 0 < left
      → nows more ++ cut_line (left - 1) (drop (at + len + 1) line) ≡ cut_line n line
  cut_goes_on len e p l some =
      ap (λ ws. nows ws ++ tail) pushed
      ∙ ap (λ ws. ws ++ tail) (nows_more words w ∙ ap (λ v. nows words ++ v ∷ []) e)
      ∙ append_assoc (nows words) (take len rest ∷ []) tail
      ∙ ap (λ ws. nows words ++ ws) (sym (one left some)) ∙ so_far
    where
      tail : List (List ℕ)
      tail = cut_line (left - 1) (drop (at + len + 1) line)

      one : (left : ℕ) → 0 < left → cut_line left (drop at line) ≡ take len rest ∷ cut_line (left - 1) (drop (at + len + 1) line)
      one zero s = absurd (omega (arith, s))
      one (suc left) s =
          let less : position_or_len is_space rest < length rest = omega (arith, l, p) in
          let next : suc left - 1 ≡ left = omega arith in
          let after : drop (position_or_len is_space rest + 1) rest ≡ drop (at + len + 1) line =
          ap (λ k. drop (k + 1) rest) (sym p) ∙ ap (drop (len + 1)) whole ∙ drop-drop (len + 1) at line
          ∙ ap (λ k. drop k line) (omega arith) in
          ap (cut_line (suc left)) (sym whole) ∙ cut_here left rest less
          ∙ ap (λ k. take k rest ∷ cut_line left (after_first is_space rest)) (sym p)
          ∙ ap (λ r. take len rest ∷ cut_line left r) after
          ∙ ap (λ k. take len rest ∷ cut_line k (drop (at + len + 1) line)) (sym next)
