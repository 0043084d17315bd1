-- A text has at most one journal at its beginning, or one first line without form, never both.
use Rattle.std.proofs.Common.{◌≡◌, ℕ, inl, inr, List, [], ◌∷◌, ◌++◌, length, drop, None, Some, refl, sym, ap, ◌∙◌, arith, append_assoc, length-append, length-drop}
use Rattle.std.specs.Prelude.{All}
use Rattle.std.proofs.lemmas.List.{take_at, take-append-drop}
use Rattle.std.proofs.lemmas.List.Elements.{All-head, All-tail}
use Rattle.rgo_code_words.proofs.Options.{some_same, not_none}
use Rattle.rgo_journal.specs.declared.picks.TacPick.{TacPick}
use Rattle.rgo_journal.specs.Forms.{IsFirstBadJournalLine, StartWith}
use Rattle.rgo_journal.specs.Laws.{ReadBack}
use Rattle.rgo_journal.specs.Reading.{read_pick}
use Rattle.rgo_journal.specs.Text.{PickFits, IsJournal, first_line, journal, last_line, pick_line, pick_lines}
use Rattle.rgo_journal.proofs.Lines.{pick_back}
use Rattle.rgo_journal.proofs.Walking.{cut_of}

-- ---- lines of picks, and what follows them

first_pick : (p : TacPick) (picks : List TacPick) (t : List ℕ) → All PickFits (p ∷ picks)
    → read_pick (pick_lines (p ∷ picks) ++ t) ≡ Some (p, pick_lines picks ++ t)
first_pick p picks t f =
    ap read_pick (append_assoc (pick_line p) (pick_lines picks) t)
    ∙ pick_back p (pick_lines picks ++ t) (All-head PickFits p picks f)

no_pick_last : (t : List ℕ) → read_pick (last_line ++ t) ≡ None
no_pick_last t = refl

record SameFirst (p q : TacPick) (a b : List ℕ) : Type 0 where
  pick : p ≡ q
  rest : a ≡ b

same_first : (p q : TacPick) (a b : List TacPick) (t u : List ℕ) → All PickFits (p ∷ a) → All PickFits (q ∷ b)
    → pick_lines (p ∷ a) ++ t ≡ pick_lines (q ∷ b) ++ u → SameFirst p q (pick_lines a ++ t) (pick_lines b ++ u)
same_first p q a b t u f g e =
    let both = some_same (p, pick_lines a ++ t) (q, pick_lines b ++ u)
    (sym (first_pick p a t f) ∙ ap read_pick e ∙ first_pick q b u g) in
    record { pick = ap (λ x. x.0) both; rest = ap (λ x. x.1) both }

not_last : (q : TacPick) (b : List TacPick) (t u : List ℕ) → All PickFits (q ∷ b) → last_line ++ t ≡ pick_lines (q ∷ b) ++ u → ⊥
not_last q b t u g e =
    not_none (q, pick_lines b ++ u) (sym (no_pick_last t) ∙ ap read_pick e ∙ first_pick q b u g)

-- ---- one journal

record SameLines (a b : List TacPick) (t u : List ℕ) : Type 0 where
  picks : a ≡ b
  rest : t ≡ u

same_lines : (a b : List TacPick) (t u : List ℕ) → All PickFits a → All PickFits b
    → pick_lines a ++ (last_line ++ t) ≡ pick_lines b ++ (last_line ++ u) → SameLines a b t u
same_lines [] [] t u f g e = record { picks = refl; rest = ap (drop 5) e }
same_lines [] (q ∷ b) t u f g e = absurd (not_last q b t (last_line ++ u) g e)
same_lines (p ∷ a) [] t u f g e = absurd (not_last p a u (last_line ++ t) f (sym e))
same_lines (p ∷ a) (q ∷ b) t u f g e =
    let first = same_first p q a b (last_line ++ t) (last_line ++ u) f g e in
    let others = same_lines a b t u (All-tail PickFits p a f) (All-tail PickFits q b g) first.rest in
    record { picks = ap (λ x. x ∷ a) first.pick ∙ ap (λ x. q ∷ x) others.picks; rest = others.rest }

cut_is : (bytes : List ℕ) (a : List TacPick) (n : ℕ) → IsJournal bytes a n
    → bytes ≡ first_line ++ (pick_lines a ++ (last_line ++ drop n bytes))
cut_is bytes a n j =
    cut_of bytes a (drop n bytes) (sym (take-append-drop n bytes) ∙ ap (λ t. t ++ drop n bytes) j.text_is)

one_journal : (bytes : List ℕ) (a b : List TacPick) (m n : ℕ) → IsJournal bytes a m → IsJournal bytes b n → (a ≡ b) × (m ≡ n)
one_journal bytes a b m n j k =
    let same = same_lines a b (drop m bytes) (drop n bytes) j.fit k.fit
    (ap (drop 12) (sym (cut_is bytes a m j) ∙ cut_is bytes b n k)) in (
      same.picks,
      omega (arith, ap length same.rest, length-drop m bytes, length-drop n bytes, j.within, k.within),
    )

-- ---- lines without form

stopped : (a b : List TacPick) (t tail : List ℕ) → All PickFits a → All PickFits b
    → pick_lines a ++ (last_line ++ t) ≡ pick_lines b ++ tail
    → ((p : TacPick) → PickFits p → StartWith tail (pick_line p) → ⊥) → (StartWith tail last_line → ⊥) → ⊥
stopped [] [] t tail f g e no_pick no_last = no_last (t, sym e)
stopped [] (q ∷ b) t tail f g e no_pick no_last = not_last q b t tail g e
stopped (p ∷ a) [] t tail f g e no_pick no_last =
    no_pick p (All-head PickFits p a f)
    (pick_lines a ++ (last_line ++ t), sym e ∙ append_assoc (pick_line p) (pick_lines a) (last_line ++ t))
stopped (p ∷ a) (q ∷ b) t tail f g e no_pick no_last =
    stopped a b t tail (All-tail PickFits p a f) (All-tail PickFits q b g)
    (same_first p q a b (last_line ++ t) tail f g e).rest no_pick no_last

not_both : (bytes : List ℕ) (a : List TacPick) (n line : ℕ) → IsJournal bytes a n → IsFirstBadJournalLine bytes line → ⊥
not_both bytes a n line j (inl none) = none.1 (pick_lines a ++ (last_line ++ drop n bytes), cut_is bytes a n j)
not_both bytes a n line j (inr s) =
    stopped a s.before (drop n bytes) s.tail j.fit s.fit (ap (drop 12) (sym (cut_is bytes a n j) ∙ s.cut)) s.no_pick s.no_last

same_stop : (a b : List TacPick) (t u : List ℕ) → All PickFits a → All PickFits b → pick_lines a ++ t ≡ pick_lines b ++ u
    → ((p : TacPick) → PickFits p → StartWith t (pick_line p) → ⊥) → ((p : TacPick) → PickFits p → StartWith u (pick_line p) → ⊥)
    → length a ≡ length b
same_stop [] [] t u f g e m n = refl
same_stop [] (q ∷ b) t u f g e m n =
    absurd (m q (All-head PickFits q b g) (pick_lines b ++ u, e ∙ append_assoc (pick_line q) (pick_lines b) u))
same_stop (p ∷ a) [] t u f g e m n =
    absurd (n p (All-head PickFits p a f) (pick_lines a ++ t, sym e ∙ append_assoc (pick_line p) (pick_lines a) t))
same_stop (p ∷ a) (q ∷ b) t u f g e m n =
    let others = same_stop a b t u (All-tail PickFits p a f) (All-tail PickFits q b g) (same_first p q a b t u f g e).rest m n in
    omega (arith, others)

one_refusal : (bytes : List ℕ) (m n : ℕ) → IsFirstBadJournalLine bytes m → IsFirstBadJournalLine bytes n → m ≡ n
one_refusal bytes m n (inl k) (inl l) = k.0 ∙ sym l.0
one_refusal bytes m n (inl k) (inr s) = absurd (k.1 (pick_lines s.before ++ s.tail, s.cut))
one_refusal bytes m n (inr s) (inl l) = absurd (l.1 (pick_lines s.before ++ s.tail, s.cut))
one_refusal bytes m n (inr s) (inr t) =
    let same = same_stop s.before t.before s.tail t.tail s.fit t.fit (ap (drop 12) (sym s.cut ∙ t.cut)) s.no_pick t.no_pick in
    omega (arith, same, s.number, t.number)

read_is : (picks : List TacPick) (text : List ℕ) → All PickFits picks
    → IsJournal (journal picks ++ text) picks (length (journal picks))
read_is picks text f = record {
  fit = f;
  within = omega (arith, length-append (journal picks) text);
  text_is = take_at (journal picks) text (length (journal picks)) refl;
}

pub read_back : ReadBack
read_back = record { is = read_is; one = one_journal; not_both = not_both; one_refusal = one_refusal }
