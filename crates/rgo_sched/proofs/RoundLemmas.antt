-- Rounds, built up turn by turn: one worker's tasks stay in their list, and those of several workers come back into it. Both are an
-- induction over the tasks, with the others as before.
use Rattle.std.proofs.Common.{◌≡◌, ℕ, zero, suc, ◌+◌, ◌<◌, ◌≤◌, Bool, false, ◌||◌, Some, List, [], ◌∷◌, ◌++◌, length, take, set, get_or, refl, sym, subst, ◌∙◌, ap, ap₂, arith}
use Rattle.std.proofs.Math.Bool.{or-false}
use Rattle.std.proofs.lemmas.List.Folds.{list_any-append}
use Rattle.std.proofs.lemmas.List.{take_more}
use Rattle.std.proofs.lemmas.Option.{slice_get_within, get_or_from_slice_get}
use Rattle.std.specs.List.{list_any, slice_get}
use Rattle.rgo_sched.specs.Rounds.{EachTurned, RoundOf}

module _ {A : Type 0} (goes : A → A → Bool → Type 0) where
  -- the first i tasks have had their turn, and the others are as before
  abbrev pub TurnedBelow : ℕ → List A → List A → List Bool → Type 0
  TurnedBelow zero xs ys [] = xs ≡ ys
  TurnedBelow (suc i) (x ∷ xs) (y ∷ ys) (b ∷ bs) = goes x y b × TurnedBelow i xs ys bs
  TurnedBelow _ _ _ _ = ⊥

  -- one more turn
  turned_next : (i : ℕ) (xs ys : List A) (bs : List Bool) (d y : A) (b : Bool) → i < length ys → goes (get_or ys i d) y b
      → TurnedBelow i xs ys bs → TurnedBelow (suc i) xs (set ys i y) (bs ++ b ∷ [])
  turned_next i xs [] bs d y b below went turned = absurd (omega arith)
  turned_next zero xs (z ∷ ys) [] d y b below went turned =
      subst (λ zs. TurnedBelow (suc zero) zs (y ∷ ys) (b ∷ [])) (sym turned) (went, refl)
  turned_next zero xs (z ∷ ys) (c ∷ bs) d y b below went turned = absurd turned
  turned_next (suc i) [] (z ∷ ys) bs d y b below went turned = absurd turned
  turned_next (suc i) (x ∷ xs) (z ∷ ys) [] d y b below went turned = absurd turned
  turned_next (suc i) (x ∷ xs) (z ∷ ys) (c ∷ bs) d y b below went turned =
      (turned.0, turned_next i xs ys bs d y b (omega arith) went turned.1)

  -- all turns
  turned_all : (i : ℕ) (xs ys : List A) (bs : List Bool) → length xs ≤ i → TurnedBelow i xs ys bs
      → EachTurned goes xs ys bs
  turned_all zero [] [] [] end turned = tt
  turned_all zero [] [] (b ∷ bs) end turned = absurd turned
  turned_all zero [] (y ∷ ys) [] end turned = let short : 0 ≡ suc (length ys) = ap length turned in absurd (omega arith)
  turned_all zero [] (y ∷ ys) (b ∷ bs) end turned = absurd turned
  turned_all zero (x ∷ xs) ys bs end turned = absurd (omega arith)
  turned_all (suc i) [] ys bs end turned = absurd turned
  turned_all (suc i) (x ∷ xs) [] bs end turned = absurd turned
  turned_all (suc i) (x ∷ xs) (y ∷ ys) [] end turned = absurd turned
  turned_all (suc i) (x ∷ xs) (y ∷ ys) (b ∷ bs) end turned =
      (turned.0, turned_all i xs ys bs (omega arith) turned.1)

  -- a round of which the first i tasks have had their turn
  pub record RoundBelow (i : ℕ) (before after : List A) (went : Bool) : Type 0 where
    pub answers : List Bool
    pub turned : TurnedBelow i before after answers
    pub any : went ≡ list_any (λ b. b) answers

  pub round_starts : (xs : List A) → RoundBelow zero xs xs false
  round_starts xs = record { answers = []; turned = refl; any = refl }

  pub round_goes_on : (i : ℕ) (xs ys : List A) (went : Bool) (d y : A) (b : Bool) → i < length ys → goes (get_or ys i d) y b
      → RoundBelow i xs ys went → RoundBelow (i + 1) xs (set ys i y) (went || b)
  round_goes_on i xs ys went d y b below turn so_far = let next : suc i ≡ i + 1 = omega arith in record {
    answers = so_far.answers ++ b ∷ [];
    turned = subst (λ k. TurnedBelow k xs (set ys i y) (so_far.answers ++ b ∷ [])) next
        (turned_next i xs ys so_far.answers d y b below turn so_far.turned);
    any = ap₂ ◌||◌ so_far.any (sym (or-false b)) ∙ sym (list_any-append (λ c. c) so_far.answers (b ∷ []));
  }

  pub round_ends : (i : ℕ) (xs ys : List A) (went : Bool) → length xs ≤ i → RoundBelow i xs ys went
      → RoundOf goes xs ys went
  round_ends i xs ys went end all = record {
    answers = all.answers;
    turned = turned_all i xs ys all.answers end all.turned;
    any = all.any;
  }

  -- the turns of one list and of the next
  turned_both : (xs ys : List A) (bs : List Bool) (us vs : List A) (cs : List Bool) → EachTurned goes xs ys bs
      → EachTurned goes us vs cs → EachTurned goes (xs ++ us) (ys ++ vs) (bs ++ cs)
  turned_both [] [] [] us vs cs front back = back
  turned_both [] [] (b ∷ bs) us vs cs front back = absurd front
  turned_both [] (y ∷ ys) bs us vs cs front back = absurd front
  turned_both (x ∷ xs) [] bs us vs cs front back = absurd front
  turned_both (x ∷ xs) (y ∷ ys) [] us vs cs front back = absurd front
  turned_both (x ∷ xs) (y ∷ ys) (b ∷ bs) us vs cs front back = (front.0, turned_both xs ys bs us vs cs front.1 back)

  take_next : (l : List A) (i : ℕ) (a : A) → slice_get l i ≡ Some a → take (i + 1) l ≡ take i l ++ a ∷ []
  take_next l i a at =
      take_more l i a (slice_get_within l i a at) ∙ ap (λ z. take i l ++ z ∷ []) (get_or_from_slice_get l i a a at)

  -- the task of position k comes back after those of the positions below
  pub round_more : (all : List A) (k n : ℕ) (ys zs : List A) (went : Bool) (x y : A) (b : Bool) → n ≡ k + 1
      → slice_get all k ≡ Some x → zs ≡ ys ++ y ∷ [] → goes x y b → RoundOf goes (take k all) ys went
      → RoundOf goes (take n all) zs (went || b)
  round_more all k n ys zs went x y b next at push turn so_far =
      let one = turned_both (take k all) ys so_far.answers (x ∷ []) (y ∷ []) (b ∷ []) so_far.turned (turn, tt) in
      let pushed = subst (λ (l : List A). EachTurned goes (take k all ++ x ∷ []) l (so_far.answers ++ b ∷ [])) (sym push) one in
      record {
        answers = so_far.answers ++ b ∷ [];
        turned = subst (λ (l : List A). EachTurned goes l zs (so_far.answers ++ b ∷ []))
            (sym (ap (λ j. take j all) next ∙ take_next all k x at)) pushed;
        any = ap₂ ◌||◌ so_far.any (sym (or-false b)) ∙ sym (list_any-append (λ c. c) so_far.answers (b ∷ []));
      }
