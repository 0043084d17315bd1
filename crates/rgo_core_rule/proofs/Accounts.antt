-- An account of a history that is longer by one access. All conjuncts but `moments` follow from those of the shorter history at
-- once. For a moment k the question is whether it is before the new access or after it.
use Rattle.std.proofs.Common.{◌≡◌, ℕ, ◌<◌, ◌≤◌, ◌⊎◌, inl, inr, List, [], ◌∷◌, ◌++◌, Some, None, length, set, slice_index, take, ap, sym, subst, ◌∙◌, arith, length-append}
use mathlib.Core.Logic.{dite}
use mathlib.Core.Option.{some}
use native.Mathlib.Decide.{dec_le}
use lib.ListN.{get_elem?}
use Rattle.std.proofs.lemmas.List.{take-append-le, take_all}
use Rattle.rgo_core_rule.specs.Histories.{replay, accesses_by}
use Rattle.rgo_core_rule.specs.Lists.{flattened}
use Rattle.rgo_core_rule.specs.Rule.{Account}
use Rattle.rgo_core_rule.specs.declared.accesses.Access.{Access}
use Rattle.rgo_core_rule.proofs.Histories.{replay_append, sound_more}
use Rattle.rgo_core_rule.proofs.Lists.{flattened_more, snoc_at}

module _ {E R : Type 0} (accesses : R → ℕ) (Explains : List ℕ → List R → List E
    → Type 0) (opening : List ℕ) (words : List ℕ) (recs : List R) (history : List Access)
    (old : Account accesses Explains opening words recs history) (a : Access) (after : List R) (gain : List E) where
  abbrev pub now : List Access
  now = history ++ a ∷ []

  abbrev gains : List (List E)
  gains = old.gains ++ gain ∷ []

  pub account_more : a.found ≡ slice_index words a.word → Explains (set words a.word a.left) after (flattened old.gains ++ gain)
      → ((g : ℕ) (c : R) → get_elem? after g ≡ some c → accesses c ≡ accesses_by g now)
      → ((g : ℕ) → a.by ≡ Some g → g < length after) → length recs ≤ length after → (a.by ≡ None → a.left ≡ a.found)
      → Account accesses Explains opening (set words a.word a.left) after now
  account_more found explains counted maker more glance = record {
    gains = gains;
    paired = paired;
    explains = ends;
    moments = λ k h. dite (dec_le k (length history)) (λ le. earlier k le) (λ gt. last k (long k gt));
    replayed = replayed;
    sound = sound_more opening history a old.sound (found ∙ ap (λ (z : List ℕ). slice_index z a.word) old.replayed);
    counted = counted;
    makers = λ i b g at is. makers i b g (snoc_at history a b i at) is;
    glances = λ i b at none. glances i b (snoc_at history a b i at) none;
  }
    where
      paired : length gains ≡ length now
      paired = let p = old.paired in let x = length-append old.gains (gain ∷ []) in let y = length-append history (a ∷ []) in omega arith

      ends : Explains (set words a.word a.left) after (flattened gains)
      ends = subst (λ (run : List E). Explains (set words a.word a.left) after run) (sym (flattened_more old.gains gain)) explains

      replayed : set words a.word a.left ≡ replay opening now
      replayed = ap (λ (z : List ℕ). set z a.word a.left) old.replayed ∙ sym (replay_append opening history (a ∷ []))

      earlier : (k : ℕ) → k ≤ length history → (then : List R) × Explains (replay opening (take k now)) then (flattened (take k gains))
      earlier k le =
          let m = old.moments k le in
          let p = old.paired in
          (m.0, rw (take-append-le k history (a ∷ []) le, take-append-le k old.gains (gain ∷ []) (omega arith)) m.1)

      long : (k : ℕ) → ¬ (k ≤ length history) → length now ≤ k
      long k gt = let y = length-append history (a ∷ []) in omega arith

      last : (k : ℕ) → length now ≤ k → (then : List R) × Explains (replay opening (take k now)) then (flattened (take k gains))
      last k le = (after, rw (take_all k now le, take_all k gains (let p = paired in omega arith), ← replayed) ends)

      makers : (i : ℕ) (b : Access) (g : ℕ) → (get_elem? history i ≡ some b) ⊎ ((i ≡ length history) × (a ≡ b)) → b.by ≡ Some g → g < length after
      makers i b g (inl at) is = let h = old.makers i b g at is in omega arith
      makers i b g (inr t) is = maker g (ap (λ (x : Access). x.by) t.1 ∙ is)

      glances : (i : ℕ) (b : Access) → (get_elem? history i ≡ some b) ⊎ ((i ≡ length history) × (a ≡ b)) → b.by ≡ None → b.left ≡ b.found
      glances i b (inl at) none = old.glances i b at none
      glances i b (inr t) none = subst (λ (x : Access). x.left ≡ x.found) t.1 (glance (ap (λ (x : Access). x.by) t.1 ∙ none))
