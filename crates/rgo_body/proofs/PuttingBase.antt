-- The ends of protections are put in front of a queue, the last first, so that the first comes first. By induction over what is left.
use Rattle.std.proofs.Common.{◌≡◌, ◌≤◌, ◌<◌, ◌+◌, ◌-◌, ◌++◌, ℕ, List, ◌∷◌, Some, sym, ap, ◌∙◌, arith, drop, length, map, slice_get}
use Rattle.std.proofs.lemmas.List.{drop_all, drop_more}
use Rattle.std.proofs.lemmas.Option.{get_or_from_slice_get}
use Rattle.rgo_sound.specs.RegionMachine.States.{Duty, EndBase}
use Rattle.rgo_sound.specs.RegionMachine.declared.regions.Region.{Region}

-- those from the i-th on are put
abbrev pub Put : List Region → (i : ℕ) → (before now : List Duty) → (room left : ℕ) → Type 0
Put base i before now room left =
    (i ≤ length base) × (now ≡ map EndBase (drop i base) ++ before) × (left + length base ≡ room + i)

pub put_none : (base : List Region) (i : ℕ) (before : List Duty) (room : ℕ) → i ≡ length base → Put base i before before room room
put_none base i before room e =
    (omega (arith, e), sym (ap (λ l. map EndBase l ++ before) (drop_all i base (omega (arith, e)))), omega (arith, e))

pub put_one : (base : List Region) (i : ℕ) (r : Region) (before old new : List Duty) (room left now : ℕ) → 0 < i → i ≤ length base
    → old ≡ map EndBase (drop i base) ++ before → left + length base ≡ room + i → slice_get base (i - 1) ≡ Some r
    → new ≡ EndBase r ∷ old → now + 1 ≡ left → Put base (i - 1) before new room now
put_one base i r before old new room left now some low is sum found put took =
    let back : (i - 1) + 1 ≡ i = omega (arith, some) in (
      omega (arith, low),
      put ∙ ap (λ l. EndBase r ∷ l) is
          ∙ sym (ap (λ l. map EndBase l ++ before)
          (drop_more base (i - 1) r (omega (arith, some, low))
          ∙ ap (λ x. x ∷ drop ((i - 1) + 1) base) (get_or_from_slice_get base (i - 1) r r found)
          ∙ ap (λ k. r ∷ drop k base) back)),
      omega (arith, sum, took, some),
    )
