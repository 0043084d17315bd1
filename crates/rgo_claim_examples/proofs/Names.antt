-- A function has no more region names than variables, and one for its result: a bound on names that the search can compute without the
-- list of names.
use Rattle.std.proofs.Common.{ℕ, suc, max, ◌+◌, ◌≤◌, Bool, true, false, List, [], ◌∷◌, ◌++◌, length, map, arith}
use Rattle.std.proofs.Common.{if◌then◌else◌, length-append}
use Rattle.std.specs.List.{list_any}
use Rattle.std.proofs.Math.Nat.{le-max_left, le-max_right, max-le}
use Rattle.std.proofs.lemmas.List.{length-map}
use Rattle.rgo_tac.specs.declared.regions.Class.{Class}
use Rattle.rgo_tac.specs.declared.regions.Class.TheVariants.{Global, Name, NoClass}
use Rattle.rgo_code.specs.Code.{CodeFn, Slot}
use Rattle.rgo_code.specs.Erasure.{erased_fn}
use Rattle.rgo_code.specs.Names.{distinct_names, is_class_named, result_class}
use Rattle.rgo_sound.specs.Safety.{most_names, name_count}
use Rattle.rgo_claim_examples.proofs.Fits.{most_variables}

no_more : (seen classes : List Class) → length (distinct_names seen classes) ≤ length classes
no_more seen [] = omega arith
no_more seen (Name k ∷ classes) =
    by (list_any (is_class_named k) seen) (no_more seen classes) (no_more (Name k ∷ seen) classes)
  where
    by : (b : Bool) → length (distinct_names seen classes) ≤ length classes
        → length (distinct_names (Name k ∷ seen) classes) ≤ length classes
        → length (if b then distinct_names seen classes else Name k ∷ distinct_names (Name k ∷ seen) classes)
        ≤ suc (length classes)
    by true p q = omega (arith, p)
    by false p q = omega (arith, q)
no_more seen (NoClass ∷ classes) = let p = no_more seen classes in omega (arith, p)
no_more seen (Global ∷ classes) = let p = no_more seen classes in omega (arith, p)

of_function : (f : CodeFn) → name_count f ≤ length (erased_fn f).variables + 1
of_function f =
    let p = no_more [] (map (λ (slot : Slot). slot.class) f.variables ++ result_class f ∷ []) in
    let q = length-append (map (λ (slot : Slot). slot.class) f.variables) (result_class f ∷ []) in
    let r = length-map f.variables (λ (slot : Slot). slot.class) in
    let t = length-map f.variables (λ (slot : Slot). slot.ty) in
    omega (arith, p, q, r, t)

larger : (a b c d : ℕ) → a ≤ c → b ≤ d → max a b ≤ max c d
larger a b c d p q = max-le (omega (arith, p, le-max_left c d)) (omega (arith, q, le-max_right c d))

pub names_bounded : (fs : List CodeFn) → most_names fs ≤ most_variables (map erased_fn fs)
names_bounded [] = omega arith
names_bounded (f ∷ fs) =
    larger (name_count f) (most_names fs) (length (erased_fn f).variables + 1) (most_variables (map erased_fn fs))
    (of_function f) (names_bounded fs)
