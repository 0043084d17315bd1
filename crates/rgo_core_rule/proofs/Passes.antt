-- Passes through lists of what others have seen. By induction over the goroutines, with the driver's list getting longer: in the
-- second pass it is at least as long as each, so it never changes.
use Rattle.std.proofs.Common.{◌≡◌, ℕ, zero, suc, ◌<◌, ◌≤◌, ltb, Bool, true, false, List, [], ◌∷◌, ◌++◌, length, if◌then◌else◌, refl, ap, sym, ◌∙◌, arith, length-append}
use mathlib.Core.Option.{some, some-injective, some-ne-none}
use lib.ListN.{get_elem?}
use Rattle.std.proofs.lemmas.Bool.Decides.{nat_tests}
use Rattle.std.proofs.lemmas.List.{append-nil}
use Rattle.rgo_core_rule.specs.Passes.{AllAre, after_pass, all_after_pass}
use Rattle.rgo_core_rule.specs.Views.{longer}
use Rattle.rgo_core_rule.specs.declared.accesses.Access.{Access}

abbrev pick : Bool → List Access → List Access → List Access
pick b xs ys = if b then ys else xs

-- the longer one is as long as both
at_least : (xs ys : List Access) → (length xs ≤ length (longer xs ys)) × (length ys ≤ length (longer xs ys))
at_least xs ys = go (ltb (length xs) (length ys)) refl
  where
    go : (b : Bool) → ltb (length xs) (length ys) ≡ b → (length xs ≤ length (pick b xs ys)) × (length ys ≤ length (pick b xs ys))
    go true e = (let z : length xs < length ys = grind (arith, nat_tests) in omega arith, omega arith)
    go false e = (omega arith, let z : length ys ≤ length xs = grind (arith, nat_tests) in z)

-- a list that is at least as long stays
pub keeps : (xs ys : List Access) → length ys ≤ length xs → longer xs ys ≡ xs
keeps xs ys h = go (ltb (length xs) (length ys)) (grind (arith, nat_tests))
  where
    go : (b : Bool) → b ≡ false → pick b xs ys ≡ xs
    go b e = ap (λ (z : Bool). pick z xs ys) e

pub longer_twice : (xs ys : List Access) → longer xs (longer xs ys) ≡ longer xs ys
longer_twice xs ys = go (ltb (length xs) (length ys)) refl
  where
    go : (b : Bool) → ltb (length xs) (length ys) ≡ b → longer xs (pick b xs ys) ≡ pick b xs ys
    go true e = ap (λ (z : Bool). pick z xs ys) e
    go false e = keeps xs xs (omega arith)

grows : (xs : List Access) (yss : List (List Access)) → length xs ≤ length (after_pass xs yss)
grows xs [] = omega arith
grows xs (ys ∷ yss) = let a = (at_least xs ys).0 in let b = grows (longer xs ys) yss in omega arith

-- a second pass, with a list that is at least as long as that at the end of the first one
second : (top xs : List Access) (yss : List (List Access)) → length (after_pass xs yss) ≤ length top → (after_pass top (all_after_pass xs yss) ≡ top)
    × AllAre top (all_after_pass top (all_after_pass xs yss))
second top xs [] h = (refl, tt)
second top xs (ys ∷ yss) h =
    let a = grows (longer xs ys) yss in
    let e = keeps top (longer xs ys) (omega arith) in
    let r = second top (longer xs ys) yss h in
    (ap (λ (z : List Access). after_pass z (all_after_pass (longer xs ys) yss)) e ∙ r.0, (e, rw e r.1))

pub two_passes : (xs : List Access) (yss : List (List Access)) → (after_pass (after_pass xs yss) (all_after_pass xs yss) ≡ after_pass xs yss)
    × AllAre (after_pass xs yss) (all_after_pass (after_pass xs yss) (all_after_pass xs yss))
two_passes xs yss = second (after_pass xs yss) xs yss (omega arith)

-- a list that continues another one stays when they meet
pub longer_front : (xs es : List Access) → longer xs (xs ++ es) ≡ xs ++ es
longer_front xs [] = keeps xs (xs ++ []) (let z = ap length (append-nil xs) in omega arith) ∙ sym (append-nil xs)
longer_front xs (e ∷ es) = go (ltb (length xs) (length (xs ++ e ∷ es))) more
  where
    more : ltb (length xs) (length (xs ++ e ∷ es)) ≡ true
    more = let l = length-append xs (e ∷ es) in grind (arith, nat_tests)

    go : (b : Bool) → b ≡ true → pick b xs (xs ++ e ∷ es) ≡ xs ++ e ∷ es
    go b q = ap (λ (z : Bool). pick z xs (xs ++ e ∷ es)) q

pub nobody_ahead : (xs : List Access) (yss : List (List Access)) (i : ℕ) (ys : List Access) → get_elem? yss i ≡ some ys
    → length ys ≤ length (after_pass xs yss)
nobody_ahead xs [] i ys e = absurd (some-ne-none ys (sym e))
nobody_ahead xs (y ∷ yss) zero ys e = let a = (at_least xs y).1 in let b = grows (longer xs y) yss in let s : length y ≡ length ys = ap length
    (some-injective y ys e) in omega arith
nobody_ahead xs (y ∷ yss) (suc i) ys e = nobody_ahead (longer xs y) yss i ys e
