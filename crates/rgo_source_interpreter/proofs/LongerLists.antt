-- Local variables: a list that is longer where it has to be.
use Rattle.std.proofs.Common.{◌≡◌, ◌<◌, ℕ, zero, suc, List, [], ◌∷◌, ◌++◌, length, refl, ap, arith}
use Rattle.std.specs.Prelude.{slice_set}
use Rattle.rgo_memory.specs.declared.values.Value.{Value}
use Rattle.rgo_memory.specs.declared.values.Value.TheVariants.{Nil}
use Rattle.rgo_meaning.specs.Frames.{with_local_value}

-- in range it is written
pub written : (l : List Value) (n : ℕ) (v : Value) → n < length l → with_local_value l n v ≡ slice_set l n v
written [] n v h = absurd (omega arith)
written (u ∷ l) zero v h = refl
written (u ∷ l) (suc n) v h = ap (λ m. u ∷ m) (written l n v (omega (arith, h)))

-- behind the end is filled up
pub filled_up : (l : List Value) (n : ℕ) (v : Value) → length l < n → with_local_value (l ++ Nil ∷ []) n v ≡ with_local_value l n v
filled_up [] zero v h = absurd (omega arith)
filled_up [] (suc n) v h = refl
filled_up (u ∷ l) zero v h = absurd (omega arith)
filled_up (u ∷ l) (suc n) v h = ap (λ m. u ∷ m) (filled_up l n v (omega (arith, h)))

-- at the end it stands last
pub put_last : (l : List Value) (n : ℕ) (v : Value) → length l ≡ n → with_local_value l n v ≡ l ++ v ∷ []
put_last [] zero v h = refl
put_last [] (suc n) v h = absurd (omega arith)
put_last (u ∷ l) zero v h = absurd (omega arith)
put_last (u ∷ l) (suc n) v h = ap (λ m. u ∷ m) (put_last l n v (omega (arith, h)))
