-- The fields of structs.
use Rattle.std.proofs.Common.{◌≡◌, ◌≤◌, ℕ, zero, suc, List, [], ◌∷◌, Some, ap, length, slice_get, arith}
use Rattle.std.proofs.lemmas.Option.{same_Some}
use Rattle.rgo_sound.specs.Typed.declared.programs.Struct.{Struct}
use Rattle.rgo_body.specs.Programs.{most_fields}

-- no struct has more
pub within_most : (ss : List Struct) (n : ℕ) (s : Struct) → slice_get ss n ≡ Some s → length s.fields ≤ most_fields ss
within_most [] n s e = cc
within_most (x ∷ ss) zero s e =
    let same = ap (λ (y : Struct). length y.fields) (same_Some x s e) in
    omega (arith, same)
within_most (x ∷ ss) (suc n) s e = let less = within_most ss n s e in omega (arith, less)
