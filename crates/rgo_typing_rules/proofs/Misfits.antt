-- Wanted types without values.
use Rattle.std.proofs.Common.{◌≡◌, false, Option, List, [], ◌∷◌, refl}
use Rattle.rgo_typed.specs.declared.types.Type.{«Type»}
use Rattle.rgo_typing_rules.specs.Shapes.{has_misfit, has_known_misfit}

pub no_values : (ts : List «Type») → has_misfit ts [] ≡ false
no_values [] = refl
no_values (t ∷ ts) = refl

pub no_known_values : (ts : List (Option «Type»)) → has_known_misfit ts [] ≡ false
no_known_values [] = refl
no_known_values (t ∷ ts) = refl
