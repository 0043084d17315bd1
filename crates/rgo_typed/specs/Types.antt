-- Which types may be nil: those whose values point to objects, and so need a region.
use Rattle.std.specs.Prelude.{Bool, true, false, List, [], ◌∷◌}
use Rattle.rgo_typed.specs.declared.types.Type.{«Type»}
use Rattle.rgo_typed.specs.declared.types.Base.{Base}
use Rattle.rgo_typed.specs.declared.types.Base.TheVariants as base
use Rattle.rgo_typed.specs.declared.types.Layer.{Layer}

-- a pointer to a struct
abbrev pub is_pointer_base : Base → Bool
is_pointer_base (base.Pointer struct) = true
is_pointer_base _ = false

-- inside these layers
abbrev pub is_pointer_like_in : List Layer → Base → Bool
is_pointer_like_in [] b = is_pointer_base b
is_pointer_like_in (layer ∷ layers) b = true

-- a pointer, a slice or a channel
abbrev pub is_pointer_like : «Type» → Bool
is_pointer_like ty = is_pointer_like_in ty.layers ty.base
