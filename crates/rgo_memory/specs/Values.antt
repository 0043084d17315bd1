-- The values at which variables, fields and elements start, by their types: every value has a zero, so nothing is ever undefined.
use Rattle.std.specs.Prelude.{pos, false, List, [], ◌∷◌}
use Rattle.rgo_typed.specs.declared.types.Type.{«Type»}
use Rattle.rgo_typed.specs.declared.types.Layer.{Layer}
use Rattle.rgo_typed.specs.declared.types.Base.{Base}
use Rattle.rgo_typed.specs.declared.types.Base.TheVariants as base
use Rattle.rgo_memory.specs.declared.values.Value.{Value}
use Rattle.rgo_memory.specs.declared.values.Value.TheVariants.{Int, Bool, Nil}

-- 0, false or nil: the zero of a type without layers
abbrev pub base_zero : Base → Value
base_zero base.Int = Int (pos 0)
base_zero base.Bool = Bool false
base_zero (base.Pointer struct) = Nil

-- inside these layers
abbrev pub zero_in : List Layer → Base → Value
zero_in [] b = base_zero b
zero_in (layer ∷ layers) b = Nil

-- the zero of a type; nil for every slice and channel
abbrev pub zero_of : «Type» → Value
zero_of ty = zero_in ty.layers ty.base

-- of what is inside the first of these layers; nil for a type without layers, which has no elements
abbrev pub element_zero_in : List Layer → Base → Value
element_zero_in [] b = Nil
element_zero_in (layer ∷ layers) b = zero_in layers b

-- of what a slice or a channel of the type holds
abbrev pub element_zero : «Type» → Value
element_zero ty = element_zero_in ty.layers ty.base
