-- Types: how they are made of one another, which are identical, and tests of them.
use Rattle.std.specs.Prelude.{Bool, true, false, ◌&&◌, ◌==◌, List, [], ◌∷◌, drop}
use Rattle.rgo_ast.specs.Tree as tree
use Rattle.rgo_typed.specs.declared.types.Type.{«Type»}
use Rattle.rgo_typed.specs.declared.types.Base.{Base}
use Rattle.rgo_typed.specs.declared.types.Base.TheVariants.{Int, Bool as Boolean, Pointer}
use Rattle.rgo_typed.specs.declared.types.Layer.{Layer}
use Rattle.rgo_typed.specs.declared.types.Layer.TheVariants.{Slice, Chan}
pub use Rattle.rgo_typed.specs.Types.{is_pointer_like, is_pointer_base}

-- a type without layers: `int`, `bool` or a pointer to a struct
abbrev pub plain : Base → «Type»
plain b = record { layers = []; base = b }

-- `[]t`; the outermost layer comes first in the list
abbrev pub slice_of : «Type» → «Type»
slice_of t = record { layers = Slice ∷ t.layers; base = t.base }

-- `chan t`
abbrev pub chan_of : «Type» → «Type»
chan_of t = record { layers = Chan ∷ t.layers; base = t.base }

-- of a slice or a channel
abbrev pub element_type_of : «Type» → «Type»
element_type_of t = record { layers = drop 1 t.layers; base = t.base }

-- the layers of a type as it is written
abbrev pub layers_of : tree.TypeExpr → List Layer
layers_of (tree.Named name) = []
layers_of (tree.Pointer name at) = []
layers_of (tree.Slice ty at) = Slice ∷ layers_of ty
layers_of (tree.Chan ty at) = Chan ∷ layers_of ty

-- a type as it is written, around what its name means
abbrev pub spelled : tree.TypeExpr → Base → «Type»
spelled ty b = record { layers = layers_of ty; base = b }

-- the layer is `[]`, not `chan`
abbrev pub is_slice_layer : Layer → Bool
is_slice_layer Slice = true
is_slice_layer Chan = false

-- equality of layers, as a test
abbrev pub same_layer : Layer → Layer → Bool
same_layer Slice m = is_slice_layer m
same_layer Chan Slice = false
same_layer Chan Chan = true

-- the same of lists of layers, whose lengths have to be equal too
abbrev pub same_layers : List Layer → List Layer → Bool
same_layers [] [] = true
same_layers [] (m ∷ ms) = false
same_layers (l ∷ ls) [] = false
same_layers (l ∷ ls) (m ∷ ms) = same_layer l m && same_layers ls ms

-- equality of bases; pointers are compared by the numbers of their structs, so two structs with the same fields are two types
abbrev pub same_base : Base → Base → Bool
same_base Int Int = true
same_base Boolean Boolean = true
same_base (Pointer m) (Pointer n) = m == n
same_base _ _ = false

-- two types are identical: they are spelled alike, and their names mean the same
abbrev pub same : «Type» → «Type» → Bool
same t u = same_base t.base u.base && same_layers t.layers u.layers

-- the base is `int`, under whatever layers
abbrev pub is_int_base : Base → Bool
is_int_base Int = true
is_int_base _ = false

-- the base is `bool`
abbrev pub is_bool_base : Base → Bool
is_bool_base Boolean = true
is_bool_base _ = false

-- no slice or channel is around the base
abbrev pub is_bare : List Layer → Bool
is_bare [] = true
is_bare (layer ∷ layers) = false

-- the type `int` itself, not a slice or channel of ints
abbrev pub is_int : «Type» → Bool
is_int t = is_bare t.layers && is_int_base t.base

-- the type `bool` itself
abbrev pub is_bool : «Type» → Bool
is_bool t = is_bare t.layers && is_bool_base t.base

-- the outermost of these layers is a slice
abbrev pub is_slice_in : List Layer → Bool
is_slice_in (Slice ∷ layers) = true
is_slice_in _ = false

-- the outermost is a channel
abbrev pub is_chan_in : List Layer → Bool
is_chan_in (Chan ∷ layers) = true
is_chan_in _ = false

-- a slice, whatever its elements are
abbrev pub is_slice : «Type» → Bool
is_slice t = is_slice_in t.layers

-- a channel, whatever its elements are
abbrev pub is_chan : «Type» → Bool
is_chan t = is_chan_in t.layers
