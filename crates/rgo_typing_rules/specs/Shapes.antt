-- Shapes: what the typing says of an expression. Its type in most cases; `nil`, a string, a call without
-- result and a constant have more or less than a type.
use Rattle.std.specs.Prelude.{Bool, true, false, not, ◌&&◌, ◌||◌, ℤ, List, [], ◌∷◌, Option, Some, None}
use Rattle.rgo_typed.specs.declared.types.Type.{«Type»}
use Rattle.rgo_typing_rules.specs.Types.{same, is_int, is_bool, is_slice, is_chan, is_pointer_like}

-- the type of an expression, or why it has none; a constant has its value in place of its type, since constant operations are computed
-- and have to keep their range
pub data Shape : Type 0 where
  -- without a type: a name that is not a value, or an expression of which a part breaks a rule, so that no rule asks for its shape
  Untyped : Shape
  Nil : Shape
  Text : Shape
  -- a call of a function without result
  NoResult : Shape
  -- of type int
  Constant : ℤ → Shape
  Value : «Type» → Shape

-- an operand of type int; each constant is one
abbrev pub is_int_shape : Shape → Bool
is_int_shape (Constant n) = true
is_int_shape (Value t) = is_int t
is_int_shape _ = false

-- an operand of type bool; no bool is a constant, as `true` and `false` are values
abbrev pub is_bool_shape : Shape → Bool
is_bool_shape (Value t) = is_bool t
is_bool_shape _ = false

-- a value of a slice type; `nil` is not one, since it has no type
abbrev pub is_slice_shape : Shape → Bool
is_slice_shape (Value t) = is_slice t
is_slice_shape _ = false

-- a value of a channel type
abbrev pub is_chan_shape : Shape → Bool
is_chan_shape (Value t) = is_chan t
is_chan_shape _ = false

-- the word `nil`; a variable that is nil has a type and so is a value
abbrev pub is_nil_shape : Shape → Bool
is_nil_shape Nil = true
is_nil_shape _ = false

-- a value of a type that has `nil`: a pointer, a slice or a channel
abbrev pub is_pointer_shape : Shape → Bool
is_pointer_shape (Value t) = is_pointer_like t
is_pointer_shape _ = false

-- a value of this shape may be assigned to a variable of this type
abbrev pub fits : «Type» → Shape → Bool
fits t Nil = is_pointer_like t
fits t (Constant n) = is_int t
fits t (Value u) = same t u
fits t _ = false

-- `==` and `!=` are defined for these two
abbrev pub are_comparable : Shape → Shape → Bool
are_comparable (Constant m) b = is_int_shape b
are_comparable Nil b = is_pointer_shape b
are_comparable (Value t) (Value u) = same t u && not (is_slice t)
are_comparable (Value t) (Constant n) = is_int t
are_comparable (Value t) Nil = is_pointer_like t
are_comparable _ _ = false

-- a value does not fit the wanted type at its place; pairs past the end of the shorter list do not count
abbrev pub has_misfit : List «Type» → List Shape → Bool
has_misfit [] shapes = false
has_misfit (t ∷ ts) [] = false
has_misfit (t ∷ ts) (s ∷ shapes) = not (fits t s) || has_misfit ts shapes

-- one value does not fit its wanted type; where that is not known, another rule reports the place
abbrev pub misfits : Option «Type» → Shape → Bool
misfits None s = false
misfits (Some t) s = not (fits t s)

-- the same, where not each wanted type is known
abbrev pub has_known_misfit : List (Option «Type») → List Shape → Bool
has_known_misfit [] shapes = false
has_known_misfit (t ∷ ts) [] = false
has_known_misfit (t ∷ ts) (s ∷ shapes) = misfits t s || has_known_misfit ts shapes

-- one of these operands is the word `nil`
abbrev pub has_nil : List Shape → Bool
has_nil [] = false
has_nil (s ∷ shapes) = is_nil_shape s || has_nil shapes

-- a pointer, a slice or a channel
abbrev pub has_pointer : List Shape → Bool
has_pointer [] = false
has_pointer (s ∷ shapes) = is_pointer_shape s || has_pointer shapes
