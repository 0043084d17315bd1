-- Elements of slices, read and written, and lengths. A slice that is nil has none, so that every index of it is out of range: it does not
-- trap as a nil pointer does.
use Rattle.std.specs.Prelude.{List, length, ℤ, pos, negsuc, Option, Some, None, Result, Ok, Err}
use Rattle.std.specs.Prelude.{nat_lt, slice_get, slice_set, if◌then◌else◌}
use Rattle.rgo_memory.specs.declared.values.Value.{Value}
use Rattle.rgo_memory.specs.declared.values.Value.TheVariants as value
use Rattle.rgo_memory.specs.declared.traps.Trap.{Trap}
use Rattle.rgo_memory.specs.declared.traps.Trap.TheVariants.{IndexRange}
use Rattle.rgo_memory.specs.Memory.{Object, SliceObject, Memory}
use Rattle.rgo_memory.specs.Effects.{Outcome, Does, Traps, Effect, nothing, at_object}

-- the result of a lookup in a slice; no value means that the index is beyond its end, and traps
abbrev pub or_out_of_range : Option Value → Result Value Trap
or_out_of_range (Some v) = Ok v
or_out_of_range None = Err IndexRange

-- the element at an index; a negative index traps, and so does one that is not below the length
abbrev pub element : List Value → ℤ → Result Value Trap
element cells (pos i) = or_out_of_range (slice_get cells i)
element cells (negsuc n) = Err IndexRange

-- the same for an object that was looked up; nil unless it is a slice, which never happens in a typed program
abbrev pub element_in : Option Object → ℤ → Result Value Trap
element_in (Some (SliceObject cells)) i = element cells i
element_in _ i = Ok value.Nil

-- the read `s[i]`, by the values of s and i; if s is nil, every i traps
abbrev pub element_at : Memory → Value → Value → Result Value Trap
element_at m value.Nil (value.Int i) = Err IndexRange
element_at m (value.Object n) (value.Int i) = element_in (slice_get m.heap n) i
element_at m _ _ = Ok value.Nil

-- the number of elements of a slice, as an int; nil for anything else
abbrev pub length_in : Option Object → Value
length_in (Some (SliceObject cells)) = value.Int (pos (length cells))
length_in _ = value.Nil

-- `len(s)`: 0 if s is nil
abbrev pub length_of : Memory → Value → Value
length_of m value.Nil = value.Int (pos 0)
length_of m (value.Object n) = length_in (slice_get m.heap n)
length_of m _ = value.Nil

-- the slice with v at an index; it traps at the same indices as `element`
abbrev pub cell_put : List Value → ℤ → Value → Outcome Object
cell_put cells (pos i) v =
    if nat_lt i (length cells) then Does (SliceObject (slice_set cells i v)) value.Nil else Traps IndexRange
cell_put cells (negsuc n) v = Traps IndexRange

-- the same for any object: a struct or a channel stays as it is
abbrev pub put_in : ℤ → Value → Object → Outcome Object
put_in i v (SliceObject cells) = cell_put cells i v
put_in i v object = nothing object

-- the write `s[i] = v`; if s is nil, every i traps
abbrev pub put : Memory → Value → Value → Value → Effect
put m value.Nil (value.Int i) v = Traps IndexRange
put m (value.Object n) (value.Int i) v = at_object m n (put_in i v)
put m _ _ v = nothing m
