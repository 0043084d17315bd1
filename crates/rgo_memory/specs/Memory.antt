-- Objects and the memory that holds them, as plain data.
use Rattle.std.specs.Prelude.{ℕ, Bool, List, [], slice_index_or, slice_set}
use Rattle.rgo_memory.specs.declared.values.Value.{Value}

-- the cells of a struct or of a slice; or a channel, with what was sent and not yet received, the oldest first
pub data Object : Type 0 where
  StructObject : (cells : List Value) → Object
  SliceObject : (cells : List Value) → Object
  Channel : (capacity : ℕ) (queue : List Value) (closed : Bool) → Object

-- The objects and the package variables, each numbered by its position. No object is ever removed: a program means what it would do with
-- memory without end, and machines with regions are compared with that.
pub record Memory : Type 0 where
  pub heap : List Object
  pub variables : List Value

-- the memory with another object of that number
abbrev pub with_object : Memory → ℕ → Object → Memory
with_object m n object = record m { heap = slice_set m.heap n object }

-- the object of that number; a struct without fields if there is none, as an object that was emptied is
abbrev pub object_at : Memory → ℕ → Object
object_at m n = slice_index_or m.heap n (StructObject [])

-- The memory without what the object of that number held. The object stays, so that the numbers of the others do.
abbrev pub emptied : Memory → ℕ → Memory
emptied m n = with_object m n (StructObject [])
