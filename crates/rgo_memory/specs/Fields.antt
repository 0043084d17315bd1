-- Fields of structs, read and written.
use Rattle.std.specs.Prelude.{ℕ, Option, Some, None, Result, Ok, Err, slice_get, slice_set}
use Rattle.rgo_memory.specs.declared.values.Value.{Value}
use Rattle.rgo_memory.specs.declared.values.Value.TheVariants as value
use Rattle.rgo_memory.specs.declared.traps.Trap.{Trap}
use Rattle.rgo_memory.specs.declared.traps.Trap.TheVariants.{NilPointer}
use Rattle.rgo_memory.specs.Memory.{Object, StructObject, Memory}
use Rattle.rgo_memory.specs.Effects.{Outcome, Does, Traps, Effect, nothing, at_object}

-- a value that was looked up; nil if there is none, which never happens in a typed program
abbrev pub or_nil : Option Value → Value
or_nil (Some v) = v
or_nil None = value.Nil

-- field k of an object; nil unless it is a struct that has one
abbrev pub field_value : Option Object → ℕ → Value
field_value (Some (StructObject cells)) k = or_nil (slice_get cells k)
field_value _ k = value.Nil

-- the read `p.f`, where f is field k: it traps if p is nil
abbrev pub load : Memory → Value → ℕ → Result Value Trap
load m value.Nil k = Err NilPointer
load m (value.Object n) k = Ok (field_value (slice_get m.heap n) k)
load m _ k = Ok value.Nil

-- a struct with v as its field k; other objects stay as they are
abbrev pub store_outcome : ℕ → Value → Object → Outcome Object
store_outcome k v (StructObject cells) = Does (StructObject (slice_set cells k v)) value.Nil
store_outcome k v object = nothing object

-- the write `p.f = v`; it traps if p is nil
abbrev pub store : Memory → Value → ℕ → Value → Effect
store m value.Nil k v = Traps NilPointer
store m (value.Object n) k v = at_object m n (store_outcome k v)
store m _ k v = nothing m
