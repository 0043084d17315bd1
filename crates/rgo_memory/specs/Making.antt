-- New objects.
use Rattle.std.specs.Prelude.{ℕ, false, List, [], ◌∷◌, ◌++◌, map, length, replicate, pos, negsuc, Option, Some, None}
use Rattle.std.specs.Prelude.{slice_get}
use Rattle.rgo_typed.specs.declared.types.Type.{«Type»}
use Rattle.rgo_typed.specs.declared.programs.Struct.{Struct}
use Rattle.rgo_memory.specs.declared.values.Value.{Value}
use Rattle.rgo_memory.specs.declared.values.Value.TheVariants as value
use Rattle.rgo_memory.specs.declared.traps.Trap.TheVariants.{BadSize}
use Rattle.rgo_memory.specs.Values.{zero_of, element_zero}
use Rattle.rgo_memory.specs.Memory.{Object, StructObject, SliceObject, Channel, Memory}
use Rattle.rgo_memory.specs.Effects.{Does, Traps, Effect, nothing}

-- The memory with one object more, and its number. The heap only grows, so a number is never used again.
abbrev pub made : Memory → Object → Effect
made m object = Does (record m { heap = m.heap ++ object ∷ [] }) (value.Object (length m.heap))

-- a struct whose fields have their zeros; nothing is made if there is no such struct, which never happens in a typed program
abbrev pub made_struct : Option Struct → Memory → Effect
made_struct None m = nothing m
made_struct (Some s) m = made m (StructObject (map zero_of s.fields))

-- of the struct of that number
abbrev pub new_struct : List Struct → ℕ → Memory → Effect
new_struct structs n m = made_struct (slice_get structs n) m

-- An object of a size, if the size is not negative. There is no greatest size: what a run has no room for ends that run, and is not part
-- of what a program means.
abbrev pub sized : (ℕ → Object) → Value → Memory → Effect
sized object (value.Int (pos n)) m = made m (object n)
sized object (value.Int (negsuc n)) m = Traps BadSize
sized object _ m = nothing m

-- `make([]T, n)`: n elements, each the zero of T; `ty` is the type []T
abbrev pub new_slice : «Type» → Value → Memory → Effect
new_slice ty = sized (λ n. SliceObject (replicate n (element_zero ty)))

-- `make(chan T, n)`: open, empty, with a buffer of n places
abbrev pub new_channel : Value → Memory → Effect
new_channel = sized (λ n. Channel n [] false)
