-- The memory as a program starts.
use Rattle.std.specs.Prelude.{List, [], map}
use Rattle.rgo_typed.specs.declared.programs.Variable.{Variable}
use Rattle.rgo_memory.specs.Values.{zero_of}
use Rattle.rgo_memory.specs.Memory.{Memory}

-- no object, and each package variable the zero of its type
abbrev pub opening : List Variable → Memory
opening variables = record { heap = []; variables = map (λ v. zero_of v.ty) variables }
