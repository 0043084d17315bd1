-- The numbers and names of traps.
use Rattle.std.specs.Prelude.{ℕ, List, codes}
use Rattle.rgo_memory.specs.declared.traps.Trap.{Trap}
use Rattle.rgo_memory.specs.declared.traps.Trap.TheVariants.{NilPointer, IndexRange, DivideZero, BadSize}
use Rattle.rgo_memory.specs.declared.traps.Trap.TheVariants.{SendClosed, CloseClosed, CloseNil}

-- the number of a trap in the line that reports it to the user
abbrev pub trap_number : Trap → ℕ
trap_number NilPointer = 1
trap_number IndexRange = 2
trap_number DivideZero = 3
trap_number BadSize = 4
trap_number SendClosed = 5
trap_number CloseClosed = 6
trap_number CloseNil = 7

-- its name in that line
abbrev pub trap_name : Trap → List ℕ
trap_name NilPointer = codes "NilPointer"
trap_name IndexRange = codes "IndexRange"
trap_name DivideZero = codes "DivideZero"
trap_name BadSize = codes "BadSize"
trap_name SendClosed = codes "SendClosed"
trap_name CloseClosed = codes "CloseClosed"
trap_name CloseNil = codes "CloseNil"
