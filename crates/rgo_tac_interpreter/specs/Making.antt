-- What a frame that makes an object does.
use Rattle.std.specs.Prelude.{◌≡◌, Bool, true, false, Result, Ok}
use Rattle.std.specs.declared.alloc.AllocError.{AllocError}
use Rattle.rgo_memory.specs.Memory.{Memory}
use Rattle.rgo_interpreter.specs.declared.machines.Did.{Did}
use Rattle.rgo_interpreter.specs.declared.machines.Did.TheVariants as did
use Rattle.rgo_machine.specs.Machines.{Act, Moves, Stand, Elsewhere}
use Rattle.rgo_tac.specs.Frames.{TacFrame}

abbrev pub has_moved : Result Did AllocError → Bool
has_moved (Ok did.Moves) = true
has_moved _ = false

-- a frame that was elsewhere continued; or nothing changed
abbrev pub FrameContinues : Bool → Stand TacFrame → Act TacFrame → (m n : Memory) (f g : TacFrame) → Type 0
FrameContinues true stand act m n f g = (stand ≡ Elsewhere) × (act ≡ Moves n g)
FrameContinues false stand act m n f g = (n ≡ m) × (g ≡ f)
