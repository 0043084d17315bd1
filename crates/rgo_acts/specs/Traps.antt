-- Instructions that trap. The goroutine stays before the instruction, which the end mark then makes.
use Rattle.std.specs.Prelude.{[]}
use Rattle.rgo_core_steps.specs.Ends.{InstrTraps}
use Rattle.rgo_sound.specs.Memory.declared.traps.Trap.{Trap}
use Rattle.rgo_acts.specs.Actors.{ActorActed, now}
use Rattle.rgo_acts.specs.Runs.{Run}
use Rattle.rgo_acts.specs.declared.actors.Actor.{Actor}

-- it has made no instruction, and its next one traps
abbrev pub IsAtTrap : Run → (before after : Actor) → Trap → Type 0
IsAtTrap r a b trap = ActorActed r a b 0 [] [] × InstrTraps r.setup (now r.setup b) trap
