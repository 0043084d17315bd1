-- Limits that a goroutine meets. A limit alone ends nothing: the turn decides, by the end mark.
use Rattle.std.specs.Prelude.{[]}
use Rattle.rgo_core.specs.Rule.Views.{number_of}
use Rattle.rgo_core_steps.specs.Ends.{GoroutineEndsRun}
use Rattle.rgo_sound.specs.RegionMachine.States.{Stopped}
use Rattle.rgo_sound.specs.RegionMachine.declared.limits.Limit.{Limit}
use Rattle.rgo_acts.specs.Actors.{ActorActed, now}
use Rattle.rgo_acts.specs.Runs.{Run}
use Rattle.rgo_acts.specs.declared.actors.Actor.{Actor}

-- it has made no instruction, and meets this limit, by which it may end the run
abbrev pub IsAtLimit : Run → (before after : Actor) → Limit → Type 0
IsAtLimit r a b limit = ActorActed r a b 0 [] [] × GoroutineEndsRun r.setup (number_of b.seat.me) (now r.setup b) (Stopped limit)
