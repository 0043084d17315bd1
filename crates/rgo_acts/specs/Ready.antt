-- What an act asks of a goroutine: all that could fail was done before, so that the act itself cannot.
use Rattle.std.specs.Prelude.{◌≡◌, ◌+◌, ◌<◌}
use Rattle.rgo_body.specs.Bodies.{HasRoomBehind, BodyIsReady}
use Rattle.rgo_body.specs.declared.bodies.Side.TheVariants.{AtRest}
use Rattle.rgo_body.specs.declared.nexts.Next.{Next}
use Rattle.rgo_acts.specs.Actors.{IsActorOf}
use Rattle.rgo_acts.specs.Runs.{Run}
use Rattle.rgo_acts.specs.declared.actors.Actor.{Actor}

-- It owes nothing before this instruction, its next one, and knows of no channel; there is room for what it owes after it.
pub record ActorIsBefore (r : Run) (a : Actor) (next : Next) : Type 0 where
  pub stands : IsActorOf r a
  pub ready : BodyIsReady r.program a.body next
  pub rests : a.body.side ≡ AtRest
  pub room : HasRoomBehind a.body next
  pub count : a.body.counts.steps + 1 < 18446744073709551616
