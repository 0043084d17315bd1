-- What an instruction asks of the goroutine, and where its actor has come by it. Both follow from the stage `GoroutineIsAt`, whatever the kind.
use Rattle.std.proofs.Common.{◌+◌, ◌<◌, ℕ, [], Result, MatchResult, refl, ap, arith}
use Rattle.rgo_sound.specs.Memory.declared.traps.Trap.{Trap}
use Rattle.rgo_acts.specs.Body.declared.nexts.Next.{Next}
use Rattle.rgo_acts.specs.Actors as act
use Rattle.rgo_acts.specs.Ready.{ActorIsBefore}
use Rattle.rgo_acts.specs.Runs.{Run}
use Rattle.rgo_acts.specs.Talks.{CanTry, Talks}
use Rattle.rgo_acts.specs.Traps.{IsAtTrap}
use Rattle.rgo_acts.specs.declared.actors.Actor.{Actor}
use Rattle.rgo_acts.specs.declared.channels.Talked.{Talked}
use Rattle.rgo_goroutine.specs.Acting.{MayMakeInstructions}
use Rattle.rgo_goroutine.specs.Instructions.{CanAct, HasComeTo, HasTalked, GoroutineIsAt}
use Rattle.rgo_goroutine.specs.declared.goroutine.Goroutine.{Goroutine}
use Rattle.rgo_goroutine.specs.declared.turning.Turning.{Turning}

-- one more instruction can be counted
pub few_steps : (r : Run) (go : Goroutine) (left : ℕ) → MayMakeInstructions r go left → go.actor.body.counts.steps + 1 < 18446744073709551616
few_steps r go left goes =
    let s = ap (λ (n : _). n.steps) goes.stands.shows.share in
    let room = goes.room in
    omega (arith, s, room)

pub before_of : (r : Run) (go : Goroutine) (next : Next) (t : Turning) → CanAct r go next t → ActorIsBefore r go.actor next
before_of r go next t can = record {
  stands = can.at.goes.stands;
  ready = can.at.ready;
  rests = can.rests;
  room = can.at.room;
  count = few_steps r go t.left can.at.goes;
}

pub try_of : (r : Run) (go : Goroutine) (next : Next) (left : ℕ) → GoroutineIsAt r go next left → CanTry r go.actor next
try_of r go next left at = record {
  stands = at.goes.stands;
  ready = at.ready;
  none = at.none;
  room = at.room;
  count = few_steps r go left at.goes;
}

module _ (r : Run) (go : Goroutine) (next : Next) (t : Turning) (can : CanAct r go next t) (b : Actor) where
  pub come_to : (done : Result (Unit {0}) Trap)
      → MatchResult done (λ _. act.ActorActed r go.actor b 1 [] []) (λ trap. IsAtTrap r go.actor b trap)
      → HasComeTo r go (record go { actor = b }) t done
  come_to done did = record {
    come = record { goes = can.at.goes; some = can.at.some; noted = can.noted; rest = refl };
    did = did;
  }

pub talked_to : (r : Run) (go : Goroutine) (next : Next) (t : Turning) → GoroutineIsAt r go next t.left → t.changed.count < 6 → (b : Actor)
    (talked : Talked) → Talks r go.actor b 1 talked → HasTalked r go (record go { actor = b }) t 1 talked
talked_to r go next t at noted b talked talks = record {
  goes = at.goes;
  some = at.some;
  noted = noted;
  few = omega arith;
  rest = refl;
  talks = talks;
}
