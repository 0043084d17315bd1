-- What an act leaves that attends to the first duty of a goroutine. Only a duty that was done changes the queue.
use Rattle.std.specs.Prelude.{◌≡◌, ◌+◌, ◌<◌, List, [], ◌∷◌}
use Rattle.rgo_body.specs.Bodies.{CanCount}
use Rattle.rgo_body.specs.Duties.{HasDoneDuty}
use Rattle.rgo_body.specs.declared.bodies.Side.TheVariants.{AtRest}
use Rattle.rgo_core.specs.Rule.Views.{number_of}
use Rattle.rgo_sound.specs.RegionMachine.States.{Duty}
use Rattle.rgo_acts.specs.Actors.{ActorActed, IsUnmoved, IsActorOf, distance, now}
use Rattle.rgo_acts.specs.Runs.{Run}
use Rattle.rgo_acts.specs.Shortages.{LacksSlot}
use Rattle.rgo_acts.specs.declared.actors.Actor.{Actor}
use Rattle.rgo_acts.specs.declared.duties.Attended.{Attended}
use Rattle.rgo_acts.specs.declared.duties.Attended.TheVariants.{Done, NoMemory, Short}

-- It owes this duty first, and knows of no channel; what the duty does can be counted.
pub record IsAtDuty (r : Run) (a : Actor) (d : Duty) : Type 0 where
  pub stands : IsActorOf r a
  pub others : List Duty
  pub owes : a.body.queue.duties ≡ d ∷ others
  pub rests : a.body.side ≡ AtRest
  pub can : CanCount a.body.counts
  -- the duty may be the removal of a region that has all pages
  pub returned : a.body.counts.returned + r.sizes.pages < 18446744073709551616
  pub behind : a.behind + 1 < 18446744073709551616

-- The first duty is done. Nothing else of the body has changed but what it has of regions and what it has counted.
pub record HasAttended (r : Run) (a b : Actor) : Type 0 where
  pub acted : ActorActed r a b 0 [] []
  pub done : HasDoneDuty a.body b.body
  -- so the loop over duties ends
  pub nearer : distance r.program b.body < distance r.program a.body

-- Some of its first duties are done, each by a local step. Nothing else of the body has changed but what it has of regions and what it
-- has counted.
pub record HasAttendedLocally (r : Run) (a b : Actor) : Type 0 where
  pub acted : ActorActed r a b 0 [] []
  pub rest : b.body ≡ record a.body { holding = b.body.holding; queue = b.body.queue; counts = b.body.counts }

-- It owes what it owed. Only the memory of its holding may have grown, which shows nowhere.
pub record HasWaited (r : Run) (a b : Actor) : Type 0 where
  pub acted : ActorActed r a b 0 [] []
  pub rest : b.body ≡ record a.body { holding = b.body.holding }

-- No slot was free for the region that it is to create. It has changed no word.
pub record IsShort (r : Run) (a b : Actor) : Type 0 where
  pub waited : HasWaited r a b
  pub unmoved : IsUnmoved r.setup a b waited.acted.es
  pub lacks : LacksSlot r.setup (number_of a.seat.me) (now r.setup b) waited.acted.es

abbrev pub ActorAttends : (r : Run) (a b : Actor) → Attended → Type 0
ActorAttends r a b Done = HasAttended r a b
ActorAttends r a b Short = IsShort r a b
ActorAttends r a b NoMemory = HasWaited r a b
