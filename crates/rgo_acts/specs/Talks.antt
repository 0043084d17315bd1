-- What an operation on a channel asks of a goroutine, and what it leaves.
use Rattle.std.specs.Prelude.{◌≡◌, ◌+◌, ◌<◌, ℕ, [], Option, Some, ⊤}
use Rattle.rgo_core.specs.Rule.Views.{number_of}
use Rattle.rgo_core.specs.ties.AtChannels.{IsAtChannel}
use Rattle.rgo_core.specs.moves.Commits.{offers}
use Rattle.rgo_core_steps.specs.After.{committing}
use Rattle.rgo_chan.specs.declared.answers.Tried.{Tried}
use Rattle.rgo_chan.specs.declared.answers.Tried.TheVariants as tried
use Rattle.rgo_sound.specs.Memory.declared.traps.Trap.{Trap}
use Rattle.rgo_sound.specs.Memory.declared.traps.Trap.TheVariants.{CloseClosed, SendClosed}
use Rattle.rgo_body.specs.Bodies.{HasRoomBehind, BodyIsReady, OffersNothing}
use Rattle.rgo_body.specs.Programs.{CompactProgram}
use Rattle.rgo_body.specs.Steps.{Becomes, TriesOperation}
use Rattle.rgo_body.specs.declared.bodies.Body.{Body}
use Rattle.rgo_body.specs.declared.bodies.Side.TheVariants.{Offering}
use Rattle.rgo_body.specs.declared.nexts.Next.{Next}
use Rattle.rgo_acts.specs.Actors.{ActorActed, IsUnmoved, IsActorOf, now}
use Rattle.rgo_acts.specs.Runs.{Run}
use Rattle.rgo_acts.specs.Traps.{IsAtTrap}
use Rattle.rgo_acts.specs.Waits.{Loses, WaitsAtChannel}
use Rattle.rgo_acts.specs.declared.actors.Actor.{Actor}
use Rattle.rgo_acts.specs.declared.channels.Talked.{Talked}
use Rattle.rgo_acts.specs.declared.channels.Talked.TheVariants as talked

-- It owes nothing before this instruction, its next one, and has no offer; there is room for what it owes after it.
pub record CanTry (r : Run) (a : Actor) (next : Next) : Type 0 where
  pub stands : IsActorOf r a
  pub ready : BodyIsReady r.program a.body next
  pub none : OffersNothing a.body
  pub room : HasRoomBehind a.body next
  pub count : a.body.counts.steps + 1 < 18446744073709551616

-- Its offer is at the channel whose control is word `at`. It owes nothing before its send; there is room for what it owes after it.
pub record ActorCanAcknowledge (r : Run) (a : Actor) (next : Next) (at : ℕ) : Type 0 where
  pub stands : IsActorOf r a
  pub ready : BodyIsReady r.program a.body next
  pub offers : a.body.side ≡ Offering at
  pub room : HasRoomBehind a.body next

-- ---- what it leaves

-- the operation has taken effect, as its nth instruction or by none
pub record HasDoneOperation (r : Run) (a b : Actor) (n at : ℕ) : Type 0 where
  pub acted : ActorActed r a b n [] []
  pub there : IsAtChannel r.setup (now r.setup a) at

-- its offer is there
pub record HasOffered (r : Run) (a b : Actor) (at : ℕ) : Type 0 where
  pub acted : ActorActed r a b 0 [] []
  pub offers : b.body.side ≡ Offering at

-- the channel was not ready
pub record IsWaiting (r : Run) (a b : Actor) (place : Option ℕ) : Type 0 where
  pub acted : ActorActed r a b 0 [] []
  pub unmoved : IsUnmoved r.setup a b acted.es
  pub waits : WaitsAtChannel r.setup (number_of a.seat.me) (now r.setup b) acted.es place

-- another goroutine was at it
pub record HasLost (r : Run) (a b : Actor) (at : ℕ) : Type 0 where
  pub acted : ActorActed r a b 0 [] []
  pub unmoved : IsUnmoved r.setup a b acted.es
  pub loses : Loses r.setup (number_of a.seat.me) (now r.setup b) acted.es at

-- all results; what was done counts as n instructions
abbrev pub Talks : (r : Run) (a b : Actor) (n : ℕ) → Talked → Type 0
Talks r a b n (talked.Done at) = HasDoneOperation r a b n at
Talks r a b n (talked.Offered at) = HasOffered r a b at
Talks r a b n (talked.Waits place) = IsWaiting r a b place
Talks r a b n (talked.Lost at) = HasLost r a b at
Talks r a b n (talked.Trap trap) = IsAtTrap r a b trap

-- ---- which of them an operation has

-- a receive offers nothing and does not trap
abbrev pub OfReceive : Talked → Type 0
OfReceive (talked.Done at) = ⊤
OfReceive (talked.Offered at) = ⊥
OfReceive (talked.Waits place) = ⊤
OfReceive (talked.Lost at) = ⊤
OfReceive (talked.Trap trap) = ⊥

-- a close never waits until a channel is ready
abbrev pub OfClose : Talked → Type 0
OfClose (talked.Done at) = ⊤
OfClose (talked.Offered at) = ⊥
OfClose (talked.Waits place) = ⊥
OfClose (talked.Lost at) = ⊤
OfClose (talked.Trap trap) = ⊤

abbrev pub OfAcknowledgement : Talked → Type 0
OfAcknowledgement (talked.Done at) = ⊤
OfAcknowledgement (talked.Offered at) = ⊥
OfAcknowledgement (talked.Waits place) = ⊤
OfAcknowledgement (talked.Lost at) = ⊤
OfAcknowledgement (talked.Trap trap) = ⊤

-- ---- the body after a try

-- by what the try has found; only one that took effect or left an offer has done more than look
abbrev pub TryConcludes : CompactProgram → (before after : Body) → (at : ℕ) → Tried → Type 0
TryConcludes p b d at (tried.Done word) = Becomes p b d (λ T c. committing T.code c word)
TryConcludes p b d at tried.Offered = Becomes p b d (λ T c. offers c at)
TryConcludes p b d at tried.NotReady = TriesOperation p b d
TryConcludes p b d at (tried.Busy found) = TriesOperation p b d
TryConcludes p b d at (tried.Trap number) = TriesOperation p b d

-- the trap with this number, if it is that of a channel that is closed
pub record IsNumbered (number : ℕ) (trap : Trap) : Type 0 where
  pub send : number ≡ 5 → trap ≡ SendClosed
  pub close : number ≡ 6 → trap ≡ CloseClosed

-- what is said of a try at the channel whose control is word `at`
abbrev pub Says : (at : ℕ) → Tried → Talked → Type 0
Says at (tried.Done word) t = t ≡ talked.Done at
Says at tried.Offered t = t ≡ talked.Offered at
Says at tried.NotReady t = t ≡ talked.Waits (Some at)
Says at (tried.Busy found) t = t ≡ talked.Lost at
Says at (tried.Trap number) t = (trap : Trap) × IsNumbered number trap × (t ≡ talked.Trap trap)
