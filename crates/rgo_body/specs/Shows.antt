-- The record of a goroutine, as its body shows it between two instructions or duties. It is a relation and not a function: many records
-- look the same to the code, which keeps no dead variables and no list of its accesses.
use Rattle.std.specs.Prelude.{◌≡◌, ℕ, length}
use Rattle.rgo_core.specs.Channels.Records.{Free, Nowhere, Offering, ChannelRec as SideRec, at_rest}
use Rattle.rgo_core.specs.Memory.Records.{Calm, Idle, Rec as MemoryRec, Rest}
use Rattle.rgo_sound.specs.RegionMachine.States.{NoOffer, Offer, Standing}
use Rattle.rgo_core.specs.Core.{Situation, Setup}
use Rattle.rgo_core.specs.Records.{Record}
use Rattle.rgo_holding.specs.Holds.{IsHoldingOf}
use Rattle.rgo_stack.specs.Stacks.{Belongs}
use Rattle.rgo_body.specs.Bodies.{frames_of_body, owed_by_body}
use Rattle.rgo_body.specs.Programs.{CompactProgram}
use Rattle.rgo_body.specs.declared.bodies.Body.{Body}
use Rattle.rgo_body.specs.declared.bodies.Side.{Side}
use Rattle.rgo_body.specs.declared.bodies.Side.TheVariants as side

-- What the goroutine knows of a channel, and its offer: nothing; what it found where an operation was not ready, and it has no offer;
-- or its offer is there.
abbrev pub SideShows : Side → SideRec → Offer → Type 0
SideShows side.AtRest known offer = (known ≡ at_rest) × (offer ≡ NoOffer)
SideShows side.Tried known offer = (known.hold ≡ Free) × (known.post ≡ Nowhere) × (offer ≡ NoOffer)
SideShows (side.Offering at) known offer = (known.hold ≡ Free) × (known.post ≡ Offering at) × (offer ≡ Standing 0)

-- No object is half made, no page is claimed and not linked, and no chain is being returned. In the middle of such an act a body shows
-- nothing: the act has to be brought to its end first.
pub record IsMemoryCalm (m : MemoryRec) (owed : ℕ) : Type 0 where
  pub make : m.make ≡ Rest
  pub claim : m.claim ≡ Idle
  pub give : m.give ≡ Calm
  pub none : owed ≡ 0

pub record BodyShows (T : Setup) (p : CompactProgram) (b : Body) (c : Record) : Type 0 where
  -- the record is one of a run of this very code
  pub code : T.code ≡ p.code
  pub belongs : Belongs p.compact b.stack
  pub frames : c.frame.frames ≡ frames_of_body b
  pub holds : IsHoldingOf T.sizes.regions b.holding c.frame.holder c.memory.fills
  -- in this order: the first one is the lead page
  pub reserved : c.memory.reserved.pages ≡ b.reserved.pages
  pub owes : c.frame.holder.duties ≡ owed_by_body p.code b
  pub side : SideShows b.side c.side c.frame.holder.offer
  pub calm : IsMemoryCalm c.memory c.clock.owed
  pub share : c.clock.share ≡ b.counts
  -- their bytes are with the driver, so the body keeps only how many there were
  pub prints : length c.clock.prints ≡ b.prints
  -- a limit of goroutines may end the run only after a refusal
  pub refused : c.clock.refused ≡ b.refused

-- the body shows the record that some goroutine has at some moment of some run
pub record BodyIsPossible (p : CompactProgram) (b : Body) : Type 0 where
  pub T : Setup
  pub goroutine : ℕ
  pub c : Record
  pub here : Situation T goroutine c
  pub shows : BodyShows T p b c

-- d differs from c only in what no body shows: its accesses, what it has tried, measured and located, its children, the end that it has
-- set, and the tickets of its prints
pub record LooksLike (c d : Record) : Type 0 where
  pub frame : d.frame ≡ c.frame
  pub side : d.side ≡ c.side
  pub fills : d.memory.fills ≡ c.memory.fills
  pub reserved : d.memory.reserved.pages ≡ c.memory.reserved.pages
  pub make : d.memory.make ≡ c.memory.make
  pub claim : d.memory.claim ≡ c.memory.claim
  pub give : d.memory.give ≡ c.memory.give
  pub share : d.clock.share ≡ c.clock.share
  pub owed : d.clock.owed ≡ c.clock.owed
  pub prints : length d.clock.prints ≡ length c.clock.prints
  pub refused : d.clock.refused ≡ c.clock.refused

abbrev pub LikeShown : Type 0
LikeShown = (T : Setup) (p : CompactProgram) (b : Body) (c d : Record) → BodyShows T p b c → LooksLike c d → BodyShows T p b d
