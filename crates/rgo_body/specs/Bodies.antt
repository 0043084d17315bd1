-- What a body owes, and what is next for it. Both are in terms of the code and of the frames that the stack shows, so that they can be
-- compared with the record.
use Rattle.std.specs.Prelude.{◌≡◌, ◌<◌, ◌≤◌, ◌+◌, ℕ, true, false, List, [], ◌++◌, if◌then◌else◌, length, map}
use Rattle.rgo_sound.specs.Code.Code.{Code}
use Rattle.rgo_core.specs.Frames.shown.WordFrames.{WordFrame, bare_all}
use Rattle.rgo_sound.specs.RegionMachine.Counts.{Counts}
use Rattle.rgo_sound.specs.RegionMachine.Owed.{next_duties}
use Rattle.rgo_sound.specs.RegionMachine.States.{Duty, Remove}
use Rattle.rgo_sound.specs.Tally.{no_share}
use Rattle.rgo_holding.specs.declared.holding.Holding.{Holding}
use Rattle.rgo_stack.specs.Stacks.{Stack, frames_of_stack}
use Rattle.rgo_body.specs.Nexts.{IsNextOf, removes_at}
use Rattle.rgo_body.specs.Programs.{CompactProgram}
use Rattle.rgo_body.specs.Reserves.{none_reserved}
use Rattle.rgo_body.specs.declared.bodies.Body.{Body}
use Rattle.rgo_body.specs.declared.bodies.Side.TheVariants.{AtRest, Offering}
use Rattle.rgo_body.specs.declared.nexts.Next.{Next}

abbrev pub frames_of_body : Body → List WordFrame
frames_of_body b = frames_of_stack b.stack

-- the duties in its queue, and those before its next instruction unless they are in the queue already
abbrev pub owed_by_body : Code → Body → List Duty
owed_by_body code b = b.queue.duties ++ (if b.is_expanded then [] else next_duties code (bare_all (frames_of_body b)))

-- it owes nothing before this instruction, its next one
pub record BodyIsReady (p : CompactProgram) (b : Body) (next : Next) : Type 0 where
  pub queue : b.queue.duties ≡ []
  pub expanded : b.is_expanded ≡ true
  pub is_next : IsNextOf p.code (frames_of_body b) next

-- There is room for what is owed after this instruction. A premise of every operation that follows an access: it cannot fail.
abbrev pub HasRoomBehind : Body → Next → Type 0
HasRoomBehind b next = length (removes_at next) ≤ b.queue.room

-- It has no offer at a channel. Only such a goroutine may try an operation or know of no channel: one that has an offer stays at its
-- send until it has acknowledged that the offer was taken.
abbrev pub OffersNothing : Body → Type 0
OffersNothing b = (at : ℕ) → b.side ≡ Offering at → ⊥

-- ---- counts

-- one more of each can be counted, and as many pages as an object may have
pub record CanCount (n : Counts) : Type 0 where
  pub made : n.made + 1 < 18446744073709551616
  -- at most one region is removed by a duty
  pub removed : n.removed + 1 < 18446744073709551616
  pub taken : n.taken + 65 < 18446744073709551616
  pub steps : n.steps + 1 < 18446744073709551616
  pub objects : n.objects + 1 < 18446744073709551616
  pub goroutines : n.goroutines + 1 < 18446744073709551616

-- ---- at the start

-- a goroutine with this stack that has done nothing, and owes the removal of these names before all else
pub record IsFresh (stack : Stack) (holding : Holding) (removes : List ℕ) (goroutines : ℕ) (b : Body) : Type 0 where
  pub stack_is : b.stack ≡ stack
  pub holding_is : b.holding ≡ holding
  pub queue : b.queue.duties ≡ map Remove removes
  pub expanded : b.is_expanded ≡ false
  pub side : b.side ≡ AtRest
  pub counts : b.counts ≡ record no_share { goroutines = goroutines }
  pub prints : b.prints ≡ 0
  pub reserved : b.reserved ≡ none_reserved
  pub refused : b.refused ≡ false
