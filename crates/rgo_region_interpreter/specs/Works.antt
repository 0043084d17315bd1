-- What steps of a goroutine do to a world: the run of the region machine continues, and the world shows where it is. The code does not
-- have the machine's state, which also keeps what removed regions held. So each of these facts is for every state that the world may
-- show: from any of them, events lead to one that the world shows afterwards.
use Rattle.std.specs.Prelude.{◌≡◌, ◌≤◌, ◌++◌, ℕ, Bool, true, false, List, [], ◌∷◌, map, Option, Some, None, Result, Ok, Err}
use Rattle.std.specs.Prelude.{nat_lt, slice_get}
use Rattle.std.specs.declared.alloc.AllocError.{AllocError}
use Rattle.rgo_machine.specs.declared.limits.Limits.{Limits}
use Rattle.rgo_machine.specs.declared.picks.Pick.TheVariants.{Meet}
use Rattle.rgo_machine.specs.declared.limits.Shortage.{Shortage}
use Rattle.rgo_machine.specs.declared.limits.Shortage.TheVariants as shortage
use Rattle.rgo_interpreter.specs.declared.turns.TurnEnd.{TurnEnd}
use Rattle.rgo_interpreter.specs.declared.turns.TurnEnd.TheVariants as stop
use Rattle.rgo_interpreter.specs.declared.turns.Turned.{Turned}
use Rattle.rgo_machine.specs.Limits.{is_within}
use Rattle.rgo_machine.specs.Runs.{Leads}
use Rattle.rgo_interpreter.specs.Turns.{Turns}
use Rattle.rgo_tac.specs.Frames.{TacFrame}
use Rattle.rgo_tac.specs.Code.{Op, Call, Go, Return, Do, Print, Jump, Branch}
use Rattle.rgo_tac.specs.Ops.{operation_of}
use Rattle.rgo_tac.specs.Tac.{tac, tac_step}
use Rattle.rgo_code.specs.Code.{CodeInstr, Code}
use Rattle.rgo_code.specs.Erasure.{erased, erased_op}
use Rattle.rgo_region_machine.specs.Machine.{Event, region_start}
use Rattle.rgo_region_machine.specs.Owed.{current, code_function, next_duties}
use Rattle.rgo_region_machine.specs.Room.{live_regions, roomy_step, LacksIn}
use Rattle.rgo_region_machine.specs.States.{Duty, Remove, RegionState, frames_of, end_in, plain_at}
use Rattle.rgo_region_machine.specs.States as spec
use Rattle.rgo_sound.specs.Good.{AllGood}
use Rattle.rgo_sound.specs.Progress.{AreRegionSteps}
use Rattle.rgo_region_interpreter.specs.declared.holders.Holder.{Holder}
use Rattle.rgo_machine.specs.declared.limits.Sizes.{Sizes}
use Rattle.rgo_region_interpreter.specs.declared.worlds.Halt.{Halt}
use Rattle.rgo_region_interpreter.specs.declared.worlds.Halt.TheVariants as halt
use Rattle.rgo_region_interpreter.specs.declared.worlds.Next.{Next}
use Rattle.rgo_region_interpreter.specs.declared.worlds.World.{World}
use Rattle.rgo_region_interpreter.specs.Orderly.{Orderly}
use Rattle.rgo_region_interpreter.specs.Worlds.{Prepared, Shown, OwesNext, AllOweNext}

-- ---- states at which a world is

-- every goroutine owes what is left before its next instruction
pub record Between (w : World) (s : RegionState) : Type 0 where
  pub prepared : Prepared w
  pub good : AllGood w.code.now s
  pub orderly : Orderly w.code.now s
  pub shown : Shown w s
  pub running : s.mark ≡ None
  pub owes : AllOweNext w s

-- every other goroutine than g owes what is left before its next instruction
abbrev pub OthersOwe : World → RegionState → ℕ → Type 0
OthersOwe w s g = (j : ℕ) (c : Holder) (h : spec.Holder) → (j ≡ g → ⊥) → slice_get w.holders.items j ≡ Some c
    → slice_get s.holders j ≡ Some h → OwesNext w.code.now s j c h

-- they have what they had, in the code: a turn of g writes only g's holder
abbrev pub KeepsOthers : World → World → ℕ → Type 0
KeepsOthers w v g = (j : ℕ) → (j ≡ g → ⊥) → slice_get v.holders.items j ≡ slice_get w.holders.items j

-- and in the machine
abbrev pub SameOthers : RegionState → RegionState → ℕ → Type 0
SameOthers s t g = (j : ℕ) → (j ≡ g → ⊥) → slice_get t.holders j ≡ slice_get s.holders j

-- goroutine g owes these steps
pub record Works (w : World) (s : RegionState) (g : ℕ) (duties : List Duty) : Type 0 where
  pub prepared : Prepared w
  pub good : AllGood w.code.now s
  pub orderly : Orderly w.code.now s
  pub shown : Shown w s
  pub running : s.mark ≡ None
  pub holder : spec.Holder
  pub is_holder : slice_get s.holders g ≡ Some holder
  pub owed : holder.duties ≡ duties

-- the same code, with as much room, and nothing printed: what holds even if memory ran out on the way
pub record SameRun (w v : World) : Type 0 where
  pub code : v.code.now ≡ w.code.now
  pub sizes : v.sizes ≡ w.sizes
  pub print : v.state.printed ≡ w.state.printed

-- ---- steps with regions

-- after some steps with regions the goroutine owes these
pub record Attended (w v : World) (s : RegionState) (g : ℕ) (duties : List Duty) : Type 0 where
  pub events : List Event
  pub only_regions : AreRegionSteps events
  pub state : RegionState
  pub leads : Leads (roomy_step w.code.now w.sizes) s events state
  pub works : Works v state g duties
  pub plain : state.plain ≡ s.plain
  pub same : SameRun w v
  pub kept : KeepsOthers w v g
  pub others : SameOthers s state g

-- wherever the goroutine owes the first of these lists of steps, it owes the second one after some of them
abbrev pub WorldAttends : World → World → ℕ → (before after : List Duty) → Type 0
WorldAttends w v g before after = (s : RegionState) → Works w s g before → Attended w v s g after

-- goroutines g and j are to remove these names, and then owe all that comes before their next instructions
pub record BothWork (w : World) (s : RegionState) (g : ℕ) (removes : List ℕ) (j : ℕ) (others : List ℕ) : Type 0 where
  pub apart : j ≡ g → ⊥
  pub works : Works w s g (map Remove removes ++ next_duties w.code.now (frames_of s.plain g))
  pub other : spec.Holder
  pub is_other : slice_get s.holders j ≡ Some other
  pub other_owes : other.duties ≡ map Remove others ++ next_duties w.code.now (frames_of s.plain j)
  pub rest : (k : ℕ) (c : Holder) (h : spec.Holder) → (k ≡ g → ⊥) → (k ≡ j → ⊥) → slice_get w.holders.items k ≡ Some c
      → slice_get s.holders k ≡ Some h → OwesNext w.code.now s k c h

-- after some steps with regions the world is between instructions
pub record WorldSettled (w v : World) (s : RegionState) : Type 0 where
  pub events : List Event
  pub only_regions : AreRegionSteps events
  pub state : RegionState
  pub leads : Leads (roomy_step w.code.now w.sizes) s events state
  pub between : Between v state
  pub plain : state.plain ≡ s.plain
  pub same : SameRun w v

-- why a step with a region was not done: there was no room, and nothing changed; or no memory, and nothing was printed
abbrev pub WorldHalts : Halt → World → World → Type 0
WorldHalts halt.NoMemory w v = SameRun w v
WorldHalts (halt.NoRoom why) w v =
    (v ≡ w) × (why ≡ shortage.Regions)
    × ((s : RegionState) → Shown w s → w.sizes.regions ≤ live_regions s)

-- ---- the next instruction

-- the next instruction of a frame of this code
pub record IsNextInFrame (code : Code) (frame : TacFrame) (next : Next) : Type 0 where
  pub function : code_function code frame.function ≡ Some next.function
  pub at : next.at ≡ frame.next
  pub instr : CodeInstr
  pub is_instr : slice_get next.function.body next.at ≡ Some instr
  pub op : erased_op instr.op ≡ operation_of next.op

-- of some frame
abbrev pub IsNextOfSome : Code → Next → Type 0
IsNextOfSome code next = (frame : TacFrame) × IsNextInFrame code frame next

-- of the newest frame of a goroutine
pub record IsNextInWorld (w : World) (g : ℕ) (next : Next) : Type 0 where
  pub frame : TacFrame
  pub callers : List TacFrame
  pub frames : slice_get w.state.goroutines g ≡ Some (frame ∷ callers)
  pub is : IsNextInFrame w.code.now frame next

-- ---- whole steps

-- the three-address machine has no pages or regions to run out of, so for it a lack of room is a lack of memory
abbrev pub plain_turn_end : TurnEnd → TurnEnd
plain_turn_end (stop.NoRoom why) = stop.NoMemory
plain_turn_end stop.Spent = stop.Spent
plain_turn_end stop.Waits = stop.Waits
plain_turn_end stop.Printed = stop.Printed
plain_turn_end (stop.Operated channel) = stop.Operated channel
plain_turn_end (stop.Ended end) = stop.Ended end
plain_turn_end stop.TooDeep = stop.TooDeep
plain_turn_end stop.Full = stop.Full
plain_turn_end stop.NoMemory = stop.NoMemory

-- a goroutine has taken a turn of at most one step on the three-address machine; all but its state is as it was
pub record WorldTakesTurn (w v : World) (limits : Limits) (g : ℕ) (turned : Turned) : Type 0 where
  pub turns : Turns (tac (erased w.code.now)) limits w.state v.state g 1 turned
  pub same : v ≡ record w { state = v.state }
  pub no_region : (why : Shortage) → turned.stop ≡ stop.NoRoom why → ⊥

-- goroutine g has taken a step on the three-address machine, whenever the limits allow one; or nothing changed
abbrev pub MayStep : World → World → ℕ → Bool → Type 0
MayStep w v g true =
    (limits : Limits) → w.state.ended ≡ None → is_within limits w.state ≡ true
    → WorldTakesTurn w v limits g (record { steps = 1; stop = stop.Spent })
MayStep w v g false = v ≡ w

-- whether the run continues after a turn of one step with this end: the step was done, and it did not end the run
abbrev pub goes_by : TurnEnd → (steps : ℕ) → Bool
goes_by (stop.Ended e) steps = false
goes_by stop.Spent steps = nat_lt 0 steps
goes_by stop.Waits steps = nat_lt 0 steps
goes_by stop.Printed steps = nat_lt 0 steps
goes_by (stop.Operated channel) steps = nat_lt 0 steps
goes_by stop.TooDeep steps = nat_lt 0 steps
goes_by stop.Full steps = nat_lt 0 steps
goes_by (stop.NoRoom why) steps = nat_lt 0 steps
goes_by stop.NoMemory steps = nat_lt 0 steps

-- a turn, with the result of what had to be done with regions after its step; the step itself stays counted, since it was done
abbrev pub unless_failed : {A : Type 0} → Turned → Result A AllocError → Turned
unless_failed turned (Ok a) = turned
unless_failed turned (Err e) = record { steps = turned.steps; stop = stop.NoMemory }

-- what the state has printed, the world has, too
pub record SamePrint (w v : World) (s t : RegionState) : Type 0 where
  pub bytes : List ℕ
  pub whole : t.plain.printed ≡ s.plain.printed ++ bytes
  pub kept : v.state.printed ≡ w.state.printed ++ bytes

-- A turn of at most one step from a state between instructions. It is a turn of the three-address machine, and unless memory ran out
-- the world is between instructions again, or the run has ended. When memory has run out, the machine's events are still a run with the
-- same print, but the world need not show where it is.
pub record TakesStep (w v : World) (limits : Limits) (s : RegionState) (g at_most : ℕ) (turned : Turned) : Type 0 where
  pub events : List Event
  pub state : RegionState
  pub leads : Leads (roomy_step w.code.now w.sizes) s events state
  pub turns : Turns (tac (erased w.code.now)) limits (plain_at s w.state.printed) (plain_at state v.state.printed) g at_most turned
  pub code : v.code.now ≡ w.code.now
  pub sizes : v.sizes ≡ w.sizes
  pub shown : (turned.stop ≡ stop.NoMemory → ⊥) → Prepared v × Shown v state
  -- no limit of the region machine has stopped it
  pub between : (turned.stop ≡ stop.NoMemory → ⊥) → end_in state.mark ≡ None → Between v state
  pub lacks : (why : Shortage) → turned.stop ≡ stop.NoRoom why → LacksIn w.code.now w.sizes why state
  pub prints : SamePrint w v s state

abbrev pub WorldTakesSteps : World → World → Limits → (g at_most : ℕ) → Turned → Type 0
WorldTakesSteps w v limits g at_most turned = (s : RegionState) → Between w s → is_within limits (plain_at s w.state.printed) ≡ true
    → TakesStep w v limits s g at_most turned

-- between instructions, after goroutine g has done all that it owes before its next one
pub record Ready (w : World) (s : RegionState) (g : ℕ) : Type 0 where
  pub between : Between w s
  pub works : Works w s g []

-- From any state at which goroutine g is ready and the limits allow a step, it takes a turn of at most one step. The functions for the
-- kinds of instructions all say this, so that `perform` can choose among them.
abbrev pub StepsWhenReady : World → World → Limits → (g : ℕ) → Turned → Type 0
StepsWhenReady w v limits g turned = (s : RegionState) → Ready w s g → is_within limits (plain_at s w.state.printed) ≡ true
    → TakesStep w v limits s g 1 turned

-- The world is at some state within the limits, at which goroutine g is ready. It is the premise of what is done then: with no such
-- state there would be nothing to promise.
pub record WorldIsReady (w : World) (limits : Limits) (g : ℕ) : Type 0 where
  pub state : RegionState
  pub ready : Ready w state g
  pub within : is_within limits (plain_at state w.state.printed) ≡ true

-- the world is at some state between instructions, within the limits
pub record WorldIsBetween (w : World) (limits : Limits) : Type 0 where
  pub state : RegionState
  pub between : Between w state
  pub within : is_within limits (plain_at state w.state.printed) ≡ true

-- after some steps with regions goroutine g is ready
pub record Readies (w v : World) (s : RegionState) (g : ℕ) : Type 0 where
  pub attended : Attended w v s g []
  pub ready : Ready v attended.state g

-- some steps with regions were done, and then there was no room
pub record StopsShort (w v : World) (s : RegionState) (g : ℕ) (why : Shortage) : Type 0 where
  pub events : List Event
  pub only_regions : AreRegionSteps events
  pub state : RegionState
  pub leads : Leads (roomy_step w.code.now w.sizes) s events state
  pub plain : state.plain ≡ s.plain
  pub between : Between v state
  pub same : SameRun w v
  pub lacks : LacksIn w.code.now w.sizes why state

-- what a goroutine owes before its next instruction was not all done
abbrev pub Falls : Halt → World → World → ℕ → Type 0
Falls halt.NoMemory w v g = SameRun w v
Falls (halt.NoRoom why) w v g = (s : RegionState) → Between w s → StopsShort w v s g why

-- how many of the steps that a goroutine owes are done
abbrev pub done_in : Option Holder → ℕ
done_in None = 0
done_in (Some c) = c.done

abbrev pub done_of : World → ℕ → ℕ
done_of w g = done_in (slice_get w.holders.items g)

-- the world after the start of a run
pub record WorldStarts (code : Code) (sizes : Sizes) (w : World) : Type 0 where
  pub code_is : w.code.now ≡ code
  pub sizes_are : w.sizes ≡ sizes
  pub print : w.state.printed ≡ []
  pub between : Between w (region_start code)

-- two have met, or there was no such step and nothing changed
pub record WorldMeets (w v : World) (s : RegionState) (receiver sender : ℕ) : Type 0 where
  pub events : List Event
  pub state : RegionState
  pub leads : Leads (roomy_step w.code.now w.sizes) s events state
  pub steps : tac_step (erased w.code.now) (plain_at s w.state.printed) (Meet receiver sender)
      ≡ Some (plain_at state v.state.printed)
  pub between : Between v state
  pub code : v.code.now ≡ w.code.now
  pub sizes : v.sizes ≡ w.sizes
  pub prints : SamePrint w v s state

-- the turn that ends because a step with a region was not done
abbrev pub halted : Halt → Turned
halted halt.NoMemory = record { steps = 0; stop = stop.NoMemory }
halted (halt.NoRoom why) = record { steps = 0; stop = stop.NoRoom why }

abbrev pub TriesMeeting : World → World → (receiver sender : ℕ) → Result Bool AllocError → Type 0
TriesMeeting w v receiver sender (Ok true) = (s : RegionState) → Between w s → WorldMeets w v s receiver sender
TriesMeeting w v receiver sender (Ok false) =
    (v ≡ w) × ((s : RegionState) → Between w s
    → tac_step (erased w.code.now) (plain_at s w.state.printed) (Meet receiver sender) ≡ None)
TriesMeeting w v receiver sender (Err e) = SameRun w v

-- ---- kinds of next instructions

-- it neither calls, starts nor returns
abbrev pub ActsBy : Op → Type 0
ActsBy (Call to n from) = ⊥
ActsBy (Go n from) = ⊥
ActsBy (Return value) = ⊥
ActsBy (Do to action from) = Unit {0}
ActsBy (Print pieces from) = Unit {0}
ActsBy (Jump target) = Unit {0}
ActsBy (Branch test target other) = Unit {0}

abbrev pub ActsNext : Next → Type 0
ActsNext next = ActsBy (operation_of next.op)

abbrev pub CallsNext : Next → ℕ → Type 0
CallsNext next callee = (to : Option ℕ) × (from : List ℕ) × (operation_of next.op ≡ Call to callee from)

abbrev pub StartsNext : Next → ℕ → Type 0
StartsNext next callee = (from : List ℕ) × (operation_of next.op ≡ Go callee from)

-- the next instruction of goroutine g is a return
abbrev pub ReturnsNext : World → ℕ → Type 0
ReturnsNext w g = (next : Next) × IsNextInWorld w g next × (value : Option ℕ) × (operation_of next.op ≡ Return value)

-- ---- the newest frame

abbrev pub first_frame_of : Option (List TacFrame) → Option TacFrame
first_frame_of None = None
first_frame_of (Some []) = None
first_frame_of (Some (frame ∷ callers)) = Some frame

abbrev pub newest_of : World → ℕ → Option TacFrame
newest_of w g = first_frame_of (slice_get w.state.goroutines g)

abbrev pub current_instr : World → TacFrame → Option CodeInstr
current_instr w frame = current w.code.now frame

-- the goroutine has returned, does not exist, or has no next instruction
abbrev pub GoroutineHasNoNext : World → ℕ → Type 0
GoroutineHasNoNext w g = (frame : TacFrame) → newest_of w g ≡ Some frame → current_instr w frame ≡ None

-- a frame's caller is at this instruction; there is no caller, or no such instruction
abbrev pub IsCallBelow : World → List TacFrame → Next → Type 0
IsCallBelow w callers next = (caller : TacFrame) × (below : List TacFrame) × (callers ≡ caller ∷ below) × IsNextInFrame w.code.now caller next

abbrev pub NoCallBelow : World → List TacFrame → Type 0
NoCallBelow w callers = (caller : TacFrame) (below : List TacFrame) → callers ≡ caller ∷ below → current_instr w caller ≡ None
