-- Each definition where it holds and where it must not.
use Rattle.std.specs.Prelude.{◌≡◌, ◌^◌, ◌+◌, ℕ, suc, true, [], ◌∷◌, Some, None, slice_set}
use Rattle.rgo_sound.specs.Code.Code.{Code, Do, Return}
use Rattle.rgo_core.specs.Frames.goroutines.Opening.{no_record}
use Rattle.rgo_core.specs.Rule.Views.{Me, view}
use Rattle.rgo_sound.specs.Machine.Limits.{most_goroutines}
use Rattle.rgo_sound.specs.Machine.declared.picks.End.TheVariants as the_end
use Rattle.rgo_sound.specs.Memory.declared.traps.Trap.{Trap}
use Rattle.rgo_sound.specs.Memory.declared.traps.Trap.TheVariants.{SendClosed}
use Rattle.rgo_sound.specs.RegionMachine.States.{Ended, RegionState, Stopped}
use Rattle.rgo_sound.specs.RegionMachine.declared.limits.Limit.TheVariants.{Memory}
use Rattle.rgo_sound.specs.Typed.declared.actions.Action.{Action}
use Rattle.rgo_core.specs.Core.{Setup}
use Rattle.rgo_core.specs.runs.Opening.{opening_table}
use Rattle.rgo_core.specs.Records.{Record, begins_with, blank, instructed, looked, steps_of, with_child, with_end, with_print}
use Rattle.rgo_core_steps.specs.After.{acting, given, piece}
use Rattle.rgo_core_steps.specs.Ends.{GoroutineEndsRun, InstrTraps, ending, mark_of}
use Rattle.rgo_core_steps.specs.Outcomes.{EndsOnce, HasFamily, OpensWith, PrintsInOrder}
use Rattle.rgo_core_steps.specs.Prints.{IsAtPrint}
use Rattle.rgo_core_steps.specs.Seats.{HasOne, HasTwo, NextIsLocal, mine, other, settled, settled_once}
use Rattle.rgo_core_steps.specs.Settled.{IsLocal}
use Rattle.rgo_core_steps.specs.Starts.{HasDrawn, IsBeforeGo, next_number, refusing}
use Rattle.rgo_core_steps.specs.declared.clock.Mark.TheVariants as given_mark

-- a goroutine that has no frame left
abbrev pub idle : Record
idle = begins_with no_record

-- seats with the records of two goroutines, of one and of none
abbrev pub pair : (g : ℕ) (c : Record) (h : ℕ) (d : Record) → Me Record
pair g c h d = (view ((g, c) ∷ (h, d) ∷ []) [], [])

abbrev pub single_seat : ℕ → Record → Me Record
single_seat g c = (view ((g, c) ∷ []) [], [])

abbrev pub empty : Me Record
empty = (view [] [], [])

pub record SeatExamples : Type 0 where
  pub one : (T : Setup) (c : Record) → HasOne T (single_seat 4 c)
  pub its : (T : Setup) (c : Record) → mine T (single_seat 4 c) ≡ c
  pub none : (T : Setup) → HasOne T empty → ⊥
  pub more : (T : Setup) (c d : Record) → HasOne T (pair 4 c 5 d) → ⊥
  pub two : (T : Setup) (c d : Record) → HasTwo T (pair 4 c 5 d) 5
  pub second : (T : Setup) (c d : Record) → other T (pair 4 c 5 d) ≡ d
  -- a goroutine starts only goroutines with a larger number
  pub earlier : (T : Setup) (c d : Record) → HasTwo T (pair 4 c 3 d) 3 → ⊥
  pub at_once : (T : Setup) (m : Me Record) → settled T 0 m ≡ mine T m
  -- without a frame no step is local
  pub stuck : (T : Setup) (g : ℕ) → settled_once T g idle ≡ idle
  pub not_quiet : (T : Setup) (g : ℕ) → NextIsLocal T g idle → ⊥
  pub local : (c : Record) → IsLocal c (record c { clock = instructed c.clock })
  -- a local step makes no access
  pub not_local : (c : Record) → IsLocal c (looked c) → ⊥

pub record AfterExamples : Type 0 where
  pub to : (action : Action) → given (Do (Some 3) action [] []) ≡ Some 3
  pub nowhere : given (Return (Some 3)) ≡ None
  -- a record without a frame has no next instruction
  pub stays : (code : Code) (word : ℕ) → acting code idle word ≡ idle
  pub silent : (code : Code) → piece code idle ≡ []
  pub no_print : (T : Setup) → IsAtPrint T idle → ⊥
  pub no_start : (T : Setup) → IsBeforeGo T idle → ⊥

pub record RunEndExamples : Type 0 where
  pub mark : mark_of (given_mark.Stopped Memory) ≡ Stopped Memory
  -- memory may run out at any time; a trap needs an instruction, and an exit is the return of `main`
  pub memory : (T : Setup) (g : ℕ) (c : Record) → GoroutineEndsRun T g c (Stopped Memory)
  pub no_trap : (T : Setup) (trap : Trap) → InstrTraps T idle trap → ⊥
  pub no_exit : (T : Setup) (g : ℕ) → GoroutineEndsRun T g idle (Ended the_end.Exit) → ⊥
  -- a trap counts its instruction, a limit does not
  pub counted : (code : Code) (c : Record) (n place : ℕ)
      → steps_of (ending code c n (Ended (the_end.Trap SendClosed place))) ≡ suc (steps_of c)
  pub uncounted : (code : Code) (c : Record) (n : ℕ) → steps_of (ending code c n (Stopped Memory)) ≡ steps_of c
  -- the goroutine that finds the clock without the end has set it, and no later one
  pub first : (code : Code) (c : Record) → (ending code c 7 (Stopped Memory)).clock.first ≡ Some (Stopped Memory)
  pub later : (code : Code) (c : Record) → (ending code c 9223372036854775815 (Stopped Memory)).clock.first ≡ c.clock.first

pub record StartExamples : Type 0 where
  pub next : next_number 3 ≡ 4
  pub wraps : next_number 18446744073709551615 ≡ 0
  pub refused : (c : Record) → (refusing c).clock.refused ≡ true
  -- if only one goroutine is allowed, none starts
  pub alone : (T : Setup) (q n : ℕ) (m w : Me Record) → most_goroutines T.limits ≡ 1 → HasDrawn T q m (Some (suc n)) w → ⊥

-- ---- outcomes

-- a goroutine that has ended the run, and some that have printed: before another, after it, and after the end
abbrev pub setter : Record
setter = record idle { clock = with_end blank 0 (Ended the_end.Exit) }

abbrev pub printed_first : Record
printed_first = record idle { clock = with_print blank 0 (9 ∷ []) }

abbrev pub printed_second : Record
printed_second = record idle { clock = with_print blank 1 (7 ∷ 8 ∷ []) }

abbrev pub printed_late : Record
printed_late = record idle { clock = with_print blank 9223372036854775808 (9 ∷ []) }

-- one that has started goroutine 1
abbrev pub parent : Record
parent = record idle { clock = with_child blank 1 }

pub record OutcomeExamples : Type 0 where
  pub one_end : (s : RegionState) → s.mark ≡ Some (Ended the_end.Exit) → EndsOnce (2 ^ 63 + 4) (idle ∷ setter ∷ []) s
  pub two_ends : (s : RegionState) (n : ℕ) → EndsOnce n (setter ∷ setter ∷ []) s → ⊥
  pub hidden : (s : RegionState) → EndsOnce 4 (setter ∷ []) s → ⊥
  pub other_mark : (s : RegionState) (n : ℕ) → s.mark ≡ Some (Stopped Memory) → EndsOnce n (setter ∷ []) s → ⊥
  -- by ticket, and not by the number of the goroutine
  pub in_order : PrintsInOrder (printed_second ∷ printed_first ∷ []) (9 ∷ 7 ∷ 8 ∷ [])
  pub out_of_order : PrintsInOrder (printed_second ∷ printed_first ∷ []) (7 ∷ 8 ∷ 9 ∷ []) → ⊥
  pub lost : PrintsInOrder (printed_second ∷ printed_first ∷ []) (9 ∷ []) → ⊥
  pub late : PrintsInOrder (printed_late ∷ []) []
  pub not_late : PrintsInOrder (printed_late ∷ []) (9 ∷ []) → ⊥
  pub family : HasFamily (view ((0, parent) ∷ (1, idle) ∷ []) [])
  pub no_child : HasFamily (view ((0, parent) ∷ []) []) → ⊥
  pub no_main : HasFamily (view ((1, idle) ∷ []) []) → ⊥
  pub ticketed : (T : Setup) → OpensWith T (slice_set (opening_table T) 0 1) → ⊥
