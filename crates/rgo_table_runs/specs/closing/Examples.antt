-- What a driver has at the end of a run, as the definitions say, and what must not pass for it.
use Rattle.std.specs.Prelude.{◌≡◌, ◌≤◌, ℕ, List, [], ◌∷◌, Some, None, map}
use Rattle.rgo_sound.specs.Code.Checked.{IsChecked}
use Rattle.rgo_sound.specs.Code.Code.{Code}
use Rattle.rgo_sound.specs.Code.NameRules.{Ascends}
use Rattle.rgo_core.specs.Core.{Setup}
use Rattle.rgo_core.specs.runs.Opening.{first_of, opening_table}
use Rattle.rgo_core.specs.Records.{ClockRec, Record, begins_with, blank, drawn_at, fresh, with_child, with_end, with_print}
use Rattle.rgo_core.specs.Frames.shown.Constants.{ConstantsFit}
use Rattle.rgo_core.specs.Frames.goroutines.Opening.{no_record}
use Rattle.rgo_core.specs.Rule.Views.{Rows, view}
use Rattle.rgo_core_steps.specs.Outcomes.{ClosesTable}
use Rattle.rgo_sound.specs.Machine.declared.ends.RunEnd.TheVariants as run_end
use Rattle.rgo_sound.specs.Machine.Limits.{most_goroutines}
use Rattle.rgo_sound.specs.Machine.declared.limits.Limits.{Limits}
use Rattle.rgo_sound.specs.Machine.declared.limits.Sizes.{Sizes}
use Rattle.rgo_sound.specs.Machine.declared.picks.End.TheVariants.{Exit}
use Rattle.rgo_sound.specs.RegionMachine.States.{Ended, RegionState, Stopped}
use Rattle.rgo_sound.specs.RegionMachine.declared.limits.Limit.TheVariants.{Calls, Memory}
use Rattle.rgo_sound.specs.Tally.{no_share}
use Rattle.rgo_table_runs.specs.closing.Ends.{TableRunEnds, GaveOut, IsFirst, run_end_of_mark}
use Rattle.rgo_table_runs.specs.closing.Gathering.{AreGathered, HasShares, numbered_rows, sum_of}
use Rattle.rgo_table_runs.specs.closing.Laws.{HasClosed}
use Rattle.rgo_table_runs.specs.closing.Members.{NoneIsLost, retired}
use Rattle.rgo_table_runs.specs.closing.Prints.{AllGiven, TicketsInOrder, bytes_of}
use Rattle.rgo_table_runs.specs.closing.Rows.{AreAll, all_shares}

-- a goroutine with this clock
abbrev pub with_clock : ClockRec → Record
with_clock clock = record (begins_with no_record) { clock = clock }

abbrev pub row_of_main : Rows Record
row_of_main = (0, with_clock fresh) ∷ []

-- `main` has started goroutine 1
abbrev pub parent_record : Record
parent_record = with_clock (with_child fresh 1)

abbrev pub family : Rows Record
family = (0, parent_record) ∷ (1, with_clock blank) ∷ []

-- goroutine 1 has printed before `main`
abbrev pub printers : Rows Record
printers = (0, with_clock (with_print fresh 1 (7 ∷ 8 ∷ []))) ∷ (1, with_clock (with_print blank 0 (9 ∷ []))) ∷ []

-- `main` has returned
abbrev pub exited : Rows Record
exited = (0, with_clock (with_end fresh 0 (Ended Exit))) ∷ []

pub record TableClosingExamples : Type 0 where
  -- ---- rows
  pub all : AreAll (view family []) family
  -- the row of a child is missing
  pub fewer : AreAll (view family []) ((0, parent_record) ∷ []) → ⊥
  pub swapped : AreAll (view family []) ((1, with_clock blank) ∷ (0, parent_record) ∷ []) → ⊥
  -- it is of no goroutine of the table
  pub unknown : AreAll (view [] []) row_of_main → ⊥
  pub shares : all_shares family ≡ record no_share { steps = 1; goroutines = 2 }
  pub by_number : numbered_rows (parent_record ∷ with_clock blank ∷ []) ≡ family
  -- goroutine 1 has counted nothing, and has no place
  pub shared : HasShares (view family []) (parent_record.clock.share ∷ [])
  pub unshared : HasShares (view family []) [] → ⊥
  -- a share of no goroutine
  pub nobodys : HasShares (view row_of_main []) (fresh.share ∷ record no_share { steps = 1 } ∷ []) → ⊥
  pub sum : sum_of (parent_record.clock.share ∷ no_share ∷ []) ≡ record no_share { steps = 1; goroutines = 2 }
  -- ---- prints
  pub gathered : AreGathered printers (drawn_at 0 (9 ∷ []) ∷ drawn_at 1 (7 ∷ 8 ∷ []) ∷ []) []
  -- it could have been given out
  pub withheld : AreGathered printers (drawn_at 0 (9 ∷ []) ∷ []) (drawn_at 1 (7 ∷ 8 ∷ []) ∷ []) → ⊥
  pub ungathered : AreGathered printers (drawn_at 0 (9 ∷ []) ∷ []) [] → ⊥
  pub in_order : TicketsInOrder printers (drawn_at 0 (9 ∷ []) ∷ drawn_at 1 (7 ∷ 8 ∷ []) ∷ [])
  pub by_place : TicketsInOrder printers (drawn_at 1 (7 ∷ 8 ∷ []) ∷ drawn_at 0 (9 ∷ []) ∷ []) → ⊥
  pub void : (rows : Rows Record) → TicketsInOrder rows (drawn_at 9223372036854775808 (9 ∷ []) ∷ []) → ⊥
  pub none_left : AllGiven row_of_main []
  pub one_left : AllGiven printers (drawn_at 0 (9 ∷ []) ∷ []) → ⊥
  pub bytes : bytes_of (drawn_at 0 (9 ∷ []) ∷ drawn_at 1 (7 ∷ 8 ∷ []) ∷ []) ≡ 9 ∷ 7 ∷ 8 ∷ []
  -- ---- members
  pub none_lost : NoneIsLost (map retired printers) (drawn_at 0 (9 ∷ []) ∷ drawn_at 1 (7 ∷ 8 ∷ []) ∷ [])
  pub lost_print : NoneIsLost (map retired printers) (drawn_at 0 (9 ∷ []) ∷ []) → ⊥
  pub lost_child : NoneIsLost (map retired ((0, parent_record) ∷ [])) [] → ⊥
  -- a print that nobody has made
  pub made_up : NoneIsLost (map retired row_of_main) (drawn_at 0 (9 ∷ []) ∷ []) → ⊥
  -- ---- ends
  pub set : IsFirst exited (Some (Ended Exit))
  pub not_set : IsFirst exited None → ⊥
  pub another : IsFirst exited (Some (Stopped Memory)) → ⊥
  pub too_deep : run_end_of_mark (Stopped Calls) ≡ run_end.CallsTooDeep
  -- it has made the five steps that it may make, three when that was tested before
  pub spent : (code : Code) (sizes : Sizes) (limits : Limits) (s : RegionState) → limits.steps ≡ 5 → TableRunEnds code sizes limits 3 5 s None run_end.StepsSpent
  pub unspent : (code : Code) (sizes : Sizes) (limits : Limits) (s : RegionState) → limits.steps ≡ 5 → TableRunEnds code sizes limits 3 4 s None run_end.StepsSpent → ⊥
  -- it says that a run has exited that no goroutine has ended
  pub unended : (code : Code) (sizes : Sizes) (limits : Limits) (s : RegionState) → TableRunEnds code sizes limits 3 4 s None (run_end.Ended Exit) → ⊥
  pub ended : (code : Code) (sizes : Sizes) (limits : Limits) (s : RegionState) → TableRunEnds code sizes limits 3 4 s (Some (Ended Exit)) (run_end.Ended Exit)
  -- ---- what was given out
  pub gave : GaveOut printers (drawn_at 0 (9 ∷ []) ∷ drawn_at 1 (7 ∷ 8 ∷ []) ∷ []) run_end.Deadlock (Some (6 ∷ [])) (Some (6 ∷ 9 ∷ 7 ∷ 8 ∷ []))
  -- only where memory ran out may a print be left
  pub gave_one : GaveOut printers (drawn_at 0 (9 ∷ []) ∷ []) run_end.NoMemory (Some (6 ∷ [])) (Some (6 ∷ 9 ∷ []))
  pub kept_one : GaveOut printers (drawn_at 0 (9 ∷ []) ∷ []) run_end.Deadlock (Some (6 ∷ [])) (Some (6 ∷ 9 ∷ [])) → ⊥
  -- some of a print
  pub gave_some : GaveOut printers (drawn_at 0 (9 ∷ []) ∷ drawn_at 1 (7 ∷ 8 ∷ []) ∷ []) run_end.WriteFault (Some (6 ∷ [])) (Some (6 ∷ 9 ∷ 7 ∷ []))
  -- ---- the whole
  -- a table that is closed as it was opened
  pub closed : (T : Setup) → IsChecked T.code → Ascends T.code → ConstantsFit T.code → most_goroutines T.limits ≤ 1000000
      → (e : ClosesTable T (opening_table T) (view ((0, first_of T.code) ∷ []) []))
      × HasClosed T (opening_table T) (view ((0, first_of T.code) ∷ []) []) e ((0, first_of T.code) ∷ []) [] None 0 run_end.NoMemory None None
  -- it has no row
  pub nobody : (T : Setup) (words : List ℕ) (e : ClosesTable T words (view [] [])) (rows : Rows Record)
      → HasClosed T words (view [] []) e rows [] None 0 run_end.NoMemory None None → ⊥
