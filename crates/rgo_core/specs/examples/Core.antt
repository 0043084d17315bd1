-- Each definition where it holds and where it must not.
use Rattle.std.specs.Prelude.{◌≡◌, ◌≤◌, ℕ, true, List, [], ◌∷◌, Option, Some, None, slice_set}
use Rattle.rgo_sound.specs.Code.Code.{Code}
use Rattle.rgo_sound.specs.Machine.declared.limits.Limits.{Limits}
use Rattle.rgo_sound.specs.Machine.declared.limits.Sizes.{Sizes}
use Rattle.rgo_sound.specs.Machine.declared.picks.End.TheVariants.{Exit}
use Rattle.rgo_sound.specs.RegionMachine.Machine.{Event, TakePage, region_start}
use Rattle.rgo_sound.specs.RegionMachine.Room.{StateFitsIn, pages_in_use}
use Rattle.rgo_sound.specs.RegionMachine.States.{Ended, Mark, RegionState, Stopped}
use Rattle.rgo_sound.specs.RegionMachine.declared.limits.Limit.TheVariants.{Memory, Regions}
use Rattle.rgo_sound.specs.Tally.{no_share}
use Rattle.rgo_core.specs.runs.Causes.{IsCause}
use Rattle.rgo_core.specs.ties.Clock.{Clock}
use Rattle.rgo_core.specs.moves.Clock.{first_mark}
use Rattle.rgo_core.specs.Core.{Core, Situation, Setup}
use Rattle.rgo_core.specs.ties.Numbers.{Numbers}
use Rattle.rgo_core.specs.runs.Opening.{first_of, opening_table}
use Rattle.rgo_core.specs.Records.{ClockRec, Record, all_counted, blank, counted, drawn_at, fresh, with_child, with_end, with_print, with_refusal}
use Rattle.rgo_core.specs.Steps.{MakesRegionStep}
use Rattle.rgo_core.specs.runs.Story.{Story}

-- a state that has printed these bytes, and the mark that it has
abbrev pub having_printed : Code → List ℕ → Option Mark → RegionState
having_printed code bytes mark = record (region_start code) {
  plain = record (region_start code).plain { printed = bytes };
  mark = mark;
}

-- two goroutines that have printed: the second was first
abbrev pub second_then_first : List ClockRec
second_then_first = with_print fresh 1 (7 ∷ 8 ∷ []) ∷ with_print blank 0 (9 ∷ []) ∷ []

-- `main` has set the end, and the other goroutine prints after that
abbrev pub ended_then_printed : List ClockRec
ended_then_printed = with_end fresh 0 (Ended Exit) ∷ with_print blank 9223372036854775808 (9 ∷ []) ∷ []

-- both goroutines have set the end
abbrev pub both_have_set : List ClockRec
both_have_set = with_end fresh 0 (Ended Exit) ∷ with_end blank 0 (Ended Exit) ∷ []

abbrev pub late_mark : Option Mark
late_mark = Some (Ended Exit)

-- the first goroutine has started the second
abbrev pub parent_and_child : List ClockRec
parent_and_child = with_child fresh 1 ∷ blank ∷ []

pub record ClockExamples : Type 0 where
  pub in_order : (code : Code) → Clock (2 ∷ []) second_then_first (having_printed code (9 ∷ 7 ∷ 8 ∷ []) None) ((9 ∷ []) ∷ (7 ∷ 8 ∷ []) ∷ []) []
  -- by place in the list of goroutines
  pub out_of_order : (code : Code) → Clock (2 ∷ []) second_then_first (having_printed code (7 ∷ 8 ∷ 9 ∷ []) None) ((7 ∷ 8 ∷ []) ∷ (9 ∷ []) ∷ []) [] → ⊥
  -- a ticket that the clock does not show
  pub unshown : (code : Code) (before late : List (List ℕ)) → Clock (1 ∷ []) second_then_first (having_printed code (9 ∷ 7 ∷ 8 ∷ []) None) before late → ⊥
  -- what is printed after the end is void
  pub late : (code : Code) → Clock (9223372036854775809 ∷ []) ended_then_printed (having_printed code [] late_mark) [] ((9 ∷ []) ∷ [])
  pub not_late : (code : Code) (before late : List (List ℕ)) → Clock (9223372036854775809 ∷ []) ended_then_printed (having_printed code (9 ∷ []) late_mark) before late → ⊥
  -- an end that no goroutine has set
  pub unset : (code : Code) (before late : List (List ℕ)) → Clock (9223372036854775808 ∷ []) (fresh ∷ []) (having_printed code [] late_mark) before late → ⊥
  -- an end that two goroutines have set
  pub set_twice : (code : Code) (before late : List (List ℕ)) → Clock (9223372036854775808 ∷ []) both_have_set (having_printed code [] late_mark) before late → ⊥
  pub ticket : drawn_at 9223372036854775811 (5 ∷ []) ≡ record { ticket = 3; bytes = 5 ∷ []; is_void = true }
  pub first_kept : (with_end (with_end fresh 4 (Ended Exit)) 9223372036854775812 (Stopped Memory)).first ≡ Some (Ended Exit)
  pub mark_kept : first_mark (Some (Ended Exit)) (Stopped Memory) ≡ Some (Ended Exit)

pub record NumberExamples : Type 0 where
  pub numbers : Numbers 3 2 parent_and_child
  -- the word counts both
  pub uncounted : Numbers 3 1 parent_and_child → ⊥
  -- nobody has started the second
  pub foundling : Numbers 3 2 (fresh ∷ blank ∷ []) → ⊥
  -- a number was refused, and is drawn for ever
  pub refused : Numbers 1 2 (with_refusal fresh ∷ [])
  pub refused_early : Numbers 3 1 (with_refusal fresh ∷ []) → ⊥
  pub sum : all_counted parent_and_child ≡ record no_share { steps = 1; goroutines = 2 }
  -- pages that are still to be freed count as returned
  pub owes : (counted (record blank { owed = 3 })).returned ≡ 3

pub record CauseExamples : Type 0 where
  -- memory may run out at any time; regions only if one is needed
  pub memory : (code : Code) (sizes : Sizes) (limits : Limits) (s : RegionState) → IsCause code sizes limits (Stopped Memory) s
  pub regions : (code : Code) (sizes : Sizes) (limits : Limits) (s : RegionState) → s.holders ≡ []
      → IsCause code sizes limits (Stopped Regions) s → ⊥

pub record CoreExamples : Type 0 where
  -- `main` is made as a table opens
  pub nobody : (T : Setup) (events : List Event) → Core T (opening_table T) [] events → ⊥
  -- no ticket is drawn
  pub drawn : (T : Setup) (events : List Event) → Core T (slice_set (opening_table T) 0 1) (first_of T.code ∷ []) events → ⊥

pub record TableRoomExamples : Type 0 where
  -- the run without a step
  pub none_yet : (T : Setup) → Story T.code T.sizes T.limits (opening_table T) (fresh ∷ []) [] (region_start T.code)
  -- more pages are in use, or more regions live, than there may be
  pub crowded : (T : Setup) (words : List ℕ) (recs : List Record) (events : List Event) (k : Core T words recs events) → (StateFitsIn T.sizes k.0 → ⊥) → ⊥
  -- a page is taken although none is left
  pub none_left : (T : Setup) (g : ℕ) (c d : Record) (x : Situation T g c) (words : List ℕ) (recs : List Record) (p : MakesRegionStep x words recs d)
      → p.event ≡ TakePage g → T.sizes.pages ≤ pages_in_use x.s → ⊥
