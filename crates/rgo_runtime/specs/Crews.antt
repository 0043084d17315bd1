-- What a driver keeps of the goroutines of a run, and that it loses nobody and nothing. A driver has many parts, each of which sees a few
-- goroutines; so a part is said to keep what it sees, whatever else there is.
use Rattle.std.specs.List.{AllZip}
use Rattle.std.specs.Option.{option_map}
use Rattle.std.specs.Prelude.{◌≡◌, ◌⊎◌, ◌<◌, ◌≤◌, ℕ, Bool, false, List, [], ◌∷◌, ◌++◌, Option, Some, None, length, map, slice_get}
use Rattle.rgo_table_runs.specs.Goroutine.Acts.Runs.{Run}
use Rattle.rgo_table_runs.specs.Goroutine.Acts.declared.prints.Print.{Print}
use Rattle.rgo_core.specs.Core.{Setup}
use Rattle.rgo_core.specs.Records.{Drawn, Record, begins_with, blank, steps_of}
use Rattle.rgo_core.specs.Frames.goroutines.Opening.{no_record}
use Rattle.rgo_core.specs.Rule.Views.{HasRow, Rows}
use Rattle.rgo_core_steps.specs.Ends.{mark_of}
use Rattle.rgo_core_steps.specs.declared.clock.Mark as clock
use Rattle.rgo_table_runs.specs.Goroutine.Goroutines.{IsOf, IsTidy, drawn_by, ungathered_prints, numbers, record_of_goroutine}
use Rattle.rgo_table_runs.specs.Goroutine.Turns.{HasFinished}
use Rattle.rgo_table_runs.specs.Goroutine.declared.goroutine.Goroutine.{Goroutine}
use Rattle.rgo_table_runs.specs.Goroutine.declared.turning.TableTurnEnd.TheVariants.{Ended}
use Rattle.rgo_table_runs.specs.Goroutine.declared.turning.Turned.{Turned}
use Rattle.rgo_sound.specs.RegionMachine.Counts.{Counts}
use Rattle.rgo_sound.specs.RegionMachine.States.{Mark}
use Rattle.rgo_sched.specs.Rounds.{RoundOf}
use Rattle.rgo_sound.specs.Tally.{no_share}
use Rattle.rgo_table_runs.specs.closing.Ends.{IsFirst}
use Rattle.rgo_table_runs.specs.closing.Gathering.{IsDrawnIn}
use Rattle.rgo_table_runs.specs.closing.Members.{SomeHasNumber, HasPrinted, ListHasNumber, IsOneOf, Member, NoneIsLost}
use Rattle.rgo_runtime.specs.Turns.{TurnIsTaken, Turn}

-- ---- members

-- A goroutine as its driver follows it: its record, and what was not taken from it yet, which are prints and children.
abbrev pub member_of : Setup → Goroutine → Member
member_of T go = record { number = go.number; its = record_of_goroutine T go; fresh = ungathered_prints go; unborn = numbers go.children.items }

abbrev pub members : Setup → List Goroutine → List Member
members T gos = map (member_of T) gos

-- prints as records have them
abbrev pub drawn : List Print → List Drawn
drawn prints = map drawn_by prints

-- What a part of a driver has done with these members and with the prints that wait: whatever other members there are, and whatever prints
-- were taken before those that wait, nobody and nothing was lost by it.
abbrev pub DriverKeeps : (old : List Member) → (before : List Drawn) → (new : List Member) → (after : List Drawn) → Type 0
DriverKeeps old before new after = (others : List Member) (given : List Drawn) → NoneIsLost (old ++ others) (given ++ before)
    → NoneIsLost (new ++ others) (given ++ after)

-- Nobody was lost, though prints may have been: `main` is one of the members, and so is each goroutine that one of them has started, unless
-- it was not yet adopted; and what was taken are prints of theirs that are not void.
pub record NobodyIsLost (ms : List Member) (taken : List Drawn) : Type 0 where
  pub main : SomeHasNumber ms 0
  pub children : (m : Member) (h : ℕ) → IsOneOf ms m → ListHasNumber m.its.clock.children h → SomeHasNumber ms h ⊎ ListHasNumber m.unborn h
  pub are : (d : Drawn) → IsDrawnIn taken d → (d.is_void ≡ false) × (m : Member) × IsOneOf ms m × HasPrinted m.its d

-- What a part of a driver has done with these members: whatever other members there are, and whatever prints were taken, nobody was lost
-- by it. Prints that were not gathered may be lost.
abbrev pub KeepsMembers : (old new : List Member) → Type 0
KeepsMembers old new = (others : List Member) (taken : List Drawn) → NobodyIsLost (old ++ others) taken → NobodyIsLost (new ++ others) taken

-- ---- goroutines that have not retired

abbrev pub its_member : Turn → Member
its_member t = member_of t.run.setup t.goroutine

abbrev pub its_goroutine : Turn → Goroutine
its_goroutine t = t.goroutine

-- Of this run and at rest, and with few enough instructions for a turn. It is `CanTurn` for a goroutine that has no time slice yet.
pub record MayTurn (r : Run) (go : Goroutine) : Type 0 where
  pub of : IsOf r go
  pub tidy : IsTidy (record_of_goroutine r.setup go)
  pub few : steps_of (record_of_goroutine r.setup go) < 8796093022208

abbrev pub turning : List Turn → List Member
turning ts = map its_member ts

-- It is of this run, and its number has a place among n shares, so that it can retire without memory.
pub record IsOfCrew (r : Run) (n : ℕ) (t : Turn) : Type 0 where
  pub run : t.run ≡ r
  pub place : t.goroutine.number < n
  -- if its last turn says that it has ended, so it has: the driver retires it by what the turn says
  pub ended : (turned : Turned) → t.turned ≡ Some turned → turned.stop ≡ Ended → HasFinished (record_of_goroutine r.setup t.goroutine)

-- the same turn, which may execute up to `slice` instructions
abbrev pub IsGivenSlice : ℕ → (before after : Turn) → Type 0
IsGivenSlice slice before after = (after ≡ record before { slice = after.slice }) × (after.slice ≤ slice)

-- Each of these was given a time slice of at most `slice` instructions, and then had one turn.
pub record HaveTurned (slice : ℕ) (before : List Turn) : Type 0 where
  pub given : List Turn
  pub after : List Turn
  pub went : Bool
  pub gives : AllZip (IsGivenSlice slice) before given
  pub turned : RoundOf TurnIsTaken given after went

-- One that was started, and has had no turn. It has counted nothing, so it needs no place among the shares.
pub record IsNewborn (r : Run) (go : Goroutine) : Type 0 where
  pub of : IsOf r go
  pub tidy : IsTidy (record_of_goroutine r.setup go)
  pub blank : (record_of_goroutine r.setup go).clock ≡ blank
  pub prints : go.prints.items ≡ []
  pub children : go.children.items ≡ []

-- ---- goroutines that have retired

-- the end mark that a goroutine reports to have set, as the definitions of a run write it
abbrev pub end_mark : Option clock.Mark → Option Mark
end_mark first = option_map mark_of first

-- What a driver has of them: none has anything under way; who has ended the run is known; and what each has counted is at the place of its
-- number, unless it has counted nothing and has no place. `others` is the converse, without which a sum over the places could be too large.
pub record AreRetired (rows : Rows Record) (shares : List Counts) (first : Option Mark) : Type 0 where
  pub tidy : (g : ℕ) (c : Record) → HasRow rows g c → IsTidy c
  pub is_first : IsFirst rows first
  pub its : (g : ℕ) (c : Record) → HasRow rows g c
      → ((d : Record) × HasRow rows g d × (slice_get shares g ≡ Some d.clock.share)) ⊎ ((length shares ≤ g) × (c.clock.share ≡ no_share))
  pub others : (g : ℕ) (share : Counts) → slice_get shares g ≡ Some share
      → ((c : Record) × HasRow rows g c × (c.clock.share ≡ share)) ⊎ (share ≡ no_share)

-- `main`, which has started a goroutine that was not adopted
abbrev pub main_with_child : Member
main_with_child = record {
  number = 0;
  its = record (begins_with no_record) { clock = record blank { children = 1 ∷ [] } };
  fresh = [];
  unborn = 1 ∷ [];
}

-- `main` has counted itself
abbrev pub main_itself : Record
main_itself = record (begins_with no_record) { clock = record blank { share = record no_share { goroutines = 1 } } }

-- a goroutine that has done nothing
abbrev pub newborn : ℕ → Member
newborn n = record { number = n; its = begins_with no_record; fresh = []; unborn = [] }

pub record CrewExamples : Type 0 where
  pub nothing_done : (ms : List Member) (ds : List Drawn) → DriverKeeps ms ds ms ds
  -- a member that may be `main` has left
  pub one_left : DriverKeeps (newborn 0 ∷ []) [] [] [] → ⊥
  -- where none is lost, nobody is
  pub weaker : (ms : List Member) (taken : List Drawn) → NoneIsLost ms taken → NobodyIsLost ms taken
  pub prints_lost : (m : Member) → KeepsMembers (m ∷ []) (record m { fresh = [] } ∷ [])
  pub child_comes : KeepsMembers (main_with_child ∷ []) (record main_with_child { unborn = [] } ∷ newborn 1 ∷ [])
  -- its child has not come
  pub child_lost : KeepsMembers (main_with_child ∷ []) (record main_with_child { unborn = [] } ∷ []) → ⊥
  pub none_yet : AreRetired [] [] None
  pub counted : AreRetired ((0, main_itself) ∷ []) (main_itself.clock.share ∷ []) None
  -- what it has counted is not at its place
  pub uncounted : AreRetired ((0, main_itself) ∷ []) (no_share ∷ []) None → ⊥
  -- nobody has ended the run
  pub made_up : (mark : Mark) → AreRetired [] [] (Some mark) → ⊥
  -- a goroutine that has made too many instructions
  pub may_not_turn : (r : Run) (go : Goroutine) → steps_of (record_of_goroutine r.setup go) ≡ 8796093022208 → MayTurn r go → ⊥
  pub has_place : (t : Turn) → t.goroutine.number ≡ 0 → t.turned ≡ None → IsOfCrew t.run 1 t
  pub no_place : (r : Run) (t : Turn) → IsOfCrew r 0 t → ⊥
  -- its last turn says that it has ended, and it has a frame
  pub not_over : (r : Run) (n : ℕ) (t : Turn) (turned : Turned) → t.turned ≡ Some turned → turned.stop ≡ Ended
      → ((record_of_goroutine r.setup t.goroutine).frame.frames ≡ [] → ⊥) → IsOfCrew r n t → ⊥
  pub is_given : (t : Turn) → IsGivenSlice 5 t (record t { slice = 3 })
  pub too_many : (t : Turn) → IsGivenSlice 5 t (record t { slice = 6 }) → ⊥
  pub none_turns : HaveTurned 5 []
  -- one had no turn
  pub had_none : (t : Turn) (k : HaveTurned 5 (t ∷ [])) → k.after ≡ [] → ⊥
  pub has_printed : (r : Run) (go : Goroutine) → (go.prints.items ≡ [] → ⊥) → IsNewborn r go → ⊥
