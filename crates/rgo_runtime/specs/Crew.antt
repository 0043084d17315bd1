-- The goroutines of a run, as their driver keeps them. Each is in one of four lists; a step of the driver moves goroutines between them,
-- and `KeepsAll` says that none and no print is lost on the way.
use Rattle.std.specs.List.{All}
use Rattle.std.specs.Prelude.{◌≡◌, ℕ, List, [], ◌∷◌, ◌++◌, IsPermutation, Option, None, length, map}
use Rattle.atomic_table.specs.Seated.{TableId}
use Rattle.rgo_table_runs.specs.Goroutine.Acts.Runs.{Run}
use Rattle.rgo_table_runs.specs.Goroutine.Acts.declared.prints.Print.{Print}
use Rattle.rgo_core.specs.Records.{Record}
use Rattle.rgo_core.specs.Memory.Words.{clock_at}
use Rattle.rgo_core.specs.Rule.Views.{HasRow, Me}
use Rattle.rgo_core_steps.specs.Seats.{IsSeatOf}
use Rattle.rgo_core_steps.specs.declared.clock.Mark.{Mark}
use Rattle.rgo_table_runs.specs.Goroutine.Goroutines.{IsOf}
use Rattle.rgo_table_runs.specs.Goroutine.Instructions.{TableHasPages}
use Rattle.rgo_table_runs.specs.Goroutine.Turns.{HasFinished}
use Rattle.rgo_table_runs.specs.Goroutine.declared.goroutine.Goroutine.{Goroutine}
use Rattle.rgo_sound.specs.RegionMachine.Counts.{Counts}
use Rattle.rgo_table_runs.specs.closing.Members.{Member, NoneIsLost, retired}
use Rattle.rgo_runtime.specs.Crews.{AreRetired, IsNewborn, IsOfCrew, DriverKeeps, drawn, its_goroutine, end_mark, member_of, members, turning}
use Rattle.rgo_runtime.specs.Parking.{parked_values}
use Rattle.rgo_runtime.specs.Passing.{IsBehind, IsPass}
use Rattle.rgo_runtime.specs.Turns.{Turn}
use Rattle.rgo_runtime.specs.declared.deadlock.Passed.{Passed}

pub record Crew : Type 0 where
  pub run : Run
  -- the seat of the driver, with the records of those that have retired
  pub table : TableId
  pub me : Me Record
  -- those that have turns in the next round; those that wait at words of the table; those that were started in the last round
  pub ready : List Turn
  pub parked : List (ℕ × Turn)
  pub born : List Goroutine
  -- prints that have not gone out, and the first ticket that has not
  pub waiting : List Print
  pub next : ℕ
  -- what those that have retired have counted, and how one of them has ended the run
  pub shares : List Counts
  pub first : Option Mark

-- The invariant of a crew: all goroutines are of the run, and what is said of those that have retired is so. `over` is needed for a check
-- for a deadlock, which asks nothing of them: they must have ended.
pub record IsRunCrew (c : Crew) : Type 0 where
  pub seat : IsSeatOf c.table c.run.table clock_at
  pub pages : TableHasPages c.run
  pub ready : All (IsOfCrew c.run (length c.shares)) c.ready
  pub parked : All (IsOfCrew c.run (length c.shares)) (parked_values c.parked)
  pub born : All (IsNewborn c.run) c.born
  pub retired : AreRetired c.me.0.records c.shares (end_mark c.first)
  pub over : (g : ℕ) (its : Record) → HasRow c.me.0.records g its → HasFinished its

-- All goroutines, as members. `NoneIsLost` does not depend on the order, so a goroutine may change its list.
abbrev pub crew_members : Crew → List Member
crew_members c = turning c.ready ++ (turning (parked_values c.parked) ++ (members c.run.setup c.born ++ map retired c.me.0.records))

-- Nobody was lost, and no print, by a step of the driver. It is transitive: a round is proved from its parts.
abbrev pub KeepsAll : (old new : Crew) → Type 0
KeepsAll old new = DriverKeeps (crew_members old) (drawn old.waiting) (crew_members new) (drawn new.waiting)

-- Those that had not retired have had a pass. Only they and the seat of the driver have changed. `before` and `after` are in the order of
-- the pass, which need not be that of the run queue.
pub record HasPassedAll (old new : Crew) (passed : Passed) : Type 0 where
  pub before : List Goroutine
  pub after : List Goroutine
  pub of_old : IsPermutation (map its_goroutine old.ready) before
  pub of_new : IsPermutation after (map its_goroutine new.ready)
  pub pass : IsPass old.run new.me before after passed
  pub of : All (IsOf old.run) after
  pub behind : All (IsBehind new.me.0.seen) after
  pub rows : new.me.0.records ≡ old.me.0.records
  pub rest : new ≡ record old { ready = new.ready; me = new.me }

pub record WholeCrewExamples : Type 0 where
  pub nobody : (c : Crew) → IsSeatOf c.table c.run.table clock_at → TableHasPages c.run → c.ready ≡ [] → c.parked ≡ [] → c.born ≡ []
      → c.me.0.records ≡ [] → c.shares ≡ [] → c.first ≡ None → IsRunCrew c
  -- one has no place for what it counts
  pub no_place : (c : Crew) (t : Turn) → c.ready ≡ t ∷ [] → c.shares ≡ [] → IsRunCrew c → ⊥
  -- one has retired that has a frame
  pub not_over : (c : Crew) (r : Record) → c.me.0.records ≡ (0, r) ∷ [] → (r.frame.frames ≡ [] → ⊥) → IsRunCrew c → ⊥
  -- one that was ready is lost
  pub lost : (c : Crew) (go : Goroutine) → NoneIsLost (member_of c.run.setup go ∷ []) (drawn c.waiting) → c.ready ≡ [] → c.parked ≡ []
      → c.born ≡ [] → c.me.0.records ≡ [] → (old : Crew) → crew_members old ≡ member_of c.run.setup go ∷ [] → old.waiting ≡ c.waiting
      → KeepsAll old c → ⊥
  pub all_passed : (c : Crew) (passed : Passed) → c.ready ≡ [] → IsPass c.run c.me [] [] passed → HasPassedAll c c passed
  -- one that was ready took no part in it
  pub left_out : (old new : Crew) (t : Turn) (passed : Passed) (k : HasPassedAll old new passed) → old.ready ≡ t ∷ [] → k.before ≡ [] → ⊥
  -- it has taken one that was ready away
  pub gone : (old new : Crew) (t : Turn) (passed : Passed) → old.ready ≡ t ∷ [] → new.ready ≡ [] → HasPassedAll old new passed → ⊥
