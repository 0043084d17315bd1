-- Goroutines that have no more turns: what their driver has of them then. They can be lost in part only if memory was refused before, and
-- then `is_whole` is false; the clauses that need all of them have it as a premise.
use Rattle.std.specs.List.{All}
use Rattle.std.specs.Prelude.{◌≡◌, ◌<◌, ℕ, false, true, List, [], ◌∷◌, ◌++◌, IsPermutation, length, map}
use Rattle.rgo_core.specs.Core.{Setup}
use Rattle.rgo_core.specs.Records.{Record}
use Rattle.rgo_table_runs.specs.Goroutine.Goroutines.{record_of_goroutine}
use Rattle.rgo_table_runs.specs.Goroutine.declared.goroutine.Goroutine.{Goroutine}
use Rattle.rgo_table_runs.specs.closing.Members.{retired}
use Rattle.rgo_runtime.specs.Crew.{Crew}
use Rattle.rgo_runtime.specs.Crews.{AreRetired, DriverKeeps, KeepsMembers, its_goroutine, end_mark, members}
use Rattle.rgo_runtime.specs.Parking.{parked_values}
use Rattle.rgo_runtime.specs.Passing.{IsBehind}
use Rattle.rgo_runtime.specs.Turns.{Turn}
use Rattle.rgo_runtime.specs.declared.retiring.Left.{Left}

-- the row of a goroutine at the seat of its driver: its record, by its number
abbrev pub goroutine_row : Setup → Goroutine → ℕ × Record
goroutine_row T go = (go.number, record_of_goroutine T go)

abbrev pub turn_row : Setup → Turn → ℕ × Record
turn_row T t = goroutine_row T t.goroutine

-- All was taken from it, and there is a place for what it has counted. Such a goroutine can retire and need not be given up.
pub record IsEmptied (n : ℕ) (go : Goroutine) : Type 0 where
  pub prints : go.prints.items ≡ []
  pub children : go.children.items ≡ []
  pub place : go.number < n

-- Goroutines have left: their records are at the seat of their driver, which has lost none of them, and no print unless it says so. It is
-- transitive in `old` and `new`, so that a loop can let one leave after the other.
pub record HaveLeft (T : Setup) (gone : List Goroutine) (old new : Left) : Type 0 where
  pub own : new.seat.table_id ≡ old.seat.table_id
  pub places : length new.shares ≡ length old.shares
  pub whole : new.is_whole ≡ true → old.is_whole ≡ true
  pub emptied : old.is_whole ≡ true → All (IsEmptied (length old.shares)) gone → new.is_whole ≡ true
  pub rows : new.is_whole ≡ true → new.seat.me.0.records ≡ old.seat.me.0.records ++ map (goroutine_row T) gone
  pub seen : new.is_whole ≡ true → All (IsBehind old.seat.me.0.seen) gone → new.seat.me.0.seen ≡ old.seat.me.0.seen
  pub kept : new.is_whole ≡ true
      → DriverKeeps (members T gone ++ map retired old.seat.me.0.records) [] (map retired new.seat.me.0.records) []
  pub members : KeepsMembers (members T gone ++ map retired old.seat.me.0.records) (map retired new.seat.me.0.records)
  pub retired : AreRetired old.seat.me.0.records old.shares (end_mark old.first)
      → AreRetired new.seat.me.0.records new.shares (end_mark new.first)

-- All goroutines have left that a driver had like this. `begin` is what it had of them before the first left; it is not a parameter, since
-- no caller sees it.
pub record HaveAllLeft (old : Crew) (new : Left) : Type 0 where
  pub gone : List Goroutine
  pub all : IsPermutation gone (map its_goroutine old.ready ++ (map its_goroutine (parked_values old.parked) ++ old.born))
  pub begin : Left
  pub own : begin.seat.table_id ≡ old.table
  pub is : (begin.seat.me ≡ old.me) × (begin.shares ≡ old.shares) × (begin.first ≡ old.first) × (begin.is_whole ≡ true)
  pub left : HaveLeft old.run.setup gone begin new

pub record LeavingExamples : Type 0 where
  pub nobody : (T : Setup) (left : Left) → HaveLeft T [] left left
  -- the row of one that has left is missing
  pub lost : (T : Setup) (go : Goroutine) (left : Left) → left.is_whole ≡ true → HaveLeft T (go ∷ []) left left → ⊥
  -- it reports that nothing is lost, when something was lost before
  pub made_whole : (T : Setup) (old new : Left) → (old.is_whole ≡ true → ⊥) → new.is_whole ≡ true → HaveLeft T [] old new → ⊥
  -- it says that something is lost of one from which all was taken
  pub thrown_away : (T : Setup) (go : Goroutine) (old new : Left) → old.is_whole ≡ true → new.is_whole ≡ false
      → IsEmptied (length old.shares) go → HaveLeft T (go ∷ []) old new → ⊥
