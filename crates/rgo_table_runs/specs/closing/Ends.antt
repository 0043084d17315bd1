-- Why a driver says that a run has ended so. The mark of a goroutine decides if one is set; the driver's own reasons must follow from
-- the state of the run, since nobody has marked them.
use Rattle.std.specs.Io.KnownBytes.{Appends}
use Rattle.std.specs.Prelude.{◌≡◌, ◌<◌, ◌≤◌, ℕ, max, List, Option, Some, None, ⊤}
use Rattle.rgo_sound.specs.Code.Code.{Code}
use Rattle.rgo_sound.specs.Code.Erasure.{erased}
use Rattle.rgo_core.specs.Records.{Drawn, Record}
use Rattle.rgo_core.specs.Rule.Views.{HasRow, Rows}
use Rattle.rgo_sound.specs.Machine.Ends.{AppendsSome}
use Rattle.rgo_sound.specs.Machine.declared.ends.RunEnd.{RunEnd}
use Rattle.rgo_sound.specs.Machine.declared.ends.RunEnd.TheVariants as run_end
use Rattle.rgo_sound.specs.Machine.Deadlocks.{IsDeadlock}
use Rattle.rgo_sound.specs.Machine.declared.limits.Limits.{Limits}
use Rattle.rgo_sound.specs.Machine.declared.limits.Sizes.{Sizes}
use Rattle.rgo_sound.specs.Machine.declared.limits.Shortage.TheVariants as shortage
use Rattle.rgo_sound.specs.RegionMachine.Room.{LacksIn}
use Rattle.rgo_sound.specs.RegionMachine.States.{Ended, Mark, RegionState, Stopped}
use Rattle.rgo_sound.specs.RegionMachine.declared.limits.Limit.{Limit}
use Rattle.rgo_sound.specs.RegionMachine.declared.limits.Limit.TheVariants as limit
use Rattle.rgo_sound.specs.Tac.Tac.{tac}
use Rattle.rgo_table_runs.specs.closing.Prints.{AllGiven, bytes_of}

-- which end mark some goroutine has set, or that none has
abbrev pub IsFirst : Rows Record → Option Mark → Type 0
IsFirst rows None = (g : ℕ) (c : Record) → HasRow rows g c → c.clock.first ≡ None
IsFirst rows (Some mark) = (g : ℕ) × (c : Record) × HasRow rows g c × (c.clock.first ≡ Some mark)

-- ---- the end of the run

abbrev pub end_of_limit : Limit → RunEnd
end_of_limit limit.Pages = run_end.NoRoom shortage.Pages
end_of_limit limit.Regions = run_end.NoRoom shortage.Regions
end_of_limit limit.ObjectSize = run_end.NoRoom shortage.ObjectSize
end_of_limit limit.Calls = run_end.CallsTooDeep
end_of_limit limit.Goroutines = run_end.GoroutinesSpent
end_of_limit limit.Memory = run_end.NoMemory

abbrev pub run_end_of_mark : Mark → RunEnd
run_end_of_mark (Ended end) = run_end.Ended end
run_end_of_mark (Stopped limit) = end_of_limit limit

-- `steps` were made by the end, and `tested` when the limit of steps was tested before
module _ (code : Code) (sizes : Sizes) (limits : Limits) (tested steps : ℕ) (s : RegionState) where
  -- The mark says it. Without a mark, the driver ends the run: for a deadlock, because the steps were spent, or for want of
  -- pages or regions. That it has no memory, or cannot write, goes before all this.
  abbrev pub TableRunEnds : Option Mark → RunEnd → Type 0
  TableRunEnds first run_end.NoMemory = ⊤
  TableRunEnds first run_end.WriteFault = ⊤
  TableRunEnds (Some mark) end = run_end_of_mark mark ≡ end
  TableRunEnds None run_end.Deadlock = IsDeadlock (tac (erased code)) s.plain
  TableRunEnds None run_end.StepsSpent = (limits.steps ≤ steps) × (tested ≤ steps) × (tested < max 1 limits.steps)
  TableRunEnds None (run_end.NoRoom why) = LacksIn code sizes why s
  TableRunEnds None end = ⊥

-- ---- what was given out

-- The prints that were given out: all. If memory has run out, those for which there was memory; if a write has failed, those before it.
abbrev pub GaveOut : Rows Record → List Drawn → RunEnd → Option (List ℕ) → Option (List ℕ) → Type 0
GaveOut rows given run_end.NoMemory old new = Appends old new (bytes_of given)
GaveOut rows given run_end.WriteFault old new = AppendsSome old new (bytes_of given)
GaveOut rows given end old new = AllGiven rows given × Appends old new (bytes_of given)
