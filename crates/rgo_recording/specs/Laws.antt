-- What a replay does with the picks that were noted of a run: it ends as the run did, and prints the same. The run had regions and the
-- replay has none, so this is also a law about regions: they change nothing that can be seen.
use Rattle.std.specs.Prelude.{◌≡◌, ◌⊎◌, ℕ, List, Option, ⊤}
use Rattle.std.specs.Io.KnownBytes.{Appends}
use Rattle.rgo_machine.specs.declared.limits.Limits.{Limits}
use Rattle.rgo_machine.specs.declared.limits.Sizes.{Sizes}
use Rattle.rgo_code.specs.Code.{Code}
use Rattle.rgo_code.specs.Erasure.{erased}
use Rattle.rgo_machine.specs.Ends.{RunPrints}
use Rattle.rgo_machine.specs.declared.ends.RunEnd.{RunEnd}
use Rattle.rgo_machine.specs.declared.ends.RunEnd.TheVariants as run_end
use Rattle.rgo_journal.specs.Laws.{IsFaultlessEnd}
use Rattle.rgo_journal.specs.Replays.{Replays}
use Rattle.rgo_journal.specs.declared.replays.ReplayEnd.{ReplayEnd}
use Rattle.rgo_journal.specs.declared.replays.ReplayEnd.TheVariants as replay_end
use Rattle.rgo_recording.specs.declared.recording.Recorded.{Recorded}
use Rattle.rgo_recording.specs.Notes.{noted_picks}
use Rattle.rgo_recording.specs.Recordings.{Records}

-- How a replay of what was noted of a run ends, by how the run ended. A run that was cut off has not ended, so its replay is
-- unfinished. If the steps were spent, there may be a deadlock just then. Where a run lacked room, or met a limit of calls or
-- of goroutines, some goroutine has a step on the three-address machine. If memory ran out or a write failed, nothing is said.
abbrev pub ReplaysAs : RunEnd → ReplayEnd → Type 0
ReplaysAs (run_end.Ended end) e = e ≡ replay_end.Ended end
ReplaysAs run_end.Deadlock e = e ≡ replay_end.Deadlock
ReplaysAs run_end.CallsTooDeep e = e ≡ replay_end.Unfinished
ReplaysAs run_end.GoroutinesSpent e = e ≡ replay_end.Unfinished
ReplaysAs run_end.StepsSpent e = (e ≡ replay_end.Unfinished) ⊎ (e ≡ replay_end.Deadlock)
ReplaysAs (run_end.NoRoom shortage) e = e ≡ replay_end.Unfinished
ReplaysAs run_end.WriteFault e = ⊤
ReplaysAs run_end.NoMemory e = ⊤

-- The replay ends so, and writes what the run has printed. If a write of the run failed, that is more than the run has written.
pub record ReplaysTheRun (end : RunEnd) (old new : Option (List ℕ)) (e : ReplayEnd) (before after : Option (List ℕ)) : Type 0 where
  pub ends : ReplaysAs end e
  pub bytes : List ℕ
  pub ran : RunPrints end bytes old new
  pub replayed : Appends before after bytes

-- What was noted of a run is replayed as that run, by each replay in which memory suffices and no write fails.
abbrev pub RecordedReplays : Type 0
RecordedReplays = (code : Code) (sizes : Sizes) (limits : Limits) (old new : Option (List ℕ)) (r : Recorded)
    → Records code sizes limits old new r
    → (e : ReplayEnd) (before after : Option (List ℕ)) → Replays (erased code) (noted_picks r.notes) e before after
    → IsFaultlessEnd e → ReplaysTheRun r.end old new e before after
