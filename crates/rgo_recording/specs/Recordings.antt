-- The recorded run of code: it ends as a run does, and what was noted of it leads to the state in which it ended.
use Rattle.std.specs.Prelude.{◌≡◌, ℕ, List, [], Option, All}
use Rattle.rgo_machine.specs.declared.limits.Limits.{Limits}
use Rattle.rgo_machine.specs.declared.limits.Sizes.{Sizes}
use Rattle.rgo_tac.specs.Tac.{tac, tac_start}
use Rattle.rgo_code.specs.Code.{Code}
use Rattle.rgo_code.specs.Erasure.{erased}
use Rattle.rgo_journal.specs.Replays.{TakesPicks}
use Rattle.rgo_journal.specs.Text.{PickFits}
use Rattle.rgo_round_robin.specs.Runs.{RunsTo}
use Rattle.rgo_region_interpreter.specs.Views.{view_of}
use Rattle.rgo_recording.specs.declared.recording.Recorded.{Recorded}
use Rattle.rgo_recording.specs.Notes.{noted_picks}

-- a run of this code from its start that was recorded and has ended, with what `out` held before and after
pub record Records (code : Code) (sizes : Sizes) (limits : Limits) (old new : Option (List ℕ)) (r : Recorded) : Type 0 where
  -- it has ended as a run in rounds does
  pub runs : RunsTo (view_of r.world) (tac (erased code)) limits [] (tac_start (erased code)) r.end old new
  -- the picks that were noted are a run of the code without its regions, to the same state
  pub noted : TakesPicks (erased code) (noted_picks r.notes) runs.runs.state
  -- and each can be in a journal
  pub fit : All PickFits (noted_picks r.notes)
  -- it is one of this code, in regions of these sizes
  pub fixed : ◌≡◌ {A = Code × Sizes} (r.world.code.now, r.world.sizes) (code, sizes)
