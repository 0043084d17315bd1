-- A recorded run that has ended is one of the world, and what was noted leads to its last state.
use Rattle.std.proofs.Common.{◌≡◌, ℕ, List, [], Option, sym, subst}
use Rattle.rgo_machine.specs.declared.limits.Limits.{Limits}
use Rattle.rgo_machine.specs.declared.limits.Sizes.{Sizes}
use Rattle.rgo_tac.specs.Tac.{tac, tac_start}
use Rattle.rgo_code.specs.Code.{Code}
use Rattle.rgo_code.specs.Erasure.{erased}
use Rattle.rgo_round_robin.specs.Runs.{RunsTo}
use Rattle.rgo_machine.specs.declared.ends.RunEnd.{RunEnd}
use Rattle.rgo_journal.specs.Replays.{TakesPicks}
use Rattle.rgo_recording.specs.declared.recorders.Recorder.{Recorder}
use Rattle.rgo_recording.specs.Notes.{noted_picks}
use Rattle.rgo_recording.specs.Recorders.{recorder_view}
use Rattle.rgo_recording.specs.Recordings.{Records}

pub records : (code : Code) (sizes : Sizes) (limits : Limits) (old new : Option (List ℕ)) (q : Recorder) (end : RunEnd)
    → ◌≡◌ {A = Code × Sizes} (q.world.code.now, q.world.sizes) (code, sizes)
    → RunsTo (recorder_view q) (tac (erased code)) limits [] (tac_start (erased code)) end old new
    → Records code sizes limits old new (record { world = q.world; notes = q.notes; end = end })
records code sizes limits old new q end fixed x = record {
  runs = record {
    runs = x.runs;
    before = x.before;
    whole = x.whole;
    left = record {
      is = x.left.is;
      leaves = x.left.leaves.reaches;
      shows = λ memory written. (x.left.shows memory written).stands;
      lacks = x.left.lacks;
    };
  };
  noted = subst (λ c. TakesPicks (erased c) (noted_picks q.notes) x.runs.state) (λ i. (fixed i).0)
      (subst (λ l. TakesPicks (erased q.world.code.now) (noted_picks q.notes) (record x.runs.state { printed = l }))
      (sym x.whole) x.left.leaves.lead.takes);
  fit = x.left.leaves.lead.fit;
  fixed = fixed;
}
