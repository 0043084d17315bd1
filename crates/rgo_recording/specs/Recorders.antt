-- A run with its regions whose steps are noted: what is known of it is what is known of the run, and that the picks that
-- were noted lead to where it is.
use Rattle.std.specs.Prelude.{ℕ, List, ◌++◌, All}
use Rattle.rgo_machine.specs.declared.limits.Sizes.{Sizes}
use Rattle.rgo_tac.specs.Frames.{TacFrame}
use Rattle.rgo_tac.specs.Tac.{TacState, tac}
use Rattle.rgo_code.specs.Code.{Code}
use Rattle.rgo_code.specs.Erasure.{erased}
use Rattle.rgo_journal.specs.declared.picks.TacPick.{TacPick}
use Rattle.rgo_journal.specs.Replays.{TakesPicks}
use Rattle.rgo_journal.specs.Text.{PickFits}
use Rattle.rgo_round_robin.specs.Running.{View}
use Rattle.rgo_region_interpreter.specs.Worlds.{WorldLacks, WorldReaches, IsWorldAt}
use Rattle.rgo_recording.specs.declared.recorders.Recorder.{Recorder}
use Rattle.rgo_recording.specs.Notes.{noted_picks}

-- These picks are a run of the code without its regions, and it leads to this state, where the print is all that was ever
-- printed: what was written before, and what has not been yet. Each can be in a journal.
pub record LeadTo (code : Code) (picks : List TacPick) (given : List ℕ) (s : TacState) : Type 0 where
  pub takes : TakesPicks (erased code) picks (record s { printed = given ++ s.printed })
  pub fit : All PickFits picks

-- the run is at this state, and so are the picks that were noted
pub record RecorderShows (r : Recorder) (given : List ℕ) (s : TacState) : Type 0 where
  pub stands : IsWorldAt r.world given s
  pub lead : LeadTo r.world.code.now (noted_picks r.notes) given s

-- What still holds of it once memory has run out: the notes are a run that leads to its state, so even then its journal can be replayed.
pub record RecorderLeaves (r : Recorder) (given : List ℕ) (s : TacState) : Type 0 where
  pub reaches : WorldReaches r.world given s
  pub lead : LeadTo r.world.code.now (noted_picks r.notes) given s

abbrev pub recorder_view : Recorder → View TacFrame (Code × Sizes)
recorder_view r = record {
  machine = tac (erased r.world.code.now);
  shows = RecorderShows r;
  leaves = RecorderLeaves r;
  lacks = WorldLacks r.world;
  print = r.world.state.printed;
  fixed = (r.world.code.now, r.world.sizes);
}
