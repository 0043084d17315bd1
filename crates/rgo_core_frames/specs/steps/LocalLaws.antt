-- Local steps of a record are steps of the region machine.
use Rattle.rgo_sound.specs.Code.Code.{Code}
use Rattle.rgo_sound.specs.Machine.declared.picks.End.TheVariants.{Exit}
use Rattle.rgo_sound.specs.Machine.declared.picks.End.{End}
use Rattle.rgo_sound.specs.Machine.declared.picks.Pick.TheVariants.{One}
use Rattle.rgo_sound.specs.RegionMachine.Instructions.{mark_with_end}
use Rattle.rgo_sound.specs.RegionMachine.Machine.{Attend, Event, Instruct}
use Rattle.rgo_sound.specs.RegionMachine.States.{Duty}
use Rattle.std.specs.Prelude.{List, None, Option, Some, [], slice_set, suc, zero, ℕ, ◌∷◌, ◌≡◌}
use Rattle.rgo_core_frames.specs.shown.Constants.{ConstantsFit}
use Rattle.rgo_core_frames.specs.steps.Local.{local}
use Rattle.rgo_core_frames.specs.Records.{FramesRec}
use Rattle.rgo_core_frames.specs.States.{Here}
use Rattle.rgo_core_frames.specs.steps.Bookkept.{RegionStepsTo}
use Rattle.rgo_core_frames.specs.shown.WordFrames.{WordFrame}

-- the event of a goroutine's next local step
abbrev pub event_by : ℕ → List Duty → Event
event_by g [] = Instruct (One g)
event_by g (d ∷ ds) = Attend g

abbrev pub event_of : ℕ → FramesRec → Event
event_of g c = event_by g c.holder.duties

-- The end that it marks, by what was owed and the frames after it: `main` returns. This is the one local step that others can see, so
-- the crate above makes it with an access to the clock.
abbrev pub end_by_frames : ℕ → List Duty → List WordFrame → Option End
end_by_frames zero [] [] = Some Exit
end_by_frames zero [] (w ∷ ws) = None
end_by_frames zero (d ∷ ds) ws = None
end_by_frames (suc g) ds ws = None

abbrev pub end_of : ℕ → (before after : FramesRec) → Option End
end_of g c d = end_by_frames g c.holder.duties d.frames

-- a local step of a record is a step of the region machine, after which the records fit again
abbrev pub LocalLaw : Type 0
LocalLaw =
    (x : Here) (d : FramesRec) → ConstantsFit x.code → local x.code x.c ≡ Some d
    → RegionStepsTo x (event_of x.g x.c) x.s.regions (mark_with_end x.s.mark (end_of x.g x.c d)) (slice_set x.records x.g d)

-- It keeps the stakes, the pending ones, and the offer. By this the images of memory and channels stay, which depend on these.
pub record KeepsStakes (c d : FramesRec) : Type 0 where
  pub stakes : d.holder.stakes ≡ c.holder.stakes
  pub pending : d.holder.pending ≡ c.holder.pending
  pub offer : d.holder.offer ≡ c.holder.offer

abbrev pub StakesStay : Type 0
StakesStay = (code : Code) (c d : FramesRec) → local code c ≡ Some d → KeepsStakes c d
