-- A region is created, at a slot that no live region has. A slot serves again after its region was removed. So a record may name regions
-- by slots only because a goroutine names live regions alone.
use Rattle.rgo_sound.specs.RegionMachine.Machine.{Attend}
use Rattle.rgo_sound.specs.RegionMachine.Regions.{is_live, unbind}
use Rattle.rgo_sound.specs.RegionMachine.States.{Create, Duty, RegionState, top_names, with_top}
use Rattle.rgo_sound.specs.RegionMachine.declared.regions.Region.TheVariants.{Numbered}
use Rattle.std.specs.Prelude.{List, [], length, slice_set, true, ℕ, ◌++◌, ◌<◌, ◌∷◌, ◌≡◌, ◌≢◌}
use Rattle.rgo_core_frames.specs.Records.{FramesRec}
use Rattle.rgo_core_frames.specs.States.{Here}
use Rattle.rgo_core_frames.specs.steps.Bookkept.{HasStep}

-- the record after it has made a region at slot p by this name
abbrev pub created_in : FramesRec → ℕ → List Duty → ℕ → FramesRec
created_in c k ds p = record c {
  holder = record c.holder {
    duties = ds;
    stakes = p ∷ c.holder.stakes;
    environments =
        with_top c.holder.environments ((k, Numbered p) ∷ unbind (top_names c.holder.environments) k);
  };
}

-- `after` maps the next region to slot p, and leaves the slots of the regions that were created before. It is any such function, and
-- not one changed at a number, of which each user would have another form.
pub record GivesSlot (s : RegionState) (before after : ℕ → ℕ) (p : ℕ) : Type 0 where
  pub new : after (length s.regions) ≡ p
  pub old : (r : ℕ) → r < length s.regions → after r ≡ before r

abbrev pub CreateLaw : Type 0
CreateLaw =
    (x : Here) (k : ℕ) (ds : List Duty) (p : ℕ) (after : ℕ → ℕ) → x.c.holder.duties ≡ Create k ∷ ds
    → ((r : ℕ) → is_live x.s.regions (Numbered r) ≡ true → x.slot_of r ≢ p) → GivesSlot x.s x.slot_of after p
    → HasStep x.code x.page_words after x.addresses x.s (Attend x.g)
    (x.s.regions ++ record { stakes = 1; pages = 0 } ∷ []) x.s.mark (slice_set x.records x.g (created_in x.c k ds p))
