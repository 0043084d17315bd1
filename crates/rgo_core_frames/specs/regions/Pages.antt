-- A page is taken: the records fit after it, since they have nothing of pages. The image of memory has them.
use Rattle.rgo_sound.specs.Memory.Memory.{Object}
use Rattle.rgo_sound.specs.RegionMachine.Machine.{TakePage, next_object, page_taken, region_step}
use Rattle.rgo_sound.specs.RegionMachine.Objects.{fill_of, making_region, wants_page, with_page}
use Rattle.rgo_sound.specs.RegionMachine.Owed.{function_at}
use Rattle.rgo_sound.specs.RegionMachine.States.{Holder, RegionState, top_names}
use Rattle.rgo_sound.specs.RegionMachine.declared.regions.Region.{Region}
use Rattle.std.specs.Prelude.{Some, true, ℕ, ◌≡◌}
use Rattle.rgo_core_frames.specs.Fits.{RecordsFit}
use Rattle.rgo_core_frames.specs.States.{AtInstruction}
use Rattle.rgo_core_frames.specs.steps.Bookkept.{LeavesRest}

-- The state after goroutine g, whose holder is h, has taken a page in region r for this object: it is the goroutine's own page
-- there, or, if the object is spread, one more that is reserved.
abbrev pub page_after : (page_words : ℕ) → RegionState → (g : ℕ) → Holder → Region → Object → RegionState
page_after page_words s g h r object = page_taken s g (with_page page_words h r object) r

-- the same for the object that the next instruction makes
abbrev pub after_page : AtInstruction → Region → Object → RegionState
after_page x r object = page_after x.here.page_words x.here.s x.here.g x.before.h r object

-- the region machine takes this page, and the records fit after it
pub record TakesPage (x : AtInstruction) (r : Region) (object : Object) : Type 0 where
  pub steps : region_step x.here.code x.here.page_words x.here.s (TakePage x.here.g) ≡ Some (after_page x r object)
  pub fit : RecordsFit x.here.code x.here.slot_of x.here.addresses (after_page x r object) x.here.records
  pub rest : LeavesRest x.here.s (after_page x r object) (TakePage x.here.g)

-- The next instruction makes this object in region r, and it wants a page there, by the image of memory: it does not fit the
-- goroutine's own page, or it is spread and does not have all of its pages.
abbrev pub PageLaw : Type 0
PageLaw =
    (x : AtInstruction) (r : Region) (object : Object)
    → making_region (function_at x.here.code x.before.frame) (top_names x.before.h.environments) x.instr.op ≡ Some r
    → next_object x.here.code x.here.s x.here.g ≡ Some object
    → wants_page x.here.page_words x.before.h.reserved (fill_of x.before.h.fills r) object ≡ true
    → TakesPage x r object
