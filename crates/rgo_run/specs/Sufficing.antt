-- The law on sizes: how many pages and regions are enough for every run of a program or of given code.
use Rattle.std.specs.Prelude.{◌≡◌, ◌≤◌, ◌+◌, ◌*◌, List, Some}
use Rattle.rgo_machine.specs.declared.limits.Sizes.{Sizes}
use Rattle.rgo_machine.specs.declared.limits.Shortage.TheVariants as shortage
use Rattle.rgo_code.specs.Code.{Code}
use Rattle.rgo_region_machine.specs.Counts.{counts_of}
use Rattle.rgo_region_machine.specs.Machine.{Event, region_run}
use Rattle.rgo_region_machine.specs.Room.{enough_pages}
use Rattle.rgo_region_machine.specs.States.{RegionState}
use Rattle.rgo_sound.specs.Safety.{most_names}
use Rattle.rgo_run.specs.Headline.{AlwaysHas}
use Rattle.rgo_run.specs.Runs.{IsCodeFor, Runnable}

-- The property holds in every state of every run of its code with regions: the premise is about all of them, since nothing says which
-- run a call will take.
abbrev pub Always : Sizes → Runnable → (Code → RegionState → Type 0) → Type 0
Always sizes what Holds =
    (code : Code) (events : List Event) (s : RegionState) → IsCodeFor what code
    → region_run code sizes.page_words events ≡ Some s → Holds code s

-- The pages of all objects, plus for each goroutine those of the largest object that was made or is next, are at most the pages
-- allowed. If no object is spread over several pages, that sum is the number of objects and goroutines.
abbrev pub FewPages : Sizes → Code → RegionState → Type 0
FewPages sizes code s = enough_pages code sizes.page_words s ≤ sizes.pages

-- steps plus goroutines, times the most region names of one function, are at most the regions allowed
abbrev pub FewSteps : Sizes → Code → RegionState → Type 0
FewSteps sizes code s = ((counts_of s).steps + (counts_of s).goroutines) * most_names code.functions ≤ sizes.regions

-- if `FewPages` holds throughout, no run lacks a page; if `FewSteps` does, no run lacks a region
pub record FewSuffice : Type 0 where
  pub pages : (sizes : Sizes) (what : Runnable) → Always sizes what (FewPages sizes)
      → AlwaysHas sizes what shortage.Pages
  pub regions : (sizes : Sizes) (what : Runnable) → Always sizes what (FewSteps sizes)
      → AlwaysHas sizes what shortage.Regions
