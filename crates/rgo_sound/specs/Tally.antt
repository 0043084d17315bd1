-- What each step adds to the counts of a run. Goroutines count their own steps, each on its own, and nobody looks at the whole
-- state; by this law the sum of their counts is the machine's.
use Rattle.std.specs.Prelude.{List, None, Option, Some, [], if◌then◌else◌, length, nat_eq, slice_get, ℕ, ◌+◌, ◌-◌, ◌∷◌}
use Rattle.std.specs.Prelude.{◌≡◌}
use Rattle.rgo_code.specs.Code.{Code}
use Rattle.rgo_region_machine.specs.Counts.{Counts, counts_of}
use Rattle.rgo_region_machine.specs.Duties.{guards}
use Rattle.rgo_region_machine.specs.Machine.{Acknowledge, Attend, Event, Finish, Instruct, MakeOffer, TakePage}
use Rattle.rgo_region_machine.specs.Machine.{plain_step, region_step}
use Rattle.rgo_region_machine.specs.Regions.{RegionInfo, bound, removed_once, unbind}
use Rattle.rgo_region_machine.specs.States.{Create, Duty, EndBase, Holder, Protect, RegionState, Remove, Share}
use Rattle.rgo_region_machine.specs.States.{Unprotect, top_names, with_top}
use Rattle.rgo_region_machine.specs.declared.regions.Region.{Region}
use Rattle.rgo_region_machine.specs.declared.regions.Region.TheVariants.{Global as GlobalRegion, Numbered}
use Rattle.rgo_tac.specs.Tac.{TacState}

abbrev pub counts_plus : Counts → Counts → Counts
counts_plus a b =
    record {
      made = a.made + b.made;
      removed = a.removed + b.removed;
      taken = a.taken + b.taken;
      returned = a.returned + b.returned;
      steps = a.steps + b.steps;
      objects = a.objects + b.objects;
      goroutines = a.goroutines + b.goroutines;
    }

abbrev pub no_share : Counts
no_share = record { made = 0; removed = 0; taken = 0; returned = 0; steps = 0; objects = 0; goroutines = 0 }

-- the end of a stake: if it was the last one, the region is removed and its pages are returned
abbrev pub share_of_last : Option RegionInfo → Counts
share_of_last None = no_share
share_of_last (Some info) = if nat_eq info.stakes 1 then record no_share { removed = 1; returned = info.pages } else
    no_share

abbrev pub share_of_removal : RegionState → Holder → Region → Counts
share_of_removal s h GlobalRegion = no_share
share_of_removal s h (Numbered r) = if guards h.base h.environments (Numbered r) then no_share else share_of_last
    (slice_get s.regions r)

abbrev pub share_of_named : RegionState → Holder → Option Region → Counts
share_of_named s h None = no_share
share_of_named s h (Some r) = share_of_removal s h r

-- what a duty adds; h has the other duties left, as where the machine does it
abbrev pub share_of_duty : RegionState → Holder → Duty → Counts
share_of_duty s h (Create k) = record no_share { made = 1 }
share_of_duty s h (Share k) = no_share
share_of_duty s h (Protect k) = no_share
share_of_duty s h (Unprotect k) = no_share
share_of_duty s h (Remove k) = share_of_named s (record h
    { environments = with_top h.environments (unbind (top_names h.environments) k) })
    (bound (top_names h.environments) k)
share_of_duty s h (EndBase r) = share_of_removal s (record h { base = removed_once r h.base }) r

abbrev pub share_of_first : RegionState → Holder → List Duty → Counts
share_of_first s h [] = no_share
share_of_first s h (d ∷ ds) = share_of_duty s (record h { duties = ds }) d

abbrev pub share_of_holder : RegionState → Option Holder → Counts
share_of_holder s None = no_share
share_of_holder s (Some h) = share_of_first s h h.duties

-- an instruction: what the three-address machine made
abbrev pub share_of_plain : RegionState → Option TacState → Counts
share_of_plain s None = no_share
share_of_plain s (Some next) = record no_share {
  steps = 1;
  objects =
      length next.memory.heap - length s.plain.memory.heap;
  goroutines =
      length next.goroutines - length s.plain.goroutines;
}

-- what a step adds
abbrev pub share_of : Code → RegionState → Event → Counts
share_of code s (Instruct pick) = share_of_plain s (plain_step code s.plain pick)
share_of code s (Attend g) = share_of_holder s (slice_get s.holders g)
share_of code s (TakePage g) = record no_share { taken = 1 }
share_of code s (MakeOffer g) = no_share
share_of code s (Acknowledge g) = no_share
share_of code s (Finish end) = no_share

-- the counts after a step are those before it and its share, whatever the code
abbrev pub TallyAdds : Type 0
TallyAdds = (code : Code) (page_words : ℕ) (s t : RegionState) (event : Event) → region_step code page_words s event
    ≡ Some t → counts_of t ≡ counts_plus (counts_of s) (share_of code s event)
