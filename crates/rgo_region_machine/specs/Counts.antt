-- What a run has made and done: the counts that `--stats` prints. They are functions of the state and not fields of it, so that no
-- step of the machine can count wrongly; what each step adds is the law `tally_adds` of rgo_sound.
use Rattle.std.specs.Prelude.{ℕ, ◌+◌, Bool, length, sum_by, count_by, nat_eq, if◌then◌else◌}
use Rattle.rgo_region_machine.specs.Regions.{RegionInfo}
use Rattle.rgo_region_machine.specs.States.{RegionState}

-- what a run has made, used and removed, and how many instructions it has done
pub record Counts : Type 0 where
  -- regions
  pub made : ℕ
  pub removed : ℕ
  -- pages, and those of regions that were removed
  pub taken : ℕ
  pub returned : ℕ
  pub steps : ℕ
  pub objects : ℕ
  -- `main` included
  pub goroutines : ℕ

-- a region is created with a stake, so one without a stake has been removed
abbrev pub is_removed : RegionInfo → Bool
is_removed info = nat_eq info.stakes 0

-- the pages of a region that can be taken again: all of them if it was removed, otherwise none
abbrev pub pages_if_removed : RegionInfo → ℕ
pages_if_removed info = if is_removed info then info.pages else 0

-- The counts of a run that is in this state. A state deletes nothing, so that each count is a length or a sum.
abbrev pub counts_of : RegionState → Counts
counts_of s = record {
  made = length s.regions;
  removed = count_by is_removed s.regions;
  taken = s.global_pages + sum_by (λ info. info.pages) s.regions;
  returned = sum_by pages_if_removed s.regions;
  steps = s.steps;
  objects = length s.plain.memory.heap;
  goroutines = length s.plain.goroutines;
}
