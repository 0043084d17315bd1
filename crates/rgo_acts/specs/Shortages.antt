-- What a goroutine lacks, by what its accesses have found: each place was in use, at its own access. That all were at one moment is for the
-- driver to show, by a pass.
use Rattle.std.specs.Prelude.{◌≢◌, ◌<◌, ℕ, List}
use Rattle.rgo_core.specs.Memory.Words.{count_at, state_at}
use Rattle.rgo_core.specs.Rule.declared.accesses.Access.{Access}
use Rattle.rgo_core.specs.Rule.declared.accesses.Kind.{Kind}
use Rattle.rgo_core.specs.Rule.declared.accesses.Kind.TheVariants.{ClaimPage, CreateRegion}
use Rattle.rgo_core.specs.Core.{Setup, layout}
use Rattle.rgo_core.specs.Records.{Record}
use Rattle.rgo_core_steps.specs.Counts.{IsCreating}
use Rattle.rgo_core_steps.specs.Grown.{Found}
use Rattle.rgo_core_steps.specs.Making.{IsCalm, NeedsPage}

-- Goroutine g has found each of n words in use by one of these accesses. The word of place k has the position `at k`.
abbrev pub AllInUse : (g : ℕ) → List Access → Kind → (at : ℕ → ℕ) → (n : ℕ) → Type 0
AllInUse g es kind at n = (k : ℕ) → k < n → (found : ℕ) × (found ≢ 0) × Found g es kind (at k) found

-- its next instruction needs a page for this slot, and no page was free
pub record LacksPage (T : Setup) (g : ℕ) (c : Record) (es : List Access) : Type 0 where
  pub slot : ℕ
  -- it is not in the middle of an act that could still return what it lacks
  pub calm : IsCalm c
  pub needs : NeedsPage T c slot
  pub in_use : AllInUse g es ClaimPage (state_at (layout T)) T.sizes.pages

-- its first duty creates a region, and no slot was free
pub record LacksSlot (T : Setup) (g : ℕ) (c : Record) (es : List Access) : Type 0 where
  pub creates : IsCreating c
  pub in_use : AllInUse g es CreateRegion (count_at (layout T)) T.sizes.regions
