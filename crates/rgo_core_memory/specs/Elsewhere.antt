-- What concerns no word of memory: accesses to the clock and to the number of goroutines, and steps that leave what memory
-- shows. With these laws the crates above put the images of memory, frames and channels together.
use Rattle.std.specs.Prelude.{◌≡◌, ℕ, List, slice_set}
use Rattle.rgo_sound.specs.RegionMachine.States.{RegionState}
use Rattle.rgo_core_memory.specs.declared.layout.TableSizes.{TableSizes}
use Rattle.rgo_core_memory.specs.Ground.{ground_of}
use Rattle.rgo_core_memory.specs.Image.{Where, StateImage}
use Rattle.rgo_core_memory.specs.Records.{Rec}
use Rattle.rgo_core_memory.specs.Words.{clock_at, made_at}

abbrev pub ClockKeeps : Type 0
ClockKeeps = (z : TableSizes) (words : List ℕ) (recs : List Rec) (s : RegionState) (places : Where) (n : ℕ)
    → StateImage z words recs s places → StateImage z (slice_set words clock_at n) recs s places

abbrev pub NumberKeeps : Type 0
NumberKeeps = (z : TableSizes) (words : List ℕ) (recs : List Rec) (s : RegionState) (places : Where) (n : ℕ)
    → StateImage z words recs s places → StateImage z (slice_set words made_at n) recs s places

-- the image depends on a state only through what memory shows of it
abbrev pub GroundKeeps : Type 0
GroundKeeps = (z : TableSizes) (words : List ℕ) (recs : List Rec) (s t : RegionState) (places : Where)
    → ground_of t ≡ ground_of s → StateImage z words recs s places → StateImage z words recs t places
