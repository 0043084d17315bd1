-- The image: the state of the region machine that words and records show, with frames, memory and channels over one layout. The three
-- images come from three crates that know nothing of each other; here they are of the same state and the same positions.
use Rattle.std.specs.Prelude.{◌≡◌, ℕ, List, length, map, Some, slice_get}
use Rattle.rgo_sound.specs.Code.Code.{Code}
use Rattle.rgo_core_channels.specs.Channels.{Channels, Places}
use Rattle.rgo_core_channels.specs.Positions.{cell_place, place_at}
use Rattle.rgo_core_channels.specs.Records.{ChannelRec as SideRec}
use Rattle.rgo_core_frames.specs.Fits.{RecordsFit}
use Rattle.rgo_core_memory.specs.Encoding.{address}
use Rattle.rgo_core_memory.specs.Image.{StateImage, Where, word_of_value}
use Rattle.rgo_core_memory.specs.declared.layout.TableSizes.{TableSizes}
use Rattle.rgo_sound.specs.Machine.declared.limits.Sizes.{Sizes}
use Rattle.rgo_sound.specs.RegionMachine.States.{RegionState}
use Rattle.rgo_core.specs.Records.{Record, frame_of, memory_of, side_of}

-- the sizes of the table of a code
abbrev pub table_sizes : Code → Sizes → TableSizes
table_sizes code sizes = record {
  pages = sizes.pages;
  page_words = sizes.page_words;
  slots = sizes.regions;
  variables = length code.variables;
}

-- the image of channels, whose words are where the image of memory has them
abbrev pub ChannelsIn : Code → TableSizes → Where → List ℕ → List SideRec → RegionState → Places → Type 0
ChannelsIn code z places words recs s at =
    Channels code z.page_words (word_of_value z places) (place_at z places) (cell_place z places) words recs s at

-- One layout: the slots of regions in the records' frames are those of the memory, an object's address there is where it begins in the
-- memory, and a channel is where the memory has it. `addressed` goes one way only: addresses are a list, and as long as the heap.
pub record Image (code : Code) (z : TableSizes) (words : List ℕ) (recs : List Record) (s : RegionState) : Type 0 where
  pub places : Where
  pub at : Places
  pub addresses : List ℕ
  -- frames and memory agree on where objects are
  pub addressed : (o a : ℕ) → slice_get addresses o ≡ Some a → a ≡ address z places.start o
  pub frames : RecordsFit code places.slot addresses s (map frame_of recs)
  pub memory : StateImage z words (map memory_of recs) s places
  pub channels : ChannelsIn code z places words (map side_of recs) s at
