-- Where the words of channels are by the memory of a table, and how a page number leads to a cell. The image of channels is about any
-- layout. Here it gets the one of rgo_core_memory.
use Rattle.std.specs.Prelude.{◌≡◌, ℕ, ◌+◌, ◌-◌, ◌/◌, ◌%◌, ◌<◌, ◌≤◌, false, true, List, length, slice_index}
use Rattle.rgo_sound.specs.RegionMachine.States.{RegionState}
use Rattle.rgo_core_memory.specs.declared.layout.TableSizes.{TableSizes}
use Rattle.rgo_core_memory.specs.Encoding.{address}
use Rattle.rgo_core_memory.specs.Image.{StateImage, Where, word_at}
use Rattle.rgo_core_memory.specs.Records.{Rec as MemoryRec}
use Rattle.rgo_core_memory.specs.Words.{base, cell_at}
use Rattle.rgo_core_channels.specs.Channels.{Chan, On, word_of_channel}
use Rattle.rgo_core_channels.specs.Controls.{extent, tail_words, spreads}
use Rattle.rgo_core_channels.specs.Moments.{Law, LoadsWord, Moment}
use Rattle.rgo_core_channels.specs.Records.{Sized, with_reach}

-- the position at which an object begins: that of its first word, or of its lead page
abbrev pub place_at : TableSizes → Where → ℕ → ℕ
place_at z places o = base z + address z places.start o

-- the position of a cell of a channel: the cells are its words after the first two
abbrev pub cell_place : TableSizes → Where → ℕ → ℕ → ℕ
cell_place z places o i = word_at z places o (2 + i)

-- Where the words of channels are: in the table, the cells after the capacity unless the channel is spread, and no two words at
-- one position.
pub record Layout (z : TableSizes) (words : List ℕ) (s : RegionState) (places : Where) : Type 0 where
  pub inside : (o : ℕ) (k : Chan) → On s o k
      → place_at z places o + 2 + tail_words z.page_words k.capacity ≤ length words
  pub cells_inside : (o i : ℕ) (k : Chan) → On s o k → i < extent k.capacity → cell_place z places o i < length words
  pub row : (o i : ℕ) (k : Chan) → On s o k → spreads z.page_words k.capacity ≡ false → i < extent k.capacity
      → cell_place z places o i ≡ place_at z places o + 2 + i
  pub words_are : (o i : ℕ) (k : Chan) → On s o k → i < 2 + extent k.capacity
      → word_of_channel (place_at z places) (cell_place z places) o i ≡ word_at z places o i
  pub apart : (o p i j : ℕ) (k l : Chan) → On s o k → On s p l → i < 2 + extent k.capacity → j < 2 + extent l.capacity
      → word_of_channel (place_at z places) (cell_place z places) o i ≡ word_of_channel (place_at z places) (cell_place z places) p j
      → (o ≡ p) × (i ≡ j)

-- each table has them so
abbrev pub LayoutLaw : Type 0
LayoutLaw = (z : TableSizes) (words : List ℕ) (recs : List MemoryRec) (s : RegionState) (places : Where)
    → StateImage z words recs s places → Layout z words s places

-- the positions of the moment are those of the memory of the table
pub record PositionsAgree (T : Moment) (z : TableSizes) (recs : List MemoryRec) (places : Where) : Type 0 where
  pub memory : StateImage z T.words recs T.state places
  pub place : (o : ℕ) (k : Chan) → On T.state o k → T.place o ≡ place_at z places o
  pub cell : (o i : ℕ) (k : Chan) → On T.state o k → i < extent k.capacity → T.cell o i ≡ cell_place z places o i

-- The number of a data page, plus 1, is loaded from the lead page of a spread channel. By it the record finds a cell: its word is
-- one of that page, and of the table. No lock is needed, since page numbers never change.
abbrev pub PageNumberLaw : Type 0
PageNumberLaw = Law (λ T g c. (z : TableSizes) (recs : List MemoryRec) (places : Where) (a i size : ℕ)
    → PositionsAgree T z recs places → c.size ≡ Sized a size → spreads z.page_words size ≡ true → i < extent size
    → LoadsWord T g (a + 2 + i / z.page_words) (λ w. with_reach c a i (cell_at z (w - 1) (i % z.page_words)))
    × (a + 2 + i / z.page_words < length T.words)
    × (0 < slice_index T.words (a + 2 + i / z.page_words))
    × (cell_at z (slice_index T.words (a + 2 + i / z.page_words) - 1) (i % z.page_words) < length T.words))
