-- The core: how a run explains the words and records of a table. This is the relation of the rule of the table, so every access of every
-- goroutine keeps it.
use Rattle.std.specs.Prelude.{◌≡◌, ◌≤◌, ℕ, List, map, Some, slice_get}
use Rattle.rgo_sound.specs.Code.Code.{Code}
use Rattle.rgo_core_frames.specs.shown.Ints.{IntsFit}
use Rattle.rgo_core_frames.specs.shown.Constants.{ConstantsFit}
use Rattle.rgo_core_frames.specs.States.{IsSound}
use Rattle.rgo_core_memory.specs.declared.layout.TableSizes.{TableSizes}
use Rattle.rgo_sound.specs.Machine.Limits.{most_goroutines}
use Rattle.rgo_sound.specs.Machine.declared.limits.Limits.{Limits}
use Rattle.rgo_sound.specs.Machine.declared.limits.Sizes.{Sizes}
use Rattle.rgo_sound.specs.RegionMachine.Machine.{Event}
use Rattle.rgo_sound.specs.RegionMachine.States.{RegionState}
use Rattle.rgo_core.specs.Image.{Image, table_sizes}
use Rattle.rgo_core.specs.ties.Links.{Links}
use Rattle.rgo_core.specs.Records.{Record, clock_of}
use Rattle.rgo_core.specs.runs.Story.{Story}

-- what a table is made for
pub record Setup : Type 0 where
  pub code : Code
  pub sizes : Sizes
  pub limits : Limits

abbrev pub layout : Setup → TableSizes
layout T = table_sizes T.code T.sizes

-- The run leads to state s, of which words and records are the image. The state is an index, so that a law can speak of the state before
-- and after an access. `ints` and `constants` are needed because a word has 64 bits and the machine's ints are unbounded.
pub record CoreAt (T : Setup) (words : List ℕ) (recs : List Record) (events : List Event) (s : RegionState) : Type 0 where
  -- what region safety guarantees of each state of a run of checked code: stakes, types, names
  pub sound : IsSound T.code s
  pub constants : ConstantsFit T.code
  pub ints : IntsFit s.plain
  -- with it the word of numbers and the tickets of all goroutines stay far below 2^63
  pub capped : most_goroutines T.limits ≤ 1000000
  -- how the run came here, and what it has printed; the image is about the state alone
  pub story : Story T.code T.sizes T.limits words (map clock_of recs) events s
  pub image : Image T.code (layout T) words recs s
  -- what ties parts of one record that come from different crates
  pub links : Links T.code (layout T) words recs

-- which runs explain which words and records
abbrev pub Core : Setup → List ℕ → List Record → List Event → Type 0
Core T words recs events = (s : RegionState) × CoreAt T words recs events s

-- What laws have in common: c is the record of goroutine g, in a table with these words and records, to which this run has led. A law
-- holds for every such table, since the goroutine knows only c.
pub record Situation (T : Setup) (g : ℕ) (c : Record) : Type 0 where
  pub words : List ℕ
  pub recs : List Record
  pub events : List Event
  pub s : RegionState
  pub core : CoreAt T words recs events s
  pub is_c : slice_get recs g ≡ Some c

-- Some words, records and run have this record of goroutine g. It outlives the table's moment, so code may draw conclusions from its
-- record at any time.
abbrev pub IsPossible : Setup → (g : ℕ) → Record → Type 0
IsPossible T g c = Situation T g c
