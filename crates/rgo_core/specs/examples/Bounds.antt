-- How many words objects of a type have at least, and where words of a type may point.
use Rattle.std.specs.Prelude.{◌≡◌, ℕ, false, [], ◌∷◌}
use Rattle.rgo_sound.specs.Machine.declared.limits.Limits.{Limits}
use Rattle.rgo_sound.specs.Memory.Memory.{Channel}
use Rattle.rgo_sound.specs.RegionMachine.Examples.{small_code, node_struct}
use Rattle.rgo_sound.specs.Typed.declared.types.Type.{«Type»}
use Rattle.rgo_sound.specs.WellFormed.TypeRules.{chan_of, int, pointer_to, slice_of}
use Rattle.rgo_core.specs.ties.Bounds.{LieInPages, Points, least_words, row_words, slice_words}
use Rattle.rgo_core.specs.Core.{Setup}

-- two pages of four words, for a code with a struct of two fields
abbrev pub with_nodes : Limits → Setup
with_nodes limits = record {
  code = small_code (node_struct ∷ []) [];
  sizes = record { page_words = 4; pages = 2; regions = 1 };
  limits = limits;
}

pub record BoundExamples : Type 0 where
  pub pointer : least_words 4 (node_struct ∷ []) (pointer_to 0) ≡ 2
  pub no_fields : least_words 4 (record node_struct { fields = [] } ∷ []) (pointer_to 0) ≡ 1
  pub slice : least_words 4 [] (slice_of int) ≡ 1
  pub channel : least_words 4 [] (chan_of int) ≡ 3
  pub number : least_words 4 [] int ≡ 0
  -- of spread objects in pages of four words: the numbers of data pages follow the words before the cells
  pub spread_struct : least_words 4 (record node_struct { fields = int ∷ int ∷ int ∷ int ∷ int ∷ [] } ∷ []) (pointer_to 0) ≡ 2
  pub whole_struct : least_words 4 (record node_struct { fields = int ∷ int ∷ int ∷ int ∷ [] } ∷ []) (pointer_to 0) ≡ 4
  pub spread_slice : (limits : Limits) → slice_words (with_nodes limits) 9 ≡ 4
  pub whole_slice : (limits : Limits) → slice_words (with_nodes limits) 3 ≡ 4
  pub spread_channel : row_words 4 (Channel 9 [] false) ≡ 5
  pub all : (limits : Limits) → LieInPages (with_nodes limits) 0 8
  pub too_many : (limits : Limits) → LieInPages (with_nodes limits) 1 8 → ⊥
  -- the last two words, and one word beyond
  pub last : (limits : Limits) → Points (with_nodes limits) (pointer_to 0) 7
  pub beyond : (limits : Limits) → Points (with_nodes limits) (pointer_to 0) 8 → ⊥
  pub nil : (T : Setup) (ty : «Type») → Points T ty 0
  -- an int points nowhere
  pub int : (T : Setup) (word : ℕ) → Points T int word
