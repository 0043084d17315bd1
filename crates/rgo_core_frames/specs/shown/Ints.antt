-- Ints have 64 bits, in memory and in frames. A word can then show each of them, and a load gives back what was stored.
use Rattle.rgo_sound.specs.Code.Code.{Code}
use Rattle.rgo_sound.specs.Memory.Memory.{Channel, Memory, Object, SliceObject, StructObject}
use Rattle.rgo_sound.specs.Memory.declared.values.Value.TheVariants as value
use Rattle.rgo_sound.specs.Memory.declared.values.Value.{Value}
use Rattle.rgo_sound.specs.RegionMachine.Machine.{Event, region_start, region_step}
use Rattle.rgo_sound.specs.RegionMachine.States.{RegionState}
use Rattle.rgo_sound.specs.Types.{Each}
use Rattle.rgo_sound.specs.Tac.Frames.{TacFrame}
use Rattle.rgo_sound.specs.Tac.Tac.{TacState}
use Rattle.std.specs.Int.{w64}
use Rattle.std.specs.Prelude.{FitsSigned, List, Some, length, pos, ℕ, ◌≡◌}
use Rattle.rgo_core_frames.specs.shown.Constants.{ConstantsFit}

-- an int fits in a word; so does every value of another kind
abbrev pub ValueFitsWord : Value → Type 0
ValueFitsWord (value.Int z) = FitsSigned w64 z
ValueFitsWord (value.Bool b) = Unit {0}
ValueFitsWord value.Nil = Unit {0}
ValueFitsWord (value.Object o) = Unit {0}

-- in an object: what it holds, the length of a slice, and the capacity of a channel
abbrev pub ObjectIntsFit : Object → Type 0
ObjectIntsFit (StructObject cells) = Each ValueFitsWord cells
ObjectIntsFit (SliceObject cells) = Each ValueFitsWord cells × ValueFitsWord (value.Int (pos (length cells)))
ObjectIntsFit (Channel capacity queue closed) = Each ValueFitsWord queue × ValueFitsWord (value.Int (pos capacity))

-- in the objects and the package variables
pub record MemoryIntsFit (m : Memory) : Type 0 where
  pub objects : Each ObjectIntsFit m.heap
  pub variables : Each ValueFitsWord m.variables

-- in the variables of frames
abbrev pub FramesIntsFit : List TacFrame → Type 0
FramesIntsFit frames = Each (λ (f : TacFrame). Each ValueFitsWord f.variables) frames

-- each int of a state fits in a word
pub record IntsFit (p : TacState) : Type 0 where
  pub memory : MemoryIntsFit p.memory
  pub frames : Each FramesIntsFit p.goroutines

-- It is so at the start, and each step keeps it, if the constants of the code fit. It is an invariant of its own, since region safety
-- does not need it.
pub record IntsStay : Type 0 where
  pub start : (code : Code) → IntsFit (region_start code).plain
  pub step : (code : Code) (page_words : ℕ) (s t : RegionState) (event : Event) → ConstantsFit code → IntsFit s.plain
      → region_step code page_words s event ≡ Some t → IntsFit t.plain
