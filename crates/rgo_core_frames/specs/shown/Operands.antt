-- What words of operands mean: which int they are, and which object they point to. The type of the variable decides, not the word.
use Rattle.rgo_sound.specs.Code.Code.{CodeFn}
use Rattle.rgo_sound.specs.Code.Erasure.{erased_fn, erased_op}
use Rattle.rgo_sound.specs.Code.Types.{VariableHasType}
use Rattle.rgo_sound.specs.Memory.declared.values.Value.TheVariants as value
use Rattle.rgo_sound.specs.Memory.declared.values.Value.{Value}
use Rattle.rgo_sound.specs.RegionMachine.Owed.{code_function}
use Rattle.rgo_sound.specs.RegionMachine.States.{Holder, RegionState}
use Rattle.rgo_sound.specs.RegionMachine.declared.regions.Region.{Region}
use Rattle.rgo_sound.specs.NextNames.{HasStake}
use Rattle.rgo_sound.specs.Tac.Flow.{reads}
use Rattle.rgo_sound.specs.Tac.Frames.{value_at}
use Rattle.rgo_sound.specs.Typed.Types.{is_pointer_like}
use Rattle.rgo_sound.specs.Typed.declared.types.Type.{«Type»}
use Rattle.rgo_sound.specs.WellFormed.TypeRules.{int}
use Rattle.std.specs.Int.{cast_signed, w64}
use Rattle.std.specs.Prelude.{Contains, List, Some, slice_get, suc, true, ℕ, ◌≡◌}
use Rattle.rgo_core_frames.specs.States.{AtInstruction}
use Rattle.rgo_core_frames.specs.shown.WordFrames.{frame_word}

-- A variable of this type that the instruction reads. It is live, so its word shows its value.
pub record IsOperand (x : AtInstruction) (v : ℕ) (ty : «Type») : Type 0 where
  pub fn : CodeFn
  pub is_fn : code_function x.here.code x.w.function ≡ Some fn
  pub read : Contains (reads (erased_op x.instr.op)) v
  pub typed : VariableHasType (erased_fn fn) v ty

abbrev pub IntLaw : Type 0
IntLaw =
    (x : AtInstruction) (v : ℕ) → IsOperand x v int
    → value_at x.before.frame v ≡ value.Int (cast_signed w64 (frame_word x.w v))

-- the object at an address, in a region in which the goroutine has a stake
pub record PointsTo (addresses : List ℕ) (s : RegionState) (h : Holder) (v : Value) (a : ℕ) : Type 0 where
  pub object : ℕ
  pub is : v ≡ value.Object object
  pub at : slice_get addresses object ≡ Some a
  pub region : Region
  pub owner : slice_get s.owners object ≡ Some region
  pub staked : HasStake s h region

-- A pointer, slice or channel: nil, or an object in a region in which the goroutine has a stake. So the object cannot be removed before
-- the goroutine's next step.
abbrev pub PointerLaw : Type 0
PointerLaw =
    (x : AtInstruction) (v : ℕ) (ty : «Type») → IsOperand x v ty → is_pointer_like ty ≡ true
    → (frame_word x.w v ≡ 0 → value_at x.before.frame v ≡ value.Nil)
    × ((a : ℕ) → frame_word x.w v ≡ suc a
    → PointsTo x.here.addresses x.here.s x.before.h (value_at x.before.frame v) a)
