-- What follows from the object that a record makes next: the machine's action makes the same one, by the size that its operand shows.
use Rattle.std.proofs.Common.{◌≡◌, inl, inr, ℕ, ◌<◌, ◌≤◌, ◌^◌, false, pos, List, [], ◌∷◌, Option, Some, None, map, replicate, slice_get, refl, ap, sym, subst, ◌∙◌, arith, Contains}
use Rattle.std.specs.Int.{cast_signed, w64}
use Rattle.rgo_sound.specs.Code.Code.{CodeOp, Do}
use Rattle.rgo_sound.specs.Code.Erasure.{erased, erased_fn, erased_op}
use Rattle.rgo_sound.specs.Code.Types.{DoFits, VariableHasType, VariablesHaveTypes, IsWellTypedOp}
use Rattle.rgo_sound.specs.Memory.Making.{made as made_effect, made_struct}
use Rattle.rgo_sound.specs.Memory.Memory.{Memory as Heap, Object, SliceObject, StructObject}
use Rattle.rgo_sound.specs.Memory.Values.{element_zero, zero_of}
use Rattle.rgo_sound.specs.Memory.declared.values.Value.{Value}
use Rattle.rgo_sound.specs.Memory.declared.values.Value.TheVariants as value
use Rattle.rgo_sound.specs.RegionMachine.Objects.{making_region}
use Rattle.rgo_sound.specs.RegionMachine.Owed.{function_at, code_function}
use Rattle.rgo_sound.specs.RegionMachine.States.{top_names}
use Rattle.rgo_sound.specs.RegionMachine.declared.regions.Region.{Region}
use Rattle.rgo_sound.proofs.steps.Acting.{performed}
use Rattle.rgo_sound.proofs.Places.{contains_here, head_is}
use Rattle.rgo_sound.proofs.types.Steps.{types}
use Rattle.rgo_sound.specs.Tac.Code.{Tac, TacFn}
use Rattle.rgo_sound.specs.Tac.Flow.{reads}
use Rattle.rgo_sound.specs.Tac.Frames.{TacFrame, value_at, operand_values}
use Rattle.rgo_sound.specs.Tac.Steps.{variable_type, destination_type}
use Rattle.rgo_sound.specs.Typed.declared.actions.Action.{Action}
use Rattle.rgo_sound.specs.Typed.declared.actions.Action.TheVariants as action
use Rattle.rgo_sound.specs.Typed.declared.programs.Struct.{Struct}
use Rattle.rgo_sound.specs.Typed.declared.types.Type.{«Type»}
use Rattle.rgo_sound.specs.WellFormed.TypeRules.{int}
use Rattle.rgo_core_channels.specs.Channels.{Chan, channel}
use Rattle.rgo_core_channels.proofs.Steps.{same_channel}
use Rattle.rgo_core_frames.specs.steps.Before.{IsBefore}
use Rattle.rgo_core_frames.specs.shown.Variables.{IsAlike}
use Rattle.rgo_core_frames.specs.States.{AtInstruction}
use Rattle.rgo_core_frames.specs.shown.WordFrames.{WordFrame, bare, frame_word}
use Rattle.rgo_core_frames.proofs.shown.Operands.{int_law}
use Rattle.rgo_core_memory.specs.Accesses.{Before}
use Rattle.rgo_core_memory.specs.Allocations.{MakesNext}
use Rattle.rgo_core.specs.Core.{Situation, Setup}
use Rattle.rgo_core.specs.Next.{IsAtOp}
use Rattle.rgo_core.specs.moves.NewObjects.{AChannel, ASlice, AStruct, MakesObject, ObjectOf}
use Rattle.rgo_core.specs.Records.{Record}
use Rattle.rgo_core.proofs.image.Encodings.{small_int}
use Rattle.rgo_core.proofs.image.Standing.{at_instruction}

-- ---- types of operands

pub first_type : (f : TacFn) (p : ℕ) (from : List ℕ) (operands : List «Type») (ty : «Type») (tys : List «Type») → operands ≡ ty ∷ tys
    → VariablesHaveTypes f (p ∷ from) operands → VariableHasType f p ty
first_type f p from operands ty tys e h =
    head_is (slice_get f.variables p) (Some ty) (map (slice_get f.variables) from) (map Some tys) (h ∙ ap (map Some) e)

pub slice_takes : (code : Tac) (f : TacFn) (to : Option ℕ) (operands : List «Type») → DoFits code f to action.Slice operands → operands ≡ int ∷ []
slice_takes code f None operands d = absurd d
slice_takes code f (Some q) operands d = let r = d.2 in r.0

pub channel_takes : (code : Tac) (f : TacFn) (to : Option ℕ) (operands : List «Type») → DoFits code f to action.Chan operands → operands ≡ int ∷ []
channel_takes code f None operands d = absurd d
channel_takes code f (Some q) operands d = let r = d.2 in r.0

-- the type of a target, by words
pub type_alike : (code : Tac) (frame : TacFrame) (w : WordFrame) → IsAlike frame w → (to : Option ℕ)
    → destination_type code (bare w) to ≡ destination_type code frame to
type_alike code frame w alike None = refl
type_alike code frame w alike (Some d) = ap (λ k. variable_type (slice_get code.functions k) d) alike.function

-- ---- kinds of objects

pub struct_no_channel : (cells : List Value) (k : Chan) → StructObject cells ≡ channel k → ⊥
struct_no_channel cells k e = cc

pub slice_no_channel : (cells : List Value) (k : Chan) → SliceObject cells ≡ channel k → ⊥
slice_no_channel cells k e = cc

module _ {T : Setup} {g : ℕ} {c : Record} (x : Situation T g c) (to : Option ℕ) (act : Action) (from removes : List ℕ)
    (a : IsAtOp T.code c (Do to act from removes)) (object : Object) where
  abbrev pub at : AtInstruction
  at = at_instruction x a

  abbrev pub b : IsBefore T.code at.here.slot_of at.here.addresses x.s g c.frame a.w a.ws a.instr
  b = at.before

  pub record Made : Type 0 where
    pub does : performed T.code.structs act (destination_type (erased T.code) b.frame to) (operand_values b.frame from) x.s.plain.memory
        ≡ Some (made_effect x.s.plain.memory object)
    pub next : (r : Region) → making_region (function_at T.code b.frame) (top_names b.h.environments) a.instr.op ≡ Some r
        → MakesNext T.code x.s g b.h r object
    pub fresh : (k : Chan) → object ≡ channel k → (k.queue ≡ []) × (k.closed ≡ false) × (k.capacity < 1073741820)

  abbrev mem : Heap
  mem = x.s.plain.memory

  abbrev before_is : (other : Action) (others : List ℕ) (values : List Value) → act ≡ other → from ≡ others → operand_values b.frame others ≡ values
      → Before T.code x.s g other values
  before_is other others values ea ef ev = record {
    frame = b.frame;
    callers = b.callers;
    at = b.at;
    instr = a.instr;
    cur = b.cur;
    to = to;
    from = others;
    removes = removes;
    is = a.is ∙ (λ i. Do to (ea i) (ef i) removes);
    operands = ev;
  }

  -- a size
  sized : (p n : ℕ) (other : Action) → act ≡ other → from ≡ p ∷ [] → frame_word a.w p ≡ n → n < 2 ^ 63
      → ((operands : List «Type») → DoFits (erased T.code) (erased_fn a.fn) to other operands → operands ≡ int ∷ [])
      → Contains (reads (erased_op (Do to other (p ∷ []) removes))) p → value_at b.frame p ≡ value.Int (pos n)
  sized p n other ea ef en small takes read =
      let is : a.instr.op ≡ Do to other (p ∷ []) removes = a.is ∙ (λ i. Do to (ea i) (ef i) removes) in
      let fn_is : function_at T.code b.frame ≡ Some a.fn = ap (code_function T.code) (sym b.newest.alike.function) ∙ a.in_fn in
      let rule : IsWellTypedOp (erased T.code) (erased_fn a.fn) (erased_op (Do to other (p ∷ []) removes)) =
      types T.code x.core.sound.checked b.frame a.fn a.instr fn_is b.cur (Do to other (p ∷ []) removes) is in
      int_law at p (record {
        fn = a.fn;
        is_fn = a.in_fn;
        read = subst (λ (o : CodeOp). Contains (reads (erased_op o)) p) (sym is) read;
        typed = first_type (erased_fn a.fn) p [] rule.0 int [] (takes rule.0 rule.2) rule.1;
      })
      ∙ ap (λ z. value.Int z) (ap (cast_signed w64) en ∙ small_int n small)

  slice_size : (p : ℕ) → act ≡ action.Slice → from ≡ p ∷ [] → frame_word a.w p < 2 ^ 63
      → value_at b.frame p ≡ value.Int (pos (frame_word a.w p))
  slice_size p ea ef small = sized p (frame_word a.w p) action.Slice ea ef refl small
      (λ operands d. slice_takes (erased T.code) (erased_fn a.fn) to operands d) (contains_here p [])

  channel_size : (p : ℕ) → act ≡ action.Chan → from ≡ p ∷ [] → frame_word a.w p < 2 ^ 63
      → value_at b.frame p ≡ value.Int (pos (frame_word a.w p))
  channel_size p ea ef small = sized p (frame_word a.w p) action.Chan ea ef refl small
      (λ operands d. channel_takes (erased T.code) (erased_fn a.fn) to operands d) (contains_here p [])

  slice_is : (p : ℕ) → object ≡ SliceObject (replicate (frame_word a.w p) (element_zero (destination_type (erased T.code) (bare a.w) to)))
      → object ≡ SliceObject (replicate (frame_word a.w p) (element_zero (destination_type (erased T.code) b.frame to)))
  slice_is p eo =
      eo
      ∙ ap (λ ty. SliceObject (replicate (frame_word a.w p) (element_zero ty))) (type_alike (erased T.code) b.frame a.w b.newest.alike to)

  -- the action makes the object
  pub makes_it : (most : ℕ) → most ≤ 2 ^ 63 → ObjectOf most T.code a.w to act from object
      → performed T.code.structs act (destination_type (erased T.code) b.frame to) (operand_values b.frame from) mem ≡ Some (made_effect mem object)
  makes_it most low (AStruct n s ea ef es eo) =
      (λ i. performed T.code.structs (ea i) (destination_type (erased T.code) b.frame to) (operand_values b.frame (ef i)) mem)
      ∙ (ap (λ (y : Option Struct). Some (made_struct y mem)) es ∙ ap (λ (y : Object). Some (made_effect mem y)) (sym eo))
  makes_it most low (ASlice p ea ef small eo) =
      (λ i. performed T.code.structs (ea i) (destination_type (erased T.code) b.frame to) (operand_values b.frame (ef i)) mem)
      ∙ (ap (λ (y : Value). performed T.code.structs action.Slice (destination_type (erased T.code) b.frame to) (y ∷ []) mem) (slice_size p ea ef small)
      ∙ ap (λ (y : Object). Some (made_effect mem y)) (sym (slice_is p eo)))
  makes_it most low (AChannel p ea ef small eo) =
      (λ i. performed T.code.structs (ea i) (destination_type (erased T.code) b.frame to) (operand_values b.frame (ef i)) mem)
      ∙ (ap (λ (y : Value). performed T.code.structs action.Chan (destination_type (erased T.code) b.frame to) (y ∷ []) mem)
      (channel_size p ea ef (omega (arith, small, low)))
      ∙ ap (λ (y : Object). Some (made_effect mem y)) (sym eo))

  pub made : MakesObject T.code a.w to act from object → Made
  made (AStruct n s ea ef es eo) = record {
    does = makes_it 1073741820 (omega arith) (AStruct n s ea ef es eo);
    next = λ r region. inl (n, s, before_is (action.New n) [] [] ea ef refl, es, eo, region);
    fresh = λ k e. absurd (struct_no_channel (map zero_of s.fields) k (sym eo ∙ e));
  }
  made (ASlice p ea ef small eo) =
      let n = frame_word a.w p in
      let v = slice_size p ea ef small in
      record {
        does = makes_it 1073741820 (omega arith) (ASlice p ea ef small eo);
        next = λ r region.
            inr (inl (n, before_is action.Slice (p ∷ []) (value.Int (pos n) ∷ []) ea ef (ap (λ (y : Value). y ∷ []) v), slice_is p eo, region));
        fresh = λ k e. absurd (slice_no_channel (replicate n (element_zero (destination_type (erased T.code) (bare a.w) to))) k (sym eo ∙ e));
      }
  made (AChannel p ea ef small eo) =
      let n = frame_word a.w p in
      let v = channel_size p ea ef (omega (arith, small)) in
      record {
        does = makes_it 1073741820 (omega arith) (AChannel p ea ef small eo);
        next = λ r region. inr (inr (n, before_is action.Chan (p ∷ []) (value.Int (pos n) ∷ []) ea ef (ap (λ (y : Value). y ∷ []) v), eo, region));
        fresh = λ k e.
            let same : record { capacity = n; queue = []; closed = false } ≡ k =
            same_channel (record { capacity = n; queue = []; closed = false }) k (sym eo ∙ e) in (
              sym (ap (λ (y : Chan). y.queue) same),
              sym (ap (λ (y : Chan). y.closed) same),
              subst (λ (y : Chan). y.capacity < 1073741820) same small,
            );
      }
