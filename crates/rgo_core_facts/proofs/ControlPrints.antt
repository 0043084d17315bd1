-- The operands of a print: their types by the rule of the checker, their words by the invariant of types.
use Rattle.std.proofs.Common.{◌≡◌, ◌⊎◌, inl, inr, ◌∙◌, ℕ, Bool, true, false, List, Some, slice_get, Contains, sym, ap, subst, true≢false}
use Rattle.std.proofs.lemmas.Option.{same_Some}
use Rattle.std.specs.Int.{from_bool}
use Rattle.rgo_sound.specs.Code.Code.{CodeFn, CodeOp, Print, Slot}
use Rattle.rgo_sound.specs.Code.Erasure.{erased, erased_fn, erased_op}
use Rattle.rgo_sound.specs.Code.Types.{VariableHasType, IsWellTypedOp}
use Rattle.rgo_sound.specs.Code.declared.rules.Line.TheVariants as line
use Rattle.rgo_sound.specs.Code.declared.rules.Rule.TheVariants as rule
use Rattle.rgo_core.specs.Frames.steps.Before.{IsBefore}
use Rattle.rgo_core.specs.Frames.steps.Prints.{typed_in}
use Rattle.rgo_core.specs.Frames.shown.WordFrames.{frame_word}
use Rattle.rgo_core.specs.Frames.shown.Words.{Shows}
use Rattle.rgo_sound.specs.Memory.declared.values.Value.{Value}
use Rattle.rgo_sound.specs.Memory.declared.values.Value.TheVariants as value
use Rattle.rgo_sound.specs.RegionMachine.Owed.{current_in, function_at, code_function}
use Rattle.rgo_sound.proofs.calls.Passable.{slot_at}
use Rattle.rgo_sound.proofs.types.Steps.{var_kind}
use Rattle.rgo_sound.specs.Types.{HasKind}
use Rattle.rgo_sound.specs.Tac.Flow.{reads}
use Rattle.rgo_sound.specs.Tac.Frames.{value_at}
use Rattle.rgo_sound.specs.Typed.Types.{is_pointer_like}
use Rattle.rgo_sound.specs.Typed.declared.statements.Piece.{Piece}
use Rattle.rgo_sound.specs.Typed.declared.types.Type.{«Type»}
use Rattle.rgo_core.specs.Core.{Situation, Setup}
use Rattle.rgo_core.specs.Next.{IsAtOp}
use Rattle.rgo_core.specs.Records.{Record}
use Rattle.rgo_core.proofs.image.Parts.{I}
use Rattle.rgo_core.proofs.image.Standing.{at_instruction}
use Rattle.rgo_core_facts.specs.ControlPrints.{IsBoolWord, IsIntWord, CanBePrinted, OperandsPrinted}

zero_or_one : (b : Bool) (word : ℕ) → word ≡ from_bool b → (word ≡ 0) ⊎ (word ≡ 1)
zero_or_one true word e = inr e
zero_or_one false word e = inl e

typed_word : (addresses : List ℕ) (kinds : List «Type») (slot : Slot) (v : Value) (word : ℕ) → is_pointer_like slot.ty ≡ false
    → HasKind kinds slot.ty v → Shows addresses v word → IsIntWord slot word ⊎ IsBoolWord slot word
typed_word addresses kinds slot (value.Int z) word p k sh =
    inl (record { ty = k; fits = sh.0; shows = ap (λ (t : «Type»). typed_in t.layers t.base word) k })
typed_word addresses kinds slot (value.Bool b) word p k sh =
    inr (record { ty = k; fits = zero_or_one b word sh; shows = ap (λ (t : «Type»). typed_in t.layers t.base word) k })
typed_word addresses kinds slot value.Nil word p k sh = absurd (true≢false (sym k ∙ p))
typed_word addresses kinds slot (value.Object o) word p k sh = absurd (true≢false (sym k.1 ∙ p))

module _ {T : Setup} {g : ℕ} {c : Record} (x : Situation T g c) (pieces : List Piece) (from removes : List ℕ)
    (a : IsAtOp T.code c (Print pieces from removes)) where
  abbrev B : IsBefore T.code (I x).places.slot (I x).addresses x.s g c.frame a.w a.ws a.instr
  B = (at_instruction x a).before

  there : slice_get a.fn.body a.w.next ≡ Some a.instr
  there = sym (ap (λ o. current_in o a.w.next) a.in_fn) ∙ a.cur

  typed : IsWellTypedOp (erased T.code) (erased_fn a.fn) (erased_op (Print pieces from removes))
  typed = subst (λ (o : CodeOp). IsWellTypedOp (erased T.code) (erased_fn a.fn) (erased_op o)) a.is
      (x.core.sound.checked rule.Types (line.Instr a.w.function a.w.next) a.fn a.instr a.in_fn there)

  kind : (v : ℕ) (ty : «Type») → VariableHasType (erased_fn a.fn) v ty → HasKind B.kinds ty (value_at B.frame v)
  kind v ty t =
      let at : function_at T.code B.frame ≡ Some a.fn = ap (code_function T.code) (sym B.newest.alike.function) ∙ a.in_fn in
      let same : a.fn ≡ B.typed.0.0 = same_Some a.fn B.typed.0.0 (sym at ∙ B.typed.0.1) in
      var_kind B.kinds (erased_fn B.typed.0.0) B.frame B.typed.0.2 v ty
      (subst (λ (f : CodeFn). VariableHasType (erased_fn f) v ty) same t)

  pub printed : (v : ℕ) → Contains from v → CanBePrinted a.fn a.w v
  printed v within =
      let t = typed v within in
      let s = slot_at a.fn v t.0 t.1 in
      record {
        slot = s.0;
        is = s.1;
        word = typed_word (I x).addresses B.kinds s.0 (value_at B.frame v) (frame_word a.w v) (ap is_pointer_like s.2 ∙ t.2)
            (subst (λ ty. HasKind B.kinds ty (value_at B.frame v)) (sym s.2) (kind v t.0 t.1))
            (B.shown v (subst (λ (o : CodeOp). Contains (reads (erased_op o)) v) (sym a.is) within));
      }

pub operands_printed : OperandsPrinted
operands_printed T g c x pieces from removes a = printed x pieces from removes a
