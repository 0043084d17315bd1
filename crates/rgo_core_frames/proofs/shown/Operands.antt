-- What words of operands mean, and a load. The type of the value is known from the invariant, so its word can show nothing else.
use Rattle.std.proofs.Common.{◌≡◌, ℕ, suc, true, List, [], ◌∷◌, ◌++◌, length, Some, refl, sym, ap, ◌∙◌, subst, arith}
use Rattle.std.proofs.Common.{slice_get, append-nil, Contains, true≢false, le_refl}
use Rattle.std.proofs.lemmas.Option.{same_Some, slice_get_past}
use Rattle.rgo_sound.specs.Typed.declared.actions.Action.TheVariants as action
use Rattle.rgo_sound.specs.Typed.declared.types.Type.{«Type»}
use Rattle.rgo_sound.specs.Typed.Types.{is_pointer_like}
use Rattle.rgo_sound.specs.WellFormed.TypeRules.{int}
use Rattle.rgo_sound.specs.Memory.declared.values.Value.{Value}
use Rattle.rgo_sound.specs.Memory.declared.values.Value.TheVariants as value
use Rattle.rgo_sound.specs.Memory.Effects.{answered}
use Rattle.rgo_sound.specs.Memory.Fields.{field_value, load}
use Rattle.rgo_sound.specs.Tac.Flow.{reads}
use Rattle.rgo_sound.specs.Tac.Frames.{value_at}
use Rattle.rgo_sound.specs.Code.Code.{Code, CodeFn, CodeInstr, CodeOp, Do}
use Rattle.rgo_sound.specs.Code.Erasure.{erased_fn, erased_op}
use Rattle.rgo_sound.specs.Code.Types.{VariableHasType}
use Rattle.rgo_sound.specs.RegionMachine.Objects.{allotted, making_region}
use Rattle.rgo_sound.specs.RegionMachine.Owed.{function_at, code_function}
use Rattle.rgo_sound.specs.RegionMachine.States.{RegionState, top_names}
use Rattle.rgo_sound.proofs.Places.{contains_here}
use Rattle.rgo_sound.proofs.types.Steps.{var_kind}
use Rattle.rgo_sound.specs.Types.{HasKind}
use Rattle.rgo_core_frames.specs.steps.Actions.{FrameLoadLaw, acted_records}
use Rattle.rgo_core_frames.specs.steps.Before.{IsBefore}
use Rattle.rgo_core_frames.specs.Fits.{ObjectsDiffer, IsOfLive}
use Rattle.rgo_core_frames.specs.shown.Operands.{IntLaw, PointerLaw, PointsTo}
use Rattle.rgo_core_frames.specs.Records.{FramesRec}
use Rattle.rgo_core_frames.specs.steps.Bookkept.{PerformsInstr}
use Rattle.rgo_core_frames.specs.shown.WordFrames.{WordFrame, frame_word}
use Rattle.rgo_core_frames.specs.shown.Words.{Shows}
use Rattle.rgo_core_frames.proofs.steps.ActionSteps.{action_law}
use Rattle.rgo_sound.proofs.Progress.{live_of}
use Rattle.rgo_core_frames.proofs.shown.WordLemmas.{int_is}
use Rattle.rgo_core_frames.specs.States.{AtInstruction}
use Rattle.rgo_sound.specs.Memory.Memory.{Object}

module _ (code : Code) (slot_of : ℕ → ℕ) (addresses : List ℕ) (s : RegionState) (g : ℕ) (c : FramesRec) (w : WordFrame) (ws : List WordFrame)
    (instr : CodeInstr) (fn : CodeFn) (v : ℕ) (ty : «Type») (b : IsBefore code slot_of addresses s g c w ws instr)
    (is_fn : code_function code w.function ≡ Some fn) (read : Contains (reads (erased_op instr.op)) v)
    (typed : VariableHasType (erased_fn fn) v ty) where
  kind : HasKind b.kinds ty (value_at b.frame v)
  kind =
      let at : function_at code b.frame ≡ Some fn = ap (code_function code) (sym b.newest.alike.function) ∙ is_fn in
      let same : fn ≡ b.typed.0.0 = same_Some fn b.typed.0.0 (sym at ∙ b.typed.0.1) in
      var_kind b.kinds (erased_fn b.typed.0.0) b.frame b.typed.0.2 v ty
      (subst (λ (f : CodeFn). VariableHasType (erased_fn f) v ty) same typed)

  pub is_nil_word : frame_word w v ≡ 0 → is_pointer_like ty ≡ true → value_at b.frame v ≡ value.Nil
  is_nil_word z p = by (value_at b.frame v) kind (b.shown v read)
    where
      by : (x : Value) → HasKind b.kinds ty x → Shows addresses x (frame_word w v) → x ≡ value.Nil
      by (value.Int i) k sh = absurd (true≢false (sym p ∙ ap is_pointer_like k))
      by (value.Bool t) k sh = absurd (true≢false (sym p ∙ ap is_pointer_like k))
      by value.Nil k sh = refl
      by (value.Object o) k (a, e, q) = absurd (omega (arith, q, z))

  pub points : (a : ℕ) → frame_word w v ≡ suc a → is_pointer_like ty ≡ true → PointsTo addresses s b.h (value_at b.frame v) a
  points a is p = by (value_at b.frame v) refl kind (b.shown v read)
    where
      by : (x : Value) → value_at b.frame v ≡ x → HasKind b.kinds ty x → Shows addresses x (frame_word w v)
          → PointsTo addresses s b.h (value_at b.frame v) a
      by (value.Int i) e k sh = absurd (true≢false (sym p ∙ ap is_pointer_like k))
      by (value.Bool t) e k sh = absurd (true≢false (sym p ∙ ap is_pointer_like k))
      by value.Nil e k sh = absurd (omega (arith, sh, is))
      by (value.Object o) e k (q, f, i) =
          let same : q ≡ a = omega (arith, i, is) in
          let x = b.staked v o read e in
          record { object = o; is = e; at = f ∙ ap Some same; region = x.0; owner = x.1; staked = x.2 }

pub int_law : IntLaw
int_law x v o =
    let y = x.here in
    (int_is x.before.kinds y.addresses (value_at x.before.frame v) (frame_word x.w v)
    (kind y.code y.slot_of y.addresses y.s y.g y.c x.w x.ws x.instr o.fn v int x.before o.is_fn o.read o.typed)
    (x.before.shown v o.read)).is

pub pointer_law : PointerLaw
pointer_law x v ty o p =
    let y = x.here in (
      (λ z. is_nil_word y.code y.slot_of y.addresses y.s y.g y.c x.w x.ws x.instr o.fn v ty x.before o.is_fn o.read o.typed z p),
      (λ a is. points y.code y.slot_of y.addresses y.s y.g y.c x.w x.ws x.instr o.fn v ty x.before o.is_fn o.read o.typed a is p),
    )

-- ---- a load

module _ (x : AtInstruction) (fn : CodeFn) (d k p a found : ℕ) (ty : «Type») (removes : List ℕ)
    (is : x.instr.op ≡ Do (Some d) (action.Load k) (p ∷ []) removes) (is_fn : code_function x.here.code x.w.function ≡ Some fn)
    (typed : VariableHasType (erased_fn fn) p ty) (like : is_pointer_like ty ≡ true) (at : frame_word x.w p ≡ suc a) where
  abbrev heap : List Object
  heap = x.here.s.plain.memory.heap

  pub loads_from : PointsTo x.here.addresses x.here.s x.before.h (value_at x.before.frame p) a
  loads_from = points x.here.code x.here.slot_of x.here.addresses x.here.s x.here.g x.here.c x.w x.ws x.instr fn p ty x.before
      is_fn (subst (λ (o : CodeOp). Contains (reads (erased_op o)) p) (sym is) (contains_here p [])) typed a at like

  loads : ((o : ℕ) → slice_get x.here.addresses o ≡ Some a → IsOfLive x.here.s.regions x.here.s.owners o
      → Shows x.here.addresses (field_value (slice_get heap o) k) found)
      → PerformsInstr x x.here.addresses x.here.s.plain.memory [] (x.before.h, []) (acted_records x (Some d) found)
  loads shows =
      subst (λ l. PerformsInstr x l x.here.s.plain.memory [] (x.before.h, []) (acted_records x (Some d) found)) (append-nil x.here.addresses)
      (action_law x [] (Some d) (action.Load k) (p ∷ []) removes x.here.s.plain.memory
      (field_value (slice_get heap loads_from.object) k) found (x.before.h, []) is
      (ap (λ v. Some (answered x.here.s.plain.memory (load x.here.s.plain.memory v k))) loads_from.is)
      (ap (allotted x.here.page_words x.before.h
      (making_region (function_at x.here.code x.before.frame) (top_names x.before.h.environments) x.instr.op))
      (slice_get_past heap (length heap) (le_refl _)))
      (subst (λ l. Shows l (field_value (slice_get heap loads_from.object) k) found) (sym (append-nil x.here.addresses))
      (shows loads_from.object loads_from.at
      (loads_from.region, loads_from.owner, live_of x.here.s x.before.h loads_from.region loads_from.staked)))
      (ap length (append-nil x.here.addresses) ∙ x.here.all.laid)
      (subst (λ l. ObjectsDiffer l x.here.s.regions (x.here.s.owners ++ [])) (sym (append-nil x.here.addresses))
      (subst (ObjectsDiffer x.here.addresses x.here.s.regions) (sym (append-nil x.here.s.owners)) x.here.all.addresses_differ)))

pub load_law : FrameLoadLaw
load_law x fn d k p a found ty removes is is_fn typed like at shows =
    loads x fn d k p a found ty removes is is_fn typed like at shows
