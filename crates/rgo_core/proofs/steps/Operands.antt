-- The operands of a record's next instruction, by the types of checked code; and an action that makes no object. A word is read as its type
-- says, and a pointer leads to one live object.
use Rattle.std.proofs.Common.{◌≡◌, ℕ, suc, ◌+◌, ◌<◌, ◌^◌, w64, false, true, List, [], ◌∷◌, ◌++◌, Option, Some, length, map, slice_get, slice_set, slice_index, ap, sym, subst, ◌∙◌, arith, append-nil, Contains}
use Rattle.std.specs.Int.{cast_signed}
use Rattle.rgo_sound.specs.Code.Code.{CodeOp, Do}
use Rattle.rgo_sound.specs.Code.Erasure.{erased, erased_fn, erased_op}
use Rattle.rgo_sound.specs.Code.Types.{VariableHasType, VariablesHaveTypes, IsWellTypedOp}
use Rattle.rgo_sound.specs.Memory.Effects.{Does}
use Rattle.rgo_sound.specs.Memory.Memory.{Memory as Heap, Object}
use Rattle.rgo_sound.specs.Memory.declared.values.Value.{Value}
use Rattle.rgo_sound.specs.Memory.declared.values.Value.TheVariants as value
use Rattle.rgo_sound.specs.RegionMachine.Objects.{allotted, is_spread, making_region, object_words as words_of}
use Rattle.rgo_sound.specs.RegionMachine.Owed.{function_at, code_function}
use Rattle.rgo_sound.specs.RegionMachine.Regions.{is_live}
use Rattle.rgo_sound.specs.RegionMachine.States.{top_names}
use Rattle.rgo_sound.proofs.steps.Acting.{performed}
use Rattle.rgo_sound.proofs.Progress.{live_of}
use Rattle.rgo_sound.proofs.types.Steps.{types}
use Rattle.rgo_sound.specs.Tac.Flow.{reads}
use Rattle.rgo_sound.specs.Tac.Frames.{value_at, operand_values}
use Rattle.rgo_sound.specs.Tac.Steps.{destination_type}
use Rattle.rgo_sound.specs.Typed.declared.actions.Action.{Action}
use Rattle.rgo_sound.specs.Typed.declared.types.Type.{«Type»}
use Rattle.rgo_sound.specs.Typed.Types.{is_pointer_like}
use Rattle.rgo_sound.specs.WellFormed.TypeRules.{int}
use Rattle.rgo_core_frames.specs.steps.Actions.{after_action}
use Rattle.rgo_core_frames.specs.steps.Before.{IsBefore}
use Rattle.rgo_core_frames.specs.Fits.{ObjectsDiffer}
use Rattle.rgo_core_frames.specs.shown.Operands.{IsOperand, PointsTo}
use Rattle.rgo_core_frames.specs.steps.Bookkept.{HasInstruction}
use Rattle.rgo_core_frames.specs.shown.WordFrames.{frame_word as word_of_frame}
use Rattle.rgo_core_frames.specs.shown.Words.{Shows}
use Rattle.rgo_core_frames.proofs.steps.ActionSteps.{action_law}
use Rattle.rgo_core_frames.proofs.shown.Operands.{int_law, pointer_law}
use Rattle.rgo_core_memory.specs.Accesses.{Before}
use Rattle.rgo_core_memory.specs.Encoding.{address, content}
use Rattle.rgo_core_memory.specs.Ground.{IsLiveObject, ground_of}
use Rattle.rgo_core_memory.specs.Image.{word_at}
use Rattle.rgo_core_memory.specs.Words.{base}
use Rattle.rgo_core_memory.proofs.image.Facts.{follow, spread_follow}
use Rattle.rgo_core_memory.specs.Spread.{words_before}
use Rattle.rgo_sound.proofs.Tests.{split}
use Rattle.rgo_core_memory.proofs.image.Steadies.{steady_of}
use Rattle.rgo_core_memory.proofs.image.Stepped.{slice_get_none}
use Rattle.rgo_core_memory.proofs.accesses.Storing.{loads}
use Rattle.rgo_core.specs.Core.{Situation, Setup, layout}
use Rattle.rgo_core.specs.Next.{IsAtOp}
use Rattle.rgo_core.specs.Records.{Record, frame_of, memory_of}
use Rattle.rgo_core.proofs.image.Encodings.{shows_it}
use Rattle.rgo_core.proofs.image.Contents.{content_fits}
use Rattle.rgo_core.proofs.new_objects.MakesObject.{first_type}
use Rattle.rgo_core.proofs.image.Parts.{I}
use Rattle.rgo_core.proofs.image.Standing.{at_instruction}

module _ {T : Setup} {g : ℕ} {c : Record} (x : Situation T g c) (to : Option ℕ) (act : Action) (from removes : List ℕ)
    (a : IsAtOp T.code c (Do to act from removes)) where
  abbrev pub b : IsBefore T.code (I x).places.slot (I x).addresses x.s g c.frame a.w a.ws a.instr
  b = (at_instruction x a).before

  -- the types of the operands
  pub rule : IsWellTypedOp (erased T.code) (erased_fn a.fn) (erased_op (Do to act from removes))
  rule = types T.code x.core.sound.checked b.frame a.fn a.instr (ap (code_function T.code) (sym b.newest.alike.function) ∙ a.in_fn) b.cur
      (Do to act from removes) a.is

  pub before : (values : List Value) → operand_values b.frame from ≡ values → Before T.code x.s g act values
  before values e = record {
    frame = b.frame;
    callers = b.callers;
    at = b.at;
    instr = a.instr;
    cur = b.cur;
    to = to;
    from = from;
    removes = removes;
    is = a.is;
    operands = e;
  }

  pub shown : (v : ℕ) → Contains (reads (erased_op (Do to act from removes))) v → Shows (I x).addresses (value_at b.frame v) (word_of_frame a.w v)
  shown v read = b.shown v (subst (λ (o : CodeOp). Contains (reads (erased_op o)) v) (sym a.is) read)

  -- ---- a variable that it reads

  module _ (v : ℕ) (ty : «Type») (read : Contains (reads (erased_op (Do to act from removes))) v) (typed : VariableHasType (erased_fn a.fn) v ty) where
    pub operand : IsOperand (at_instruction x a) v ty
    operand = record {
      fn = a.fn;
      is_fn = a.in_fn;
      read = subst (λ (o : CodeOp). Contains (reads (erased_op o)) v) (sym a.is) read;
      typed = typed;
    }

    pub nil_there : is_pointer_like ty ≡ true → word_of_frame a.w v ≡ 0 → value_at b.frame v ≡ value.Nil
    nil_there like nil = (pointer_law (at_instruction x a) v ty operand like).0 nil

    -- an int, of 64 bits
    pub int_there : ty ≡ int → value_at b.frame v ≡ value.Int (cast_signed w64 (word_of_frame a.w v))
    int_there is = int_law (at_instruction x a) v (subst (IsOperand (at_instruction x a) v) is operand)

    pub int_small : ty ≡ int → word_of_frame a.w v < 2 ^ 64
    int_small is =
        let s : Shows (I x).addresses (value.Int (cast_signed w64 (word_of_frame a.w v))) (word_of_frame a.w v) =
        subst (λ (u : Value). Shows (I x).addresses u (word_of_frame a.w v)) (int_there is) (shown v read) in
        let l = s.0 in omega (arith, l)

  -- ---- an object to which the first operand points
  module _ (p at : ℕ) (ty : «Type») (tys : List «Type») (others : List ℕ) (types_are : rule.0 ≡ ty ∷ tys) (from_is : from ≡ p ∷ others)
      (like : is_pointer_like ty ≡ true) (read : Contains (reads (erased_op (Do to act from removes))) p)
      (points : word_of_frame a.w p ≡ suc at) where
    pub typed : VariableHasType (erased_fn a.fn) p ty
    typed = first_type (erased_fn a.fn) p others rule.0 ty tys types_are
        (subst (λ (l : List ℕ). VariablesHaveTypes (erased_fn a.fn) l rule.0) from_is rule.1)

    pub to_it : PointsTo (I x).addresses x.s b.h (value_at b.frame p) at
    to_it = (pointer_law (at_instruction x a) p ty (operand p ty read typed) like).1 at points

    pub live : is_live x.s.regions to_it.region ≡ true
    live = live_of x.s b.h to_it.region to_it.staked

    pub stands : (object : Object) → slice_get x.s.plain.memory.heap to_it.object ≡ Some object
        → IsLiveObject x.s.plain.memory.heap x.s.owners x.s.regions to_it.object object to_it.region
    stands object e = record { there = e; owner = to_it.owner; live = live }

    -- its words in the table, if it fits a page
    pub word_there : (object : Object) → slice_get x.s.plain.memory.heap to_it.object ≡ Some object
        → is_spread T.sizes.page_words object ≡ false → (k : ℕ) → k < words_of object
        → word_at (layout T) (I x).places to_it.object k ≡ base (layout T) + (at + k)
    word_there object e whole k low =
        (follow (layout T) x.words (map memory_of x.recs) x.s (I x).places (I x).memory to_it.object k object to_it.region (stands object e) whole low).0
        ∙ ap (λ n. base (layout T) + (n + k)) (sym ((I x).addressed to_it.object at to_it.at))

    -- and those before its cells, whether it does or not
    pub word_before : (object : Object) → slice_get x.s.plain.memory.heap to_it.object ≡ Some object → (k : ℕ) → k < words_before object
        → word_at (layout T) (I x).places to_it.object k ≡ base (layout T) + (at + k)
    word_before object e k low = split (is_spread T.sizes.page_words object)
        (λ sp. (spread_follow (layout T) x.words (map memory_of x.recs) x.s (I x).places (I x).memory to_it.object object to_it.region (stands object e) sp).1 k low
        ∙ ap (λ n. base (layout T) + (n + k)) (sym ((I x).addressed to_it.object at to_it.at)))
        (λ whole. word_there object e whole k (omega (arith, low)))

    -- a word of a value shows it
    pub found_shows : (object : Object) → slice_get x.s.plain.memory.heap to_it.object ≡ Some object → (k : ℕ) (v : Value)
        → content object k ≡ Some v
        → Shows (I x).addresses v (slice_index x.words (word_at (layout T) (I x).places to_it.object k))
    found_shows object e k v q =
        subst (Shows (I x).addresses v)
        (sym (loads (layout T) x.words (map memory_of x.recs) (ground_of x.s) (I x).places (I x).memory to_it.object k object to_it.region v
        (stands object e) q))
        (shows_it (I x).addresses (address (layout T) (I x).places.start) (I x).addressed v
        (λ n w. content_fits x to_it.object k object e n (q ∙ ap Some w))
        (λ o w. let y = (steady_of T.code x.s x.core.sound.good).cells to_it.object k o object e (q ∙ ap Some w) in
        let l = (I x).frames.laid in omega (arith, y, l)))

  -- ---- the action, which makes no object

  pub acts : (mem : Heap) (v : Value) (word : ℕ)
      → performed T.code.structs act (destination_type (erased T.code) b.frame to) (operand_values b.frame from) x.s.plain.memory ≡ Some (Does mem v)
      → length mem.heap ≡ length x.s.plain.memory.heap → Shows (I x).addresses v word
      → HasInstruction T.code T.sizes.page_words (I x).places.slot (I x).addresses x.s g mem [] (b.h, [])
      (slice_set (map frame_of x.recs) g (after_action T.code c.frame a.w a.ws a.instr to word))
  acts mem v word performs same shows =
      subst (λ l. HasInstruction T.code T.sizes.page_words (I x).places.slot l x.s g mem [] (b.h, [])
      (slice_set (map frame_of x.recs) g (after_action T.code c.frame a.w a.ws a.instr to word))) (append-nil (I x).addresses)
      (action_law (at_instruction x a) [] to act from removes mem v word (b.h, []) a.is performs
      (ap (allotted T.sizes.page_words b.h (making_region (function_at T.code b.frame) (top_names b.h.environments) a.instr.op))
      (slice_get_none mem.heap (length x.s.plain.memory.heap) (omega (arith, same))))
      (subst (λ l. Shows l v word) (sym (append-nil (I x).addresses)) shows)
      (ap length (append-nil (I x).addresses) ∙ ((I x).frames.laid ∙ sym same))
      (subst (λ l. ObjectsDiffer l x.s.regions (x.s.owners ++ [])) (sym (append-nil (I x).addresses))
      (subst (ObjectsDiffer (I x).addresses x.s.regions) (sym (append-nil x.s.owners)) (I x).frames.addresses_differ)))

  -- equally many frames as before
  pub as_deep : (word : ℕ) → length (after_action T.code c.frame a.w a.ws a.instr to word).frames ≡ length c.frame.frames
  as_deep word = ap length (sym a.frames)
