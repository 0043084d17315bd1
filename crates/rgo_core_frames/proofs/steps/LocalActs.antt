-- A local instruction on frames, and on frames of words: operation by operation. The hard one is the return into a caller, whose
-- variables are shown only after its call (`CallerShows`).
use Rattle.std.specs.Int.{from_bool}
use Rattle.std.proofs.Common.{◌≡◌, ℕ, ◌+◌, Bool, true, false, List, [], ◌∷◌, Option, Some, None, refl, sym, ap, ◌∙◌, subst, option_map}
use Rattle.std.proofs.Common.{Contains, if◌then◌else◌, option_and_then}
use Rattle.std.proofs.lemmas.Option.{same_Some}
use Rattle.rgo_sound.specs.Typed.declared.actions.Action.{Action}
use Rattle.rgo_sound.specs.Typed.declared.actions.Action.TheVariants as action
use Rattle.rgo_sound.specs.Typed.declared.types.Type.{«Type»}
use Rattle.rgo_sound.specs.WellFormed.TypeRules.{bool, Takes}
use Rattle.rgo_sound.specs.Memory.declared.values.Value.{Value}
use Rattle.rgo_sound.specs.Memory.declared.values.Value.TheVariants as value
use Rattle.rgo_sound.specs.Memory.Memory.{Memory}
use Rattle.rgo_sound.specs.Machine.Actions.{is_true}
use Rattle.rgo_sound.specs.Tac.Flow.{reads, writes}
use Rattle.rgo_sound.specs.Tac.Frames.{TacFrame, new_tac_frame, frame_after_instr, moved_to, value_at, operand_values}
use Rattle.rgo_sound.specs.Tac.Steps.{tac_resumed, destination_type}
use Rattle.rgo_sound.specs.Code.Checked.{IsChecked}
use Rattle.rgo_sound.specs.Code.Code.{Branch, Call, Code, CodeFn, CodeInstr, CodeOp, Do, Go, Jump, Print, Return}
use Rattle.rgo_sound.specs.Code.Erasure.{erased, erased_fn, erased_op}
use Rattle.rgo_sound.specs.Code.Exists.{declared_in_code}
use Rattle.rgo_sound.specs.Code.Names.{edges}
use Rattle.rgo_sound.specs.Code.Types.{DoFits, IsWellTypedOp}
use Rattle.rgo_sound.specs.Code.declared.rules.Line.TheVariants as line
use Rattle.rgo_sound.specs.Code.declared.rules.Rule.TheVariants as rule
use Rattle.rgo_sound.specs.RegionMachine.States.{RegionState}
use Rattle.rgo_sound.specs.RegionMachine.Owed.{current, function_at, code_function}
use Rattle.rgo_sound.proofs.steps.Acting.{act, call, effected, moves, returned, trap_place}
use Rattle.rgo_sound.proofs.Places.{contains_here, contains_there}
use Rattle.rgo_sound.proofs.names.Ruled.{erased_found}
use Rattle.rgo_sound.proofs.types.Steps.{here, types, var_kind, vars_kinds}
use Rattle.rgo_sound.specs.Invariant.{HasInstr}
use Rattle.rgo_sound.specs.Types.{CalledFrom, FramesHaveKinds, HaveKinds, IsCallOf}
use Rattle.rgo_sound.proofs.pointers.Variables.{no_target}
use Rattle.rgo_core_frames.specs.Fits.{IsOfLive, ObjectsDiffer}
use Rattle.rgo_core_frames.specs.steps.Local.{local_op, word_branch, word_returned}
use Rattle.rgo_core_frames.specs.shown.Constants.{ConstantsFit}
use Rattle.rgo_core_frames.specs.shown.Operators.{computed}
use Rattle.rgo_core_frames.specs.shown.Variables.{CallerShows, CallersShow, FramesShow, NewestShows}
use Rattle.rgo_core_frames.specs.shown.WordFrames.{WordFrame, bare, is_set, frame_word, word_called, word_going, word_moved, word_resumed_at, words_of}
use Rattle.rgo_core_frames.specs.shown.Words.{AllShow}
use Rattle.rgo_core_frames.proofs.steps.Computing.{AllStanding, ConstantFits, Fitted, fitted, gives}
use Rattle.rgo_core_frames.proofs.shown.Showing.{all_reads_show, enters, goes_on, reads_show, resumes, resumes_with, waits}
use Rattle.rgo_core_frames.proofs.shown.WordLemmas.{IsStanding, truth_is}

pub mapped : {X Y : Type 0} (f : X → Y) (o : Option X) (y : Y) → option_map f o ≡ Some y → (x : X) × (o ≡ Some x) × (f x ≡ y)
mapped f None y e = cc
mapped f (Some x) y e = (x, refl, same_Some (f x) y e)

pub chained : {X Y : Type 0} (f : X → Option Y) (o : Option X) (y : Y) → option_and_then f o ≡ Some y → (x : X) × (o ≡ Some x) × (f x ≡ Some y)
chained f None y e = cc
chained f (Some x) y e = (x, refl, e)

-- the frames continue over the same memory, and the words show them
pub record ActsAlike
    (code : Code) (addresses : List ℕ) (m : Memory) (frame : TacFrame) (callers : List TacFrame) (instr : CodeInstr)
    (after : List WordFrame) : Type 0 where
  pub next : List TacFrame
  pub acts : act (erased code) m (erased_op instr.op) instr.place frame callers ≡ moves m next
  pub shown : FramesShow code addresses next after

module _ (code : Code) (checked : IsChecked code) (constants : ConstantsFit code) (addresses : List ℕ) (s : RegionState)
    (differ : ObjectsDiffer addresses s.regions s.owners) (kinds : List «Type») (m : Memory) (frame : TacFrame) (callers : List TacFrame) (w : WordFrame) (ws : List WordFrame)
    (typed : FramesHaveKinds code kinds (frame ∷ callers)) (instr : CodeInstr) (cur : current code frame ≡ Some instr)
    (t : NewestShows code addresses frame w) (waiting : CallersShow code addresses callers ws)
    (standing : (v o : ℕ) → Contains (reads (erased_op instr.op)) v → value_at frame v ≡ value.Object o
    → IsOfLive s.regions s.owners o) where
  abbrev IsThere : ℕ → Type 0
  IsThere o = IsOfLive s.regions s.owners o

  abbrev fn : CodeFn
  fn = typed.0.0

  is_fn : function_at code frame ≡ Some fn
  is_fn = typed.0.1

  kinds_here : HaveKinds kinds (erased_fn fn).variables frame.variables
  kinds_here = typed.0.2

  instr_here : HasInstr fn frame.next instr
  instr_here = here code checked frame fn instr is_fn cur

  op_fits : (op : CodeOp) → instr.op ≡ op → IsWellTypedOp (erased code) (erased_fn fn) (erased_op op)
  op_fits op is = types code checked frame fn instr is_fn cur op is

  -- the same, of the whole instruction, by its operation
  with_op : (after : List WordFrame) (op : CodeOp) → instr.op ≡ op → (next : List TacFrame)
      → act (erased code) m (erased_op op) instr.place frame callers ≡ moves m next → FramesShow code addresses next after
      → ActsAlike code addresses m frame callers instr after
  with_op after op is next e s = record {
    next = next;
    acts = ap (λ (o : CodeOp). act (erased code) m (erased_op o) instr.place frame callers) is ∙ e;
    shown = s;
  }

  edge_next : (op : CodeOp) (removes : List ℕ) → instr.op ≡ op
      → Contains {X = ℕ × List ℕ} (edges op frame.next) (frame.next + 1, removes)
      → Contains {X = ℕ × List ℕ} (edges instr.op frame.next) (frame.next + 1, removes)
  edge_next op removes is c = subst (λ (o : CodeOp). Contains {X = ℕ × List ℕ} (edges o frame.next) (frame.next + 1, removes)) (sym is) c

  -- ---- an action

  operands_fit : (to : Option ℕ) (a : Action) (from removes : List ℕ) → instr.op ≡ Do to a from removes → (word : ℕ)
      → AllShow addresses (operand_values frame from) (words_of w from) → computed a (words_of w from) ≡ Some word
      → Fitted a (operand_values frame from) (words_of w from)
  operands_fit to a from removes is word s e = go (op_fits (Do to a from removes) is)
    where
      no_value : (a : Action) (vs : List Value) (ws : List ℕ) (tys : List «Type») → Takes (declared_in_code (erased code)) a tys
          → computed a ws ≡ Some word → ⊥
      no_value (action.Int k) vs ws tys h e = h
      no_value (action.Bool b) vs ws tys h e = h
      no_value action.Nil vs ws tys h e = h
      no_value action.Copy vs ws tys h e = h
      no_value (action.Binary op) vs ws tys h e = h
      no_value action.Neg vs ws tys h e = h
      no_value action.Not vs ws tys h e = h
      no_value action.IsNil vs ws tys h e = h
      no_value action.Len vs ws tys h e = h
      no_value (action.Load k) vs ws tys h e = h
      no_value (action.Store k) vs ws tys h e = cc
      no_value action.At vs ws tys h e = h
      no_value action.Put vs ws tys h e = cc
      no_value (action.New n) vs ws tys h e = h
      no_value action.Slice vs ws tys h e = h
      no_value action.Chan vs ws tys h e = h
      no_value action.Recv vs ws tys h e = h
      no_value action.Send vs ws tys h e = cc
      no_value action.Close vs ws tys h e = cc
      no_value (action.Get n) vs ws tys h e = h
      no_value (action.Set n) vs ws tys h e = cc

      stands_at : (v : ℕ) → Contains from v → IsStanding addresses IsThere differ (value_at frame v)
      stands_at v c = by (value_at frame v) (λ o q. standing v o
          (subst (λ (op : CodeOp). Contains (reads (erased_op op)) v) (sym is) c) q)
        where
          by : (x : Value) → ((o : ℕ) → x ≡ value.Object o → IsThere o) → IsStanding addresses IsThere differ x
          by (value.Int z) k = tt
          by (value.Bool b) k = tt
          by value.Nil k = tt
          by (value.Object o) k = k o refl

      all_stand : (vs : List ℕ) → ((v : ℕ) → Contains vs v → IsStanding addresses IsThere differ (value_at frame v))
          → AllStanding addresses IsThere differ kinds (operand_values frame vs)
      all_stand [] k = tt
      all_stand (v ∷ vs) k = (k v (contains_here v vs), all_stand vs (λ u c. k u (contains_there v vs u c)))

      by_target : (to : Option ℕ) (tys : List «Type») → HaveKinds kinds tys (operand_values frame from)
          → DoFits (erased code) (erased_fn fn) to a tys → Fitted a (operand_values frame from) (words_of w from)
      by_target None tys h d = absurd (no_value a (operand_values frame from) (words_of w from) tys d e)
      by_target (Some d) tys h (ty, has, r) =
          fitted addresses IsThere differ kinds (erased code) a tys ty (operand_values frame from) (words_of w from) r (all_stand from stands_at) h s

      go : IsWellTypedOp (erased code) (erased_fn fn) (erased_op (Do to a from removes)) → Fitted a (operand_values frame from) (words_of w from)
      go (tys, have, d) = by_target to tys (vars_kinds kinds (erased_fn fn) frame kinds_here from tys have) d

  constant_fits : (to : Option ℕ) (a : Action) (from removes : List ℕ) → instr.op ≡ Do to a from removes → ConstantFits a
  constant_fits to (action.Int k) from removes is =
      constants frame.function frame.next fn instr to k from removes is_fn instr_here is
  constant_fits to (action.Bool b) from removes is = tt
  constant_fits to action.Nil from removes is = tt
  constant_fits to action.Copy from removes is = tt
  constant_fits to (action.Binary op) from removes is = tt
  constant_fits to action.Neg from removes is = tt
  constant_fits to action.Not from removes is = tt
  constant_fits to action.IsNil from removes is = tt
  constant_fits to action.Len from removes is = tt
  constant_fits to (action.Load k) from removes is = tt
  constant_fits to (action.Store k) from removes is = tt
  constant_fits to action.At from removes is = tt
  constant_fits to action.Put from removes is = tt
  constant_fits to (action.New n) from removes is = tt
  constant_fits to action.Slice from removes is = tt
  constant_fits to action.Chan from removes is = tt
  constant_fits to action.Recv from removes is = tt
  constant_fits to action.Send from removes is = tt
  constant_fits to action.Close from removes is = tt
  constant_fits to (action.Get n) from removes is = tt
  constant_fits to (action.Set n) from removes is = tt

  does_alike : (to : Option ℕ) (a : Action) (from removes : List ℕ) → instr.op ≡ Do to a from removes → (word : ℕ)
      → computed a (words_of w from) ≡ Some word → ActsAlike code addresses m frame callers instr (word_going w to word ∷ ws)
  does_alike to a from removes is word e =
      let s = all_reads_show addresses code frame w instr cur t from
      (λ v c. subst (λ (op : CodeOp). Contains (reads (erased_op op)) v) (sym is) c) in
      let g = gives addresses IsThere differ code.structs a (destination_type (erased code) frame to) (operand_values frame from) (words_of w from) m word
      (constant_fits to a from removes is) (operands_fit to a from removes is word s e) s e in
      with_op (word_going w to word ∷ ws) (Do to a from removes) is (frame_after_instr frame to g.value ∷ callers)
      (ap (effected m frame callers to (trap_place a instr.place)) g.is) (
        subst (λ n. NewestShows code addresses (frame_after_instr frame to g.value) (record { function = w.function; next = n; variables = (word_going w to word).variables }))
            (ap (λ n. n + 1) (sym t.alike.next))
            (goes_on addresses code frame w instr cur t to g.value word (frame.next + 1) removes
            (edge_next (Do to a from removes) removes is (contains_here {X = ℕ × List ℕ} (frame.next + 1, removes) []))
            (ap (λ op. writes (erased_op op)) is) g.shows),
        waiting,
      )

  -- ---- a jump and a branch

  jumps_alike : (op : CodeOp) (i : ℕ) (removes : List ℕ) → instr.op ≡ op → writes (erased_op op) ≡ None
      → Contains {X = ℕ × List ℕ} (edges op frame.next) (i, removes)
      → act (erased code) m (erased_op op) instr.place frame callers ≡ moves m (moved_to frame i ∷ callers)
      → ActsAlike code addresses m frame callers instr (word_moved w i ∷ ws)
  jumps_alike op i removes is wr edge e =
      with_op (word_moved w i ∷ ws) op is (moved_to frame i ∷ callers) e (
        goes_on addresses code frame w instr cur t None value.Nil 0 i removes
            (subst (λ (o : CodeOp). Contains {X = ℕ × List ℕ} (edges o frame.next) (i, removes)) (sym is) edge)
            (ap (λ o. writes (erased_op o)) is ∙ wr) refl,
        waiting,
      )

  pub test_shows : (test target other : ℕ) (removes otherwise : List ℕ) → instr.op ≡ Branch test target removes other otherwise
      → is_set (frame_word w test) ≡ is_true (value_at frame test)
  test_shows test target other removes otherwise is =
      let k = var_kind kinds (erased_fn fn) frame kinds_here test bool (op_fits (Branch test target removes other otherwise) is) in
      let s = reads_show addresses code frame w instr cur t test
      (subst (λ (op : CodeOp). Contains (reads (erased_op op)) test) (sym is) (contains_here test [])) in
      let b = truth_is kinds addresses (value_at frame test) (frame_word w test) k s in
      ap is_set b.word ∙ go b.truth ∙ sym (ap is_true b.is)
    where
      go : (b : Bool) → is_set (from_bool b) ≡ is_true (value.Bool b)
      go true = refl
      go false = refl

  branches_alike : (test target other : ℕ) (removes otherwise : List ℕ) → instr.op ≡ Branch test target removes other otherwise
      → ActsAlike code addresses m frame callers instr (word_moved w (word_branch w test target other) ∷ ws)
  branches_alike test target other removes otherwise is =
      subst (λ b. ActsAlike code addresses m frame callers instr (word_moved w (if b then target else other) ∷ ws))
      (sym (test_shows test target other removes otherwise is)) (go (is_true (value_at frame test)) refl)
    where
      go : (b : Bool) → is_true (value_at frame test) ≡ b
          → ActsAlike code addresses m frame callers instr (word_moved w (if b then target else other) ∷ ws)
      go true q = jumps_alike (Branch test target removes other otherwise) target removes is refl
          (contains_here {X = ℕ × List ℕ} (target, removes) ((other, otherwise) ∷ []))
          (ap (λ b. moves m (moved_to frame (if b then target else other) ∷ callers)) q)
      go false q = jumps_alike (Branch test target removes other otherwise) other otherwise is refl
          (contains_there {X = ℕ × List ℕ} (target, removes) ((other, otherwise) ∷ []) (other, otherwise)
          (contains_here {X = ℕ × List ℕ} (other, otherwise) []))
          (ap (λ b. moves m (moved_to frame (if b then target else other) ∷ callers)) q)

  -- ---- a call

  calls_alike : (to : Option ℕ) (n : ℕ) (from : List ℕ) (passes : List _) (protects removes : List ℕ)
      → instr.op ≡ Call to n from passes protects removes → (callee : CodeFn) → code_function code n ≡ Some callee
      → ActsAlike code addresses m frame callers instr (word_called callee n (words_of w from) ∷ w ∷ ws)
  calls_alike to n from passes protects removes is callee found =
      let s = all_reads_show addresses code frame w instr cur t from
      (λ v c. subst (λ (op : CodeOp). Contains (reads (erased_op op)) v) (sym is) c) in
      with_op (word_called callee n (words_of w from) ∷ w ∷ ws) (Call to n from passes protects removes) is
      (new_tac_frame (erased_fn callee) n (operand_values frame from) ∷ frame ∷ callers)
      (ap (call m frame callers n (operand_values frame from)) (erased_found code n callee found)) (
        enters addresses code callee n (operand_values frame from) (words_of w from) s,
        (waits addresses code frame w instr cur t to n from passes protects removes is, waiting),
      )

  -- ---- a return

  returns_alike : (value : Option ℕ) → instr.op ≡ Return value
      → ActsAlike code addresses m frame callers instr (word_returned code (option_map (frame_word w) value) ws)
  returns_alike value is =
      let x = back value is callers ws waiting typed.1 typed.2 in with_op _ (Return value) is x.0 x.1 x.2
    where
      -- a caller continues
      continues : (value : Option ℕ) → instr.op ≡ Return value → (caller : TacFrame) (u : WordFrame)
          → CallerShows code addresses caller u → (cfn : CodeFn) → function_at code caller ≡ Some cfn → (call : CodeInstr)
          → current code caller ≡ Some call → IsCallOf code call.op fn
          → NewestShows code addresses (tac_resumed (erased code) caller (option_map (value_at frame) value))
          (word_resumed_at u (current code (bare u)) (option_map (frame_word w) value))
      continues None is caller u c cfn is_cfn call cur_c calls =
          resumes addresses code caller u c call cur_c (no_target code fn cfn call.op (op_fits (Return None) is) calls
          (checked rule.Exists (line.Instr caller.function caller.next) cfn call is_cfn
          (here code checked caller cfn call is_cfn cur_c)).exists)
      continues (Some v) is caller u c cfn is_cfn call cur_c calls =
          resumes_with addresses code caller u c call cur_c (value_at frame v) (frame_word w v)
          (reads_show addresses code frame w instr cur t v
          (subst (λ (op : CodeOp). Contains (reads (erased_op op)) v) (sym is) (contains_here v [])))

      back : (value : Option ℕ) → instr.op ≡ Return value → (cs : List TacFrame) (us : List WordFrame)
          → CallersShow code addresses cs us → CalledFrom code frame cs → FramesHaveKinds code kinds cs
          → (next : List TacFrame) × (returned (erased code) m (option_map (value_at frame) value) cs ≡ moves m next)
          × FramesShow code addresses next (word_returned code (option_map (frame_word w) value) us)
      back value is [] [] s c k = ([], refl, tt)
      back value is [] (u ∷ us) s c k = absurd s
      back value is (caller ∷ cs) [] s c k = absurd s
      back value is (caller ∷ cs) (u ∷ us) s (g, is_g, call, cur_c, calls) k = (
        tac_resumed (erased code) caller (option_map (value_at frame) value) ∷ cs,
        refl,
        (
          continues value is caller u s.0 k.0.0 k.0.1 call cur_c
              (subst (λ (x : CodeFn). IsCallOf code call.op x) (same_Some g fn (sym is_g ∙ is_fn)) calls),
          s.1,
        ),
      )

  pub acts_alike : (op : CodeOp) → instr.op ≡ op → (after : List WordFrame) → local_op code w ws op ≡ Some after
      → ActsAlike code addresses m frame callers instr after
  acts_alike (Do to a from removes) is after e =
      let x = mapped (λ word. word_going w to word ∷ ws) (computed a (words_of w from)) after e in
      subst (ActsAlike code addresses m frame callers instr) x.2 (does_alike to a from removes is x.0 x.1)
  acts_alike (Call to n from passes protects removes) is after e =
      let x = mapped (λ callee. word_called callee n (words_of w from) ∷ w ∷ ws) (code_function code n) after e in
      subst (ActsAlike code addresses m frame callers instr) x.2 (calls_alike to n from passes protects removes is x.0 x.1)
  acts_alike (Go n from passes removes) is after e = cc
  acts_alike (Print pieces from removes) is after e = cc
  acts_alike (Jump target removes) is after e =
      subst (ActsAlike code addresses m frame callers instr) (same_Some _ after e)
      (jumps_alike (Jump target removes) target removes is refl (contains_here {X = ℕ × List ℕ} (target, removes) []) refl)
  acts_alike (Branch test target removes other otherwise) is after e =
      subst (ActsAlike code addresses m frame callers instr) (same_Some _ after e)
      (branches_alike test target other removes otherwise is)
  acts_alike (Return value) is after e =
      subst (ActsAlike code addresses m frame callers instr) (same_Some _ after e) (returns_alike value is)
