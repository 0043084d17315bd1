-- Each step of the three-address machine keeps the types of values. Two cases need more than the types of one frame. A returned value
-- has the type of the variable that waits for it, because the caller is at a call of this very function (`CalledFrom`). A value that is
-- sent has the type that the receiver expects, because the channel is one object with one type (`one_inner`).
use Rattle.std.proofs.Common.{◌≡◌, ℕ, zero, suc, ◌+◌, ◌⊎◌, inl, inr, Bool, true, false, List, [], ◌∷◌, ◌++◌, map, take}
use Rattle.std.proofs.Common.{drop, length, Option, Some, None, refl, sym, ap, ◌∙◌, subst, nat_eq, if◌then◌else◌}
use Rattle.std.proofs.Common.{true≢false, slice_get, slice_set, option_map, option_and_then}
use Rattle.std.proofs.lemmas.Option.{get_or_from_slice_get, same_Some, slice_get-map}
use Rattle.rgo_sound.proofs.Tests.{eq_of, split}
use Rattle.rgo_typed.specs.declared.actions.Action.{Action}
use Rattle.rgo_typed.specs.declared.actions.Action.TheVariants.{Recv, Send}
use Rattle.rgo_typed.specs.declared.types.Type.{«Type»}
use Rattle.rgo_wellformed.specs.TypeRules.{chan_of}
use Rattle.rgo_memory.specs.declared.values.Value.{Value}
use Rattle.rgo_memory.specs.declared.values.Value.TheVariants as value
use Rattle.rgo_memory.specs.Channels.{is_meeting_at, meets_at}
use Rattle.rgo_memory.specs.Effects.{Does, Effect, Traps}
use Rattle.rgo_memory.specs.Memory.{Memory}
use Rattle.rgo_memory.specs.Values.{zero_of}
use Rattle.rgo_machine.specs.declared.picks.End.{End}
use Rattle.rgo_machine.specs.declared.picks.Pick.{Pick}
use Rattle.rgo_machine.specs.declared.picks.Pick.TheVariants.{Meet, One}
use Rattle.rgo_machine.specs.Actions.{is_true}
use Rattle.rgo_machine.specs.Machines.{AtCall, AtClose, AtReceive, AtSend, AtStart, Elsewhere, Stand, met, met_by}
use Rattle.rgo_machine.specs.Machines.{picked, unless_ended, with_frames}
use Rattle.rgo_machine.specs.Machines as machine
use Rattle.rgo_tac.specs.Code.{TacFn}
use Rattle.rgo_tac.specs.Frames.{TacFrame, assigned_variables, new_tac_frame, frame_after_instr, moved_to, value_at, operand_values}
use Rattle.rgo_tac.specs.Steps.{resumed_at, resumed_by, tac_stand, variable_type, destination_type}
use Rattle.rgo_tac.specs.Tac.{TacState, tac}
use Rattle.rgo_tac.specs.declared.regions.Class.{Class}
use Rattle.rgo_code.specs.Checked.{IsChecked}
use Rattle.rgo_code.specs.Code.{Branch, Call, Code, CodeFn, CodeInstr, CodeOp, Do, Go, Jump, Print, Return}
use Rattle.rgo_code.specs.Erasure.{erased, erased_fn, erased_instr, erased_op}
use Rattle.rgo_code.specs.Types.{ArgumentsFit, DoFits, VariableHasType, VariablesHaveTypes, IsWellTypedOp, TargetFits}
use Rattle.rgo_code.specs.declared.rules.Line.TheVariants as line
use Rattle.rgo_code.specs.declared.rules.Rule.TheVariants as rule
use Rattle.rgo_region_machine.specs.Machine.{plain_step}
use Rattle.rgo_region_machine.specs.Owed.{current, current_in, function_at}
use Rattle.rgo_sound.specs.Invariant.{HasInstr}
use Rattle.rgo_sound.specs.Types.{CalledFrom, Each, FramesHaveKinds, HasKind, HaveKinds, IsCallOf, MemoryFits, AreValuesTyped}
use Rattle.rgo_sound.specs.Types.{TypesKeep}
use Rattle.rgo_sound.proofs.steps.Acting.{Acted, act, act_at, after, alone, alone_is, call, effected, performed, returned}
use Rattle.rgo_sound.proofs.steps.Acting.{start, trap_place}
use Rattle.rgo_sound.proofs.plain.Steps.{Always}
use Rattle.rgo_sound.proofs.steps.OneStep.{ReceivesAt, SendsAt, StandsAt, current_erased, stands_at_channel}
use Rattle.rgo_sound.proofs.Places.{each_get, get_append_cases, get_set_other, get_set_same}
use Rattle.rgo_sound.proofs.types.Actions.{Extends, GivesKind, Performed, get_kinds, more_kinds, returns, same_chan, set_kinds}
use Rattle.rgo_sound.proofs.types.Actions.{takes, zeros_kinds}
use Rattle.rgo_sound.proofs.Places.{head_is, tail_is}

-- ---- variables

module _ (kinds : List «Type») (fn : TacFn) (frame : TacFrame) (h : HaveKinds kinds fn.variables frame.variables) where
  pub var_kind : (v : ℕ) (ty : «Type») → VariableHasType fn v ty → HasKind kinds ty (value_at frame v)
  var_kind v ty t =
      let x = get_kinds kinds fn.variables frame.variables v ty h t in
      subst (HasKind kinds ty) (sym (get_or_from_slice_get frame.variables v x.0 value.Nil x.1)) x.2

  pub vars_kinds : (from : List ℕ) (tys : List «Type») → VariablesHaveTypes fn from tys
      → HaveKinds kinds tys (operand_values frame from)
  vars_kinds [] [] t = tt
  vars_kinds [] (ty ∷ tys) t = cc
  vars_kinds (v ∷ vs) [] t = cc
  vars_kinds (v ∷ vs) (ty ∷ tys) t = (
    var_kind v ty (head_is (slice_get fn.variables v) (Some ty) (map (slice_get fn.variables) vs) (map Some tys) t),
    vars_kinds vs tys (tail_is (slice_get fn.variables v) (Some ty) (map (slice_get fn.variables) vs) (map Some tys) t),
  )

-- the variables of a called function: the parameters have the arguments
called_kinds : (kinds tys : List «Type») (params : ℕ) (vs : List Value) → HaveKinds kinds (take params tys) vs
    → HaveKinds kinds tys (vs ++ drop (length vs) (map zero_of tys))
called_kinds kinds tys params [] h = zeros_kinds kinds tys
called_kinds kinds tys zero (v ∷ vs) h = absurd h
called_kinds kinds [] (suc params) (v ∷ vs) h = absurd h
called_kinds kinds (ty ∷ tys) (suc params) (v ∷ vs) h = (h.0, called_kinds kinds tys params vs h.1)

-- ---- frames

-- more objects change nothing
pub more_frames : (code : Code) (kinds more : List «Type») → Extends kinds more → (frames : List TacFrame)
    → FramesHaveKinds code kinds frames → FramesHaveKinds code more frames
more_frames code kinds more ext [] h = tt
more_frames code kinds more ext (frame ∷ callers) ((fn, is, h), c, rest) = (
  (fn, is, more_kinds kinds more ext (erased_fn fn).variables frame.variables h),
  c,
  more_frames code kinds more ext callers rest,
)

called_from : (code : Code) (frame frame' : TacFrame) (callers : List TacFrame) → frame'.function ≡ frame.function
    → CalledFrom code frame callers → CalledFrom code frame' callers
called_from code frame frame' [] e h = tt
called_from code frame frame' (caller ∷ callers) e (fn, is, call, cur, of) =
    (fn, ap (slice_get code.functions) e ∙ is, call, cur, of)

-- a frame continues in its function, with other variables
goes : (code : Code) (kinds more : List «Type») (frame : TacFrame) (callers : List TacFrame)
    → (all : FramesHaveKinds code kinds (frame ∷ callers)) → Extends kinds more → (variables : List Value) (i : ℕ)
    → HaveKinds more (erased_fn all.0.0).variables variables
    → FramesHaveKinds code more (record { function = frame.function; next = i; variables = variables } ∷ callers)
goes code kinds more frame callers all ext variables i h = (
  (all.0.0, all.0.1, h),
  called_from code frame (record { function = frame.function; next = i; variables = variables }) callers refl all.1,
  more_frames code kinds more ext callers all.2,
)

-- it continues, or jumps, with the same variables
stays : (code : Code) (kinds : List «Type») (frame : TacFrame) (callers : List TacFrame)
    → FramesHaveKinds code kinds (frame ∷ callers) → (i : ℕ) → FramesHaveKinds code kinds (moved_to frame i ∷ callers)
stays code kinds frame callers all i =
    goes code kinds kinds frame callers all (λ o ty e. e) frame.variables i all.0.2

-- ---- what one goroutine does

pub record ActedFits (code : Code) (kinds : List «Type») (a : Acted) : Type 0 where
  pub more : List «Type»
  pub ext : Extends kinds more
  pub memory : MemoryFits code more a.memory
  pub frames : FramesHaveKinds code more a.frames
  pub started : Each (FramesHaveKinds code more) a.started

module _ (code : Code) (checked : IsChecked code) where
  -- the current instruction of a frame of a function
  pub here : (frame : TacFrame) (fn : CodeFn) (instr : CodeInstr) → function_at code frame ≡ Some fn
      → current code frame ≡ Some instr → HasInstr fn frame.next instr
  here frame fn instr is cur = sym (ap (λ o. current_in o frame.next) is) ∙ cur

  -- it keeps the rule on types
  pub types : (frame : TacFrame) (fn : CodeFn) (instr : CodeInstr) → function_at code frame ≡ Some fn
      → current code frame ≡ Some instr → (op : CodeOp) → instr.op ≡ op
      → IsWellTypedOp (erased code) (erased_fn fn) (erased_op op)
  types frame fn instr is cur op e =
      subst (λ (o : CodeOp). IsWellTypedOp (erased code) (erased_fn fn) (erased_op o)) e
      (checked rule.Types (line.Instr frame.function frame.next) fn instr is (here frame fn instr is cur))

  module _ (kinds : List «Type») (m : Memory) (fits : MemoryFits code kinds m) (frame : TacFrame) (callers : List TacFrame)
      (instr : CodeInstr) (cur : current code frame ≡ Some instr) (all : FramesHaveKinds code kinds (frame ∷ callers))
    where
      -- the frames are these, and the memory is as it was
      moves_fit : (frames : List TacFrame) → FramesHaveKinds code kinds frames
          → ActedFits code kinds (record { memory = m; frames = frames; started = []; printed = []; trap = None })
      moves_fit frames h = record { more = kinds; ext = λ o ty e. e; memory = fits; frames = h; started = tt }

      goes_on : ActedFits code kinds (record {
        memory = m;
        frames = moved_to frame (frame.next + 1) ∷ callers;
        started =
            [];
        printed = [];
        trap = None;
      })
      goes_on = moves_fit (moved_to frame (frame.next + 1) ∷ callers)
          (stays code kinds frame callers all (frame.next + 1))

      -- ---- an action

      acted : (to : Option ℕ) (given : Option «Type») (place : ℕ) (e : Option Effect)
          → ((more : List «Type») (v : Value) → Extends kinds more → GivesKind more given v
          → HaveKinds more (erased_fn all.0.0).variables (assigned_variables frame.variables to v))
          → Always (Performed code kinds given) e → Always (ActedFits code kinds) (effected m frame callers to place e)
      acted to given place None target p = tt
      acted to given place (Some (Does m' v)) target (more, ext, fits', g) = record {
        more = more;
        ext = ext;
        memory = fits';
        frames =
            goes code kinds more frame callers all ext (assigned_variables frame.variables to v) (frame.next + 1)
            (target more v ext g);
        started = tt;
      }
      acted to given place (Some (Traps trap)) target p =
          record { more = kinds; ext = λ o ty e. e; memory = fits; frames = all; started = tt }

      -- the type for which a value is made is that of the variable
      type_is : (d : ℕ) (ty : «Type») → VariableHasType (erased_fn all.0.0) d ty → destination_type (erased code) frame (Some d) ≡ ty
      type_is d ty t =
          ap (λ o. variable_type o d) (slice_get-map erased_fn code.functions frame.function
          ∙ ap (option_map erased_fn) all.0.1)
          ∙ get_or_from_slice_get (erased_fn all.0.0).variables d ty _ t

      does : (to : Option ℕ) (action : Action) (from : List ℕ) (tys : List «Type») (place : ℕ)
          → VariablesHaveTypes (erased_fn all.0.0) from tys → DoFits (erased code) (erased_fn all.0.0) to action tys
          → Always (ActedFits code kinds) (effected m frame callers to place
          (performed code.structs action (destination_type (erased code) frame to) (operand_values frame from) m))
      does None action from tys place have t =
          acted None None place (performed code.structs action (destination_type (erased code) frame None) (operand_values frame from)
          m)
          (λ more v ext g. more_kinds kinds more ext (erased_fn all.0.0).variables frame.variables all.0.2)
          (takes code kinds m fits action (destination_type (erased code) frame None) tys (operand_values frame from) t
          (vars_kinds kinds (erased_fn all.0.0) frame all.0.2 from tys have))
      does (Some d) action from tys place have (ty, t, r) =
          subst (λ x. Always (ActedFits code kinds) (effected m frame callers (Some d) place
          (performed code.structs action x (operand_values frame from) m))) (sym (type_is d ty t))
          (acted (Some d) (Some ty) place (performed code.structs action ty (operand_values frame from) m)
          (λ more v ext g. set_kinds more (erased_fn all.0.0).variables frame.variables d ty v
          (more_kinds kinds more ext (erased_fn all.0.0).variables frame.variables all.0.2) t g)
          (returns code kinds m fits action ty tys (operand_values frame from) r
          (vars_kinds kinds (erased_fn all.0.0) frame all.0.2 from tys have)))

      -- ---- a call, and a start

      -- the variables of the callee's frame
      enters : (n : ℕ) (callee : CodeFn) (from : List ℕ) → ArgumentsFit (erased_fn all.0.0) (Some (erased_fn callee))
          from
          → HaveKinds kinds (erased_fn callee).variables (new_tac_frame (erased_fn callee) n (operand_values frame from)).variables
      enters n callee from fit =
          called_kinds kinds (erased_fn callee).variables callee.params (operand_values frame from)
          (vars_kinds kinds (erased_fn all.0.0) frame all.0.2 from (take callee.params (erased_fn callee).variables)
          fit)

      calls : (to : Option ℕ) (n : ℕ) (from : List ℕ) (passes : List Class) (protects removes : List ℕ)
          → instr.op ≡ Call to n from passes protects removes
          → ArgumentsFit (erased_fn all.0.0) (slice_get (erased code).functions n) from
          → Always (ActedFits code kinds) (call m frame callers n (operand_values frame from)
          (slice_get (erased code).functions n))
      calls to n from passes protects removes is fit =
          subst (λ o. ArgumentsFit (erased_fn all.0.0) o from
          → Always (ActedFits code kinds) (call m frame callers n (operand_values frame from) o))
          (sym (slice_get-map erased_fn code.functions n))
          (go (slice_get code.functions n) refl) fit
        where
          go : (o : Option CodeFn) → slice_get code.functions n ≡ o
              → ArgumentsFit (erased_fn all.0.0) (option_map erased_fn o) from
              → Always (ActedFits code kinds) (call m frame callers n (operand_values frame from) (option_map erased_fn o))
          go None q fit = goes_on
          go (Some callee) q fit =
              moves_fit (new_tac_frame (erased_fn callee) n (operand_values frame from) ∷ frame ∷ callers) (
                (callee, q, enters n callee from fit),
                (callee, q, instr, cur, subst (λ o. IsCallOf code o callee) (sym is) q),
                all,
              )

      begins : (n : ℕ) (from : List ℕ) → ArgumentsFit (erased_fn all.0.0) (slice_get (erased code).functions n) from
          → Always (ActedFits code kinds) (start m frame callers n (operand_values frame from)
          (slice_get (erased code).functions n))
      begins n from fit =
          subst (λ o. ArgumentsFit (erased_fn all.0.0) o from
          → Always (ActedFits code kinds) (start m frame callers n (operand_values frame from) o))
          (sym (slice_get-map erased_fn code.functions n))
          (go (slice_get code.functions n) refl) fit
        where
          go : (o : Option CodeFn) → slice_get code.functions n ≡ o
              → ArgumentsFit (erased_fn all.0.0) (option_map erased_fn o) from
              → Always (ActedFits code kinds) (start m frame callers n (operand_values frame from) (option_map erased_fn o))
          go None q fit = goes_on
          go (Some callee) q fit = record {
            more = kinds;
            ext = λ o ty e. e;
            memory = fits;
            frames = stays code kinds frame callers all (frame.next + 1);
            started = (((callee, q, enters n callee from fit), tt, tt), tt);
          }

      -- ---- a return

      comes_back : (value : Option ℕ) → instr.op ≡ Return value
          → Always (ActedFits code kinds) (returned (erased code) m (option_map (value_at frame) value) callers)
      comes_back value is = go callers all.1 all.2
        where
          go : (cs : List TacFrame) → CalledFrom code frame cs → FramesHaveKinds code kinds cs
              → Always (ActedFits code kinds) (returned (erased code) m (option_map (value_at frame) value) cs)
          go [] c h = moves_fit [] tt
          go (caller ∷ cs) (f, is_f, call, cur', of) waits =
              moves_fit (resumed_at caller _ (option_map (value_at frame) value) ∷ cs)
              (subst (λ o. FramesHaveKinds code kinds (resumed_at caller o (option_map (value_at frame) value) ∷ cs))
              (sym (current_erased code caller ∙ ap (option_map erased_instr) cur'))
              (by call.op of (types caller waits.0.0 call waits.0.1 cur' call.op refl)))
            where
              same_fn : all.0.0 ≡ f
              same_fn = same_Some all.0.0 f (sym all.0.1 ∙ is_f)

              -- the type of the target is that of the result
              target : (d n v : ℕ) → slice_get code.functions n ≡ Some f
                  → TargetFits (erased_fn waits.0.0) (slice_get (erased code).functions n) (Some d) → value ≡ Some v
                  → HaveKinds kinds (erased_fn waits.0.0).variables (slice_set caller.variables d (value_at frame v))
              target d n v named fit b =
                  let r = types frame all.0.0 instr all.0.1 cur (Return (Some v)) (is ∙ ap Return b) in
                  let fit' : TargetFits (erased_fn waits.0.0) (Some (erased_fn f)) (Some d) =
                  subst (λ o. TargetFits (erased_fn waits.0.0) o (Some d))
                  (slice_get-map erased_fn code.functions n ∙ ap (option_map erased_fn) named) fit
                  in
                  set_kinds kinds (erased_fn waits.0.0).variables caller.variables d r.0 (value_at frame v) waits.0.2
                  (fit' r.0 (ap (λ (z : CodeFn). (erased_fn z).result_type) (sym same_fn) ∙ r.1))
                  (var_kind kinds (erased_fn all.0.0) frame all.0.2 v r.0 r.2)

              by : (op : CodeOp) → IsCallOf code op f → IsWellTypedOp (erased code) (erased_fn waits.0.0) (erased_op op)
                  → FramesHaveKinds code kinds (resumed_by caller (erased_op op) (option_map (value_at frame) value) ∷
                  cs)
              by (Call to n from passes protects removes) named t = result to t.1 value refl
                where
                  result : (to : Option ℕ) → TargetFits (erased_fn waits.0.0) (slice_get (erased code).functions n) to
                      → (w : Option ℕ) → value ≡ w
                      → FramesHaveKinds code kinds (resumed_by caller
                      (erased_op (Call to n from passes protects removes))
                      (option_map (value_at frame) w) ∷ cs)
                  result to fit None b = stays code kinds caller cs waits (caller.next + 1)
                  result None fit (Some v) b = stays code kinds caller cs waits (caller.next + 1)
                  result (Some d) fit (Some v) b =
                      goes code kinds kinds caller cs waits (λ o ty e. e)
                      (slice_set caller.variables d (value_at frame v))
                      (caller.next + 1) (target d n v named fit b)
              by (Do to action from removes) named t = absurd named
              by (Go n from passes removes) named t = absurd named
              by (Print pieces from removes) named t = absurd named
              by (Jump j removes) named t = absurd named
              by (Branch v j removes k others) named t = absurd named
              by (Return v) named t = absurd named

      -- ---- each instruction

      acts : (op : CodeOp) → instr.op ≡ op
          → Always (ActedFits code kinds) (act (erased code) m (erased_op op) instr.place frame callers)
      acts (Do to action from removes) is =
          let t = types frame all.0.0 instr all.0.1 cur (Do to action from removes) is in
          does to action from t.0 (trap_place action instr.place) t.1 t.2
      acts (Call to n from passes protects removes) is =
          calls to n from passes protects removes is
          (types frame all.0.0 instr all.0.1 cur (Call to n from passes protects removes) is).0
      acts (Go n from passes removes) is =
          begins n from (types frame all.0.0 instr all.0.1 cur (Go n from passes removes) is)
      acts (Print pieces from removes) is = record {
        more = kinds;
        ext = λ o ty e. e;
        memory = fits;
        frames = stays code kinds frame callers all (frame.next + 1);
        started = tt;
      }
      acts (Jump j removes) is = moves_fit (moved_to frame j ∷ callers) (stays code kinds frame callers all j)
      acts (Branch v j removes k others) is =
          moves_fit (moved_to frame (if is_true (value_at frame v) then j else k) ∷ callers)
          (stays code kinds frame callers all (if is_true (value_at frame v) then j else k))
      acts (Return value) is = comes_back value is

  -- what one goroutine does keeps types
  pub alone_fits : (kinds : List «Type») (m : Memory) (frames : List TacFrame) → MemoryFits code kinds m
      → FramesHaveKinds code kinds frames → Always (ActedFits code kinds) (alone (erased code) m frames)
  alone_fits kinds m [] fits all = tt
  alone_fits kinds m (frame ∷ callers) fits all =
      subst (λ o. Always (ActedFits code kinds) (act_at (erased code) m o frame callers))
      (sym (current_erased code frame))
      (go (current code frame) refl)
    where
      go : (o : Option CodeInstr) → current code frame ≡ o
          → Always (ActedFits code kinds) (act_at (erased code) m (option_map erased_instr o) frame callers)
      go None q = record { more = kinds; ext = λ o ty e. e; memory = fits; frames = all; started = tt }
      go (Some instr) q = acts kinds m fits frame callers instr q all instr.op refl

  -- ---- a meeting

  -- a receive that fits, whatever value comes
  pub record ReceiveFits (kinds : List «Type») (c : Value) (go_on : Value → List TacFrame) : Type 0 where
    pub inner : «Type»
    pub channel : HasKind kinds (chan_of inner) c
    pub next : (v : Value) → HasKind kinds inner v → FramesHaveKinds code kinds (go_on v)

  -- a send that fits
  pub record SendFits (kinds : List «Type») (c v : Value) (next : List TacFrame) : Type 0 where
    pub inner : «Type»
    pub channel : HasKind kinds (chan_of inner) c
    pub value : HasKind kinds inner v
    pub goes : FramesHaveKinds code kinds next

  pub receive_fits : (kinds : List «Type») (frames : List TacFrame) (c : Value) (go_on : Value → List TacFrame)
      → FramesHaveKinds code kinds frames → ReceivesAt code frames c go_on → ReceiveFits kinds c go_on
  receive_fits kinds frames c go_on all x =
      by x.to (λ v. x.goes v) t.0 t.1 t.2
    where
      all' : FramesHaveKinds code kinds (x.frame ∷ x.callers)
      all' = subst (FramesHaveKinds code kinds) x.at all

      t : IsWellTypedOp (erased code) (erased_fn all'.0.0) (erased_op (Do x.to Recv (x.channel ∷ []) x.removes))
      t = types x.frame all'.0.0 x.instr all'.0.1 x.cur (Do x.to Recv (x.channel ∷ []) x.removes) x.is

      by : (to : Option ℕ) → ((v : Value) → go_on v ≡ frame_after_instr x.frame to v ∷ x.callers) → (tys : List «Type»)
          → VariablesHaveTypes (erased_fn all'.0.0) (x.channel ∷ []) tys → DoFits (erased code) (erased_fn all'.0.0) to Recv tys
          → ReceiveFits kinds c go_on
      by None on tys have r = absurd r
      by (Some d) on tys have (ty, t, r) = record {
        inner = ty;
        channel =
            subst (HasKind kinds (chan_of ty)) (sym x.channel_is)
            (vars_kinds kinds (erased_fn all'.0.0) x.frame all'.0.2 (x.channel ∷ []) (chan_of ty ∷ [])
            (have ∙ ap (map Some) r)).0;
        next = λ v k.
            subst (FramesHaveKinds code kinds) (sym (on v))
            (goes code kinds kinds x.frame x.callers all' (λ o ty e. e) (slice_set x.frame.variables d v)
            (x.frame.next + 1)
            (set_kinds kinds (erased_fn all'.0.0).variables x.frame.variables d ty v all'.0.2 t k));
      }

  pub send_fits : (kinds : List «Type») (frames : List TacFrame) (c v : Value) (next : List TacFrame)
      → FramesHaveKinds code kinds frames → SendsAt code frames c v next → SendFits kinds c v next
  send_fits kinds frames c v next all x = by x.to x.goes t.0 t.1 t.2
    where
      all' : FramesHaveKinds code kinds (x.frame ∷ x.callers)
      all' = subst (FramesHaveKinds code kinds) x.at all

      t : IsWellTypedOp (erased code) (erased_fn all'.0.0) (erased_op (Do x.to Send (x.channel ∷ x.sent ∷ []) x.removes))
      t = types x.frame all'.0.0 x.instr all'.0.1 x.cur (Do x.to Send (x.channel ∷ x.sent ∷ []) x.removes) x.is

      by : (to : Option ℕ) → next ≡ frame_after_instr x.frame to value.Nil ∷ x.callers → (tys : List «Type»)
          → VariablesHaveTypes (erased_fn all'.0.0) (x.channel ∷ x.sent ∷ []) tys
          → DoFits (erased code) (erased_fn all'.0.0) to Send tys → SendFits kinds c v next
      by (Some d) on tys have (ty, t, r) = absurd r
      by None on tys have (ty, r) =
          let ks =
          vars_kinds kinds (erased_fn all'.0.0) x.frame all'.0.2 (x.channel ∷ x.sent ∷ []) (chan_of ty ∷ ty ∷ [])
          (have ∙ ap (map Some) r)
          in
          record {
            inner = ty;
            channel = subst (HasKind kinds (chan_of ty)) (sym x.channel_is) ks.0;
            value = subst (HasKind kinds ty) (sym x.sent_is) ks.1.0;
            goes =
                subst (FramesHaveKinds code kinds) (sym on)
                (stays code kinds x.frame x.callers all' (x.frame.next + 1));
          }

  -- two values that meet are pointers to one channel
  pub one_object : (m : Memory) (c d : Value) → meets_at m c d ≡ true
      → (o : ℕ) × (c ≡ value.Object o) × (d ≡ value.Object o)
  one_object m (value.Object o) (value.Object p) e =
      split (nat_eq o p) (λ t. (o, refl, ap value.Object (sym (eq_of o p t))))
      (λ n. absurd (true≢false (sym e ∙ ap (λ b. if b then is_meeting_at (slice_get m.heap o) else false) n)))
  one_object m (value.Object o) (value.Int x) e = absurd (true≢false (sym e))
  one_object m (value.Object o) (value.Bool x) e = absurd (true≢false (sym e))
  one_object m (value.Object o) value.Nil e = absurd (true≢false (sym e))
  one_object m (value.Int x) d e = absurd (true≢false (sym e))
  one_object m (value.Bool x) d e = absurd (true≢false (sym e))
  one_object m value.Nil d e = absurd (true≢false (sym e))

  -- and what they carry is of one type
  pub one_inner : (kinds : List «Type») (x y : «Type») (c d : Value) (o : ℕ) → HasKind kinds (chan_of x) c
      → HasKind kinds (chan_of y) d → c ≡ value.Object o → d ≡ value.Object o → x ≡ y
  one_inner kinds x y c d o h k p q =
      let h' : HasKind kinds (chan_of x) (value.Object o) = subst (HasKind kinds (chan_of x)) p h in
      let k' : HasKind kinds (chan_of y) (value.Object o) = subst (HasKind kinds (chan_of y)) q k in
      same_chan x y (same_Some (chan_of x) (chan_of y) (sym h'.0 ∙ k'.0))

  -- ---- all goroutines

  -- one of them has other frames
  other_frames : (kinds : List «Type») (goroutines : List (List TacFrame)) (g : ℕ) (old frames : List TacFrame)
      → ((j : ℕ) (fs : List TacFrame) → slice_get goroutines j ≡ Some fs → FramesHaveKinds code kinds fs)
      → slice_get goroutines g ≡ Some old → FramesHaveKinds code kinds frames
      → (j : ℕ) (fs : List TacFrame) → slice_get (slice_set goroutines g frames) j ≡ Some fs
      → FramesHaveKinds code kinds fs
  other_frames kinds goroutines g old frames each q h j fs e =
      split (nat_eq g j)
      (λ u. subst (FramesHaveKinds code kinds)
      (same_Some frames fs (sym (get_set_same goroutines g old frames q)
      ∙ ap (slice_get (slice_set goroutines g frames)) (eq_of g j u) ∙ e))
      h)
      (λ n. each j fs (sym (get_set_other goroutines g j frames n) ∙ e))

  one_typed : (p : TacState) (g : ℕ) (old : List TacFrame) (t : AreValuesTyped code p) (a : Acted)
      → slice_get p.goroutines g ≡ Some old → ActedFits code t.kinds a → AreValuesTyped code (after p g a)
  one_typed p g old t a q fits =
      record {
        kinds = fits.more;
        memory = fits.memory;
        frames = λ j fs e. go j fs (get_append_cases (slice_set p.goroutines g a.frames) a.started j fs e);
      }
    where
      go : (j : ℕ) (fs : List TacFrame)
          → (slice_get (slice_set p.goroutines g a.frames) j ≡ Some fs) ⊎ ((k : ℕ) × (slice_get a.started k ≡ Some fs))
          → FramesHaveKinds code fits.more fs
      go j fs (inl e) =
          other_frames fits.more p.goroutines g old a.frames
          (λ j fs e. more_frames code t.kinds fits.more fits.ext fs (t.frames j fs e)) q fits.frames j fs e
      go j fs (inr (k, e)) = each_get (FramesHaveKinds code fits.more) a.started k fs fits.started e

  -- one goroutine takes a step alone
  one_step : (p : TacState) (g : ℕ) → p.ended ≡ None → AreValuesTyped code p
      → Always (AreValuesTyped code) (picked (tac (erased code)) p (One g))
  one_step p g running t = go (slice_get p.goroutines g) refl
    where
      by : (frames : List TacFrame) → slice_get p.goroutines g ≡ Some frames → (o : Option Acted)
          → Always (ActedFits code t.kinds) o → Always (AreValuesTyped code) (option_map (after p g) o)
      by frames q None h = tt
      by frames q (Some a) h = one_typed p g frames t a q h

      go : (o : Option (List TacFrame)) → slice_get p.goroutines g ≡ o
          → Always (AreValuesTyped code) (option_and_then (machine.alone (tac (erased code)) p g) o)
      go None q = tt
      go (Some frames) q =
          subst (Always (AreValuesTyped code)) (sym (alone_is (erased code) p g running frames q))
          (by frames q (alone (erased code) p.memory frames)
          (alone_fits t.kinds p.memory frames t.memory (t.frames g frames q)))

  -- two meet
  meet_step : (p : TacState) (r u : ℕ) → AreValuesTyped code p → Always (AreValuesTyped code) (picked (tac (erased code)) p (Meet r u))
  meet_step p r u t = go (nat_eq r u) refl (slice_get p.goroutines r) refl (slice_get p.goroutines u) refl
    where
      meets : nat_eq r u ≡ false → (f : TacFrame) (fs : List TacFrame) → slice_get p.goroutines r ≡ Some (f ∷ fs)
          → (h : TacFrame) (hs : List TacFrame) → slice_get p.goroutines u ≡ Some (h ∷ hs) → (x y : Stand TacFrame)
          → StandsAt code f fs x → StandsAt code h hs y → Always (AreValuesTyped code) (met p r u fs hs x y)
      meets ne f fs q h hs q' (AtReceive c blank go_on) (AtSend d v place next) xs ys = by (meets_at p.memory c d) refl
        where
          rec : ReceiveFits t.kinds c (λ w. go_on w ∷ fs)
          rec = receive_fits t.kinds (f ∷ fs) c (λ w. go_on w ∷ fs) (t.frames r (f ∷ fs) q) xs

          snd : SendFits t.kinds d v (next ∷ hs)
          snd = send_fits t.kinds (h ∷ hs) d v (next ∷ hs) (t.frames u (h ∷ hs) q') ys

          by : (b : Bool) → meets_at p.memory c d ≡ b
              → Always (AreValuesTyped code) (if b then Some (with_frames (with_frames p r (go_on v ∷ fs)) u (next ∷ hs)) else
              None)
          by true e =
              let o = one_object p.memory c d e in
              let same = one_inner t.kinds rec.inner snd.inner c d o.0 rec.channel snd.channel o.1 o.2 in
              record {
                kinds = t.kinds;
                memory = t.memory;
                frames =
                    other_frames t.kinds (slice_set p.goroutines r (go_on v ∷ fs)) u (h ∷ hs) (next ∷ hs)
                    (other_frames t.kinds p.goroutines r (f ∷ fs) (go_on v ∷ fs) t.frames q
                    (rec.next v (subst (λ ty. HasKind t.kinds ty v) (sym same) snd.value)))
                    (get_set_other p.goroutines r u (go_on v ∷ fs) ne ∙ q') snd.goes;
              }
          by false e = tt
      meets ne f fs q h hs q' (AtReceive c blank go_on) (AtReceive d blank' go_on') xs ys = tt
      meets ne f fs q h hs q' (AtReceive c blank go_on) (AtClose d place next) xs ys = tt
      meets ne f fs q h hs q' (AtReceive c blank go_on) (AtCall next callee) xs ys = tt
      meets ne f fs q h hs q' (AtReceive c blank go_on) (AtStart next child) xs ys = tt
      meets ne f fs q h hs q' (AtReceive c blank go_on) Elsewhere xs ys = tt
      meets ne f fs q h hs q' (AtSend c v place next) y xs ys = tt
      meets ne f fs q h hs q' (AtClose c place next) y xs ys = tt
      meets ne f fs q h hs q' (AtCall next callee) y xs ys = tt
      meets ne f fs q h hs q' (AtStart next child) y xs ys = tt
      meets ne f fs q h hs q' Elsewhere y xs ys = tt

      both : nat_eq r u ≡ false → (fs : List TacFrame) → slice_get p.goroutines r ≡ Some fs → (hs : List TacFrame)
          → slice_get p.goroutines u ≡ Some hs → Always (AreValuesTyped code) (met_by (tac (erased code)) p r u fs hs)
      both ne [] q hs q' = tt
      both ne (f ∷ fs) q [] q' = tt
      both ne (f ∷ fs) q (h ∷ hs) q' =
          meets ne f fs q h hs q' (tac_stand (erased code) f) (tac_stand (erased code) h) (stands_at_channel code f fs)
          (stands_at_channel code h hs)

      go : (b : Bool) → nat_eq r u ≡ b → (o : Option (List TacFrame)) → slice_get p.goroutines r ≡ o
          → (o' : Option (List TacFrame)) → slice_get p.goroutines u ≡ o'
          → Always (AreValuesTyped code) (if b then None else option_and_then
          (λ fs. option_and_then (met_by (tac (erased code)) p r u fs) o') o)
      go true ne o q o' q' = tt
      go false ne None q o' q' = tt
      go false ne (Some fs) q None q' = tt
      go false ne (Some fs) q (Some hs) q' = both ne fs q hs q'

  -- each step of the three-address machine keeps types
  pub pick_typed : (p : TacState) (pick : Pick) → AreValuesTyped code p → Always (AreValuesTyped code) (plain_step code p pick)
  pick_typed p pick t = go p.ended refl
    where
      by : p.ended ≡ None → (pick : Pick) → Always (AreValuesTyped code) (picked (tac (erased code)) p pick)
      by running (One g) = one_step p g running t
      by running (Meet r u) = meet_step p r u t

      go : (ended : Option End) → p.ended ≡ ended
          → Always (AreValuesTyped code) (unless_ended ended (picked (tac (erased code)) p pick))
      go None e = by e pick
      go (Some x) e = tt

pub types_keep : TypesKeep
types_keep code p q pick checked t e = subst (Always (AreValuesTyped code)) e (pick_typed code checked p pick t)
