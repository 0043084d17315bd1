-- Calls and returns that pass or protect regions. The hard case is the return: the caller must be at a call of the function that runs,
-- which no field of the body says. It follows from the runs that lead to the record.
use Rattle.std.proofs.Common.{◌≡◌, ◌≤◌, ◌<◌, ◌+◌, ◌++◌, ℕ, false, List, [], ◌∷◌, Option, Some, None, inl, inr, refl, sym, ap, ◌∙◌, subst, arith, length, map, drop, slice_get, unwrap_or, Contains, option_to_list}
use Rattle.std.specs.List.Sorted.{IsStrictlyIncreasing}
use Rattle.std.specs.Option.{option_map}
use Rattle.std.proofs.lemmas.List.{append-nil, length-append, length-map}
use Rattle.std.proofs.lemmas.Option.{same_Some}
use Rattle.rgo_sound.specs.Code.Code.{Branch, Call, Code, CodeFn, CodeInstr, CodeOp, Do, Go, Jump, Print, Return}
use Rattle.rgo_sound.specs.Code.Erasure.{erased_op}
use Rattle.rgo_sound.specs.Code.Exists.{UsesVariable}
use Rattle.rgo_sound.specs.Code.Lists.{passes_of, protects_in, protects_of, removes_in, removes_of}
use Rattle.rgo_sound.specs.Code.NameRules.{Ascends, protected_names}
use Rattle.rgo_compact.specs.Bounds.{IsTarget}
use Rattle.rgo_core.specs.Core.{Situation, Setup}
use Rattle.rgo_core.specs.Next.{IsAtOp}
use Rattle.rgo_core.specs.Records.{Record, instructed, with_end}
use Rattle.rgo_core_facts.proofs.ControlCode.{next_exists, variables_exist}
use Rattle.rgo_core_facts.proofs.ControlFrames.{all_in_code, callers_wait}
use Rattle.rgo_core_facts.proofs.ControlPasses.{newest_unprotected}
use Rattle.rgo_core_facts.specs.ControlCode.{IsFollowed}
use Rattle.rgo_core_facts.specs.ControlFrames.{IsCalledBy, IsInCode}
use Rattle.rgo_core.specs.Frames.steps.Local.{local_op, word_returned}
use Rattle.rgo_core.specs.Frames.steps.Quiet.{is_exit}
use Rattle.rgo_core.specs.Frames.Records.{FramesRec as FrameRec, after_op}
use Rattle.rgo_core.specs.Frames.shown.WordFrames.{WordFrame, bare, bare_all, frame_word, word_called, words_of}
use Rattle.rgo_core.specs.Memory.Records.{Fill}
use Rattle.rgo_core_steps.specs.Ends.{ending}
use Rattle.rgo_core_steps.specs.Seats.{SettlesBy, settled_by}
use Rattle.rgo_holding.specs.Changes.{top_protections}
use Rattle.rgo_holding.specs.Holds.{IsHoldingOf}
use Rattle.rgo_holding.specs.Passing.{calling}
use Rattle.rgo_sound.specs.Machine.declared.picks.End.TheVariants.{Exit}
use Rattle.rgo_sound.specs.RegionMachine.Owed.{caller_duties, current, duties_behind, duties_behind_call, entry_removes, formals_of, code_function, function_result_class}
use Rattle.rgo_sound.specs.RegionMachine.States.{Duty, Ended, EndBase, RegionEnvironment, Holder, Remove, Unprotect, below}
use Rattle.rgo_sound.specs.Values.{call_target}
use Rattle.rgo_stack.proofs.Lookups.{places}
use Rattle.rgo_stack.specs.Places.{CanContinue, CanReturn, IsCalledFor, WaitsFor}
use Rattle.rgo_stack.specs.Stacks.{Belongs, caller_place}
use Rattle.rgo_stack.specs.Steps.{frames_after_call, frames_after_return}
use Rattle.rgo_sound.specs.Tac.Code as tac
use Rattle.rgo_sound.specs.Tac.Flow.{writes}
use Rattle.rgo_sound.specs.Tac.Ops.{operation_of}
use Rattle.rgo_body.specs.Bodies.{BodyIsReady, frames_of_body}
use Rattle.rgo_body.specs.Nexts.{IsNextOf, removes_at, result_target_of}
use Rattle.rgo_body.specs.Programs.{IsCompactProgram, CompactProgram}
use Rattle.rgo_body.specs.Shows.{BodyIsPossible, BodyShows}
use Rattle.rgo_body.specs.Steps.{HasBaseRoom, HasRoomBack}
use Rattle.rgo_body.specs.declared.bodies.Body.{Body}
use Rattle.rgo_body.specs.declared.bodies.Side.TheVariants as side
use Rattle.rgo_body.specs.declared.nexts.Next.{Next}
use Rattle.rgo_body.proofs.OpKinds.{call_of, return_of}
use Rattle.rgo_body.proofs.Placing.{has_word}
use Rattle.rgo_body.proofs.Showing.{At, at, current_is, like_shown, none_owed}
use Rattle.rgo_body.proofs.Starting.{is_at}
use Rattle.rgo_body.proofs.Stepping.{local_is, not_exit}
use Rattle.rgo_body.proofs.Transfers.{Stepped, counted, local_step, no_caller_below, stepped, stepped_shows}

-- ---- calls

pub protects_rise : (code : Code) (n i : ℕ) (fn : CodeFn) (instr : CodeInstr) → Ascends code → code_function code n ≡ Some fn
    → slice_get fn.body i ≡ Some instr → IsStrictlyIncreasing (protects_in (slice_get fn.body i))
protects_rise code n i fn instr ascends found e =
    subst IsStrictlyIncreasing (same instr.op ∙ sym (ap protects_in e)) ((ascends n fn found).body i instr e).protects
  where
    same : (op : CodeOp) → protected_names op ≡ protects_of op
    same (Call to m from passes protects removes) = refl
    same (Do to action from removes) = refl
    same (Go m from passes removes) = refl
    same (Print pieces from removes) = refl
    same (Jump target removes) = refl
    same (Branch test target removes other otherwise) = refl
    same (Return value) = refl

module _ (T : Setup) (p : CompactProgram) (b d : Body) (g : ℕ) (c : Record) (next : Next) (s : BodyShows T p b c) (ready : BodyIsReady p b next)
    (rests : b.side ≡ side.AtRest) where
  abbrev pub x : At T.code c next
  x = at T p b c next s ready.is_next

  pub calls_shows : (to : Option ℕ) (f : ℕ) (from : List ℕ) (fn : CodeFn) → operation_of next.op ≡ tac.Call to f from
      → code_function T.code f ≡ Some fn → Stepped b d (map Remove (entry_removes (code_function T.code f)))
      → Belongs p.compact d.stack → frames_of_body d ≡ frames_after_call fn f from (frames_of_body b)
      → IsHoldingOf T.sizes.regions d.holding
      (calling c.frame.holder (function_result_class (code_function T.code f)) (formals_of (code_function T.code f)) (passes_of x.instr.op)
      (protects_of x.instr.op)) c.memory.fills
      → SettlesBy T g 1 c × BodyShows T p d (settled_by T g 1 c)
  calls_shows to f from fn op found k belongs frames holds =
      let is = call_of x.instr.op to f from (x.op ∙ op) in
      local_step T p b d g c next s ready rests (word_called fn f (words_of x.w from) ∷ x.w ∷ x.ws)
      (calling c.frame.holder (function_result_class (code_function T.code f)) (formals_of (code_function T.code f)) (passes_of x.instr.op)
      (protects_of x.instr.op))
      (map Remove (entry_removes (code_function T.code f))) k belongs
      (sym (frames ∙ ap (frames_after_call fn f from) (sym s.frames ∙ x.are)))
      (not_exit g (word_called fn f (words_of x.w from)) (x.w ∷ x.ws))
      (ap (local_op T.code x.w x.ws) is
      ∙ ap (option_map (λ (h : CodeFn). word_called h f (words_of x.w from) ∷ x.w ∷ x.ws)) found)
      (ap (λ o. after_op T.code c.frame.holder x.w x.ws o (word_called fn f (words_of x.w from) ∷ x.w ∷ x.ws)) is) refl holds

  -- ---- returns

  pub unprotected : Situation T g c → (value : Option ℕ) → operation_of next.op ≡ tac.Return value
      → top_protections c.frame.holder.environments ≡ []
  unprotected here value op = by_newest c.frame.holder.environments refl
    where
      a : IsAtOp T.code c (Return value)
      a = is_at T p b c next s ready rests (Return value) (return_of x.instr.op value (x.op ∙ op))

      by_newest : (es : List RegionEnvironment) → c.frame.holder.environments ≡ es → top_protections es ≡ []
      by_newest [] e = refl
      by_newest (n ∷ es) e = newest_unprotected T g c here (Return value) a refl n es e

  abbrev pub returned : Option ℕ → List WordFrame
  returned value = word_returned T.code (option_map (frame_word x.w) value) x.ws

  abbrev pub back : Holder
  back = record c.frame.holder { environments = below c.frame.holder.environments }

  module _ (value : Option ℕ) (op : operation_of next.op ≡ tac.Return value)
      (k : Stepped b d (caller_duties T.code c.frame.holder (bare_all x.ws))) (belongs : Belongs p.compact d.stack)
      (frames : frames_of_body d ≡ frames_after_return T.code value (frames_of_body b))
      (holds : IsHoldingOf T.sizes.regions d.holding back c.memory.fills) where
    is : x.instr.op ≡ Return value
    is = return_of x.instr.op value (x.op ∙ op)

    are : returned value ≡ frames_of_body d
    are = sym (frames ∙ ap (frames_after_return T.code value) (sym s.frames ∙ x.are))

    does : local_op T.code x.w x.ws x.instr.op ≡ Some (returned value)
    does = ap (local_op T.code x.w x.ws) is

    after : after_op T.code c.frame.holder x.w x.ws x.instr.op (returned value)
        ≡ (stepped T c (returned value) back (caller_duties T.code c.frame.holder (bare_all x.ws))).frame
    after = ap (λ o. after_op T.code c.frame.holder x.w x.ws o (returned value)) is

    pub returns_shows : is_exit g (drop 1 (frames_of_body b)) ≡ false → SettlesBy T g 1 c × BodyShows T p d (settled_by T g 1 c)
    returns_shows stays =
        local_step T p b d g c next s ready rests (returned value) back (caller_duties T.code c.frame.holder (bare_all x.ws)) k belongs are
        (by_callers x.ws (ap (λ fs. is_exit g (drop 1 fs)) (sym x.are ∙ s.frames) ∙ stays)) does after refl holds
      where
        by_callers : (ws : List WordFrame) → is_exit g ws ≡ false
            → is_exit g (word_returned T.code (option_map (frame_word x.w) value) ws) ≡ false
        by_callers [] e = e
        by_callers (caller ∷ ws) e = not_exit g _ ws

    -- the return of `main` ends the run
    pub exit_shows : (clock : ℕ) → BodyShows T p d (ending T.code c clock (Ended Exit))
    exit_shows clock =
        subst (BodyShows T p d) (sym ends)
        (like_shown T p d (stepped T c (returned value) back (caller_duties T.code c.frame.holder (bare_all x.ws)))
        (record c {
          clock = with_end (instructed c.clock) clock (Ended Exit);
          frame = (stepped T c (returned value) back (caller_duties T.code c.frame.holder (bare_all x.ws))).frame;
        })
        (stepped_shows T p b d c (returned value) back (caller_duties T.code c.frame.holder (bare_all x.ws)) s k belongs are refl holds)
        (record {
          frame = refl;
          side = refl;
          fills = refl;
          reserved = refl;
          make = refl;
          claim = refl;
          give = refl;
          share = refl;
          owed = refl;
          prints = refl;
          refused = refl;
        }))
      where
        ends : ending T.code c clock (Ended Exit) ≡ record c {
          clock = with_end (instructed c.clock) clock (Ended Exit);
          frame = (stepped T c (returned value) back (caller_duties T.code c.frame.holder (bare_all x.ws))).frame;
        }
        ends =
            ap (λ (o : Option FrameRec). record c {
              clock = with_end (instructed c.clock) clock (Ended Exit);
              frame = unwrap_or o c.frame;
            }) (local_is T.code c.frame x.w x.ws x.instr (returned value) (none_owed T p b c next s ready) x.are x.cur does)
            ∙ ap (λ (e : FrameRec). record c { clock = with_end (instructed c.clock) clock (Ended Exit); frame = e }) after

-- ---- what a return asks of the stack

module _ (p : CompactProgram) (b : Body) (next : Next) (y : BodyIsPossible p b) (program : IsCompactProgram p) (n : IsNextOf p.code (frames_of_body b) next)
    (value : Option ℕ) (op : operation_of next.op ≡ tac.Return value) where
  has_value : (v : Option ℕ) → value ≡ v → IsTarget (length n.w.variables) v
  has_value None e = tt
  has_value (Some v) e =
      has_word p b next y program n v
      (subst (λ o. UsesVariable o v) (sym op) (inl (subst (λ (o : Option ℕ). Contains (option_to_list o) v) (sym e) (0, omega arith, refl))))

  pub can_return : (to : Option ℕ) (callers : List WordFrame) → n.ws ≡ callers → CanContinue p.compact to callers
      → CanReturn p.compact value to (frames_of_body b)
  can_return to callers same goes =
      subst (CanReturn p.compact value to) (sym n.are)
      (has_value value refl, subst (CanContinue p.compact to) (sym same) goes)

  pub is_called : (code : Code) (to : Option ℕ) (callers : List WordFrame) → n.ws ≡ callers → WaitsFor code to callers
      → IsCalledFor code to (frames_of_body b)
  is_called code to callers same waits =
      subst (IsCalledFor code to) (sym n.are) (subst (WaitsFor code to) (sym same) waits)

-- ---- the caller to which a function returns

module _ (p : CompactProgram) (b : Body) (call : Next) (y : BodyIsPossible p b) (program : IsCompactProgram p)
    (n : IsNextOf p.code (drop 1 (frames_of_body b)) call) where
  pub second : (frames : List WordFrame) → drop 1 frames ≡ n.w ∷ n.ws → (w : WordFrame) × (frames ≡ w ∷ n.w ∷ n.ws)
  second [] e = cc
  second (w ∷ ws) e = (w, ap (λ l. w ∷ l) e)

  abbrev pub newest : WordFrame
  newest = (second (frames_of_body b) n.are).0

  pub two : frames_of_body b ≡ newest ∷ n.w ∷ n.ws
  two = (second (frames_of_body b) n.are).1

  in_code : IsInCode y.T.code n.w
  in_code = all_in_code y.T y.goroutine y.c y.here 1 n.w (ap (λ fs. slice_get fs 1) (y.shows.frames ∙ two))

  as_many : length n.w.variables ≡ length call.function.variables
  as_many = in_code.words ∙ ap (λ (fn : CodeFn). length fn.variables)
      (same_Some in_code.fn call.function (sym in_code.in_fn ∙ ap (λ code. code_function code n.w.function) y.shows.code ∙ n.in_fn))

  -- it waits at a call of the function that runs
  pub called : IsCalledBy y.T.code newest n.w
  called = callers_wait y.T y.goroutine y.c y.here newest n.w n.ws (y.shows.frames ∙ two)

  at_call : called.call ≡ n.instr
  at_call = same_Some called.call n.instr (sym called.cur ∙ ap (λ code. current code (bare n.w)) y.shows.code
      ∙ current_is p.code (drop 1 (frames_of_body b)) call n)

  pub op_is : n.instr.op ≡ Call called.to called.n called.from called.passes called.protects called.removes
  op_is = ap (λ (i : CodeInstr). i.op) (sym at_call) ∙ called.is

  to_is : result_target_of (operation_of call.op) ≡ called.to
  to_is = ap result_target_of (sym n.op ∙ ap erased_op op_is)

  pub goes_back : CanContinue p.compact (result_target_of (operation_of call.op)) (n.w ∷ n.ws)
  goes_back = (
    target (result_target_of (operation_of call.op)) to_is,
    places.place p.code p.compact n.w.function (n.w.next + 1) call.function program.compact n.in_fn
        (subst (λ i. i + 1 < length call.function.body) n.at
        (subst (IsFollowed call.function call.at) op_is
        (next_exists p.code n.w.function call.at call.function n.instr program.checked n.in_fn n.is_instr))),
  )
    where
      target : (to : Option ℕ) → to ≡ called.to → IsTarget (length n.w.variables) to
      target None e = tt
      target (Some v) e =
          subst (λ k. v < k) (sym as_many)
          (variables_exist p.code n.w.function call.at call.function n.instr program.checked n.in_fn n.is_instr v
          (inr (ap (λ op. writes (erased_op op)) op_is ∙ sym e)))

  pub waits_for : (code : Code) → code ≡ p.code → WaitsFor code (result_target_of (operation_of call.op)) (n.w ∷ n.ws)
  waits_for code same = (
    n.instr,
    ap (λ k. current k (bare n.w)) same ∙ current_is p.code (drop 1 (frames_of_body b)) call n,
    ap call_target op_is ∙ sym to_is,
  )

  -- what is owed after the call
  pub behind_call : (T : Setup) (h : Holder) → T.code ≡ p.code
      → caller_duties T.code h (bare_all (n.w ∷ n.ws))
      ≡ map Unprotect (protects_in (slice_get call.function.body call.at)) ++ map Remove (removes_at call)
  behind_call T h same =
      ap duties_behind_call (ap (λ k. current k (bare n.w)) same ∙ current_is p.code (drop 1 (frames_of_body b)) call n)
      ∙ ap duties_behind op_is
      ∙ sym (ap (λ o. map Unprotect (protects_in o) ++ map Remove (removes_in o)) n.is_instr
      ∙ ap (λ op. map Unprotect (protects_of op) ++ map Remove (removes_of op)) op_is)

-- ---- a return

pub tail_is : (w : WordFrame) (ws : List WordFrame) (frames : List WordFrame) → frames ≡ w ∷ ws → ws ≡ drop 1 frames
tail_is w ws frames e = sym (ap (drop 1) e)

module _ (T : Setup) (p : CompactProgram) (b d : Body) (g : ℕ) (c : Record) (next : Next) (y : BodyIsPossible p b) (program : IsCompactProgram p)
    (here : Situation T g c) (s : BodyShows T p b c) (ready : BodyIsReady p b next) (rests : b.side ≡ side.AtRest) (value : Option ℕ)
    (op : operation_of next.op ≡ tac.Return value) (belongs : Belongs p.compact d.stack)
    (holding : (slots : ℕ) (h : Holder) (fills : List Fill) → IsHoldingOf slots b.holding h fills → top_protections h.environments ≡ []
    → IsHoldingOf slots d.holding (record h { environments = below h.environments }) fills)
    (expanded : d.is_expanded ≡ false) (side_is : d.side ≡ b.side) (counts : d.counts ≡ counted b.counts)
    (prints : d.prints ≡ b.prints) (reserved : d.reserved ≡ b.reserved) (refused : d.refused ≡ b.refused) where
  abbrev pub z : At T.code c next
  z = at T p b c next s ready.is_next

  pub held : IsHoldingOf T.sizes.regions d.holding (record c.frame.holder { environments = below c.frame.holder.environments }) c.memory.fills
  held = holding T.sizes.regions c.frame.holder c.memory.fills s.holds (unprotected T p b d g c next s ready rests here value op)

  z_callers : z.ws ≡ drop 1 (frames_of_body b)
  z_callers = tail_is z.w z.ws (frames_of_body b) (sym s.frames ∙ z.are)

  next_callers : ready.is_next.ws ≡ drop 1 (frames_of_body b)
  next_callers = tail_is ready.is_next.w ready.is_next.ws (frames_of_body b) ready.is_next.are

  owing : (ds : List Duty) → d.queue.duties ≡ ds → caller_duties T.code c.frame.holder (bare_all (drop 1 (frames_of_body b))) ≡ ds
      → Stepped b d (caller_duties T.code c.frame.holder (bare_all z.ws))
  owing ds queue same = record {
    queue = queue ∙ sym (ap (λ ws. caller_duties T.code c.frame.holder (bare_all ws)) z_callers ∙ same);
    expanded = expanded;
    side = side_is;
    counts = counts;
    prints = prints;
    reserved = reserved;
    refused = refused;
  }

  -- to a caller
  module _ (call : Next) (n : IsNextOf p.code (drop 1 (frames_of_body b)) call)
      (stack : (code : Code) → IsCalledFor code (result_target_of (operation_of call.op)) (frames_of_body b)
      → frames_of_body d ≡ frames_after_return code value (frames_of_body b))
      (queue : d.queue.duties
      ≡ map Unprotect (protects_in (slice_get call.function.body call.at)) ++ (map Remove (removes_at call) ++ b.queue.duties)) where
    owes : Stepped b d (caller_duties T.code c.frame.holder (bare_all z.ws))
    owes = owing (map Unprotect (protects_in (slice_get call.function.body call.at)) ++ map Remove (removes_at call))
        (queue ∙ ap (λ l. map Unprotect (protects_in (slice_get call.function.body call.at)) ++ l)
        (ap (λ l. map Remove (removes_at call) ++ l) ready.queue ∙ append-nil (map Remove (removes_at call))))
        (ap (λ ws. caller_duties T.code c.frame.holder (bare_all ws)) n.are ∙ behind_call p b call y program n T c.frame.holder s.code)

    frames : frames_of_body d ≡ frames_after_return T.code value (frames_of_body b)
    frames = stack T.code (is_called p b next y program ready.is_next value op T.code (result_target_of (operation_of call.op)) (n.w ∷ n.ws)
        (next_callers ∙ n.are) (waits_for p b call y program n T.code s.code))

    pub comes_back : is_exit g (drop 1 (frames_of_body b)) ≡ false → SettlesBy T g 1 c × BodyShows T p d (settled_by T g 1 c)
    comes_back = returns_shows T p b d g c next s ready rests value op owes belongs frames held

    pub comes_back_exit : (clock : ℕ) → BodyShows T p d (ending T.code c clock (Ended Exit))
    comes_back_exit = exit_shows T p b d g c next s ready rests value op owes belongs frames held

  -- from the first function
  module _ (last : caller_place (frames_of_body b) ≡ None)
      (stack : (code : Code) → IsCalledFor code None (frames_of_body b) → frames_of_body d ≡ frames_after_return code value (frames_of_body b))
      (queue : (h : Holder) (fills : List Fill) (slots : ℕ) → IsHoldingOf slots d.holding h fills
      → d.queue.duties ≡ map EndBase h.base ++ b.queue.duties) where
    owes_base : Stepped b d (caller_duties T.code c.frame.holder (bare_all z.ws))
    owes_base = owing (map EndBase c.frame.holder.base)
        (queue (record c.frame.holder { environments = below c.frame.holder.environments }) c.memory.fills T.sizes.regions held
        ∙ ap (λ l. map EndBase c.frame.holder.base ++ l) ready.queue ∙ append-nil (map EndBase c.frame.holder.base))
        (ap (λ ws. caller_duties T.code c.frame.holder (bare_all ws)) (no_caller_below (frames_of_body b) last))

    last_frames : frames_of_body d ≡ frames_after_return T.code value (frames_of_body b)
    last_frames = stack T.code (is_called p b next y program ready.is_next value op T.code None []
        (next_callers ∙ no_caller_below (frames_of_body b) last) tt)

    pub ends : is_exit g (drop 1 (frames_of_body b)) ≡ false → SettlesBy T g 1 c × BodyShows T p d (settled_by T g 1 c)
    ends = returns_shows T p b d g c next s ready rests value op owes_base belongs last_frames held

    pub ends_exit : (clock : ℕ) → BodyShows T p d (ending T.code c clock (Ended Exit))
    ends_exit = exit_shows T p b d g c next s ready rests value op owes_base belongs last_frames held

-- the room that was taken is enough, whichever record the body shows: it was counted from the code
pub room_enough : (p : CompactProgram) (b : Body) (call : Next) (y : BodyIsPossible p b) (program : IsCompactProgram p)
    → IsNextOf p.code (drop 1 (frames_of_body b)) call → HasRoomBack p b
    → length (protects_in (slice_get call.function.body call.at)) + length (removes_at call) ≤ b.queue.room
room_enough p b call y program n room =
    subst (λ k. k ≤ b.queue.room)
    (ap (λ fs. length (caller_duties y.T.code y.c.frame.holder (bare_all fs))) (ap (drop 1) y.shows.frames ∙ n.are)
    ∙ ap length (behind_call p b call y program n y.T y.c.frame.holder y.shows.code)
    ∙ length-append (map Unprotect (protects_in (slice_get call.function.body call.at))) (map Remove (removes_at call))
    ∙ (λ i. length-map (protects_in (slice_get call.function.body call.at)) Unprotect i + length-map (removes_at call) Remove i))
    (room y.T y.c y.shows)

pub base_room : (p : CompactProgram) (b d : Body) (next : Next) (y : BodyIsPossible p b) (ready : BodyIsReady p b next) (rests : b.side ≡ side.AtRest)
    (value : Option ℕ) (op : operation_of next.op ≡ tac.Return value) → caller_place (frames_of_body b) ≡ None → HasRoomBack p b
    → ((slots : ℕ) (h : Holder) (fills : List Fill) → IsHoldingOf slots b.holding h fills → top_protections h.environments ≡ []
    → IsHoldingOf slots d.holding (record h { environments = below h.environments }) fills)
    → HasBaseRoom d.holding b.queue.room
base_room p b d next y ready rests value op last room holding = (
  record y.c.frame.holder { environments = below y.c.frame.holder.environments },
  y.c.memory.fills,
  y.T.sizes.regions,
  holding y.T.sizes.regions y.c.frame.holder y.c.memory.fills y.shows.holds
      (unprotected y.T p b d y.goroutine y.c next y.shows ready rests y.here value op),
  subst (λ k. k ≤ b.queue.room)
      (ap (λ fs. length (caller_duties y.T.code y.c.frame.holder (bare_all fs)))
      (ap (drop 1) y.shows.frames ∙ no_caller_below (frames_of_body b) last)
      ∙ length-map y.c.frame.holder.base EndBase)
      (room y.T y.c y.shows),
)
