-- A return of checked code keeps what holds of the state. The frame that ends has no holding name left (rule 14), so no count changes.
-- What the caller then owes can be done because it has waited with all that it did not give. A return without a caller leaves the ends
-- of the base.
use Rattle.std.proofs.Common.{◌≡◌, ℕ, zero, suc, ◌+◌, true, false, List, [], ◌∷◌, ◌++◌, map, length, Option, Some, None}
use Rattle.std.proofs.Common.{refl, sym, ap, ◌∙◌, subst, nat_eq, slice_get, slice_set, option_map, Contains, append-nil}
use Rattle.std.proofs.lemmas.Option.{same_Some}
use Rattle.rgo_sound.proofs.Places.{contains_here, get_set_other, get_set_same, length_set}
use Rattle.rgo_sound.proofs.names.Edges.{standing_instr, standing_settled}
use Rattle.rgo_sound.proofs.duties.Moves.{returns_on, returns_last, settled_pending}
use Rattle.rgo_sound.proofs.duties.Instructs.{IsRuled, fine_plain}
use Rattle.rgo_sound.proofs.steps.OneStep.{SameHolder, none_owed, current_erased, OneDone}
use Rattle.rgo_sound.proofs.names.Ruled.{ruled}
use Rattle.rgo_code.specs.Checked.{IsChecked}
use Rattle.rgo_code.specs.Code.{Branch, Call, Code, CodeInstr, CodeOp, Do, Go, Jump, Print, Return}
use Rattle.rgo_code.specs.Erasure.{erased, erased_instr, erased_op}
use Rattle.rgo_code.specs.NameRules.{Ascends, ReturnsHoldNothing}
use Rattle.rgo_code.specs.Names.{edges}
use Rattle.rgo_memory.specs.declared.values.Value.{Value}
use Rattle.rgo_region_machine.specs.Instructions.{child_holder, has_none, holder_after, instructed_with, last_frames}
use Rattle.rgo_region_machine.specs.Instructions.{unless_trapped}
use Rattle.rgo_region_machine.specs.Owed.{caller_duties, current, current_in, duties_before, duties_behind_call}
use Rattle.rgo_region_machine.specs.Owed.{function_at, next_duties}
use Rattle.rgo_region_machine.specs.States.{Duty, EndBase, RegionEnvironment, Holder, RegionState, Remove, Unprotect, below}
use Rattle.rgo_region_machine.specs.States.{frames_in, frames_of, top_names}
use Rattle.rgo_region_machine.specs.declared.regions.Region.{Region}
use Rattle.rgo_sound.proofs.steps.Acting.{after, Acted, act, act_at, alone, end_by, returned}
use Rattle.rgo_sound.specs.Core.{NameInvariant}
use Rattle.rgo_sound.specs.Invariant.{AllWait, EachOnce, Fine, FramesFit, GoodHolder, HasInstr, IsCall}
use Rattle.rgo_sound.specs.Invariant.{Settled, Shares, Stands, Waits, shared_names, to_share}
use Rattle.rgo_tac.specs.Frames.{TacFrame, value_at}
use Rattle.rgo_tac.specs.Code.{Op}
use Rattle.rgo_tac.specs.Steps.{tac_resumed, resumed_at, resumed_by}
use Rattle.rgo_tac.specs.Tac.{TacState}
use Rattle.rgo_code.specs.declared.rules.Line.TheVariants as line
use Rattle.rgo_code.specs.declared.rules.Rule.TheVariants as rule

-- the frames after a return
abbrev behind_frames : Code → TacFrame → Option ℕ → List TacFrame → List TacFrame
behind_frames code frame value [] = []
behind_frames code frame value (c ∷ cs) = tac_resumed (erased code) c (option_map (value_at frame) value) ∷ cs

-- a caller continues at the instruction after its call
resumed_next : (frame : TacFrame) (op : Op) (value : Option Value) → (resumed_by frame op value).next ≡ frame.next + 1
resumed_next frame op None = refl
resumed_next frame op (Some v) = refl

resumed_function : (frame : TacFrame) (op : Op) (value : Option Value) → (resumed_by frame op value).function
    ≡ frame.function
resumed_function frame op None = refl
resumed_function frame op (Some v) = refl

module _ (code : Code) (checked : IsChecked code) (written : Ascends code) (frame : TacFrame) (instr : CodeInstr)
    (value : Option ℕ) (is : instr.op ≡ Return value) (cur : current code frame ≡ Some instr) where
  rules : IsRuled code
  rules = ruled code checked written

  returned_good : (h : Holder) (callers : List TacFrame) (environments : List RegionEnvironment) (duties : List Duty) → duties
      ≡ [] → NameInvariant h.stakes h.base environments → EachOnce h.base
      → FramesFit code h.base (frame ∷ callers) environments duties
      → Shares (to_share code (frame ∷ callers)) duties (top_names environments) h.pending →
      GoodHolder code (behind_frames code frame value callers)
      (record h {
        environments = below environments;
        duties =
            caller_duties code h callers ++ next_duties code (behind_frames code frame value callers);
      })
  returned_good h callers [] duties d core once fit sh = absurd fit
  returned_good h callers (f ∷ fs) duties d core once fit sh = go callers fs fit.1 core
    where
      st : Stands code frame f duties
      st = fit.0

      same : st.instr ≡ instr
      same = standing_instr code frame f duties instr st cur

      here : HasInstr st.fn frame.next instr
      here = st.is_instr ∙ ap Some same

      settled : Settled st.fn frame.next instr f.names f.protections
      settled = standing_settled code frame f duties instr st cur d

      none : h.pending ≡ []
      none = settled_pending code frame callers instr f.names duties h.pending cur (ap shared_names is) d sh

      empty : ReturnsHoldNothing st.fn frame.next instr (Return value)
      empty = subst (λ x. ReturnsHoldNothing st.fn frame.next instr x) is
          (checked rule.Endings (line.Instr frame.function frame.next) st.fn instr st.is_fn here)

      to_caller : (c : TacFrame) (cs : List TacFrame) (d' : RegionEnvironment) (ds : List RegionEnvironment) (w : Waits code c d')
          → AllWait code cs ds → NameInvariant h.stakes h.base (f ∷ d' ∷ ds) → (op : CodeOp) → w.instr.op ≡ op → IsCall op →
          GoodHolder code (behind_frames code frame value (c ∷ cs))
          (record h {
            environments = d' ∷ ds;
            duties = caller_duties code h (c ∷ cs)
                ++ next_duties code (behind_frames code frame value (c ∷ cs));
          })
      to_caller c cs d' ds w ws core' (Call to n from passes protects removes) q x =
          let back : TacFrame = tac_resumed (erased code) c (option_map (value_at frame) value) in
          let cur' : current code c ≡ Some w.instr = ap (λ o. current_in o c.next) w.is_fn ∙ w.is_instr in
          let is_back : back ≡ resumed_by c (erased_op w.instr.op) (option_map (value_at frame) value) =
          ap (λ o. resumed_at c o (option_map (value_at frame) value))
          (current_erased code c ∙ ap (option_map erased_instr) cur') in
          let at_next : back.next ≡ c.next + 1 = ap (λ (y : TacFrame). y.next) is_back
          ∙ resumed_next c (erased_op w.instr.op) (option_map (value_at frame) value) in
          let is_fn' : function_at code back ≡ Some w.fn = ap (slice_get code.functions)
          (ap (λ (y : TacFrame). y.function) is_back ∙ resumed_function c (erased_op w.instr.op)
          (option_map (value_at frame) value)) ∙ w.is_fn in
          let edge : Contains {X = ℕ × List ℕ} (edges w.instr.op c.next) (back.next, removes) =
          subst (λ (y : ℕ). Contains {X = ℕ × List ℕ} (edges w.instr.op c.next) (y, removes)) (sym at_next)
          (subst (λ (y : CodeOp). Contains {X = ℕ × List ℕ} (edges y c.next) (c.next + 1, removes)) (sym q)
          (contains_here {X = ℕ × List ℕ} (c.next + 1, removes) [])) in
          let next = rules.goes_on c.function c.next back.next w.fn w.instr removes w.is_fn w.is_instr edge in
          let good = returns_on code st.fn w.fn frame c back cs instr w.instr next.0 value to n from passes protects
          removes h f d' ds is empty q (rules.kept c.function c.next w.fn w.instr w.is_fn w.is_instr) is_fn'
          (rules.kept c.function back.next w.fn next.0 w.is_fn next.1) at_next core' once st.lends settled w.lends
          w.left w.protections_fit ws none in
          let owed : caller_duties code h (c ∷ cs) ≡ map Unprotect protects ++ map Remove removes =
          ap duties_behind_call cur' ∙ ap (λ (o : CodeOp).
          duties_behind_call (Some (record { place = w.instr.place; creates = w.instr.creates; op = o }))) q in
          let next_is : current code back ≡ Some next.0 = ap (λ o. current_in o back.next) is_fn' ∙ next.1 in
          subst (λ (y : List Duty). GoodHolder code (back ∷ cs)
          (record h { environments = d' ∷ ds; duties = y ++ next_duties code (back ∷ cs) })) (sym owed)
          (subst (λ (y : Option CodeInstr). GoodHolder code (back ∷ cs)
          (record h {
            environments = d' ∷ ds;
            duties = (map Unprotect protects ++ map Remove removes)
                ++ duties_before y;
          })) (sym next_is) good)
      to_caller c cs d' ds w ws core' (Do to action from removes) q x = absurd x
      to_caller c cs d' ds w ws core' (Go n from passes removes) q x = absurd x
      to_caller c cs d' ds w ws core' (Print pieces from removes) q x = absurd x
      to_caller c cs d' ds w ws core' (Jump j removes) q x = absurd x
      to_caller c cs d' ds w ws core' (Branch v j removes k others) q x = absurd x
      to_caller c cs d' ds w ws core' (Return v) q x = absurd x

      go : (cs : List TacFrame) (ds : List RegionEnvironment) → AllWait code cs ds → NameInvariant h.stakes h.base (f ∷ ds)
          → GoodHolder code (behind_frames code frame value cs)
          (record h {
            environments = ds;
            duties = caller_duties code h cs
                ++ next_duties code (behind_frames code frame value cs);
          })
      go [] [] ws core' =
          subst (λ y. GoodHolder code [] (record h { environments = []; duties = y }))
          (sym (append-nil (map EndBase h.base)))
          (returns_last code st.fn frame instr value h f empty core' once st.lends settled none)
      go [] (d' ∷ ds) ws core' = absurd ws
      go (c ∷ cs) [] ws core' = absurd ws
      go (c ∷ cs) (d' ∷ ds) ws core' = to_caller c cs d' ds ws.0 ws.1 core' ws.0.instr.op refl ws.0.calls

module _ (code : Code) (page_words : ℕ) (s : RegionState) (g : ℕ) (h : Holder) (frame : TacFrame) (callers : List TacFrame)
    (call : CodeInstr) (value : Option ℕ) (checked : IsChecked code) (written : Ascends code) (fine : Fine code s)
    (e : slice_get s.holders g ≡ Some h) (at : frames_of s.plain g ≡ frame ∷ callers)
    (cur : current code frame ≡ Some call) (is : call.op ≡ Return value) where
  good : GoodHolder code (frame ∷ callers) h
  good = subst (λ x. GoodHolder code x h) at (fine.each g h e)

  abbrev frames' : List TacFrame
  frames' = behind_frames code frame value callers

  abbrev acted : Acted
  acted = record {
    memory = s.plain.memory;
    frames = behind_frames code frame value callers;
    started = [];
    printed =
        [];
    trap = None;
  }

  abbrev next : TacState
  next = after s.plain g acted

  goroutines : (frames : List TacFrame) → slice_get s.plain.goroutines g ≡ Some frames → frames_of next g ≡ frames'
  goroutines frames q = ap (λ x. frames_in (slice_get x g)) (append-nil (slice_set s.plain.goroutines g frames'))
      ∙ ap frames_in (get_set_same s.plain.goroutines g frames frames' q)

  the_others : (j : ℕ) → nat_eq g j ≡ false → frames_of next j ≡ frames_of s.plain j
  the_others j d = ap (λ x. frames_in (slice_get x j)) (append-nil (slice_set s.plain.goroutines g frames'))
      ∙ ap frames_in (get_set_other s.plain.goroutines g j frames' d)

  as_long : length next.goroutines ≡ length s.plain.goroutines
  as_long = ap length (append-nil (slice_set s.plain.goroutines g frames')) ∙ length_set s.plain.goroutines g frames'

  -- a return does not trap
  untrapped : (n : ℕ) (fs : List TacFrame) (a b : Holder) → unless_trapped (end_by n fs None) a b ≡ b
  untrapped zero [] a b = refl
  untrapped zero (f ∷ fs) a b = refl
  untrapped (suc n) fs a b = refl

  abbrev behind_holder : Holder → List TacFrame → Holder
  behind_holder k frames = record k {
    environments = below k.environments;
    duties =
        caller_duties code k callers ++ next_duties code frames;
  }

  behind : (frames : List TacFrame) (given : Holder × List Region) → slice_get s.plain.goroutines g ≡ Some frames
      → has_none h.duties ≡ true → SameHolder h given.0 → Fine code
      (instructed_with code s g frame callers call next given)
  behind frames given q d same =
      fine_plain code s (instructed_with code s g frame callers call next given) g h
      (behind_holder (record h { fills = same.fills; reserved = same.reserved }) frames') fine e refl hs refl refl as_long the_others
      (subst (λ x. GoodHolder code x (behind_holder (record h { fills = same.fills; reserved = same.reserved }) frames'))
      (sym (goroutines frames q))
      (returned_good code checked written frame call value is cur (record h { fills = same.fills; reserved = same.reserved }) callers
      h.environments h.duties (none_owed h.duties d) good.core good.base_once good.fit good.shares))
    where
      hs : (instructed_with code s g frame callers call next given).holders
          ≡ slice_set s.holders g (behind_holder (record h { fills = same.fills; reserved = same.reserved }) frames')
      hs =
          ap (λ x. slice_set s.holders g (unless_trapped next.ended given.0
          (holder_after code given.0 frame callers call.op (frames_of next g))) ++ x)
          (ap (λ x. child_holder code given.0 x (last_frames next.goroutines)) is)
          ∙ append-nil (slice_set s.holders g (unless_trapped next.ended given.0
          (holder_after code given.0 frame callers call.op (frames_of next g))))
          ∙ ap (slice_set s.holders g) (untrapped g frames' given.0
          (holder_after code given.0 frame callers call.op (frames_of next g)))
          ∙ ap (λ x. slice_set s.holders g (holder_after code given.0 frame callers x (frames_of next g))) is
          ∙ ap (λ (x : Holder). slice_set s.holders g (behind_holder x (frames_of next g))) same.same
          ∙ ap (λ x. slice_set s.holders g (behind_holder (record h { fills = same.fills; reserved = same.reserved }) x)) (goroutines frames q)

  is_returned : alone (erased code) s.plain.memory (frame ∷ callers) ≡ Some acted
  is_returned =
      ap (λ o. act_at (erased code) s.plain.memory o frame callers)
      (current_erased code frame ∙ ap (option_map erased_instr) cur)
      ∙ ap (λ o. act (erased code) s.plain.memory (erased_op o) call.place frame callers) is
      ∙ go callers
    where
      go : (cs : List TacFrame) → returned (erased code) s.plain.memory (option_map (value_at frame) value) cs
          ≡ Some (record {
            memory = s.plain.memory;
            frames = behind_frames code frame value cs;
            started = [];
            printed =
                [];
            trap = None;
          })
      go [] = refl
      go (c ∷ cs) = refl

-- a return keeps what holds of the state
pub fine_return : (code : Code) (page_words : ℕ) (s t : RegionState) (g : ℕ) (x : OneDone code page_words s g t)
    (value : Option ℕ) → IsChecked code → Ascends code → Fine code s → x.instr.op ≡ Return value → Fine code t
fine_return code page_words s t g x value checked written fine is =
    subst (Fine code) (sym x.is)
    (subst (λ a. Fine code (instructed_with code s g x.frame x.callers x.instr (after s.plain g a) x.given))
    (sym (same_Some x.a _ (sym x.acts ∙ is_returned code page_words s g x.h x.frame x.callers x.instr value checked
    written fine x.there (ap frames_in x.at) x.cur is)))
    (behind code page_words s g x.h x.frame x.callers x.instr value checked written fine x.there (ap frames_in x.at)
    x.cur is (x.frame ∷ x.callers) x.given x.at (ap has_none x.ready.none) x.same))
