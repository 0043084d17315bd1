-- A call of checked code keeps what holds of the state. It changes no stake and no region. That the two frames fit their names is shown
-- in Enters, that the counts stay in Passed; here both are put together for the machine's step.
use Rattle.std.proofs.Common.{◌≡◌, ◌≢◌, ℕ, zero, suc, ◌≤◌, true, false, List, [], ◌∷◌, ◌++◌, map, length, Option, Some}
use Rattle.std.proofs.Common.{None, is_some, refl, sym, ap, ◌∙◌, subst, nat_eq, arith, ◌↔◌, true≢false, slice_get}
use Rattle.std.proofs.Common.{slice_set, option_map, append-nil}
use Rattle.std.proofs.lemmas.Option.{same_Some}
use Rattle.rgo_sound.proofs.steps.Acting.{no_end, after, Acted, act, act_at, alone}
use Rattle.rgo_sound.proofs.names.Edges.{standing_instr, standing_settled, named_bound}
use Rattle.rgo_sound.proofs.Places.{ascending_distinct, get_set_other, get_set_same, length_set}
use Rattle.rgo_sound.proofs.calls.Passed.{CallFits, given_free}
use Rattle.rgo_sound.proofs.calls.Rules.{protects_twice, protects_result, any_contains}
use Rattle.rgo_sound.proofs.calls.Lists.{formals_once, formals_are, gives_are}
use Rattle.rgo_sound.proofs.calls.Passable.{all_passable, call_reads, call_writes}
use Rattle.rgo_sound.proofs.calls.Enters.{CallIsRight, calls_on}
use Rattle.rgo_sound.proofs.duties.Instructs.{IsRuled, fine_plain}
use Rattle.rgo_sound.proofs.steps.OneStep.{SameHolder, none_owed, current_erased, OneDone}
use Rattle.rgo_sound.proofs.names.Ruled.{CallIsThere, IsAt, call_is_there, erased_found, is_at, ruled}
use Rattle.rgo_sound.proofs.duties.Moves.{settled_pending}
use Rattle.rgo_code.specs.Checked.{IsChecked}
use Rattle.rgo_code.specs.ClassRules.{CallPasses, CallsPass, PassesClasses}
use Rattle.rgo_code.specs.Code.{Call, Code, CodeFn, CodeInstr, CodeOp}
use Rattle.rgo_code.specs.Erasure.{erased, erased_fn, erased_instr, erased_op}
use Rattle.rgo_code.specs.NameRules.{Ascends, ProtectsUsed}
use Rattle.rgo_code.specs.Names.{LeavesToCallee, region_parameters, result_class}
use Rattle.rgo_code.specs.Exists.{OpExists}
use Rattle.rgo_code.specs.Types.{ArgumentsFit, IsWellTypedOp, TargetFits}
use Rattle.rgo_memory.specs.Memory.{Memory}
use Rattle.rgo_region_machine.specs.Instructions.{child_holder, has_none, holder_after, instructed_with, last_frames}
use Rattle.rgo_region_machine.specs.Instructions.{unless_trapped}
use Rattle.rgo_region_machine.specs.Owed.{current, current_in, duties_before, entry_removes, formals_of, code_function}
use Rattle.rgo_region_machine.specs.Owed.{given_names, next_duties, passed, passed_regions, function_result_class}
use Rattle.rgo_region_machine.specs.Regions.{without_all}
use Rattle.rgo_region_machine.specs.States.{Duty, RegionEnvironment, Holder, RegionState, Remove, environment_of, frames_in}
use Rattle.rgo_region_machine.specs.States.{frames_of, top_names, with_top}
use Rattle.rgo_region_machine.specs.declared.regions.Region.{Region}
use Rattle.rgo_sound.proofs.steps.Acting as acting
use Rattle.rgo_sound.specs.Core.{NameInvariant}
use Rattle.rgo_sound.specs.Holding.{is_mine}
use Rattle.rgo_sound.specs.Invariant.{EachOnce, Fine, FramesFit, GoodHolder, HasInstr, Settled, Shares}
use Rattle.rgo_sound.specs.Invariant.{Stands, shared_names, to_share}
use Rattle.rgo_sound.specs.Stakes.{times_in}
use Rattle.rgo_tac.specs.Code.{TacFn}
use Rattle.rgo_tac.specs.Frames.{TacFrame, new_tac_frame, operand_values}
use Rattle.rgo_tac.specs.Tac.{TacState}
use Rattle.rgo_tac.specs.declared.regions.Class.{Class}
use Rattle.rgo_code.specs.declared.rules.Line.TheVariants as line
use Rattle.rgo_code.specs.declared.rules.Rule.TheVariants as rule

-- a body that is not empty has a first instruction
pub first_instr : (body : List CodeInstr) → body ≢ [] → (i : CodeInstr) × (slice_get body 0 ≡ Some i)
first_instr [] n = absurd (n refl)
first_instr (i ∷ is) n = (i, refl)

-- the holder after the call, of a goroutine that owes nothing
module _ (code : Code) (checked : IsChecked code) (written : Ascends code) (frame : TacFrame) (callers : List TacFrame)
    (call : CodeInstr) (to : Option ℕ) (n : ℕ) (from : List ℕ) (passes : List Class) (protects removes : List ℕ)
    (is : call.op ≡ Call to n from passes protects removes) (cur : current code frame ≡ Some call) where
  good_behind : (h : Holder) (environments : List RegionEnvironment) (duties : List Duty) (entered : TacFrame) (callee : CodeFn)
      → entered.function ≡ n → entered.next ≡ 0 → code_function code n ≡ Some callee → duties ≡ []
      → NameInvariant h.stakes h.base environments → EachOnce h.base
      → FramesFit code h.base (frame ∷ callers) environments duties
      → Shares (to_share code (frame ∷ callers)) duties (top_names environments) h.pending →
      GoodHolder code (entered ∷ frame ∷ callers) (record h {
        environments = environment_of (result_class callee)
            (passed (region_parameters callee) (passed_regions (top_names environments) passes)) ∷ with_top environments
            (without_all (top_names environments) (given_names (result_class callee) (region_parameters callee) passes
            protects));
        duties = map Remove callee.entry ++ next_duties code (entered ∷ frame ∷ callers);
      })
  good_behind h [] duties entered callee en e0 found d core once fit sh = absurd fit
  good_behind h (f ∷ fs) duties entered callee en e0 found d core once fit sh =
      subst (λ (x : Option CodeInstr). GoodHolder code (entered ∷ frame ∷ callers) (record h {
        environments = environment_of (result_class callee)
            (passed (region_parameters callee) (passed_regions f.names passes)) ∷ record f {
              names = without_all f.names (given_names (result_class callee) (region_parameters callee) passes
                  protects);
            } ∷ fs;
        duties = map Remove callee.entry ++ duties_before x;
      })) (sym next_is)
      (calls_on code st.fn callee frame entered callers call first.0 to n from passes protects removes h f fs is
      st.is_fn here
      (ap (slice_get code.functions) en ∙ found) e0 (rules.kept n 0 callee first.0 found first.1)
      (checked rule.Removals (line.Entry n) callee found) (checked rule.Entry (line.Entry n) callee found)
      (ascending_distinct callee.entry (written n callee found).entry)
      right fits core once st.lends settled fit.1 (settled_pending code frame callers call f.names duties h.pending cur
      (ap shared_names is) d sh))
    where
      rules : IsRuled code
      rules = ruled code checked written

      st : Stands code frame f duties
      st = fit.0

      same : st.instr ≡ call
      same = standing_instr code frame f duties call st cur

      here : HasInstr st.fn frame.next call
      here = st.is_instr ∙ ap Some same

      first : (i : CodeInstr) × (slice_get callee.body 0 ≡ Some i)
      first = first_instr callee.body (checked rule.Exists (line.End n) callee found)

      next_is : current code entered ≡ Some first.0
      next_is = ap (λ o. current_in o entered.next) (ap (slice_get code.functions) en ∙ found)
          ∙ ap (slice_get callee.body) e0 ∙ first.1

      settled : Settled st.fn frame.next call f.names f.protections
      settled = standing_settled code frame f duties call st cur d

      there : CallIsThere code to n from
      there = call_is_there code to n from (subst (λ x. OpExists (erased code) (erased_fn st.fn) (erased_op x)) is
          (checked rule.Exists (line.Instr frame.function frame.next) st.fn call st.is_fn here).exists)

      is_callee : there.callee ≡ callee
      is_callee = same_Some there.callee callee (sym there.found ∙ found)

      fits_callee : PassesClasses st.fn callee to from passes
      fits_callee = subst (λ (o : Option CodeFn). CallPasses st.fn o to from passes) found
          (subst (λ x. CallsPass code st.fn x) is (checked rule.Calls (line.Instr frame.function frame.next) st.fn call
          st.is_fn here))

      protects_rightly : ProtectsUsed st.fn frame.next (Call to n from passes protects removes)
      protects_rightly = subst (λ x. ProtectsUsed st.fn frame.next x) is
          (checked rule.Protections (line.Instr frame.function frame.next) st.fn call st.is_fn here)

      types : ArgumentsFit (erased_fn st.fn) (Some (erased_fn callee)) from
          × TargetFits (erased_fn st.fn) (Some (erased_fn callee)) to
      types =
          subst (λ (o : Option TacFn). ArgumentsFit (erased_fn st.fn) o from × TargetFits (erased_fn st.fn) o to)
          (erased_found code n callee found)
          (subst (λ x. IsWellTypedOp (erased code) (erased_fn st.fn) (erased_op x)) is
          (checked rule.Types (line.Instr frame.function frame.next) st.fn call st.is_fn here))

      fits : CallFits f.lent (result_class callee) f.names (region_parameters callee) passes protects
      fits =
          record {
            formals_fit = formals_once callee;
            passable =
                all_passable st.fn callee call to from passes f.names
                (call_reads call to n from passes protects removes is)
                (call_writes call to n from passes protects removes is)
                (subst (λ (x : CodeFn). length from ≡ x.params) is_callee there.arguments_fit)
                (subst (λ (x : CodeFn). is_some to ≡ is_some x.result) is_callee there.value_fits)
                fits_callee
                (λ v s q. checked rule.Classes (line.Slot frame.function v) st.fn s st.is_fn q)
                (λ v s q. checked rule.Classes (line.Slot n v) callee s found q)
                (checked rule.Classes (line.Function n) callee found)
                types.0
                types.1
                (λ k n. named_bound st.fn frame.next k call f.names
                (checked rule.Creations (line.Instr frame.function frame.next) st.fn call st.is_fn here)
                settled.there settled.made settled.lent n);
            twice = protects_twice st.fn frame.next to n from passes protects removes protects_rightly;
            own = λ k free x. ap (λ y. is_mine y k) st.lends ∙ protects_result st.fn frame.next to n from passes
                protects removes protects_rightly k free x;
          }

      right : CallIsRight code callee call passes protects
      right =
          record {
            formals = formals_are callee;
            as_long = fits_callee.len;
            gives = λ k. subst (λ o. LeavesToCallee code o k ↔ (1 ≤ times_in k
                (given_names (result_class callee) (region_parameters callee) passes protects))) (sym is)
                (gives_are code st.fn callee frame.next to n from passes protects removes f.names found fits_callee.len
                protects_rightly k);
            kept = λ k c. zero_unless (times_in k (given_names (result_class callee) (region_parameters callee) passes
                protects)) (λ h'. true≢false (sym (any_contains protects k c)
                ∙ given_free f.names (result_class callee) protects (region_parameters callee) passes k h'));
          }
        where
          zero_unless : (n : ℕ) → (1 ≤ n → ⊥) → n ≡ 0
          zero_unless zero x = refl
          zero_unless (suc n) x = absurd (x (omega arith))

-- ---- the step

-- the callee's frame, and what the call did
abbrev pub entered_frame : TacFrame → ℕ → List ℕ → CodeFn → TacFrame
entered_frame frame n from callee = new_tac_frame (erased_fn callee) n (operand_values frame from)

-- what a call does
abbrev pub has_called : Memory → TacFrame → List TacFrame → ℕ → List ℕ → CodeFn → Acted
has_called m frame callers n from callee = record {
  memory = m;
  frames =
      entered_frame frame n from callee ∷ frame ∷ callers;
  started = [];
  printed = [];
  trap = None;
}

-- a call of checked code enters a function
pub call_enters : (code : Code) (m : Memory) (frame : TacFrame) (callers : List TacFrame) (call : CodeInstr) (to : Option ℕ)
    (n : ℕ) (from : List ℕ) (passes : List Class) (protects removes : List ℕ) → IsChecked code → current code frame
    ≡ Some call → call.op ≡ Call to n from passes protects removes → (callee : CodeFn)
    × (code_function code n ≡ Some callee) × (alone (erased code) m (frame ∷ callers)
    ≡ Some (has_called m frame callers n from callee))
call_enters code m frame callers call to n from passes protects removes checked cur is =
    (there.callee, there.found, acts)
  where
    at : IsAt code frame call
    at = is_at code frame call cur

    there : CallIsThere code to n from
    there = call_is_there code to n from (subst (λ x. OpExists (erased code) (erased_fn at.fn) (erased_op x)) is
        (checked rule.Exists (line.Instr frame.function frame.next) at.fn call at.is_fn at.is_instr).exists)

    acts : alone (erased code) m (frame ∷ callers) ≡ Some (has_called m frame callers n from there.callee)
    acts =
        ap (λ o. act_at (erased code) m o frame callers) (current_erased code frame ∙ ap (option_map erased_instr) cur)
        ∙ ap (λ o. act (erased code) m (erased_op o) call.place frame callers) is
        ∙ ap (acting.call m frame callers n (operand_values frame from)) (erased_found code n there.callee there.found)

module _ (code : Code) (s : RegionState) (g : ℕ) (h : Holder) (frame : TacFrame) (callers : List TacFrame) (call : CodeInstr)
    (to : Option ℕ) (n : ℕ) (from : List ℕ) (passes : List Class) (protects removes : List ℕ) (checked : IsChecked code)
    (written : Ascends code) (fine : Fine code s) (e : slice_get s.holders g ≡ Some h)
    (at : frames_of s.plain g ≡ frame ∷ callers) (cur : current code frame ≡ Some call)
    (is : call.op ≡ Call to n from passes protects removes) where
  good : GoodHolder code (frame ∷ callers) h
  good = subst (λ x. GoodHolder code x h) at (fine.each g h e)

  abbrev entered : CodeFn → TacFrame
  entered callee = entered_frame frame n from callee

  abbrev next : CodeFn → TacState
  next callee = after s.plain g (has_called s.plain.memory frame callers n from callee)

  goroutines : (callee : CodeFn) (frames : List TacFrame) → slice_get s.plain.goroutines g ≡ Some frames
      → frames_of (next callee) g ≡ entered callee ∷ frame ∷ callers
  goroutines callee frames q = ap (λ x. frames_in (slice_get x g))
      (append-nil (slice_set s.plain.goroutines g (entered callee ∷ frame ∷ callers)))
      ∙ ap frames_in (get_set_same s.plain.goroutines g frames (entered callee ∷ frame ∷ callers) q)

  the_others : (callee : CodeFn) (j : ℕ) → nat_eq g j ≡ false → frames_of (next callee) j ≡ frames_of s.plain j
  the_others callee j d = ap (λ x. frames_in (slice_get x j))
      (append-nil (slice_set s.plain.goroutines g (entered callee ∷ frame ∷ callers)))
      ∙ ap frames_in (get_set_other s.plain.goroutines g j (entered callee ∷ frame ∷ callers) d)

  as_long : (callee : CodeFn) → length (next callee).goroutines ≡ length s.plain.goroutines
  as_long callee = ap length (append-nil (slice_set s.plain.goroutines g (entered callee ∷ frame ∷ callers)))
      ∙ length_set s.plain.goroutines g (entered callee ∷ frame ∷ callers)

  abbrev behind_holder : Holder → CodeFn → List TacFrame → Holder
  behind_holder k callee frames = record k {
    environments = environment_of (result_class callee) (passed (region_parameters callee)
        (passed_regions (top_names k.environments) passes)) ∷ with_top k.environments
        (without_all (top_names k.environments) (given_names (result_class callee) (region_parameters callee) passes
        protects));
    duties = map Remove callee.entry ++ next_duties code frames;
  }

  -- the state after the call
  behind : (callee : CodeFn) (frames : List TacFrame) (given : Holder × List Region) → code_function code n ≡ Some callee
      → slice_get s.plain.goroutines g ≡ Some frames → has_none h.duties ≡ true → SameHolder h given.0
      → Fine code (instructed_with code s g frame callers call (next callee) given)
  behind callee frames given found q d same =
      fine_plain code s (instructed_with code s g frame callers call (next callee) given) g h
      (behind_holder (record h { fills = same.fills; reserved = same.reserved }) callee (entered callee ∷ frame ∷ callers)) fine e refl hs
      refl refl (as_long callee) (the_others callee)
      (subst (λ x. GoodHolder code x (behind_holder (record h { fills = same.fills; reserved = same.reserved }) callee
      (entered callee ∷ frame ∷ callers))) (sym (goroutines callee frames q))
      (good_behind code checked written frame callers call to n from passes protects removes is cur
      (record h { fills = same.fills; reserved = same.reserved }) h.environments h.duties (entered callee) callee refl refl found
      (none_owed h.duties d) good.core good.base_once good.fit good.shares))
    where
      after : (o : CodeOp) → o ≡ Call to n from passes protects removes
          → holder_after code given.0 frame callers o (frames_of (next callee) g)
          ≡ behind_holder given.0 callee (frames_of (next callee) g)
      after o is' =
          ap (λ x. holder_after code given.0 frame callers x (frames_of (next callee) g)) is'
          ∙ ap (λ (x : Option CodeFn). record given.0 {
            environments = environment_of (function_result_class x) (passed (formals_of x)
                (passed_regions (top_names given.0.environments) passes)) ∷ with_top given.0.environments
                (without_all (top_names given.0.environments) (given_names (function_result_class x) (formals_of x) passes
                protects));
            duties = map Remove (entry_removes x) ++ next_duties code (frames_of (next callee) g);
          }) found

      hs : (instructed_with code s g frame callers call (next callee) given).holders
          ≡ slice_set s.holders g (behind_holder (record h { fills = same.fills; reserved = same.reserved }) callee
          (entered callee ∷ frame ∷ callers))
      hs =
          ap (λ x. slice_set s.holders g (unless_trapped (next callee).ended given.0
          (holder_after code given.0 frame callers call.op (frames_of (next callee) g))) ++ x)
          (ap (λ x. child_holder code given.0 x (last_frames (next callee).goroutines)) is)
          ∙ append-nil (slice_set s.holders g (unless_trapped (next callee).ended given.0
          (holder_after code given.0 frame callers call.op (frames_of (next callee) g))))
          ∙ ap (λ x. slice_set s.holders g (unless_trapped x given.0
          (holder_after code given.0 frame callers call.op (frames_of (next callee) g))))
          (no_end g (entered callee) (frame ∷ callers))
          ∙ ap (slice_set s.holders g) (after call.op is)
          ∙ ap (λ (x : Holder). slice_set s.holders g (behind_holder x callee (frames_of (next callee) g))) same.same
          ∙ ap (λ x. slice_set s.holders g (behind_holder (record h { fills = same.fills; reserved = same.reserved }) callee x))
          (goroutines callee frames q)

-- a call keeps what holds of the state: of an instruction that was done, and of a step
pub fine_call : (code : Code) (page_words : ℕ) (s t : RegionState) (g : ℕ) (x : OneDone code page_words s g t)
    (to : Option ℕ) (n : ℕ) (from : List ℕ) (passes : List Class) (protects removes : List ℕ) → IsChecked code
    → Ascends code → Fine code s → x.instr.op ≡ Call to n from passes protects removes → Fine code t
fine_call code page_words s t g x to n from passes protects removes checked written fine is =
    let c = call_enters code s.plain.memory x.frame x.callers x.instr to n from passes protects removes checked x.cur is
    in
    subst (Fine code) (sym x.is)
    (subst (λ a. Fine code (instructed_with code s g x.frame x.callers x.instr (after s.plain g a) x.given))
    (same_Some (has_called s.plain.memory x.frame x.callers n from c.0) x.a (sym c.2 ∙ x.acts))
    (behind code s g x.h x.frame x.callers x.instr to n from passes protects removes checked written fine x.there
    (ap frames_in x.at) x.cur is c.0 (x.frame ∷ x.callers) x.given c.1 x.at (ap has_none x.ready.none) x.same))
