-- A call: what its goroutine has of the regions then, and how the turn is one of the world. The loops over the lists of a call are in
-- Lists.antt; here their result is compared with the machine's.
use Rattle.std.proofs.Common.{◌≡◌, ℕ, ◌≤◌, Bool, true, false, ◌||◌, List, [], ◌∷◌, ◌++◌, map, length, Option}
use Rattle.std.proofs.Common.{Some, None, refl, sym, ap, ◌∙◌, subst, nat_eq, if◌then◌else◌, arith, slice_get, slice_set}
use Rattle.std.specs.List.{list_any}
use Rattle.std.proofs.lemmas.List.{append-nil}
use Rattle.rgo_machine.specs.declared.limits.Limits.{Limits}
use Rattle.rgo_machine.specs.declared.picks.Pick.TheVariants.{One}
use Rattle.rgo_interpreter.specs.declared.turns.TurnEnd.TheVariants as stop
use Rattle.rgo_interpreter.specs.declared.turns.Turned.{Turned}
use Rattle.rgo_tac.specs.declared.regions.Class.{Class}
use Rattle.rgo_tac.specs.Code as tac
use Rattle.rgo_tac.specs.Frames.{operand_values}
use Rattle.rgo_code.specs.Code.{Branch, Call, CodeFn, CodeOp, Do, Go, Jump, Print, Return}
use Rattle.rgo_code.specs.Erasure.{erased, erased_op}
use Rattle.rgo_code.specs.Lists.{passes_in, passes_of, protects_in, protects_of}
use Rattle.rgo_region_machine.specs.declared.regions.Region.{Region}
use Rattle.rgo_region_machine.specs.declared.regions.Region.TheVariants.{Global as GlobalRegion, Numbered}
use Rattle.rgo_region_machine.specs.Instructions.{child_holder, holder_after, last_frames}
use Rattle.rgo_region_machine.specs.Objects.{fill_of}
use Rattle.rgo_region_machine.specs.Owed.{entry_removes, formals_of, code_function, given_names, next_duties, passed}
use Rattle.rgo_region_machine.specs.Owed.{passed_regions, function_result_class}
use Rattle.rgo_region_machine.specs.Regions.{Bindings, bound, unbind, without_all}
use Rattle.rgo_region_machine.specs.States as spec
use Rattle.rgo_region_machine.specs.States.{Duty, RegionEnvironment, RegionState, Remove, environment_of, top_names, with_top}
use Rattle.rgo_region_machine.specs.States.{frames_of as frames_at}
use Rattle.rgo_sound.proofs.steps.Acting.{Acted, act}
use Rattle.rgo_sound.proofs.names.Core.{bound_unbind, bound_unbind_other}
use Rattle.rgo_sound.proofs.plain.Steps.{Always}
use Rattle.rgo_sound.proofs.Tests.{eq_of, split}
use Rattle.rgo_region_interpreter.specs.declared.holders.Holder.{Holder}
use Rattle.rgo_region_interpreter.specs.declared.worlds.Next.{Next}
use Rattle.rgo_region_interpreter.specs.declared.worlds.World.{World}
use Rattle.rgo_region_interpreter.specs.Calls.{HolderCalled, EntersCall, bound_except}
use Rattle.rgo_region_interpreter.specs.Holders.{HolderShows, FrameNames, SameElse, SameBindings, bound_in, fill_in, frame_names_of}
use Rattle.rgo_region_interpreter.specs.Objects.{MakesNone, making_by}
use Rattle.rgo_region_interpreter.specs.Works.{CallsNext, IsNextInWorld, OthersOwe, Ready, SameRun, WorldSettled, TakesStep, WorldTakesTurn, Works}
use Rattle.rgo_region_interpreter.specs.Works.{goes_by}
use Rattle.rgo_region_interpreter.proofs.acts.Acts.{ActsSo}
use Rattle.rgo_region_interpreter.proofs.owing.Attending.{shown_holder, there_is}
use Rattle.rgo_region_interpreter.proofs.passing.Lists.{same_else_more}
use Rattle.rgo_region_interpreter.proofs.acts.Instructed.{acts_by}
use Rattle.rgo_region_interpreter.proofs.lifting.Good.{StepShows}
use Rattle.rgo_region_interpreter.proofs.acts.Quiet.{IsQuiet, call_alone, call_quiet, code_kept, quiet_channels, quiet_print}
use Rattle.rgo_region_interpreter.proofs.acts.Rooms.{before}
use Rattle.rgo_region_interpreter.proofs.holding.Showing.{flip, region_shown, renamed, top_protections}
use Rattle.rgo_region_interpreter.proofs.stepping.Targets.{IsBefore, top}
use Rattle.rgo_region_interpreter.proofs.acts.Turning.{after_it, did, holders_after, one, others_alone, plain_is, shown, turn_fails}
use Rattle.rgo_region_interpreter.proofs.acts.Turning.{turn_settles, works_alone}

-- ---- what the goroutine has of the regions

none_both : (b : Bool) (o : Option Region) → o ≡ None → (if b then None else o) ≡ None
none_both true o e = refl
none_both false o e = e

-- what names denote without those that are given to the callee
except_all : (ks : List ℕ) (bs : Bindings) (k : ℕ)
    → bound (without_all bs ks) k ≡ (if list_any (nat_eq k) ks then None else bound bs k)
except_all [] bs k = refl
except_all (j ∷ js) bs k =
    except_all js (unbind bs j) k
    ∙ split (nat_eq j k)
    (λ t. none_both (list_any (nat_eq k) js) (bound (unbind bs j) k) (gone t)
    ∙ sym (ap (λ b. if b || list_any (nat_eq k) js then None else bound bs k) (flip k j ∙ t)))
    (λ f. ap (λ o. if list_any (nat_eq k) js then None else o) (bound_unbind_other bs j k f)
    ∙ sym (ap (λ b. if b || list_any (nat_eq k) js then None else bound bs k) (flip k j ∙ f)))
  where
    gone : nat_eq j k ≡ true → bound (unbind bs j) k ≡ None
    gone t = subst (λ x. bound (unbind bs j) x ≡ None) (eq_of j k t) (bound_unbind bs j)

-- a callee has the names that are passed to it, and its caller no longer those that it leaves to it
abbrev pub callee_environments : Option CodeFn → List Class → List ℕ → List RegionEnvironment → List RegionEnvironment
callee_environments function passes protects environments =
    environment_of (function_result_class function)
    (passed (formals_of function) (passed_regions (top_names environments) passes))
    ∷ with_top environments (without_all (top_names environments)
    (given_names (function_result_class function) (formals_of function) passes protects))

module _ (c d : Holder) (h : spec.Holder) (function : Option CodeFn) (passes : List Class) (protects : List ℕ)
    (shows : HolderShows c h) (called : HolderCalled c d function passes protects) where
  abbrev given : List ℕ
  given = given_names (function_result_class function) (formals_of function) passes protects

  else_same : SameElse c d
  else_same = same_else_more c called.caller d called.leaves.kept called.enters.1

  pub called_unmade : (r : ℕ) → fill_in c (Numbered r) ≡ fill_of h.fills (Numbered r)
      → fill_in d (Numbered r) ≡ fill_of h.fills (Numbered r)
  called_unmade r e = else_same.fills (Numbered r) ∙ e

  pub called_shows : (e : RegionEnvironment) (es : List RegionEnvironment) → h.environments ≡ e ∷ es → (ds : List Duty)
      → HolderShows d (record h {
        environments = callee_environments function passes protects h.environments;
        duties = ds;
      })
  called_shows e es there ds = record {
    names = subst (λ l. SameBindings l (callee_environments function passes protects h.environments))
        (sym called.enters.0)
        (called.stand (top_names h.environments) (λ k. region_shown c h k shows), left);
    protections = λ r.
        let a = else_same.protections r in
        let b = shows.protections r in
        let f = top_protections (Numbered r) h.environments (without_all (top_names h.environments)
        (given_names (function_result_class function) (formals_of function) passes protects)) h.base in
        omega (arith, a, b, f);
    base = ap (map Numbered) else_same.base ∙ shows.base;
    fills = λ r i. else_same.fills (Numbered r) ∙ shows.fills r i;
    global_fill = else_same.fills GlobalRegion ∙ shows.global_fill;
    reserved = else_same.reserved ∙ shows.reserved;
    no_offer = shows.no_offer;
  }
    where
      fits : (n : FrameNames) → ((j : ℕ) → bound_in n j ≡ bound (top_names h.environments) j) → (j : ℕ)
          → bound_except (given_names (function_result_class function) (formals_of function) passes protects) n j
          ≡ bound (without_all (top_names h.environments)
          (given_names (function_result_class function) (formals_of function) passes protects)) j
      fits n same j =
          ap (λ o. if list_any (nat_eq j) (given_names (function_result_class function) (formals_of function) passes protects)
          then None else o) (same j)
          ∙ sym (except_all (given_names (function_result_class function) (formals_of function) passes protects)
          (top_names h.environments) j)

      left : SameBindings (frame_names_of called.caller) (with_top h.environments (without_all (top_names h.environments)
          (given_names (function_result_class function) (formals_of function) passes protects)))
      left = renamed c called.caller
          (bound_except (given_names (function_result_class function) (formals_of function) passes protects))
          (without_all (top_names h.environments)
          (given_names (function_result_class function) (formals_of function) passes protects))
          h.environments shows.names called.leaves fits e es there

-- ---- the instruction

-- a call of the function of this number
pub record IsCallTo (op : CodeOp) (n : ℕ) : Type 0 where
  pub to : Option ℕ
  pub from : List ℕ
  pub passes : List Class
  pub protects : List ℕ
  pub removes : List ℕ
  pub is : op ≡ Call to n from passes protects removes

call_to : (op : CodeOp) (to : Option ℕ) (n : ℕ) (from : List ℕ) → erased_op op ≡ tac.Call to n from → IsCallTo op n
call_to (Do to action from removes) t n f e = cc
call_to (Call to m from passes protects removes) t n f e = record {
  to = to;
  from = from;
  passes = passes;
  protects = protects;
  removes = removes;
  is = ap (λ k. Call to k from passes protects removes) (number m n e);
}
  where
    number : (m n : ℕ) → tac.Call to m from ≡ tac.Call t n f → m ≡ n
    number m n e = cc
call_to (Go m from passes removes) t n f e = cc
call_to (Print pieces from removes) t n f e = cc
call_to (Jump target removes) t n f e = cc
call_to (Branch test target removes other otherwise) t n f e = cc
call_to (Return value) t n f e = cc

-- it makes no object
pub call_makes : (w : World) (g : ℕ) (next : Next) (callee : ℕ) → IsNextInWorld w g next → CallsNext next callee
    → MakesNone w g next
call_makes w g next callee at calls =
    record { at = at; is = ap (making_by w.code.now.structs at.frame) calls.2 }

module _ (w v : World) (s : RegionState) (limits : Limits) (g : ℕ) (next : Next) (turned : Turned) (ready : Ready w s g)
    (makes : MakesNone w g next) (takes : WorldTakesTurn w v limits g turned)
    (goes : goes_by turned.stop turned.steps ≡ true) (callee : ℕ) (calls : CallsNext next callee) where
  abbrev i : IsBefore w.code.now s g ready.works.holder makes.at.frame makes.at.callers makes.at.is.instr
  i = before w s g next ready makes.at

  -- what the goroutine did
  abbrev x : ActsSo w v s limits g turned ready (before w s g next ready makes.at) takes
      (one w v s limits g next turned ready makes takes goes)
  x = did w v s limits g next turned ready makes takes goes

  -- the three-address machine after it
  abbrev y : StepShows w.code.now s w.state (One g) v.state
  y = shown w v s limits g next turned ready makes takes goes

  op : IsCallTo makes.at.is.instr.op callee
  op = call_to makes.at.is.instr.op calls.0 callee calls.1 (makes.at.is.op ∙ calls.2)

  acts : act (erased w.code.now) s.plain.memory (tac.Call op.to callee op.from) makes.at.is.instr.place makes.at.frame
      makes.at.callers ≡ Some (did w v s limits g next turned ready makes takes goes).act
  acts =
      ap (λ (o : CodeOp). act (erased w.code.now) s.plain.memory (erased_op o) makes.at.is.instr.place makes.at.frame
      makes.at.callers) (sym op.is)
      ∙ sym (acts_by i s.plain.memory) ∙ x.acts

  quiet : IsQuiet s.plain.memory (did w v s limits g next turned ready makes takes goes).act
  quiet = subst (Always (IsQuiet s.plain.memory)) acts
      (call_quiet s.plain.memory makes.at.frame makes.at.callers callee (operand_values makes.at.frame op.from)
      (slice_get (erased w.code.now).functions callee))

  started : (did w v s limits g next turned ready makes takes goes).act.started ≡ []
  started = subst (Always (λ (a : Acted). a.started ≡ [])) acts
      (call_alone s.plain.memory makes.at.frame makes.at.callers callee (operand_values makes.at.frame op.from)
      (slice_get (erased w.code.now).functions callee))

  -- memory ran out for the names of the callee
  pub calling_fails : (u : World) → SameRun v u
      → TakesStep w u limits s g 1 (record { steps = turned.steps; stop = stop.NoMemory })
  calling_fails u same = turn_fails w v s limits g next turned ready makes takes goes u same
      (quiet_channels w.code.now s w.state v.state g y x.act x.is quiet)
      (quiet_print w.code.now s w.state v.state g y x.act x.is quiet)

  -- the callee is entered, and what is owed then is done
  pub calling_goes : (p u : World) (removes : List ℕ)
      → EntersCall v p g (code_function v.code.now callee) (slice_get next.function.body next.at)
      → removes ≡ entry_removes (code_function p.code.now callee)
      → ((t : RegionState) → Works p t g (map Remove removes ++ next_duties p.code.now (frames_at t.plain g))
      → OthersOwe p t g → WorldSettled p u t) → TakesStep w u limits s g 1 turned
  calling_goes p u removes enters is settles =
      turn_settles w v s limits g next turned ready makes takes goes p enters.same u
      (settles t (subst (Works p t g) owed works) others)
    where
      t : RegionState
      t = after_it w v s limits g next turned ready makes takes goes

      h : spec.Holder
      h = ready.works.holder

      kept : (c : Holder) × (slice_get w.holders.items g ≡ Some c)
      kept = there_is w s g [] ready.works

      in_w : v.holders.items ≡ w.holders.items
      in_w = ap (λ (z : World). z.holders.items) takes.same

      code : p.code.now ≡ w.code.now
      code = ap (λ (z : World). z.code.now) enters.same ∙ code_kept w v limits g turned takes

      called : (d : Holder) × (p.holders.items ≡ slice_set v.holders.items g d)
          × HolderCalled kept.0 d (code_function v.code.now callee) (passes_in (slice_get next.function.body next.at))
          (protects_in (slice_get next.function.body next.at))
      called = enters.called kept.0 (ap (λ l. slice_get l g) in_w ∙ kept.1)

      -- by the call's own lists
      called_by : HolderCalled kept.0 called.0 (code_function w.code.now callee) op.passes op.protects
      called_by =
          subst (λ (z : Option CodeFn × List Class × List ℕ). HolderCalled kept.0 called.0 z.0 z.1 z.2) (λ j. (
            code_function (code_kept w v limits g turned takes j) callee,
            (ap passes_in makes.at.is.is_instr ∙ ap passes_of op.is) j,
            (ap protects_in makes.at.is.is_instr ∙ ap protects_of op.is) j,
          )) called.2

      duties : List Duty
      duties = map Remove (entry_removes (code_function w.code.now callee)) ++ next_duties w.code.now (frames_at y.next g)

      k : spec.Holder
      k = record h {
        environments = callee_environments (code_function w.code.now callee) op.passes op.protects h.environments;
        duties = duties;
      }

      k_is : t.holders ≡ slice_set s.holders g k
      k_is =
          holders_after w v s limits g next turned ready makes takes goes
          ∙ (λ j. slice_set s.holders g (holder_after w.code.now h makes.at.frame makes.at.callers (op.is j)
          (frames_at y.next g)) ++ child_holder w.code.now h (op.is j) (last_frames y.next.goroutines))
          ∙ append-nil (slice_set s.holders g k)

      shows : HolderShows called.0 k
      shows = called_shows kept.0 called.0 h (code_function w.code.now callee) op.passes op.protects
          (shown_holder w s g [] ready.works kept.0 kept.1) called_by (top i).f (top i).fs (top i).environments duties

      unmade : (r : ℕ) → length s.regions ≤ r → fill_in called.0 (Numbered r) ≡ fill_of k.fills (Numbered r)
      unmade r l = called_unmade kept.0 called.0 h (code_function w.code.now callee) op.passes op.protects
          (shown_holder w s g [] ready.works kept.0 kept.1) called_by r
          ((ready.works.shown.holders ready.works.running).unmade g kept.0 h kept.1 ready.works.is_holder r l)

      d_is : p.holders.items ≡ slice_set w.holders.items g called.0
      d_is = called.1 ∙ ap (λ l. slice_set l g called.0) in_w

      works : Works p t g duties
      works = works_alone w v s limits g next turned ready makes takes goes p enters.same started k k_is kept.0
          called.0 kept.1 d_is shows unmade

      others : OthersOwe p t g
      others = others_alone w v s limits g next turned ready makes takes goes p enters.same started k k_is kept.0
          called.0 kept.1 d_is shows unmade

      removes_are : entry_removes (code_function w.code.now callee) ≡ removes
      removes_are = ap (λ z. entry_removes (code_function z callee)) (sym code) ∙ sym is

      frames : frames_at y.next g ≡ frames_at t.plain g
      frames = sym (ap (λ p. frames_at p g) (plain_is w v s limits g next turned ready makes takes goes))

      owed : duties ≡ map Remove removes ++ next_duties p.code.now (frames_at t.plain g)
      owed = λ j. map Remove (removes_are j) ++ next_duties (sym code j) (frames j)
