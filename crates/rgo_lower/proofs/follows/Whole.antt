-- The whole: lowered code follows the source machine, and both begin in states that match. Each thing that a frame still has to do has its
-- lemma in one of the files beside this one; here they are put together, and `Size` is the measure of the steps without code.
use Rattle.std.proofs.Common.{◌≡◌, ℕ, suc, List, [], ◌∷◌, map, length, Option, Some, None, refl, ap, ◌≤◌, subst, arith}
use Rattle.std.specs.Prelude.{◌⊎◌, slice_get, codes}
use Rattle.rgo_typed.specs.declared.types.Type.{«Type»}
use Rattle.rgo_typed.specs.Tree.{Function, Typed}
use Rattle.rgo_memory.specs.declared.values.Value.{Value}
use Rattle.rgo_memory.specs.Opening.{opening}
use Rattle.rgo_simulation.specs.Follows.{Follows, ReturnAlike, Stutters, Together}
use Rattle.rgo_simulation.specs.Simulations.{SameStates}
use Rattle.rgo_simulation.proofs.Lift.{following_simulates, start_within}
use Rattle.rgo_machine.specs.Limits.{deepest}
use Rattle.rgo_tac.specs.Code as op
use Rattle.rgo_tac.specs.Code.{Tac}
use Rattle.rgo_tac.specs.Frames as tac
use Rattle.rgo_tac.specs.Tac as low
use Rattle.rgo_meaning.specs.Frames as source
use Rattle.rgo_meaning.specs.Frames.{Todo, Evaluate, Each, Perform, Affect, Settle, Decide, Create, Fill, Repeat, Give}
use Rattle.rgo_meaning.specs.Frames.{Forget, Clear, Enter, Start, Write, Execute, Sequence, When, Choose, Close, Onward}
use Rattle.rgo_meaning.specs.Frames.{Turn, Test, Again, Leave, Stay}
use Rattle.rgo_meaning.specs.Source as high
use Rattle.rgo_meaning.specs.Source.{function_named, source_main_frames}
use Rattle.rgo_lower.specs.Laws.{LoweringSimulates}
use Rattle.rgo_lower.specs.Lowered.{LoweringPoint, LoweringScope, IsLowered}
use Rattle.rgo_lower.proofs.follows.Places.{Loop}
use Rattle.rgo_lower.proofs.follows.Grows.{same_inside}
use Rattle.rgo_lower.proofs.follows.Size.{size}
use Rattle.rgo_lower.proofs.follows.Calls.{mains}
use Rattle.rgo_lower.proofs.follows.Terms.{evaluate_steps, each_steps, decide_steps}
use Rattle.rgo_lower.proofs.follows.Actions as actions
use Rattle.rgo_lower.proofs.follows.Entering.{enter_steps, start_steps}
use Rattle.rgo_lower.proofs.follows.Branches as branches
use Rattle.rgo_lower.proofs.follows.Statements.{sequence_steps, execute_steps}
-- ---- the end of a function
use Rattle.rgo_lower.proofs.follows.Settings.{Setting, g, frame_of, Here, Goroutines}
use Rattle.rgo_lower.proofs.follows.Matched.{Matches, CallersAt, Stacks}
use Rattle.rgo_lower.proofs.follows.Changes.{jumps}
use Rattle.rgo_lower.proofs.follows.Steps.{Goal, instr_is, together}

module _ (c : Setting) where
  returned_nothing : (result : Option «Type») (callers : List source.SourceFrame) (lows : List tac.TacFrame) → result ≡ None
      → CallersAt c.program.functions c.code result callers lows
      → ReturnAlike (high.source c.program) (low.tac c.code) (Goroutines c) None callers lows
  returned_nothing None [] [] e h = tt
  returned_nothing None (f ∷ callers) (k ∷ lows) e h = (h.0, h.1, h.2)
  returned_nothing None [] (k ∷ lows) e h = absurd h
  returned_nothing None (f ∷ callers) [] e h = absurd h
  returned_nothing (Some ty) callers lows e h = cc

  returned_value : (result : Option «Type») (ty : «Type») (v : Value) (callers : List source.SourceFrame)
      (lows : List tac.TacFrame) → result ≡ Some ty → CallersAt c.program.functions c.code result callers lows
      → ReturnAlike (high.source c.program) (low.tac c.code) (Goroutines c) (Some v) callers lows
  returned_value (Some result) ty v [] [] e h = tt
  returned_value (Some result) ty v (f ∷ callers) (k ∷ lows) e h = (h.0, h.1 v, h.2)
  returned_value (Some result) ty v [] (k ∷ lows) e h = absurd h
  returned_value (Some result) ty v (f ∷ callers) [] e h = absurd h
  returned_value None ty v callers lows e h = cc

  module _ (loops : List Loop) (scope : LoweringScope) (p : LoweringPoint) (locals : List Value) where
    end_steps : (held : List ℕ) → Here c loops scope p held locals [] → Goal c (frame_of c locals held [])
    end_steps held h =
        let i = h.todo in
        together c _ (op.Return None) i.place (instr_is c (op.Return None) i.place p h.function h.next i.instr) tt
        (λ e m. (refl, returned_nothing c.f.result_type c.callers c.lows i.is c.below))

    leave_steps : (d : ℕ) (held : List ℕ) (todo : List Todo) → Here c loops scope p (d ∷ held) locals (Leave ∷ todo)
        → Goal c (frame_of c locals (d ∷ held) (Leave ∷ todo))
    leave_steps d held todo h =
        let i = h.todo in
        let leave = op.Return (Some d) in
        together c _ leave i.place (instr_is c leave i.place p h.function h.next i.instr) tt
        (λ e m. (refl, returned_value c.f.result_type i.ty (g c d) c.callers c.lows i.is c.below))

    stay_steps : (held : List ℕ) (todo : List Todo) → Here c loops scope p held locals (Stay ∷ todo)
        → Goal c (frame_of c locals held (Stay ∷ todo))
    stay_steps held todo h =
        let i = h.todo in
        let frame = frame_of c locals held (Stay ∷ todo) in
        let jump = op.Jump p.instr in
        together c frame jump i.place (instr_is c jump i.place p h.function h.next i.instr) tt
        (λ e m. (
          refl,
          (
            c.f,
            jumps c h p.instr loops scope p held
                (map (g c) held) (Stay ∷ todo) refl (same_inside scope) h.fits h.loop h.below refl h.todo,
            c.below,
          ),
        ))

  -- ---- each thing to do

  every_step : (ls : List Loop) (s : LoweringScope) (p : LoweringPoint) (vs : List Value) (held : List ℕ) (todo : List Todo)
      → Here c ls s p held vs todo → Goal c (frame_of c vs held todo)
  every_step ls s p vs held [] h = end_steps ls s p vs held h
  every_step ls s p vs held (Evaluate t ∷ todo) h = evaluate_steps c ls s p vs held t todo h
  every_step ls s p vs held (Each ts ∷ todo) h = each_steps c ls s p vs held ts todo h
  every_step ls s p vs held (Perform action count ty place ∷ todo) h =
      actions.perform_steps c ls s p vs held action count ty place todo h
  every_step ls s p vs held (Affect action count place ∷ todo) h =
      actions.affect_steps c ls s p vs held action count place todo h
  every_step ls s p vs [] (Settle ∷ todo) h = absurd h.todo.1
  every_step ls s p vs (v ∷ held) (Settle ∷ todo) h = actions.settle_steps c ls s p vs v held todo h
  every_step ls s p vs [] (Decide logic right ∷ todo) h = absurd h.todo.1
  every_step ls s p vs (d ∷ held) (Decide logic right ∷ todo) h = decide_steps c ls s p vs logic right d held todo h
  every_step ls s p vs held (Create struct ∷ todo) h = actions.create_steps c ls s p vs held struct todo h
  every_step ls s p vs [] (Fill count fields place ∷ todo) h = absurd h.todo.1
  every_step ls s p vs (object ∷ below) (Fill count [] place ∷ todo) h =
      actions.filled_steps c ls s p vs count place object below todo h
  every_step ls s p vs (object ∷ below) (Fill count (k ∷ fields) place ∷ todo) h =
      actions.fill_steps c ls s p vs count k fields place object below todo h
  every_step ls s p vs held (Repeat n ∷ todo) h = actions.repeat_steps c ls s p vs held n todo h
  every_step ls s p vs [] (Give n ∷ todo) h = absurd h.todo.1
  every_step ls s p vs (d ∷ []) (Give n ∷ todo) h = actions.give_steps c ls s p vs d n todo h
  every_step ls s p vs (d ∷ e ∷ held) (Give n ∷ todo) h = absurd h.todo.1
  every_step ls s p vs [] (Forget ∷ todo) h = absurd h.todo.1
  every_step ls s p vs (d ∷ held) (Forget ∷ todo) h = actions.forget_steps c ls s p vs d held todo h
  every_step ls s p vs [] (Clear n ty ∷ todo) h = actions.clear_steps c ls s p vs n ty todo h
  every_step ls s p vs (d ∷ held) (Clear n ty ∷ todo) h = absurd h.todo.1
  every_step ls s p vs held (Enter n count ∷ todo) h = enter_steps c ls s p vs held n count todo h
  every_step ls s p vs held (Start n count ∷ todo) h = start_steps c ls s p vs held n count todo h
  every_step ls s p vs held (Write pieces count ∷ todo) h = actions.write_steps c ls s p vs held pieces count todo h
  every_step ls s p vs [] (Execute t ∷ todo) h = execute_steps c s p vs ls t todo h
  every_step ls s p vs (d ∷ held) (Execute t ∷ todo) h = absurd h.todo.1
  every_step ls s p vs [] (Sequence ss ∷ todo) h = sequence_steps c ls s p vs ss todo h
  every_step ls s p vs (d ∷ held) (Sequence ss ∷ todo) h = absurd h.todo.1
  every_step ls s p vs [] (When body ∷ todo) h = absurd h.todo.1
  every_step ls s p vs (d ∷ []) (When body ∷ todo) h = branches.when_steps c ls s p vs d body todo h
  every_step ls s p vs (d ∷ e ∷ held) (When body ∷ todo) h = absurd h.todo.1
  every_step ls s p vs [] (Choose body other ∷ todo) h = absurd h.todo.1
  every_step ls s p vs (d ∷ []) (Choose body other ∷ todo) h = branches.choose_steps c ls s p vs d body other todo h
  every_step ls s p vs (d ∷ e ∷ held) (Choose body other ∷ todo) h = absurd h.todo.1
  every_step ls s p vs [] (Close ∷ todo) h = branches.close_steps c ls s p vs todo h
  every_step ls s p vs (d ∷ held) (Close ∷ todo) h = absurd h.todo.1
  every_step ls s p vs [] (Onward ∷ todo) h = branches.onward_steps c ls s p vs todo h
  every_step ls s p vs (d ∷ held) (Onward ∷ todo) h = absurd h.todo.1
  every_step ls s p vs [] (Turn test body post ∷ todo) h = branches.turn_steps c ls s p vs test body post todo h
  every_step ls s p vs (d ∷ held) (Turn test body post ∷ todo) h = absurd h.todo.1
  every_step ls s p vs [] (Test test body post ∷ todo) h = absurd h.todo.1
  every_step ls s p vs (d ∷ []) (Test test body post ∷ todo) h =
      branches.test_steps c ls s p vs d test body post todo h
  every_step ls s p vs (d ∷ e ∷ held) (Test test body post ∷ todo) h = absurd h.todo.1
  every_step [] s p vs held (Again test body post ∷ todo) h = absurd h.todo.1
  every_step (l ∷ ls) s p vs [] (Again test body post ∷ todo) h =
      branches.again_steps c l ls s p vs todo test body post h
  every_step (l ∷ ls) s p vs (d ∷ held) (Again test body post ∷ todo) h = absurd h.todo.1
  every_step ls s p vs [] (Leave ∷ todo) h = absurd h.todo
  every_step ls s p vs (d ∷ held) (Leave ∷ todo) h = leave_steps ls s p vs d held todo h
  every_step ls s p vs held (Stay ∷ todo) h = stay_steps ls s p vs held todo h

-- ---- the beginning of a run

few : (o : Option Function) → length (source_main_frames o) ≤ deepest
few None = omega arith
few (Some s) = omega arith

-- ---- goroutines

module _ (program : Typed) (code : Tac) (lowered : IsLowered program code) where
  abbrev M : List source.SourceFrame → List tac.TacFrame → Type 0
  M fs gs = Stacks program.functions code fs gs

  step : (frame : source.SourceFrame) (callers : List source.SourceFrame) (other : tac.TacFrame) (lows : List tac.TacFrame)
      → M (frame ∷ callers) (other ∷ lows)
      → Stutters (high.source program) (low.tac code) M callers lows size frame other
      ⊎ Together (high.source program) (low.tac code) M callers lows frame other
  step frame callers other lows h =
      let a = h.1 in
      let c : Setting = record {
        program = program;
        code = code;
        lowered = lowered;
        f = h.0;
        frame = other;
        callers = callers;
        lows = lows;
        below = h.2;
      } in
      let with_values : List Value → source.SourceFrame =
      λ vs. record { locals = frame.locals; values = vs; todo = frame.todo } in
      subst
      (λ vs. Matches program.functions code h.0 a.0 a.1 a.2 a.3 (with_values vs) other
      → Stutters (high.source program) (low.tac code) M callers lows size (with_values vs) other
      ⊎ Together (high.source program) (low.tac code) M callers lows (with_values vs) other)
      a.4.values (λ k. every_step c a.0 a.1 a.2 frame.locals a.3 frame.todo k) a.4

  callers_depth : (result : Option «Type») (fs : List source.SourceFrame) (gs : List tac.TacFrame)
      → CallersAt program.functions code result fs gs → length gs ≡ length fs
  callers_depth result [] [] h = refl
  callers_depth result (f ∷ fs) (k ∷ gs) h = ap suc (callers_depth h.0.result_type fs gs h.2)
  callers_depth result [] (k ∷ gs) h = absurd h
  callers_depth result (f ∷ fs) [] h = absurd h

  depth : (fs : List source.SourceFrame) (gs : List tac.TacFrame) → M fs gs → length gs ≡ length fs
  depth [] [] h = refl
  depth (f ∷ fs) (k ∷ gs) h = ap suc (callers_depth h.0.result_type fs gs h.2)
  depth [] (k ∷ gs) h = absurd h
  depth (f ∷ fs) [] h = absurd h

  pub follows : Follows (high.source program) (low.tac code) M size
  follows = record { step = step; depth = depth }

  pub starts : SameStates (high.source program) (low.tac code) M (high.source_start program) (low.tac_start code)
  starts = record {
    memory = ap opening lowered.variables;
    printed = refl;
    ended = refl;
    goroutines = (
      mains program.functions code program.functions code.functions 0 lowered.functions
          (λ i. ap (slice_get code.functions) (omega arith)),
      tt,
    );
  }

pub lowering_simulates : LoweringSimulates
lowering_simulates program code lowered =
    following_simulates (high.source program) (low.tac code) (Stacks program.functions code) size
    (follows program code lowered) (high.source_start program) (low.tac_start code) (starts program code lowered)
    (start_within (opening program.variables) (source_main_frames (function_named (codes "main") program.functions))
    (few (function_named (codes "main") program.functions)))
