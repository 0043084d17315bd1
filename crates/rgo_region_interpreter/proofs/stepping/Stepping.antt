-- A step of a goroutine, by how far it came: it has no next instruction, not all was done that it owes before that, or the instruction
-- was done.
use Rattle.std.proofs.Common.{◌≡◌, ℕ, true, List, [], ◌∷◌, Option, Some, None, refl, sym, ap, ◌∙◌, subst, arith}
use Rattle.std.proofs.Common.{slice_get, option_and_then}
use Rattle.std.proofs.lemmas.List.{append-nil}
use Rattle.std.proofs.lemmas.Option.{slice_get_within}
use Rattle.rgo_memory.specs.Channels.{SameChannels}
use Rattle.rgo_memory.specs.Memory.{Memory}
use Rattle.rgo_machine.specs.declared.limits.Limits.{Limits}
use Rattle.rgo_machine.specs.declared.picks.Pick.TheVariants.{One}
use Rattle.rgo_interpreter.specs.declared.turns.TurnEnd.TheVariants as stop
use Rattle.rgo_interpreter.specs.declared.turns.Turned.{Turned}
use Rattle.rgo_machine.specs.Limits.{is_within}
use Rattle.rgo_machine.specs.Machines.{alone as machine_alone, picked, step_by, unless_ended}
use Rattle.rgo_tac.specs.declared.ops.Op.{Op as CodeOperation}
use Rattle.rgo_tac.specs.declared.ops.Op.TheVariants as code_op
use Rattle.rgo_tac.specs.Frames.{TacFrame}
use Rattle.rgo_tac.specs.Ops.{operation_of}
use Rattle.rgo_tac.specs.Tac.{TacState, tac}
use Rattle.rgo_code.specs.Erasure.{erased}
use Rattle.rgo_region_machine.specs.Owed.{current, current_in}
use Rattle.rgo_region_machine.specs.States as spec
use Rattle.rgo_region_machine.specs.States.{RegionState, frames_in, end_in, plain_at}
use Rattle.rgo_sound.proofs.Places.{get_some}
use Rattle.rgo_sound.proofs.pointers.Steps.{Top, top_of}
use Rattle.rgo_sound.specs.Invariant.{GoodHolder}
use Rattle.rgo_region_interpreter.specs.declared.worlds.Halt.{Halt}
use Rattle.rgo_region_interpreter.specs.declared.worlds.Halt.TheVariants as halt
use Rattle.rgo_region_interpreter.specs.declared.worlds.Next.{Next}
use Rattle.rgo_region_interpreter.specs.declared.worlds.World.{World}
use Rattle.rgo_region_interpreter.specs.Works.{ActsBy, Between, Falls, GoroutineHasNoNext, IsNextInFrame, IsNextInWorld, WorldIsBetween, WorldIsReady, Readies, Ready}
use Rattle.rgo_region_interpreter.specs.Works.{WorldTakesSteps, TakesStep, first_frame_of, halted}
use Rattle.rgo_region_interpreter.proofs.holding.OneHolder.{none_some}
use Rattle.rgo_region_interpreter.proofs.stepping.Taking.{plain_at_same, takes_after, takes_nothing, takes_short}

no_channel_changed : (m : Memory) → SameChannels m m
no_channel_changed m o channel e = e

-- a goroutine that has frames has a next instruction
stands_at_one : (w : World) (s : RegionState) (g : ℕ) → Between w s → (frame : TacFrame) (callers : List TacFrame)
    → slice_get s.plain.goroutines g ≡ Some (frame ∷ callers) → current w.code.now frame ≡ None → ⊥
stands_at_one w s g between frame callers at none =
    none_some (sym none ∙ ap (λ o. current_in o frame.next) it.stands.is_fn ∙ it.stands.is_instr)
  where
    h : (h : spec.Holder) × (slice_get s.holders g ≡ Some h)
    h = get_some s.holders g (let a = slice_get_within s.plain.goroutines g (frame ∷ callers) at in
        let b = between.good.good.fine.as_many in omega (arith, a, b))

    it : Top w.code.now h.0 frame callers
    it = top_of w.code.now h.0 frame callers
        (subst (λ y. GoodHolder w.code.now y h.0) (ap frames_in at) (between.good.good.fine.each g h.0 h.1))

-- one that has no next instruction waits
pub takes_wait : (w : World) (limits : Limits) (g : ℕ) → GoroutineHasNoNext w g
    → WorldTakesSteps w w limits g 1 (record { steps = 0; stop = stop.Waits })
takes_wait w limits g no_next s between within = record {
  events = [];
  state = s;
  leads = refl;
  turns = record {
    leads = refl;
    within = omega arith;
    over = (ap end_in between.running, no_step);
    channels = no_channel_changed s.plain.memory;
    print = refl;
  };
  code = refl;
  sizes = refl;
  shown = λ n. (between.prepared, between.shown);
  between = λ n m. between;
  lacks = λ why e. cc;
  prints = record { bytes = []; whole = sym (append-nil s.plain.printed); kept = sym (append-nil w.state.printed) };
}
  where
    no_frames : (o : Option (List TacFrame)) → slice_get s.plain.goroutines g ≡ o
        → option_and_then (machine_alone (tac (erased w.code.now)) (plain_at s w.state.printed) g) o ≡ None
    no_frames None e = refl
    no_frames (Some []) e = refl
    no_frames (Some (frame ∷ callers)) e =
        absurd (stands_at_one w s g between frame callers e
        (no_next frame (ap (λ gs. first_frame_of (slice_get gs g)) between.shown.goroutines ∙ ap first_frame_of e)))

    no_step : step_by (tac (erased w.code.now)) (plain_at s w.state.printed) (One g) ≡ None
    no_step =
        ap (λ e. unless_ended e (picked (tac (erased w.code.now)) (plain_at s w.state.printed) (One g)))
        (ap end_in between.running)
        ∙ no_frames (slice_get s.plain.goroutines g) refl

-- what it owes before its next instruction was not all done
pub takes_halt : (w v : World) (limits : Limits) (g : ℕ) (why : Halt) → Falls why w v g
    → WorldTakesSteps w v limits g 1 (halted why)
takes_halt w v limits g halt.NoMemory same s between within = takes_nothing w v s limits g between.running same
takes_halt w v limits g (halt.NoRoom why) stops s between within =
    takes_short w v limits g why s between.running (stops s between)

-- ---- it was all done

module _ (w v : World) (limits : Limits) (g : ℕ) (readied : (s : RegionState) → Between w s → Readies w v s g) where
  pub ready_then : WorldIsBetween w limits → WorldIsReady v limits g
  ready_then on = record {
    state = r.attended.state;
    ready = r.ready;
    within = ap (is_within limits) (plain_at_same on.state r.attended.state w.state.printed v.state.printed
        r.attended.plain on.between.running r.attended.works.running r.attended.same.print) ∙ on.within;
  }
    where
      r : Readies w v on.state g
      r = readied on.state on.between

  -- the next instruction is still the same
  pub next_then : (next : Next) → WorldIsBetween w limits → IsNextInWorld w g next → IsNextInWorld v g next
  next_then next on at = record {
    frame = at.frame;
    callers = at.callers;
    frames = ap (λ gs. slice_get gs g) goroutines ∙ at.frames;
    is = subst (λ code. IsNextInFrame code at.frame next) (sym r.attended.same.code) at.is;
  }
    where
      r : Readies w v on.state g
      r = readied on.state on.between

      goroutines : v.state.goroutines ≡ w.state.goroutines
      goroutines = r.attended.works.shown.goroutines ∙ ap (λ (p : TacState). p.goroutines) r.attended.plain
          ∙ sym on.between.shown.goroutines

  -- and then it was done
  pub step_then : (u : World) (turned : Turned) → ((s : RegionState) → Ready v s g
      → is_within limits (plain_at s v.state.printed) ≡ true → TakesStep v u limits s g 1 turned)
      → WorldTakesSteps w u limits g 1 turned
  step_then u turned takes s between within =
      takes_after w v u s g [] limits turned r.attended between.running (takes r.attended.state r.ready
      (ap (is_within limits) (plain_at_same s r.attended.state w.state.printed v.state.printed r.attended.plain
      between.running r.attended.works.running r.attended.same.print) ∙ within))
    where
      r : Readies w v s g
      r = readied s between

-- an operation that neither calls, starts nor returns
pub acting_op : (op : CodeOperation) → ((to : Option ℕ) (n : ℕ) (from : _) → op ≡ code_op.Call to n from → ⊥)
    → ((n : ℕ) (from : _) → op ≡ code_op.Go n from → ⊥) → ((value : Option ℕ) → op ≡ code_op.Return value → ⊥)
    → ActsBy (operation_of op)
acting_op (code_op.Do to action from) n m k = tt
acting_op (code_op.Call to c from) n m k = absurd (n to c from refl)
acting_op (code_op.Go c from) n m k = absurd (m c from refl)
acting_op (code_op.Print pieces from) n m k = tt
acting_op (code_op.Jump target) n m k = tt
acting_op (code_op.Branch test target other) n m k = tt
acting_op (code_op.Return value) n m k = absurd (k value refl)
