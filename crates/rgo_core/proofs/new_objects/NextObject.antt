-- The object that a record makes next is the one that the plain machine makes.
use Rattle.std.proofs.Common.{◌≡◌, ◌≤◌, ℕ, ◌+◌, ◌^◌, option_map, List, [], ◌∷◌, ◌++◌, Option, Some, None, length, slice_get, refl, ap, ◌∙◌}
use Rattle.rgo_sound.specs.Machine.declared.picks.Pick.TheVariants.{One}
use Rattle.rgo_sound.specs.Code.Code.{Do}
use Rattle.rgo_sound.specs.Code.Erasure.{erased, erased_instr, erased_op}
use Rattle.rgo_sound.specs.Memory.Memory.{Object}
use Rattle.rgo_sound.specs.Memory.declared.values.Value.TheVariants as value
use Rattle.rgo_sound.proofs.steps.Acting.{Acted, act as act_of, act_at, after, alone, effected, trap_place}
use Rattle.rgo_sound.proofs.steps.OneStep.{current_erased}
use Rattle.rgo_sound.proofs.Places.{get_append_last}
use Rattle.rgo_sound.proofs.Progress.{one_step}
use Rattle.rgo_sound.specs.Tac.Frames.{TacFrame, frame_after_instr}
use Rattle.rgo_sound.specs.Tac.Tac.{TacState}
use Rattle.rgo_sound.specs.Typed.declared.actions.Action.{Action}
use Rattle.rgo_core.specs.Core.{Situation, Setup}
use Rattle.rgo_core.specs.moves.NewObjects.{ObjectOf}
use Rattle.rgo_core.specs.Next.{IsAtOp}
use Rattle.rgo_core.specs.Records.{Record}
use Rattle.rgo_core.proofs.new_objects.MakesObject.{b, makes_it}
use Rattle.rgo_sound.specs.RegionMachine.Machine.{next_object, object_made, plain_step}

module _ {T : Setup} {g : ℕ} {c : Record} (x : Situation T g c) (to : Option ℕ) (act : Action) (from removes : List ℕ)
    (a : IsAtOp T.code c (Do to act from removes)) (object : Object) (most : ℕ) (low : most ≤ 2 ^ 63)
    (makes : ObjectOf most T.code a.w to act from object) where
  abbrev old : TacState
  old = x.s.plain

  abbrev frame : TacFrame
  frame = (b x to act from removes a object).frame

  abbrev callers : List TacFrame
  callers = (b x to act from removes a object).callers

  abbrev pub done : Acted
  done = record {
    memory = record old.memory { heap = old.memory.heap ++ object ∷ [] };
    frames = frame_after_instr frame to (value.Object (length old.memory.heap)) ∷ callers;
    started = [];
    printed = [];
    trap = None;
  }

  acts_so : alone (erased T.code) old.memory (frame ∷ callers) ≡ Some done
  acts_so =
      ap (λ i. act_at (erased T.code) old.memory i frame callers)
      (current_erased T.code frame ∙ ap (option_map erased_instr) (b x to act from removes a object).cur)
      ∙ (ap (λ op. act_of (erased T.code) old.memory (erased_op op) a.instr.place frame callers) a.is
      ∙ ap (effected old.memory frame callers to (trap_place act a.instr.place))
      (makes_it x to act from removes a object most low makes))

  pub steps_plain : plain_step T.code old (One g) ≡ Some (after old g done)
  steps_plain = one_step T.code old g (frame ∷ callers) x.core.sound.running (b x to act from removes a object).at
      ∙ ap (option_map (after old g)) acts_so

  pub object_there : slice_get (after old g done).memory.heap (length old.memory.heap) ≡ Some object
  object_there = get_append_last old.memory.heap object (length old.memory.heap) refl

  pub next_is : next_object T.code x.s g ≡ Some object
  next_is = ap (object_made x.s) steps_plain ∙ object_there
