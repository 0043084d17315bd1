-- Ends of a run except the return of `main`, which is a local step: a trap, and an end that comes from no instruction. The records fit
-- after each, since other goroutines may still make accesses after the end.
use Rattle.rgo_sound.specs.Code.Code.{Do}
use Rattle.rgo_sound.specs.Code.Erasure.{erased}
use Rattle.rgo_sound.specs.Machine.declared.picks.End.TheVariants.{Trap as TrapEnd}
use Rattle.rgo_sound.specs.Machine.declared.picks.Pick.TheVariants.{One}
use Rattle.rgo_sound.specs.Memory.Effects.{Traps}
use Rattle.rgo_sound.specs.Memory.declared.traps.Trap.{Trap}
use Rattle.rgo_sound.specs.RegionMachine.Instructions.{mark_with_end}
use Rattle.rgo_sound.specs.RegionMachine.Machine.{Finish, Instruct, finished}
use Rattle.rgo_sound.specs.RegionMachine.declared.limits.Limit.{Limit}
use Rattle.rgo_sound.proofs.steps.Acting.{performed, trap_place}
use Rattle.rgo_sound.specs.Tac.Frames.{operand_values}
use Rattle.rgo_sound.specs.Tac.Steps.{destination_type}
use Rattle.rgo_sound.specs.Typed.declared.actions.Action.{Action}
use Rattle.std.specs.Prelude.{List, Option, Some, ℕ, ◌≡◌}
use Rattle.rgo_core_frames.specs.States.{AtInstruction, Here}
use Rattle.rgo_core_frames.specs.steps.Bookkept.{RegionStepsTo}

-- A trap: the record stays, and the instruction is counted. The goroutine stays before it.
abbrev pub TrapLaw : Type 0
TrapLaw =
    (x : AtInstruction) (to : Option ℕ) (action : Action) (from removes : List ℕ) (trap : Trap)
    → x.instr.op ≡ Do to action from removes
    → performed x.here.code.structs action (destination_type (erased x.here.code) x.before.frame to)
    (operand_values x.before.frame from) x.here.s.plain.memory
    ≡ Some (Traps trap)
    → RegionStepsTo x.here (Instruct (One x.here.g)) x.here.s.regions
    (mark_with_end x.here.s.mark (Some (TrapEnd trap (trap_place action x.instr.place)))) x.here.records

-- an end that comes from no instruction
abbrev pub FinishLaw : Type 0
FinishLaw =
    (x : Here) (limit : Limit)
    → RegionStepsTo x (Finish limit) x.s.regions (finished x.s limit).mark x.records
