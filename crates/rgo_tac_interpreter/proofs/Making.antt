-- A frame that makes an object.
use Rattle.std.proofs.Common.{◌≡◌, ℕ, List, [], Option, Some, Result, Ok, Err, ◌∙◌}
use Rattle.std.specs.declared.alloc.AllocError.{AllocError}
use Rattle.rgo_typed.specs.declared.actions.Action.{Action}
use Rattle.rgo_memory.specs.declared.values.Value.{Value}
use Rattle.rgo_memory.specs.Effects.{Effect, Does, Traps}
use Rattle.rgo_memory.specs.Memory.{Memory}
use Rattle.rgo_memory.specs.Perform.{perform}
use Rattle.rgo_interpreter.specs.declared.machines.Did.{Did}
use Rattle.rgo_interpreter.specs.declared.machines.Did.TheVariants as did
use Rattle.rgo_interpreter.specs.Acting.{FrameActs}
use Rattle.rgo_machine.specs.Actions.{effected}
use Rattle.rgo_machine.specs.Machines.{Moves, Prints, Elsewhere}
use Rattle.rgo_tac.specs.Code.{Tac, Do}
use Rattle.rgo_tac.specs.Frames.{TacFrame, frame_after_instr, operand_values}
use Rattle.rgo_tac_interpreter.specs.Making.{FrameContinues, has_moved}
use Rattle.rgo_tac.specs.Ops.{op_in, place_in}
use Rattle.rgo_tac.specs.Steps.{tac_act, instr_of, tac_stand, stand_before_op, destination_type}
use Rattle.rgo_tac_interpreter.proofs.Transferring.{done_by, stands_by}

-- a frame that continues does so wherever in the text it is, and an action prints nothing
moves_anywhere : (next : Value → TacFrame) (p q : ℕ) (e : Effect) (n : Memory) (g : TacFrame)
    → effected next p e ≡ Moves n g → effected next q e ≡ Moves n g
moves_anywhere next p q (Does m v) n g is = is
moves_anywhere next p q (Traps trap) n g is = cc

never_prints : (next : Value → TacFrame) (p : ℕ) (e : Effect) (g : TacFrame) (bytes : List ℕ)
    → effected next p e ≡ Prints g bytes → ⊥
never_prints next p (Does m v) g bytes is = cc
never_prints next p (Traps trap) g bytes is = cc

module _ (code : Tac) (m n : Memory) (f g : TacFrame) (to : Option ℕ) (a : Action) (from : List ℕ) where
  abbrev outcome : Effect
  outcome = perform code.structs a (destination_type code f to) (operand_values f from) m

  pub goes_on : (r : Result Did AllocError) → op_in (instr_of code f) ≡ Some (Do to a from)
      → ((place : ℕ) → stand_before_op code f (Do to a from) place ≡ Elsewhere)
      → ((out : List ℕ) → FrameActs r m n f g out out (effected (frame_after_instr f to) 0 outcome))
      → FrameContinues (has_moved r) (tac_stand code f) (tac_act code m f) m n f g
  goes_on (Ok did.Moves) next elsewhere acts = (
    stands_by code f (Do to a from) (instr_of code f) next ∙ elsewhere (place_in (instr_of code f)),
    done_by code f (Do to a from) m (instr_of code f) next
        ∙ moves_anywhere (frame_after_instr f to) 0 (place_in (instr_of code f)) outcome n g (acts []).0,
  )
  goes_on (Ok (did.Returns value)) next elsewhere acts = let x = acts [] in (x.1, x.2)
  goes_on (Ok did.Prints) next elsewhere acts =
      let x = acts [] in absurd (never_prints (frame_after_instr f to) 0 outcome g x.0 x.1)
  goes_on (Ok (did.Traps trap at)) next elsewhere acts = let x = acts [] in (x.1, x.2)
  goes_on (Err e) next elsewhere acts = let x = acts [] in (x.0, x.1)
