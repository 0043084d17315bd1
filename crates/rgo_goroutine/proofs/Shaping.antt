-- What the code says of the next instruction, by its kind.
use Rattle.std.proofs.Common.{◌≡◌, ◌≢◌, ◌∙◌, ℕ, Bool, true, false, List, Option, ap, refl, subst}
use Rattle.std.specs.Prelude.{is_some}
use Rattle.rgo_sound.specs.Ast.declared.ops.BinaryOp.{BinaryOp}
use Rattle.rgo_sound.specs.Ast.declared.ops.BinaryOp.TheVariants as binary
use Rattle.rgo_acts.specs.Compact.Simple.{operator_count}
use Rattle.rgo_acts.specs.Facts.ControlShapes.{HasShape, IsShaped}
use Rattle.rgo_acts.proofs.Facts.ControlShapes.{actions_shaped}
use Rattle.rgo_sound.specs.Code.Code.{Code}
use Rattle.rgo_sound.specs.RegionMachine.Owed.{code_function}
use Rattle.rgo_sound.specs.Tac.Code as tac
use Rattle.rgo_sound.specs.Tac.Code.{Op}
use Rattle.rgo_sound.specs.Tac.Ops.{operation_of}
use Rattle.rgo_sound.specs.Typed.declared.actions.Action.{Action}
use Rattle.rgo_acts.specs.Body.Bodies.{frames_of_body}
use Rattle.rgo_acts.specs.Body.Nexts.{IsNextOf}
use Rattle.rgo_acts.specs.Body.Programs.{CompactProgram}
use Rattle.rgo_acts.specs.Body.declared.bodies.Body.{Body}
use Rattle.rgo_acts.specs.Body.declared.bodies.Side.TheVariants.{AtRest}
use Rattle.rgo_acts.specs.Body.declared.nexts.Next.{Next}
use Rattle.rgo_acts.specs.Actors.{IsActorOf}
use Rattle.rgo_acts.specs.Resting.{IsAtTalk, IsTalk}
use Rattle.rgo_acts.specs.Runs.{Run}
use Rattle.rgo_acts.specs.declared.actors.Actor.{Actor}
use Rattle.rgo_acts.proofs.before.Instructions.{do_of}
use Rattle.rgo_acts.proofs.before.Resting.{talks_as}
use Rattle.rgo_goroutine.specs.Instructions.{IsElsewhere}

-- an action of the code has as many operands as it takes, and a variable for its value exactly if it has one
pub shaped : (r : Run) (a : Actor) (next : Next) → IsActorOf r a → IsNextOf r.program.code (frames_of_body a.body) next
    → (to : Option ℕ) (act : Action) (from : List ℕ) → operation_of next.op ≡ tac.Do to act from → IsShaped to act from
shaped r a next s n to act from is =
    let d = do_of n.instr.op to act from (n.op ∙ is) in
    subst HasShape d.1
    (actions_shaped r.setup.code n.w.function next.at next.function n.instr s.possible.core.sound.checked
    (ap (λ (code : Code). code_function code n.w.function) s.shows.code ∙ n.in_fn) n.is_instr)

-- ---- actions that compute a word from words

-- an operator of the code has two operands
pub strict : (op : BinaryOp) → (op ≢ binary.And) × (op ≢ binary.Or) → is_some (operator_count op) ≡ true
strict binary.And other = absurd (other.0 refl)
strict binary.Or other = absurd (other.1 refl)
strict binary.Eq other = refl
strict binary.Ne other = refl
strict binary.Lt other = refl
strict binary.Le other = refl
strict binary.Gt other = refl
strict binary.Ge other = refl
strict binary.Add other = refl
strict binary.Sub other = refl
strict binary.Mul other = refl
strict binary.Div other = refl
strict binary.Rem other = refl

-- ---- an instruction other than an operation on a channel

not_both : (op : Op) → IsElsewhere op → IsTalk op → ⊥
not_both op elsewhere talk = subst IsElsewhere talk.4 elsewhere talk.3

-- before it the goroutine knows of no channel
pub rests_at : (p : CompactProgram) (b : Body) (next : Next) → IsNextOf p.code (frames_of_body b) next → IsElsewhere (operation_of next.op)
    → (again : Bool) → (again ≡ true → IsAtTalk p b) → (again ≡ false → b.side ≡ AtRest) → b.side ≡ AtRest
rests_at p b next n elsewhere true there rests =
    absurd (not_both (operation_of next.op) elsewhere (talks_as p b next n (there refl)))
rests_at p b next n elsewhere false there rests = rests refl
