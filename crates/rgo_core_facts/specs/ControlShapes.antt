-- How many operands each action has in checked code, and whether it has a value. Types determine both, so they hold for every checked
-- instruction.
use Rattle.std.specs.Prelude.{◌≡◌, ◌≢◌, ℕ, Bool, true, false, List, length, Option, is_some, ⊤}
use Rattle.rgo_sound.specs.Ast.declared.ops.BinaryOp.TheVariants as binary
use Rattle.rgo_sound.specs.Ast.declared.ops.BinaryOp.{BinaryOp}
use Rattle.rgo_sound.specs.Code.Code.{Branch, Call, CodeOp, Do, Go, Jump, Print, Return}
use Rattle.rgo_sound.specs.Typed.declared.actions.Action.TheVariants as action
use Rattle.rgo_sound.specs.Typed.declared.actions.Action.{Action}
use Rattle.rgo_core_facts.specs.ControlCode.{OfInstructions}

abbrev pub action_arity : Action → ℕ
action_arity (action.Int k) = 0
action_arity (action.Bool b) = 0
action_arity action.Nil = 0
action_arity action.Copy = 1
action_arity (action.Binary op) = 2
action_arity action.Neg = 1
action_arity action.Not = 1
action_arity action.IsNil = 1
action_arity action.Len = 1
action_arity (action.Load k) = 1
action_arity (action.Store k) = 2
action_arity action.At = 2
action_arity action.Put = 3
action_arity (action.New n) = 0
action_arity action.Slice = 1
action_arity action.Chan = 1
action_arity action.Recv = 1
action_arity action.Send = 2
action_arity action.Close = 1
action_arity (action.Get n) = 0
action_arity (action.Set n) = 1

abbrev pub gives_value : Action → Bool
gives_value (action.Store k) = false
gives_value action.Put = false
gives_value action.Send = false
gives_value action.Close = false
gives_value (action.Set n) = false
gives_value (action.Int k) = true
gives_value (action.Bool b) = true
gives_value action.Nil = true
gives_value action.Copy = true
gives_value (action.Binary op) = true
gives_value action.Neg = true
gives_value action.Not = true
gives_value action.IsNil = true
gives_value action.Len = true
gives_value (action.Load k) = true
gives_value action.At = true
gives_value (action.New n) = true
gives_value action.Slice = true
gives_value action.Chan = true
gives_value action.Recv = true
gives_value (action.Get n) = true

-- It has that many operands, and a variable for its value exactly if it has one. `&&` and `||` are not actions: lowering makes branches of
-- them.
pub record IsShaped (to : Option ℕ) (act : Action) (from : List ℕ) : Type 0 where
  pub operands : length from ≡ action_arity act
  pub target : is_some to ≡ gives_value act
  pub operator : (op : BinaryOp) → act ≡ action.Binary op → (op ≢ binary.And) × (op ≢ binary.Or)

abbrev pub HasShape : CodeOp → Type 0
HasShape (Do to action from removes) = IsShaped to action from
HasShape (Call to n from passes protects removes) = ⊤
HasShape (Go n from passes removes) = ⊤
HasShape (Print pieces from removes) = ⊤
HasShape (Jump target removes) = ⊤
HasShape (Branch test target removes other otherwise) = ⊤
HasShape (Return value) = ⊤

abbrev pub ActionsShaped : Type 0
ActionsShaped = OfInstructions (λ code fn i op. HasShape op)
