-- The second rule, on three-address code: the variables of each instruction have the types that it needs. What an action
-- takes and returns is as in typed trees.
use Rattle.std.specs.Prelude.{◌≡◌, ℕ, List, [], ◌∷◌, map, Option, Some, None, Contains, slice_get, ⊤}
use Rattle.rgo_typed.specs.declared.actions.Action.{Action}
use Rattle.rgo_typed.specs.declared.actions.Action.TheVariants as action
use Rattle.rgo_typed.specs.declared.types.Type.{«Type»}
use Rattle.rgo_wellformed.specs.TypeRules.{Returns, Takes, bool}
use Rattle.rgo_wellformed.specs.WellFormed.{IsPrinted}
use Rattle.rgo_tac.specs.Code.{Op, TacFn, Tac, Do, Call, Go, Print, Jump, Branch, Return}
use Rattle.rgo_code.specs.Exists.{tac_signature, declared_in_code}

-- f has a variable v, and it has this type
abbrev pub VariableHasType : TacFn → ℕ → «Type» → Type 0
VariableHasType f v ty = slice_get f.variables v ≡ Some ty

-- f has all these variables, and they have these types, one for one in order
abbrev pub VariablesHaveTypes : TacFn → List ℕ → List «Type» → Type 0
VariablesHaveTypes f vs tys = map (slice_get f.variables) vs ≡ map Some tys

-- an action on operands of these types returns a value of type t; `Copy` is the only one that typed trees do not
-- contain
abbrev pub ReturnsType : Tac → Action → (operands : List «Type») → (t : «Type») → Type 0
ReturnsType code action.Copy operands t = operands ≡ t ∷ []
ReturnsType code action operands t = Returns (declared_in_code code) action operands t

-- With a target, the action on operands of these types returns a value of the target's type. Without one, it is an action without a
-- value that takes operands of these types.
abbrev pub DoFits : Tac → TacFn → (to : Option ℕ) → Action → (operands : List «Type») → Type 0
DoFits code f None action operands = Takes (declared_in_code code) action operands
DoFits code f (Some d) action operands = (t : «Type») × VariableHasType f d t × ReturnsType code action operands t

-- the arguments have the types of the callee's parameters, one for one; that the callee exists is a matter of the first rule
abbrev pub ArgumentsFit : TacFn → Option TacFn → List ℕ → Type 0
ArgumentsFit f None from = ⊤
ArgumentsFit f (Some callee) from = VariablesHaveTypes f from (tac_signature callee).params

-- the target has the type of the result; that there is one or none is a matter of the first rule
abbrev pub TargetFits : TacFn → Option TacFn → Option ℕ → Type 0
TargetFits f (Some callee) (Some d) = (t : «Type») → callee.result_type ≡ Some t → VariableHasType f d t
TargetFits f callee to = ⊤

-- rule 2 at an operation: operands and target of an action or a call, arguments of a `go`, printed variables, the bool that a branch
-- tests, and a returned value exactly where f has a result, and of its type
abbrev pub IsWellTypedOp : Tac → TacFn → Op → Type 0
IsWellTypedOp code f (Do to action from) =
    (operands : List «Type») × VariablesHaveTypes f from operands × DoFits code f to action operands
IsWellTypedOp code f (Call to n from) =
    ArgumentsFit f (slice_get code.functions n) from × TargetFits f (slice_get code.functions n) to
IsWellTypedOp code f (Go n from) = ArgumentsFit f (slice_get code.functions n) from
IsWellTypedOp code f (Print pieces from) = (v : ℕ) → Contains from v → (t : «Type») × VariableHasType f v t × IsPrinted t
IsWellTypedOp code f (Jump target) = ⊤
IsWellTypedOp code f (Branch test target other) = VariableHasType f test bool
IsWellTypedOp code f (Return None) = f.result_type ≡ None
IsWellTypedOp code f (Return (Some v)) = (t : «Type») × (f.result_type ≡ Some t) × VariableHasType f v t
