-- Calls of a function, and the caller's members that are passed for those of the callee which callers see.
use Rattle.std.specs.Prelude.{ℕ, zero, suc, List, Option, Some, None, slice_get}
use Rattle.std.specs.Option.{option_map}
use Rattle.rgo_tac.specs.declared.regions.Member.{Member}
use Rattle.rgo_tac.specs.declared.regions.Member.TheVariants.{Variable, Result, Global}
use Rattle.rgo_tac.specs.Code.{Op, Call, Go, Instr, TacFn, Tac, Do, Print, Jump, Branch, Return}

-- the member of this number
abbrev pub member : ℕ → Member
member zero = Global
member (suc zero) = Result
member (suc (suc v)) = Variable v

-- a call: the variable for the result, the function and the arguments; the start of a goroutine has no result
pub record CallParts : Type 0 where
  pub to : Option ℕ
  pub function : ℕ
  pub from : List ℕ

-- the call that an instruction makes, or the goroutine that it starts
abbrev pub call_of_op : Op → Option CallParts
call_of_op (Call to n from) = Some (record { to = to; function = n; from = from })
call_of_op (Go n from) = Some (record { to = None; function = n; from = from })
call_of_op (Do to action from) = None
call_of_op (Print pieces from) = None
call_of_op (Jump target) = None
call_of_op (Branch test target other) = None
call_of_op (Return value) = None

-- the same for an instruction, if it exists
abbrev pub call_in : Option Instr → Option CallParts
call_in None = None
call_in (Some instr) = call_of_op instr.op

-- a call with the function that it calls
abbrev pub call_with_callee : Tac → Option CallParts → Option (CallParts × TacFn)
call_with_callee code None = None
call_with_callee code (Some call) = option_map (λ callee. (call, callee)) (slice_get code.functions call.function)

-- the call of this instruction, and the function that is called
abbrev pub call_and_callee_at : Tac → TacFn → (at : ℕ) → Option (CallParts × TacFn)
call_and_callee_at code f at = call_with_callee code (call_in (slice_get f.body at))

-- the member of the caller that is passed for this member of the callee, or takes what it holds
abbrev pub passed_member : CallParts → ℕ → Option Member
passed_member call zero = Some Global
passed_member call (suc zero) = option_map Variable call.to
passed_member call (suc (suc i)) = option_map Variable (slice_get call.from i)
