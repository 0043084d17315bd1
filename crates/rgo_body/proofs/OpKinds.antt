-- What an instruction of the code is, by what it does without regions: erasure keeps the kind of an operation, so the test of a decoded
-- instruction is one of the code's.
use Rattle.std.proofs.Common.{◌≡◌, ℕ, List, Option}
use Rattle.rgo_sound.specs.Code.Code.{Branch, Call, CodeOp, Do, Go, Jump, Print, Return}
use Rattle.rgo_sound.specs.Code.Erasure.{erased_op}
use Rattle.rgo_sound.specs.Code.Lists.{otherwise_of, passes_of, protects_of, removes_of}
use Rattle.rgo_sound.specs.Tac.Code as tac

pub jump_of : (op : CodeOp) (target : ℕ) → erased_op op ≡ tac.Jump target → op ≡ Jump target (removes_of op)
jump_of (Jump t removes) target e = cc
jump_of (Do to action from removes) target e = cc
jump_of (Call to m from passes protects removes) target e = cc
jump_of (Go m from passes removes) target e = cc
jump_of (Print pieces from removes) target e = cc
jump_of (Branch test t removes other otherwise) target e = cc
jump_of (Return value) target e = cc

pub branch_of : (op : CodeOp) (test target other : ℕ) → erased_op op ≡ tac.Branch test target other
    → op ≡ Branch test target (removes_of op) other (otherwise_of op)
branch_of (Branch v t removes o otherwise) test target other e = cc
branch_of (Do to action from removes) test target other e = cc
branch_of (Call to m from passes protects removes) test target other e = cc
branch_of (Go m from passes removes) test target other e = cc
branch_of (Print pieces from removes) test target other e = cc
branch_of (Jump t removes) test target other e = cc
branch_of (Return value) test target other e = cc

pub call_of : (op : CodeOp) (to : Option ℕ) (n : ℕ) (from : List ℕ) → erased_op op ≡ tac.Call to n from
    → op ≡ Call to n from (passes_of op) (protects_of op) (removes_of op)
call_of (Call t m args passes protects removes) to n from e = cc
call_of (Do t action args removes) to n from e = cc
call_of (Go m args passes removes) to n from e = cc
call_of (Print pieces args removes) to n from e = cc
call_of (Jump t removes) to n from e = cc
call_of (Branch test t removes other otherwise) to n from e = cc
call_of (Return value) to n from e = cc

pub return_of : (op : CodeOp) (value : Option ℕ) → erased_op op ≡ tac.Return value → op ≡ Return value
return_of (Return v) value e = cc
return_of (Do to action from removes) value e = cc
return_of (Call to m from passes protects removes) value e = cc
return_of (Go m from passes removes) value e = cc
return_of (Print pieces from removes) value e = cc
return_of (Jump target removes) value e = cc
return_of (Branch test target removes other otherwise) value e = cc

pub go_of : (op : CodeOp) (f : ℕ) (from : List ℕ) → erased_op op ≡ tac.Go f from → op ≡ Go f from (passes_of op) (removes_of op)
go_of (Go m args passes removes) f from e = cc
go_of (Do to action args removes) f from e = cc
go_of (Call to m args passes protects removes) f from e = cc
go_of (Print pieces args removes) f from e = cc
go_of (Jump target removes) f from e = cc
go_of (Branch test target removes other otherwise) f from e = cc
go_of (Return value) f from e = cc
