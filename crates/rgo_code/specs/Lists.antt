-- What the code's instructions say of regions; nothing for a number that no instruction has.
use Rattle.std.specs.Prelude.{ℕ, List, [], Option, Some, None}
use Rattle.rgo_tac.specs.declared.regions.Class.{Class}
use Rattle.rgo_code.specs.Code.{CodeOp, CodeInstr, Do, Call, Go, Print, Jump, Branch, Return}

abbrev pub creates_in : Option CodeInstr → List ℕ
creates_in None = []
creates_in (Some i) = i.creates

-- what a call or a start passes
abbrev pub passes_of : CodeOp → List Class
passes_of (Call to n from passes protects removes) = passes
passes_of (Go n from passes removes) = passes
passes_of (Do to action from removes) = []
passes_of (Print pieces from removes) = []
passes_of (Jump target removes) = []
passes_of (Branch test target removes other otherwise) = []
passes_of (Return value) = []

-- what a call protects
abbrev pub protects_of : CodeOp → List ℕ
protects_of (Call to n from passes protects removes) = protects
protects_of (Do to action from removes) = []
protects_of (Go n from passes removes) = []
protects_of (Print pieces from removes) = []
protects_of (Jump target removes) = []
protects_of (Branch test target removes other otherwise) = []
protects_of (Return value) = []

-- what is removed after an instruction, and on the other way of a branch
abbrev pub removes_of : CodeOp → List ℕ
removes_of (Do to action from removes) = removes
removes_of (Call to n from passes protects removes) = removes
removes_of (Go n from passes removes) = removes
removes_of (Print pieces from removes) = removes
removes_of (Jump target removes) = removes
removes_of (Branch test target removes other otherwise) = removes
removes_of (Return value) = []

abbrev pub otherwise_of : CodeOp → List ℕ
otherwise_of (Branch test target removes other otherwise) = otherwise
otherwise_of (Do to action from removes) = []
otherwise_of (Call to n from passes protects removes) = []
otherwise_of (Go n from passes removes) = []
otherwise_of (Print pieces from removes) = []
otherwise_of (Jump target removes) = []
otherwise_of (Return value) = []

abbrev pub passes_in : Option CodeInstr → List Class
passes_in None = []
passes_in (Some i) = passes_of i.op

abbrev pub protects_in : Option CodeInstr → List ℕ
protects_in None = []
protects_in (Some i) = protects_of i.op

abbrev pub removes_in : Option CodeInstr → List ℕ
removes_in None = []
removes_in (Some i) = removes_of i.op

abbrev pub otherwise_in : Option CodeInstr → List ℕ
otherwise_in None = []
otherwise_in (Some i) = otherwise_of i.op
