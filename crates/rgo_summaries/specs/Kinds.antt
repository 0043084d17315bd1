-- The nodes of a function in order: its members, then those of its calls. The members that callers see come first, so a number alone
-- says whether callers see a node.
use Rattle.std.specs.Prelude.{ℕ, zero, suc, ◌+◌, min, List, [], ◌∷◌, ◌++◌, Option, Some, None, length}
use Rattle.rgo_tac.specs.Code.{TacFn, Tac}
use Rattle.rgo_summaries.specs.Calls.{CallParts, call_and_callee_at, member}
use Rattle.rgo_summaries.specs.Nodes.{NodeKind, Own, Callee}

-- callers see the members below it
abbrev pub width_of : TacFn → ℕ
width_of f = min f.params (length f.variables) + 2

-- nodes 0 to n - 1
abbrev pub numbered_nodes : (ℕ → NodeKind) → ℕ → List NodeKind
numbered_nodes make zero = []
numbered_nodes make (suc n) = numbered_nodes make n ++ make n ∷ []

-- the node of the member of this number
abbrev pub own_node : ℕ → NodeKind
own_node number = Own (member number)

-- the nodes of a call, one for each member of the callee that callers see
abbrev pub call_kinds : (at : ℕ) → Option (CallParts × TacFn) → List NodeKind
call_kinds at None = []
call_kinds at (Some c) = numbered_nodes (Callee at) (width_of c.1)

-- the nodes of its members, and of the calls before this instruction
abbrev pub kinds_to : Tac → TacFn → (at : ℕ) → List NodeKind
kinds_to code f zero = numbered_nodes own_node (length f.variables + 2)
kinds_to code f (suc at) = kinds_to code f at ++ call_kinds at (call_and_callee_at code f at)

-- all nodes of a function
abbrev pub kinds_of : Tac → TacFn → List NodeKind
kinds_of code f = kinds_to code f (length f.body)
