-- What instructions read and write, and where they lead.
use Rattle.std.specs.Prelude.{ℕ, ◌+◌, List, [], ◌∷◌, Option, None, option_to_list}
use Rattle.rgo_tac.specs.declared.flow.ReadVariables.{ReadVariables}
use Rattle.rgo_tac.specs.declared.flow.ReadVariables.TheVariants.{Few, Many}
use Rattle.rgo_tac.specs.declared.flow.Targets.{Targets}
use Rattle.rgo_tac.specs.declared.flow.Targets.TheVariants.{Nowhere, One, Either}
use Rattle.rgo_tac.specs.Code.{Op, Do, Call, Go, Print, Jump, Branch, Return}
use Rattle.rgo_tac.specs.Ops.{numbers_of}

-- The variables that it reads, in order: those of a call are the arguments, by the number of the parameter.
abbrev pub reads : Op → List ℕ
reads (Do to action from) = from
reads (Call to function from) = from
reads (Go function from) = from
reads (Print pieces from) = from
reads (Jump target) = []
reads (Branch test target other) = test ∷ []
reads (Return value) = option_to_list value

-- the variable that it writes
abbrev pub writes : Op → Option ℕ
writes (Do to action from) = to
writes (Call to function from) = to
writes (Go function from) = None
writes (Print pieces from) = None
writes (Jump target) = None
writes (Branch test target other) = None
writes (Return value) = None

-- The instructions of the function that may be next after the one of this number: a call leads to the one after it, where the frame
-- continues when the callee has returned.
abbrev pub leads_to : Op → (at : ℕ) → List ℕ
leads_to (Jump target) at = target ∷ []
leads_to (Branch test target other) at = target ∷ other ∷ []
leads_to (Return value) at = []
leads_to (Do to action from) at = (at + 1) ∷ []
leads_to (Call to function from) at = (at + 1) ∷ []
leads_to (Go function from) at = (at + 1) ∷ []
leads_to (Print pieces from) at = (at + 1) ∷ []

-- ---- what the code's results are

abbrev pub variables_of : ReadVariables → List ℕ
variables_of (Few variables) = numbers_of variables
variables_of (Many variables) = variables.now

abbrev pub targets_of : Targets → List ℕ
targets_of Nowhere = []
targets_of (One target) = target ∷ []
targets_of (Either target other) = target ∷ other ∷ []
