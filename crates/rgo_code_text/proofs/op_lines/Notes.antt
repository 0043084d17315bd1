-- What is created does not change what an instruction does.
use Rattle.std.proofs.Common.{◌≡◌, ℕ, List, refl}
use Rattle.rgo_tac.specs.Code.{Op, Do, Call, Go, Print, Jump, Branch, Return}
use Rattle.rgo_code.specs.declared.notes.Note.{Note}
use Rattle.rgo_code.specs.Views.{code_op}

pub note_creates : (op : Op) (n : Note) (names : List ℕ) → code_op op (record n { creates = names }) ≡ code_op op n
note_creates (Do to action from) n names = refl
note_creates (Call to function from) n names = refl
note_creates (Go function from) n names = refl
note_creates (Print pieces from) n names = refl
note_creates (Jump target) n names = refl
note_creates (Branch test target other) n names = refl
note_creates (Return value) n names = refl
