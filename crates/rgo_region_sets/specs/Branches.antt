-- The branches of a function.
use Rattle.std.specs.Prelude.{◌≡◌, ◌<◌, ℕ, List, Option, Some, None, length, slice_get}
use Rattle.std.specs.List.Sorted.{IsStrictlyIncreasing}
use Rattle.rgo_tac.specs.Code.{Op, TacFn, Branch, Do, Call, Go, Print, Jump, Return}
use Rattle.rgo_tac.specs.Ops.{op_in}

-- where a branch leads, if its variable is true and if it is false
abbrev pub ways_of : Op → Option (ℕ × ℕ)
ways_of (Branch test target other) = Some (target, other)
ways_of (Do to action from) = None
ways_of (Call to n from) = None
ways_of (Go n from) = None
ways_of (Print pieces from) = None
ways_of (Jump target) = None
ways_of (Return value) = None

abbrev pub ways_in : Option Op → Option (ℕ × ℕ)
ways_in None = None
ways_in (Some op) = ways_of op

abbrev pub branch_at : TacFn → ℕ → Option (ℕ × ℕ)
branch_at f at = ways_in (op_in (slice_get f.body at))

-- branch b of a table of the branches and of where they lead
pub record IsListed (points targets others : List ℕ) (b at : ℕ) (ways : ℕ × ℕ) : Type 0 where
  pub point : slice_get points b ≡ Some at
  pub target : slice_get targets b ≡ Some ways.0
  pub other : slice_get others b ≡ Some ways.1

-- the table has the branches among the first instructions
pub record AreBranches (f : TacFn) (points targets others : List ℕ) (count : ℕ) : Type 0 where
  pub target_len : length targets ≡ length points
  pub other_len : length others ≡ length points
  pub rising : IsStrictlyIncreasing points
  pub below : (b at : ℕ) → slice_get points b ≡ Some at → at < count
  pub listed : (at : ℕ) (ways : ℕ × ℕ) → at < count → branch_at f at ≡ Some ways
      → (b : ℕ) × IsListed points targets others b at ways
