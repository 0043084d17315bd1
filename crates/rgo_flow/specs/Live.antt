-- Liveness: a variable is live at an instruction if some path from there reaches a reading of it without a writing
-- before.
use Rattle.std.specs.Prelude.{◌≡◌, ℕ, zero, suc, List, [], Option, Some, None, Contains, slice_get}
use Rattle.rgo_tac.specs.Code.{Instr, TacFn}
use Rattle.rgo_tac.specs.Flow.{reads, writes, leads_to}

-- The variables that an instruction reads. `None`, here and below, is for a number that no instruction has: it reads and writes nothing
-- and leads nowhere.
abbrev pub read_by : Option Instr → List ℕ
read_by None = []
read_by (Some i) = reads i.op

-- the variable that it writes, if there is one
abbrev pub written_by : Option Instr → Option ℕ
written_by None = None
written_by (Some i) = writes i.op

-- the instructions that may be next after it, if its number is `at`
abbrev pub led_to_by : (at : ℕ) → Option Instr → List ℕ
led_to_by at None = []
led_to_by at (Some i) = leads_to i.op at

module _ (f : TacFn) where
  -- instruction `at` of f reads v
  abbrev pub ReadsVariable : (at variable : ℕ) → Type 0
  ReadsVariable at v = Contains (read_by (slice_get f.body at)) v

  -- instruction `at` of f writes v
  abbrev pub WritesVariable : (at variable : ℕ) → Type 0
  WritesVariable at v = written_by (slice_get f.body at) ≡ Some v

  -- Instruction `next` may come right after `at`. Both ways of a branch count: its test is not evaluated.
  abbrev pub IsSuccessor : (at next : ℕ) → Type 0
  IsSuccessor at next = Contains (led_to_by at (slice_get f.body at)) next

  -- A path of n steps leads to an instruction that reads the variable, and none before it writes the variable. That instruction may
  -- write it, too: it reads first.
  abbrev pub IsReadAfter : (steps : ℕ) → (variable at : ℕ) → Type 0
  IsReadAfter zero v at = ReadsVariable at v
  IsReadAfter (suc n) v at = (WritesVariable at v → ⊥) × (next : ℕ) × IsSuccessor at next × IsReadAfter n v next

  -- v is live just before instruction `at`. Zero steps count as well: at an instruction that reads v, v is live even if that also
  -- writes it.
  abbrev pub Live : (variable at : ℕ) → Type 0
  Live v at = (steps : ℕ) × IsReadAfter steps v at
