-- What the tables say of the live names of a function.
use Rattle.std.specs.Prelude.{◌≡◌, ◌⊎◌, ◌↔◌, ℕ, List, Some, None, Contains, slice_get}
use Rattle.rgo_graphs.specs.Rows.{Relates, rows_of}
use Rattle.rgo_flow.specs.Live.{IsSuccessor}
use Rattle.rgo_code.specs.Code.{CodeFn}
use Rattle.rgo_code.specs.Erasure.{erased_fn}
use Rattle.rgo_code.specs.Names.{IsLiveName}
use Rattle.rgo_region_sets.specs.declared.table.LiveNames.{LiveNames}
use Rattle.rgo_region_sets.specs.Branches.{branch_at}
use Rattle.rgo_region_sets.specs.Spans.{IsSpanned}

-- name k is live just before instruction `at`
abbrev pub IsLiveInTable : LiveNames → (k at : ℕ) → Type 0
IsLiveInTable live k at = IsSpanned live.spans.items k at

-- the row of the branch has the names that are live at one instruction and not at the other
abbrev pub HasDying : LiveNames → (rows : List (List ℕ)) → (b from to : ℕ) → Type 0
HasDying live rows b from to =
    (k : ℕ) → Relates rows b k ↔ (IsLiveInTable live k from × (IsLiveInTable live k to → ⊥))

-- branch b of the tables is this branch
pub record IsRecorded (live : LiveNames) (b at : ℕ) (ways : ℕ × ℕ) : Type 0 where
  pub point : slice_get live.points.items b ≡ Some at
  pub taken : HasDying live (rows_of live.taken.items) b at ways.0
  pub passed : HasDying live (rows_of live.passed.items) b at ways.1

-- the tables are those of the function
pub record AreLiveNames (live : LiveNames) (f : CodeFn) : Type 0 where
  pub names : (k at : ℕ) → IsLiveInTable live k at ↔ IsLiveName f k at
  pub branches : (at : ℕ) (ways : ℕ × ℕ) → branch_at (erased_fn f) at ≡ Some ways
      → (b : ℕ) × IsRecorded live b at ways

-- rows of the tables have what dies on the way from one instruction to another
pub record IsKnown (live : LiveNames) (rows : List (List ℕ)) (at next : ℕ) : Type 0 where
  pub branch : ℕ
  pub point : slice_get live.points.items branch ≡ Some at
  pub dying : HasDying live rows branch at next

-- the rows have it if the instruction is a branch; any other leads to `next` only
pub record IsWay (live : LiveNames) (f : CodeFn) (rows : List (List ℕ)) (at next : ℕ) : Type 0 where
  pub known : (ways : ℕ × ℕ) → branch_at (erased_fn f) at ≡ Some ways → IsKnown live rows at next
  pub only : branch_at (erased_fn f) at ≡ None → (j : ℕ) → IsSuccessor (erased_fn f) at j → j ≡ next

-- the new names are the old ones, and those that are live at one instruction and not at the other
abbrev pub AddsDying : LiveNames → (old new : List ℕ) → (at next : ℕ) → Type 0
AddsDying live old new at next =
    (k : ℕ) → Contains new k ↔ (Contains old k ⊎ (IsLiveInTable live k at × (IsLiveInTable live k next → ⊥)))
