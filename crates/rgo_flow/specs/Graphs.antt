-- The instructions of a function as rows of numbers, and liveness in terms of these rows.
use Rattle.std.specs.Prelude.{◌≡◌, ◌⊎◌, ◌↔◌, ◌<◌, ◌+◌, ◌^◌, ℕ, zero, suc, List, Contains, length, vec_len}
use Rattle.rgo_graphs.specs.Rows.{Relates, rows_of}
use Rattle.rgo_tac.specs.Code.{TacFn}
use Rattle.rgo_flow.specs.declared.graphs.Graph.{Graph}
use Rattle.rgo_flow.specs.Live.{ReadsVariable, WritesVariable, IsSuccessor}

-- a path of n steps leads from i to a reading of v, with no writing of v before it
abbrev pub IsReadIn : (successors reads writes : List (List ℕ)) → ℕ → ℕ → ℕ → Type 0
IsReadIn successors reads writes v i zero = Relates reads i v
IsReadIn successors reads writes v i (suc n) =
    (j : ℕ) × (Relates writes i v → ⊥) × Relates successors i j × IsReadIn successors reads writes v j n

abbrev pub LiveAt : (successors reads writes : List (List ℕ)) → ℕ → ℕ → Type 0
LiveAt successors reads writes v i = (n : ℕ) × IsReadIn successors reads writes v i n

-- variable v is live at instruction i
abbrev pub IsLiveIn : Graph → ℕ → ℕ → Type 0
IsLiveIn g v i = LiveAt (rows_of g.successors.items) (rows_of g.reads.items) (rows_of g.writes.items) v i

-- every instruction has its rows, and these name instructions and variables that exist
pub record IsGraph (g : Graph) : Type 0 where
  pub few : vec_len g.successors + 1 < 2 ^ 32
  pub reads : vec_len g.reads ≡ vec_len g.successors
  pub writes : vec_len g.writes ≡ vec_len g.successors
  pub targets : (i j : ℕ) → Relates (rows_of g.successors.items) i j → j < vec_len g.successors
  pub read : (i v : ℕ) → Relates (rows_of g.reads.items) i v → v < g.variables
  pub written : (i v : ℕ) → Relates (rows_of g.writes.items) i v → v < g.variables

-- new has what old has, and the target if it is below count; past the last instruction nothing is read, so that target is not needed
abbrev pub AddsTarget : (old new : List ℕ) → (target count : ℕ) → Type 0
AddsTarget old new target count = (j : ℕ) → Contains new j ↔ (Contains old j ⊎ ((j ≡ target) × (j < count)))

-- the row has those of the targets that are below count
abbrev pub HasTargets : (row targets : List ℕ) → (count : ℕ) → Type 0
HasTargets row targets count = (j : ℕ) → Contains row j ↔ (Contains targets j × (j < count))

-- where the instruction leads, if that is an instruction
abbrev pub LeadsInside : TacFn → ℕ → ℕ → Type 0
LeadsInside f i j = IsSuccessor f i j × (j < length f.body)

-- the rows of each instruction of a function
pub record IsGraphOf (f : TacFn) (g : Graph) : Type 0 where
  pub graph : IsGraph g
  pub leads : (i j : ℕ) → Relates (rows_of g.successors.items) i j ↔ LeadsInside f i j
  pub reads : (i v : ℕ) → Relates (rows_of g.reads.items) i v ↔ ReadsVariable f i v
  pub writes : (i v : ℕ) → Relates (rows_of g.writes.items) i v ↔ WritesVariable f i v
