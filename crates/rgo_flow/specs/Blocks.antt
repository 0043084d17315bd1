-- Basic blocks: runs of instructions that are entered at the first only and left at the last only.
use Rattle.std.specs.Prelude.{◌≡◌, ◌<◌, ◌≤◌, ◌+◌, ◌↔◌, ℕ, Bool, true, false, List, [], ◌∷◌, length, slice_index, slice_index_or}
use Rattle.rgo_graphs.specs.Rows.{Relates, row_at}

-- instruction i leads to i + 1 only, and only i leads to i + 1
pub record Joined (successors before : List (List ℕ)) (i : ℕ) : Type 0 where
  pub inside : i + 1 < length successors
  pub on : row_at successors i ≡ (i + 1) ∷ []
  pub from : row_at before (i + 1) ≡ i ∷ []

abbrev pub AreJoined : List (List ℕ) → List (List ℕ) → List Bool → Type 0
AreJoined successors before joins = (i : ℕ) → slice_index_or joins i false ≡ true → Joined successors before i

-- the last instruction of each instruction's block
pub record Lasts (joins : List Bool) (last : List ℕ) : Type 0 where
  pub size : length last ≡ length joins
  pub same : (i : ℕ) → i + 1 < length joins → slice_index_or joins i false ≡ true
      → slice_index last i ≡ slice_index last (i + 1)
  pub end : (i : ℕ) → i < length joins → slice_index_or joins i false ≡ false → slice_index last i ≡ i

-- the first instruction of each instruction's block
pub record Firsts (joins : List Bool) (first : List ℕ) : Type 0 where
  pub size : length first ≡ length joins
  pub start : 0 < length joins → slice_index first 0 ≡ 0
  pub same : (i : ℕ) → i + 1 < length joins → slice_index_or joins i false ≡ true
      → slice_index first (i + 1) ≡ slice_index first i
  pub new : (i : ℕ) → i + 1 < length joins → slice_index_or joins i false ≡ false
      → slice_index first (i + 1) ≡ i + 1

-- what holds of the first and the last instruction of each instruction's block
pub record Blocks (successors : List (List ℕ)) (first last : List ℕ) : Type 0 where
  pub firsts : length first ≡ length successors
  pub lasts : length last ≡ length successors
  pub targets : (i j : ℕ) → Relates successors i j → j < length successors
  pub ahead : (i : ℕ) → i < length successors → i ≤ slice_index last i
  pub inside : (i : ℕ) → i < length successors → slice_index last i < length successors
  pub next : (i : ℕ) → i < length successors → i < slice_index last i
      → (row_at successors i ≡ (i + 1) ∷ []) × (slice_index last (i + 1) ≡ slice_index last i)
  pub back : (i : ℕ) → i < length successors → slice_index first i ≤ i
  pub same : (i : ℕ) → i < length successors → slice_index last (slice_index first i) ≡ slice_index last i
  pub head : (i : ℕ) → i < length successors → slice_index first (slice_index first i) ≡ slice_index first i
  pub whole : (i k : ℕ) → i < length successors → slice_index first i ≡ i → i ≤ k → k ≤ slice_index last i
      → slice_index first k ≡ i
  pub entered : (i j : ℕ) → i < length successors → Relates successors (slice_index last i) j
      → slice_index first j ≡ j

-- the same, of the first and the last instructions alone
pub record Runs (first last : List ℕ) : Type 0 where
  pub ahead : (i : ℕ) → i < length first → i ≤ slice_index last i
  pub inside : (i : ℕ) → i < length first → slice_index last i < length first
  pub back : (i : ℕ) → i < length first → slice_index first i ≤ i
  pub same : (i : ℕ) → i < length first → slice_index last (slice_index first i) ≡ slice_index last i
  pub head : (i : ℕ) → i < length first → slice_index first (slice_index first i) ≡ slice_index first i
  pub whole : (i k : ℕ) → i < length first → slice_index first i ≡ i → i ≤ k → k ≤ slice_index last i
      → slice_index first k ≡ i

-- i is the first instruction of a block
abbrev pub IsHead : List ℕ → ℕ → Type 0
IsHead first i = (i < length first) × (slice_index first i ≡ i)

-- the row of a block's first instruction has the first instructions of the blocks that may be next
abbrev pub AreExits : List (List ℕ) → List ℕ → List ℕ → List (List ℕ) → Type 0
AreExits successors first last exits =
    (s j : ℕ) → Relates exits s j ↔ (IsHead first s × Relates successors (slice_index last s) j)
