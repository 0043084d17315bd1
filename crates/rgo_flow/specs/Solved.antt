-- The blocks at whose first instruction a variable is live.
use Rattle.std.specs.Prelude.{◌≡◌, ◌<◌, ◌+◌, ◌↔◌, ℕ, List, Contains, slice_index, ◌⊎◌, ◌^◌, length}
use Rattle.rgo_flow.specs.declared.uses.FirstUse.{FirstUse}
use Rattle.rgo_graphs.specs.Rows.{Relates, IsTransposed, AllAscending}
use Rattle.rgo_flow.specs.Uses.{IsFirstUse, IsRead, IsUnused}
use Rattle.rgo_flow.specs.Blocks.{Blocks, IsHead, AreExits}
use Rattle.rgo_flow.specs.Graphs.{LiveAt}

-- s is the first instruction of a block that has one of the points, and this is the first use in that block
pub record HeadUses (points : List ℕ) (wanted : FirstUse) (readers writers first last : List ℕ) (s : ℕ) : Type 0 where
  pub point : ℕ
  pub among : Contains points point
  pub head : slice_index first point ≡ s
  pub uses : IsFirstUse readers writers s (slice_index last s) wanted

abbrev pub AreHeads : (points : List ℕ) → FirstUse → (readers writers first last heads : List ℕ) → Type 0
AreHeads points wanted readers writers first last heads =
    (s : ℕ) → Contains heads s ↔ HeadUses points wanted readers writers first last s

-- the blocks of a function, and the edges between them in both directions
pub record BlockGraph (successors exits before : List (List ℕ)) (first last : List ℕ) : Type 0 where
  pub blocks : Blocks successors first last
  pub are_exits : AreExits successors first last exits
  pub transposed : IsTransposed exits before

-- these are the points of variable v
abbrev pub IsRow : List (List ℕ) → ℕ → List ℕ → Type 0
IsRow rows v points = (i : ℕ) → Contains points i ↔ Relates rows i v

-- the blocks into which a variable that is read and written at these points is live
abbrev pub Solves : (before : List (List ℕ)) → (first last readers writers solved : List ℕ) → Type 0
Solves before first last readers writers solved =
    (successors exits reads writes : List (List ℕ)) (v : ℕ) → BlockGraph successors exits before first last
    → IsRow reads v readers → IsRow writes v writers
    → (s : ℕ) → Contains solved s ↔ (IsHead first s × LiveAt successors reads writes v s)

-- a variable is unused from i to the end of its block, and live into a block that may be next
pub record PassesInto (exits : List (List ℕ)) (first last : ℕ) (readers writers solved : List ℕ) (i : ℕ) : Type 0 where
  pub passed : IsUnused readers writers i last
  pub into : ℕ
  pub exit : Relates exits first into
  pub live : Contains solved into

-- from instruction i of the block from first through last a variable is read, or it is live into a block that may be
-- next
abbrev pub IsLiveFrom : (exits : List (List ℕ)) → (first last : ℕ) → (readers writers solved : List ℕ) → ℕ → Type 0
IsLiveFrom exits first last readers writers solved i =
    IsRead readers writers i last ⊎ PassesInto exits first last readers writers solved i

-- the invariant of the tables
pub record IsTable (first last : List ℕ) (exits readers writers solved : List (List ℕ)) : Type 0 where
  pub lasts : length last ≡ length first
  pub exits_long : length exits ≡ length first
  pub firsts_in : (i : ℕ) → i < length first → slice_index first i < length first
  pub lasts_in : (i : ℕ) → i < length first → slice_index last i + 1 < 2 ^ 32
  pub exits_in : (i j : ℕ) → Relates exits i j → j + 1 < 2 ^ 32
  pub written : length writers ≡ length readers
  pub solved_long : length solved ≡ length readers
  pub readers_up : AllAscending readers
  pub writers_up : AllAscending writers
  pub solved_up : AllAscending solved
