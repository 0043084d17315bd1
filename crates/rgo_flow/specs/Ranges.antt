-- Where a variable is live, as ranges of instructions with both ends.
use Rattle.std.specs.Prelude.{◌≡◌, ◌<◌, ◌≤◌, ◌+◌, ◌⊎◌, ◌↔◌, ℕ, List, Contains, slice_index}
use Rattle.rgo_flow.specs.declared.ranges.Range.{Range}

abbrev pub IsInside : ℕ → Range → Type 0
IsInside at r = (r.from ≤ at) × (at ≤ r.to)

-- one of the ranges has the instruction
pub record IsCovered (ranges : List Range) (at : ℕ) : Type 0 where
  pub range : Range
  pub among : Contains ranges range
  pub inside : IsInside at range

-- the new ranges have what the old ones have, and these
abbrev pub AddsPoints : List Range → List Range → (ℕ → Type 0) → Type 0
AddsPoints old new These = (at : ℕ) → IsCovered new at ↔ (IsCovered old at ⊎ These at)

-- no writer is at i or after it and before `end`
abbrev pub IsUnwritten : (writers : List ℕ) → (i end : ℕ) → Type 0
IsUnwritten writers i end = (m : ℕ) → i ≤ m → m < end → Contains writers m → ⊥

-- the least instruction from `first` on from which nothing is written before `end`
pub record IsStart (writers : List ℕ) (first end start : ℕ) : Type 0 where
  pub back : first ≤ start
  pub unwritten : IsUnwritten writers start end
  pub least : (start ≡ first) ⊎ ((w : ℕ) × Contains writers w × (start ≡ w + 1) × (w < end))

-- from `first` through `latest`, and nothing is written before `end`
pub record IsBetween (writers : List ℕ) (first end latest at : ℕ) : Type 0 where
  pub from : first ≤ at
  pub to : at ≤ latest
  pub unwritten : IsUnwritten writers at end

-- the value at this instruction is read by the reader, in the same block
abbrev pub IsKeptFor : (first writers : List ℕ) → (reader at : ℕ) → Type 0
IsKeptFor first writers reader at = IsBetween writers (slice_index first reader) reader reader at

-- the value at this instruction leaves the block that begins at `head`
abbrev pub IsKeptOut : (last writers : List ℕ) → (head at : ℕ) → Type 0
IsKeptOut last writers head at = IsBetween writers head (slice_index last head + 1) (slice_index last head) at

-- some number of the list has it
abbrev pub ForSome : List ℕ → (ℕ → Type 0) → Type 0
ForSome xs P = (x : ℕ) × Contains xs x × P x
