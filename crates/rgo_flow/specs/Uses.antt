-- The first use of a variable in a run of instructions, given the instructions that read it and those that write it.
use Rattle.std.specs.Prelude.{◌≡◌, ◌<◌, ◌≤◌, ◌⊎◌, ◌^◌, ◌-◌, ℕ, List, Contains}
use Rattle.rgo_flow.specs.declared.uses.FirstUse.{FirstUse}
use Rattle.rgo_flow.specs.declared.uses.FirstUse.TheVariants.{Read, Written, Unused}

-- the least of the points at or after `from`; 2 ^ 32 - 1 if there is none, which is the number of no instruction
pub record IsNext (points : List ℕ) (from next : ℕ) : Type 0 where
  pub is : (Contains points next × (from ≤ next)) ⊎ (next ≡ 2 ^ 32 - 1)
  pub least : (p : ℕ) → Contains points p → from ≤ p → next ≤ p

-- read at some point from i through e, and not written before it
pub record IsRead (readers writers : List ℕ) (i e : ℕ) : Type 0 where
  pub at : ℕ
  pub from : i ≤ at
  pub to : at ≤ e
  pub read : Contains readers at
  pub before : (m : ℕ) → i ≤ m → m < at → Contains writers m → ⊥

-- Written at some point from i through e, and not read up to it. That point is included, since an instruction that does both reads
-- first.
pub record IsWritten (readers writers : List ℕ) (i e : ℕ) : Type 0 where
  pub at : ℕ
  pub from : i ≤ at
  pub to : at ≤ e
  pub written : Contains writers at
  pub before : (m : ℕ) → i ≤ m → m ≤ at → Contains readers m → ⊥

pub record IsUnused (readers writers : List ℕ) (i e : ℕ) : Type 0 where
  pub unread : (m : ℕ) → i ≤ m → m ≤ e → Contains readers m → ⊥
  pub unwritten : (m : ℕ) → i ≤ m → m ≤ e → Contains writers m → ⊥

-- the first use from i through e
abbrev pub IsFirstUse : (readers writers : List ℕ) → ℕ → ℕ → FirstUse → Type 0
IsFirstUse readers writers i e Read = IsRead readers writers i e
IsFirstUse readers writers i e Written = IsWritten readers writers i e
IsFirstUse readers writers i e Unused = IsUnused readers writers i e
