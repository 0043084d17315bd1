-- The rules at instructions and at entry, by rule.
use Rattle.std.specs.Prelude.{◌≡◌, ◌<◌, ◌≤◌, ℕ, Option, Some, None, slice_get}
use Rattle.rgo_code.specs.declared.rules.Rule.{Rule}
use Rattle.rgo_code.specs.Checked.{KeptByInstr, KeptByEntry, rule_number}
use Rattle.rgo_code.specs.Code.{CodeInstr, CodeFn, Code}

-- the rule is kept by instruction i, if it exists; like `IsKept` it unfolds only on request
unfoldable pub InstrKept : Code → CodeFn → ℕ → Rule → Type 0
InstrKept code f i rule = (instr : CodeInstr) → slice_get f.body i ≡ Some instr → KeptByInstr code rule f i instr

unfoldable pub EntryKept : CodeFn → Rule → Type 0
EntryKept f rule = KeptByEntry rule f

-- the least rule with a number from `from` up to but not `limit` that is not kept
abbrev pub LeastBroken : (Rule → Type 0) → (from limit : ℕ) → Option Rule → Type 0
LeastBroken Kept from limit None = (rule : Rule) → from ≤ rule_number rule → rule_number rule < limit → Kept rule
LeastBroken Kept from limit (Some broken) =
    (from ≤ rule_number broken) × (rule_number broken < limit) × (Kept broken → ⊥)
    × ((rule : Rule) → from ≤ rule_number rule → rule_number rule < rule_number broken → Kept rule)
