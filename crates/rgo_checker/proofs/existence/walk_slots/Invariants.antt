use Rattle.std.proofs.Common.{◌≡◌, ℕ, Some, slice_get}
use Rattle.rgo_code.specs.declared.rules.Line.TheVariants.{Slot as SlotLine}
use Rattle.rgo_checker.specs.Lines.{first_lines}
use Rattle.rgo_checker.specs.Scan.{Walks}
use Rattle.rgo_checker.proofs.existence.walk_slots.Given as goal

abbrev pub invariant-loop-v : goal.invariant-loop-v
invariant-loop-v l =
    (n : ℕ) → slice_get l.code.functions n ≡ Some l.f
    → Walks l.code 1 2 (first_lines (SlotLine n) l.v) l.fn.scan l.scan
