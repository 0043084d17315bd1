use Rattle.std.proofs.Common.{◌≡◌, ℕ, Some, slice_get}
use Rattle.rgo_code.specs.declared.rules.Line.TheVariants.{Instr as InstrLine}
use Rattle.rgo_checker.specs.Lines.{first_lines}
use Rattle.rgo_checker.specs.Scan.{Walks}
use Rattle.rgo_checker.proofs.existence.walk_body.Given as goal

abbrev pub invariant-loop-at : goal.invariant-loop-at
invariant-loop-at l =
    (n : ℕ) → slice_get l.code.functions n ≡ Some l.f
    → Walks l.code 1 2 (first_lines (InstrLine n) l.at) l.fn.scan l.scan
