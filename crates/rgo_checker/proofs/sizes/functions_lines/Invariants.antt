use Rattle.std.proofs.Common.{◌≡◌, ◌+◌, ◌-◌, ◌≤◌, ◌^◌, min, drop}
use Rattle.rgo_checker.specs.Sizes.{functions_lines}
use Rattle.rgo_checker.proofs.sizes.functions_lines.Given as goal

-- with those of the rest they are those of all
abbrev pub invariant-loop-f : goal.invariant-loop-f
invariant-loop-f l = record {
  fits : l.lines ≤ 2 ^ 64 - 1;
  all :
      min (l.lines + functions_lines (drop l.f-index l.functions)) (2 ^ 64 - 1)
      ≡ min (functions_lines l.functions) (2 ^ 64 - 1);
}
