use Rattle.std.proofs.Common.{take}
use Rattle.rgo_checker.specs.Lines.{functions_lines}
use Rattle.rgo_checker.specs.Scan.{Walks}
use Rattle.rgo_checker.proofs.walking.walk_functions.Given as goal

abbrev pub invariant-loop-n : goal.invariant-loop-n
invariant-loop-n l = Walks l.code 2 15 (functions_lines 0 (take l.n l.code.functions)) l.fn.scan l.scan
