use Rattle.std.proofs.Common.{take}
use Rattle.rgo_checker.specs.Lines.{functions_lines}
use Rattle.rgo_checker.specs.Naming.{SetHasNames, fn_names}
use Rattle.rgo_checker.specs.Scan.{Walks}
use Rattle.rgo_checker.proofs.existence.walk_functions.Given as goal

abbrev pub invariant-loop-n : goal.invariant-loop-n
invariant-loop-n l = record {
  names : SetHasNames l.names (take l.n (fn_names l.code));
  walks : Walks l.code 1 2 (functions_lines 0 (take l.n l.code.functions)) l.fn.scan l.scan;
}
