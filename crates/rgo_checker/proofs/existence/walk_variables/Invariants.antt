use Rattle.std.proofs.Common.{map, take}
use Rattle.rgo_code.specs.declared.rules.Line.TheVariants.{Variable as VariableLine}
use Rattle.rgo_checker.specs.Lines.{first_lines}
use Rattle.rgo_checker.specs.Naming.{SetHasNames}
use Rattle.rgo_checker.specs.Scan.{Walks}
use Rattle.rgo_checker.proofs.existence.walk_variables.Given as goal

abbrev pub invariant-loop-n : goal.invariant-loop-n
invariant-loop-n l = record {
  names : SetHasNames l.names (take l.n (map (λ x. x.name) l.code.variables));
  walks : Walks l.code 1 2 (first_lines VariableLine l.n) l.fn.scan l.scan;
}
