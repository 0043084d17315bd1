use Rattle.std.proofs.Common.{ℕ, nat_eq, Contains}
use Rattle.std.specs.Bool.{Decides}
use Rattle.std.specs.HashSet.{contains}
use Rattle.rgo_tac.specs.declared.regions.Class.TheVariants.{Name}
use Rattle.rgo_code.specs.Names.{parameter_classes}
use Rattle.rgo_checker.proofs.regions.parameter_names.Given as goal

abbrev pub invariant-loop-v : goal.invariant-loop-v
invariant-loop-v l =
    (k : ℕ) → Decides (contains nat_eq l.names k) (Contains (parameter_classes l.v l.f.variables) (Name k))
