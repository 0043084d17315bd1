use Rattle.std.proofs.Common.{◌≤◌, ℕ, List, []}
use Rattle.rgo_tac.specs.declared.regions.Class.{Class}
use Rattle.rgo_classes.specs.Classes.{variables_before}
use Rattle.rgo_classes.specs.Naming.{Naming}
use Rattle.rgo_classes.proofs.names.add_missing.Given as goal

abbrev pub invariant-loop-v : goal.invariant-loop-v
invariant-loop-v l = record {
  after : l.from ≤ l.v;
  named : (labels : List ℕ) (given : List Class) (next : ℕ)
      → Naming labels l.function (variables_before l.from []) l.fn.classes.items given next
      → Naming labels l.function (variables_before l.v []) l.classes.items given next;
}
