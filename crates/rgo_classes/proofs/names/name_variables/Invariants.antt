use Rattle.std.proofs.Common.{◌≡◌, ◌≤◌, [], length}
use Rattle.rgo_classes.specs.Classes.{variables_before}
use Rattle.rgo_classes.specs.Naming.{Naming}
use Rattle.rgo_classes.proofs.names.name_variables.Given as goal

abbrev pub invariant-loop-v : goal.invariant-loop-v
invariant-loop-v l = record {
  len : length l.given ≡ length l.fn.given;
  next : l.next ≤ l.v;
  classes : Naming l.labels l.function (variables_before l.v []) l.classes.items l.given l.next;
}
