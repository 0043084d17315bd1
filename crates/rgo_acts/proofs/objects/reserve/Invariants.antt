use Rattle.std.proofs.Common.{◌≡◌, ◌+◌, ◌-◌, ◌*◌, ◌≤◌}
use Rattle.rgo_acts.specs.Objects.{HasReserved}
use Rattle.rgo_acts.proofs.objects.reserve.Given as goal

abbrev pub invariant-loop-i : goal.invariant-loop-i
invariant-loop-i g l = record {
  reserved : HasReserved l.run l.initial.actor l.actor l.next l.new (l.i - l.first);
  same : l.i ≡ l.first → l.actor ≡ l.initial.actor;
  counted : l.steps ≤ l.fn.steps + (l.i - l.first) * (l.run.setup.sizes.pages + 2);
}
