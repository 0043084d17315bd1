use Rattle.std.proofs.Common.{◌+◌, ◌<◌, length}
use Rattle.rgo_acts.specs.Attending.{HasAttendedLocally}
use Rattle.rgo_acts.proofs.duties.attend_local.Given as goal

abbrev pub invariant-loop-duty : goal.invariant-loop-duty
invariant-loop-duty l = record {
  attended : HasAttendedLocally l.run l.fn.actor l.actor;
  behind : l.actor.behind + l.left < 18446744073709551616;
}

-- the duties that are left
abbrev pub decreases-loop-duty : goal.decreases-loop-duty
decreases-loop-duty l = length l.actor.body.queue.duties
