use Rattle.std.proofs.Common.{◌≡◌, ◌≤◌, ◌+◌, ◌++◌, drop, length, map}
use Rattle.rgo_sound.specs.RegionMachine.Owed.{regions_named}
use Rattle.rgo_sound.specs.RegionMachine.States as machine
use Rattle.rgo_body.proofs.queues.Queue.put_shares.Given as goal

-- the duties of the classes from the i-th on are put
abbrev pub invariant-loop-i : goal.invariant-loop-i
invariant-loop-i l = (l.i ≤ length l.passes)
    × (l.self.duties ≡ map machine.Share (regions_named (drop l.i l.passes)) ++ l.initial.self.duties)
    × (l.initial.self.room + l.i ≤ l.self.room + length l.passes)

abbrev pub decreases-loop-i : goal.decreases-loop-i
decreases-loop-i l = l.i
