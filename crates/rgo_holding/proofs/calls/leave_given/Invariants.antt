use Rattle.std.proofs.Common.{drop}
use Rattle.rgo_sound.specs.RegionMachine.Owed.{given_names}
use Rattle.rgo_holding.specs.declared.frames.Frames.{Frames}
use Rattle.rgo_holding.specs.Naming.{KeepsRoom}
use Rattle.rgo_holding.specs.Tables.{IsOrdered}
use Rattle.rgo_holding.proofs.Passages.{Clears}
use Rattle.rgo_holding.proofs.calls.leave_given.Given as goal

abbrev pub invariant-loop-i : goal.invariant-loop-i
invariant-loop-i l =
    (IsOrdered l.fn.frames → IsOrdered l.frames
    × ((d : Frames) → Clears l.frames d (given_names l.lent (drop l.i l.formals) (drop l.i l.passes) l.protects)
    → Clears l.fn.frames d (given_names l.lent l.formals l.passes l.protects)))
    × KeepsRoom l.fn.frames l.frames
