use Rattle.std.proofs.Common.{length}
use Rattle.rgo_journal.proofs.Walking.{ReadSoFar}
use Rattle.rgo_journal.proofs.reading.read_picks.Given as goal

abbrev pub invariant-lines : goal.invariant-lines
invariant-lines l = ReadSoFar l.bytes l.picks.items l.rest

abbrev pub decreases-lines : goal.decreases-lines
decreases-lines l = length l.rest
