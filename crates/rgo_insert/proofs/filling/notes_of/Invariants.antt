use Rattle.rgo_insert.specs.Filled.{AreRight}
use Rattle.rgo_insert.proofs.filling.notes_of.Given as goal

abbrev pub invariant-loop-at : goal.invariant-loop-at
invariant-loop-at l = AreRight l.functions l.f l.notes.items l.at
