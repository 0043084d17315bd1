use Rattle.rgo_insert.proofs.programs.with_regions.Goals as goal

pub new-requires-2-clause-ascends : goal.new-requires-2-clause-ascends
new-requires-2-clause-ascends c = rw (c.in_ok-tac.ensures, c.new.ensures) c.requires.ascends
