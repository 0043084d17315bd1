use Rattle.rgo_reader.proofs.types.+ty.Given as goal

abbrev pub decreases-ty : goal.decreases-ty
decreases-ty l = l.turns
