use Rattle.rgo_run.proofs.ProgramLemmas as programs
use Rattle.rgo_run.proofs.laws.programs_are_well_formed.Goals as goal

pub returns : goal.returns
returns c = programs.programs_are_well_formed
