use Rattle.rgo_run.proofs.ProgramLemmas as programs
use Rattle.rgo_run.proofs.laws.no_program_is_too_large.Goals as goal

pub returns : goal.returns
returns c = programs.no_program_is_too_large
