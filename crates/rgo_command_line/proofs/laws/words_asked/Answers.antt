use Rattle.rgo_command_line.proofs.LawLemmas as laws
use Rattle.rgo_command_line.proofs.LiteralLemmas as literals
use Rattle.rgo_command_line.proofs.laws.words_asked.Goals as goal

pub returns-clause-exactly : goal.returns-clause-exactly
returns-clause-exactly c = laws.exactly

pub returns-clause-commands : goal.returns-clause-commands
returns-clause-commands c = literals.commands

pub returns-clause-nothing : goal.returns-clause-nothing
returns-clause-nothing c = literals.nothing
