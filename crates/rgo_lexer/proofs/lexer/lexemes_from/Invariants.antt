use Rattle.std.proofs.Common.{length, ◌-◌}
use Rattle.rgo_lexer.proofs.Progress.{Progress}
use Rattle.rgo_lexer.proofs.lexer.lexemes_from.Given as goal

abbrev pub invariant-pieces : goal.invariant-pieces
invariant-pieces l = Progress l.text l.start l.at l.ending l.lexemes.items

abbrev pub decreases-pieces : goal.decreases-pieces
decreases-pieces l = length l.text - l.at
