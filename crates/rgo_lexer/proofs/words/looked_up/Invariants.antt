use Rattle.std.proofs.Common.{◌≡◌, drop}
use Rattle.rgo_lexer.specs.Words.{looked_up}
use Rattle.rgo_lexer.specs.Words.{entries}
use Rattle.rgo_lexer.proofs.words.looked_up.Given as goal

abbrev pub invariant-loop-entry : goal.invariant-loop-entry
invariant-loop-entry l =
    looked_up (entries l.fn.table) l.default l.word ≡ looked_up
    (entries (drop l.entry-index l.fn.table)) l.default l.word
