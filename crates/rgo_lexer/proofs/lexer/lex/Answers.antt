use Rattle.rgo_lexer.proofs.Placing.{named_of_text}
use Rattle.rgo_lexer.proofs.lexer.lex.Goals as goal

pub returns-in-Ok-lexemes_from-clause-of_text : goal.returns-in-Ok-lexemes_from-clause-of_text
returns-in-Ok-lexemes_from-clause-of_text c =
    named_of_text c.args.text.now _ _
    (rw c.start_of.ensures.value at c.in-Ok-lexemes_from.ensures.ok) c.name_package.ensures
