use Rattle.std.proofs.Common.{◌≡◌, ◌-◌, ◌+◌, ◌*◌, map}
use Rattle.rgo_ast.specs.Views.{stmt_of}
use Rattle.rgo_lexer.specs.declared.terminals.Terminal.TheVariants.{Semicolon, CloseBrace}
use Rattle.rgo_grammar.specs.reading.Read.{listed}
use Rattle.rgo_grammar.specs.reading.Statements.{stmt, stmts}
use Rattle.rgo_parser.proofs.statements.+statements.Given as goal

-- Within a turn, one function calls only others of a smaller rank.
abbrev pub decreases-stmt : goal.decreases-stmt
decreases-stmt l = 4 * l.turns

abbrev pub decreases-if_stmt : goal.decreases-if_stmt
decreases-if_stmt l = 4 * l.turns

abbrev pub decreases-stmts : goal.decreases-stmts
decreases-stmts l = 4 * l.turns + 1

abbrev pub decreases-block : goal.decreases-block
decreases-block l = 4 * l.turns + 2

abbrev pub decreases-otherwise : goal.decreases-otherwise
decreases-otherwise l = 4 * l.turns + 3

abbrev pub decreases-for_stmt : goal.decreases-for_stmt
decreases-for_stmt l = 4 * l.turns + 3

abbrev pub invariant-stmts-loop-turn : goal.invariant-stmts-loop-turn
invariant-stmts-loop-turn l =
    stmts l.turns l.fn.reader
    ≡ listed Semicolon CloseBrace (stmt l.turns) (l.turns - l.turn) (map stmt_of l.found.items) l.reader
