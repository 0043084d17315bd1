use Rattle.std.proofs.Common.{◌≡◌, ◌+◌, ◌*◌, ◌-◌, [], false, map}
use Rattle.rgo_ast.specs.Views.{expr_of, element_of}
use Rattle.rgo_lexer.specs.declared.terminals.Terminal.TheVariants.{Comma, CloseBrace}
use Rattle.rgo_grammar.specs.reading.Read.{several}
use Rattle.rgo_grammar.specs.reading.Expressions.{expr, exprs, keyed_element}
use Rattle.rgo_parser.proofs.expressions.+expressions.Given as goal

abbrev pub decreases-expr : goal.decreases-expr
decreases-expr l = 4 * l.turns

abbrev pub decreases-climb : goal.decreases-climb
decreases-climb l = 4 * l.turns

abbrev pub decreases-unary : goal.decreases-unary
decreases-unary l = 4 * l.turns + 3

abbrev pub decreases-primary : goal.decreases-primary
decreases-primary l = 4 * l.turns

abbrev pub decreases-post : goal.decreases-post
decreases-post l = 4 * l.turns

abbrev pub decreases-exprs : goal.decreases-exprs
decreases-exprs l = 4 * l.turns + 1

abbrev pub decreases-elements : goal.decreases-elements
decreases-elements l = 4 * l.turns + 1

abbrev pub decreases-literal : goal.decreases-literal
decreases-literal l = 4 * l.turns + 2

abbrev pub invariant-exprs-loop-turn : goal.invariant-exprs-loop-turn
invariant-exprs-loop-turn l =
    exprs l.closer l.turns (expr false l.turns 1) l.fn.reader
    ≡ several Comma l.closer (expr false l.turns 1) (l.turns - l.turn) (map expr_of l.found.items) l.reader

abbrev pub invariant-elements-loop-turn : goal.invariant-elements-loop-turn
invariant-elements-loop-turn l =
    several Comma CloseBrace (keyed_element (expr false (l.turns - 1) 1)) l.turns [] l.fn.reader
    ≡ several Comma CloseBrace (keyed_element (expr false (l.turns - 1) 1)) (l.turns - l.turn) (map element_of l.found.items) l.reader
