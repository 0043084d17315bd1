use Rattle.std.proofs.Common.{arith}
use Rattle.rgo_parser.proofs.ListTurns.{list_turns}
use Rattle.rgo_parser.proofs.ExprTurns.{expr_turns, climb_turns, unary_turns, primary_turns, post_turns, literal_turns}
use Rattle.rgo_parser.proofs.expressions.+expressions.Goals as goal

pub expr-returns-then-turns-eq0 : goal.expr-returns-then-turns-eq0
expr-returns-then-turns-eq0 c = grind (arith, expr_turns)

pub expr-returns-in_err-left : goal.expr-returns-in_err-left
expr-returns-in_err-left c = grind (arith, expr_turns)

pub expr-returns : goal.expr-returns
expr-returns c = grind (arith, expr_turns)

pub climb-returns-then-turns-eq0 : goal.climb-returns-then-turns-eq0
climb-returns-then-turns-eq0 c = grind (arith, climb_turns)

pub climb-returns-in_default : goal.climb-returns-in_default
climb-returns-in_default c = grind (arith, climb_turns)

pub climb-returns-in_err-right : goal.climb-returns-in_err-right
climb-returns-in_err-right c = grind (arith, climb_turns)

pub climb-returns : goal.climb-returns
climb-returns c = grind (arith, climb_turns)

pub unary-returns-then-turns-eq0 : goal.unary-returns-then-turns-eq0
unary-returns-then-turns-eq0 c = grind (arith, unary_turns)

pub unary-returns-in_err-read_prefix : goal.unary-returns-in_err-read_prefix
unary-returns-in_err-read_prefix c = grind (arith, unary_turns)

pub unary-returns-in-None : goal.unary-returns-in-None
unary-returns-in-None c = grind (arith, unary_turns)

pub unary-returns-in_err-value-in-Sign : goal.unary-returns-in_err-value-in-Sign
unary-returns-in_err-value-in-Sign c = grind (arith, unary_turns)

pub unary-returns-in_ok-new-in-Sign : goal.unary-returns-in_ok-new-in-Sign
unary-returns-in_ok-new-in-Sign c = grind (arith, unary_turns)

pub unary-returns-in-Literal : goal.unary-returns-in-Literal
unary-returns-in-Literal c = grind (arith, unary_turns)

pub primary-returns-then-turns-eq0 : goal.primary-returns-then-turns-eq0
primary-returns-then-turns-eq0 c = grind (arith, primary_turns)

pub primary-returns-in-Whole : goal.primary-returns-in-Whole
primary-returns-in-Whole c = grind (arith, primary_turns)

pub primary-returns-in_err-inner-in-Open : goal.primary-returns-in_err-inner-in-Open
primary-returns-in_err-inner-in-Open c = grind (arith, primary_turns)

pub primary-returns-in_err-value-in-Open : goal.primary-returns-in_err-value-in-Open
primary-returns-in_err-value-in-Open c = grind (arith, primary_turns)

pub primary-returns-in_ok-value-in-Open : goal.primary-returns-in_ok-value-in-Open
primary-returns-in_ok-value-in-Open c = grind (arith, primary_turns)

pub post-returns-then-turns-eq0 : goal.post-returns-then-turns-eq0
post-returns-then-turns-eq0 c = grind (arith, post_turns)

pub post-returns-in_err-read_suffix : goal.post-returns-in_err-read_suffix
post-returns-in_err-read_suffix c = grind (arith, post_turns)

pub post-returns-in-None : goal.post-returns-in-None
post-returns-in-None c = grind (arith, post_turns)

pub post-returns-in_ok-selected-in-Select : goal.post-returns-in_ok-selected-in-Select
post-returns-in_ok-selected-in-Select c = grind (arith, post_turns)

pub post-returns-in_err-index-in-Index : goal.post-returns-in_err-index-in-Index
post-returns-in_err-index-in-Index c = grind (arith, post_turns)

pub post-returns-in_err-take-in-Index : goal.post-returns-in_err-take-in-Index
post-returns-in_err-take-in-Index c = grind (arith, post_turns)

pub post-returns-in_ok-indexed-in-Index : goal.post-returns-in_ok-indexed-in-Index
post-returns-in_ok-indexed-in-Index c = grind (arith, post_turns)

pub post-returns-in_err-args-in-Call : goal.post-returns-in_err-args-in-Call
post-returns-in_err-args-in-Call c = grind (arith, post_turns)

pub post-returns-in_ok-called-in-Call : goal.post-returns-in_ok-called-in-Call
post-returns-in_ok-called-in-Call c = grind (arith, post_turns)

pub exprs-returns-in_err-closing : goal.exprs-returns-in_err-closing
exprs-returns-in_err-closing c = grind (arith, list_turns)

pub exprs-returns-in-Some : goal.exprs-returns-in-Some
exprs-returns-in-Some c = grind (arith, list_turns)

pub exprs-returns-in_err-one : goal.exprs-returns-in_err-one
exprs-returns-in_err-one c = grind (arith, list_turns)

pub exprs-returns-in_err-closing-2 : goal.exprs-returns-in_err-closing-2
exprs-returns-in_err-closing-2 c = grind (arith, list_turns)

pub exprs-returns-in-Some-2 : goal.exprs-returns-in-Some-2
exprs-returns-in-Some-2 c = grind (arith, list_turns)

pub exprs-loop-turn-preserved : goal.exprs-loop-turn-preserved
exprs-loop-turn-preserved c = grind (arith, list_turns)

pub exprs-returns : goal.exprs-returns
exprs-returns c = grind (arith, list_turns)

pub elements-returns-in_err-closing : goal.elements-returns-in_err-closing
elements-returns-in_err-closing c = grind (arith, list_turns)

pub elements-returns-in-Some : goal.elements-returns-in-Some
elements-returns-in-Some c = grind (arith, list_turns)

pub elements-returns-in_err-field : goal.elements-returns-in_err-field
elements-returns-in_err-field c = grind (arith, list_turns)

pub elements-returns-in_err-take : goal.elements-returns-in_err-take
elements-returns-in_err-take c = grind (arith, list_turns)

pub elements-returns-in_err-value : goal.elements-returns-in_err-value
elements-returns-in_err-value c = grind (arith, list_turns)

pub elements-returns-in_err-closing-2 : goal.elements-returns-in_err-closing-2
elements-returns-in_err-closing-2 c = grind (arith, list_turns)

pub elements-returns-in-Some-2 : goal.elements-returns-in-Some-2
elements-returns-in-Some-2 c = grind (arith, list_turns)

pub elements-loop-turn-preserved : goal.elements-loop-turn-preserved
elements-loop-turn-preserved c = grind (arith, list_turns)

pub elements-returns : goal.elements-returns
elements-returns c = grind (arith, list_turns)

pub literal-returns-in_err-base : goal.literal-returns-in_err-base
literal-returns-in_err-base c = grind (arith, literal_turns)

pub literal-returns-in_err-take : goal.literal-returns-in_err-take
literal-returns-in_err-take c = grind (arith, literal_turns)

pub literal-returns-in_err-all : goal.literal-returns-in_err-all
literal-returns-in_err-all c = grind (arith, literal_turns)

pub literal-returns-then-is_keyed : goal.literal-returns-then-is_keyed
literal-returns-then-is_keyed c = grind (arith, literal_turns)

pub literal-returns-in_err-values : goal.literal-returns-in_err-values
literal-returns-in_err-values c = grind (arith, literal_turns)

pub literal-returns : goal.literal-returns
literal-returns c = grind (arith, literal_turns)
