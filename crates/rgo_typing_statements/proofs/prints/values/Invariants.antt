use Rattle.std.proofs.Common.{◌≡◌, map, drop, length}
use Rattle.std.specs.Vec.Iter.{into_iter_items, into_iter_len}
use Rattle.rgo_ast.specs.Tree.{exprs_of}
use Rattle.rgo_ast.specs.Views.{expr_of}
use Rattle.rgo_typed.specs.Tree.{terms_of}
use Rattle.rgo_typed.specs.Views.{term_of}
use Rattle.rgo_typing_statements.specs.TypedStatements.{printed_terms}
use Rattle.rgo_typing_expressions.proofs.Lists.{terms_before}
use Rattle.rgo_typing_statements.proofs.prints.values.Given as goal

abbrev pub invariant-loop-arg : goal.invariant-loop-arg
invariant-loop-arg l =
    (terms_before (map term_of l.values.items)
    (printed_terms (exprs_of (map expr_of (drop l.arg-index l.args))) (terms_of (map term_of (into_iter_items l.rest))))
    ≡ printed_terms (exprs_of (map expr_of l.args)) (terms_of (map term_of l.fn.terms.items)))
    × (into_iter_len l.rest ≡ length (into_iter_items l.rest))
