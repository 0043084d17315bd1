use Rattle.std.proofs.Common.{◌≡◌, ◌++◌, map, drop}
use Rattle.rgo_ast.specs.Tree.{exprs_of}
use Rattle.rgo_ast.specs.Views.{expr_of}
use Rattle.rgo_typing_statements.specs.TypedStatements.{printed_pieces}
use Rattle.rgo_typing_statements.proofs.prints.pieces.Given as goal

abbrev pub invariant-loop-arg : goal.invariant-loop-arg
invariant-loop-arg l =
    l.pieces.items ++ printed_pieces (exprs_of (map expr_of (drop l.arg-index l.args))) ≡ printed_pieces (exprs_of (map expr_of l.args))
