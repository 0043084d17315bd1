use Rattle.std.proofs.Common.{◌+◌, [], suc, map, drop}
use Rattle.rgo_ast.specs.Tree.{stmts_of, clause_of}
use Rattle.rgo_ast.specs.Views.{boxed_stmt_of}
use Rattle.rgo_ast.specs.Views.{stmt_of as source_of}
use Rattle.rgo_typed.specs.Views.{stmt_of}
use Rattle.rgo_types.specs.Nested.{all_outcome}
use Rattle.rgo_typing_statements.specs.Views.{enclosing_of}
use Rattle.rgo_typing_statements.proofs.Turns.{Appending}
use Rattle.rgo_types.proofs.Weights.{weight, weights, clause_weight}
use Rattle.rgo_types.proofs.statements.+statements.Given as goal

abbrev pub invariant-check_stmts-loop-s : goal.invariant-check_stmts-loop-s
invariant-check_stmts-loop-s l =
    Appending (λ c all. all_outcome (enclosing_of l.around) c (stmts_of all)) l.initial.checker (map source_of l.all) []
    l.checker (map source_of (drop l.s-index l.all)) (map stmt_of l.out.items)

abbrev pub decreases-check_stmt : goal.decreases-check_stmt
decreases-check_stmt l = weight (source_of l.s.now)

abbrev pub decreases-nested_block : goal.decreases-nested_block
decreases-nested_block l = suc (suc (weights (stmts_of (map source_of l.all.now))))

abbrev pub decreases-if_stmt : goal.decreases-if_stmt
decreases-if_stmt l =
    suc (suc (suc (clause_weight (clause_of (boxed_stmt_of l.init.now))
    + (weights (stmts_of (map source_of l.body.now)) + clause_weight (clause_of (boxed_stmt_of l.other.now))))))

abbrev pub decreases-check_if : goal.decreases-check_if
decreases-check_if l =
    suc (suc (weights (stmts_of (map source_of l.body.now)) + clause_weight (clause_of (boxed_stmt_of l.other.now))))

abbrev pub decreases-for_stmt : goal.decreases-for_stmt
decreases-for_stmt l =
    suc (suc (suc (clause_weight (clause_of (boxed_stmt_of l.init.now))
    + (clause_weight (clause_of (boxed_stmt_of l.post.now)) + weights (stmts_of (map source_of l.body.now))))))

abbrev pub decreases-check_loop : goal.decreases-check_loop
decreases-check_loop l =
    suc (suc (clause_weight (clause_of (boxed_stmt_of l.post.now)) + weights (stmts_of (map source_of l.body.now))))

abbrev pub decreases-check_stmts : goal.decreases-check_stmts
decreases-check_stmts l = weights (stmts_of (map source_of l.all.now))

abbrev pub decreases-check_block : goal.decreases-check_block
decreases-check_block l = suc (weights (stmts_of (map source_of l.all.now)))

abbrev pub decreases-check_clause : goal.decreases-check_clause
decreases-check_clause l = clause_weight (clause_of (boxed_stmt_of l.s.now))
