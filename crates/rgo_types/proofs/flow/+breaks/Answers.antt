use Rattle.std.proofs.Common.{◌∙◌, ap, sym, map, arith}
use Rattle.rgo_ast.specs.Tree.{stmts_of}
use Rattle.rgo_ast.specs.Views.{stmt_of}
use Rattle.rgo_types.specs.Flow.{stmts_break}
use Rattle.rgo_types.proofs.Breaks.{block_breaks}
use Rattle.rgo_typing_statements.proofs.Trees.{sources}
use Rattle.rgo_types.proofs.flow.+breaks.Goals as goal

pub stmt_breaks-returns-in-Block : goal.stmt_breaks-returns-in-Block
stmt_breaks-returns-in-Block t c =
    c.stmts_break.ensures
    ∙ ap (λ l. stmts_break (stmts_of (map stmt_of l))) c.deref.ensures.value
    ∙ sym (block_breaks c.args.s.now c.in-Block.all c.in-Block.field-1 c.in-Block.is)

pub stmt_breaks-returns-then-stmts_break : goal.stmt_breaks-returns-then-stmts_break
stmt_breaks-returns-then-stmts_break t c = grind (arith, sources)

pub stmt_breaks-returns-in-None : goal.stmt_breaks-returns-in-None
stmt_breaks-returns-in-None t c = grind (arith, sources)

pub stmt_breaks-returns-in-Some : goal.stmt_breaks-returns-in-Some
stmt_breaks-returns-in-Some t c = grind (arith, sources)
