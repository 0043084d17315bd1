use Rattle.std.proofs.Common.{◌∙◌, sym, arith, rules}
use Rattle.rgo_types.proofs.Ends.{ends_last}
use Rattle.rgo_typing_statements.proofs.Trees.{sources}
use Rattle.rgo_types.proofs.flow.+ends.Goals as goal

pub stmts_terminate-returns-in-Some : goal.stmts_terminate-returns-in-Some
stmts_terminate-returns-in-Some t c =
    c.stmt_terminates.ensures ∙ sym (ends_last c.args.all.now c.in-Some.s.now (search rules))

pub stmt_terminates-returns-in-Block : goal.stmt_terminates-returns-in-Block
stmt_terminates-returns-in-Block t c = grind (arith, sources)

pub stmt_terminates-returns-else-stmts_terminate : goal.stmt_terminates-returns-else-stmts_terminate
stmt_terminates-returns-else-stmts_terminate t c = grind (arith, sources)

pub stmt_terminates-returns-in-None : goal.stmt_terminates-returns-in-None
stmt_terminates-returns-in-None t c = grind (arith, sources)

pub stmt_terminates-returns-in-Some : goal.stmt_terminates-returns-in-Some
stmt_terminates-returns-in-Some t c = grind (arith, sources)

pub stmt_terminates-returns-else-is_none : goal.stmt_terminates-returns-else-is_none
stmt_terminates-returns-else-is_none t c = grind (arith, sources)

pub stmt_terminates-returns-then-is_none : goal.stmt_terminates-returns-then-is_none
stmt_terminates-returns-then-is_none t c = grind (arith, sources)
