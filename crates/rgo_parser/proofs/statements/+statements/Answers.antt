use Rattle.std.proofs.Common.{arith}
use Rattle.rgo_parser.proofs.ListTurns.{listed_turns}
use Rattle.rgo_parser.proofs.StmtTurns.{nodes, stmt_turns, if_turns, else_turns}
use Rattle.rgo_parser.proofs.statements.+statements.Goals as goal

pub stmt-returns-then-turns-eq0 : goal.stmt-returns-then-turns-eq0
stmt-returns-then-turns-eq0 c = grind (arith, stmt_turns)

pub stmt-returns-in_err-read_leading : goal.stmt-returns-in_err-read_leading
stmt-returns-in_err-read_leading c = grind (arith, stmt_turns)

pub stmt-returns-in-Empty : goal.stmt-returns-in-Empty
stmt-returns-in-Empty c = grind (arith, stmt_turns)

pub stmt-returns-in-Whole : goal.stmt-returns-in-Whole
stmt-returns-in-Whole c = grind (arith, stmt_turns)

pub stmt-returns-in_err-all-in-Block : goal.stmt-returns-in_err-all-in-Block
stmt-returns-in_err-all-in-Block c = grind (arith, stmt_turns)

pub stmt-returns-in_ok-all-in-Block : goal.stmt-returns-in_ok-all-in-Block
stmt-returns-in_ok-all-in-Block c = grind (arith, stmt_turns)

pub stmt-returns-in_err-if_stmt-in-If : goal.stmt-returns-in_err-if_stmt-in-If
stmt-returns-in_err-if_stmt-in-If c = grind (arith, stmt_turns)

pub stmt-returns-in_ok-if_stmt-in-If : goal.stmt-returns-in_ok-if_stmt-in-If
stmt-returns-in_ok-if_stmt-in-If c = grind (arith, stmt_turns)

pub stmt-returns-in_err-for_stmt-in-For : goal.stmt-returns-in_err-for_stmt-in-For
stmt-returns-in_err-for_stmt-in-For c = grind (arith, stmt_turns)

pub stmt-returns-in_ok-for_stmt-in-For : goal.stmt-returns-in_ok-for_stmt-in-For
stmt-returns-in_ok-for_stmt-in-For c = grind (arith, stmt_turns)

pub if_stmt-returns-then-turns-eq0 : goal.if_stmt-returns-then-turns-eq0
if_stmt-returns-then-turns-eq0 c = grind (arith, if_turns)

pub if_stmt-returns-in_err-init : goal.if_stmt-returns-in_err-init
if_stmt-returns-in_err-init c = grind (arith, if_turns)

pub if_stmt-returns-in_err-body : goal.if_stmt-returns-in_err-body
if_stmt-returns-in_err-body c = grind (arith, if_turns)

pub if_stmt-returns-in_err-other : goal.if_stmt-returns-in_err-other
if_stmt-returns-in_err-other c = grind (arith, if_turns)

pub if_stmt-returns : goal.if_stmt-returns
if_stmt-returns c = grind (arith, if_turns)

pub otherwise-returns-in_err-else_word : goal.otherwise-returns-in_err-else_word
otherwise-returns-in_err-else_word c = grind (arith, else_turns)

pub otherwise-returns-in-None : goal.otherwise-returns-in-None
otherwise-returns-in-None c = grind (arith, else_turns)

pub otherwise-returns-in_err-stmt-in-If : goal.otherwise-returns-in_err-stmt-in-If
otherwise-returns-in_err-stmt-in-If c = grind (arith, else_turns)

pub otherwise-returns-in_ok-new-in-If : goal.otherwise-returns-in_ok-new-in-If
otherwise-returns-in_ok-new-in-If c = grind (arith, else_turns)

pub otherwise-returns-in_err-all-in-Block : goal.otherwise-returns-in_err-all-in-Block
otherwise-returns-in_err-all-in-Block c = grind (arith, else_turns)

pub otherwise-returns-in_ok-new-in-Block : goal.otherwise-returns-in_ok-new-in-Block
otherwise-returns-in_ok-new-in-Block c = grind (arith, else_turns)

pub for_stmt-returns : goal.for_stmt-returns
for_stmt-returns c = grind (arith, nodes)

pub stmts-returns-in_err-closing : goal.stmts-returns-in_err-closing
stmts-returns-in_err-closing c = grind (arith, listed_turns)

pub stmts-returns-in-Some : goal.stmts-returns-in-Some
stmts-returns-in-Some c = grind (arith, listed_turns)

pub stmts-returns-in_err-one : goal.stmts-returns-in_err-one
stmts-returns-in_err-one c = grind (arith, listed_turns)

pub stmts-returns-in_err-closing-2 : goal.stmts-returns-in_err-closing-2
stmts-returns-in_err-closing-2 c = grind (arith, listed_turns)

pub stmts-returns-in-Some-3 : goal.stmts-returns-in-Some-3
stmts-returns-in-Some-3 c = grind (arith, listed_turns)

pub stmts-loop-turn-preserved : goal.stmts-loop-turn-preserved
stmts-loop-turn-preserved c = grind (arith, listed_turns)

pub stmts-returns : goal.stmts-returns
stmts-returns c = grind (arith, listed_turns)
