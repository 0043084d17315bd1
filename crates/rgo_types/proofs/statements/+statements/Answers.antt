-- Statements: the first that is refused ends the loop, a turn passes one, and the size goes down from call to call.
use Rattle.std.proofs.Common.{◌+◌, map, drop, refl, arith, rules}
use Rattle.rgo_ast.specs.Tree.{stmts_of}
use Rattle.rgo_ast.specs.Views.{stmt_of as source_of}
use Rattle.rgo_typing_rules.specs.Checks.{Refuses}
use Rattle.rgo_typing_rules.specs.Sites.{first_refusal}
use Rattle.rgo_typing_statements.specs.Outcomes.{stmt_outcome}
use Rattle.rgo_typing_statements.specs.Statements.{all_sites, context_after}
use Rattle.rgo_typing_statements.specs.Views.{enclosing_of}
use Rattle.rgo_typing_packages.proofs.Lists.{opened_map}
use Rattle.rgo_typing_statements.proofs.Turns.{refused_stmt, appended}
use Rattle.rgo_types.specs.Nested.{all_outcome}
use Rattle.rgo_types.proofs.Weights.{lighter}
use Rattle.rgo_typing_statements.proofs.Trees.{sources}
use Rattle.rgo_typing_rules.proofs.Refusals.{refusals}
use Rattle.rgo_types.proofs.statements.+statements.Goals as goal

pub check_stmts-check_stmt-requires : goal.check_stmts-check_stmt-requires
check_stmts-check_stmt-requires t c =
    let down = lighter c.args.all.now c.loop-s.s-index c.s-item.result c.s-item.is (omega arith) in
    search (rules, down)

pub check_stmts-returns-in_err-check_stmt : goal.check_stmts-returns-in_err-check_stmt
check_stmts-returns-in_err-check_stmt t c =
    let e = c.in_err-check_stmt.field-0.0 in
    let f = enclosing_of c.args.around in
    let k = c.loop-s.checker in
    let s = source_of c.s-item.result in
    let rest = map source_of (drop (c.loop-s.s-index + 1) c.args.all.now) in
    let here = opened_map source_of c.args.all.now c.loop-s.s-index c.s-item.result c.s-item.is (omega arith) in
    let refuses : Refuses e (first_refusal (all_sites f c.args.checker.now (stmts_of (map source_of c.args.all.now)))) =
    refused_stmt c.loop-s.invariant s rest here
    (stmt_outcome f k s) (all_outcome f (context_after k s) (stmts_of rest)) refl e c.in_err-check_stmt.ensures in
    search rules

pub check_stmts-loop-s-preserved : goal.check_stmts-loop-s-preserved
check_stmts-loop-s-preserved t c =
    let f = enclosing_of c.args.around in
    let k = c.loop-s.checker in
    let s = source_of c.s-item.result in
    let rest = map source_of (drop (c.loop-s.s-index + 1) c.args.all.now) in
    let here = opened_map source_of c.args.all.now c.loop-s.s-index c.s-item.result c.s-item.is (omega arith) in
    appended c.loop-s.invariant s rest here
    (stmt_outcome f k s) (all_outcome f (context_after k s) (stmts_of rest)) refl c.in_ok-check_stmt.ensures refl refl refl

pub nested_block-returns-in_err-all : goal.nested_block-returns-in_err-all
nested_block-returns-in_err-all t c = grind (arith, sources, refusals)

pub nested_block-returns : goal.nested_block-returns
nested_block-returns t c = grind (arith, sources, refusals)

pub if_stmt-returns-in_err-header : goal.if_stmt-returns-in_err-header
if_stmt-returns-in_err-header t c = grind (arith, sources, refusals)

pub if_stmt-returns-in_err-stmt : goal.if_stmt-returns-in_err-stmt
if_stmt-returns-in_err-stmt t c = grind (arith, sources, refusals)

pub if_stmt-returns : goal.if_stmt-returns
if_stmt-returns t c = grind (arith, sources, refusals)

pub for_stmt-returns-in_err-header : goal.for_stmt-returns-in_err-header
for_stmt-returns-in_err-header t c = grind (arith, sources, refusals)

pub for_stmt-returns-in_err-stmt : goal.for_stmt-returns-in_err-stmt
for_stmt-returns-in_err-stmt t c = grind (arith, sources, refusals)

pub for_stmt-returns : goal.for_stmt-returns
for_stmt-returns t c = grind (arith, sources, refusals)

pub check_if-returns-in_err-test : goal.check_if-returns-in_err-test
check_if-returns-in_err-test t c = grind (arith, sources, refusals)

pub check_if-returns-in_err-body : goal.check_if-returns-in_err-body
check_if-returns-in_err-body t c = grind (arith, sources, refusals)

pub check_if-returns-in_err-other_stmts : goal.check_if-returns-in_err-other_stmts
check_if-returns-in_err-other_stmts t c = grind (arith, sources, refusals)

pub check_if-returns : goal.check_if-returns
check_if-returns t c = grind (arith, sources, refusals)

pub check_loop-returns-in_err-test : goal.check_loop-returns-in_err-test
check_loop-returns-in_err-test t c = grind (arith, sources, refusals)

pub check_loop-returns-in_err-post : goal.check_loop-returns-in_err-post
check_loop-returns-in_err-post t c = grind (arith, sources, refusals)

pub check_loop-returns-in_err-body : goal.check_loop-returns-in_err-body
check_loop-returns-in_err-body t c = grind (arith, sources, refusals)

pub check_loop-returns : goal.check_loop-returns
check_loop-returns t c = grind (arith, sources, refusals)

pub check_stmt-returns-in-Block : goal.check_stmt-returns-in-Block
check_stmt-returns-in-Block t c = grind (arith, sources, refusals)

pub check_stmt-returns-in-If : goal.check_stmt-returns-in-If
check_stmt-returns-in-If t c = grind (arith, sources, refusals)

pub check_stmt-returns-in-For : goal.check_stmt-returns-in-For
check_stmt-returns-in-For t c = grind (arith, sources, refusals)
