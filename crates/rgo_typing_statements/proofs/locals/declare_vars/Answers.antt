-- Declarations of local variables: the first that is refused ends the loop, and a turn passes one.
use Rattle.std.proofs.Common.{◌+◌, map, drop, refl, arith, rules}
use Rattle.rgo_ast.specs.Views.{local_var_of}
use Rattle.rgo_typing_rules.specs.Checks.{Refuses}
use Rattle.rgo_typing_rules.specs.Sites.{first_refusal}
use Rattle.rgo_typing_statements.specs.Outcomes.{var_outcome, vars_outcome}
use Rattle.rgo_typing_statements.specs.Statements.{local_vars_sites, after_var}
use Rattle.rgo_typing_packages.proofs.Lists.{opened_map}
use Rattle.rgo_typing_statements.proofs.Turns.{refused_stmt, appended}
use Rattle.rgo_typing_statements.proofs.locals.declare_vars.Goals as goal

pub returns-in_err-declare_var : goal.returns-in_err-declare_var
returns-in_err-declare_var c =
    let e = c.in_err-declare_var.field-0.0 in
    let k = c.loop-var.checker in
    let v = c.var-item.result in
    let rest = map local_var_of (drop (c.loop-var.var-index + 1) c.args.vars.now) in
    let here = opened_map local_var_of c.args.vars.now c.loop-var.var-index v c.var-item.is (omega arith) in
    let refuses : Refuses e (first_refusal (local_vars_sites c.args.checker.now (map local_var_of c.args.vars.now))) =
    refused_stmt c.loop-var.invariant (local_var_of v) rest here
    (var_outcome k (local_var_of v)) (vars_outcome (after_var k (local_var_of v)) rest) refl e c.in_err-declare_var.ensures in
    search rules

pub loop-var-preserved : goal.loop-var-preserved
loop-var-preserved c =
    let k = c.loop-var.checker in
    let v = c.var-item.result in
    let rest = map local_var_of (drop (c.loop-var.var-index + 1) c.args.vars.now) in
    let here = opened_map local_var_of c.args.vars.now c.loop-var.var-index v c.var-item.is (omega arith) in
    appended c.loop-var.invariant (local_var_of v) rest here
    (var_outcome k (local_var_of v)) (vars_outcome (after_var k (local_var_of v)) rest) refl c.in_ok-declare_var.ensures refl refl refl
