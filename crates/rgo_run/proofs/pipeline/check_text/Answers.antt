use Rattle.std.proofs.Common.{arith}
use Rattle.std.proofs.lemmas.Result.{err_from_is_err_and}
use Rattle.rgo_run.proofs.TextLemmas.{lex_fails, type_fails}
use Rattle.rgo_run.proofs.pipeline.check_text.Goals as goal

pub returns-in_err-lexemes-clause-err : goal.returns-in_err-lexemes-clause-err
returns-in_err-lexemes-clause-err c =
    let p = err_from_is_err_and c.from_residual.result c.from_residual.ensures.1 in
    rw (p.1, p.2) (lex_fails c.args.text.now c.in_err-lexemes.field-0.0 (omega (arith, c.if-text-gt-TEXT_LIMIT.false))
    c.in_err-lexemes.ensures.refused)

pub returns-in_err-check-clause-err : goal.returns-in_err-check-clause-err
returns-in_err-check-clause-err c =
    let p = err_from_is_err_and c.from_residual-in_err-check.result c.from_residual-in_err-check.ensures.1 in
    rw (p.1, p.2)
    (type_fails c.args.text.now _ c.in_err-check.field-0.0 c.in_ok-tree.ensures.ok c.in_err-check.ensures.checked)
