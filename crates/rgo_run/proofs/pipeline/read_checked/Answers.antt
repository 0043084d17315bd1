use Rattle.std.proofs.Common.{arith}
use Rattle.std.proofs.lemmas.Result.{err_from_is_err_and}
use Rattle.rgo_run.proofs.TextLemmas.{check_fails, read_fails}
use Rattle.rgo_run.proofs.pipeline.read_checked.Goals as goal

pub returns-in_err-code-clause-err : goal.returns-in_err-code-clause-err
returns-in_err-code-clause-err c =
    let p = err_from_is_err_and c.from_residual.result c.from_residual.ensures.1 in
    rw (p.1, p.2) (read_fails c.args.text.now c.in_err-code.field-0.0 (omega (arith, c.if-text-gt-CODE_LIMIT.false))
    c.in_err-code.ensures.read)

pub returns-in_err-check_code-clause-err : goal.returns-in_err-check_code-clause-err
returns-in_err-check_code-clause-err c =
    let p = err_from_is_err_and c.from_residual-in_err-check_code.result c.from_residual-in_err-check_code.ensures.1 in
    rw (p.1, p.2)
    (check_fails c.args.text.now _ c.in_err-check_code.field-0.0 (record {
      within = omega (arith, c.if-text-gt-CODE_LIMIT.false);
      written = c.in_ok-code.ensures.read.1;
      text_is = c.in_ok-code.ensures.read.0;
    }) c.in_err-check_code.ensures.checked)

pub returns-clause-ok : goal.returns-clause-ok
returns-clause-ok c = rw c.new.ensures (record {
  is_text = record {
    within = omega (arith, c.if-text-gt-CODE_LIMIT.false);
    written = c.in_ok-code.ensures.read.1;
    text_is = c.in_ok-code.ensures.read.0;
  };
  checked = c.in_ok-check_code.ensures.checked;
  ascends = c.ascends.ensures;
})
