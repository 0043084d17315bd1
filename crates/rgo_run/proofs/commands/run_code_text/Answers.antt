use Rattle.std.proofs.Common.{inr, refl}
use Rattle.std.proofs.KnownBytes.{Appends-nil}
use Rattle.rgo_run.specs.Runs.{of_code}
use Rattle.rgo_run.proofs.TextLemmas.{code_text_fails}
use Rattle.rgo_run.proofs.commands.run_code_text.Goals as goal

pub returns-in-Ok-clause-performs : goal.returns-in-Ok-clause-performs
returns-in-Ok-clause-performs g c =
    let is = c.in-Ok.ensures.ok in
    c.run_code.ensures.performs c.args.text.now (of_code c.in-Ok.code) (refl, is.is_text, is.checked)
    (refl, is.checked, is.ascends)

pub returns-in-Err-clause-performs : goal.returns-in-Err-clause-performs
returns-in-Err-clause-performs g c =
    inr (rw c.from.ensures (code_text_fails c.args.text.now c.in-Err.error c.in-Err.ensures.err), (Appends-nil _, refl))
