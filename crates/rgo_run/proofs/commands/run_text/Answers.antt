use Rattle.std.proofs.Common.{inr, refl}
use Rattle.std.proofs.KnownBytes.{Appends-nil}
use Rattle.rgo_run.specs.Runs.{of_program}
use Rattle.rgo_run.proofs.TextLemmas.{text_fails}
use Rattle.rgo_run.proofs.commands.run_text.Goals as goal

pub returns-in-Ok-clause-performs : goal.returns-in-Ok-clause-performs
returns-in-Ok-clause-performs g c =
    let is = c.in-Ok.ensures.ok in
    c.run_code.ensures.performs c.args.text.now (of_program is.program) (refl, is.is_program) is.from

pub returns-in-Err-clause-performs : goal.returns-in-Err-clause-performs
returns-in-Err-clause-performs g c =
    inr (rw c.from.ensures (text_fails c.args.text.now c.in-Err.error c.in-Err.ensures.err), (Appends-nil _, refl))
