use Rattle.std.proofs.Common.{inr, refl}
use Rattle.std.proofs.KnownBytes.{Appends-nil}
use Rattle.rgo_run.proofs.TextLemmas.{text_fails}
use Rattle.rgo_run.proofs.commands.emit_text.Goals as goal

pub returns-in-Err-clause-performs : goal.returns-in-Err-clause-performs
returns-in-Err-clause-performs g c =
    inr (rw c.from.ensures (text_fails c.args.text.now c.in-Err.error c.in-Err.ensures.err), (Appends-nil _, refl))
