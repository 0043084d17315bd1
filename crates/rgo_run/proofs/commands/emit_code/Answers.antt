use Rattle.std.proofs.Common.{subst}
use Rattle.rgo_code.specs.Erasure.{erased}
use Rattle.rgo_run.specs.Constants.{TacConstantsFit}
use Rattle.rgo_run.proofs.TextLemmas.{emitted}
use Rattle.rgo_run.proofs.commands.emit_code.Goals as goal

pub returns-in-Ok-clause-performs : goal.returns-in-Ok-clause-performs
returns-in-Ok-clause-performs g c = λ text is.
    emitted text _ _ _ _ is (rw c.code.ensures.code at c.in-Ok.ensures.text)
    (subst (λ code. TacConstantsFit (erased code)) c.code.ensures.code c.in-Ok.ensures.fits)
    (rw c.deref.ensures.value at c.write_code.ensures)
