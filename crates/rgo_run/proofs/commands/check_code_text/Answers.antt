use Rattle.rgo_run.specs.declared.endings.TextKind.TheVariants as text_kind
use Rattle.rgo_run.proofs.TextLemmas.{checks_in_vain, code_text_fails}
use Rattle.rgo_run.proofs.commands.check_code_text.Goals.{in-Ok, in-Err}
use Rattle.rgo_run.proofs.commands.check_code_text.Goals as goal

pub returns : goal.returns
returns c = elim c.match-read_checked.branch [
  | in-Ok w ↦ let is = w.in-Ok.ensures.ok in
      rw w.result-is (record { code = w.in-Ok.field-0; is_text = is.is_text; checked = is.checked })
  | in-Err w ↦ rw w.result-is (rw w.from.ensures
      (checks_in_vain text_kind.Code c.args.text.now _ (code_text_fails c.args.text.now w.in-Err.error w.in-Err.ensures.err)))
]
