use Rattle.rgo_run.specs.declared.endings.TextKind.TheVariants as text_kind
use Rattle.rgo_run.proofs.TextLemmas.{checks_in_vain, text_fails}
use Rattle.rgo_run.proofs.commands.check_only.Goals.{in-Ok, in-Err}
use Rattle.rgo_run.proofs.commands.check_only.Goals as goal

pub returns : goal.returns
returns c = elim c.match-check_text.branch [
  | in-Ok w ↦ rw w.result-is (w.in-Ok.ensures.ok.tree, w.in-Ok.ensures.ok.is_well_typed)
  | in-Err w ↦ rw w.result-is (rw w.from.ensures
      (checks_in_vain text_kind.Go c.args.text.now _ (text_fails c.args.text.now w.in-Err.error w.in-Err.ensures.err)))
]
