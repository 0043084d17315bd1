use Rattle.rgo_run.proofs.ProgramLemmas.{compiled, is_typed}
use Rattle.rgo_run.proofs.pipeline.compile.Goals as goal

pub insert-requires-clause-typed : goal.insert-requires-clause-typed
insert-requires-clause-typed c = is_typed c.args.text.now _ c.in_ok-tac.ensures.ok

pub insert-requires-clause-family : goal.insert-requires-clause-family
insert-requires-clause-family c = c.in_ok-summaries.ensures.closed

pub returns-clause-ok : goal.returns-clause-ok
returns-clause-ok c =
    rw c.new.ensures (compiled c.args.text.now _ _ _ c.in_ok-tac.ensures.ok c.in_ok-summaries.ensures
    c.in_ok-code.ensures.erased c.in_ok-code.ensures.declared c.in_ok-code.ensures.classes c.in_ok-code.ensures.checked
    c.ascends.ensures)
