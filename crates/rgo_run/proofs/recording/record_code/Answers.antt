use Rattle.rgo_run.specs.Calls.{use_of}
use Rattle.rgo_run.proofs.RecordLemmas.{keeps_noted}
use Rattle.rgo_run.proofs.recording.record_code.Goals as goal

pub returns-in-Ok-clause-keeps : goal.returns-in-Ok-clause-keeps
returns-in-Ok-clause-keeps g c =
    let new = c.run_recorded.new.out in
    let out = use_of g.K.Sink c.args.out.now new in
    λ text program is from.
    keeps_noted c.args.options text program c.args.code.now is from c.in-Ok.recorded out c.in-Ok.ensures.records c.requires
    (λ e. record { counted = c.in-Ok.ensures.fault e; broken = c.in-Ok.ensures.broken e }) c.in-Ok.ensures.kept
    c.keep.result.ending c.keep.result.journal.items c.keep.ensures.keeps
