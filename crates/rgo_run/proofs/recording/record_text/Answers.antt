use Rattle.std.proofs.Common.{refl}
use Rattle.std.proofs.KnownBytes.{Appends-nil}
use Rattle.rgo_run.specs.Calls.{use_of}
use Rattle.rgo_run.proofs.RecordLemmas.{records_kept, refuses, write_failed}
use Rattle.rgo_run.proofs.TextLemmas.{text_fails}
use Rattle.rgo_run.proofs.recording.record_text.Goals as goal

pub returns-in-Ok-clause-records : goal.returns-in-Ok-clause-records
returns-in-Ok-clause-records g c =
    let is = c.in-Ok.ensures.ok in
    records_kept c.args.options c.args.text.now c.record_code-kept.result.ending
    c.record_code-kept.result.journal.items c.report_kept.result _ _
    (c.record_code-kept.ensures.keeps c.args.text.now is.program is.is_program is.from) c.report_kept.ensures

pub returns-in-Ok-clause-write_failed : goal.returns-in-Ok-clause-write_failed
returns-in-Ok-clause-write_failed g c =
    write_failed c.args.options c.args.text.now _ _ _ (returns-in-Ok-clause-records g c)

pub returns-in-Err-clause-records : goal.returns-in-Err-clause-records
returns-in-Err-clause-records g c =
    refuses c.args.options c.args.text.now c.from.result c.report.result
    (use_of g.K.Sink c.args.out.now c.args.out.now) _
    (rw c.from.ensures (text_fails c.args.text.now c.in-Err.error c.in-Err.ensures.err)) (Appends-nil _, refl)
    c.report.ensures
