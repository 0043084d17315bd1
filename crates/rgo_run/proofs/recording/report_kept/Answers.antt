use Rattle.std.proofs.Common.{subst}
use Rattle.rgo_run.specs.Calls.{sink_use}
use Rattle.rgo_run.specs.Recorded.{WritesJournal}
use Rattle.rgo_run.proofs.RecordLemmas.{kept_reported}
use Rattle.rgo_run.proofs.recording.report_kept.Goals as goal

pub returns : goal.returns
returns g c =
    let old = g.E.Sink.contents c.args.err.now in
    let mid = g.E.Sink.contents c.write_journal.new.err in
    let before = g.E.Sink.faults c.args.err.now in
    let between = g.E.Sink.faults c.write_journal.new.err in
    let broken = g.E.Sink.broken c.write_journal.new.err in
    kept_reported old mid _ before between _ broken _ c.args.kept.journal.items c.args.text.now c.args.kept.ending
    c.report.result
    (subst (λ b. WritesJournal b c.args.kept.journal.items (sink_use old mid before between broken))
    c.if-not-write_journal.false (rw c.deref.ensures.value at c.write_journal.ensures))
    c.report.ensures
