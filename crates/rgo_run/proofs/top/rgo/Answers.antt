use Rattle.std.proofs.Common.{refl}
use Rattle.std.proofs.KnownBytes.{Appends-nil}
use Rattle.rgo_run.proofs.ReplayLemmas.{claim_of_bytes, claim_of_records, claim_of_text, claim_of_words, held, ran, unfinished}
use Rattle.rgo_run.proofs.top.rgo.Goals as goal

pub returns-in-Replay-clause-headline : goal.returns-in-Replay-clause-headline
returns-in-Replay-clause-headline g c =
    claim_of_bytes _ c.in-Ok.command c.in-Ok.text.items c.in-Ok.ensures.ok c.in-Replay.is
    (rw c.deref.ensures.value at c.replay_bytes.ensures.replays)

pub returns-in-Record-clause-headline : goal.returns-in-Record-clause-headline
returns-in-Record-clause-headline g c =
    claim_of_records _ c.in-Ok.command c.in-Ok.text.items c.in-Record.options c.in-Ok.ensures.ok c.in-Record.is
    (rw c.deref-in-Record.ensures.value at c.record_text.ensures.records)

pub returns-in-Record-clause-ran : goal.returns-in-Record-clause-ran
returns-in-Record-clause-ran g c = ran _ (returns-in-Record-clause-headline g c)

pub returns-in-Record-clause-replayed : goal.returns-in-Record-clause-replayed
returns-in-Record-clause-replayed g c = unfinished _ (returns-in-Record-clause-headline g c)

pub returns-in-Record-clause-held : goal.returns-in-Record-clause-held
returns-in-Record-clause-held g c = held _ (returns-in-Record-clause-headline g c)

pub returns-in_default-command-clause-headline : goal.returns-in_default-command-clause-headline
returns-in_default-command-clause-headline g c =
    claim_of_text _ c.in-Ok.command c.in-Ok.text.items c.perform-ending.result c.in-Ok.ensures.ok c.in_default.not-Replay
    c.in_default-command.not-Record (rw c.deref-in-Ok.ensures.value at c.perform-ending.ensures.performs) (rw c.deref-in-Ok-2.ensures.value at c.report.ensures)

pub returns-in-Err-clause-headline : goal.returns-in-Err-clause-headline
returns-in-Err-clause-headline g c =
    claim_of_words _ c.in-Err.ending c.in-Err.ensures.err (Appends-nil _, refl) c.report-in-Err.ensures

pub returns-in-Replay-clause-ran : goal.returns-in-Replay-clause-ran
returns-in-Replay-clause-ran g c = ran _ (returns-in-Replay-clause-headline g c)

pub returns-in_default-command-clause-ran : goal.returns-in_default-command-clause-ran
returns-in_default-command-clause-ran g c = ran _ (returns-in_default-command-clause-headline g c)

pub returns-in-Err-clause-ran : goal.returns-in-Err-clause-ran
returns-in-Err-clause-ran g c = ran _ (returns-in-Err-clause-headline g c)

pub returns-in-Replay-clause-replayed : goal.returns-in-Replay-clause-replayed
returns-in-Replay-clause-replayed g c = unfinished _ (returns-in-Replay-clause-headline g c)

pub returns-in_default-command-clause-replayed : goal.returns-in_default-command-clause-replayed
returns-in_default-command-clause-replayed g c = unfinished _ (returns-in_default-command-clause-headline g c)

pub returns-in-Err-clause-replayed : goal.returns-in-Err-clause-replayed
returns-in-Err-clause-replayed g c = unfinished _ (returns-in-Err-clause-headline g c)

pub returns-in-Replay-clause-held : goal.returns-in-Replay-clause-held
returns-in-Replay-clause-held g c = held _ (returns-in-Replay-clause-headline g c)

pub returns-in_default-command-clause-held : goal.returns-in_default-command-clause-held
returns-in_default-command-clause-held g c = held _ (returns-in_default-command-clause-headline g c)
