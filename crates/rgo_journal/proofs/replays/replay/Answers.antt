use Rattle.rgo_journal.proofs.Replaying.{not_begun, not_written, replayed}
use Rattle.rgo_journal.proofs.replays.replay.Goals as goal

pub returns-in_default-clause-replays : goal.returns-in_default-clause-replays
returns-in_default-clause-replays g c =
    not_begun c.args.code.now c.args.picks.now (g.K.Sink.contents c.args.out.now)

pub returns-in-Ok-write_all-clause-replays : goal.returns-in-Ok-write_all-clause-replays
returns-in-Ok-write_all-clause-replays g c =
    replayed c.args.code.now c.args.picks.now c.take_picks-end.new.state.state c.take_picks-end.result
    (g.K.Sink.contents c.args.out.now) (g.K.Sink.contents c.write_all.new.sink)
    (rw c.in-Ok.ensures.code at c.take_picks-end.ensures.ends) c.take_picks-end.ensures.whole
    (rw c.tac_printed.ensures at c.in-Ok-write_all.ensures.ok)

pub returns-clause-replays : goal.returns-clause-replays
returns-clause-replays g c =
    not_written c.args.code.now c.args.picks.now c.take_picks-end.new.state.state c.take_picks-end.result
    c.in-Err.field-0.written (g.K.Sink.contents c.args.out.now) (g.K.Sink.contents c.write_all.new.sink)
    (rw c.in-Ok.ensures.code at c.take_picks-end.ensures.ends)
    (rw c.tac_printed.ensures at c.in-Err.ensures.written.grown)
