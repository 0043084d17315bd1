use Rattle.std.proofs.Common.{◌-◌, [], take, drop, length, refl}
use Rattle.std.proofs.KnownBytes.{Appends-nil}
use Rattle.rgo_run.specs.Calls.{use_of}
use Rattle.rgo_run.proofs.ReplayLemmas.{error_ends, error_not_written, not_read, not_usage, not_written, split_at, write_failed}
use Rattle.rgo_run.proofs.replaying.replay_bytes.Goals as goal

pub report_replay-requires-clause-written : goal.report_replay-requires-clause-written
report_replay-requires-clause-written g c =
    not_written c.args.bytes.now _ c.replay_text-ending.result _ (c.replay_text-ending.ensures c.args.bytes.now
    (rw c.items.ensures (split_at c.args.bytes.now c.in-Ok.picks.list c.in-Ok.picks.rest c.in-Ok.ensures)))

pub report_replay-requires-in-Err-clause-written : goal.report_replay-requires-in-Err-clause-written
report_replay-requires-in-Err-clause-written g c = rw c.from.ensures (error_not_written c.in-Err.error)

pub returns-in-Ok-clause-replays : goal.returns-in-Ok-clause-replays
returns-in-Ok-clause-replays g c = record {
  text = take (length c.args.bytes.now - c.in-Ok.picks.rest) (drop c.in-Ok.picks.rest c.args.bytes.now);
  ending = c.replay_text-ending.result;
  ends = c.replay_text-ending.ensures c.args.bytes.now
      (rw c.items.ensures (split_at c.args.bytes.now c.in-Ok.picks.list c.in-Ok.picks.rest c.in-Ok.ensures));
  told = c.report_replay.ensures;
}

pub returns-in-Err-clause-replays : goal.returns-in-Err-clause-replays
returns-in-Err-clause-replays g c = record {
  text = [];
  ending = c.from.result;
  ends = rw c.from.ensures (error_ends c.args.bytes.now c.in-Err.error
      (use_of g.K.Sink c.args.out.now c.args.out.now)
      c.in-Err.ensures (Appends-nil _, refl));
  told = c.report_replay-in-Err.ensures;
}

pub returns-in-Ok-clause-not_usage : goal.returns-in-Ok-clause-not_usage
returns-in-Ok-clause-not_usage g c = not_usage c.args.bytes.now _ _ _ (returns-in-Ok-clause-replays g c)

pub returns-in-Err-clause-not_usage : goal.returns-in-Err-clause-not_usage
returns-in-Err-clause-not_usage g c = not_usage c.args.bytes.now _ _ _ (returns-in-Err-clause-replays g c)

pub returns-in-Ok-clause-not_read : goal.returns-in-Ok-clause-not_read
returns-in-Ok-clause-not_read g c = not_read c.args.bytes.now _ _ _ (returns-in-Ok-clause-replays g c)

pub returns-in-Err-clause-not_read : goal.returns-in-Err-clause-not_read
returns-in-Err-clause-not_read g c = not_read c.args.bytes.now _ _ _ (returns-in-Err-clause-replays g c)

pub returns-in-Ok-clause-write_failed : goal.returns-in-Ok-clause-write_failed
returns-in-Ok-clause-write_failed g c = write_failed c.args.bytes.now _ _ _ (returns-in-Ok-clause-replays g c)

pub returns-in-Err-clause-write_failed : goal.returns-in-Err-clause-write_failed
returns-in-Err-clause-write_failed g c = write_failed c.args.bytes.now _ _ _ (returns-in-Err-clause-replays g c)
