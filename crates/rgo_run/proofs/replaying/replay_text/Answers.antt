use Rattle.std.proofs.Common.{refl}
use Rattle.std.proofs.KnownBytes.{Appends-nil}
use Rattle.rgo_run.specs.Calls.{use_of}
use Rattle.rgo_run.proofs.ReplayLemmas.{refused_text, replayed_text}
use Rattle.rgo_run.proofs.TextLemmas.{text_fails}
use Rattle.rgo_run.proofs.replaying.replay_text.Goals as goal

pub returns-in-Ok : goal.returns-in-Ok
returns-in-Ok g c = replayed_text c.args.text.now c.args.picks.now c.replay.result _ (record {
  code = _;
  is_code = c.in-Ok.ensures.ok;
  replays = c.replay.ensures.replays;
  failed = λ e. record { counted = c.replay.ensures.fault e; broken = c.replay.ensures.broken e };
  held = c.replay.ensures.held;
})

pub returns-in-Err : goal.returns-in-Err
returns-in-Err g c = refused_text c.args.text.now c.args.picks.now c.from.result
    (use_of g.K.Sink c.args.out.now c.args.out.now)
    (rw c.from.ensures (text_fails c.args.text.now c.in-Err.error c.in-Err.ensures.err)) (Appends-nil _, refl)
