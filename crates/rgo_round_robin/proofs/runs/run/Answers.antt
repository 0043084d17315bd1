use Rattle.rgo_round_robin.proofs.Left.{itself}
use Rattle.rgo_round_robin.proofs.runs.run.Goals as goal

pub returns-in-Err-clause-runs : goal.returns-in-Err-clause-runs
returns-in-Err-clause-runs g c = λ given s shown ready.
    c.in-Err.ensures.ends.1 c.args.limits given s (g.K.Sink.contents c.args.out.now) shown ready

pub drive-requires-clause-between : goal.drive-requires-clause-between
drive-requires-clause-between g c =
    let begins = c.requires in
    record {
      given = begins.given;
      state = begins.state;
      shown = begins.shown;
      between = c.in-Ok.ensures.begins.1 c.args.limits begins.given begins.state begins.shown begins.ready;
    }

pub returns-clause-runs : goal.returns-clause-runs
returns-clause-runs g c = λ given s shown ready.
    let run = g.R.Running.view c.args.run.now in
    c.drive.ensures.runs run.machine given s (itself run given s shown)
    (c.in-Ok.ensures.begins.1 c.args.limits given s shown ready)
