use Rattle.rgo_acts.proofs.clock.Ends.{deep_ends}
use Rattle.rgo_acts.proofs.ends.too_deep.Goals as goal

pub stop-requires-clause-cause : goal.stop-requires-clause-cause
stop-requires-clause-cause c =
    let call = c.requires.calls in
    deep_ends c.args.run.now c.args.actor.now c.args.next.now c.requires.before call.0 call.1 call.2 call.3 c.requires.deep
