use Rattle.rgo_acts.proofs.clock.Ends.{full_ends}
use Rattle.rgo_acts.proofs.ends.too_many.Goals as goal

pub stop-requires-clause-cause : goal.stop-requires-clause-cause
stop-requires-clause-cause c =
    let start = c.requires.starts in
    full_ends c.args.run.now c.args.actor.now c.args.next.now c.requires.before start.0 start.1 start.2 c.requires.refused
