use Rattle.rgo_runtime.proofs.ending.Playing.{ends_then}
use Rattle.rgo_runtime.proofs.runs.schedule.Goals as goal

pub returns-in-Some-clause-ends : goal.returns-in-Some-clause-ends
returns-in-Some-clause-ends g c =
    ends_then c.in-Some.why c.args.crew.now c.loop.crew c.schedule_once.new.crew (g.K.Sink.contents c.args.out.now) (g.K.Sink.contents c.loop.out)
    (g.K.Sink.contents c.schedule_once.new.out) c.loop.invariant.on c.in-Some.ensures.ends
