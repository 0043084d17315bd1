use Rattle.rgo_goroutine.proofs.Dispatching.{can_act, near_halts, near_then}
use Rattle.rgo_goroutine.proofs.goroutine.Goroutine.dispatch.Goals as goal

pub returns-then-not-can_count : goal.returns-then-not-can_count
returns-then-not-can_count g c =
    near_halts c.args.run.now c.args.self.now c.come_near.new.self c.args.turning.now
    (c.come_near.ensures c.args.turning.now.left c.requires.at.goes) c.requires.noted

pub perform-requires-clause-can : goal.perform-requires-clause-can
perform-requires-clause-can g c =
    can_act c.args.run.now c.args.self.now c.come_near.new.self c.args.next.now c.args.turning.now c.requires.at
    (c.come_near.ensures c.args.turning.now.left c.requires.at.goes) c.requires.rests (c.can_count.ensures.0 c.if-not-can_count.false)
    c.requires.noted

pub returns : goal.returns
returns g c =
    near_then c.args.run.now c.args.self.now c.come_near.new.self c.perform.new.self c.args.turning.now c.perform.new.turning
    c.perform.result (c.come_near.ensures c.args.turning.now.left c.requires.at.goes) c.requires.noted c.perform.ensures
