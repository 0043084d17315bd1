use Rattle.std.proofs.Common.{Some, sym, ◌∙◌}
use Rattle.rgo_goroutine.proofs.Attending.{a_duty, also, also_same, none_yet, one_more}
use Rattle.rgo_goroutine.proofs.goroutine.Goroutine.attend_each.Goals as goal

pub loop-self-init : goal.loop-self-init
loop-self-init g c =
    none_yet c.args.run.now c.args.self.now c.args.turning.now c.requires.goes c.requires.noted c.requires.rests

pub attend-requires-clause-first : goal.attend-requires-clause-first
attend-requires-clause-first g c =
    a_duty c.duty.result c.loop-self.self.actor.body.queue.duties (sym c.is_some.ensures ∙ c.loop-self-test.true) c.duty.ensures

pub returns-in-Some-clause-acts : goal.returns-in-Some-clause-acts
returns-in-Some-clause-acts g c =
    also c.args.run.now c.args.self.now c.loop-self.self c.args.turning.now c.loop-self.turning c.attend.new.turning
    c.loop-self.invariant c.attend.new.self (Some c.in-Some.stop) c.in-Some.ensures.acts

pub returns-in-Some-clause-same : goal.returns-in-Some-clause-same
returns-in-Some-clause-same g c =
    also_same c.args.run.now c.args.self.now c.loop-self.self c.args.turning.now c.loop-self.turning c.attend.new.turning
    c.loop-self.invariant c.attend.ensures.same

pub loop-self-preserved : goal.loop-self-preserved
loop-self-preserved g c =
    one_more c.args.run.now c.args.self.now c.loop-self.self c.args.turning.now c.loop-self.turning c.attend.new.turning
    c.loop-self.invariant c.attend.new.self c.attend.result c.in_default.is c.attend.ensures.acts c.attend.ensures.same
    (c.attend.ensures.done c.in_default.is)
