use Rattle.std.proofs.Common.{None, Some, arith, inl, inr, refl}
use Rattle.rgo_goroutine.proofs.Joining.{acts_then}
use Rattle.rgo_goroutine.proofs.TurnActs.{acts_none, stopped, used_up}
use Rattle.rgo_goroutine.proofs.goroutine.Goroutine.proceed.Goals as goal

pub loop-turning-init : goal.loop-turning-init
loop-turning-init g c = acts_none c.args.run.now c.args.self.now c.args.turning.now c.requires.goes c.requires.noted

pub loop-turning-preserved : goal.loop-turning-preserved
loop-turning-preserved g c =
    acts_then c.args.run.now c.args.self.now c.loop-turning.self c.advance.new.self c.args.turning.now c.loop-turning.turning
    c.advance.new.turning None c.loop-turning.invariant c.in_default.ensures.acts

pub loop-turning-smaller : goal.loop-turning-smaller
loop-turning-smaller g c = c.in_default.ensures.progress refl

pub returns-in-Some : goal.returns-in-Some
returns-in-Some g c =
    stopped c.args.run.now c.args.self.now c.advance.new.self c.args.turning.now c.advance.new.turning c.in-Some.stop
    (acts_then c.args.run.now c.args.self.now c.loop-turning.self c.advance.new.self c.args.turning.now c.loop-turning.turning
    c.advance.new.turning (Some c.in-Some.stop) c.loop-turning.invariant c.in-Some.ensures.acts)

-- it has changed as much as its list can have
pub returns-else-turning-lt6 : goal.returns-else-turning-lt6
returns-else-turning-lt6 g c =
    let within = c.loop-turning.invariant.noted in
    let all = c.if-turning-lt6.false in
    used_up c.args.run.now c.args.self.now c.loop-turning.self c.args.turning.now c.loop-turning.turning c.loop-turning.invariant
    (inr (omega (arith, within, all)))

-- it has made all its instructions
pub returns-after-loop-turning : goal.returns-after-loop-turning
returns-after-loop-turning g c =
    let none = c.loop-turning-test.false in
    used_up c.args.run.now c.args.self.now c.loop-turning.self c.args.turning.now c.loop-turning.turning c.loop-turning.invariant
    (inl (omega (arith, none)))
