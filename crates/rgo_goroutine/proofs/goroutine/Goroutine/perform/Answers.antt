use Rattle.rgo_goroutine.proofs.Dispatching.{unless}
use Rattle.rgo_goroutine.proofs.Instructing.{before_of}
use Rattle.rgo_goroutine.proofs.goroutine.Goroutine.perform.Goals as goal

pub jump-requires-clause-before : goal.jump-requires-clause-before
jump-requires-clause-before g c = before_of c.args.run.now c.args.self.now c.args.next.now c.args.turning.now c.requires.can

pub branch-self-requires-clause-before : goal.branch-self-requires-clause-before
branch-self-requires-clause-before g c = before_of c.args.run.now c.args.self.now c.args.next.now c.args.turning.now c.requires.can

pub returns-in-Jump : goal.returns-in-Jump
returns-in-Jump g c =
    unless c.args.run.now c.args.self.now c.jump.new.actor c.args.next.now c.args.turning.now c.unless_refused.new.turning
    c.unless_refused.result c.jump.result c.requires.can c.jump.ensures.acted c.unless_refused.ensures.made c.unless_refused.ensures.refused

pub returns-in-Branch : goal.returns-in-Branch
returns-in-Branch g c =
    unless c.args.run.now c.args.self.now c.branch-self.new.actor c.args.next.now c.args.turning.now c.unless_refused-in-Branch.new.turning
    c.unless_refused-in-Branch.result c.branch-self.result c.requires.can c.branch-self.ensures.acted c.unless_refused-in-Branch.ensures.made
    c.unless_refused-in-Branch.ensures.refused
