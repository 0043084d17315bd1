use Rattle.rgo_goroutine.proofs.Dispatching.{unless}
use Rattle.rgo_goroutine.proofs.goroutine.Goroutine.come_back.Goals as goal

pub returns : goal.returns
returns c =
    unless c.args.run.now c.args.self.now c.come_back.new.actor c.args.next.now c.args.turning.now c.unless_refused.new.turning
    c.unless_refused.result c.come_back.result c.requires.can c.come_back.ensures.acted c.unless_refused.ensures.made
    c.unless_refused.ensures.refused
