use Rattle.std.proofs.Common.{sym}
use Rattle.rgo_region_interpreter.proofs.acts.Turns.{only_goes, only_stays}
use Rattle.rgo_region_interpreter.proofs.worlds.World.act_only.Goals as goal

pub returns-then-goes_on : goal.returns-then-goes_on
returns-then-goes_on c = record {
  takes = λ s ready within.
      only_goes c.args.self.now c.plain-turned.new.self s c.args.limits c.args.g c.args.next.now c.plain-turned.result
      ready c.requires.makes c.plain-turned.ensures c.requires.kind c.settle.new.self c.args.removes.now
      (sym c.if-goes_on.ensures) (c.requires.removes c.requires.makes.at) c.settle.ensures.settled;
}

pub returns-else-goes_on : goal.returns-else-goes_on
returns-else-goes_on c = record {
  takes = λ s ready within.
      only_stays c.args.self.now c.plain-turned.new.self s c.args.limits c.args.g c.args.next.now c.plain-turned.result
      ready c.requires.makes c.plain-turned.ensures (sym c.if-goes_on.ensures);
}
