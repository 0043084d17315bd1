use Rattle.std.proofs.Common.{sym}
use Rattle.rgo_region_interpreter.proofs.acts.Turns.{only_stays}
use Rattle.rgo_region_interpreter.proofs.passing.Returning.{return_makes_none, to_caller, to_none}
use Rattle.rgo_region_interpreter.proofs.worlds.World.give_back.Goals as goal

pub returns-in-Some : goal.returns-in-Some
returns-in-Some c = record {
  takes = λ s ready within.
      let w = c.args.self.now in
      let g = c.args.g in
      let returns = c.requires.next in
      let makes = return_makes_none w g returns.0 returns.2 returns.1 returns.3 in
      to_caller w c.transfer-turned.new.self s c.args.limits g returns.0 c.transfer-turned.result ready makes returns.2
      returns.3 c.transfer-turned.ensures (sym c.if-goes_on.ensures) c.come_back.new.self c.come_back.ensures.back
      c.in-Some.call c.protects.result.now c.removes.result.now c.settle_call.new.self
      (c.in-Some.ensures makes.at.frame makes.at.callers makes.at.frames) c.protects.ensures c.removes.ensures
      c.settle_call.ensures.settled;
}

pub returns-in-None : goal.returns-in-None
returns-in-None c = record {
  takes = λ s ready within.
      let w = c.args.self.now in
      let g = c.args.g in
      let returns = c.requires.next in
      let makes = return_makes_none w g returns.0 returns.2 returns.1 returns.3 in
      to_none w c.transfer-turned.new.self s c.args.limits g returns.0 c.transfer-turned.result ready makes returns.2
      returns.3 c.transfer-turned.ensures (sym c.if-goes_on.ensures) c.come_back.new.self c.come_back.ensures.back
      c.settle_end.new.self (c.in-None.ensures makes.at.frame makes.at.callers makes.at.frames)
      c.settle_end.ensures.settled;
}

pub returns-else-goes_on : goal.returns-else-goes_on
returns-else-goes_on c = record {
  takes = λ s ready within.
      let w = c.args.self.now in
      let g = c.args.g in
      let returns = c.requires.next in
      only_stays w c.transfer-turned.new.self s c.args.limits g returns.0 c.transfer-turned.result ready
      (return_makes_none w g returns.0 returns.2 returns.1 returns.3) c.transfer-turned.ensures
      (sym c.if-goes_on.ensures);
}
