use Rattle.std.proofs.Common.{◌∙◌}
use Rattle.rgo_region_machine.specs.Owed.{next_duties}
use Rattle.rgo_region_machine.specs.States.{frames_of}
use Rattle.rgo_region_interpreter.proofs.owing.SettlingBoth.{settled_both}
use Rattle.rgo_region_interpreter.proofs.worlds.World.settle_both.Goals as goal

pub returns : goal.returns
returns c = record {
  settled = λ s works.
      let w = c.args.self.now in
      settled_both w c.owe.new.self c.remove_all.new.self c.owe-2.new.self c.remove_all-2.new.self s c.args.g
      c.args.removes.now c.args.j c.args.others.now works c.owe.ensures.same c.owe.ensures.others
      (c.remove_all.ensures.removed (next_duties w.code.now (frames_of s.plain c.args.g)) s
      (c.owe.ensures.works s _ works.works))
      (c.remove_all.ensures.done ∙ c.owe.ensures.done) c.owe-2.ensures.same c.owe-2.ensures.others
      c.owe-2.ensures.works c.remove_all-2.ensures.removed (c.remove_all-2.ensures.done ∙ c.owe-2.ensures.done);
}
