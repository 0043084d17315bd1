use Rattle.std.proofs.Common.{◌∙◌}
use Rattle.rgo_region_machine.specs.Owed.{next_duties}
use Rattle.rgo_region_machine.specs.States.{frames_of}
use Rattle.rgo_region_interpreter.proofs.stepping.Taking.{settled}
use Rattle.rgo_region_interpreter.proofs.worlds.World.settle.Goals as goal

pub returns : goal.returns
returns c = record {
  settled = λ s works others.
      let w = c.args.self.now in
      settled w c.owe.new.self c.remove_all.new.self s c.args.g c.owe.ensures.same
      c.owe.ensures.others others
      (c.remove_all.ensures.removed (next_duties w.code.now (frames_of s.plain c.args.g)) s (c.owe.ensures.works s _ works))
      (c.remove_all.ensures.done ∙ c.owe.ensures.done);
}
