use Rattle.std.proofs.Common.{◌∙◌, sym, ap, subst}
use Rattle.rgo_region_machine.specs.Owed.{next_duties}
use Rattle.rgo_region_interpreter.specs.Works.{Attended}
use Rattle.rgo_region_interpreter.proofs.stepping.Taking.{settled}
use Rattle.rgo_region_interpreter.proofs.worlds.World.settle_end.Goals as goal

pub returns : goal.returns
returns c = record {
  settled = λ s h there none works others.
      let w = c.args.self.now in
      let g = c.args.g in
      settled w c.owe.new.self c.end_base.new.self s g c.owe.ensures.same c.owe.ensures.others others
      (subst (Attended c.owe.new.self c.end_base.new.self s g) (sym (ap (next_duties w.code.now) none))
      (c.end_base.ensures.ended s h there (c.owe.ensures.works s _ works)))
      (c.end_base.ensures.done ∙ c.owe.ensures.done);
}
