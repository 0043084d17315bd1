use Rattle.std.proofs.Common.{length, sym, ap, ◌∙◌, subst}
use Rattle.rgo_region_interpreter.specs.declared.worlds.World.{World}
use Rattle.rgo_region_interpreter.specs.Works.{TakesStep}
use Rattle.rgo_region_interpreter.proofs.acts.Turns.{making_fails, making_goes, making_stays}
use Rattle.rgo_region_interpreter.proofs.worlds.World.act_making.Goals as goal

pub returns-then-not-goes_on : goal.returns-then-not-goes_on
returns-then-not-goes_on c = record {
  takes = λ s roomy within.
      making_stays c.args.self.now c.make-turned.new.self s c.args.limits c.args.g c.args.next.now c.args.making
      c.make-turned.result c.requires.kind roomy c.make-turned.ensures
      (sym c.goes_on.ensures ∙ c.if-not-goes_on.true);
}

pub returns-in-Err : goal.returns-in-Err
returns-in-Err c = record {
  takes = λ s roomy within.
      let w = c.args.self.now in
      subst (λ turned. TakesStep w c.place.new.self c.args.limits s c.args.g 1 turned) (sym c.unless_failed.ensures)
      (making_fails w c.make-turned.new.self s c.args.limits c.args.g c.args.next.now c.args.making
      c.make-turned.result c.requires.kind roomy c.make-turned.ensures c.place.new.self
      (sym c.goes_on.ensures ∙ c.if-not-goes_on.false) c.place.ensures.same);
}

pub returns : goal.returns
returns c = record {
  takes = λ s roomy within.
      making_goes c.args.self.now c.make-turned.new.self s c.args.limits c.args.g c.args.next.now c.args.making
      c.make-turned.result c.requires.kind roomy c.make-turned.ensures c.place.new.self c.settle.new.self
      c.len-object.result c.args.removes.now (sym c.goes_on.ensures ∙ c.if-not-goes_on.false)
      (c.len-object.ensures ∙ ap (λ (w : World). length w.state.memory.heap) c.self.view_is) c.in-Ok.ensures.placed
      c.place.ensures.same (c.requires.removes roomy.makes.at) c.settle.ensures.settled;
}
