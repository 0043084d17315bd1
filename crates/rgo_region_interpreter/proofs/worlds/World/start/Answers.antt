use Rattle.std.proofs.Common.{sym, ◌∙◌, subst, arith}
use Rattle.rgo_region_interpreter.specs.Works.{TakesStep}
use Rattle.rgo_region_interpreter.proofs.acts.Quiet.{prepared_kept}
use Rattle.rgo_region_interpreter.proofs.passing.Starts.{start_fails, start_settles, start_stays}
use Rattle.rgo_region_interpreter.proofs.worlds.World.start.Goals as goal

pub begin-requires : goal.begin-requires
begin-requires c = record {
  prepared = prepared_kept c.args.self.now c.plain-turned.new.self c.args.limits c.args.g c.plain-turned.result
      c.plain-turned.ensures c.requires.ready.ready.works.prepared;
}

pub returns-then-not-goes_on : goal.returns-then-not-goes_on
returns-then-not-goes_on c = record {
  takes = λ s ready within.
      start_stays c.args.self.now c.plain-turned.new.self s c.args.limits c.args.g c.args.next.now c.args.callee
      c.plain-turned.result ready c.requires.next c.requires.starts c.plain-turned.ensures
      (sym c.goes_on.ensures ∙ c.if-not-goes_on.true);
}

pub returns-in-Err : goal.returns-in-Err
returns-in-Err c = record {
  takes = λ s ready within.
      subst (λ turned. TakesStep c.args.self.now c.begin.new.self c.args.limits s c.args.g 1 turned)
      (sym c.unless_failed.ensures)
      (start_fails c.args.self.now c.plain-turned.new.self s c.args.limits c.args.g c.args.next.now c.args.callee
      c.plain-turned.result ready c.requires.next c.requires.starts c.plain-turned.ensures
      (sym c.goes_on.ensures ∙ c.if-not-goes_on.false) c.begin.new.self c.begin.ensures.same);
}

pub returns : goal.returns
returns c = record {
  takes = λ s ready within.
      let number = c.len-child.ensures in
      let long = c.plain-turned.new.self.holders.ok.0 in
      start_settles c.args.self.now c.plain-turned.new.self s c.args.limits c.args.g c.args.next.now c.args.callee
      c.plain-turned.result ready c.requires.next c.requires.starts c.plain-turned.ensures
      (sym c.goes_on.ensures ∙ c.if-not-goes_on.false) c.begin.new.self c.in-Ok.ensures.begun c.settle_both.new.self
      c.removes.result.now c.len-child.result c.entry.result.now c.removes.ensures (omega (arith, number, long))
      c.entry.ensures
      c.settle_both.ensures.settled;
}
