use Rattle.std.proofs.Common.{sym, ◌∙◌, subst}
use Rattle.rgo_region_interpreter.specs.Works.{TakesStep}
use Rattle.rgo_region_interpreter.proofs.acts.Turns.{only_stays}
use Rattle.rgo_region_interpreter.proofs.passing.Calling.{call_makes, calling_fails, calling_goes}
use Rattle.rgo_region_interpreter.proofs.acts.Quiet.{next_kept, prepared_kept}
use Rattle.rgo_region_interpreter.proofs.worlds.World.call.Goals as goal

pub enter-requires : goal.enter-requires
enter-requires c =
    let w = c.args.self.now in
    let v = c.transfer-turned.new.self in
    record {
      next = next_kept w v c.args.limits c.args.g c.transfer-turned.result c.transfer-turned.ensures c.args.next.now
          c.requires.next;
      prepared = prepared_kept w v c.args.limits c.args.g c.transfer-turned.result c.transfer-turned.ensures
          c.requires.ready.ready.works.prepared;
    }

pub returns-then-not-goes_on : goal.returns-then-not-goes_on
returns-then-not-goes_on c =
    let w = c.args.self.now in
    let g = c.args.g in
    let next = c.args.next.now in
    record {
      takes = λ s ready within.
          only_stays w c.transfer-turned.new.self s c.args.limits g next c.transfer-turned.result ready
          (call_makes w g next c.args.callee c.requires.next c.requires.calls) c.transfer-turned.ensures
          (sym c.goes_on.ensures ∙ c.if-not-goes_on.true);
    }

pub returns-in-Err : goal.returns-in-Err
returns-in-Err c =
    let w = c.args.self.now in
    let g = c.args.g in
    let next = c.args.next.now in
    record {
      takes = λ s ready within.
          subst (λ turned. TakesStep w c.enter.new.self c.args.limits s g 1 turned) (sym c.unless_failed.ensures)
          (calling_fails w c.transfer-turned.new.self s c.args.limits g next c.transfer-turned.result ready
          (call_makes w g next c.args.callee c.requires.next c.requires.calls) c.transfer-turned.ensures
          (sym c.goes_on.ensures ∙ c.if-not-goes_on.false) c.args.callee c.requires.calls c.enter.new.self
          c.enter.ensures.same);
    }

pub returns : goal.returns
returns c =
    let w = c.args.self.now in
    let g = c.args.g in
    let next = c.args.next.now in
    record {
      takes = λ s ready within.
          calling_goes w c.transfer-turned.new.self s c.args.limits g next c.transfer-turned.result ready
          (call_makes w g next c.args.callee c.requires.next c.requires.calls) c.transfer-turned.ensures
          (sym c.goes_on.ensures ∙ c.if-not-goes_on.false) c.args.callee c.requires.calls c.enter.new.self
          c.settle.new.self c.entry.result.now c.in-Ok.ensures.entered c.entry.ensures c.settle.ensures.settled;
    }
