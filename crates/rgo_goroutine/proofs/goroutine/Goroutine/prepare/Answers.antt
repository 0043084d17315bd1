use Rattle.std.proofs.Common.{None, Some, arith, refl, sym, true, ◌∙◌}
use Rattle.rgo_goroutine.proofs.Advancing.{changed_as, told_same}
use Rattle.rgo_goroutine.proofs.Joining.{acts_then}
use Rattle.rgo_goroutine.proofs.goroutine.Goroutine.prepare.Goals as goal

pub returns-then-is_expanded-clause-ready : goal.returns-then-is_expanded-clause-ready
returns-then-is_expanded-clause-ready g c e =
    let done = c.in_default.ensures.done refl in
    record { empty = done.empty; expanded = sym c.is_expanded.ensures ∙ c.if-is_expanded.true; none = done.none }

pub expand-requires : goal.expand-requires
expand-requires g c =
    let done = c.in_default.ensures.done refl in
    let noted = changed_as c.args.turning.now c.attend_all.new.turning c.attend_all.new.turning.moved c.attend_all.ensures.same in
    let few = c.requires.noted in
    record {
      goes = c.in_default.ensures.acts.goes;
      noted = omega (arith, noted, few);
      still = record { empty = done.empty; not_yet = sym c.is_expanded.ensures ∙ c.if-is_expanded.false; none = done.none };
    }

pub returns-in-Some-expand-clause-acts : goal.returns-in-Some-expand-clause-acts
returns-in-Some-expand-clause-acts g c =
    acts_then c.args.run.now c.args.self.now c.attend_all.new.self c.expand.new.self c.args.turning.now c.attend_all.new.turning
    c.expand.new.turning (Some c.in-Some-expand.stop) c.in_default.ensures.acts c.in-Some-expand.ensures.acts

pub returns-in-Some-expand-clause-same : goal.returns-in-Some-expand-clause-same
returns-in-Some-expand-clause-same g c =
    told_same c.args.turning.now c.attend_all.new.turning c.expand.new.turning c.attend_all.new.turning.moved true
    c.attend_all.ensures.same c.expand.ensures.same

pub attend_all-requires-2 : goal.attend_all-requires-2
attend_all-requires-2 g c =
    let first = changed_as c.args.turning.now c.attend_all.new.turning c.attend_all.new.turning.moved c.attend_all.ensures.same in
    let second = changed_as c.attend_all.new.turning c.expand.new.turning true c.expand.ensures.same in
    let few = c.requires.noted in
    record {
      goes = c.in_default-expand.ensures.acts.goes;
      noted = omega (arith, first, second, few);
      none = λ at e. (c.in_default.ensures.done refl).none at (sym (c.in_default-expand.ensures.expanded refl).1 ∙ e);
    }

pub returns-clause-acts : goal.returns-clause-acts
returns-clause-acts g c =
    acts_then c.args.run.now c.args.self.now c.expand.new.self c.attend_all-2.new.self c.args.turning.now c.expand.new.turning
    c.attend_all-2.new.turning c.attend_all-2.result
    (acts_then c.args.run.now c.args.self.now c.attend_all.new.self c.expand.new.self c.args.turning.now c.attend_all.new.turning
    c.expand.new.turning None c.in_default.ensures.acts c.in_default-expand.ensures.acts)
    c.attend_all-2.ensures.acts

pub returns-clause-same : goal.returns-clause-same
returns-clause-same g c =
    told_same c.args.turning.now c.expand.new.turning c.attend_all-2.new.turning c.expand.new.turning.moved c.attend_all-2.new.turning.moved
    (told_same c.args.turning.now c.attend_all.new.turning c.expand.new.turning c.attend_all.new.turning.moved true
    c.attend_all.ensures.same c.expand.ensures.same)
    c.attend_all-2.ensures.same

pub returns-clause-ready : goal.returns-clause-ready
returns-clause-ready g c e =
    let done = c.attend_all-2.ensures.done e in
    record { empty = done.empty; expanded = done.expanded ∙ (c.in_default-expand.ensures.expanded refl).0; none = done.none }
