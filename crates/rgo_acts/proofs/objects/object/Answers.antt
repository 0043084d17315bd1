use Rattle.std.proofs.Common.{◌+◌, ◌≤◌, refl, subst}
use Rattle.rgo_acts.specs.Objects.{most_steps}
use Rattle.rgo_acts.proofs.Standing.{acted_none}
use Rattle.rgo_acts.proofs.objects.object.Goals as goal

pub make_new-requires-clause-can : goal.make_new-requires-clause-can
make_new-requires-clause-can g c = c.in-Some.ensures.object

pub returns-in-Some-clause-cost : goal.returns-in-Some-clause-cost
returns-in-Some-clause-cost g c =
    let a = c.args in
    let words = c.in-Some.ensures.words in
    subst (λ n. c.make_new.new.steps ≤ a.steps.now + most_steps a.run.now.setup n a.before) words.0
    (subst (λ n. c.make_new.new.steps ≤ a.steps.now + most_steps a.run.now.setup c.in-Some.new.words n) words.1 c.make_new.ensures.cost)

pub returns-in-None-clause-made : goal.returns-in-None-clause-made
returns-in-None-clause-made g c =
    let a = c.args in
    let stands = c.requires.before.stands in
    record {
      acted = acted_none a.run.now a.actor.now a.actor.now stands refl refl stands.shows;
      ends = c.requires.wants.large c.in-None.ensures.object;
    }
