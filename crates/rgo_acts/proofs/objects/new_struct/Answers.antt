use Rattle.std.proofs.Common.{◌+◌, ◌≤◌, subst}
use Rattle.rgo_acts.specs.Objects.{most_steps}
use Rattle.rgo_acts.proofs.new_objects.Kinds.{wants_struct}
use Rattle.rgo_acts.proofs.objects.new_struct.Goals as goal

pub object-requires-clause-wants : goal.object-requires-clause-wants
object-requires-clause-wants g c =
    wants_struct c.args.run.now c.args.actor.now c.args.next.now c.requires.before c.args.to c.args.number c.struct_words-words.result
    c.requires.is c.struct_words-words.ensures

pub returns-clause-cost : goal.returns-clause-cost
returns-clause-cost g c =
    subst (λ n. c.object.new.steps ≤ c.args.steps.now + most_steps c.args.run.now.setup n 0) c.struct_words-words.ensures c.object.ensures.cost
