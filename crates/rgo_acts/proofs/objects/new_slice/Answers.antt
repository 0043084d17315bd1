use Rattle.std.proofs.Common.{◌+◌, ◌≤◌, [], subst}
use Rattle.rgo_acts.specs.Objects.{most_steps}
use Rattle.rgo_acts.proofs.before.Instructions.{first_in, newest_is, reads_it}
use Rattle.rgo_acts.proofs.new_objects.Kinds.{slice_traps, wants_slice}
use Rattle.rgo_acts.proofs.objects.new_slice.Goals as goal

pub word-elements-requires : goal.word-elements-requires
word-elements-requires g c =
    reads_it c.args.run.now c.args.actor.now c.args.next.now c.requires.before _ _ _ c.requires.is c.args.size (first_in c.args.size [])

pub returns-then-elements-ge-FIRST_NEGATIVE-clause-made : goal.returns-then-elements-ge-FIRST_NEGATIVE-clause-made
returns-then-elements-ge-FIRST_NEGATIVE-clause-made g c =
    slice_traps c.args.run.now c.args.actor.now c.args.next.now c.requires.before c.args.to c.args.size c.word-elements.result
    c.word-elements.ensures c.requires.is c.if-elements-ge-FIRST_NEGATIVE.true

pub object-requires-clause-wants : goal.object-requires-clause-wants
object-requires-clause-wants g c =
    wants_slice c.args.run.now c.args.actor.now c.args.next.now c.requires.before c.args.to c.args.size c.word-elements.result
    c.word-elements.ensures c.requires.is c.if-elements-ge-FIRST_NEGATIVE.false

pub returns-clause-cost : goal.returns-clause-cost
returns-clause-cost g c =
    let before = c.requires.before in
    subst (λ n. c.object.new.steps ≤ c.args.steps.now + most_steps c.args.run.now.setup (n + 1) 1)
    (newest_is c.args.actor.now.body c.word-elements.result before.ready.is_next.w before.ready.is_next.ws c.args.size before.ready.is_next.are c.word-elements.ensures) c.object.ensures.cost
