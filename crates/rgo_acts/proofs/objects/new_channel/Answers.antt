use Rattle.std.proofs.Common.{◌+◌, ◌≤◌, [], subst}
use Rattle.rgo_core_facts.specs.MemoryObjects.{channel_words}
use Rattle.rgo_acts.specs.Objects.{most_steps}
use Rattle.rgo_acts.proofs.before.Instructions.{first_in, newest_is, reads_it}
use Rattle.rgo_acts.proofs.new_objects.Kinds.{channel_traps, wants_channel}
use Rattle.rgo_acts.proofs.objects.new_channel.Goals as goal

pub word-capacity-requires : goal.word-capacity-requires
word-capacity-requires g c =
    reads_it c.args.run.now c.args.actor.now c.args.next.now c.requires.before _ _ _ c.requires.is c.args.size (first_in c.args.size [])

pub returns-then-capacity-ge-FIRST_NEGATIVE-clause-made : goal.returns-then-capacity-ge-FIRST_NEGATIVE-clause-made
returns-then-capacity-ge-FIRST_NEGATIVE-clause-made g c =
    channel_traps c.args.run.now c.args.actor.now c.args.next.now c.requires.before c.args.to c.args.size c.word-capacity.result
    c.word-capacity.ensures c.requires.is c.if-capacity-ge-FIRST_NEGATIVE.true

pub object-requires-clause-wants : goal.object-requires-clause-wants
object-requires-clause-wants g c =
    wants_channel c.args.run.now c.args.actor.now c.args.next.now c.requires.before c.args.to c.args.size c.word-capacity.result
    c.word-capacity.ensures c.channel_words.result c.requires.is c.if-capacity-ge-FIRST_NEGATIVE.false c.requires.small
    c.channel_words.ensures

pub returns-clause-cost : goal.returns-clause-cost
returns-clause-cost g c =
    let before = c.requires.before in
    subst (λ n. c.object.new.steps ≤ c.args.steps.now + most_steps c.args.run.now.setup (channel_words n) 2)
    (newest_is c.args.actor.now.body c.word-capacity.result before.ready.is_next.w before.ready.is_next.ws c.args.size before.ready.is_next.are c.word-capacity.ensures)
    (subst (λ n. c.object.new.steps ≤ c.args.steps.now + most_steps c.args.run.now.setup n 2) c.channel_words.ensures c.object.ensures.cost)
