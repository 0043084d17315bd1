use Rattle.std.proofs.Common.{Some, arith}
use Rattle.rgo_sound.specs.Typed.declared.actions.Action.TheVariants as action
use Rattle.rgo_acts.proofs.new_objects.Kinds.{no_operands, wants_struct}
use Rattle.rgo_acts.proofs.objects.new_at_hand.Goals as goal

pub object_of-requires-clause-wants : goal.object_of-requires-clause-wants
object_of-requires-clause-wants c =
    let a = c.args in
    wants_struct a.run.now a.actor.now a.next.now c.requires.before a.to a.number c.struct_words-words.result
    (no_operands a.run.now a.actor.now a.next.now c.requires.before a.to a.number c.requires.is.0 c.requires.is.1)
    c.struct_words-words.ensures

pub own_page_for-requires-clause-new : goal.own_page_for-requires-clause-new
own_page_for-requires-clause-new c = c.in-Some.ensures.object.is_new

pub own_page_for-requires-clause-fits : goal.own_page_for-requires-clause-fits
own_page_for-requires-clause-fits c =
    let same = c.page_words-page_words.ensures in
    let few = c.if-words-page_words.false in
    let words = c.in-Some.ensures.words.0 in
    omega (arith, same, few, words)

pub own_page_for-requires-clause-some : goal.own_page_for-requires-clause-some
own_page_for-requires-clause-some c = c.in-Some.ensures.object.some

pub make_uncounted-requires-clause-does : goal.make_uncounted-requires-clause-does
make_uncounted-requires-clause-does c = (Some c.args.to, action.New c.args.number, c.requires.is.0, c.requires.is.1)

pub make_uncounted-requires-clause-placed : goal.make_uncounted-requires-clause-placed
make_uncounted-requires-clause-placed c =
    let own = c.in-Some-own_page_for.ensures in
    (own.region, own.at_key, own.placed)
