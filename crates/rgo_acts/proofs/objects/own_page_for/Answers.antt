use Rattle.rgo_acts.proofs.new_objects.Pages.{its_own_page}
use Rattle.rgo_acts.proofs.objects.own_page_for.Goals as goal

pub returns : goal.returns
returns c =
    let a = c.args in
    its_own_page a.run.now a.actor.now a.next.now c.requires.before a.new c.requires.new c.page_words.result c.page_words.ensures
    c.own_page-own.result c.own_page-own.ensures c.with_room.result c.with_room.ensures c.requires.some
