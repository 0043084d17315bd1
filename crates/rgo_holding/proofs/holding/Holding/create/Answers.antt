use Rattle.std.proofs.Common.{ap, slice_set, subst, sym, ◌∙◌}
use Rattle.std.proofs.lemmas.Option.{same_Some}
use Rattle.rgo_holding.specs.Changes.{IsSpareKey}
use Rattle.rgo_holding.proofs.Coming.{create_shows}
use Rattle.rgo_holding.proofs.holding.Holding.create.Goals as goal

pub returns : goal.returns
returns c = λ slots h fills shows new.
    let k = c.args.self.now in
    let room = c.requires.room in
    let key = same_Some room.key c.in-Some.key (sym room.next ∙ c.in-Some.is) in
    create_shows k c.in-Some.key c.put.new.entries c.set.new.self c.args.name c.args.slot
    (subst (IsSpareKey k.entries.items) key room.spare)
    (c.put.ensures ∙ ap (slice_set k.entries.items c.in-Some.key.0) c.new_entry.ensures)
    room.named slots h fills shows new (c.set.ensures.set shows.ordered)
