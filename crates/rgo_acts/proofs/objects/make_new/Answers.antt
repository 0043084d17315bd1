use Rattle.std.proofs.Common.{◌+◌, ◌*◌, ◌≤◌, arith, subst, sym}
use Rattle.rgo_acts.proofs.new_objects.Kinds.{none_apart}
use Rattle.rgo_acts.proofs.objects.make_new.Goals as goal

pub make-requires-clause-new : goal.make-requires-clause-new
make-requires-clause-new g c = c.requires.can.is_new

pub make-requires-clause-fits : goal.make-requires-clause-fits
make-requires-clause-fits g c = let same = c.page_words-page_words.ensures in let few = c.if-new-page_words.true in omega (arith, same, few)

pub make-requires-clause-some : goal.make-requires-clause-some
make-requires-clause-some g c = c.requires.can.some

pub returns-then-new-page_words-clause-cost : goal.returns-then-new-page_words-clause-cost
returns-then-new-page_words-clause-cost g c =
    let a = c.args in
    let T = a.run.now.setup in
    let same = c.page_words-page_words.ensures in
    let few = c.if-new-page_words.true in
    let cost = c.make.ensures.cost in
    let none = none_apart T.sizes.page_words a.new.words a.new.before (omega (arith, same, few)) in
    subst (λ n. c.make.new.steps ≤ a.steps.now + ((n + 1) * (T.sizes.pages + 2) + (a.new.words + n))) (sym none) (omega (arith, cost))

pub make_apart-requires-clause-new : goal.make_apart-requires-clause-new
make_apart-requires-clause-new g c = c.requires.can.is_new

pub make_apart-requires-clause-spread : goal.make_apart-requires-clause-spread
make_apart-requires-clause-spread g c =
    let same = c.page_words-page_words.ensures in let more = c.if-new-page_words.false in omega (arith, same, more)

pub make_apart-requires-clause-small : goal.make_apart-requires-clause-small
make_apart-requires-clause-small g c = c.requires.can.small
