use Rattle.std.proofs.Common.{◌+◌, ◌*◌, ◌∙◌, suc, ap, arith, refl, sym}
use Rattle.rgo_core.specs.Memory.declared.layout.TableSizes.{TableSizes}
use Rattle.rgo_acts.proofs.new_objects.Made.{made_here}
use Rattle.rgo_acts.proofs.objects.make_on.Goals as goal

pub returns-clause-acted : goal.returns-clause-acted
returns-clause-acted g c =
    let a = c.args in
    let b = record a.actor.now { seat = c.store_words.new.seat; behind = 0; body = c.made.new.self } in
    let words = ap (λ (z : TableSizes). z.page_words) c.run.invariant.layout.sizes in
    made_here _ a.run.now c.run.view_is a.actor.now a.next.now c.requires.before a.new a.page c.requires.placed b
    c.store_words.ensures.own refl c.store_words.ensures.grew c.store_words.ensures.stored c.store_words.ensures.possible _ _
    c.made.ensures.shows refl (ap (λ n. suc (a.page.page * n + a.page.fill)) (sym words) ∙ omega arith)

pub returns-clause-beyond : goal.returns-clause-beyond
returns-clause-beyond g c = record { not_yet = c.made.ensures.not_yet; behind = omega arith }

pub returns-clause-rests : goal.returns-clause-rests
returns-clause-rests g c = c.made.ensures.side ∙ c.requires.before.rests
