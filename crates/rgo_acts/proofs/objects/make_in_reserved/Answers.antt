use Rattle.std.proofs.Common.{◌*◌, ◌∙◌, ℕ, List, suc, ap, arith, refl, slice_index, subst, sym}
use Rattle.rgo_core.specs.Memory.declared.layout.TableSizes.{TableSizes}
use Rattle.rgo_core.specs.runs.Plans.{setup_of}
use Rattle.rgo_core_steps.specs.Seats.{settled}
use Rattle.rgo_acts.specs.Actors.{now}
use Rattle.rgo_acts.specs.Objects.{IsSpreadOverPages}
use Rattle.rgo_acts.proofs.new_objects.Made.{apart_here, placed_apart as seen_apart}
use Rattle.rgo_acts.proofs.new_objects.Reserves.{address_fits, placed_apart}
use Rattle.rgo_acts.proofs.objects.make_in_reserved.Goals as goal

pub store_words_apart-requires-clause-placed : goal.store_words_apart-requires-clause-placed
store_words_apart-requires-clause-placed g c =
    let a = c.args in
    let T = setup_of c.run.inside.table.now.shared.key in
    let placed = placed_apart a.run.now a.actor.now a.next.now c.requires.before a.new c.requires.new c.requires.spread c.requires.small
    c.requires.all in
    subst (λ (ps : List ℕ). IsSpreadOverPages T (settled T a.actor.now.behind a.actor.now.seat.me) ps a.new) (sym c.reserved.ensures)
    (seen_apart _ a.run.now c.run.view_is a.actor.now a.next.now c.requires.before a.new _ placed)

pub overflow_mul-address : goal.overflow_mul-address
overflow_mul-address g c =
    let a = c.args in
    let placed = placed_apart a.run.now a.actor.now a.next.now c.requires.before a.new c.requires.new c.requires.spread c.requires.small
    c.requires.all in
    let p = seen_apart _ a.run.now c.run.view_is a.actor.now a.next.now c.requires.before a.new _ placed in
    let low = p.low 0 (let all = p.all in omega (arith, all)) in
    let fits = address_fits (setup_of c.run.inside.table.now.shared.key) c.run.inside.sizes (slice_index a.actor.now.body.reserved.pages 0)
    c.run.invariant.layout.sizes c.run.invariant.layout.fits low in
    let same = ap (λ (ps : List ℕ). slice_index ps 0 * c.run.inside.sizes.page_words) c.reserved-2.ensures in
    omega (arith, fits, same)

pub overflow_add-address : goal.overflow_add-address
overflow_add-address g c =
    let a = c.args in
    let placed = placed_apart a.run.now a.actor.now a.next.now c.requires.before a.new c.requires.new c.requires.spread c.requires.small
    c.requires.all in
    let p = seen_apart _ a.run.now c.run.view_is a.actor.now a.next.now c.requires.before a.new _ placed in
    let low = p.low 0 (let all = p.all in omega (arith, all)) in
    let fits = address_fits (setup_of c.run.inside.table.now.shared.key) c.run.inside.sizes (slice_index a.actor.now.body.reserved.pages 0)
    c.run.invariant.layout.sizes c.run.invariant.layout.fits low in
    let same = ap (λ (ps : List ℕ). slice_index ps 0 * c.run.inside.sizes.page_words) c.reserved-2.ensures in
    omega (arith, fits, same)

pub returns-clause-acted : goal.returns-clause-acted
returns-clause-acted g c =
    let a = c.args in
    let b = record a.actor.now { seat = c.store_words_apart.new.seat; behind = 0; body = c.made_apart.new.self } in
    let words = ap (λ (z : TableSizes). z.page_words) c.run.invariant.layout.sizes in
    let placed = placed_apart a.run.now a.actor.now a.next.now c.requires.before a.new c.requires.new c.requires.spread c.requires.small
    c.requires.all in
    let seen = subst (λ (ps : List ℕ). IsSpreadOverPages a.run.now.setup (now a.run.now.setup a.actor.now) ps a.new) (sym c.reserved.ensures)
    placed in
    apart_here _ a.run.now c.run.view_is a.actor.now a.next.now c.requires.before a.new c.reserved.result.now seen b
    c.store_words_apart.ensures.own refl c.store_words_apart.ensures.grew c.store_words_apart.ensures.stored
    c.store_words_apart.ensures.possible _ c.made_apart.ensures.shows
    (ap (λ (ps : List ℕ). suc (slice_index ps 0 * (setup_of c.run.inside.table.now.shared.key).sizes.page_words))
    (c.reserved.ensures ∙ sym c.reserved-2.ensures)
    ∙ ap (λ (n : ℕ). suc (slice_index c.reserved-2.result.now 0 * n)) (sym words) ∙ omega arith)
