use Rattle.std.proofs.Common.{arith, refl}
use Rattle.rgo_acts.proofs.new_objects.Pages.{more_here, needs_more_here, no_more_here, pages_same}
use Rattle.rgo_acts.proofs.objects.reserve_page.Goals as goal

pub claim_from-claimed-requires-clause-needs : goal.claim_from-claimed-requires-clause-needs
claim_from-claimed-requires-clause-needs g c =
    let a = c.args in
    needs_more_here _ a.run.now c.run.view_is a.actor.now a.next.now c.requires.before a.new c.requires.new c.run.invariant.layout.sizes
    c.requires.spread c.requires.small c.requires.more c.page_slot-slot.result c.page_slot-slot.ensures

pub returns-in-Ok-clause-one : goal.returns-in-Ok-clause-one
returns-in-Ok-clause-one g c =
    let a = c.args in
    let searches = record a.actor.now.searches { pages = c.found.new.self } in
    let b = record a.actor.now { seat = c.claim_from-claimed.new.seat; behind = 0; searches = searches; body = c.reserved_page.new.self } in
    λ yes. more_here _ a.run.now c.run.view_is a.actor.now a.next.now c.requires.before a.new c.requires.new c.run.invariant.layout.sizes
    b c.claim_from-claimed.ensures.own.0 refl c.claim_from-claimed.ensures.possible c.requires.spread c.page_slot-slot.result
    c.page_slot-slot.ensures c.in-Ok.page c.reserved_page.ensures.pages c.reserved_page.ensures.room c.reserved_page.ensures.same
    c.reserved_page.ensures.shows c.in-Ok.ensures.claimed

pub returns-in-Err-clause-none : goal.returns-in-Err-clause-none
returns-in-Err-clause-none g c =
    let a = c.args in
    let b = record a.actor.now { seat = c.claim_from-claimed.new.seat; behind = 0 } in
    λ no. no_more_here _ a.run.now c.run.view_is a.actor.now a.next.now c.requires.before a.new c.requires.new c.run.invariant.layout.sizes
    b c.claim_from-claimed.ensures.own.0 refl c.claim_from-claimed.ensures.possible c.requires.spread c.requires.small c.requires.more refl
    c.in-Err.ensures.full

pub returns-in-Ok-clause-cost : goal.returns-in-Ok-clause-cost
returns-in-Ok-clause-cost g c =
    let pages = pages_same _ c.args.run.now c.run.view_is c.run.invariant.layout.sizes in
    let cost = c.claim_from-claimed.ensures.cost in
    omega (arith, pages, cost)

pub returns-in-Err-clause-cost : goal.returns-in-Err-clause-cost
returns-in-Err-clause-cost g c =
    let pages = pages_same _ c.args.run.now c.run.view_is c.run.invariant.layout.sizes in
    let cost = c.claim_from-claimed.ensures.cost in
    omega (arith, pages, cost)
