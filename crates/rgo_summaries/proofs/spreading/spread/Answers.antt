use Rattle.std.proofs.Common.{◌<◌, length, refl, sym, subst, arith, List}
use Rattle.std.proofs.lemmas.Option.{slice_get_read}
use Rattle.rgo_summaries.specs.declared.progress.Site.{Site}
use Rattle.rgo_summaries.specs.Progress.{AddsJoins, Hears, width_in}
use Rattle.rgo_summaries.proofs.Hearing.{event_function, event_room, further, is_spread, room_kept, sites_here, underway}
use Rattle.rgo_summaries.proofs.spreading.spread.Goals as goal

pub loop-next-init : goal.loop-next-init
loop-next-init c = underway c.args.sites.now c.args.progress.now c.requires.is

pub bounds-sites-event : goal.bounds-sites-event
bounds-sites-event c =
    let now = c.loop-next.progress in
    let e = c.index-event.result.now in
    let at = slice_get_read now.log.items (length now.log.items) c.loop-next.next e refl
    (omega arith) c.index-event.ensures in
    omega (
      arith,
      event_function now c.loop-next.next e c.loop-next.invariant.is at,
      c.loop-next.invariant.len,
      c.requires.len,
    )

pub offset_bounds-sites-event : goal.offset_bounds-sites-event
offset_bounds-sites-event c =
    let within = bounds-sites-event c in
    record { fits = omega (arith, within) }

pub carry-requires-clause-room : goal.carry-requires-clause-room
carry-requires-clause-room c =
    let now = c.loop-next.progress in
    let e = c.index-event.result.now in
    let u = c.loop-next.invariant in
    let at = slice_get_read now.log.items (length now.log.items) c.loop-next.next e refl
    (omega arith) c.index-event.ensures in
    let within : e.function < length c.args.sites.now =
    omega (arith, event_function now c.loop-next.next e u.is at, u.len, c.requires.len) in
    let row =
    sites_here c.args.sites.now e.function c.index-sites-event.result c.deref.result.now within
    c.index-sites-event.is c.deref.ensures.value in
    event_room now c.loop-next.next (width_in now.nodes.items e.function) e c.deref.result.now u.is at refl
    (room_kept c.args.sites.now c.args.progress.now now c.loop-next.next e.function c.deref.result.now u row
    (c.requires.room e.function))

pub loop-next-preserved : goal.loop-next-preserved
loop-next-preserved c =
    let now = c.loop-next.progress in
    let e = c.index-event.result.now in
    let u = c.loop-next.invariant in
    let at = slice_get_read now.log.items (length now.log.items) c.loop-next.next e refl
    (omega arith) c.index-event.ensures in
    let within : e.function < length c.args.sites.now =
    omega (arith, event_function now c.loop-next.next e u.is at, u.len, c.requires.len) in
    let row =
    sites_here c.args.sites.now e.function c.index-sites-event.result c.deref.result.now within
    c.index-sites-event.is c.deref.ensures.value in
    further c.args.sites.now c.args.progress.now now c.carry.new.progress c.loop-next.next e u at
    c.in_ok-carry.ensures.is
    (subst (λ (r : List Site). AddsJoins now c.carry.new.progress (Hears r e)) (sym row) c.in_ok-carry.ensures.adds)

pub returns : goal.returns
returns c =
    is_spread c.args.sites.now c.args.progress.now c.loop-next.progress c.loop-next.next c.loop-next.invariant
    (omega arith)
