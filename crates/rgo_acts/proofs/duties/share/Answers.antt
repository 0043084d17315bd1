use Rattle.std.proofs.Common.{◌+◌, refl, subst, sym}
use Rattle.rgo_sound.specs.RegionMachine.States.{Share}
use Rattle.rgo_body.specs.Duties.{DoesLocal}
use Rattle.rgo_acts.specs.Attending.{HasAttended, IsAtDuty}
use Rattle.rgo_acts.specs.Runs.{Run}
use Rattle.rgo_acts.proofs.attending.Counts.{local_done, share_slot, shared_by}
use Rattle.rgo_acts.proofs.duties.share.Goals as goal

pub share-requires-in-Some-clause-slot : goal.share-requires-in-Some-clause-slot
share-requires-in-Some-clause-slot g c =
    let before = subst (λ (r : Run). IsAtDuty r c.args.actor.now (Share c.args.name)) (sym c.run.view_is) c.requires.first in
    (share_slot _ c.args.actor.now c.args.name before c.run.invariant.layout.sizes c.in-Some.key c.in-Some.ensures.1 c.share.new.self
    c.in-Some.ensures.0 c.slot-slot.result c.slot-slot.ensures).0

pub share-requires-in-Some-clause-shares : goal.share-requires-in-Some-clause-shares
share-requires-in-Some-clause-shares g c =
    let before = subst (λ (r : Run). IsAtDuty r c.args.actor.now (Share c.args.name)) (sym c.run.view_is) c.requires.first in
    (share_slot _ c.args.actor.now c.args.name before c.run.invariant.layout.sizes c.in-Some.key c.in-Some.ensures.1 c.share.new.self
    c.in-Some.ensures.0 c.slot-slot.result c.slot-slot.ensures).1

pub returns-in-Some : goal.returns-in-Some
returns-in-Some g c =
    let a = c.args.actor.now in
    let b = record a { seat = c.share-in-Some.new.seat; behind = 0; body = c.shared.new.self } in
    let before = subst (λ (r : Run). IsAtDuty r a (Share c.args.name)) (sym c.run.view_is) c.requires.first in
    let x = share_slot _ a c.args.name before c.run.invariant.layout.sizes c.in-Some.key c.in-Some.ensures.1 c.share.new.self
    c.in-Some.ensures.0 c.slot-slot.result c.slot-slot.ensures in
    subst (λ (r : Run). HasAttended r a b) c.run.view_is
    (shared_by _ a c.args.name before b c.share-in-Some.ensures.own.0 refl c.share-in-Some.ensures.possible c.slot-slot.result x.1.0 x.1.1 _ _
    c.share-in-Some.ensures.leaves c.share.new.self c.in-Some.ensures.0 c.shared.ensures.shows c.shared.ensures.done)

pub returns-in-None : goal.returns-in-None
returns-in-None g c =
    let a = c.args.actor.now in
    let b = record a { behind = a.behind + 1; body = c.share.new.self } in
    local_done c.args.run.now a b c.requires.first.stands refl refl
    (subst (λ (r : Run). DoesLocal r.program a.body b.body) c.run.view_is c.in-None.ensures)
