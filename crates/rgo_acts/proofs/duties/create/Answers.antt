use Rattle.std.proofs.Common.{◌++◌, refl, subst, sym}
use Rattle.rgo_sound.specs.RegionMachine.States.{Create}
use Rattle.rgo_body.proofs.Attending.{later}
use Rattle.rgo_body.specs.Steps.{StillShows}
use Rattle.rgo_acts.specs.Attending.{HasAttended, IsAtDuty, IsShort}
use Rattle.rgo_acts.specs.Runs.{Run}
use Rattle.rgo_acts.proofs.attending.Counts.{created_by_call, created_short, has_waited, no_slots, owes_first}
use Rattle.rgo_acts.proofs.duties.create.Goals as goal

pub returns-in-Err : goal.returns-in-Err
returns-in-Err g c =
    let a = c.args.actor.now in
    let b = record a { body = c.room_to_create.new.self } in
    has_waited c.args.run.now a b c.requires.first.stands refl refl
    (subst (λ (r : Run). StillShows r.program a.body b.body) c.run.view_is c.room_to_create.ensures.stays) c.room_to_create.ensures.same

pub returns-then-run-eq0 : goal.returns-then-run-eq0
returns-then-run-eq0 g c =
    let a = c.args.actor.now in
    let b = record a { body = c.room_to_create.new.self } in
    let before = subst (λ (r : Run). IsAtDuty r a (Create c.args.name)) (sym c.run.view_is) c.requires.first in
    subst (λ (r : Run). IsShort r a b) c.run.view_is
    (no_slots _ a b c.args.name before refl refl c.room_to_create.ensures.stays c.room_to_create.ensures.same c.run.invariant.layout.sizes c.if-run-eq0.true)

pub create_from-slot-requires-clause-creates : goal.create_from-slot-requires-clause-creates
create_from-slot-requires-clause-creates g c =
    let a = c.args.actor.now in
    let before = subst (λ (r : Run). IsAtDuty r a (Create c.args.name)) (sym c.run.view_is) c.requires.first in
    (c.args.name, before.others ++ later c.run.inside.program.now.code a.body, owes_first _ a (Create c.args.name) before)

pub returns-in-Ok-slot : goal.returns-in-Ok-slot
returns-in-Ok-slot g c =
    let a = c.args.actor.now in
    let searches = record a.searches { slots = c.found.new.self } in
    let b = record a { seat = c.create_from-slot.new.seat; behind = 0; searches = searches; body = c.created.new.self } in
    let before = subst (λ (r : Run). IsAtDuty r a (Create c.args.name)) (sym c.run.view_is) c.requires.first in
    subst (λ (r : Run). HasAttended r a b) c.run.view_is
    (created_by_call _ a b c.args.name before c.create_from-slot.ensures.own.0 refl c.create_from-slot.ensures.possible c.in-Ok-slot.slot
    c.in-Ok-slot.ensures.created c.run.invariant.layout.sizes c.in-Ok-slot.ensures.fresh c.room_to_create.new.self
    c.room_to_create.ensures.stays c.room_to_create.ensures.same c.created.ensures.shows c.created.ensures.done)

pub returns-in-Err-slot : goal.returns-in-Err-slot
returns-in-Err-slot g c =
    let a = c.args.actor.now in
    let b = record a { seat = c.create_from-slot.new.seat; behind = 0; body = c.room_to_create.new.self } in
    let before = subst (λ (r : Run). IsAtDuty r a (Create c.args.name)) (sym c.run.view_is) c.requires.first in
    subst (λ (r : Run). IsShort r a b) c.run.view_is
    (created_short _ a b c.args.name before c.create_from-slot.ensures.own.0 refl c.create_from-slot.ensures.possible
    c.in-Err-slot.ensures.full c.run.invariant.layout.sizes c.room_to_create.ensures.stays c.room_to_create.ensures.same)
