use Rattle.std.proofs.Common.{◌≡◌, true, subst, sym, ◌∙◌}
use Rattle.rgo_acts.specs.Body.Bodies.{HasRoomBehind, frames_of_body}
use Rattle.rgo_acts.specs.Body.Nexts.{FrameHasNoNext, IsNextOf}
use Rattle.rgo_acts.specs.Body.Programs.{CompactProgram}
use Rattle.rgo_acts.specs.Body.Steps.{StillShows}
use Rattle.rgo_acts.proofs.before.AtChannels.{offers_owe_nothing}
use Rattle.rgo_goroutine.proofs.Acknowledging.{asked, can_ask, has_next, no_room, room_then, was_ok}
use Rattle.rgo_goroutine.proofs.goroutine.Goroutine.acknowledge.Goals as goal

pub unreachable-requires : goal.unreachable-requires
unreachable-requires g c =
    has_next c.args.run.now c.args.self.now.actor c.requires.goes.stands c.args.at c.requires.offers
    (subst (λ (p : CompactProgram). FrameHasNoNext p.code (frames_of_body c.args.self.now.actor.body)) c.program.ensures c.in_default.ensures)

pub room_behind_offer-requires-clause-empty : goal.room_behind_offer-requires-clause-empty
room_behind_offer-requires-clause-empty g c =
    offers_owe_nothing c.args.run.now c.args.self.now.actor c.requires.goes.stands c.args.at c.requires.offers

pub returns-then-is_err : goal.returns-then-is_err
returns-then-is_err g c =
    let d = c.room_behind_offer.new.body in
    no_room c.args.run.now c.args.self.now d c.args.turning.now c.requires.goes c.requires.some.1
    (subst (λ (p : CompactProgram). StillShows p c.args.self.now.actor.body d) c.program-2.ensures c.room_behind_offer.ensures.stays)
    c.room_behind_offer.ensures.same

pub acknowledge-talked-requires : goal.acknowledge-talked-requires
acknowledge-talked-requires g c =
    let b = c.args.self.now.actor.body in
    let d = c.room_behind_offer.new.body in
    let ok = sym c.is_err.ensures.value ∙ c.if-is_err.false in
    record {
      before = can_ask c.args.run.now c.args.self.now d c.args.turning.now c.requires.goes c.requires.some.1
          (subst (λ (p : CompactProgram). StillShows p b d) c.program-2.ensures c.room_behind_offer.ensures.stays)
          c.room_behind_offer.ensures.same c.in-Some.next.now c.args.at c.requires.offers
          (subst (λ (p : CompactProgram). IsNextOf p.code (frames_of_body b) c.in-Some.next.now) c.program.ensures c.in-Some.ensures)
          (was_ok c.room_behind_offer.result (d.is_expanded ≡ true) ok c.room_behind_offer.ensures.expanded)
          (was_ok c.room_behind_offer.result (HasRoomBehind d c.in-Some.next.now) ok c.room_behind_offer.ensures.room);
    }

pub after_talk-requires : goal.after_talk-requires
after_talk-requires g c =
    let go = c.args.self.now in
    let d = c.room_behind_offer.new.body in
    record {
      talked = (
        record go { actor = record go.actor { body = d } },
        asked c.args.run.now go d c.args.turning.now c.requires.goes c.requires.some.1
            (subst (λ (p : CompactProgram). StillShows p go.actor.body d) c.program-2.ensures c.room_behind_offer.ensures.stays)
            c.room_behind_offer.ensures.same c.requires.some.0 c.acknowledge-talked.new.actor c.acknowledge-talked.result
            c.acknowledge-talked.ensures.talks,
      );
    }

pub returns : goal.returns
returns g c =
    let go = c.args.self.now in
    let d = c.room_behind_offer.new.body in
    let stays = subst (λ (p : CompactProgram). StillShows p go.actor.body d) c.program-2.ensures c.room_behind_offer.ensures.stays in
    room_then c.args.run.now go d c.args.turning.now c.requires.goes c.requires.some.1 stays c.room_behind_offer.ensures.same
    c.after_talk.new.self c.after_talk.new.turning c.after_talk.result
    (c.after_talk.ensures (record go { actor = record go.actor { body = d } })
    (asked c.args.run.now go d c.args.turning.now c.requires.goes c.requires.some.1 stays c.room_behind_offer.ensures.same
    c.requires.some.0 c.acknowledge-talked.new.actor c.acknowledge-talked.result c.acknowledge-talked.ensures.talks))
