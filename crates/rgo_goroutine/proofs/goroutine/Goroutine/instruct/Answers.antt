use Rattle.std.proofs.Common.{◌∙◌, ap, rules, subst}
use Rattle.rgo_sound.specs.Tac.Ops.{numbers_of, operation_of}
use Rattle.rgo_acts.specs.Body.Bodies.{HasRoomBehind, frames_of_body}
use Rattle.rgo_acts.specs.Body.Nexts.{FrameHasNoNext, IsNextOf}
use Rattle.rgo_acts.specs.Body.Programs.{CompactProgram}
use Rattle.rgo_acts.specs.Body.declared.bodies.Body.{Body}
use Rattle.rgo_acts.specs.declared.actors.Actor.{Actor}
use Rattle.rgo_goroutine.proofs.Reaching.{after_ok, and_then, has_ended, is_at, kept, lacks_memory}
use Rattle.rgo_goroutine.proofs.Shaping.{rests_at, shaped}
use Rattle.rgo_goroutine.proofs.goroutine.Goroutine.instruct.Goals as goal

pub returns-in_default : goal.returns-in_default
returns-in_default g c =
    let r = c.args.run.now in
    let b = c.tries_again.new.actor in
    has_ended r c.args.self.now b c.args.turning.now c.requires.goes c.requires.some
    (kept r.program c.args.self.now.actor b c.requires.empty c.requires.expanded c.requires.none c.tries_again.result
    c.tries_again.ensures.yes c.tries_again.ensures.no)
    c.tries_again.ensures.acted
    (subst (λ (p : CompactProgram). FrameHasNoNext p.code (frames_of_body b.body)) c.program.ensures c.in_default.ensures)

pub returns-then-is_err : goal.returns-then-is_err
returns-then-is_err g c =
    let r = c.args.run.now in
    let b = c.tries_again.new.actor in
    lacks_memory r c.args.self.now b c.args.turning.now c.requires.goes c.requires.some
    (kept r.program c.args.self.now.actor b c.requires.empty c.requires.expanded c.requires.none c.tries_again.result
    c.tries_again.ensures.yes c.tries_again.ensures.no)
    c.tries_again.ensures.acted c.room_behind.new.self c.room_behind.ensures.same

pub talk-requires-clause-at : goal.talk-requires-clause-at
talk-requires-clause-at g c =
    let r = c.args.run.now in
    let b = c.tries_again.new.actor in
    is_at r c.args.self.now b c.args.turning.now c.requires.goes c.requires.some
    (kept r.program c.args.self.now.actor b c.requires.empty c.requires.expanded c.requires.none c.tries_again.result
    c.tries_again.ensures.yes c.tries_again.ensures.no)
    c.tries_again.ensures.acted c.room_behind.new.self c.room_behind.ensures.same c.in-Some.next.now
    (subst (λ (p : CompactProgram). IsNextOf p.code (frames_of_body b.body) c.in-Some.next.now) c.program.ensures c.in-Some.ensures)
    (after_ok c.room_behind.result (HasRoomBehind c.room_behind.new.self c.in-Some.next.now) c.room_behind.ensures.room
    c.if-is_err.ensures.negation)

pub talk-requires-clause-shape : goal.talk-requires-clause-shape
talk-requires-clause-shape g c =
    (shaped c.args.run.now c.tries_again.new.actor c.in-Some.next.now c.tries_again.ensures.acted.stands
    (subst (λ (p : CompactProgram). IsNextOf p.code (frames_of_body c.tries_again.new.actor.body) c.in-Some.next.now) c.program.ensures c.in-Some.ensures)
    c.in-Do.to c.in-Do.action (numbers_of c.in-Do.from) (ap operation_of c.in-Do.is)).operands

pub returns-in-Send : goal.returns-in-Send
returns-in-Send g c =
    let r = c.args.run.now in
    let b = c.tries_again.new.actor in
    and_then r c.args.self.now b c.args.turning.now c.requires.goes c.requires.some
    (kept r.program c.args.self.now.actor b c.requires.empty c.requires.expanded c.requires.none c.tries_again.result
    c.tries_again.ensures.yes c.tries_again.ensures.no)
    c.tries_again.ensures.acted c.room_behind.new.self c.room_behind.ensures.same c.talk.new.self c.talk.new.turning c.talk.result
    c.talk.ensures

pub dispatch-requires-clause-at : goal.dispatch-requires-clause-at
dispatch-requires-clause-at g c =
    let r = c.args.run.now in
    let b = c.tries_again.new.actor in
    is_at r c.args.self.now b c.args.turning.now c.requires.goes c.requires.some
    (kept r.program c.args.self.now.actor b c.requires.empty c.requires.expanded c.requires.none c.tries_again.result
    c.tries_again.ensures.yes c.tries_again.ensures.no)
    c.tries_again.ensures.acted c.room_behind.new.self c.room_behind.ensures.same c.in-Some.next.now
    (subst (λ (p : CompactProgram). IsNextOf p.code (frames_of_body b.body) c.in-Some.next.now) c.program.ensures c.in-Some.ensures)
    (after_ok c.room_behind.result (HasRoomBehind c.room_behind.new.self c.in-Some.next.now) c.room_behind.ensures.room
    c.if-is_err.ensures.negation)

pub dispatch-requires-clause-elsewhere : goal.dispatch-requires-clause-elsewhere
dispatch-requires-clause-elsewhere g c = search rules

pub dispatch-requires-clause-rests : goal.dispatch-requires-clause-rests
dispatch-requires-clause-rests g c =
    ap (λ (d : Body). d.side) c.room_behind.ensures.same
    ∙ rests_at c.args.run.now.program c.tries_again.new.actor.body c.in-Some.next.now
    (subst (λ (p : CompactProgram). IsNextOf p.code (frames_of_body c.tries_again.new.actor.body) c.in-Some.next.now) c.program.ensures c.in-Some.ensures)
    (dispatch-requires-clause-elsewhere g c) c.tries_again.result (λ e. (c.tries_again.ensures.yes e).0)
    (λ e. ap (λ (a : Actor). a.body.side) (c.tries_again.ensures.no e))

pub returns : goal.returns
returns g c =
    let r = c.args.run.now in
    let b = c.tries_again.new.actor in
    and_then r c.args.self.now b c.args.turning.now c.requires.goes c.requires.some
    (kept r.program c.args.self.now.actor b c.requires.empty c.requires.expanded c.requires.none c.tries_again.result
    c.tries_again.ensures.yes c.tries_again.ensures.no)
    c.tries_again.ensures.acted c.room_behind.new.self c.room_behind.ensures.same c.dispatch.new.self c.dispatch.new.turning
    c.dispatch.result c.dispatch.ensures
