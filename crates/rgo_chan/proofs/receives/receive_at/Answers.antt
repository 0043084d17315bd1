use Rattle.std.proofs.Common.{◌+◌, ◌≤◌, arith, inl, inr, refl, subst}
use Rattle.rgo_core.specs.Channels.Controls.{tail_words}
use Rattle.rgo_core.specs.Core.{layout}
use Rattle.rgo_core.specs.Memory.Words.{all_words}
use Rattle.rgo_core.specs.runs.Plans.{setup_of}
use Rattle.rgo_core_steps.specs.Seats.{mine, settled}
use Rattle.rgo_chan.specs.Answers.{Looked}
use Rattle.rgo_chan.proofs.Answering.{can_zero, frame_held, got_offer, got_value, got_zero, holds, missed, same_frame, still_free}
use Rattle.rgo_chan.proofs.Carrying.{receives_as, receives_there}
use Rattle.rgo_chan.proofs.CellWords.{few}
use Rattle.rgo_chan.proofs.Reading.{drained, is_even, is_odd, is_shut, not_shut, offer}
use Rattle.rgo_chan.proofs.receives.receive_at.Goals as goal

pub lock-found-requires-clause-here : goal.lock-found-requires-clause-here
lock-found-requires-clause-here g c =
    let T = setup_of c.args.table.now.shared.key in
    receives_there (receives_as (mine T c.look-seen.new.seat.me)
    (same_frame T c.args.at (settled T c.args.behind c.args.seat.now.me) c.look-seen.result.size c.look-seen.result.control c.args.seat.now.me
    c.look-seen.new.seat.me c.args.steps.now c.look-seen.new.steps c.look-seen.ensures.looked) c.requires.here)

pub lock-found-requires-clause-unlocked : goal.lock-found-requires-clause-unlocked
lock-found-requires-clause-unlocked g c =
    is_even c.is_locked.result c.look-seen.result.control c.is_locked.ensures c.if-is_locked.false

pub lock-found-requires-clause-free : goal.lock-found-requires-clause-free
lock-found-requires-clause-free g c =
    let T = setup_of c.args.table.now.shared.key in
    still_free T c.args.at (settled T c.args.behind c.args.seat.now.me) c.look-seen.result.size c.look-seen.result.control c.args.seat.now.me
    c.look-seen.new.seat.me c.args.steps.now c.look-seen.new.steps c.look-seen.ensures.looked c.requires.free

pub returns-then-is_locked-clause-answers : goal.returns-then-is_locked-clause-answers
returns-then-is_locked-clause-answers g c =
    inl (
      c.look-seen.result.size,
      is_odd c.is_locked.result c.look-seen.result.control c.is_locked.ensures c.if-is_locked.true,
      c.look-seen.ensures.looked.did,
    )

pub returns-then-is_empty-clause-answers : goal.returns-then-is_empty-clause-answers
returns-then-is_empty-clause-answers g c = (
  c.look-seen.result.size,
  c.look-seen.result.control,
  (is_even c.is_locked.result c.look-seen.result.control c.is_locked.ensures c.if-is_locked.false),
  c.is_empty.ensures.empty c.if-is_empty.true,
  c.look-seen.ensures.looked.did,
)

pub returns-then-found-control-clause-answers : goal.returns-then-found-control-clause-answers
returns-then-found-control-clause-answers g c =
    let T = setup_of c.args.table.now.shared.key in
    inr (
      c.look-seen.result.size,
      c.look-seen.result.control,
      (is_even c.is_locked.result c.look-seen.result.control c.is_locked.ensures c.if-is_locked.false),
      c.is_empty.ensures.ready c.if-is_empty.false,
      c.if-found-control.true,
      missed T c.args.at (settled T c.args.behind c.args.seat.now.me) c.look-seen.result.size c.look-seen.result.control c.args.seat.now.me
          c.look-seen.new.seat.me c.args.steps.now c.look-seen.new.steps c.look-seen.ensures.looked c.lock-found.new.seat.me c.lock-found.result
          c.tick.new.self c.tick.ensures c.lock-found.ensures.leaves c.if-found-control.true,
    )

pub pop-value-requires-clause-held : goal.pop-value-requires-clause-held
pop-value-requires-clause-held g c =
    let T = setup_of c.args.table.now.shared.key in
    holds T c.args.at (settled T c.args.behind c.args.seat.now.me) c.look-seen.result.size c.look-seen.result.control c.args.seat.now.me
    c.look-seen.new.seat.me c.args.steps.now c.look-seen.new.steps c.look-seen.ensures.looked c.lock-found.new.seat.me c.lock-found.result
    c.tick.new.self c.tick.ensures c.lock-found.ensures.leaves c.if-found-control.false

pub pop-value-requires-clause-here : goal.pop-value-requires-clause-here
pop-value-requires-clause-here g c =
    let T = setup_of c.args.table.now.shared.key in
    receives_as (mine T c.lock-found.new.seat.me)
    (frame_held T c.args.at (settled T c.args.behind c.args.seat.now.me) c.look-seen.result.size c.look-seen.result.control c.args.seat.now.me
    c.look-seen.new.seat.me c.args.steps.now c.look-seen.new.steps c.look-seen.ensures.looked c.lock-found.new.seat.me c.lock-found.result
    c.tick.new.self c.tick.ensures c.lock-found.ensures.leaves c.if-found-control.false) c.requires.here

pub pop-value-requires-clause-some : goal.pop-value-requires-clause-some
pop-value-requires-clause-some g c =
    c.has_value.ensures.yes c.if-has_value.true

pub returns-then-has_value-clause-answers : goal.returns-then-has_value-clause-answers
returns-then-has_value-clause-answers g c =
    let T = setup_of c.args.table.now.shared.key in
    got_value T c.args.at (settled T c.args.behind c.args.seat.now.me) c.look-seen.result.size c.look-seen.result.control c.args.seat.now.me
    c.look-seen.new.seat.me c.args.steps.now c.look-seen.new.steps c.look-seen.ensures.looked c.lock-found.new.seat.me c.lock-found.result
    c.tick.new.self c.tick.ensures c.lock-found.ensures.leaves c.if-found-control.false
    c.pop-value.new.seat.me c.pop-value.new.steps c.pop-value.result c.requires.here
    (is_even c.is_locked.result c.look-seen.result.control c.is_locked.ensures c.if-is_locked.false)
    (c.has_value.ensures.yes c.if-has_value.true) c.pop-value.ensures.points c.pop-value.ensures.popped

pub commit_zero-requires-clause-ready : goal.commit_zero-requires-clause-ready
commit_zero-requires-clause-ready g c =
    let T = setup_of c.args.table.now.shared.key in
    can_zero T c.args.at (settled T c.args.behind c.args.seat.now.me) c.look-seen.result.size c.look-seen.result.control c.args.seat.now.me
    c.look-seen.new.seat.me c.args.steps.now c.look-seen.new.steps c.look-seen.ensures.looked c.lock-found.new.seat.me c.lock-found.result
    c.tick.new.self c.tick.ensures c.lock-found.ensures.leaves c.if-found-control.false c.requires.here
    (drained c.look-seen.result.size c.look-seen.result.control (c.is_empty.ensures.ready c.if-is_empty.false)
    (c.has_value.ensures.no c.if-has_value.false)
    (is_shut c.is_closed.result c.look-seen.result.control c.is_closed.ensures c.if-is_closed.true))

pub returns-then-is_closed-clause-answers : goal.returns-then-is_closed-clause-answers
returns-then-is_closed-clause-answers g c =
    let T = setup_of c.args.table.now.shared.key in
    got_zero T c.args.at (settled T c.args.behind c.args.seat.now.me) c.look-seen.result.size c.look-seen.result.control c.args.seat.now.me
    c.look-seen.new.seat.me c.args.steps.now c.look-seen.new.steps c.look-seen.ensures.looked c.lock-found.new.seat.me c.lock-found.result
    c.tick.new.self c.tick.ensures c.lock-found.ensures.leaves c.if-found-control.false
    c.commit_zero.new.seat.me c.tick-then-is_closed.new.self c.requires.here
    (is_even c.is_locked.result c.look-seen.result.control c.is_locked.ensures c.if-is_locked.false)
    (drained c.look-seen.result.size c.look-seen.result.control (c.is_empty.ensures.ready c.if-is_empty.false)
    (c.has_value.ensures.no c.if-has_value.false)
    (is_shut c.is_closed.result c.look-seen.result.control c.is_closed.ensures c.if-is_closed.true)) c.tick-then-is_closed.ensures c.commit_zero.ensures.stored

pub take_offer-value-requires-clause-held : goal.take_offer-value-requires-clause-held
take_offer-value-requires-clause-held g c =
    let T = setup_of c.args.table.now.shared.key in
    let d = settled T c.args.behind c.args.seat.now.me in
    let m = c.args.seat.now.me in
    let v = c.look-seen.new.seat.me in
    let n = c.look-seen.result.control in
    let o = offer c.look-seen.result.size c.look-seen.result.control (c.is_empty.ensures.ready c.if-is_empty.false)
    (c.has_value.ensures.no c.if-has_value.false)
    (not_shut c.is_closed.result c.look-seen.result.control c.is_closed.ensures c.if-is_closed.false) in
    holds T c.args.at d 0 n m v c.args.steps.now c.look-seen.new.steps
    (subst (λ z. Looked T c.args.at d z n m c.args.steps.now v c.look-seen.new.steps) o.1 c.look-seen.ensures.looked)
    c.lock-found.new.seat.me c.lock-found.result
    c.tick.new.self c.tick.ensures c.lock-found.ensures.leaves c.if-found-control.false

pub take_offer-value-requires-clause-inside : goal.take_offer-value-requires-clause-inside
take_offer-value-requires-clause-inside g c =
    let T = setup_of c.args.table.now.shared.key in
    let o = offer c.look-seen.result.size c.look-seen.result.control (c.is_empty.ensures.ready c.if-is_empty.false)
    (c.has_value.ensures.no c.if-has_value.false)
    (not_shut c.is_closed.result c.look-seen.result.control c.is_closed.ensures c.if-is_closed.false) in
    subst (λ z. c.args.at + 2 + tail_words T.sizes.page_words z ≤ all_words (layout T)) o.1 c.look-seen.ensures.looked.inside

pub take_offer-value-requires-clause-here : goal.take_offer-value-requires-clause-here
take_offer-value-requires-clause-here g c =
    let T = setup_of c.args.table.now.shared.key in
    receives_as (mine T c.lock-found.new.seat.me)
    (frame_held T c.args.at (settled T c.args.behind c.args.seat.now.me) c.look-seen.result.size c.look-seen.result.control c.args.seat.now.me
    c.look-seen.new.seat.me c.args.steps.now c.look-seen.new.steps c.look-seen.ensures.looked c.lock-found.new.seat.me c.lock-found.result
    c.tick.new.self c.tick.ensures c.lock-found.ensures.leaves c.if-found-control.false) c.requires.here

pub take_offer-value-requires-clause-offered : goal.take_offer-value-requires-clause-offered
take_offer-value-requires-clause-offered g c =
    let T = setup_of c.args.table.now.shared.key in
    let d = settled T c.args.behind c.args.seat.now.me in
    let m = c.args.seat.now.me in
    let v = c.look-seen.new.seat.me in
    let n = c.look-seen.result.control in
    let o = offer c.look-seen.result.size c.look-seen.result.control (c.is_empty.ensures.ready c.if-is_empty.false)
    (c.has_value.ensures.no c.if-has_value.false)
    (not_shut c.is_closed.result c.look-seen.result.control c.is_closed.ensures c.if-is_closed.false) in
    (o.0, refl, o.2)

pub returns-clause-steps : goal.returns-clause-steps
returns-clause-steps g c =
    let at_most = few (setup_of c.args.table.now.shared.key) 0 in
    omega (arith, at_most, c.look-seen.ensures.steps, c.tick.ensures, c.take_offer-value.ensures.steps)

pub returns-clause-answers : goal.returns-clause-answers
returns-clause-answers g c =
    let T = setup_of c.args.table.now.shared.key in
    let d = settled T c.args.behind c.args.seat.now.me in
    let m = c.args.seat.now.me in
    let v = c.look-seen.new.seat.me in
    let n = c.look-seen.result.control in
    let o = offer c.look-seen.result.size c.look-seen.result.control (c.is_empty.ensures.ready c.if-is_empty.false)
    (c.has_value.ensures.no c.if-has_value.false)
    (not_shut c.is_closed.result c.look-seen.result.control c.is_closed.ensures c.if-is_closed.false) in
    got_offer T c.args.at d n m v c.args.steps.now c.look-seen.new.steps
    (subst (λ z. Looked T c.args.at d z n m c.args.steps.now v c.look-seen.new.steps) o.1 c.look-seen.ensures.looked)
    c.lock-found.new.seat.me c.lock-found.result
    c.tick.new.self c.tick.ensures c.lock-found.ensures.leaves c.if-found-control.false
    c.take_offer-value.new.seat.me c.take_offer-value.new.steps c.take_offer-value.result c.requires.here
    (is_even c.is_locked.result c.look-seen.result.control c.is_locked.ensures c.if-is_locked.false)
    (o.0, refl, o.2) c.take_offer-value.ensures.points c.take_offer-value.ensures.taken
