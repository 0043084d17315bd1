use Rattle.std.proofs.Common.{◌+◌, ◌≤◌, inl, inr, refl, subst}
use Rattle.rgo_core.specs.Channels.Controls.{tail_words}
use Rattle.rgo_core.specs.Core.{layout}
use Rattle.rgo_core.specs.Memory.Words.{all_words}
use Rattle.rgo_core.specs.runs.Plans.{setup_of}
use Rattle.rgo_core_steps.specs.Seats.{mine, settled}
use Rattle.rgo_chan.specs.Answers.{Looked}
use Rattle.rgo_chan.proofs.Answering.{frame_held, holds, missed, offered, same_frame, sent, still_free}
use Rattle.rgo_chan.proofs.Carrying.{sends_as, sends_there}
use Rattle.rgo_chan.proofs.Reading.{has_room, is_even, is_odd, is_shut, no_offer, not_shut}
use Rattle.rgo_chan.proofs.sends.send_at.Goals as goal

pub is_full-requires : goal.is_full-requires
is_full-requires g c =
    record { open_channel = not_shut c.is_closed.result c.look-seen.result.control c.is_closed.ensures c.if-is_closed.false }

pub lock-found-requires-clause-here : goal.lock-found-requires-clause-here
lock-found-requires-clause-here g c =
    let T = setup_of c.args.table.now.shared.key in
    let v = c.look-seen.new.seat.me in
    sends_there (sends_as (mine T v)
    (same_frame T c.args.at (settled T c.args.behind c.args.seat.now.me) c.look-seen.result.size c.look-seen.result.control c.args.seat.now.me v
    c.args.steps.now c.look-seen.new.steps c.look-seen.ensures.looked) c.requires.here)

pub lock-found-requires-clause-unlocked : goal.lock-found-requires-clause-unlocked
lock-found-requires-clause-unlocked g c = is_even c.is_locked.result c.look-seen.result.control c.is_locked.ensures c.if-is_locked.false

pub lock-found-requires-clause-free : goal.lock-found-requires-clause-free
lock-found-requires-clause-free g c =
    let T = setup_of c.args.table.now.shared.key in
    still_free T c.args.at (settled T c.args.behind c.args.seat.now.me) c.look-seen.result.size c.look-seen.result.control c.args.seat.now.me
    c.look-seen.new.seat.me c.args.steps.now c.look-seen.new.steps c.look-seen.ensures.looked c.requires.free

pub returns-then-is_locked-clause-answers : goal.returns-then-is_locked-clause-answers
returns-then-is_locked-clause-answers g c = inl (
  c.look-seen.result.size,
  is_odd c.is_locked.result c.look-seen.result.control c.is_locked.ensures c.if-is_locked.true,
  c.look-seen.ensures.looked.did,
)

pub returns-then-is_closed-clause-answers : goal.returns-then-is_closed-clause-answers
returns-then-is_closed-clause-answers g c = (
  refl,
  c.look-seen.result.size,
  c.look-seen.result.control,
  is_even c.is_locked.result c.look-seen.result.control c.is_locked.ensures c.if-is_locked.false,
  is_shut c.is_closed.result c.look-seen.result.control c.is_closed.ensures c.if-is_closed.true,
  c.look-seen.ensures.looked.did,
)

pub returns-then-is_full-clause-answers : goal.returns-then-is_full-clause-answers
returns-then-is_full-clause-answers g c = (
  c.look-seen.result.size,
  c.look-seen.result.control,
  is_even c.is_locked.result c.look-seen.result.control c.is_locked.ensures c.if-is_locked.false,
  c.is_full.ensures.full c.if-is_full.true,
  c.look-seen.ensures.looked.did,
)

pub returns-then-found-control-clause-answers : goal.returns-then-found-control-clause-answers
returns-then-found-control-clause-answers g c =
    let T = setup_of c.args.table.now.shared.key in
    inr (
      c.look-seen.result.size,
      c.look-seen.result.control,
      is_even c.is_locked.result c.look-seen.result.control c.is_locked.ensures c.if-is_locked.false,
      c.is_full.ensures.ready c.if-is_full.false,
      c.if-found-control.true,
      missed T c.args.at (settled T c.args.behind c.args.seat.now.me) c.look-seen.result.size c.look-seen.result.control c.args.seat.now.me
          c.look-seen.new.seat.me c.args.steps.now c.look-seen.new.steps c.look-seen.ensures.looked c.lock-found.new.seat.me c.lock-found.result
          c.tick.new.self c.tick.ensures c.lock-found.ensures.leaves c.if-found-control.true,
    )

pub push-requires-clause-held : goal.push-requires-clause-held
push-requires-clause-held g c =
    let T = setup_of c.args.table.now.shared.key in
    holds T c.args.at (settled T c.args.behind c.args.seat.now.me) c.look-seen.result.size c.look-seen.result.control c.args.seat.now.me
    c.look-seen.new.seat.me c.args.steps.now c.look-seen.new.steps c.look-seen.ensures.looked c.lock-found.new.seat.me c.lock-found.result
    c.tick.new.self c.tick.ensures c.lock-found.ensures.leaves c.if-found-control.false

pub push-requires-clause-here : goal.push-requires-clause-here
push-requires-clause-here g c =
    let T = setup_of c.args.table.now.shared.key in
    sends_as (mine T c.lock-found.new.seat.me)
    (frame_held T c.args.at (settled T c.args.behind c.args.seat.now.me) c.look-seen.result.size c.look-seen.result.control c.args.seat.now.me
    c.look-seen.new.seat.me c.args.steps.now c.look-seen.new.steps c.look-seen.ensures.looked c.lock-found.new.seat.me c.lock-found.result
    c.tick.new.self c.tick.ensures c.lock-found.ensures.leaves c.if-found-control.false) c.requires.here

pub push-requires-clause-room : goal.push-requires-clause-room
push-requires-clause-room g c = has_room c.look-seen.result.size c.look-seen.result.control (c.is_full.ensures.ready c.if-is_full.false) c.if-size-eq0.false

pub offer-requires-clause-held : goal.offer-requires-clause-held
offer-requires-clause-held g c =
    let T = setup_of c.args.table.now.shared.key in
    let d = settled T c.args.behind c.args.seat.now.me in
    let m = c.args.seat.now.me in
    let v = c.look-seen.new.seat.me in
    let n = c.look-seen.result.control in
    holds T c.args.at d 0 n m v c.args.steps.now c.look-seen.new.steps
    (subst (λ z. Looked T c.args.at d z n m c.args.steps.now v c.look-seen.new.steps) c.if-size-eq0.true c.look-seen.ensures.looked)
    c.lock-found.new.seat.me c.lock-found.result c.tick.new.self c.tick.ensures c.lock-found.ensures.leaves c.if-found-control.false

pub offer-requires-clause-inside : goal.offer-requires-clause-inside
offer-requires-clause-inside g c =
    let T = setup_of c.args.table.now.shared.key in
    subst (λ z. c.args.at + 2 + tail_words T.sizes.page_words z ≤ all_words (layout T)) c.if-size-eq0.true c.look-seen.ensures.looked.inside

pub offer-requires-clause-here : goal.offer-requires-clause-here
offer-requires-clause-here g c =
    let T = setup_of c.args.table.now.shared.key in
    sends_as (mine T c.lock-found.new.seat.me)
    (frame_held T c.args.at (settled T c.args.behind c.args.seat.now.me) c.look-seen.result.size c.look-seen.result.control c.args.seat.now.me
    c.look-seen.new.seat.me c.args.steps.now c.look-seen.new.steps c.look-seen.ensures.looked c.lock-found.new.seat.me c.lock-found.result
    c.tick.new.self c.tick.ensures c.lock-found.ensures.leaves c.if-found-control.false) c.requires.here

pub offer-requires-clause-none : goal.offer-requires-clause-none
offer-requires-clause-none g c = no_offer c.look-seen.result.size c.look-seen.result.control (c.is_full.ensures.ready c.if-is_full.false) c.if-size-eq0.true

pub returns-then-size-eq0-clause-answers : goal.returns-then-size-eq0-clause-answers
returns-then-size-eq0-clause-answers g c =
    let T = setup_of c.args.table.now.shared.key in
    let d = settled T c.args.behind c.args.seat.now.me in
    let m = c.args.seat.now.me in
    let v = c.look-seen.new.seat.me in
    let n = c.look-seen.result.control in
    offered T c.args.at d n m v c.args.steps.now c.look-seen.new.steps
    (subst (λ z. Looked T c.args.at d z n m c.args.steps.now v c.look-seen.new.steps) c.if-size-eq0.true c.look-seen.ensures.looked)
    c.lock-found.new.seat.me c.lock-found.result c.tick.new.self c.tick.ensures c.lock-found.ensures.leaves c.if-found-control.false
    c.offer.new.seat.me c.offer.new.steps c.args.value
    (is_even c.is_locked.result n c.is_locked.ensures c.if-is_locked.false)
    (no_offer c.look-seen.result.size n (c.is_full.ensures.ready c.if-is_full.false) c.if-size-eq0.true)
    c.offer.ensures.offered

pub returns-clause-answers : goal.returns-clause-answers
returns-clause-answers g c =
    let T = setup_of c.args.table.now.shared.key in
    let n = c.look-seen.result.control in
    sent T c.args.at (settled T c.args.behind c.args.seat.now.me) c.look-seen.result.size n c.args.seat.now.me
    c.look-seen.new.seat.me c.args.steps.now c.look-seen.new.steps c.look-seen.ensures.looked c.lock-found.new.seat.me c.lock-found.result
    c.tick.new.self c.tick.ensures c.lock-found.ensures.leaves c.if-found-control.false c.push.new.seat.me c.push.new.steps
    c.args.value c.requires.here
    (is_even c.is_locked.result n c.is_locked.ensures c.if-is_locked.false)
    (has_room c.look-seen.result.size n (c.is_full.ensures.ready c.if-is_full.false) c.if-size-eq0.false)
    c.push.ensures.pushed
