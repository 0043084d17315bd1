use Rattle.std.proofs.Common.{ap, ◌∙◌, inl, inr, refl}
use Rattle.rgo_core.specs.Channels.Records.{ChannelRec as SideRec, with_look}
use Rattle.rgo_core.specs.runs.Plans.{setup_of}
use Rattle.rgo_core_steps.specs.Seats.{mine, settled}
use Rattle.rgo_chan.proofs.Carrying.{closes_as, closes_there}
use Rattle.rgo_chan.proofs.Closing.{can_close, closed, missed, same_frame, same_side}
use Rattle.rgo_chan.proofs.Looking.{did_control, look_hold}
use Rattle.rgo_chan.proofs.Reading.{is_even, is_odd, is_shut, not_shut}
use Rattle.rgo_chan.proofs.closes.close_at.Goals as goal

pub control-control-requires-clause-here : goal.control-control-requires-clause-here
control-control-requires-clause-here g c =
    closes_there c.requires.here

pub lock-found-requires-clause-here : goal.lock-found-requires-clause-here
lock-found-requires-clause-here g c =
    let T = setup_of c.args.table.now.shared.key in
    let d = settled T c.args.behind c.args.seat.now.me in
    closes_there (closes_as (mine T c.control-control.new.seat.me) (same_frame T c.args.at d (with_look d.side c.args.at c.control-control.result) c.control-control.result c.args.seat.now.me
    c.control-control.new.seat.me c.args.steps.now c.tick.new.self
    (did_control T c.args.at c.args.behind c.args.seat.now.me c.control-control.new.seat.me c.control-control.result c.args.steps.now
    c.tick.new.self c.requires.settles c.control-control.ensures.leaves c.tick.ensures)) c.requires.here)

pub lock-found-requires-clause-unlocked : goal.lock-found-requires-clause-unlocked
lock-found-requires-clause-unlocked g c =
    is_even c.is_locked.result c.control-control.result c.is_locked.ensures c.if-is_locked.false

pub lock-found-requires-clause-free : goal.lock-found-requires-clause-free
lock-found-requires-clause-free g c =
    let T = setup_of c.args.table.now.shared.key in
    let d = settled T c.args.behind c.args.seat.now.me in
    ap (λ (r : SideRec). r.hold) (same_side T c.args.at d (with_look d.side c.args.at c.control-control.result) c.control-control.result c.args.seat.now.me
    c.control-control.new.seat.me c.args.steps.now c.tick.new.self
    (did_control T c.args.at c.args.behind c.args.seat.now.me c.control-control.new.seat.me c.control-control.result c.args.steps.now
    c.tick.new.self c.requires.settles c.control-control.ensures.leaves c.tick.ensures)) ∙ (look_hold d.side c.args.at c.control-control.result ∙ c.requires.free)

pub returns-then-is_locked-clause-answers : goal.returns-then-is_locked-clause-answers
returns-then-is_locked-clause-answers g c =
    let T = setup_of c.args.table.now.shared.key in
    inl (
      is_odd c.is_locked.result c.control-control.result c.is_locked.ensures c.if-is_locked.true,
      did_control T c.args.at c.args.behind c.args.seat.now.me c.control-control.new.seat.me c.control-control.result c.args.steps.now
          c.tick.new.self c.requires.settles c.control-control.ensures.leaves c.tick.ensures,
    )

pub returns-then-is_closed-clause-answers : goal.returns-then-is_closed-clause-answers
returns-then-is_closed-clause-answers g c =
    let T = setup_of c.args.table.now.shared.key in (
      refl,
      c.control-control.result,
      (is_even c.is_locked.result c.control-control.result c.is_locked.ensures c.if-is_locked.false),
      is_shut c.is_closed.result c.control-control.result c.is_closed.ensures c.if-is_closed.true,
      did_control T c.args.at c.args.behind c.args.seat.now.me c.control-control.new.seat.me c.control-control.result c.args.steps.now
          c.tick.new.self c.requires.settles c.control-control.ensures.leaves c.tick.ensures,
    )

pub returns-then-found-control-clause-answers : goal.returns-then-found-control-clause-answers
returns-then-found-control-clause-answers g c =
    let T = setup_of c.args.table.now.shared.key in
    let d = settled T c.args.behind c.args.seat.now.me in
    inr (
      c.control-control.result,
      (is_even c.is_locked.result c.control-control.result c.is_locked.ensures c.if-is_locked.false),
      (not_shut c.is_closed.result c.control-control.result c.is_closed.ensures c.if-is_closed.false),
      c.if-found-control.true,
      missed T c.args.at d (with_look d.side c.args.at c.control-control.result) c.control-control.result c.args.seat.now.me
          c.control-control.new.seat.me c.args.steps.now c.tick.new.self
          (did_control T c.args.at c.args.behind c.args.seat.now.me c.control-control.new.seat.me c.control-control.result c.args.steps.now
          c.tick.new.self c.requires.settles c.control-control.ensures.leaves c.tick.ensures)
          c.lock-found.new.seat.me c.lock-found.result c.tick-2.new.self c.tick-2.ensures c.lock-found.ensures.leaves c.if-found-control.true,
    )

pub commit_close-requires-clause-ready : goal.commit_close-requires-clause-ready
commit_close-requires-clause-ready g c =
    let T = setup_of c.args.table.now.shared.key in
    let d = settled T c.args.behind c.args.seat.now.me in
    can_close T c.args.at d (with_look d.side c.args.at c.control-control.result) c.control-control.result c.args.seat.now.me
    c.control-control.new.seat.me c.args.steps.now c.tick.new.self
    (did_control T c.args.at c.args.behind c.args.seat.now.me c.control-control.new.seat.me c.control-control.result c.args.steps.now
    c.tick.new.self c.requires.settles c.control-control.ensures.leaves c.tick.ensures)
    c.lock-found.new.seat.me c.lock-found.result c.tick-2.new.self c.tick-2.ensures c.lock-found.ensures.leaves c.if-found-control.false c.requires.here (not_shut c.is_closed.result c.control-control.result c.is_closed.ensures c.if-is_closed.false)

pub returns-clause-answers : goal.returns-clause-answers
returns-clause-answers g c =
    let T = setup_of c.args.table.now.shared.key in
    let d = settled T c.args.behind c.args.seat.now.me in
    let r = closed T c.args.at d (with_look d.side c.args.at c.control-control.result) c.control-control.result c.args.seat.now.me
    c.control-control.new.seat.me c.args.steps.now c.tick.new.self
    (did_control T c.args.at c.args.behind c.args.seat.now.me c.control-control.new.seat.me c.control-control.result c.args.steps.now
    c.tick.new.self c.requires.settles c.control-control.ensures.leaves c.tick.ensures)
    c.lock-found.new.seat.me c.lock-found.result c.tick-2.new.self c.tick-2.ensures c.lock-found.ensures.leaves c.if-found-control.false c.requires.here c.commit_close.new.seat.me c.tick-3.new.self c.tick-3.ensures c.commit_close.ensures.stored in
    (refl, c.control-control.result, r.0, (is_even c.is_locked.result c.control-control.result c.is_locked.ensures c.if-is_locked.false), (not_shut c.is_closed.result c.control-control.result c.is_closed.ensures c.if-is_closed.false), r.1)
