use Rattle.std.proofs.Common.{ap, sym, ◌∙◌, inl, inr, refl}
use Rattle.rgo_core.specs.Channels.Records.{ChannelRec as SideRec, with_own_look}
use Rattle.rgo_core.specs.runs.Plans.{setup_of}
use Rattle.rgo_core_steps.specs.Seats.{mine}
use Rattle.rgo_chan.proofs.Closing.{acknowledged, can_acknowledge, is_taken, missed, same_side}
use Rattle.rgo_chan.proofs.Looking.{did_own_control, own_hold, own_post}
use Rattle.rgo_chan.proofs.Reading.{is_even, is_odd, is_shut, not_shut}
use Rattle.rgo_chan.proofs.closes.acknowledge.Goals as goal

pub lock-found-requires-clause-here : goal.lock-found-requires-clause-here
lock-found-requires-clause-here g c =
    let T = setup_of c.args.table.now.shared.key in
    let d = mine T c.args.seat.now.me in
    inr (ap (λ (r : SideRec). r.post) (same_side T c.args.at d (with_own_look d.side c.args.at c.own_control-control.result) c.own_control-control.result c.args.seat.now.me
    c.own_control-control.new.seat.me c.args.steps.now c.tick.new.self
    (did_own_control T c.args.at c.args.seat.now.me c.own_control-control.new.seat.me c.own_control-control.result c.args.steps.now
    c.tick.new.self c.own_control-control.ensures.leaves c.tick.ensures)) ∙ (own_post d.side c.args.at c.own_control-control.result ∙ c.requires.offering))

pub lock-found-requires-clause-unlocked : goal.lock-found-requires-clause-unlocked
lock-found-requires-clause-unlocked g c =
    is_even c.is_locked.result c.own_control-control.result c.is_locked.ensures c.if-is_locked.false

pub lock-found-requires-clause-free : goal.lock-found-requires-clause-free
lock-found-requires-clause-free g c =
    let T = setup_of c.args.table.now.shared.key in
    let d = mine T c.args.seat.now.me in
    ap (λ (r : SideRec). r.hold) (same_side T c.args.at d (with_own_look d.side c.args.at c.own_control-control.result) c.own_control-control.result c.args.seat.now.me
    c.own_control-control.new.seat.me c.args.steps.now c.tick.new.self
    (did_own_control T c.args.at c.args.seat.now.me c.own_control-control.new.seat.me c.own_control-control.result c.args.steps.now
    c.tick.new.self c.own_control-control.ensures.leaves c.tick.ensures)) ∙ (own_hold d.side c.args.at c.own_control-control.result ∙ c.requires.free)

pub returns-then-is_locked-clause-answers : goal.returns-then-is_locked-clause-answers
returns-then-is_locked-clause-answers g c =
    let T = setup_of c.args.table.now.shared.key in
    inl (
      is_odd c.is_locked.result c.own_control-control.result c.is_locked.ensures c.if-is_locked.true,
      did_own_control T c.args.at c.args.seat.now.me c.own_control-control.new.seat.me c.own_control-control.result c.args.steps.now
          c.tick.new.self c.own_control-control.ensures.leaves c.tick.ensures,
    )

pub returns-then-is_closed-clause-answers : goal.returns-then-is_closed-clause-answers
returns-then-is_closed-clause-answers g c =
    let T = setup_of c.args.table.now.shared.key in (
      refl,
      c.own_control-control.result,
      (is_even c.is_locked.result c.own_control-control.result c.is_locked.ensures c.if-is_locked.false),
      is_shut c.is_closed.result c.own_control-control.result c.is_closed.ensures c.if-is_closed.true,
      (sym c.count.ensures ∙ c.if-count-eq1.true),
      did_own_control T c.args.at c.args.seat.now.me c.own_control-control.new.seat.me c.own_control-control.result c.args.steps.now
          c.tick.new.self c.own_control-control.ensures.leaves c.tick.ensures,
    )

pub returns-then-count-eq1-clause-answers : goal.returns-then-count-eq1-clause-answers
returns-then-count-eq1-clause-answers g c =
    let T = setup_of c.args.table.now.shared.key in (
      c.own_control-control.result,
      (is_even c.is_locked.result c.own_control-control.result c.is_locked.ensures c.if-is_locked.false),
      not_shut c.is_closed.result c.own_control-control.result c.is_closed.ensures c.if-is_closed.false,
      (sym c.count.ensures ∙ c.if-count-eq1.true),
      did_own_control T c.args.at c.args.seat.now.me c.own_control-control.new.seat.me c.own_control-control.result c.args.steps.now
          c.tick.new.self c.own_control-control.ensures.leaves c.tick.ensures,
    )

pub returns-then-found-control-clause-answers : goal.returns-then-found-control-clause-answers
returns-then-found-control-clause-answers g c =
    let T = setup_of c.args.table.now.shared.key in
    let d = mine T c.args.seat.now.me in
    inr (
      c.own_control-control.result,
      (is_even c.is_locked.result c.own_control-control.result c.is_locked.ensures c.if-is_locked.false),
      (is_taken T c.args.at c.args.seat.now.me c.own_control-control.new.seat.me c.own_control-control.result c.own_control-control.ensures.leaves
          (λ e. c.if-count-eq1.false (c.count.ensures ∙ e))),
      c.if-found-control.true,
      missed T c.args.at d (with_own_look d.side c.args.at c.own_control-control.result) c.own_control-control.result c.args.seat.now.me
          c.own_control-control.new.seat.me c.args.steps.now c.tick.new.self
          (did_own_control T c.args.at c.args.seat.now.me c.own_control-control.new.seat.me c.own_control-control.result c.args.steps.now
          c.tick.new.self c.own_control-control.ensures.leaves c.tick.ensures)
          c.lock-found.new.seat.me c.lock-found.result c.tick-2.new.self c.tick-2.ensures c.lock-found.ensures.leaves c.if-found-control.true,
    )

pub commit_acknowledge-requires-clause-ready : goal.commit_acknowledge-requires-clause-ready
commit_acknowledge-requires-clause-ready g c =
    let T = setup_of c.args.table.now.shared.key in
    let d = mine T c.args.seat.now.me in
    can_acknowledge T c.args.at d (with_own_look d.side c.args.at c.own_control-control.result) c.own_control-control.result c.args.seat.now.me
    c.own_control-control.new.seat.me c.args.steps.now c.tick.new.self
    (did_own_control T c.args.at c.args.seat.now.me c.own_control-control.new.seat.me c.own_control-control.result c.args.steps.now
    c.tick.new.self c.own_control-control.ensures.leaves c.tick.ensures)
    c.lock-found.new.seat.me c.lock-found.result c.tick-2.new.self c.tick-2.ensures c.lock-found.ensures.leaves c.if-found-control.false c.requires.here (own_post d.side c.args.at c.own_control-control.result ∙ c.requires.offering) (is_taken T c.args.at c.args.seat.now.me c.own_control-control.new.seat.me c.own_control-control.result c.own_control-control.ensures.leaves
    (λ e. c.if-count-eq1.false (c.count.ensures ∙ e)))

pub returns-clause-answers : goal.returns-clause-answers
returns-clause-answers g c =
    let T = setup_of c.args.table.now.shared.key in
    let d = mine T c.args.seat.now.me in
    let r = acknowledged T c.args.at d (with_own_look d.side c.args.at c.own_control-control.result) c.own_control-control.result c.args.seat.now.me
    c.own_control-control.new.seat.me c.args.steps.now c.tick.new.self
    (did_own_control T c.args.at c.args.seat.now.me c.own_control-control.new.seat.me c.own_control-control.result c.args.steps.now
    c.tick.new.self c.own_control-control.ensures.leaves c.tick.ensures)
    c.lock-found.new.seat.me c.lock-found.result c.tick-2.new.self c.tick-2.ensures c.lock-found.ensures.leaves c.if-found-control.false c.requires.here c.commit_acknowledge.new.seat.me c.tick-3.new.self c.tick-3.ensures c.commit_acknowledge.ensures.stored in (
      refl,
      c.own_control-control.result,
      r.0,
      (is_even c.is_locked.result c.own_control-control.result c.is_locked.ensures c.if-is_locked.false),
      (is_taken T c.args.at c.args.seat.now.me c.own_control-control.new.seat.me c.own_control-control.result c.own_control-control.ensures.leaves
          (λ e. c.if-count-eq1.false (c.count.ensures ∙ e))),
      r.1,
    )
