use Rattle.std.proofs.Common.{◌≡◌, ◌∙◌, Some, None, slice_get, sym, arith, length}
use Rattle.rgo_classes.proofs.Arguments.{held_all, held_more, held_past}
use Rattle.rgo_classes.proofs.calls.hold_arguments.Goals as goal
use Rattle.rgo_classes.proofs.calls.hold_arguments.Goals.{in-Some+in_ok-hold-in-Some, in-None}

pub loop-i-preserved : goal.loop-i-preserved
loop-i-preserved c = elim c.match-class_at.branch [
  | in-Some+in_ok-hold-in-Some w ↦
      let here : slice_get c.args.params.now c.loop-i.i ≡ Some w.in-Some.class = sym c.class_at.ensures ∙ w.in-Some.is
      in
      rw (w.labels-is, w.holders-is) (record {
        len = w.hold.ensures.len ∙ c.loop-i.invariant.len;
        holders = w.in_ok-hold-in-Some.ensures.holders;
        joined = λ old h. held_more c.args.function.now old c.args.params.now c.args.from.now c.loop-i.i c.loop-i.labels
            c.loop-i.holders (c.loop-i.invariant.joined old h) w.in-Some.class w.hold.new.labels
            w.hold.new.holders c.loop-i-test.true here w.in_ok-hold-in-Some.ensures.joined;
      })
  | in-None w ↦
      let none : slice_get c.args.params.now c.loop-i.i ≡ None = sym c.class_at.ensures ∙ w.in-None.is in
      rw (w.labels-is, w.holders-is) (record {
        len = c.loop-i.invariant.len;
        holders = c.loop-i.invariant.holders;
        joined = λ old h. held_past c.args.function.now old c.args.params.now c.args.from.now c.loop-i.i c.loop-i.labels
            c.loop-i.holders (c.loop-i.invariant.joined old h) none;
      })
]

pub returns-clause-joined : goal.returns-clause-joined
returns-clause-joined c = λ old h.
    let all : c.loop-i.i ≡ length c.args.from.now = omega (arith, c.loop-i-test.false, c.loop-i.auto.i-end) in
    held_all c.args.function.now old c.args.params.now c.args.from.now c.loop-i.i c.loop-i.labels c.loop-i.holders
    (c.loop-i.invariant.joined old h) all
