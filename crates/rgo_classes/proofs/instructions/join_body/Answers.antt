use Rattle.std.proofs.Common.{◌∙◌, ◌≤◌, length, refl, sym, ap, arith}
use Rattle.std.specs.Option.{option_map}
use Rattle.rgo_tac.specs.Ops.{operation_of}
use Rattle.rgo_classes.proofs.Bodies.{body_all, body_more, body_none, body_past}
use Rattle.rgo_classes.proofs.instructions.join_body.Goals as goal
use Rattle.rgo_classes.proofs.instructions.join_body.Goals.{in-Some+in_ok-join_op-in-Some, in-None}

pub loop-n-init : goal.loop-n-init
loop-n-init c = record {
  len = refl;
  joined = body_none c.args.summaries.now.functions c.args.function.now c.args.labels.now;
}

pub loop-n-preserved : goal.loop-n-preserved
loop-n-preserved c =
    let f = c.args.function.now in
    let summaries = c.args.summaries.now.functions in
    elim c.match-op.branch [
      | in-Some+in_ok-join_op-in-Some w ↦
          let is = sym c.op.ensures.op ∙ ap (option_map operation_of) w.in-Some.is in
          rw w.labels-is (record {
            len = w.join_op.ensures.len ∙ c.loop-n.invariant.len;
            joined = body_more summaries f c.args.labels.now c.loop-n.n c.loop-n.labels c.loop-n.invariant.joined
                (operation_of w.in-Some.op) w.join_op.new.labels c.requires.fits is
                w.in_ok-join_op-in-Some.ensures.joined;
          })
      | in-None w ↦
          let none = sym c.op.ensures.op ∙ ap (option_map operation_of) w.in-None.is in
          rw w.labels-is (record {
            len = c.loop-n.invariant.len;
            joined = body_past summaries f c.args.labels.now c.loop-n.n c.loop-n.labels c.loop-n.invariant.joined none;
          })
    ]

pub returns-clause-joined : goal.returns-clause-joined
returns-clause-joined c =
    let all : length c.args.function.now.body ≤ c.loop-n.n =
    omega (arith, c.loop-n-test.false, c.len-n-end.ensures) in
    body_all c.args.summaries.now.functions c.args.function.now c.args.labels.now c.loop-n.n c.loop-n.labels all
    c.loop-n.invariant.joined
