use Rattle.std.proofs.Common.{◌∙◌, ap, sym, Some, slice_get}
use Rattle.rgo_tac.specs.Ops.{op_in}
use Rattle.rgo_tac.proofs.Bodies.{op_at, no_op_at}
use Rattle.rgo_tac.proofs.functions.TacFn.op.Goals as goal

pub returns-in-Some-clause-op : goal.returns-in-Some-clause-op
returns-in-Some-clause-op c =
    let b = c.self.inside.body in
    let there = ap (λ is. slice_get is c.args.n) (sym c.items.ensures) ∙ sym c.instr_at.ensures.instr ∙ c.in-Some.is in
    ap Some c.decode.ensures ∙ sym (op_at b.lists b.pieces b.instrs b.places c.args.n c.in-Some.instr there)
    ∙ ap (λ f. op_in (slice_get f.body c.args.n)) c.self.view_is

pub returns-in-None-clause-op : goal.returns-in-None-clause-op
returns-in-None-clause-op c =
    let b = c.self.inside.body in
    let there = ap (λ is. slice_get is c.args.n) (sym c.items.ensures) ∙ sym c.instr_at.ensures.instr ∙ c.in-None.is in
    sym (no_op_at b.lists b.pieces b.instrs b.places c.args.n there)
    ∙ ap (λ f. op_in (slice_get f.body c.args.n)) c.self.view_is
