use Rattle.std.proofs.Common.{◌∙◌, ap, sym, Some, slice_get}
use Rattle.std.specs.Option.{option_map}
use Rattle.rgo_tac.specs.Ops.{kind_of, op_in}
use Rattle.rgo_tac.proofs.Bodies.{op_at, no_op_at}
use Rattle.rgo_tac.proofs.functions.TacFn.kind.Goals as goal

pub returns-in-Some : goal.returns-in-Some
returns-in-Some c =
    let b = c.self.inside.body in
    let there = ap (λ is. slice_get is c.args.n) (sym c.items.ensures) ∙ sym c.instr_at.ensures.instr ∙ c.in-Some.is in
    ap Some (c.instr_kind.ensures b.lists b.pieces)
    ∙ ap (option_map kind_of) (sym (op_at b.lists b.pieces b.instrs b.places c.args.n c.in-Some.instr there)
    ∙ ap (λ f. op_in (slice_get f.body c.args.n)) c.self.view_is)

pub returns-in-None : goal.returns-in-None
returns-in-None c =
    let b = c.self.inside.body in
    let there = ap (λ is. slice_get is c.args.n) (sym c.items.ensures) ∙ sym c.instr_at.ensures.instr ∙ c.in-None.is in
    ap (option_map kind_of) (sym (no_op_at b.lists b.pieces b.instrs b.places c.args.n there)
    ∙ ap (λ f. op_in (slice_get f.body c.args.n)) c.self.view_is)
