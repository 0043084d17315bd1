use Rattle.rgo_lower.specs.Emitted.{made_of, acts}
use Rattle.rgo_lower.proofs.Growing.{value_added}
use Rattle.rgo_lower.proofs.builder.Builder.give.Goals as goal

pub returns : goal.returns
returns c =
    let a = made_of c.args.self.now in
    let b = made_of c.variable.new.self in
    let d = made_of c.line.new.self in
    value_added a b d c.value_instr-instr.result (acts c.args.action c.args.from.now) c.args.ty.now c.args.place c.in_ok-to.to
    c.in_ok-to.ensures.0 c.in_ok-to.ensures.1 c.in_ok-line.ensures
    (λ w k. c.value_instr-instr.ensures w.leads w.lists w.pieces)
