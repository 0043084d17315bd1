use Rattle.std.proofs.Common.{Some}
use Rattle.rgo_tac.specs.declared.code.Instr.TheVariants as instr
use Rattle.rgo_tac.specs.Code as op
use Rattle.rgo_lower.specs.Emitted.{made_of, calls}
use Rattle.rgo_lower.proofs.Growing.{value_with_list}
use Rattle.rgo_lower.proofs.builder.Builder.call.Goals as goal

pub returns : goal.returns
returns c =
    let a = made_of c.args.self.now in
    let b = made_of c.list.new.self in
    let d = made_of c.variable.new.self in
    let e = made_of c.line.new.self in
    let n = c.in_ok-list.list in
    let to = c.in_ok-to.to in
    value_with_list a b d e (instr.Call to c.args.function n)
    (calls c.args.function c.args.from.items) c.args.ty.now
    c.args.from.items c.args.place n to c.in_ok-list.ensures.0 c.in_ok-list.ensures.1 c.in_ok-to.ensures.0
    c.in_ok-to.ensures.1 c.in_ok-line.ensures (λ w l. λ i. op.Call (Some to) c.args.function (l i))
