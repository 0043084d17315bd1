use Rattle.std.proofs.Common.{None}
use Rattle.rgo_tac.specs.declared.code.Instr.TheVariants as instr
use Rattle.rgo_tac.specs.Code as op
use Rattle.rgo_lower.specs.Emitted.{made_of}
use Rattle.rgo_lower.proofs.Growing.{op_with_list, ok_map}
use Rattle.rgo_lower.proofs.builder.Builder.invoke.Goals as goal

pub returns : goal.returns
returns c =
    let a = made_of c.args.self.now in
    let b = made_of c.list.new.self in
    let d = made_of c.line.new.self in
    let n = c.in_ok-list.list in
    ok_map c.line.result _ _
    (λ is. op_with_list a b d (instr.Invoke c.args.function n)
    (op.Call None c.args.function c.args.from.items) c.args.from.items c.args.place n
    c.in_ok-list.ensures.0 c.in_ok-list.ensures.1 is (λ w l. λ i. op.Call None c.args.function
    (l i))) c.line.ensures
