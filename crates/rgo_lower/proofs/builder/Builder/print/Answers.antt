use Rattle.rgo_tac.specs.declared.code.Instr.TheVariants as instr
use Rattle.rgo_tac.specs.Code as op
use Rattle.rgo_lower.specs.Emitted.{made_of}
use Rattle.rgo_lower.proofs.Growing.{op_with_pieces, ok_map}
use Rattle.rgo_lower.proofs.builder.Builder.print.Goals as goal

pub returns : goal.returns
returns c =
    let a = made_of c.args.self.now in
    let b = made_of c.text.new.self in
    let d = made_of c.list.new.self in
    let e = made_of c.line.new.self in
    let m = c.in_ok-text.text in
    let n = c.in_ok-list.list in
    ok_map c.line.result _ _
    (λ is. op_with_pieces a b d e (instr.Print m n) (op.Print c.args.pieces.now c.args.from.items) c.args.pieces.now
    c.args.from.items c.args.place m n c.in_ok-text.ensures.0 c.in_ok-text.ensures.1 c.in_ok-list.ensures.0
    c.in_ok-list.ensures.1 is (λ w p l. λ i. op.Print (p i) (l i))) c.line.ensures
