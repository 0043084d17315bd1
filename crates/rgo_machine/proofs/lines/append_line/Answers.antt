use Rattle.std.proofs.Common.{◌∙◌, ◌∷◌, [], ◌++◌, ap, append_assoc, arith}
use Rattle.rgo_machine.specs.Lines.{printed_operands}
use Rattle.rgo_machine.proofs.Spaces.{trimmed_of}
use Rattle.rgo_machine.proofs.lines.append_line.Goals as goal

pub returns-clause-line : goal.returns-clause-line
returns-clause-line c =
    c.in_ok-push.ensures.items
    ∙ ap (λ l. l ++ 10 ∷ [])
    (trimmed_of c.truncate.new.self.items c.len-start.result c.args.out.now.items c.write_operands.new.out.items
    (printed_operands c.args.pieces.now c.args.values.now) c.max.result c.in_ok-write_operands.ensures.operands (omega arith)
    (omega (arith, c.max.ensures)) c.truncate.ensures.items)
    ∙ append_assoc c.args.out.now.items _ (10 ∷ [])
