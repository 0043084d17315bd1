use Rattle.std.proofs.Common.{◌∙◌}
use Rattle.rgo_code_text.specs.Ops.{removing}
use Rattle.rgo_code_text.proofs.op_lines.ActionOps.{simple_op}
use Rattle.rgo_code_text.proofs.ops.action_op.Goals as goal

pub returns : goal.returns
returns c =
    let o = c.simple.result in
    simple_op o.instr c.args.done.instr o.from.items o.pieces.items o.note (removing c.args.removes) o.name.now c.args.done.name.now
    c.simple.ensures.instr c.simple.ensures.from c.simple.ensures.pieces (c.simple.ensures.note ∙ c.removals-note.ensures)
    c.simple.ensures.name
