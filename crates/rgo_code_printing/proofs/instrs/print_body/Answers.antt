use Rattle.std.proofs.Common.{◌+◌, drop, slice_get}
use Rattle.std.specs.List.{flat_map}
use Rattle.rgo_code_printing.specs.Printing.{instr_lines}
use Rattle.rgo_code_printing.specs.Text.{names_of, line, body_lines}
use Rattle.rgo_code_printing.proofs.Printing.{one_more}
use Rattle.rgo_code_printing.proofs.Steps.{instr_step}
use Rattle.rgo_code_printing.proofs.instrs.print_body.Goals as goal

pub loop-i-preserved : goal.loop-i-preserved
loop-i-preserved c =
    let n = names_of c.args.code.now in
    let body = c.args.f.now.body in
    let i = c.loop-i.i in
    one_more c.loop-i.out.items c.print_instr_at.new.out.items (flat_map line (instr_lines n i (slice_get body i)))
    (flat_map line (body_lines n (i + 1) (drop (i + 1) body))) _ _ c.in_ok-print_instr_at.ensures
    (instr_step n body i) c.loop-i.invariant
