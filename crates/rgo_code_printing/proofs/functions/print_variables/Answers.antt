use Rattle.std.proofs.Common.{◌+◌, map, drop, slice_get}
use Rattle.std.specs.List.{flat_map}
use Rattle.rgo_code_printing.specs.Printing.{slot_lines}
use Rattle.rgo_code_printing.specs.Text.{names_of, line, slot_words}
use Rattle.rgo_code_printing.proofs.Printing.{one_more}
use Rattle.rgo_code_printing.proofs.Steps.{slot_step}
use Rattle.rgo_code_printing.proofs.functions.print_variables.Goals as goal

pub loop-i-preserved : goal.loop-i-preserved
loop-i-preserved c =
    let n = names_of c.args.code.now in
    let slots = c.args.f.now.variables in
    let i = c.loop-i.i in
    one_more c.loop-i.out.items c.print_variable_at.new.out.items (flat_map line (slot_lines n (slice_get slots i)))
    (flat_map line (map (slot_words n) (drop (i + 1) slots))) _ _ c.in_ok-print_variable_at.ensures
    (slot_step n slots i) c.loop-i.invariant
