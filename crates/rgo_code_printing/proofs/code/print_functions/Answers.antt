use Rattle.std.proofs.Common.{◌+◌, drop, slice_get}
use Rattle.std.specs.List.{flat_map}
use Rattle.rgo_code_printing.specs.Printing.{lines_of_fn}
use Rattle.rgo_code_printing.specs.Text.{names_of, line, fn_lines}
use Rattle.rgo_code_printing.proofs.Printing.{one_more}
use Rattle.rgo_code_printing.proofs.Steps.{fn_step}
use Rattle.rgo_code_printing.proofs.code.print_functions.Goals as goal

pub loop-n-preserved : goal.loop-n-preserved
loop-n-preserved c =
    let n = names_of c.args.code.now in
    let fns = c.args.code.now.functions in
    let i = c.loop-n.n in
    one_more c.loop-n.out.items c.print_function_at.new.out.items (flat_map line (lines_of_fn n (slice_get fns i)))
    (flat_map line (flat_map (fn_lines n) (drop (i + 1) fns))) _ _ c.in_ok-print_function_at.ensures
    (fn_step n fns i) c.loop-n.invariant
