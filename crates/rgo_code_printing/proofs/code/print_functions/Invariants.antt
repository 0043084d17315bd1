use Rattle.std.proofs.Common.{◌≡◌, ◌++◌, drop}
use Rattle.std.specs.List.{flat_map}
use Rattle.rgo_code_printing.specs.Text.{names_of, line, fn_lines}
use Rattle.rgo_code_printing.proofs.code.print_functions.Given as goal

abbrev pub invariant-loop-n : goal.invariant-loop-n
invariant-loop-n l =
    l.out.items ++ flat_map line (flat_map (fn_lines (names_of l.code)) (drop l.n l.code.functions))
    ≡ l.fn.out.items ++ flat_map line (flat_map (fn_lines (names_of l.code)) l.code.functions)
