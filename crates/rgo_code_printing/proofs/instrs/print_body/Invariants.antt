use Rattle.std.proofs.Common.{◌≡◌, ◌++◌, drop}
use Rattle.std.specs.List.{flat_map}
use Rattle.rgo_code_printing.specs.Text.{names_of, line, body_lines}
use Rattle.rgo_code_printing.proofs.instrs.print_body.Given as goal

abbrev pub invariant-loop-i : goal.invariant-loop-i
invariant-loop-i l =
    l.out.items ++ flat_map line (body_lines (names_of l.code) l.i (drop l.i l.f.body))
    ≡ l.fn.out.items ++ flat_map line (body_lines (names_of l.code) 0 l.f.body)
