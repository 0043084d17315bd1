use Rattle.std.proofs.Common.{◌≡◌, ◌++◌, map, drop}
use Rattle.std.specs.List.{flat_map}
use Rattle.rgo_code_printing.specs.Text.{names_of, line, slot_words}
use Rattle.rgo_code_printing.proofs.functions.print_variables.Given as goal

abbrev pub invariant-loop-i : goal.invariant-loop-i
invariant-loop-i l =
    l.out.items ++ flat_map line (map (slot_words (names_of l.code)) (drop l.i l.f.variables))
    ≡ l.fn.out.items ++ flat_map line (map (slot_words (names_of l.code)) l.f.variables)
