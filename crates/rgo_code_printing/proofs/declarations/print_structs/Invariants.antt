use Rattle.std.proofs.Common.{◌≡◌, ◌++◌, map, drop}
use Rattle.std.specs.List.{flat_map}
use Rattle.rgo_code_printing.specs.Text.{names_of, line, struct_line_words}
use Rattle.rgo_code_printing.proofs.declarations.print_structs.Given as goal

abbrev pub invariant-loop-s : goal.invariant-loop-s
invariant-loop-s l =
    l.out.items ++ flat_map line (map (struct_line_words (names_of l.code)) (drop l.s-index l.structs))
    ≡ l.fn.out.items ++ flat_map line (map (struct_line_words (names_of l.code)) l.structs)
