use Rattle.std.proofs.Common.{◌≡◌, ◌++◌, map, drop}
use Rattle.std.specs.List.{flat_map}
use Rattle.rgo_code_printing.specs.Text.{names_of, line, global_words}
use Rattle.rgo_code_printing.proofs.declarations.print_globals.Given as goal

abbrev pub invariant-loop-v : goal.invariant-loop-v
invariant-loop-v l =
    l.out.items ++ flat_map line (map (global_words (names_of l.code)) (drop l.v-index l.variables))
    ≡ l.fn.out.items ++ flat_map line (map (global_words (names_of l.code)) l.variables)
