use Rattle.std.proofs.Common.{◌≡◌, ◌++◌, map, drop}
use Rattle.rgo_code_printing.specs.Printing.{words_after_spaces}
use Rattle.rgo_code_printing.specs.Words.{type_word}
use Rattle.rgo_code_printing.specs.Text.{names_of}
use Rattle.rgo_code_printing.proofs.declarations.print_fields.Given as goal

abbrev pub invariant-loop-ty : goal.invariant-loop-ty
invariant-loop-ty l =
    l.out.items ++ words_after_spaces (map (type_word (names_of l.code).structs) (drop l.ty-index l.types))
    ≡ l.fn.out.items ++ words_after_spaces (map (type_word (names_of l.code).structs) l.types)
