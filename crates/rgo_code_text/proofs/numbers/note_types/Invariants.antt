use Rattle.std.proofs.Common.{◌≡◌, map, drop}
use Rattle.std.specs.List.{flat_map}
use Rattle.rgo_code_text.specs.Building.{names_now, with_struct_names, type_names}
use Rattle.rgo_code_words.specs.Views.{named_type_of}
use Rattle.rgo_code_text.proofs.numbers.note_types.Given as goal

abbrev pub invariant-loop-named : goal.invariant-loop-named
invariant-loop-named l =
    with_struct_names (names_now l.tables) (flat_map type_names (map named_type_of (drop l.named-index l.types)))
    ≡ with_struct_names (names_now l.initial.tables) (flat_map type_names (map named_type_of l.types))
