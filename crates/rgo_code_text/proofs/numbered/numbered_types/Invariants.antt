use Rattle.std.proofs.Common.{◌≡◌, map}
use Rattle.rgo_code_text.specs.Building.{names_now, numbered_type}
use Rattle.rgo_code_words.specs.Views.{named_type_of}
use Rattle.rgo_code_text.proofs.numbered.numbered_types.Given as goal

abbrev pub invariant-loop-ty : goal.invariant-loop-ty
invariant-loop-ty l = l.types.items ≡ map (numbered_type (names_now l.tables)) (map named_type_of l.yielded)
