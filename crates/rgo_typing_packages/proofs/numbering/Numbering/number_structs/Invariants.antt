use Rattle.std.proofs.Common.{◌≡◌, map, drop}
use Rattle.rgo_ast.specs.Views.{type_spec_of}
use Rattle.rgo_typing_packages.specs.Numbering.{with_structs}
use Rattle.rgo_typing_packages.specs.Views.{numbering_of}
use Rattle.rgo_typing_packages.proofs.numbering.Numbering.number_structs.Given as goal

abbrev pub invariant-loop-declared : goal.invariant-loop-declared
invariant-loop-declared l = with_structs (numbering_of l.self) (map type_spec_of (drop l.declared-index l.types)) ≡ with_structs (numbering_of l.initial.self) (map type_spec_of l.types)
