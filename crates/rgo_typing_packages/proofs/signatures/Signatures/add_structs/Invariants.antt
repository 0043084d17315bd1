use Rattle.std.proofs.Common.{map, drop}
use Rattle.rgo_ast.specs.Views.{type_spec_of}
use Rattle.rgo_typing_packages.specs.Signatures.{structs_sites, with_structs}
use Rattle.rgo_typing_packages.specs.Views.{signatures_of}
use Rattle.rgo_typing_packages.proofs.Turns.{Loop}
use Rattle.rgo_typing_packages.proofs.signatures.Signatures.add_structs.Given as goal

abbrev pub invariant-loop-declared : goal.invariant-loop-declared
invariant-loop-declared l =
    Loop (structs_sites l.top) (with_structs l.top) (signatures_of l.initial.self) (map type_spec_of l.types)
    (signatures_of l.self) (map type_spec_of (drop l.declared-index l.types))
