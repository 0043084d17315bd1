use Rattle.std.proofs.Common.{◌≡◌, map, drop}
use Rattle.rgo_ast.specs.Views.{decl_of}
use Rattle.rgo_typing_packages.specs.Numbering.{with_all_decls, no_numbers}
use Rattle.rgo_typing_packages.specs.Views.{numbering_of}
use Rattle.rgo_typing_packages.proofs.numbering.number_decls.Given as goal

abbrev pub invariant-loop-decl : goal.invariant-loop-decl
invariant-loop-decl l =
    with_all_decls (numbering_of l.numbering) (map decl_of (drop l.decl-index l.decls)) ≡ with_all_decls no_numbers (map decl_of l.decls)
