use Rattle.std.proofs.Common.{map, drop}
use Rattle.rgo_ast.specs.Views.{decl_of}
use Rattle.rgo_typing_packages.specs.Signatures.{decls_sites, with_decls}
use Rattle.rgo_typing_packages.specs.Views.{signatures_of}
use Rattle.rgo_typing_packages.proofs.Turns.{Loop}
use Rattle.rgo_typing_packages.proofs.signatures.Signatures.add_decls.Given as goal

abbrev pub invariant-loop-decl : goal.invariant-loop-decl
invariant-loop-decl l =
    Loop (decls_sites l.top) (with_decls l.top) (signatures_of l.initial.self) (map decl_of l.decls)
    (signatures_of l.self) (map decl_of (drop l.decl-index l.decls))
