use Rattle.std.proofs.Common.{◌≡◌, ◌++◌, map, drop}
use Rattle.rgo_ast.specs.Views.{decl_of}
use Rattle.rgo_typed.specs.Views.{typed_function_of}
use Rattle.rgo_typing_rules.specs.Sites.{first_refusal}
use Rattle.rgo_types.specs.Programs.{bodies_sites, typed_functions}
use Rattle.rgo_types.proofs.bodies.check_bodies.Given as goal

abbrev pub invariant-loop-decl : goal.invariant-loop-decl
invariant-loop-decl l =
    (first_refusal (bodies_sites l.top (map decl_of (drop l.decl-index l.decls)))
    ≡ first_refusal (bodies_sites l.top (map decl_of l.decls)))
    × (map typed_function_of l.functions.items ++ typed_functions l.top (map decl_of (drop l.decl-index l.decls))
    ≡ typed_functions l.top (map decl_of l.decls))
