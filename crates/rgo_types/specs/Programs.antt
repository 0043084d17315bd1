-- Whole programs: the checked nodes in the order of checking, and the typed tree. Bodies come last, since they may use whatever the
-- package declares, and each is checked in the context of the package alone: the order of bodies decides only which fault is first.
use Rattle.std.specs.Prelude.{Bool, true, false, List, [], ◌∷◌, ◌++◌, length, codes}
use Rattle.std.specs.Prelude.{Option, Some, None, is_some}
use Rattle.rgo_ast.specs.Tree as tree
use Rattle.rgo_ast.specs.Tree.{Decl, Program, stmts_of}
use Rattle.rgo_typed.specs.declared.types.Type.{«Type»}
use Rattle.rgo_typed.specs.Tree.{Function, Typed}
use Rattle.rgo_typing_rules.specs.Meanings.{Signature}
use Rattle.rgo_typing_rules.specs.Nodes as node
use Rattle.rgo_typing_rules.specs.Sites.{Site}
use Rattle.rgo_typing_rules.specs.declared.meanings.Meaning.{Meaning}
use Rattle.rgo_typing_rules.specs.declared.meanings.Meaning.TheVariants as meaning
use Rattle.rgo_scopes.specs.Blocks.{found}
use Rattle.rgo_typing_expressions.specs.Packages.{Package, Context}
use Rattle.rgo_typing_expressions.specs.Scopes.{in_scope, signature_at}
use Rattle.rgo_typing_packages.specs.Packages.{outside_functions, signatures_in, package_of, package_sites}
use Rattle.rgo_typing_packages.specs.Signatures.{params_of, result_of}
use Rattle.rgo_types.specs.Flow.{stmts_terminate}
use Rattle.rgo_typing_statements.specs.Statements.{Enclosing, all_sites, after_all}
use Rattle.rgo_typing_statements.specs.TypedStatements.{typed_all}

-- ---- `main`

-- no parameters and no result
abbrev pub are_none : List «Type» → Option «Type» → Bool
are_none [] None = true
are_none _ _ = false

-- the signature that `main` has to have
abbrev pub is_empty_signature : Signature → Bool
is_empty_signature s = are_none s.params s.result_type

-- the name means a function with that signature
abbrev pub is_main : Package → Option Meaning → Bool
is_main p (Some (meaning.Function n)) = is_empty_signature (signature_at p n)
is_main p _ = false

-- there is a function `main` without parameters and result
abbrev pub has_main : Package → Bool
has_main p = is_main p (found (codes "main") p.names)

-- ---- bodies

-- what encloses the statements of a body: the function with its result type, and no `for`
abbrev pub in_function : Context → tree.Function → Enclosing
in_function c f = record { result_type = result_of c f.result_type; in_loop = false }

-- the context at the beginning of a function's body
abbrev pub at_body : Context → tree.Function → Context
at_body c f = in_scope (params_of c f) c

-- the statements, then the end
abbrev pub body_sites : Context → tree.Function → List Site
body_sites c f =
    all_sites (in_function c f) (at_body c f) (stmts_of f.body)
    ++ (f.end, node.End (is_some f.result_type) (stmts_terminate (stmts_of f.body))) ∷ []

-- the body of a declaration, if that is a function's
abbrev pub decl_body_sites : Context → Decl → List Site
decl_body_sites c (tree.Types types at) = []
decl_body_sites c (tree.Vars vars at) = []
decl_body_sites c (tree.Func f) = body_sites c f

-- all bodies, in the order of the text
abbrev pub bodies_sites : Context → List Decl → List Site
bodies_sites c [] = []
bodies_sites c (d ∷ l) = decl_body_sites c d ++ bodies_sites c l

-- the typed tree of a function. Its local variables are its parameters and then every variable of its body, also those of inner blocks
abbrev pub typed_function : Context → tree.Function → Function
typed_function c f = record {
  name = f.name.name;
  params = length (params_of c f).types;
  locals = (after_all (at_body c f) (stmts_of f.body)).scope.types;
  result_type = result_of c f.result_type;
  body = typed_all (in_function c f) (at_body c f) (stmts_of f.body);
  end = f.end;
}

-- the function of a declaration, if it is one
abbrev pub typed_decl : Context → Decl → List Function
typed_decl c (tree.Types types at) = []
typed_decl c (tree.Vars vars at) = []
typed_decl c (tree.Func f) = typed_function c f ∷ []

-- all functions, in the order of the text and so of their numbers
abbrev pub typed_functions : Context → List Decl → List Function
typed_functions c [] = []
typed_functions c (d ∷ l) = typed_decl c d ++ typed_functions c l

-- ---- the program

-- the checked nodes of a package: that there is a `main`, and then the bodies
abbrev pub functions_sites : Package → Program → List Site
functions_sites p program =
    (program.end, node.TextEnd (has_main p)) ∷ bodies_sites (outside_functions p) program.decls

-- the checked nodes in the order of checking: all that is outside of bodies comes first
abbrev pub sites_of : Program → List Site
sites_of program = package_sites program ++ functions_sites (package_of program) program

-- the typed tree of a program; it is defined for every program, and means something only for one that breaks no rule
abbrev pub typed_program : Program → Typed
typed_program program = record {
  structs = (signatures_in program).typed_structs;
  variables = (signatures_in program).typed_variables;
  functions = typed_functions (outside_functions (package_of program)) program.decls;
}
