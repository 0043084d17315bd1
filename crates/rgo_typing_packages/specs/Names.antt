-- Names that are declared in a scope, with the checked nodes of their declarations.
use Rattle.std.specs.Prelude.{List, [], ◌∷◌, ◌++◌, is_some}
use Rattle.rgo_ast.specs.Tree.{Binding}
use Rattle.rgo_ast.specs.declared.names.Ident.{Ident}
use Rattle.rgo_typed.specs.declared.types.Type.{«Type»}
use Rattle.rgo_typing_rules.specs.Nodes as node
use Rattle.rgo_typing_rules.specs.Sites.{Site}
use Rattle.rgo_scopes.specs.Blocks.{found_in}
use Rattle.rgo_typing_expressions.specs.Checking.{type_expr_sites}
use Rattle.rgo_typing_expressions.specs.Packages.{Context, Scope}
use Rattle.rgo_typing_expressions.specs.Scopes.{with_local, resolved}

-- a name that a block, a struct, a parameter list or the package declares
abbrev pub name_site : Scope → Ident → Site
name_site g x = (x.at, node.Declared (is_some (found_in x.name g.locals.here)) x.name)

-- names that are declared one after another with this type
abbrev pub name_sites : «Type» → Scope → List Ident → List Site
name_sites ty g [] = []
name_sites ty g (x ∷ l) = name_site g x ∷ name_sites ty (with_local x.name ty g) l

-- the scope after these names, each with this type
abbrev pub with_names : «Type» → Scope → List Ident → Scope
with_names ty g [] = g
with_names ty g (x ∷ l) = with_names ty (with_local x.name ty g) l

-- names with one type, which means what it does in the context c: first the names, then the type
abbrev pub binding_sites : Context → Scope → Binding → List Site
binding_sites c g b = name_sites (resolved c b.ty) g b.names ++ type_expr_sites c b.ty

-- the scope after the names of one binding
abbrev pub with_binding : Context → Scope → Binding → Scope
with_binding c g b = with_names (resolved c b.ty) g b.names

-- the fields of a struct, or the parameters of a function
abbrev pub bindings_sites : Context → Scope → List Binding → List Site
bindings_sites c g [] = []
bindings_sites c g (b ∷ l) = binding_sites c g b ++ bindings_sites c (with_binding c g b) l

-- the scope after all fields or parameters, numbered from left to right
abbrev pub with_bindings : Context → Scope → List Binding → Scope
with_bindings c g [] = g
with_bindings c g (b ∷ l) = with_bindings c (with_binding c g b) l
