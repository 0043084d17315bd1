-- What a package declares, except for the bodies of its functions: its structs, variables and signatures, and the checked
-- nodes of their declarations.
use Rattle.std.specs.Prelude.{List, [], ◌∷◌, ◌++◌, Option, Some, None}
use Rattle.rgo_ast.specs.Tree as tree
use Rattle.rgo_ast.specs.Tree.{Decl, TypeSpec, Binding}
use Rattle.rgo_ast.specs.declared.names.Ident.{Ident}
use Rattle.rgo_typed.specs.declared.types.Type.{«Type»}
use Rattle.rgo_typed.specs.declared.programs.Struct.{Struct}
use Rattle.rgo_typed.specs.declared.programs.Variable.{Variable}
use Rattle.rgo_typing_rules.specs.Meanings.{Signature}
use Rattle.rgo_typing_rules.specs.Sites.{Site}
use Rattle.rgo_typing_expressions.specs.Checking.{type_expr_sites}
use Rattle.rgo_typing_expressions.specs.Packages.{Context, Fields, Scope}
use Rattle.rgo_typing_expressions.specs.Scopes.{no_locals, int, resolved, with_local}
use Rattle.rgo_typing_packages.specs.Names.{name_site, name_sites, with_names, bindings_sites, with_bindings}

-- so far: the names of the package, the structs, the types of variables, the parameters and results of functions;
-- structs and variables also as they are in typed trees
pub record Signatures : Type 0 where
  pub seen : Scope
  pub structs : List Fields
  pub variables : List «Type»
  pub functions : List Signature
  pub typed_structs : List Struct
  pub typed_variables : List Variable

-- before the first declaration
abbrev pub no_signatures : Signatures
no_signatures = record {
  seen = no_locals;
  structs = [];
  variables = [];
  functions = [];
  typed_structs = [];
  typed_variables = [];
}

-- the names of the package are kept to find one that is declared again, so their types do not matter
abbrev pub with_seen : Scope → Ident → Scope
with_seen g x = with_local x.name int g

-- the same with these names of the package
abbrev pub in_seen : Scope → Signatures → Signatures
in_seen g s = record {
  seen = g;
  structs = s.structs;
  variables = s.variables;
  functions = s.functions;
  typed_structs = s.typed_structs;
  typed_variables = s.typed_variables;
}

-- ---- structs

-- a struct: its name, and then its fields, whose names are a scope of their own
abbrev pub struct_sites : Context → Signatures → TypeSpec → List Site
struct_sites c s t = name_site s.seen t.name ∷ bindings_sites c no_locals t.fields

-- the fields of a struct as a scope: each name with its number and type
abbrev pub fields_scope : Context → TypeSpec → Scope
fields_scope c t = with_bindings c no_locals t.fields

-- a struct more, whose name was declared
abbrev pub with_fields : Signatures → Fields → Struct → Signatures
with_fields s fields typed = record {
  seen = s.seen;
  structs = s.structs ++ fields ∷ [];
  variables = s.variables;
  functions = s.functions;
  typed_structs = s.typed_structs ++ typed ∷ [];
  typed_variables = s.typed_variables;
}

-- what is declared after a struct
abbrev pub with_struct : Context → Signatures → TypeSpec → Signatures
with_struct c s t = record {
  seen = with_seen s.seen t.name;
  structs = s.structs ++ record { numbers = (fields_scope c t).locals; types = (fields_scope c t).types } ∷ [];
  variables = s.variables;
  functions = s.functions;
  typed_structs = s.typed_structs ++ record { name = t.name.name; fields = (fields_scope c t).types } ∷ [];
  typed_variables = s.typed_variables;
}

-- the structs of a `type` declaration. The context knows all names of the package, so their order matters for Redeclared alone
abbrev pub structs_sites : Context → Signatures → List TypeSpec → List Site
structs_sites c s [] = []
structs_sites c s (t ∷ l) = struct_sites c s t ++ structs_sites c (with_struct c s t) l

-- what is declared after them
abbrev pub with_structs : Context → Signatures → List TypeSpec → Signatures
with_structs c s [] = s
with_structs c s (t ∷ l) = with_structs c (with_struct c s t) l

-- ---- variables

-- variables that are declared with one type: first the names, then the type
abbrev pub binding_sites : Context → Signatures → Binding → List Site
binding_sites c s b = name_sites int s.seen b.names ++ type_expr_sites c b.ty

-- what is declared after one variable; `with_binding` has its name among the seen ones already
abbrev pub with_variable : Signatures → «Type» → Ident → Signatures
with_variable s ty x = record {
  seen = s.seen;
  structs = s.structs;
  variables = s.variables ++ ty ∷ [];
  functions = s.functions;
  typed_structs = s.typed_structs;
  typed_variables = s.typed_variables ++ record { name = x.name; ty = ty } ∷ [];
}

-- the same after the variables of one type
abbrev pub with_variables : Signatures → «Type» → List Ident → Signatures
with_variables s ty [] = s
with_variables s ty (x ∷ l) = with_variables (with_variable s ty x) ty l

-- the same with their names
abbrev pub with_binding : Context → Signatures → Binding → Signatures
with_binding c s b = with_variables (in_seen (with_names int s.seen b.names) s) (resolved c b.ty) b.names

-- the variables of a `var` declaration
abbrev pub vars_sites : Context → Signatures → List Binding → List Site
vars_sites c s [] = []
vars_sites c s (b ∷ l) = binding_sites c s b ++ vars_sites c (with_binding c s b) l

-- what is declared after them
abbrev pub with_vars : Context → Signatures → List Binding → Signatures
with_vars c s [] = s
with_vars c s (b ∷ l) = with_vars c (with_binding c s b) l

-- ---- functions

-- the type of a result, if there is one
abbrev pub result_sites : Context → Option tree.TypeExpr → List Site
result_sites c None = []
result_sites c (Some ty) = type_expr_sites c ty

-- the type that is written as the result; none if the function has no result
abbrev pub result_of : Context → Option tree.TypeExpr → Option «Type»
result_of c None = None
result_of c (Some ty) = Some (resolved c ty)

-- of the parameters, and then of the result
abbrev pub signature_sites : Context → tree.Function → List Site
signature_sites c f = bindings_sites c no_locals f.params ++ result_sites c f.result_type

-- a function: its name, and then its signature; bodies are checked later, when all signatures are known
abbrev pub function_sites : Context → Signatures → tree.Function → List Site
function_sites c s f = name_site s.seen f.name ∷ signature_sites c f

-- the parameters of a function as a scope: each name with its number and type
abbrev pub params_of : Context → tree.Function → Scope
params_of c f = with_bindings c no_locals f.params

-- the types of the parameters in order, and that of the result
abbrev pub signature_in : Context → tree.Function → Signature
signature_in c f = record { params = (params_of c f).types; result_type = result_of c f.result_type }

-- what is declared after a function
abbrev pub with_function : Context → Signatures → tree.Function → Signatures
with_function c s f = record {
  seen = with_seen s.seen f.name;
  structs = s.structs;
  variables = s.variables;
  functions = s.functions ++ signature_in c f ∷ [];
  typed_structs = s.typed_structs;
  typed_variables = s.typed_variables;
}

-- ---- declarations

-- one declaration of any kind
abbrev pub decl_sites : Context → Signatures → Decl → List Site
decl_sites c s (tree.Types types at) = structs_sites c s types
decl_sites c s (tree.Vars vars at) = vars_sites c s vars
decl_sites c s (tree.Func f) = function_sites c s f

-- what is declared after it
abbrev pub with_decl : Context → Signatures → Decl → Signatures
with_decl c s (tree.Types types at) = with_structs c s types
with_decl c s (tree.Vars vars at) = with_vars c s vars
with_decl c s (tree.Func f) = with_function c s f

-- all declarations, in the order of the text
abbrev pub decls_sites : Context → Signatures → List Decl → List Site
decls_sites c s [] = []
decls_sites c s (d ∷ l) = decl_sites c s d ++ decls_sites c (with_decl c s d) l

-- what is declared after them
abbrev pub with_decls : Context → Signatures → List Decl → Signatures
with_decls c s [] = s
with_decls c s (d ∷ l) = with_decls c (with_decl c s d) l
