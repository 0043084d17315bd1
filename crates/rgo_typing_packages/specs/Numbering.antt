-- The names of a package: each means what the first of its declarations says, and is numbered among those of its kind. A name may be
-- used before its declaration, so all names have their meanings before anything else is checked.
use Rattle.std.specs.Prelude.{ℕ, ◌+◌, List, [], ◌∷◌, is_some, if◌then◌else◌}
use Rattle.rgo_ast.specs.Tree as tree
use Rattle.rgo_ast.specs.Tree.{Decl, TypeSpec, Binding}
use Rattle.rgo_ast.specs.declared.names.Ident.{Ident}
use Rattle.rgo_typing_rules.specs.declared.meanings.Meaning.{Meaning}
use Rattle.rgo_typing_rules.specs.declared.meanings.Meaning.TheVariants as meaning
use Rattle.rgo_scopes.specs.Blocks.{NestedBlocks, no_names, declared, found}

-- the names so far, and the number of each kind
pub record Numbering : Type 0 where
  pub names : NestedBlocks Meaning
  pub structs : ℕ
  pub variables : ℕ
  pub functions : ℕ

-- before the first declaration
abbrev pub no_numbers : Numbering
no_numbers = record { names = no_names; structs = 0; variables = 0; functions = 0 }

-- the names with one more. One that was declared before keeps its first meaning, and breaks Redeclared
abbrev pub first_meaning : List ℕ → Meaning → NestedBlocks Meaning → NestedBlocks Meaning
first_meaning name m names = if is_some (found name names) then names else declared name m names

-- after the declaration of a struct. It takes a number even if its name was declared before, since Signatures lists each declaration at
-- its number
abbrev pub with_struct : Numbering → TypeSpec → Numbering
with_struct n t = record {
  names = first_meaning t.name.name (meaning.Struct n.structs) n.names;
  structs = n.structs + 1;
  variables = n.variables;
  functions = n.functions;
}

-- the same after a variable
abbrev pub with_variable : Numbering → Ident → Numbering
with_variable n x = record {
  names = first_meaning x.name (meaning.Global n.variables) n.names;
  structs = n.structs;
  variables = n.variables + 1;
  functions = n.functions;
}

-- the same after a function
abbrev pub with_function : Numbering → tree.Function → Numbering
with_function n f = record {
  names = first_meaning f.name.name (meaning.Function n.functions) n.names;
  structs = n.structs;
  variables = n.variables;
  functions = n.functions + 1;
}

-- after all structs of a `type` declaration
abbrev pub with_structs : Numbering → List TypeSpec → Numbering
with_structs n [] = n
with_structs n (t ∷ l) = with_structs (with_struct n t) l

-- after the variables that are declared with one type
abbrev pub with_variables : Numbering → List Ident → Numbering
with_variables n [] = n
with_variables n (x ∷ l) = with_variables (with_variable n x) l

-- after all variables of a `var` declaration
abbrev pub with_bindings : Numbering → List Binding → Numbering
with_bindings n [] = n
with_bindings n (b ∷ l) = with_bindings (with_variables n b.names) l

-- after one declaration of any kind
abbrev pub with_decl : Numbering → Decl → Numbering
with_decl n (tree.Types types at) = with_structs n types
with_decl n (tree.Vars vars at) = with_bindings n vars
with_decl n (tree.Func f) = with_function n f

-- after all declarations, in the order of the text
abbrev pub with_all_decls : Numbering → List Decl → Numbering
with_all_decls n [] = n
with_all_decls n (d ∷ l) = with_all_decls (with_decl n d) l
