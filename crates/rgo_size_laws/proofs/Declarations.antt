-- The numbers of structs, fields of a struct, package variables and functions are at most those of their lexemes, and the code of each
-- function counts at most 12 for each lexeme. By induction on the derivation, since a tree does not say how many lexemes it has.
use Rattle.std.proofs.Common.{ℕ, ◌+◌, ◌*◌, ◌≤◌, List, [], ◌∷◌, ◌++◌, length, arith, length-append}
use Rattle.rgo_ast.specs.Tree as tree
use Rattle.rgo_ast.specs.Tree.{Binding, TypeSpec, Decl}
use Rattle.rgo_ast.specs.declared.names.Ident.{Ident}
use Rattle.rgo_lexer.specs.declared.terminals.Terminal.TheVariants.{Semicolon, CloseParen, OpenBrace}
use Rattle.rgo_lexer.specs.Lexemes.{Lexeme, tok, ident}
use Rattle.rgo_grammar.specs.Grammar as grammar
use Rattle.rgo_grammar.specs.Grammar.{Listed, EachWithSemicolon, IsBinding, IsTypeSpec, IsDecl}
use Rattle.rgo_typed.specs.declared.types.Type.{«Type»}
use Rattle.rgo_typed.specs.declared.programs.Struct.{Struct}
use Rattle.rgo_typed.specs.Tree.{Function}
use Rattle.rgo_typing_expressions.specs.Packages.{Context}
use Rattle.rgo_typing_expressions.specs.Scopes.{no_locals, int, resolved}
use Rattle.rgo_typing_packages.specs.Names.{with_names, with_bindings}
use Rattle.rgo_typing_packages.specs.Signatures.{Signatures, in_seen, with_struct, with_structs, with_variable, with_variables}
use Rattle.rgo_typing_packages.specs.Signatures.{with_binding, with_vars, with_decl, with_decls}
use Rattle.rgo_types.specs.Programs.{in_function, at_body, typed_decl, typed_functions}
use Rattle.rgo_lower.specs.Sizes.{most_struct_fields, largest_of}
use Rattle.rgo_size_laws.proofs.Names.{names_few, bindings_few}
use Rattle.rgo_size_laws.proofs.Statements.{stmts_small}

-- ---- structs and variables

-- what is declared outside of functions is within n
pub record Within (n : ℕ) (s : Signatures) : Type 0 where
  pub structs : length s.typed_structs ≤ n
  pub fields : most_struct_fields s.typed_structs ≤ n
  pub variables : length s.typed_variables ≤ n

within_more : {n m : ℕ} {s : Signatures} → Within n s → n ≤ m → Within m s
within_more h le = record {
  structs = omega (arith, h.structs, le);
  fields = omega (arith, h.fields, le);
  variables = omega (arith, h.variables, le);
}

fields_within : (l : List Struct) (s : Struct) (n : ℕ) → most_struct_fields l ≤ n → length s.fields ≤ n
    → most_struct_fields (l ++ s ∷ []) ≤ n
fields_within [] s n h k = omega (arith, k)
fields_within (t ∷ l) s n h k =
    let rest = fields_within l s n (omega (arith, h)) k in
    omega (arith, h, rest)

struct_within : {x : List Lexeme} {t : TypeSpec} → IsTypeSpec x t → (c : Context) (s : Signatures) (n : ℕ) → Within n s
    → Within (n + length x) (with_struct c s t)
struct_within (grammar.IsTypeSpec.struct i j k {y = y} {fs = all} fields) c s n h =
    let t : Struct = record { name = i.word; fields = (with_bindings c no_locals all).types } in
    record {
      structs = omega (arith, h.structs, length-append s.typed_structs (t ∷ []));
      fields = fields_within s.typed_structs t _ (omega (arith, h.fields)) (omega (arith, bindings_few fields c no_locals));
      variables = omega (arith, h.variables);
    }

structs_within : {x : List Lexeme} {all : List TypeSpec} → Listed IsTypeSpec Semicolon CloseParen x all → (c : Context)
    (s : Signatures) (n : ℕ) → Within n s → Within (n + length x) (with_structs c s all)
structs_within (grammar.Listed.none j) c s n h = within_more h (omega arith)
structs_within (grammar.Listed.last j {x = x} is) c s n h =
    within_more (struct_within is c s n h) (omega (arith, length-append x (tok CloseParen j ∷ [])))
structs_within (grammar.Listed.more j {x = x} {y = y} {a = t} is rest) c s n h =
    within_more
    (structs_within rest c (with_struct c s t) (n + length x) (struct_within is c s n h))
    (omega (arith, length-append x (tok Semicolon j ∷ y)))

variables_within : (names : List Ident) (s : Signatures) (ty : «Type») (n : ℕ) → Within n s
    → Within (n + length names) (with_variables s ty names)
variables_within [] s ty n h = within_more h (omega arith)
variables_within (x ∷ names) s ty n h =
    within_more
    (variables_within names (with_variable s ty x) ty (n + 1) (record {
      structs = omega (arith, h.structs);
      fields = omega (arith, h.fields);
      variables = omega (arith, h.variables, length-append s.typed_variables (record { name = x.name; ty = ty } ∷ []));
    }))
    (omega arith)

binding_within : {x : List Lexeme} {b : Binding} → IsBinding x b → (c : Context) (s : Signatures) (n : ℕ) → Within n s
    → Within (n + length x) (with_binding c s b)
binding_within (grammar.IsBinding.binding {x = x} {y = y} {ns = names} {t = t} is is_type) c s n h =
    let g = with_names int s.seen names in
    within_more
    (variables_within names (in_seen g s) (resolved c t) n (record {
      structs = h.structs;
      fields = h.fields;
      variables = h.variables;
    }))
    (omega (arith, names_few is, length-append x y))

vars_within : {x : List Lexeme} {all : List Binding} → Listed IsBinding Semicolon CloseParen x all → (c : Context)
    (s : Signatures) (n : ℕ) → Within n s → Within (n + length x) (with_vars c s all)
vars_within (grammar.Listed.none j) c s n h = within_more h (omega arith)
vars_within (grammar.Listed.last j {x = x} is) c s n h =
    within_more (binding_within is c s n h) (omega (arith, length-append x (tok CloseParen j ∷ [])))
vars_within (grammar.Listed.more j {x = x} {y = y} {a = b} is rest) c s n h =
    within_more
    (vars_within rest c (with_binding c s b) (n + length x) (binding_within is c s n h))
    (omega (arith, length-append x (tok Semicolon j ∷ y)))

decl_within : {x : List Lexeme} {d : Decl} → IsDecl x d → (c : Context) (s : Signatures) (n : ℕ) → Within n s
    → Within (n + length x) (with_decl c s d)
decl_within (grammar.IsDecl.type i is) c s n h =
    within_more (struct_within is c s n h) (omega arith)
decl_within (grammar.IsDecl.types i j is) c s n h =
    within_more (structs_within is c s n h) (omega arith)
decl_within (grammar.IsDecl.var i is) c s n h =
    within_more (binding_within is c s n h) (omega arith)
decl_within (grammar.IsDecl.vars i j is) c s n h =
    within_more (vars_within is c s n h) (omega arith)
decl_within (grammar.IsDecl.func i j k m end params result body) c s n h = record {
  structs = omega (arith, h.structs);
  fields = omega (arith, h.fields);
  variables = omega (arith, h.variables);
}

pub decls_within : {x : List Lexeme} {l : List Decl} → EachWithSemicolon IsDecl x l → (c : Context) (s : Signatures) (n : ℕ)
    → Within n s → Within (n + length x) (with_decls c s l)
decls_within grammar.EachWithSemicolon.none c s n h = within_more h (omega arith)
decls_within (grammar.EachWithSemicolon.next j {x = x} {y = y} {a = d} is rest) c s n h =
    within_more
    (decls_within rest c (with_decl c s d) (n + length x) (decl_within is c s n h))
    (omega (arith, length-append x (tok Semicolon j ∷ y)))

-- ---- functions

-- n functions at most, and the code of none counts more than 12 n
pub record Few (n : ℕ) (l : List Function) : Type 0 where
  pub many : length l ≤ n
  pub largest : largest_of l ≤ 12 * n

few_more : {n m : ℕ} {l : List Function} → Few n l → n ≤ m → Few m l
few_more h le = record { many = omega (arith, h.many, le); largest = omega (arith, h.largest, le) }

function_small : {x : List Lexeme} {d : Decl} → IsDecl x d → (c : Context) (n : ℕ) (more : List Function) → Few n more
    → Few (n + length x) (typed_decl c d ++ more)
function_small (grammar.IsDecl.type i is) c n more h = few_more h (omega arith)
function_small (grammar.IsDecl.types i j is) c n more h = few_more h (omega arith)
function_small (grammar.IsDecl.var i is) c n more h = few_more h (omega arith)
function_small (grammar.IsDecl.vars i j is) c n more h = few_more h (omega arith)
function_small (grammar.IsDecl.func i j k m end {x = x} {y = y} {z = z} {ps = ps} {r = r} {b = b} params result body)
    c n more h =
    let f : tree.Function = record { name = ident j; params = ps; result_type = r; body = b; at = i.at; end = end.at } in
    let counted = stmts_small body (in_function c f) (at_body c f) in
    let few = bindings_few params c no_locals in
    let long = length-append x (y ++ tok OpenBrace m ∷ z) in
    let rest = length-append y (tok OpenBrace m ∷ z) in
    record {
      many = omega (arith, h.many, long, rest);
      largest = omega (arith, h.largest, counted, few, long, rest);
    }

pub functions_small : {x : List Lexeme} {l : List Decl} → EachWithSemicolon IsDecl x l → (c : Context)
    → Few (length x) (typed_functions c l)
functions_small grammar.EachWithSemicolon.none c = record { many = omega arith; largest = omega arith }
functions_small (grammar.EachWithSemicolon.next j {x = x} {y = y} {all = l} is rest) c =
    few_more
    (function_small is c (length y) (typed_functions c l) (functions_small rest c))
    (omega (arith, length-append x (tok Semicolon j ∷ y)))
