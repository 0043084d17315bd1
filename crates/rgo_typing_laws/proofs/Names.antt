-- The names that a program declares are words of names among its tokens: what holds of each word holds of each name of
-- the typed tree.
use Rattle.std.proofs.Common.{◌≡◌, ◌++◌, ℕ, List, [], ◌∷◌, map, refl, sym, subst}
use Rattle.std.specs.List.{AllByRecursion}
use Rattle.std.proofs.lemmas.List.{map-append}
use Rattle.rgo_ast.specs.declared.names.Ident.{Ident}
use Rattle.rgo_ast.specs.Tree as tree
use Rattle.rgo_ast.specs.Tree.{Decl, TypeSpec, Binding, Program}
use Rattle.rgo_lexer.specs.declared.terminals.Terminal.{Terminal}
use Rattle.rgo_lexer.specs.declared.terminals.Terminal.TheVariants.{Name}
use Rattle.rgo_lexer.specs.Lexemes.{Lexeme}
use Rattle.rgo_grammar.specs.Grammar as grammar
use Rattle.rgo_grammar.specs.Grammar.{Listed, IsNames, IsBinding, IsTypeSpec, IsDecl, EachWithSemicolon, IsProgram}
use Rattle.rgo_typed.specs.declared.programs.Struct.{Struct}
use Rattle.rgo_typed.specs.declared.programs.Variable.{Variable}
use Rattle.rgo_typed.specs.declared.types.Type.{«Type»}
use Rattle.rgo_typed.specs.Tree.{Function, Typed}
use Rattle.rgo_typing_expressions.specs.Packages.{Context}
use Rattle.rgo_typing_expressions.specs.Scopes.{int, resolved}
use Rattle.rgo_typing_packages.specs.Names.{with_names}
use Rattle.rgo_typing_packages.specs.Packages.{outside_functions, named_package, package_of}
use Rattle.rgo_typing_packages.specs.Signatures.{Signatures, no_signatures, with_struct, with_structs, with_variable}
use Rattle.rgo_typing_packages.specs.Signatures.{with_variables, with_binding, with_vars, with_function, with_decls, in_seen}
use Rattle.rgo_types.specs.Programs.{typed_program}
use Rattle.rgo_typing_laws.proofs.Lists.{holds_push}
use Rattle.rgo_typing_laws.proofs.Numbering.{names_of}
use Rattle.rgo_typing_laws.proofs.Distinct.{struct_names, variable_names}
use Rattle.rgo_typing_laws.proofs.Signatures.{function_names}

module _ (P : List ℕ → Type 0) where
  -- P holds of the word of each name among these tokens
  abbrev pub Spell : List Lexeme → Type 0
  Spell l = AllByRecursion (λ t. t.terminal ≡ Name → P t.leaf.word) l

  first : (x y : List Lexeme) → Spell (x ++ y) → Spell x
  first [] y h = tt
  first (t ∷ x) y h = (h.0, first x y h.1)

  second : (x y : List Lexeme) → Spell (x ++ y) → Spell y
  second [] y h = h
  second (t ∷ x) y h = second x y h.1

  behind : (x : List Lexeme) (t : Lexeme) (y : List Lexeme) → Spell (x ++ t ∷ y) → Spell y
  behind x t y h = (second x (t ∷ y) h).1

  -- ---- trees

  abbrev Named : List Ident → Type 0
  Named ns = AllByRecursion (λ n. P n.name) ns

  names : {x : List Lexeme} {ns : List Ident} → IsNames x ns → Spell x → Named ns
  names (grammar.IsNames.one i) h = (h.0 refl, tt)
  names (grammar.IsNames.more i j rest) h = (h.0 refl, names rest h.1.1)

  binding : {x : List Lexeme} {b : Binding} → IsBinding x b → Spell x → Named b.names
  binding (grammar.IsBinding.binding ns ty) h = names ns (first _ _ h)

  type_spec : {x : List Lexeme} {s : TypeSpec} → IsTypeSpec x s → Spell x → P s.name.name
  type_spec (grammar.IsTypeSpec.struct i j k fields) h = h.0 refl

  listed : {A : Type 0} (Item : List Lexeme → A → Type 0) (Q : A → Type 0)
      → ((x : List Lexeme) (a : A) → Item x a → Spell x → Q a) → {separator closer : Terminal} {x : List Lexeme} {all : List A}
      → Listed Item separator closer x all → Spell x → AllByRecursion Q all
  listed Item Q each (grammar.Listed.none j) h = tt
  listed Item Q each (grammar.Listed.last j item) h = (each _ _ item (first _ _ h), tt)
  listed Item Q each (grammar.Listed.more j item rest) h =
      (each _ _ item (first _ _ h), listed Item Q each rest (behind _ _ _ h))

  abbrev DeclNamed : Decl → Type 0
  DeclNamed (tree.Types types at) = AllByRecursion (λ t. P t.name.name) types
  DeclNamed (tree.Vars vars at) = AllByRecursion (λ b. Named b.names) vars
  DeclNamed (tree.Func f) = P f.name.name

  decl : {x : List Lexeme} {d : Decl} → IsDecl x d → Spell x → DeclNamed d
  decl (grammar.IsDecl.type i s) h = (type_spec s h.1, tt)
  decl (grammar.IsDecl.types i j all) h =
      listed IsTypeSpec (λ t. P t.name.name) (λ x a s k. type_spec s k) all h.1.1
  decl (grammar.IsDecl.var i b) h = (binding b h.1, tt)
  decl (grammar.IsDecl.vars i j all) h = listed IsBinding (λ b. Named b.names) (λ x a s k. binding s k) all h.1.1
  decl (grammar.IsDecl.func i j k m end params result body) h = h.1.0 refl

  decls : {x : List Lexeme} {l : List Decl} → EachWithSemicolon IsDecl x l → Spell x → AllByRecursion DeclNamed l
  decls grammar.EachWithSemicolon.none h = tt
  decls (grammar.EachWithSemicolon.next j d rest) h = (decl d (first _ _ h), decls rest (behind _ _ _ h))

  program : {l : List Lexeme} {imports : List tree.Import} {all : List Decl} → IsProgram l imports all → Spell l
      → AllByRecursion DeclNamed all
  program (grammar.IsProgram.program i j k imports all) h = decls all (second _ _ h.1.1.1)

  -- ---- typed trees

  record Words (s : Signatures) : Type 0 where
    structs : AllByRecursion P (struct_names s)
    variables : AllByRecursion P (variable_names s)

  module _ (c : Context) where
    structs_words : (s : Signatures) (l : List TypeSpec) → AllByRecursion (λ t. P t.name.name) l → Words s
        → Words (with_structs c s l)
    structs_words s [] h w = w
    structs_words s (t ∷ l) h w =
        structs_words (with_struct c s t) l h.1
        (record {
          structs = subst (AllByRecursion P) (sym (map-append (λ (t : Struct). t.name) s.typed_structs (_ ∷ [])))
              (holds_push P (struct_names s) t.name.name w.structs h.0);
          variables = w.variables;
        })

    variables_words : (s : Signatures) (ty : «Type») (l : List Ident) → Named l → Words s → Words (with_variables s ty l)
    variables_words s ty [] h w = w
    variables_words s ty (x ∷ l) h w =
        variables_words (with_variable s ty x) ty l h.1
        (record {
          structs = w.structs;
          variables = subst (AllByRecursion P) (sym (map-append (λ (v : Variable). v.name) s.typed_variables (_ ∷ [])))
              (holds_push P (variable_names s) x.name w.variables h.0);
        })

    vars_words : (s : Signatures) (l : List Binding) → AllByRecursion (λ b. Named b.names) l → Words s
        → Words (with_vars c s l)
    vars_words s [] h w = w
    vars_words s (b ∷ l) h w =
        vars_words (with_binding c s b) l h.1
        (variables_words (in_seen (with_names int s.seen b.names) s) (resolved c b.ty) b.names h.0
        (record { structs = w.structs; variables = w.variables }))

    decls_words : (s : Signatures) (l : List Decl) → AllByRecursion DeclNamed l → Words s → Words (with_decls c s l)
    decls_words s [] h w = w
    decls_words s (tree.Types types at ∷ l) h w = decls_words (with_structs c s types) l h.1 (structs_words s types h.0 w)
    decls_words s (tree.Vars vars at ∷ l) h w = decls_words (with_vars c s vars) l h.1 (vars_words s vars h.0 w)
    decls_words s (tree.Func f ∷ l) h w =
        decls_words (with_function c s f) l h.1 (record { structs = w.structs; variables = w.variables })

  functions_words : (l : List Decl) → AllByRecursion DeclNamed l → AllByRecursion P (names_of l)
  functions_words [] h = tt
  functions_words (tree.Types types at ∷ l) h = functions_words l h.1
  functions_words (tree.Vars vars at ∷ l) h = functions_words l h.1
  functions_words (tree.Func f ∷ l) h = (h.0, functions_words l h.1)

  -- P holds of each name of the program
  pub record AreNamed (program : Typed) : Type 0 where
    pub structs : AllByRecursion P (map (λ (s : Struct). s.name) program.structs)
    pub variables : AllByRecursion P (map (λ (v : Variable). v.name) program.variables)
    pub functions : AllByRecursion P (map (λ (f : Function). f.name) program.functions)

  pub typed_names : (l : List Lexeme) (p : Program) → IsProgram l p.imports p.decls → Spell l → AreNamed (typed_program p)
  typed_names l p derived h =
      let all = program derived h in
      let c = outside_functions (named_package p) in
      let words = decls_words c no_signatures p.decls all (record { structs = tt; variables = tt }) in
      record {
        structs = words.structs;
        variables = words.variables;
        functions =
            subst (AllByRecursion P) (sym (function_names (outside_functions (package_of p)) p.decls))
            (functions_words p.decls all);
      }
