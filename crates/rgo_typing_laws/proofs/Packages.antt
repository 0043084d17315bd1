-- Everything that a package declares exists: the structs that its types name, and the fields of its structs. A type may name a struct
-- that is declared later, so this is about the finished package, and the lists so far are only built up.
use Rattle.std.proofs.Common.{◌≡◌, ◌++◌, ◌<◌, ℕ, zero, suc, Bool, true, false, List, [], ◌∷◌, length, bytes_eq, codes}
use Rattle.std.proofs.Common.{if◌then◌else◌}
use Rattle.std.proofs.Common.{Option, Some, None, refl, sym, ◌∙◌, subst, arith, true≢false, eqb-true, eq-eqb}
use Rattle.std.proofs.Common.{lt_of_not-le, le_antisymm, le_of_suc-le-suc, ◌||◌, nat_eq}
use Rattle.std.specs.Prelude.{⊤}
use Rattle.std.specs.List.{AllByRecursion}
use Rattle.rgo_ast.specs.Tree as tree
use Rattle.rgo_ast.specs.Tree.{Decl, TypeSpec, Binding}
use Rattle.rgo_ast.specs.declared.names.Ident.{Ident}
use Rattle.rgo_typed.specs.declared.types.Type.{«Type»}
use Rattle.rgo_typing_rules.specs.Meanings.{Signature}
use Rattle.rgo_typing_rules.specs.declared.meanings.Meaning.{Meaning}
use Rattle.rgo_typing_rules.specs.declared.meanings.Meaning.TheVariants as meaning
use Rattle.rgo_scopes.specs.Blocks.{found}
use Rattle.rgo_typing_expressions.specs.Packages.{Package, Scope, Fields, Context}
use Rattle.rgo_typing_expressions.specs.Scopes.{no_locals, with_local, resolved, base_of, basic_base, pointer_base}
use Rattle.rgo_typing_rules.specs.declared.builtins.Builtin.{Builtin}
use Rattle.rgo_typing_rules.specs.Builtins.{predeclared, named as builtin_named}
use Rattle.rgo_typing_expressions.specs.Scopes.{int, meaning_of, global_meaning_if, builtin_meaning, universe}
use Rattle.rgo_typing_packages.specs.Names.{with_names, with_bindings}
use Rattle.rgo_typing_packages.specs.Names as names
use Rattle.rgo_typing_packages.specs.Packages.{outside_functions}
use Rattle.rgo_typing_packages.specs.Signatures.{Signatures, fields_scope, with_struct, with_structs, with_variable, with_variables}
use Rattle.rgo_typing_packages.specs.Signatures.{with_binding, with_vars, with_function, with_decls, result_of, params_of}
use Rattle.rgo_typing_packages.specs.Signatures.{in_seen}
use Rattle.rgo_wellformed.specs.TypeRules.{Declared, IsType, IsBase}
use Rattle.rgo_wellformed.specs.WellFormed.{InScope, is_in_scope, IsResult, first_numbers}
use Rattle.rgo_typing_laws.proofs.Scopes.{Scoped, scoped_more, is_below, newest, older}
use Rattle.rgo_typing_laws.proofs.Lists.{none_is, holds_push}

-- the struct that a name of the package means exists
abbrev pub IsNamed : Declared → Meaning → Type 0
IsNamed d (meaning.Struct n) = n < length d.structs
IsNamed d (meaning.Basic b) = ⊥
IsNamed d _ = ⊤

-- a struct whose fields have types that exist, and whose field names mean fields
pub record AreFields (d : Declared) (f : Fields) : Type 0 where
  pub types : AllByRecursion (IsType d) f.types
  pub below : (name : List ℕ) (k : ℕ) → found name f.numbers ≡ Some k → k < length f.types

pub record IsSignature (d : Declared) (s : Signature) : Type 0 where
  pub params : AllByRecursion (IsType d) s.params
  pub result_type : IsResult d s.result_type

abbrev pub AllExist : Declared → Signatures → Type 0
AllExist d s =
    AllByRecursion (AreFields d) s.structs × AllByRecursion (IsType d) s.variables
    × AllByRecursion (IsSignature d) s.functions

-- the variables of some scope
abbrev pub HasScope : Declared → Scope → Type 0
HasScope d g = (here : InScope) × Scoped d g here

module _ (p : Package) (d : Declared)
    (named : (name : List ℕ) (m : Meaning) → found name p.names ≡ Some m → IsNamed d m) where
  abbrev c : Context
  c = outside_functions p

  -- ---- types

  abbrev Exists : Option Meaning → Type 0
  Exists m = IsBase d (basic_base m) × IsBase d (pointer_base m)

  named_exists : (m : Meaning) → IsNamed d m → Exists (Some m)
  named_exists (meaning.Struct n) h = (tt, h)
  named_exists (meaning.Basic b) h = absurd h
  named_exists m h = (tt, tt)

  either : (b : Bool) (x y : Option Meaning) → Exists x → Exists y → Exists (if b then x else y)
  either true x y h k = h
  either false x y h k = k

  universe_exists : (imported : Bool) (name : List ℕ) → Exists (universe imported name)
  universe_exists imported name =
      either (bytes_eq name (codes "int")) _ _ (tt, tt) (
      either (bytes_eq name (codes "bool")) _ _ (tt, tt) (
      either (bytes_eq name (codes "true")) _ _ (tt, tt) (
      either (bytes_eq name (codes "false")) _ _ (tt, tt) (
      either (bytes_eq name (codes "nil")) _ _ (tt, tt) (
      either (bytes_eq name (codes "fmt")) _ _ (tt, tt) (by (builtin_named predeclared name)))))))
    where
      by : (o : Option Builtin) → Exists (builtin_meaning o)
      by None = (tt, tt)
      by (Some b) = (tt, tt)

  meaning_exists : (name : List ℕ) → Exists (meaning_of c name)
  meaning_exists name = go (found name p.names) refl
    where
      go : (o : Option Meaning) → found name p.names ≡ o → Exists (global_meaning_if p o name)
      go (Some m) e = named_exists m (named name m e)
      go None e = universe_exists p.imported name

  base_exists : (ty : tree.TypeExpr) → IsBase d (base_of c ty)
  base_exists (tree.Named x) = (meaning_exists x.name).0
  base_exists (tree.Pointer x at) = (meaning_exists x.name).1
  base_exists (tree.Slice ty at) = base_exists ty
  base_exists (tree.Chan ty at) = base_exists ty

  pub result_exists : (o : Option tree.TypeExpr) → IsResult d (result_of c o)
  result_exists None = tt
  result_exists (Some ty) = base_exists ty

  -- ---- fields and parameters

  names_scoped : (ty : «Type») (g : Scope) (l : List Ident) → IsType d ty → HasScope d g
      → HasScope d (with_names ty g l)
  names_scoped ty g [] k s = s
  names_scoped ty g (x ∷ l) k s =
      names_scoped ty (with_local x.name ty g) l k (length g.types ∷ s.0, scoped_more d g s.0 x.name ty k s.1)

  bindings_scoped : (g : Scope) (l : List Binding) → HasScope d g → HasScope d (with_bindings c g l)
  bindings_scoped g [] s = s
  bindings_scoped g (b ∷ l) s =
      bindings_scoped (names.with_binding c g b) l (names_scoped (resolved c b.ty) g b.names (base_exists b.ty) s)

  none_scoped : HasScope d no_locals
  none_scoped = ([], record { known = λ name n h. absurd (none_is n h); below = tt; types = tt })

  pub params_scoped : (f : tree.Function) → HasScope d (params_of c f)
  params_scoped f = bindings_scoped no_locals f.params none_scoped

  -- ---- declarations

  fields_exist : (g : Scope) → HasScope d g → AreFields d (record { numbers = g.locals; types = g.types })
  fields_exist g s = record {
    types = s.1.types;
    below = λ name k h. is_below s.0 (length g.types) k s.1.below (s.1.known name k h);
  }

  structs_exist : (s : Signatures) (l : List TypeSpec) → AllExist d s → AllExist d (with_structs c s l)
  structs_exist s [] h = h
  structs_exist s (t ∷ l) h =
      let fields = fields_exist (fields_scope c t) (bindings_scoped no_locals t.fields none_scoped) in
      structs_exist (with_struct c s t) l (holds_push (AreFields d) s.structs _ h.0 fields, h.1, h.2)

  variables_exist : (s : Signatures) (ty : «Type») (l : List Ident) → IsType d ty → AllExist d s
      → AllExist d (with_variables s ty l)
  variables_exist s ty [] k h = h
  variables_exist s ty (x ∷ l) k h =
      variables_exist (with_variable s ty x) ty l k (h.0, holds_push (IsType d) s.variables ty h.1 k, h.2)

  vars_exist : (s : Signatures) (l : List Binding) → AllExist d s → AllExist d (with_vars c s l)
  vars_exist s [] h = h
  vars_exist s (b ∷ l) h =
      vars_exist (with_binding c s b) l
      (variables_exist (in_seen (with_names int s.seen b.names) s) (resolved c b.ty) b.names (base_exists b.ty) h)

  pub all_exist : (s : Signatures) (l : List Decl) → AllExist d s → AllExist d (with_decls c s l)
  all_exist s [] h = h
  all_exist s (tree.Types types at ∷ l) h = all_exist (with_structs c s types) l (structs_exist s types h)
  all_exist s (tree.Vars vars at ∷ l) h = all_exist (with_vars c s vars) l (vars_exist s vars h)
  all_exist s (tree.Func f ∷ l) h =
      let new : IsSignature d (record { params = (params_of c f).types; result_type = result_of c f.result_type }) =
      record { params = (params_scoped f).1.types; result_type = result_exists f.result_type } in
      all_exist (with_function c s f) l (h.0, h.1, holds_push (IsSignature d) s.functions _ h.2 new)

-- ---- parameters are in scope from the beginning

is_in_push : (l : InScope) (m n : ℕ) → is_in_scope l n ≡ true → is_in_scope (l ++ m ∷ []) n ≡ true
is_in_push [] m n h = absurd (true≢false (sym h))
is_in_push (a ∷ l) m n h = go (nat_eq a n) (is_in_push l m n) h
  where
    go : (b : Bool) → (is_in_scope l n ≡ true → is_in_scope (l ++ m ∷ []) n ≡ true) → b || is_in_scope l n ≡ true
        → b || is_in_scope (l ++ m ∷ []) n ≡ true
    go true more k = refl
    go false more k = more k

is_in_last : (l : InScope) (n : ℕ) → is_in_scope (l ++ n ∷ []) n ≡ true
is_in_last [] n = newest [] n
is_in_last (a ∷ l) n = older (l ++ n ∷ []) a n (is_in_last l n)

lt_of_not_eq : (n k : ℕ) → n < suc k → (n ≡ k → ⊥) → n < k
lt_of_not_eq n k h o = lt_of_not-le (λ q. o (le_antisymm (le_of_suc-le-suc h) q))

numbers_in : (k n : ℕ) → n < k → is_in_scope (first_numbers k) n ≡ true
numbers_in zero n h = absurd (omega arith)
numbers_in (suc k) n h = go (nat_eq n k) refl (numbers_in k n)
  where
    go : (b : Bool) → nat_eq n k ≡ b → (n < k → is_in_scope (first_numbers k) n ≡ true)
        → is_in_scope (first_numbers k ++ k ∷ []) n ≡ true
    go true e more =
        subst (λ x. is_in_scope (first_numbers k ++ k ∷ []) x ≡ true) (sym (eqb-true n k e))
        (is_in_last (first_numbers k) k)
    go false e more =
        let o : n ≡ k → ⊥ = λ q. true≢false (sym (eq-eqb n k q) ∙ e) in
        is_in_push (first_numbers k) k n (more (lt_of_not_eq n k h o))

weaker : (l : InScope) (k : ℕ) → AllByRecursion (λ m. m < k) l → AllByRecursion (λ m. m < suc k) l
weaker [] k h = tt
weaker (a ∷ l) k h = (omega (arith, h.0), weaker l k h.1)

numbers_below : (k : ℕ) → AllByRecursion (λ m. m < k) (first_numbers k)
numbers_below zero = tt
numbers_below (suc k) =
    holds_push (λ m. m < suc k) (first_numbers k) k (weaker (first_numbers k) k (numbers_below k)) (omega arith)

pub from_the_first : (d : Declared) (g : Scope) (here : InScope) → Scoped d g here
    → Scoped d g (first_numbers (length g.types))
from_the_first d g here s =
    record {
      known = λ name n h. numbers_in (length g.types) n (is_below here (length g.types) n s.below (s.known name n h));
      below = numbers_below (length g.types);
      types = s.types;
    }
