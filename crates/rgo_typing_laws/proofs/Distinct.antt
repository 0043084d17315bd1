-- The names that a package declares are distinct: those of its structs, of its variables, and of its functions. All are checked in one
-- scope, which refuses a second declaration of any kind; so it is enough to keep that the names so far are in that scope.
use Rattle.std.proofs.Common.{◌≡◌, ◌++◌, ℕ, Bool, true, false, List, [], ◌∷◌, length, map, bytes_eq, if◌then◌else◌}
use Rattle.std.proofs.Common.{Some, None, is_some, refl, sym, ◌∙◌, subst, true≢false}
use Rattle.std.specs.List.{AllByRecursion, IsDistinct}
use Rattle.std.proofs.lemmas.List.{append-nil, map-append, append_assoc}
use Rattle.std.proofs.lemmas.Slice.Eq.{bytes_eq-Decides}
use Rattle.rgo_ast.specs.Tree as tree
use Rattle.rgo_ast.specs.Tree.{Decl, TypeSpec, Binding}
use Rattle.rgo_ast.specs.declared.names.Ident.{Ident}
use Rattle.rgo_typed.specs.declared.types.Type.{«Type»}
use Rattle.rgo_typed.specs.declared.programs.Struct.{Struct}
use Rattle.rgo_typed.specs.declared.programs.Variable.{Variable}
use Rattle.rgo_typing_rules.specs.Nodes as node
use Rattle.rgo_typing_rules.specs.Sites.{first_refusal}
use Rattle.rgo_typing_rules.specs.declared.rules.Rule.TheVariants as rule
use Rattle.rgo_typing_rules.proofs.Unbroken.{keeps}
use Rattle.rgo_scopes.specs.Blocks.{found_in}
use Rattle.rgo_typing_expressions.specs.Checking.{type_expr_sites}
use Rattle.rgo_typing_expressions.specs.Packages.{Scope, Context}
use Rattle.rgo_typing_expressions.specs.Scopes.{with_local, no_locals, int, resolved}
use Rattle.rgo_typing_packages.specs.Names.{name_site, name_sites, with_names, bindings_sites}
use Rattle.rgo_typing_packages.specs.Signatures.{Signatures, no_signatures, with_struct, with_structs, with_variable}
use Rattle.rgo_typing_packages.specs.Signatures.{with_variables}
use Rattle.rgo_typing_packages.specs.Signatures.{with_binding, with_vars, with_function, with_decls, with_seen, in_seen}
use Rattle.rgo_typing_packages.specs.Signatures.{struct_sites, structs_sites, binding_sites, vars_sites, result_sites}
use Rattle.rgo_typing_packages.specs.Signatures.{decl_sites, decls_sites}
use Rattle.rgo_wellformed.specs.WellFormed.{AreDistinct}
use Rattle.rgo_typing_laws.proofs.Unbroken.{left, right, alone}
use Rattle.rgo_typing_laws.proofs.Lists.{holds_push}
use Rattle.rgo_typing_laws.proofs.Numbering.{same_name, names_of}

distinct_push : (l : List (List ℕ)) (x : List ℕ) → AllByRecursion (λ y. bytes_eq y x ≡ false) l → AreDistinct l
    → AreDistinct (l ++ x ∷ [])
unfolding IsDistinct
distinct_push [] x h k = (tt, tt)
distinct_push (y ∷ l) x h k = (holds_push (λ z. bytes_eq y z ≡ false) l x k.0 h.0, distinct_push l x h.1 k.1)

-- these names are declared in the innermost block, and distinct
pub record AreSeen (g : Scope) (l : List (List ℕ)) : Type 0 where
  pub seen : AllByRecursion (λ y. is_some (found_in y g.locals.here) ≡ true) l
  pub distinct : AreDistinct l

one_kept : (g : Scope) (x y : List ℕ) (ty : «Type») → is_some (found_in y g.locals.here) ≡ true
    → is_some (found_in y (with_local x ty g).locals.here) ≡ true
one_kept g x y ty h = go (bytes_eq x y)
  where
    go : (b : Bool) → is_some (if b then Some (length g.types) else found_in y g.locals.here) ≡ true
    go true = refl
    go false = h

all_kept : (g : Scope) (x : List ℕ) (ty : «Type») (l : List (List ℕ))
    → AllByRecursion (λ y. is_some (found_in y g.locals.here) ≡ true) l
    → AllByRecursion (λ y. is_some (found_in y (with_local x ty g).locals.here) ≡ true) l
all_kept g x ty [] h = tt
all_kept g x ty (y ∷ l) h = (one_kept g x y ty h.0, all_kept g x ty l h.1)

later : (g : Scope) (x : List ℕ) (ty : «Type») (l : List (List ℕ)) → AreSeen g l → AreSeen (with_local x ty g) l
later g x ty l h = record { seen = all_kept g x ty l h.seen; distinct = h.distinct }

itself : (g : Scope) (x : List ℕ) (ty : «Type») → is_some (found_in x (with_local x ty g).locals.here) ≡ true
itself g x ty = go (bytes_eq x x) ((bytes_eq-Decides x x).1 refl)
  where
    go : (b : Bool) → b ≡ true → is_some (if b then Some (length g.types) else found_in x g.locals.here) ≡ true
    go true h = refl
    go false h = absurd (true≢false (sym h))

others : (g : Scope) (x : List ℕ) (l : List (List ℕ)) → is_some (found_in x g.locals.here) ≡ false
    → AllByRecursion (λ y. is_some (found_in y g.locals.here) ≡ true) l → AllByRecursion (λ y. bytes_eq y x ≡ false) l
others g x [] new h = tt
others g x (y ∷ l) new h = (go (bytes_eq y x) refl, others g x l new h.1)
  where
    go : (b : Bool) → bytes_eq y x ≡ b → bytes_eq y x ≡ false
    go false e = e
    go true e =
        absurd (true≢false (sym (subst (λ n. is_some (found_in n g.locals.here) ≡ true) (same_name y x e) h.0) ∙ new))

one_more : (g : Scope) (x : Ident) (ty : «Type») (l : List (List ℕ)) → first_refusal (name_site g x ∷ []) ≡ None
    → AreSeen g l
    → AreSeen (with_local x.name ty g) (l ++ x.name ∷ [])
one_more g x ty l h old =
    let n = node.Declared (is_some (found_in x.name g.locals.here)) x.name in
    let new : is_some (found_in x.name g.locals.here) ≡ false = keeps rule.Redeclared n (alone x.at n h) in
    record {
      seen = holds_push (λ y. is_some (found_in y (with_local x.name ty g).locals.here) ≡ true) l x.name
          (all_kept g x.name ty l old.seen) (itself g x.name ty);
      distinct = distinct_push l x.name (others g x.name l new old.seen) old.distinct;
    }

-- ---- declarations

abbrev pub struct_names : Signatures → List (List ℕ)
struct_names s = map (λ t. t.name) s.typed_structs

abbrev pub variable_names : Signatures → List (List ℕ)
variable_names s = map (λ v. v.name) s.typed_variables

-- the names of structs, variables and functions are declared in this scope, each kind without repetition
pub record Apart (g : Scope) (s : Signatures) (f : List (List ℕ)) : Type 0 where
  pub structs : AreSeen g (struct_names s)
  pub variables : AreSeen g (variable_names s)
  pub functions : AreSeen g f

module _ (c : Context) where
  structs_apart : (s : Signatures) (f : List (List ℕ)) (l : List TypeSpec) → first_refusal (structs_sites c s l) ≡ None
      → Apart s.seen s f → Apart (with_structs c s l).seen (with_structs c s l) f
  structs_apart s f [] h a = a
  structs_apart s f (t ∷ l) h a =
      let g = with_seen s.seen t.name in
      let rest = structs_sites c (with_struct c s t) l in
      let new = one_more s.seen t.name int (struct_names s)
      (left (name_site s.seen t.name ∷ []) (bindings_sites c no_locals t.fields)
      (left (struct_sites c s t) rest h)) a.structs in
      structs_apart (with_struct c s t) f l (right (struct_sites c s t) rest h)
      (record {
        structs = subst (AreSeen g) (sym (map-append (λ (t : Struct). t.name) s.typed_structs (_ ∷ []))) new;
        variables = later s.seen t.name.name int (variable_names s) a.variables;
        functions = later s.seen t.name.name int f a.functions;
      })

  -- the names are seen first, and then the variables are added
  variables_apart : (g : Scope) (s : Signatures) (f : List (List ℕ)) (ty : «Type») (l : List Ident)
      → first_refusal (name_sites int g l) ≡ None → Apart g s f
      → Apart (with_names int g l) (with_variables s ty l) f
  variables_apart g s f ty [] h a = a
  variables_apart g s f ty (x ∷ l) h a =
      let g2 = with_local x.name int g in
      let new =
      one_more g x int (variable_names s) (left (name_site g x ∷ []) (name_sites int g2 l) h) a.variables in
      variables_apart g2 (with_variable s ty x) f ty l (right (name_site g x ∷ []) (name_sites int g2 l) h)
      (record {
        structs = later g x.name int (struct_names s) a.structs;
        variables = subst (AreSeen g2) (sym (map-append (λ (v : Variable). v.name) s.typed_variables (_ ∷ []))) new;
        functions = later g x.name int f a.functions;
      })

  seen_kept : (s : Signatures) (ty : «Type») (l : List Ident) → (with_variables s ty l).seen ≡ s.seen
  seen_kept s ty [] = refl
  seen_kept s ty (x ∷ l) = seen_kept (with_variable s ty x) ty l

  vars_apart : (s : Signatures) (f : List (List ℕ)) (l : List Binding) → first_refusal (vars_sites c s l) ≡ None
      → Apart s.seen s f → Apart (with_vars c s l).seen (with_vars c s l) f
  vars_apart s f [] h a = a
  vars_apart s f (b ∷ l) h a =
      let g = with_names int s.seen b.names in
      let seen = in_seen g s in
      let ty = resolved c b.ty in
      let rest = vars_sites c (with_binding c s b) l in
      let first = left (binding_sites c s b) rest h in
      let old : Apart s.seen seen f =
      record { structs = a.structs; variables = a.variables; functions = a.functions } in
      let new : Apart g (with_variables seen ty b.names) f =
      variables_apart s.seen seen f ty b.names
      (left (name_sites int s.seen b.names) (type_expr_sites c b.ty) first) old in
      vars_apart (with_binding c s b) f l (right (binding_sites c s b) rest h)
      (subst (λ x. Apart x (with_variables seen ty b.names) f) (sym (seen_kept seen ty b.names)) new)

  pub all_apart : (s : Signatures) (f : List (List ℕ)) (l : List Decl) → first_refusal (decls_sites c s l) ≡ None
      → Apart s.seen s f → Apart (with_decls c s l).seen (with_decls c s l) (f ++ names_of l)
  all_apart s f [] h a = subst (Apart s.seen s) (sym (append-nil f)) a
  all_apart s f (tree.Types types at ∷ l) h a =
      let s2 = with_structs c s types in
      all_apart s2 f l (right (structs_sites c s types) (decls_sites c s2 l) h)
      (structs_apart s f types (left (structs_sites c s types) (decls_sites c s2 l) h) a)
  all_apart s f (tree.Vars vars at ∷ l) h a =
      let s2 = with_vars c s vars in
      all_apart s2 f l (right (vars_sites c s vars) (decls_sites c s2 l) h)
      (vars_apart s f vars (left (vars_sites c s vars) (decls_sites c s2 l) h) a)
  all_apart s f (tree.Func y ∷ l) h a =
      let s2 = with_function c s y in
      let first = left (decl_sites c s (tree.Func y)) (decls_sites c s2 l) h in
      let signature = bindings_sites c no_locals y.params ++ result_sites c y.result_type in
      let rest = all_apart s2 (f ++ y.name.name ∷ []) l (right (decl_sites c s (tree.Func y)) (decls_sites c s2 l) h)
      (record {
        structs = later s.seen y.name.name int (struct_names s) a.structs;
        variables = later s.seen y.name.name int (variable_names s) a.variables;
        functions = one_more s.seen y.name int f (left (name_site s.seen y.name ∷ []) signature first) a.functions;
      }) in
      subst (Apart (with_decls c s2 l).seen (with_decls c s2 l)) (append_assoc f (y.name.name ∷ []) (names_of l)) rest

none_seen : AreSeen no_locals []
unfolding IsDistinct
none_seen = record { seen = tt; distinct = tt }

pub none_apart : Apart no_locals no_signatures []
none_apart = record { structs = none_seen; variables = none_seen; functions = none_seen }
