-- The lists of what a package declares: they grow in step with the numbers, with the lists of the typed tree, and with its functions. So
-- a number finds the same declaration for the checker and in the typed tree.
use Rattle.std.proofs.Common.{◌≡◌, ◌++◌, ◌+◌, ℕ, List, [], ◌∷◌, length, map, take, append_assoc, length-append}
use Rattle.std.proofs.Common.{Option, Some, None, refl, ap, ap₂, sym, ◌∙◌}
use Rattle.std.proofs.lemmas.List.{append-nil, map-append}
use Rattle.std.proofs.Math.Seq.{take-append_seam}
use Rattle.rgo_ast.specs.Tree as tree
use Rattle.rgo_ast.specs.Tree.{Decl, TypeSpec, Binding, stmts_of}
use Rattle.rgo_ast.specs.declared.names.Ident.{Ident}
use Rattle.rgo_typed.specs.declared.types.Type.{«Type»}
use Rattle.rgo_typed.specs.declared.programs.Struct.{Struct}
use Rattle.rgo_typed.specs.declared.programs.Variable.{Variable}
use Rattle.rgo_typing_rules.specs.Meanings.{Signature}
use Rattle.rgo_typing_rules.specs.Types.{spelled}
use Rattle.rgo_typing_expressions.specs.Packages.{Package, Scope, Fields, Context}
use Rattle.rgo_typing_expressions.specs.Scopes.{no_locals, int, resolved, base_of}
use Rattle.rgo_typing_packages.specs.Names.{with_names, with_bindings}
use Rattle.rgo_typing_packages.specs.Names as names
use Rattle.rgo_typing_packages.specs.Numbering.{Numbering, with_all_decls}
use Rattle.rgo_typing_packages.specs.Numbering as numbering
use Rattle.rgo_typing_packages.specs.Packages.{outside_functions, whole_package}
use Rattle.rgo_types.specs.Programs.{at_body, typed_function, typed_functions}
use Rattle.rgo_typing_packages.specs.Signatures.{Signatures, with_struct, with_structs, with_variable, with_variables}
use Rattle.rgo_typing_packages.specs.Signatures.{with_binding, with_vars}
use Rattle.rgo_typing_packages.specs.Signatures.{with_function, with_decls, result_of, params_of, in_seen}
use Rattle.rgo_typing_statements.specs.Statements.{after_all}
use Rattle.rgo_wellformed.specs.TypeRules
use Rattle.rgo_wellformed.specs.WellFormed.{signature_of}
use Rattle.rgo_typing_laws.proofs.Growth.{Begins, grows_all}
use Rattle.rgo_typing_laws.proofs.Numbering.{names_of}
use Rattle.rgo_typing_laws.proofs.Values.{declared_signature}

-- the variables of a declaration, after their names were seen
abbrev in_binding : Signatures → Binding → Signatures
in_binding s b = in_seen (with_names int s.seen b.names) s

-- ---- counts

abbrev pub InStep : Numbering → Signatures → Type 0
InStep n s = (n.structs ≡ length s.structs) × (n.variables ≡ length s.variables)

one_more : {A : Type 0} (n : ℕ) (l : List A) (a : A) → n ≡ length l → n + 1 ≡ length (l ++ a ∷ [])
one_more n l a h = ap (λ k. k + 1) h ∙ sym (length-append l (a ∷ []))

structs_in_step : (c : Context) (n : Numbering) (s : Signatures) (l : List TypeSpec) → InStep n s
    → InStep (numbering.with_structs n l) (with_structs c s l)
structs_in_step c n s [] h = h
structs_in_step c n s (t ∷ l) h =
    structs_in_step c (numbering.with_struct n t) (with_struct c s t) l (one_more n.structs s.structs _ h.0, h.1)

variables_in_step : (n : Numbering) (s : Signatures) (ty : «Type») (l : List Ident) → InStep n s
    → InStep (numbering.with_variables n l) (with_variables s ty l)
variables_in_step n s ty [] h = h
variables_in_step n s ty (x ∷ l) h =
    variables_in_step (numbering.with_variable n x) (with_variable s ty x) ty l
    (h.0, one_more n.variables s.variables ty h.1)

vars_in_step : (c : Context) (n : Numbering) (s : Signatures) (l : List Binding) → InStep n s
    → InStep (numbering.with_bindings n l) (with_vars c s l)
vars_in_step c n s [] h = h
vars_in_step c n s (b ∷ l) h =
    vars_in_step c (numbering.with_variables n b.names) (with_binding c s b) l
    (variables_in_step n (in_binding s b) (resolved c b.ty) b.names h)

pub all_in_step : (c : Context) (n : Numbering) (s : Signatures) (l : List Decl) → InStep n s
    → InStep (with_all_decls n l) (with_decls c s l)
all_in_step c n s [] h = h
all_in_step c n s (tree.Types types at ∷ l) h =
    all_in_step c (numbering.with_structs n types) (with_structs c s types) l (structs_in_step c n s types h)
all_in_step c n s (tree.Vars vars at ∷ l) h =
    all_in_step c (numbering.with_bindings n vars) (with_vars c s vars) l (vars_in_step c n s vars h)
all_in_step c n s (tree.Func f ∷ l) h = all_in_step c (numbering.with_function n f) (with_function c s f) l h

-- ---- the typed tree's structs and variables

abbrev pub IsMirrored : Signatures → Type 0
IsMirrored s =
    (map (λ t. t.fields) s.typed_structs ≡ map (λ f. f.types) s.structs)
    × (map (λ v. v.ty) s.typed_variables ≡ s.variables)

pushed : {A B C : Type 0} (f : A → C) (g : B → C) (l : List A) (m : List B) (a : A) (b : B) → map f l ≡ map g m
    → f a ≡ g b → map f (l ++ a ∷ []) ≡ map g (m ++ b ∷ [])
pushed f g l m a b h e = map-append f l (a ∷ []) ∙ ap₂ (λ x y. x ++ y ∷ []) h e ∙ sym (map-append g m (b ∷ []))

structs_mirrored : (c : Context) (s : Signatures) (l : List TypeSpec) → IsMirrored s → IsMirrored (with_structs c s l)
structs_mirrored c s [] h = h
structs_mirrored c s (t ∷ l) h =
    structs_mirrored c (with_struct c s t) l
    (pushed (λ (t : Struct). t.fields) (λ (f : Fields). f.types) s.typed_structs s.structs _ _ h.0 refl, h.1)

variables_mirrored : (s : Signatures) (ty : «Type») (l : List Ident) → IsMirrored s → IsMirrored (with_variables s ty l)
variables_mirrored s ty [] h = h
variables_mirrored s ty (x ∷ l) h =
    variables_mirrored (with_variable s ty x) ty l
    (h.0, map-append (λ (v : Variable). v.ty) s.typed_variables (_ ∷ []) ∙ ap (λ x. x ++ ty ∷ []) h.1)

vars_mirrored : (c : Context) (s : Signatures) (l : List Binding) → IsMirrored s → IsMirrored (with_vars c s l)
vars_mirrored c s [] h = h
vars_mirrored c s (b ∷ l) h =
    vars_mirrored c (with_binding c s b) l (variables_mirrored (in_binding s b) (resolved c b.ty) b.names h)

pub all_mirrored : (c : Context) (s : Signatures) (l : List Decl) → IsMirrored s → IsMirrored (with_decls c s l)
all_mirrored c s [] h = h
all_mirrored c s (tree.Types types at ∷ l) h =
    all_mirrored c (with_structs c s types) l (structs_mirrored c s types h)
all_mirrored c s (tree.Vars vars at ∷ l) h = all_mirrored c (with_vars c s vars) l (vars_mirrored c s vars h)
all_mirrored c s (tree.Func f ∷ l) h = all_mirrored c (with_function c s f) l h

-- ---- functions

take_front : {A : Type 0} (l m : List A) → Begins l m → take (length l) m ≡ l
take_front l m b = ap (take (length l)) b.1 ∙ take-append_seam l b.0

abbrev sig : List «Type» → Option «Type» → TypeRules.Signature
sig l o = record { params = l; result_type = o }

module _ (p : Package) (t : Signatures) where
  -- where the names mean what they do in the whole package, and where signatures are known as well
  abbrev c : Context
  c = outside_functions p

  abbrev whole : Context
  whole = outside_functions (whole_package p t)

  base_same : (ty : tree.TypeExpr) → base_of c ty ≡ base_of whole ty
  base_same (tree.Named x) = refl
  base_same (tree.Pointer x at) = refl
  base_same (tree.Slice ty at) = base_same ty
  base_same (tree.Chan ty at) = base_same ty

  resolved_same : (ty : tree.TypeExpr) → resolved c ty ≡ resolved whole ty
  resolved_same ty = ap (λ b. spelled ty b) (base_same ty)

  bindings_same : (g : Scope) (l : List Binding) → with_bindings c g l ≡ with_bindings whole g l
  bindings_same g [] = refl
  bindings_same g (b ∷ l) =
      ap (λ ty. with_bindings c (with_names ty g b.names) l) (resolved_same b.ty)
      ∙ bindings_same (names.with_binding whole g b) l

  result_same : (o : Option tree.TypeExpr) → result_of c o ≡ result_of whole o
  result_same None = refl
  result_same (Some ty) = ap Some (resolved_same ty)

  signature_same : (f : tree.Function)
      → signature_of (typed_function whole f)
      ≡ record { params = (params_of c f).types; result_type = result_of c f.result_type }
  signature_same f =
      let params = (params_of whole f).types in
      let locals = (after_all (at_body whole f) (stmts_of f.body)).scope.types in
      ap₂ sig (take_front params locals (grows_all (at_body whole f) (stmts_of f.body)).types
      ∙ ap (λ g. g.types) (sym (bindings_same no_locals f.params))) (sym (result_same f.result_type))

  structs_functions : (s : Signatures) (l : List TypeSpec) → (with_structs c s l).functions ≡ s.functions
  structs_functions s [] = refl
  structs_functions s (x ∷ l) = structs_functions (with_struct c s x) l

  variables_functions : (s : Signatures) (ty : «Type») (l : List Ident)
      → (with_variables s ty l).functions ≡ s.functions
  variables_functions s ty [] = refl
  variables_functions s ty (x ∷ l) = variables_functions (with_variable s ty x) ty l

  vars_functions : (s : Signatures) (l : List Binding) → (with_vars c s l).functions ≡ s.functions
  vars_functions s [] = refl
  vars_functions s (b ∷ l) =
      vars_functions (with_binding c s b) l ∙ variables_functions (in_binding s b) (resolved c b.ty) b.names

  abbrev and_then : List Decl → List Signature → List TypeRules.Signature
  and_then l functions = map declared_signature functions ++ map signature_of (typed_functions whole l)

  pub all_functions : (s : Signatures) (l : List Decl)
      → map declared_signature (with_decls c s l).functions
      ≡ map declared_signature s.functions ++ map signature_of (typed_functions whole l)
  all_functions s [] = sym (append-nil (map declared_signature s.functions))
  all_functions s (tree.Types types at ∷ l) =
      all_functions (with_structs c s types) l ∙ ap (and_then l) (structs_functions s types)
  all_functions s (tree.Vars vars at ∷ l) =
      all_functions (with_vars c s vars) l ∙ ap (and_then l) (vars_functions s vars)
  all_functions s (tree.Func f ∷ l) =
      let new : Signature = record { params = (params_of c f).types; result_type = result_of c f.result_type } in
      let rest = map signature_of (typed_functions whole l) in
      all_functions (with_function c s f) l
      ∙ ap (λ x. x ++ rest) (map-append declared_signature s.functions (new ∷ []))
      ∙ append_assoc (map declared_signature s.functions) (declared_signature new ∷ []) rest
      ∙ ap (λ x. map declared_signature s.functions ++ x ∷ rest) (sym (signature_same f))

pub function_names : (c : Context) (l : List Decl) → map (λ f. f.name) (typed_functions c l) ≡ names_of l
function_names c [] = refl
function_names c (tree.Types types at ∷ l) = function_names c l
function_names c (tree.Vars vars at ∷ l) = function_names c l
function_names c (tree.Func f ∷ l) = ap (λ x. f.name.name ∷ x) (function_names c l)
