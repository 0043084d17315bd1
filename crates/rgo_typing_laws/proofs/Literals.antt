-- Struct literals: if no node of one breaks a rule, its term is well-formed. By the rule on literals a literal by values has none or
-- all, so its numbers are those of the first fields.
use Rattle.std.proofs.Common.{◌≡◌, ◌++◌, ◌==◌, ◌<◌, ◌≤◌, ℕ, zero, suc, false, List, [], ◌∷◌, length}
use Rattle.std.proofs.Common.{get_or, drop, take}
use Rattle.std.proofs.Common.{Option, Some, None, is_none, slice_get, refl, ap, sym, ◌∙◌, subst, true≢false, eqb-true}
use Rattle.std.proofs.Common.{arith}
use Rattle.std.specs.List.{list_any}
use Rattle.std.specs.Prelude.{⊤}
use Rattle.rgo_ast.specs.Tree as tree
use Rattle.rgo_ast.specs.Tree.{Exprs, Elements}
use Rattle.rgo_typed.specs.declared.types.Type.{«Type»}
use Rattle.rgo_typed.specs.Tree.{Terms, Build, a_term}
use Rattle.rgo_typing_rules.specs.Shapes.{fits, has_misfit, has_known_misfit}
use Rattle.rgo_typing_rules.specs.declared.meanings.Meaning.{Meaning}
use Rattle.rgo_typing_rules.specs.declared.meanings.Meaning.TheVariants as meaning
use Rattle.rgo_typing_rules.specs.Nodes as node
use Rattle.rgo_typing_rules.specs.Rules.{broken, is_partial}
use Rattle.rgo_scopes.specs.Blocks.{found, no_names}
use Rattle.rgo_typing_expressions.specs.Checking.{values_of, has_twice, struct_types, element_types}
use Rattle.rgo_typing_expressions.specs.Checking.{field_types, known_type, struct_number, struct_fields}
use Rattle.rgo_typing_expressions.specs.Scopes.{fields_at, int}
use Rattle.rgo_typing_expressions.specs.Types.{type_of, types_of, numbered_field}
use Rattle.rgo_typing_expressions.specs.Types.{pointer_shape}
use Rattle.rgo_typing_expressions.specs.Terms.{number_of_terms, first_numbers, build}
use Rattle.rgo_typing_expressions.specs.Terms.{field_number, element_numbers, with_known, typed_term, all_terms}
use Rattle.rgo_typing_expressions.specs.Terms.{element_terms}
use Rattle.rgo_wellformed.specs.TypeRules.{Declared, pointer_to}
use Rattle.rgo_wellformed.specs.WellFormed.{InScope, HasType, HaveTypes, MatchFields}
use Rattle.rgo_typing_laws.proofs.Unbroken.{not_false, or_left, or_right}
use Rattle.std.proofs.lemmas.Option.{slice_get-get_or}
use Rattle.std.proofs.Common.{take_all}
use Rattle.rgo_typing_expressions.specs.Packages.{Context}
use Rattle.rgo_typing_rules.specs.declared.rules.Rule.TheVariants as rule
use Rattle.rgo_typing_rules.proofs.Unbroken.{keeps}
use Rattle.rgo_typing_laws.proofs.Fitting.{Fits, fitted}
use Rattle.rgo_ast.specs.declared.names.Ident.{Ident}
use Rattle.rgo_ast.specs.Tree.{Expr}
use Rattle.rgo_typing_expressions.specs.Packages.{Fields}
use Rattle.rgo_typing_rules.specs.Shapes.{misfits}
use Rattle.std.proofs.Common.{Bool}
use Rattle.rgo_typing_laws.proofs.Values.{IsStruct, Means, AllFit, values_have}

-- ---- fields

fields_push : (fields : List «Type») (numbers : List ℕ) (types : List «Type») (k : ℕ) (t : «Type»)
    → MatchFields fields numbers types → slice_get fields k ≡ Some t
    → MatchFields fields (numbers ++ k ∷ []) (types ++ t ∷ [])
fields_push fields [] types k t h q = (t, [], ap (λ l. l ++ t ∷ []) h, q, refl)
fields_push fields (n ∷ numbers) types k t h q =
    (h.0, h.1 ++ t ∷ [], ap (λ l. l ++ t ∷ []) h.2, h.3, fields_push fields numbers h.1 k t h.4 q)

take_suc : (fields : List «Type») (n : ℕ) → suc n ≤ length fields
    → take (suc n) fields ≡ take n fields ++ get_or fields n int ∷ []
take_suc [] n h = absurd (omega arith)
take_suc (t ∷ fields) zero h = refl
take_suc (t ∷ fields) (suc n) h = ap (λ l. t ∷ l) (take_suc fields n (omega arith))

first_fields : (fields : List «Type») (n : ℕ) → n ≤ length fields
    → MatchFields fields (first_numbers n) (take n fields)
first_fields fields zero h = refl
first_fields fields (suc n) h =
    subst (MatchFields fields (first_numbers (suc n))) (sym (take_suc fields n h))
    (fields_push fields (first_numbers n) (take n fields) n (get_or fields n int)
    (first_fields fields n (omega arith)) (slice_get-get_or fields n int (omega arith)))

-- ---- literals of a struct

module _ (c : Context) (d : Declared) (locals : List «Type») (here : InScope) where
  abbrev pub EachFits : Elements → Type 0
  EachFits tree.no_elements = ⊤
  EachFits (tree.an_element x e l) = Fits d locals here (type_of c e) (typed_term c e) × EachFits l

  counted : (l : Exprs) (wanted : List «Type») → number_of_terms (all_terms c wanted l) ≡ length (types_of c l)
  counted tree.no_exprs wanted = refl
  counted (tree.an_expr e l) wanted = ap suc (counted l (drop 1 wanted))

  module _ (n : ℕ) (s : IsStruct c.globals d n) where
    abbrev fields : Fields
    fields = fields_at c.globals n

    all_built : (l : Exprs) (at : ℕ) → AllFit c d locals here l → has_misfit fields.types (types_of c l) ≡ false
        → is_partial (Some fields.types) (types_of c l) ≡ false
        → HasType d locals here (build n (all_terms c fields.types l) at) (pointer_to n)
    all_built tree.no_exprs at f m q = (refl, fields.types, s.listed, [], refl, refl)
    all_built (tree.an_expr e l) at f m q =
        let types = fields.types in
        let shapes = types_of c (tree.an_expr e l) in
        let same : length shapes ≡ length types =
        eqb-true (length shapes) (length types) (not_false (length shapes == length types) q) in
        let whole : take (length types) types ≡ types = take_all (length types) types (omega arith) in
        let numbered : MatchFields types (first_numbers (length types)) types =
        subst (MatchFields types (first_numbers (length types))) whole
        (first_fields types (length types) (omega arith)) in
        let all = values_have c d locals here (tree.an_expr e l) types s.types f m same in
        let numbers = sym (counted (tree.an_expr e l) types ∙ same) in
        (refl, types, s.listed, types, all, subst (λ k. MatchFields types (first_numbers k) types) numbers numbered)

    -- the terms have the types of these fields
    abbrev Fill : Terms → List ℕ → Type 0
    Fill terms numbers =
        (types : List «Type») × HaveTypes d locals here terms types × MatchFields fields.types numbers types

    fill_one : (x : Ident) (e : Expr) (terms : Terms) (numbers : List ℕ) (known : List (Option «Type»)) (o : Option ℕ)
        → found x.name fields.numbers ≡ o → Fits d locals here (type_of c e) (typed_term c e)
        → misfits (known_type (numbered_field fields o)) (type_of c e) ≡ false
        → is_none (known_type (numbered_field fields o)) ≡ false → Fill terms numbers
        → Fill (a_term (with_known (known_type (numbered_field fields o) ∷ known) (typed_term c e)) terms)
        (field_number (numbered_field fields o) ∷ numbers)
    fill_one x e terms numbers known None is f m q rest = absurd (true≢false q)
    fill_one x e terms numbers known (Some k) is f m q rest =
        let t = get_or fields.types k int in
        let field = s.fields x.name k is in
        let value = fitted d locals here t (type_of c e) (typed_term c e) (not_false (fits t (type_of c e)) m) field.1 f in
        (t ∷ rest.0, (t, rest.0, refl, value, rest.1), (t, rest.0, refl, field.0, rest.2))

    elements_have : (l : Elements) → EachFits l
        → has_known_misfit (field_types fields l) (types_of c (values_of l)) ≡ false
        → list_any is_none (field_types fields l) ≡ false
        → Fill (element_terms c (field_types fields l) l) (element_numbers fields l)
    elements_have tree.no_elements f m q = ([], refl, refl)
    elements_have (tree.an_element x e l) f m q =
        let o = found x.name fields.numbers in
        let first = known_type (numbered_field fields o) in
        let known = field_types fields l in
        let shapes = types_of c (values_of l) in
        let misfit : Bool = misfits first (type_of c e) in
        let rest =
        elements_have l f.1 (or_right misfit (has_known_misfit known shapes) m)
        (or_right (is_none first) (list_any is_none known) q) in
        fill_one x e (element_terms c known l) (element_numbers fields l) known o refl f.0
        (or_left misfit (has_known_misfit known shapes) m) (or_left (is_none first) (list_any is_none known) q) rest

  -- ---- literals by the meaning of their name

  pub literal_fits : (m : Option Meaning) (l : Exprs) (at : ℕ)
      → ((n : ℕ) → n < length d.structs → IsStruct c.globals d n) → Means c d locals here m
      → AllFit c d locals here l → broken (node.Literal (struct_types c.globals m) (types_of c l)) ≡ None
      → Fits d locals here (pointer_shape m)
      (build (struct_number m) (all_terms c (struct_fields c.globals m).types l) at)
  literal_fits (Some (meaning.Struct n)) l at structs k f br =
      let literal = node.Literal (Some (fields_at c.globals n).types) (types_of c l) in
      (all_built n (structs n k) l at f (keeps rule.NotAssignable literal br) (keeps rule.LiteralFields literal br), k)
  literal_fits None l at structs k f br =
      absurd (true≢false (keeps rule.PointerBase (node.Literal None (types_of c l)) br))
  literal_fits (Some m) l at structs k f br =
      absurd (true≢false (keeps rule.PointerBase (node.Literal None (types_of c l)) br))

  abbrev keyed : Option (List (Option «Type»)) → Elements → node.Node
  keyed known l = node.Keyed known (has_twice no_names l) (types_of c (values_of l))

  pub keyed_fits : (m : Option Meaning) (l : Elements) (at : ℕ)
      → ((n : ℕ) → n < length d.structs → IsStruct c.globals d n) → Means c d locals here m → EachFits l
      → broken (keyed (element_types c.globals m l) l) ≡ None
      → Fits d locals here (pointer_shape m)
      (Build (struct_number m) (element_terms c (field_types (struct_fields c.globals m) l) l)
      (element_numbers (struct_fields c.globals m) l) at)
  keyed_fits (Some (meaning.Struct n)) l at structs k f br =
      let known = field_types (fields_at c.globals n) l in
      let literal = keyed (Some known) l in
      let each =
      elements_have n (structs n k) l f (keeps rule.NotAssignable literal br)
      (or_left (list_any is_none known) (has_twice no_names l) (keeps rule.LiteralFields literal br)) in
      ((refl, (fields_at c.globals n).types, (structs n k).listed, each.0, each.1, each.2), k)
  keyed_fits None l at structs k f br = absurd (true≢false (keeps rule.PointerBase (keyed None l) br))
  keyed_fits (Some m) l at structs k f br = absurd (true≢false (keeps rule.PointerBase (keyed None l) br))
