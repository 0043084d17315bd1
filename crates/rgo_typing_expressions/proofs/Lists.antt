-- Expressions checked one after another, as values of wanted types: what is known when the first of them are
-- checked. The arguments of a call and the values of a literal are such lists.
use Rattle.std.proofs.Common.{◌≡◌, ◌+◌, ◌++◌, ◌≤◌, ◌<◌, ℕ, List, [], ◌∷◌, map, drop, length, get_or, Option, None, refl, ap, sym, ◌∙◌, subst, arith}
use Rattle.std.proofs.lemmas.List.{drop_more, drop_all, drop-drop, drop-map, map_push, append_assoc, append-nil, length_push}
use Rattle.rgo_ast.specs.declared.expressions.Element.{Element as CodeElement}
use Rattle.rgo_ast.specs.declared.expressions.Expr.{Expr as CodeExpr}
use Rattle.rgo_ast.specs.Tree.{Expr, exprs_of, elements_of}
use Rattle.rgo_ast.specs.Views.{expr_of, element_of}
use Rattle.rgo_typed.specs.declared.terms.Term.{Term as CodeTerm}
use Rattle.rgo_typed.specs.Tree.{Term, Terms, no_terms, a_term, terms_of}
use Rattle.rgo_typed.specs.Views.{term_of as view_of_term}
use Rattle.rgo_typing_rules.specs.Checks.{Refuses}
use Rattle.rgo_typing_rules.specs.Shapes.{Shape}
use Rattle.rgo_typing_rules.specs.Sites.{Site, first_refusal}
use Rattle.rgo_typing_rules.specs.Views.{type_of_kind, optional_kind_of, shape_of}
use Rattle.rgo_typing_rules.specs.declared.errors.TypeError.{TypeError}
use Rattle.rgo_typing_rules.specs.declared.kinds.Kind.{Kind}
use Rattle.rgo_typing_rules.specs.declared.roles.Role.{Role}
use Rattle.rgo_typing_rules.specs.declared.roles.Role.TheVariants.{Value}
use Rattle.rgo_typing_rules.specs.declared.shapes.Shape.{Shape as CodeShape}
use Rattle.rgo_typing_rules.proofs.Refusals.{refuses_first, none_first}
use Rattle.rgo_typing_expressions.specs.Checking.{nodes, all_nodes, element_nodes, values_of}
use Rattle.rgo_typing_expressions.specs.Packages.{Context}
use Rattle.rgo_typing_expressions.specs.Terms.{typed_term, all_terms, element_terms, with_first, with_known}
use Rattle.rgo_typing_expressions.specs.Types.{type_of, types_of}

-- terms with more after them
abbrev pub terms_before : List Term → Terms → Terms
terms_before [] more = more
terms_before (t ∷ ts) more = a_term t (terms_before ts more)

pub one_more : (ts : List Term) (t : Term) (more : Terms) → terms_before (ts ++ t ∷ []) more ≡ terms_before ts (a_term t more)
one_more [] t more = refl
one_more (u ∷ ts) t more = ap (a_term u) (one_more ts t more)

pub no_more : (ts : List Term) → terms_before ts no_terms ≡ terms_of ts
no_more [] = refl
no_more (t ∷ ts) = ap (a_term t) (no_more ts)

pub next : {A B : Type 0} (f : A → B) (i : ℕ) (l : List A) → drop 1 (map f (drop i l)) ≡ map f (drop (i + 1) l)
next f i l = drop-map f 1 (drop i l) ∙ ap (map f) (drop-drop 1 i l)

-- what the definitions say of a list of the code's `A`, each with an expression, as values of the code's `W`
pub record Listed (A W : Type 0) (c : Context) (r : Role) : Type 0 where
  pub expr : A → Expr
  -- a term as a value of the first of these
  pub wanted : List W → Term → Term
  pub sites : List A → List Site
  pub types : List A → List Shape
  pub terms : List W → List A → Terms
  pub no_types : types [] ≡ []
  pub no_terms_of : (w : List W) → terms w [] ≡ no_terms
  pub no_sites : sites [] ≡ []
  pub more_sites : (x : A) (l : List A) → sites (x ∷ l) ≡ nodes c r (expr x) ++ sites l
  pub more_types : (x : A) (l : List A) → types (x ∷ l) ≡ type_of c (expr x) ∷ types l
  pub more_terms : (i : ℕ) (w : List W) (x : A) (l : List A)
      → terms (drop i w) (x ∷ l) ≡ a_term (wanted (drop i w) (typed_term c (expr x))) (terms (drop (i + 1) w) l)

-- arguments of a call, or the values of a literal without names
abbrev pub exprs : (c : Context) (r : Role) → Listed CodeExpr Kind c r
exprs c r = record {
  expr = expr_of;
  wanted = λ w. with_first (map type_of_kind w);
  sites = λ l. all_nodes c r (exprs_of (map expr_of l));
  types = λ l. types_of c (exprs_of (map expr_of l));
  terms = λ w l. all_terms c (map type_of_kind w) (exprs_of (map expr_of l));
  no_types = refl;
  no_terms_of = λ w. refl;
  no_sites = refl;
  more_sites = λ x l. refl;
  more_types = λ x l. refl;
  more_terms = λ i w x l. ap
      (λ v. a_term (with_first (map type_of_kind (drop i w)) (typed_term c (expr_of x))) (all_terms c v (exprs_of (map expr_of l))))
      (next type_of_kind i w);
}

-- the values of a literal by fields
abbrev pub elements : (c : Context) → Listed CodeElement (Option Kind) c Value
elements c = record {
  expr = λ x. expr_of x.value;
  wanted = λ w. with_known (map optional_kind_of w);
  sites = λ l. element_nodes c (elements_of (map element_of l));
  types = λ l. types_of c (values_of (elements_of (map element_of l)));
  terms = λ w l. element_terms c (map optional_kind_of w) (elements_of (map element_of l));
  no_types = refl;
  no_terms_of = λ w. refl;
  no_sites = refl;
  more_sites = λ x l. refl;
  more_types = λ x l. refl;
  more_terms = λ i w x l. ap
      (λ v. a_term (with_known (map optional_kind_of (drop i w)) (typed_term c (expr_of x.value))) (element_terms c v (elements_of (map element_of l))))
      (next optional_kind_of i w);
}

module _ {A W : Type 0} {c : Context} {r : Role} (L : Listed A W c r) (wanted : List W) (all : List A) where
  -- the first i of them are checked
  pub record Before (i : ℕ) (shapes : List CodeShape) (terms : List CodeTerm) : Type 0 where
    pub number : length shapes ≡ i
    pub refusal : first_refusal (L.sites all) ≡ first_refusal (L.sites (drop i all))
    pub types_are : L.types all ≡ map shape_of shapes ++ L.types (drop i all)
    pub terms_are : L.terms wanted all ≡ terms_before (map view_of_term terms) (L.terms (drop i wanted) (drop i all))

  pub starts : Before 0 [] []
  starts = record { number = refl; refusal = refl; types_are = refl; terms_are = refl }

  -- the next of them is refused
  pub stops : (i : ℕ) (shapes : List CodeShape) (terms : List CodeTerm) (x : A) (error : TypeError)
      → Before i shapes terms → i < length all → x ≡ get_or all i x
      → Refuses error (first_refusal (nodes c r (L.expr x)))
      → Refuses error (first_refusal (L.sites all))
  stops i shapes terms x error b within is refuses =
      let here : drop i all ≡ x ∷ drop (i + 1) all = drop_more all i x within ∙ ap (λ y. y ∷ drop (i + 1) all) (sym is) in
      let whole : first_refusal (L.sites all) ≡ first_refusal (nodes c r (L.expr x) ++ L.sites (drop (i + 1) all)) =
      b.refusal ∙ ap (λ l. first_refusal (L.sites l)) here ∙ ap first_refusal (L.more_sites x (drop (i + 1) all)) in
      subst (Refuses error) (sym whole) (refuses_first error (nodes c r (L.expr x)) (L.sites (drop (i + 1) all)) refuses)

  -- the next of them is checked
  pub continues : (i : ℕ) (shapes : List CodeShape) (terms : List CodeTerm) (x : A) (shape : CodeShape) (checked term : CodeTerm) (n : ℕ)
      → Before i shapes terms → i < length all → x ≡ get_or all i x
      → first_refusal (nodes c r (L.expr x)) ≡ None
      → shape_of shape ≡ type_of c (L.expr x)
      → view_of_term checked ≡ typed_term c (L.expr x)
      → view_of_term term ≡ L.wanted (drop n wanted) (view_of_term checked)
      → n ≡ i
      → Before (i + 1) (shapes ++ shape ∷ []) (terms ++ term ∷ [])
  continues i shapes terms x shape checked term n b within is none shape_is checked_is term_is n_is =
      let rest = drop (i + 1) all in
      let here : drop i all ≡ x ∷ rest = drop_more all i x within ∙ ap (λ y. y ∷ rest) (sym is) in
      let wanted_is : view_of_term term ≡ L.wanted (drop i wanted) (typed_term c (L.expr x)) =
      term_is ∙ ap (λ n. L.wanted (drop n wanted) (view_of_term checked)) n_is
      ∙ ap (L.wanted (drop i wanted)) checked_is in
      record {
        number = omega (arith, length_push shapes shape, b.number);
        refusal = b.refusal ∙ ap (λ l. first_refusal (L.sites l)) here ∙ ap first_refusal (L.more_sites x rest)
            ∙ none_first (nodes c r (L.expr x)) (L.sites rest) none;
        types_are = b.types_are ∙ ap (λ l. map shape_of shapes ++ L.types l) here
            ∙ ap (λ l. map shape_of shapes ++ l) (L.more_types x rest)
            ∙ ap (λ s. map shape_of shapes ++ (s ∷ L.types rest)) (sym shape_is)
            ∙ sym (append_assoc (map shape_of shapes) (shape_of shape ∷ []) (L.types rest))
            ∙ ap (λ l. l ++ L.types rest) (sym (map_push shape_of shapes shape));
        terms_are = b.terms_are
            ∙ ap (λ l. terms_before (map view_of_term terms) (L.terms (drop i wanted) l)) here
            ∙ ap (terms_before (map view_of_term terms)) (L.more_terms i wanted x rest)
            ∙ ap (λ t. terms_before (map view_of_term terms) (a_term t (L.terms (drop (i + 1) wanted) rest))) (sym wanted_is)
            ∙ sym (one_more (map view_of_term terms) (view_of_term term) (L.terms (drop (i + 1) wanted) rest))
            ∙ ap (λ l. terms_before l (L.terms (drop (i + 1) wanted) rest)) (sym (map_push view_of_term terms term));
      }

  -- all of them are checked
  pub ends : (i : ℕ) (shapes : List CodeShape) (terms : List CodeTerm) → Before i shapes terms → length all ≤ i
      → (first_refusal (L.sites all) ≡ None)
      × ((map shape_of shapes ≡ L.types all) × (terms_of (map view_of_term terms) ≡ L.terms wanted all))
  ends i shapes terms b past =
      let nothing = drop_all i all past in (
        b.refusal ∙ ap (λ l. first_refusal (L.sites l)) nothing ∙ ap first_refusal L.no_sites,
        (
          sym (b.types_are ∙ ap (λ l. map shape_of shapes ++ L.types l) nothing
              ∙ ap (λ l. map shape_of shapes ++ l) L.no_types ∙ append-nil (map shape_of shapes)),
          sym (b.terms_are
              ∙ ap (λ l. terms_before (map view_of_term terms) (L.terms (drop i wanted) l)) nothing
              ∙ ap (terms_before (map view_of_term terms)) (L.no_terms_of (drop i wanted))
              ∙ no_more (map view_of_term terms)),
        ),
      )
