-- The typed tree of an expression. It is defined for every tree, also for those that break rules, whose terms mean nothing: so it needs
-- no premise, and the rules are apart from it.
use Rattle.std.specs.Prelude.{ℕ, zero, suc, ◌++◌, pos, List, [], ◌∷◌, drop, Option, Some, None}
use Rattle.rgo_ast.specs.Tree as tree
use Rattle.rgo_ast.specs.Tree.{Expr, Exprs, Elements, Capacity}
use Rattle.rgo_typed.specs.declared.actions.Action.{Action}
use Rattle.rgo_typed.specs.declared.actions.Action.TheVariants as action
use Rattle.rgo_typed.specs.declared.types.Type.{«Type»}
use Rattle.rgo_typed.specs.Tree.{Term, Terms, Local, Apply, Build, Call, no_terms, a_term}
use Rattle.rgo_typing_rules.specs.Types.{plain, slice_of, chan_of}
use Rattle.rgo_typing_rules.specs.Builtins.{result_of, action_of}
use Rattle.rgo_typing_rules.specs.Shapes as shape
use Rattle.rgo_typing_rules.specs.Shapes.{Shape}
use Rattle.rgo_typing_rules.specs.declared.meanings.Meaning.{Meaning}
use Rattle.rgo_typing_rules.specs.declared.meanings.Meaning.TheVariants as meaning
use Rattle.rgo_typing_expressions.specs.Packages.{Fields, Package, Context}
use Rattle.rgo_typing_expressions.specs.Scopes.{meaning_of, variable_type_at, signature_at}
use Rattle.rgo_typing_expressions.specs.Scopes.{int, bool, resolved, pointer_base}
use Rattle.rgo_typing_expressions.specs.declared.callees.Callee.{Callee}
use Rattle.rgo_typing_expressions.specs.declared.callees.Callee.TheVariants as callee
use Rattle.rgo_typing_expressions.specs.Callees.{callee_of}
use Rattle.rgo_typing_expressions.specs.Types.{type_of, field_of, field_in}
use Rattle.rgo_typing_expressions.specs.Checking.{field_types, struct_number, struct_fields}
pub use Rattle.rgo_typing_operations.specs.Terms.{atom, one, pair_of_terms, int_constant, with_type, constant_or_term, element_type, unary_term, negated, compared, operation, binary_term}

-- the type of a value of this shape
abbrev pub type_in : Shape → «Type»
type_in (shape.Value t) = t
type_in _ = int

-- the first of these types
abbrev pub with_first : List «Type» → Term → Term
with_first [] t = t
with_first (ty ∷ tys) t = with_type ty t

-- a name with this meaning, read at this place. `nil` gets its type by `with_type` from where it is used; a name that is not a value gets
-- the same term, in a program that is refused
abbrev pub name_term : Context → Option Meaning → ℕ → Term
name_term c (Some (meaning.Local n)) at = Local n
name_term c (Some (meaning.Global n)) at = atom (action.Get n) (variable_type_at c.globals n) at
name_term c (Some (meaning.Truth b)) at = atom (action.Bool b) bool at
name_term c _ at = atom action.Nil int at

-- the read of a field that was looked up; t itself if it was not found, in a program that is refused
abbrev pub field_term : Option (ℕ × «Type») → Term → ℕ → Term
field_term None t at = t
field_term (Some field) t at = Apply (action.Load field.0) (one t) field.1 at

-- what arguments have to be
abbrev pub wanted_of : Package → Callee → List «Type»
wanted_of p (callee.Routine n) = (signature_at p n).params
wanted_of p _ = []

-- the type in a call's term; without a result the call can only be a statement, and `called_stmt` drops this type
abbrev pub result_or_int : Option «Type» → «Type»
result_or_int None = int
result_or_int (Some t) = t

-- a call of a builtin; one without a value is only a statement, so that its `nil` is not used
abbrev pub builtin_term : Option Action → Option «Type» → Terms → ℕ → Term
builtin_term (Some a) (Some ty) args at = Apply a args ty at
builtin_term _ _ args at = atom action.Nil int at

-- a call by its callee and the terms of its arguments; `nil` where nothing can be called, in a program that is refused
abbrev pub call_term : Package → Callee → Terms → ℕ → Term
call_term p (callee.Routine n) args at = Call n args (result_or_int (signature_at p n).result_type) at
call_term p (callee.Builtin b) args at = builtin_term (action_of b) (result_of b) args at
call_term p _ args at = atom action.Nil int at

-- the length of a list of terms
abbrev pub number_of_terms : Terms → ℕ
number_of_terms no_terms = 0
number_of_terms (a_term t l) = suc (number_of_terms l)

-- 0 to n - 1
abbrev pub first_numbers : ℕ → List ℕ
first_numbers zero = []
first_numbers (suc n) = first_numbers n ++ n ∷ []

-- an object by its fields in order, one for each value
abbrev pub build : ℕ → Terms → ℕ → Term
build n values at = Build n values (first_numbers (number_of_terms values)) at

-- the number of a field that was looked up; 0 if it was not found, in a program that is refused
abbrev pub field_number : Option (ℕ × «Type») → ℕ
field_number None = 0
field_number (Some field) = field.0

-- the number of each element's field
abbrev pub element_numbers : Fields → Elements → List ℕ
element_numbers fields tree.no_elements = []
element_numbers fields (tree.an_element x e l) = field_number (field_in fields x.name) ∷ element_numbers fields l

-- the first of these types, if it is known
abbrev pub with_known : List (Option «Type») → Term → Term
with_known [] t = t
with_known (None ∷ tys) t = t
with_known (Some ty ∷ tys) t = with_type ty t

abbrev mutual
  -- the typed tree of an expression in this context. Parentheses disappear; the term of a string is never used, since a print writes
  -- strings from its pieces
  pub typed_term : Context → Expr → Term
  typed_term c (tree.Number n at) = int_constant (pos n) at
  typed_term c (tree.Text bytes at) = atom action.Nil int at
  typed_term c (tree.Name x) = name_term c (meaning_of c x.name) x.at
  typed_term c (tree.Paren e at) = typed_term c e
  typed_term c (tree.New x at) =
      atom (action.New (struct_number (meaning_of c x.name))) (plain (pointer_base (meaning_of c x.name))) at
  typed_term c (tree.MakeSlice ty e at) = Apply action.Slice (one (typed_term c e)) (slice_of (resolved c ty)) at
  typed_term c (tree.MakeChan ty room at) =
      Apply action.Chan (one (capacity_term c room at)) (chan_of (resolved c ty)) at
  typed_term c (tree.Select e field) = field_term (field_of c.globals (type_of c e) field.name) (typed_term c e) field.at
  typed_term c (tree.Index a i at) = Apply action.At (pair_of_terms (typed_term c a) (typed_term c i)) (element_type (type_of c a)) at
  typed_term c (tree.Called f args at) =
      call_term c.globals (callee_of c f) (all_terms c (wanted_of c.globals (callee_of c f)) args) at
  typed_term c (tree.Unary op e at) = unary_term op (type_of c e) (typed_term c e) at
  typed_term c (tree.Binary op a b at) =
      binary_term op (type_of c a) (type_of c b) (typed_term c a) (typed_term c b) at
  typed_term c (tree.Literal x values at) =
      build (struct_number (meaning_of c x.name))
      (all_terms c (struct_fields c.globals (meaning_of c x.name)).types values) at
  typed_term c (tree.Keyed x members at) =
      Build (struct_number (meaning_of c x.name))
      (element_terms c (field_types (struct_fields c.globals (meaning_of c x.name)) members) members)
      (element_numbers (struct_fields c.globals (meaning_of c x.name)) members) at

  -- the room of a channel; none is 0
  pub capacity_term : Context → Capacity → ℕ → Term
  capacity_term c tree.no_capacity at = int_constant (pos 0) at
  capacity_term c (tree.a_capacity e) at = typed_term c e

  -- values of these types, if there are types
  pub all_terms : Context → List «Type» → Exprs → Terms
  all_terms c wanted tree.no_exprs = no_terms
  all_terms c wanted (tree.an_expr e l) = a_term (with_first wanted (typed_term c e)) (all_terms c (drop 1 wanted) l)

  -- values of the types of their fields
  pub element_terms : Context → List (Option «Type») → Elements → Terms
  element_terms c known tree.no_elements = no_terms
  element_terms c known (tree.an_element x e l) =
      a_term (with_known known (typed_term c e)) (element_terms c (drop 1 known) l)
