-- What a check of expressions returns: typed trees and shapes, or the first refusal.
use Rattle.std.specs.Prelude.{◌≡◌, ℕ, List, map, Option, Some, None, Result, Ok, Err}
use Rattle.rgo_ast.specs.Tree.{Expr, Exprs, Elements}
use Rattle.rgo_typed.specs.Tree.{Terms, terms_of}
use Rattle.rgo_typed.specs.Views.{term_of}
use Rattle.rgo_typed.specs.declared.types.Type.{«Type»}
use Rattle.rgo_typing_rules.specs.Checks.{Refuses}
use Rattle.rgo_typing_rules.specs.Shapes.{Shape}
use Rattle.rgo_typing_rules.specs.Sites.{Site, first_refusal}
use Rattle.rgo_typing_rules.specs.Views.{shape_of, type_of_kind, optional_kind_of}
use Rattle.rgo_typing_rules.specs.declared.errors.TypeError.{TypeError}
use Rattle.rgo_typing_rules.specs.declared.roles.Role.{Role}
use Rattle.rgo_typing_expressions.specs.Checking.{nodes, all_nodes, element_nodes, values_of, field_types}
use Rattle.rgo_typing_expressions.specs.Packages.{Fields, Context}
use Rattle.rgo_typing_expressions.specs.Terms as typing
use Rattle.rgo_typing_expressions.specs.Terms.{all_terms, element_terms, element_numbers}
use Rattle.rgo_typing_expressions.specs.Types.{type_of, types_of}
use Rattle.rgo_typing_expressions.specs.declared.fields.Field.{Field}
use Rattle.rgo_typing_expressions.specs.declared.keyed.Named.{Named}
use Rattle.rgo_typing_expressions.specs.declared.results.Values.{Values}
use Rattle.rgo_typing_operations.specs.declared.results.Checked.{Checked}
pub use Rattle.rgo_typing_operations.specs.Results.{Matches, ChecksTo}

-- those of several
abbrev pub MatchesAll : Values → List Shape → Terms → Type 0
MatchesAll v shapes terms = (map shape_of v.shapes.items ≡ shapes) × (terms_of (map term_of v.terms.items) ≡ terms)

-- the same for several expressions
abbrev pub ChecksToAll : Result Values TypeError → List Site → List Shape → Terms → Type 0
ChecksToAll (Ok v) sites shapes terms = (first_refusal sites ≡ None) × MatchesAll v shapes terms
ChecksToAll (Err e) sites shapes terms = Refuses e (first_refusal sites)

-- the check of an expression
abbrev pub ChecksExpr : Result Checked TypeError → Context → Role → Expr → Type 0
ChecksExpr result c r e = ChecksTo result (nodes c r e) (type_of c e) (typing.typed_term c e)

-- the check of expressions in order, as values of these types, if there are types
abbrev pub ChecksExprs : Result Values TypeError → Context → Role → List «Type» → Exprs → Type 0
ChecksExprs result c r wanted es = ChecksToAll result (all_nodes c r es) (types_of c es) (all_terms c wanted es)

-- the check of the values of a literal by fields, as values of these types, if they are known
abbrev pub ChecksElements : Result Values TypeError → Context → List (Option «Type») → Elements → Type 0
ChecksElements result c known members =
    ChecksToAll result (element_nodes c members) (types_of c (values_of members)) (element_terms c known members)

-- a field by its number and type
abbrev pub found_field : Option Field → Option (ℕ × «Type»)
found_field None = None
found_field (Some f) = Some (f.number, type_of_kind f.kind)

-- the fields that elements name
abbrev pub FieldsOf : Named → Fields → Elements → Type 0
FieldsOf n fields members =
    (map optional_kind_of n.kinds.items ≡ field_types fields members) × (n.numbers.items ≡ element_numbers fields members)
