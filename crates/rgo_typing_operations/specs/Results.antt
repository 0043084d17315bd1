-- What a check of an expression returns: its shape and its typed tree, or the first refusal.
use Rattle.std.specs.Prelude.{◌≡◌, List, None, Result, Ok, Err}
use Rattle.rgo_typed.specs.Tree.{Term}
use Rattle.rgo_typed.specs.Views.{term_of}
use Rattle.rgo_typing_rules.specs.Checks.{Refuses}
use Rattle.rgo_typing_rules.specs.Shapes.{Shape}
use Rattle.rgo_typing_rules.specs.Sites.{Site, first_refusal}
use Rattle.rgo_typing_rules.specs.Views.{shape_of}
use Rattle.rgo_typing_rules.specs.declared.errors.TypeError.{TypeError}
use Rattle.rgo_typing_operations.specs.declared.results.Checked.{Checked}

-- one expression's shape and term
abbrev pub Matches : Checked → Shape → Term → Type 0
Matches e shape term = (shape_of e.shape ≡ shape) × (term_of e.term ≡ term)

-- a check of these nodes, with the shape and the term of an expression if no node breaks a rule
abbrev pub ChecksTo : Result Checked TypeError → List Site → Shape → Term → Type 0
ChecksTo (Ok e) sites shape term = (first_refusal sites ≡ None) × Matches e shape term
ChecksTo (Err e) sites shape term = Refuses e (first_refusal sites)
