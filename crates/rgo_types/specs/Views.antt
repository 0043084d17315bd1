-- The views of a condition that may be left out, as of `for { }`.
use Rattle.std.specs.Prelude.{Option, Some, None}
use Rattle.rgo_typed.specs.Tree.{Term}
use Rattle.rgo_typed.specs.Views.{term_of}
use Rattle.rgo_typing_rules.specs.Shapes.{Shape}
use Rattle.rgo_typing_rules.specs.Views.{shape_of}
use Rattle.rgo_typing_operations.specs.declared.results.Checked.{Checked}

abbrev pub optional_checked_shape : Option Checked → Option Shape
optional_checked_shape None = None
optional_checked_shape (Some e) = Some (shape_of e.shape)

abbrev pub optional_term_of : Option Checked → Option Term
optional_term_of None = None
optional_term_of (Some e) = Some (term_of e.term)
