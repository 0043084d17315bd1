-- Code whose classes are those of its functions under summaries.
use Rattle.std.specs.Prelude.{◌≡◌, ℕ, List, map, Some, slice_get}
use Rattle.rgo_classes.specs.declared.classes.Classes.{Classes}
use Rattle.rgo_classes.specs.declared.classes.Summary.{Summary}
use Rattle.rgo_classes.specs.Classes.{AreClasses}
use Rattle.rgo_tac.specs.Code.{Tac}
use Rattle.rgo_code.specs.Checked.{IsChecked}
use Rattle.rgo_code.specs.Code.{CodeFn, Code}
use Rattle.rgo_code.specs.Erasure.{erased, erased_fn}
use Rattle.rgo_code.specs.NameRules.{Ascends}
use Rattle.rgo_code.specs.Names.{result_class}

-- the classes of its variables and of its result
abbrev pub classes_in : CodeFn → Classes
classes_in f = record { variables = map (λ s. s.class) f.variables; result = result_class f }

-- each function's variables and result have the classes that they have under the summaries
abbrev pub HasClasses : List Summary → Code → Type 0
HasClasses summaries code =
    (n : ℕ) (f : CodeFn) → slice_get code.functions n ≡ Some f → AreClasses summaries (erased_fn f) (classes_in f)

-- the code is this one with regions: it keeps the rules, with the classes that it has under the summaries
pub record IsInserted (tac : Tac) (summaries : List Summary) (code : Code) : Type 0 where
  pub erasure : erased code ≡ tac
  pub classes : HasClasses summaries code
  pub checked : IsChecked code
  pub ascends : Ascends code
