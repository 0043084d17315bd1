-- Functions with their classes, of which nothing else is said.
use Rattle.std.specs.Prelude.{◌≡◌, ℕ, List, [], length, Some, slice_get}
use Rattle.rgo_tac.specs.Code.{TacFn}
use Rattle.rgo_classes.specs.declared.classes.Classes.{Classes}
use Rattle.rgo_classes.specs.declared.classes.Summary.{Summary}
use Rattle.rgo_classes.specs.Classes.{AreClasses}
use Rattle.rgo_code.specs.declared.code.Undeclared.{Undeclared}
use Rattle.rgo_code.specs.declared.notes.Regions.{Regions}

-- the classes that regions say
abbrev pub classes_by : Regions → Classes
classes_by r = record { variables = r.classes; result = r.result }

-- each function has the classes that it has under these summaries
pub record AreBare (summaries : List Summary) (functions : List TacFn) (regions : List Regions) : Type 0 where
  pub len : length regions ≡ length functions
  pub classes : (n : ℕ) (f : TacFn) (r : Regions) → slice_get functions n ≡ Some f → slice_get regions n ≡ Some r
      → AreClasses summaries f (classes_by r)

-- no name is used that is not declared
abbrev pub nothing_undeclared : Undeclared
nothing_undeclared = record { structs = []; variables = []; functions = [] }
