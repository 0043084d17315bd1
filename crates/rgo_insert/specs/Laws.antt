-- What holds of code with regions: the rules leave no choice.
use Rattle.std.specs.Prelude.{◌≡◌, ℕ, Some, slice_get}
use Rattle.rgo_code.specs.Checked.{IsChecked}
use Rattle.rgo_code.specs.Code.{CodeFn, Code}
use Rattle.rgo_code.specs.Erasure.{erased}
use Rattle.rgo_code.specs.NameRules.{Ascends}
use Rattle.rgo_insert.specs.Inserted.{classes_in}

-- function by function, the variables and the result have the same classes
abbrev pub HaveSameClasses : Code → Code → Type 0
HaveSameClasses a b =
    (n : ℕ) (f g : CodeFn) → slice_get a.functions n ≡ Some f → slice_get b.functions n ≡ Some g
    → classes_in f ≡ classes_in g

-- Two codes that keep the rules, with ascending lists, are equal if they have the same three-address code, undeclared names
-- and classes.
abbrev pub OneCode : Type 0
OneCode =
    (a b : Code) → IsChecked a → IsChecked b → Ascends a → Ascends b → erased a ≡ erased b
    → a.undeclared ≡ b.undeclared → HaveSameClasses a b → a ≡ b
