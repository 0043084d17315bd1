-- What holds of the classes of all functions.
use Rattle.std.specs.Prelude.{List}
use Rattle.rgo_tac.specs.Code.{TacFn}
use Rattle.rgo_classes.specs.declared.classes.Summary.{Summary}
use Rattle.rgo_classes.specs.Joins.{Joins}
use Rattle.rgo_classes.specs.Same.{IsLeastEquivalence}

-- Being in one class is the least equivalence that contains the joins.
abbrev pub SameIsLeast : Type 0
SameIsLeast = (summaries : List Summary) (f : TacFn) → IsLeastEquivalence (Joins summaries f)
