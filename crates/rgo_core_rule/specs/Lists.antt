-- Lists of lists.
use Rattle.std.specs.Prelude.{List, [], ◌∷◌, ◌++◌}

-- the lists, one after the other
abbrev pub flattened : {A : Type 0} → List (List A) → List A
flattened [] = []
flattened (xs ∷ xss) = xs ++ flattened xss
