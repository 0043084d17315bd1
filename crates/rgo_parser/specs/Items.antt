-- The result of reading a list, in the form that the reading functions of rgo_grammar have it.
use Rattle.std.specs.Prelude.{List, map}
use denote.Ref.{Bor}
use Rattle.std.specs.declared.alloc.Global.{Global}
use Rattle.std.specs.declared.vec.Vec.{Vec}
use Rattle.rgo_lexer.specs.Lexemes.{Leaf, Lexeme}

-- the items of a list by their trees, and the leaf that closes it
abbrev pub listed_by : {X A : Type 0} → (X → A) → Vec X Global × Bor Lexeme → List A × Leaf
listed_by tree x = (map tree x.0.items, x.1.now.leaf)
