-- What a package declares, and the local variables of a function at a point of it.
use Rattle.std.specs.Prelude.{ℕ, Bool, List}
use Rattle.rgo_scopes.specs.Blocks.{NestedBlocks}
use Rattle.rgo_typed.specs.declared.types.Type.{«Type»}
use Rattle.rgo_typing_rules.specs.declared.meanings.Meaning.{Meaning}
use Rattle.rgo_typing_rules.specs.Meanings.{Signature}

-- the fields of a struct: the number of each name, and the types by number
pub record Fields : Type 0 where
  pub numbers : NestedBlocks ℕ
  pub types : List «Type»

-- what a package declares: whether it imports `fmt`, what each of its names means, and by number the
-- structs, the types of variables, and the parameters and results of functions
pub record Package : Type 0 where
  pub imported : Bool
  pub names : NestedBlocks Meaning
  pub structs : List Fields
  pub variables : List «Type»
  pub functions : List Signature

-- the local variables of a function at a point of it: the number of each name in scope, and the types of all that
-- were declared so far, also of those that are out of scope; a local variable is numbered by their count
pub record Scope : Type 0 where
  pub locals : NestedBlocks ℕ
  pub types : List «Type»

-- where an expression or a statement is checked: in a package, at a point of a function
pub record Context : Type 0 where
  pub globals : Package
  pub scope : Scope
