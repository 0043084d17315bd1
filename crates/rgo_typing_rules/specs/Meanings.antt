-- Tests of the meaning of a name, and what a function takes and returns.
use Rattle.std.specs.Prelude.{Bool, true, false, List, Option, Some, None}
use Rattle.rgo_typed.specs.declared.types.Type.{«Type»}
use Rattle.rgo_typing_rules.specs.declared.meanings.Meaning.{Meaning}
use Rattle.rgo_typing_rules.specs.declared.meanings.Meaning.TheVariants.{Local, Global, Struct, Basic, Truth, Nil, Package}

-- what a function takes and returns; without a result type a call of it has no value
pub record Signature : Type 0 where
  pub params : List «Type»
  pub result_type : Option «Type»

-- nothing in scope declares it
abbrev pub is_missing : Option Meaning → Bool
is_missing None = true
is_missing (Some (Package false)) = true
is_missing (Some _) = false

-- a name with this meaning is an operand with a value: a variable, `true`, `false` or `nil`
abbrev pub is_value : Meaning → Bool
is_value (Local n) = true
is_value (Global n) = true
is_value (Truth b) = true
is_value Nil = true
is_value _ = false

-- the name is declared and names a struct
abbrev pub is_struct : Option Meaning → Bool
is_struct (Some (Struct n)) = true
is_struct _ = false

-- the same, or it names `int` or `bool`
abbrev pub is_type : Option Meaning → Bool
is_type (Some (Struct n)) = true
is_type (Some (Basic b)) = true
is_type _ = false
