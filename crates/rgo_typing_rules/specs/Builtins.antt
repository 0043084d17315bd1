-- The builtin functions, one row each: the name, the rules that a call may break, and what the call does. `new` and
-- `make` are not among them: they take a type, so the grammar has forms of their own for them.
use Rattle.std.specs.Prelude.{ℕ, Bool, false, not, ◌&&◌, ◌==◌, List, [], ◌∷◌, length, Option, Some, None, is_none}
use Rattle.std.specs.Prelude.{if◌then◌else◌, bytes_eq, codes}
use Rattle.rgo_typed.specs.declared.actions.Action.{Action}
use Rattle.rgo_typed.specs.declared.actions.Action.TheVariants as action
use Rattle.rgo_typed.specs.declared.types.Type.{«Type»}
use Rattle.rgo_typed.specs.declared.types.Base.TheVariants.{Int}
use Rattle.rgo_typing_rules.specs.Types.{plain}
use Rattle.rgo_typing_rules.specs.Shapes.{Shape, is_slice_shape, is_chan_shape, has_nil, has_pointer}
use Rattle.rgo_typing_rules.specs.declared.builtins.Builtin.{Builtin}
use Rattle.rgo_typing_rules.specs.declared.builtins.Builtin.TheVariants.{Len, Close, Println}
use Rattle.rgo_typing_rules.specs.declared.roles.Role.{Role}
use Rattle.rgo_typing_rules.specs.declared.rules.Rule.{Rule}
use Rattle.rgo_typing_rules.specs.declared.rules.Rule.TheVariants as rule
use Rattle.rgo_typing_rules.specs.Nodes.{wants_value}

-- those whose names are predeclared: each program has them
abbrev pub predeclared : List Builtin
predeclared = Len ∷ Close ∷ []

-- those of the package `fmt`
abbrev pub of_fmt : List Builtin
of_fmt = Println ∷ []

-- its name in a program's text, as bytes; that of Println without `fmt.`
abbrev pub builtin_name : Builtin → List ℕ
builtin_name Len = codes "len"
builtin_name Close = codes "close"
builtin_name Println = codes "Println"

-- the type of its value; a call without a value, and no other, may be a statement
abbrev pub result_of : Builtin → Option «Type»
result_of Len = Some (plain Int)
result_of Close = None
result_of Println = None

-- what a call does to its arguments; a print is a statement of its own
abbrev pub action_of : Builtin → Option Action
action_of Len = Some action.Len
action_of Close = Some action.Close
action_of Println = None

-- there is a first argument, and it fails the test
abbrev pub first_is_no : (Shape → Bool) → List Shape → Bool
first_is_no test [] = false
first_is_no test (s ∷ args) = not (test s)

-- whether a call with these arguments breaks the rule
abbrev pub call_breaks : Rule → Builtin → Role → List Shape → Bool
call_breaks rule.NotIndexable Len r args = first_is_no is_slice_shape args
call_breaks rule.ArgCount Len r args = not (length args == 1)
call_breaks rule.ArgCount Close r args = not (length args == 1)
call_breaks rule.NotChannel Close r args = first_is_no is_chan_shape args
call_breaks rule.BareNil Println r args = has_nil args
call_breaks rule.PrintType Println r args = has_pointer args
call_breaks rule.NoResult b r args = is_none (result_of b) && wants_value r
call_breaks _ b r args = false

-- the one of these with this name
abbrev pub named : List Builtin → List ℕ → Option Builtin
named [] name = None
named (b ∷ bs) name = if bytes_eq name (builtin_name b) then Some b else named bs name
