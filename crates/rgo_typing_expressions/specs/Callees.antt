-- Expressions without their parentheses, and what a callee is.
use Rattle.std.specs.Prelude.{ℕ, Bool, true, false, ◌&&◌, List, Option, Some, None, is_none, bytes_eq}
use Rattle.rgo_ast.specs.Tree as tree
use Rattle.rgo_ast.specs.Tree.{Expr}
use Rattle.rgo_ast.specs.declared.ops.UnaryOp.{UnaryOp}
use Rattle.rgo_ast.specs.declared.ops.UnaryOp.TheVariants as unary
use Rattle.rgo_typing_rules.specs.declared.builtins.Builtin as builtin
use Rattle.rgo_typing_rules.specs.declared.builtins.Builtin.TheVariants.{Println}
use Rattle.rgo_typing_rules.specs.Builtins.{of_fmt, named, builtin_name, result_of}
use Rattle.rgo_typing_rules.specs.declared.meanings.Meaning.{Meaning}
use Rattle.rgo_typing_rules.specs.declared.meanings.Meaning.TheVariants as meaning
use Rattle.rgo_typing_rules.specs.declared.roles.Role.{Role}
use Rattle.rgo_typing_rules.specs.declared.roles.Role.TheVariants as role
use Rattle.rgo_typing_expressions.specs.declared.callees.Callee.{Callee}
use Rattle.rgo_typing_expressions.specs.declared.callees.Callee.TheVariants.{Missing, Builtin, Routine, Nothing}
use Rattle.rgo_typing_expressions.specs.Packages.{Context}
use Rattle.rgo_typing_expressions.specs.Scopes.{meaning_of}

-- without the parentheses around it
abbrev pub without_parens : Expr → Expr
without_parens (tree.Paren e at) = without_parens e
without_parens e = e

-- what a name at this place is as a callee: Missing if nothing declares it, Nothing if it is declared but cannot be called
abbrev pub named_callee : ℕ → Option Meaning → Callee
named_callee at None = Missing at
named_callee at (Some (meaning.Package false)) = Missing at
named_callee at (Some (meaning.Function n)) = Routine n
named_callee at (Some (meaning.Builtin b)) = Builtin b
named_callee at (Some _) = Nothing

-- the function of `fmt` that was looked up; Nothing if `fmt` has none of this name
abbrev pub builtin_callee : Option builtin.Builtin → Callee
builtin_callee None = Nothing
builtin_callee (Some b) = Builtin b

-- `fmt` followed by a function's name
abbrev pub package_callee : ℕ → Option Meaning → List ℕ → Callee
package_callee at (Some (meaning.Package true)) name = builtin_callee (named of_fmt name)
package_callee at (Some (meaning.Package false)) name = Missing at
package_callee at _ name = Nothing

-- `e.name` as a callee, for e without parentheses; only `fmt.name` can be called, since no field is a function
abbrev pub selected_callee : Context → Expr → List ℕ → Callee
selected_callee c (tree.Name x) name = package_callee x.at (meaning_of c x.name) name
selected_callee c _ name = Nothing

-- `callee_of` an expression without parentheses around it
abbrev pub bare_callee : Context → Expr → Callee
bare_callee c (tree.Name x) = named_callee x.at (meaning_of c x.name)
bare_callee c (tree.Select e field) = selected_callee c (without_parens e) field.name
bare_callee c _ = Nothing

-- what a callee is
abbrev pub callee_of : Context → Expr → Callee
callee_of c f = bare_callee c (without_parens f)

-- the name means `fmt`, whether or not that is imported
abbrev pub is_package : Option Meaning → Bool
is_package (Some (meaning.Package imported)) = true
is_package _ = false

-- the expression is a name, and it means `fmt`
abbrev pub names_package : Context → Expr → Bool
names_package c (tree.Name x) = is_package (meaning_of c x.name)
names_package c _ = false

-- `is_package_selector` of an expression without parentheses around it
abbrev pub bare_package_selector : Context → Expr → Bool
bare_package_selector c (tree.Select e field) = names_package c (without_parens e)
bare_package_selector c _ = false

-- `fmt` followed by a name
abbrev pub is_package_selector : Context → Expr → Bool
is_package_selector c f = bare_package_selector c (without_parens f)

-- a selector with the name `Println`, whatever its operand is
abbrev pub selects_println : Expr → Bool
selects_println (tree.Select e field) = bytes_eq field.name (builtin_name Println)
selects_println _ = false

-- the role of arguments: operands of a print, which may be strings, or values
abbrev pub role_if : Bool → Role
role_if true = role.Printed
role_if false = role.Value

-- what the arguments of this callee are checked as
abbrev pub args_role : Context → Expr → Role
args_role c f = role_if (is_package_selector c f && selects_println (without_parens f))

-- a builtin that has a value has no effect
abbrev pub has_effect : Callee → Bool
has_effect (Builtin b) = is_none (result_of b)
has_effect _ = true

-- the operator `<-`
abbrev pub is_receive : UnaryOp → Bool
is_receive unary.Receive = true
is_receive _ = false

-- `may_stand` of an expression without parentheses around it
abbrev pub bare_may_stand : Context → Expr → Bool
bare_may_stand c (tree.Called f args at) = has_effect (callee_of c f)
bare_may_stand c (tree.Unary op e at) = is_receive op
bare_may_stand c _ = false

-- a call other than of a builtin that has a value, or a receive: it may be a statement
abbrev pub may_stand : Context → Expr → Bool
may_stand c e = bare_may_stand c (without_parens e)

-- the name means a variable, local or of the package
abbrev pub is_variable : Option Meaning → Bool
is_variable (Some (meaning.Local n)) = true
is_variable (Some (meaning.Global n)) = true
is_variable _ = false

-- `is_place` of an expression without parentheses around it; whether the field exists is another rule's matter
abbrev pub bare_is_place : Context → Expr → Bool
bare_is_place c (tree.Name x) = is_variable (meaning_of c x.name)
bare_is_place c (tree.Select e field) = true
bare_is_place c (tree.Index a i at) = true
bare_is_place c _ = false

-- a variable, a field or an element
abbrev pub is_place : Context → Expr → Bool
is_place c e = bare_is_place c (without_parens e)
