-- The 34 rules on meaning. Each is a test of one node, which says whether the node breaks the rule. What a call of a builtin breaks is
-- in the table of the builtins. A node is refused for the first rule that it breaks, by number; so a test need not exclude what an
-- earlier one covers, and each can be read alone.
use Rattle.std.specs.Prelude.{ℕ, Bool, true, false, not, ◌&&◌, ◌||◌, ◌==◌, ◌^◌, nat_lt, List, [], ◌∷◌, length}
use Rattle.std.specs.List.{list_any}
use Rattle.std.specs.Prelude.{Option, Some, None, is_some, is_none, if◌then◌else◌, codes}
use Rattle.std.specs.Str.{bytes_eq}
use Rattle.rgo_ast.specs.declared.ops.UnaryOp.{UnaryOp}
use Rattle.rgo_ast.specs.declared.ops.UnaryOp.TheVariants as unary
use Rattle.rgo_ast.specs.declared.ops.BinaryOp.{BinaryOp}
use Rattle.rgo_ast.specs.declared.ops.BinaryOp.TheVariants as binary
use Rattle.rgo_typed.specs.declared.types.Type.{«Type»}
use Rattle.rgo_typing_rules.specs.Types.{element_type_of}
use Rattle.rgo_typing_rules.specs.Shapes as shape
use Rattle.rgo_typing_rules.specs.Shapes.{Shape, is_int_shape, is_bool_shape, is_slice_shape, is_chan_shape, is_nil_shape}
use Rattle.rgo_typing_rules.specs.Shapes.{fits, are_comparable, has_misfit, has_known_misfit}
use Rattle.rgo_typing_rules.specs.Constants.{is_zero, is_below_zero, is_out_of_range, folded_shapes, folded_shape}
use Rattle.rgo_typing_rules.specs.declared.meanings.Meaning.{Meaning}
use Rattle.rgo_typing_rules.specs.Meanings.{is_missing, is_value, is_struct, is_type}
use Rattle.rgo_typing_rules.specs.declared.rules.Rule.{Rule}
use Rattle.rgo_typing_rules.specs.declared.rules.Rule.TheVariants as rule
use Rattle.rgo_typing_rules.specs.Builtins.{predeclared, named, call_breaks}
use Rattle.rgo_typing_rules.specs.Nodes as node
use Rattle.rgo_typing_rules.specs.Nodes.{Node, wants_value, is_printed, is_target}

-- BadImport: a path other than `fmt`
abbrev pub bad_import : Node → Bool
bad_import (node.Import again path) = not (bytes_eq path (codes "fmt"))
bad_import _ = false

-- Redeclared: a name declared again in its block, struct, parameter list or imports
abbrev pub redeclared : Node → Bool
redeclared (node.Import again path) = again
redeclared (node.Declared again name) = again
redeclared _ = false

-- the reserved names other than those of builtins
abbrev pub reserved : List (List ℕ)
reserved =
    codes "int" ∷ codes "bool" ∷ codes "true" ∷ codes "false" ∷ codes "nil"
    ∷ codes "new" ∷ codes "make" ∷ codes "cap" ∷ codes "append" ∷ codes "fmt"
    ∷ codes "sync" ∷ codes "init" ∷ codes "_" ∷ []

-- a name that no declaration may use: that of a predeclared builtin or one of `reserved`
abbrev pub is_reserved : List ℕ → Bool
is_reserved name = is_some (named predeclared name) || list_any (λ k. bytes_eq k name) reserved

-- ReservedName: a declaration of a reserved name
abbrev pub reserved_name : Node → Bool
reserved_name (node.Declared again name) = is_reserved name
reserved_name _ = false

-- NoSuchName: a name that nothing in scope declares; `fmt` without its import
abbrev pub no_such_name : Node → Bool
no_such_name (node.TypeName m) = is_missing m
no_such_name (node.BaseName m) = is_missing m
no_such_name (node.Name r m) = is_missing m
no_such_name node.CallMissing = true
no_such_name _ = false

-- NotType: a name in a type's place that does not name a type. One that nothing declares has an earlier rule.
abbrev pub not_type : Node → Bool
not_type (node.TypeName m) = not (is_type m)
not_type (node.BaseName m) = not (is_type m)
not_type _ = false

-- StructByValue: a struct as a type without `*`
abbrev pub struct_by_value : Node → Bool
struct_by_value (node.TypeName m) = is_struct m
struct_by_value _ = false

-- PointerBase: `*X`, `new(X)` or `&X{` if X is not a struct
abbrev pub pointer_base : Node → Bool
pointer_base (node.Pointed m) = not (is_struct m)
pointer_base (node.Literal fields values) = is_none fields
pointer_base (node.Keyed fields twice values) = is_none fields
pointer_base _ = false

-- a name that is declared, but not as an operand; one that nothing declares breaks NoSuchName
abbrev pub is_no_value : Option Meaning → Bool
is_no_value None = false
is_no_value (Some m) = not (is_value m)

-- NotValue: a type, function, builtin or package as a value. The left side of `=` is not read, so there the assignment is refused.
abbrev pub not_value : Node → Bool
not_value (node.Name r m) = is_no_value m && not (is_target r)
not_value _ = false

-- StringPlace: a string that is not an argument of `fmt.Println`
abbrev pub string_place : Node → Bool
string_place (node.Text r) = not (is_printed r)
string_place _ = false

-- what an operator works on: ints, bools, or two values that can be compared
pub data Operands : Type 0 where
  ints : Operands
  bools : Operands
  alike : Operands

-- by the operator: all but `==`, `!=`, `&&` and `||` work on ints
abbrev pub operands_of : BinaryOp → Operands
operands_of binary.Eq = alike
operands_of binary.Ne = alike
operands_of binary.And = bools
operands_of binary.Or = bools
operands_of _ = ints

-- both are of slice types; SliceCompare reports this, so Mismatch leaves it out
abbrev pub are_slices : Shape → Shape → Bool
are_slices a b = is_slice_shape a && is_slice_shape b

-- both are the word `nil`; BareNil reports this
abbrev pub are_nil : Shape → Shape → Bool
are_nil a b = is_nil_shape a && is_nil_shape b

-- one of the two operands is not what the operator works on
abbrev pub lacks : Operands → Shape → Shape → Bool
lacks ints a b = not (is_int_shape a && is_int_shape b)
lacks bools a b = not (is_bool_shape a && is_bool_shape b)
lacks alike a b = not (are_slices a b || are_nil a b || are_comparable a b)

-- the same of an operator with one operand; a receive from something other than a channel breaks NotChannel
abbrev pub lacks_one : UnaryOp → Shape → Bool
lacks_one unary.Plus s = not (is_int_shape s)
lacks_one unary.Minus s = not (is_int_shape s)
lacks_one unary.Not s = not (is_bool_shape s)
lacks_one unary.Receive s = false

-- Mismatch: an operator on operands that it does not take, unless SliceCompare or BareNil says it
abbrev pub mismatch : Node → Bool
mismatch (node.Unary op s) = lacks_one op s
mismatch (node.Binary op a b) = lacks (operands_of op) a b
mismatch (node.Update op at_place a b) = lacks ints a b
mismatch _ = false

-- the operator is `==` or `!=`, and the test is true of its two operands
abbrev pub compares : (Shape → Shape → Bool) → Operands → Shape → Shape → Bool
compares test alike a b = test a b
compares test _ a b = false

-- SliceCompare: `==` or `!=` of two slices
abbrev pub slice_compare : Node → Bool
slice_compare (node.Binary op a b) = compares are_slices (operands_of op) a b
slice_compare _ = false

-- BareNil: `nil` declared without a type, printed, or compared with `nil`
abbrev pub bare_nil : Node → Bool
bare_nil (node.Binary op a b) = compares are_nil (operands_of op) a b
bare_nil (node.Define s) = is_nil_shape s
bare_nil _ = false

-- the returned value does not fit the result type; one too many or too few breaks ReturnCount
abbrev pub misfits_returned : Option «Type» → Option Shape → Bool
misfits_returned (Some t) (Some s) = not (fits t s)
misfits_returned _ _ = false

-- the right side does not fit the type of the left side; a left side without a type has broken a rule before
abbrev pub misfits_assigned : Shape → Shape → Bool
misfits_assigned (shape.Value t) s = not (fits t s)
misfits_assigned _ s = false

-- the value does not fit the elements of the channel; asked only where the first operand is a channel
abbrev pub misfits_sent : Shape → Shape → Bool
misfits_sent (shape.Value t) s = not (fits (element_type_of t) s)
misfits_sent _ s = false

-- values without field names do not fit the fields in their order; where the name is not a struct's, PointerBase is broken
abbrev pub misfits_fields : Option (List «Type») → List Shape → Bool
misfits_fields None values = false
misfits_fields (Some fields) values = has_misfit fields values

-- the same of values with field names; a field that the struct does not have has no type, and LiteralFields reports it
abbrev pub misfits_known : Option (List (Option «Type»)) → List Shape → Bool
misfits_known None values = false
misfits_known (Some fields) values = has_known_misfit fields values

-- NotAssignable: a value whose type is not the wanted one, when it is declared with a type,
-- assigned, passed, returned, sent or put in a literal; pairs past the end of the shorter list do not count
abbrev pub not_assignable : Node → Bool
not_assignable (node.Literal fields values) = misfits_fields fields values
not_assignable (node.Keyed fields twice values) = misfits_known fields values
not_assignable (node.Call r signature args) = has_misfit signature.params args
not_assignable (node.Send c s) = is_chan_shape c && misfits_sent c s
not_assignable (node.Assign at_place a b) = at_place && misfits_assigned a b
not_assignable (node.DefineAs t s) = not (fits t s)
not_assignable (node.Go signature args) = has_misfit signature.params args
not_assignable (node.Return wanted given) = misfits_returned wanted given
not_assignable _ = false

-- NotPlace: an assignment, `++` or `--` on something other than a variable, field or element
abbrev pub not_place : Node → Bool
not_place (node.Assign at_place a b) = not at_place
not_place (node.Update op at_place a b) = not at_place
not_place _ = false

-- NoSuchField: a selector on something other than a struct pointer, or of a field that the struct does not have
abbrev pub no_such_field : Node → Bool
no_such_field (node.Selector there) = not there
no_such_field _ = false

-- NotIndexable: an index or `len` on something other than a slice, or an index that is not an int
abbrev pub not_indexable : Node → Bool
not_indexable (node.Index a i) = not (is_slice_shape a && is_int_shape i)
not_indexable _ = false

-- NotCall: a callee that is neither a function nor a builtin
abbrev pub not_call : Node → Bool
not_call node.CallNothing = true
not_call _ = false

-- ArgCount: a wrong number of arguments
abbrev pub arg_count : Node → Bool
arg_count (node.Call r signature args) = not (length args == length signature.params)
arg_count (node.Go signature args) = not (length args == length signature.params)
arg_count _ = false

-- NoResult: a call without result as a value
abbrev pub no_result : Node → Bool
no_result (node.Call r signature args) = is_none signature.result_type && wants_value r
no_result _ = false

-- NotStatement: an expression statement that is neither a call nor a receive, or is `len`, `new` or `make`
abbrev pub not_statement : Node → Bool
not_statement (node.Alone may_stand) = not may_stand
not_statement _ = false

-- GoTarget: `go` of something that is not a function, or of one with a result
abbrev pub go_target : Node → Bool
go_target (node.Go signature args) = is_some signature.result_type
go_target node.GoNothing = true
go_target _ = false

-- `<-` before something other than a channel
abbrev pub receives_no_channel : UnaryOp → Shape → Bool
receives_no_channel unary.Receive s = not (is_chan_shape s)
receives_no_channel _ s = false

-- NotChannel: a send, receive or close on something other than a channel
abbrev pub not_channel : Node → Bool
not_channel (node.Unary op s) = receives_no_channel op s
not_channel (node.Send c s) = not (is_chan_shape c)
not_channel _ = false

-- NotBool: a condition that is not a bool
abbrev pub not_bool : Node → Bool
not_bool (node.Condition s) = not (is_bool_shape s)
not_bool _ = false

-- NotInt: a size that is not an int
abbrev pub not_int : Node → Bool
not_int (node.Size s) = not (is_int_shape s)
not_int _ = false

-- ConstRange: a constant outside -9223372036854775808 to 9223372036854775807
abbrev pub const_range : Node → Bool
const_range (node.Number n) = not (nat_lt n (2 ^ 63))
const_range (node.Unary op s) = is_out_of_range (folded_shape op s)
const_range (node.Binary op a b) = is_out_of_range (folded_shapes op a b)
const_range _ = false

-- a constant whose value is 0
abbrev pub is_zero_shape : Shape → Bool
is_zero_shape (shape.Constant n) = is_zero n
is_zero_shape _ = false

-- the operators with a divisor, `/` and `%`
abbrev pub divides : BinaryOp → Bool
divides binary.Div = true
divides binary.Rem = true
divides _ = false

-- ConstZeroDivisor: `/`, `%`, `/=`, `%=` by a constant 0
abbrev pub const_zero_divisor : Node → Bool
const_zero_divisor (node.Binary op a b) = divides op && is_zero_shape b
const_zero_divisor (node.Update op at_place a b) = divides op && is_zero_shape b
const_zero_divisor _ = false

-- a constant whose value is below 0
abbrev pub is_below_zero_shape : Shape → Bool
is_below_zero_shape (shape.Constant n) = is_below_zero n
is_below_zero_shape _ = false

-- ConstIndex: a constant index below 0
abbrev pub const_index : Node → Bool
const_index (node.Index a i) = is_below_zero_shape i
const_index _ = false

-- ConstSize: a constant size below 0
abbrev pub const_size : Node → Bool
const_size (node.Size s) = is_below_zero_shape s
const_size _ = false

-- there are values, and their number is not that of the fields
abbrev pub is_partial : Option (List «Type») → List Shape → Bool
is_partial None values = false
is_partial (Some fields) [] = false
is_partial (Some fields) (s ∷ values) = not (length (s ∷ values) == length fields)

-- an element of a literal by fields names a field that the struct does not have
abbrev pub has_unknown : Option (List (Option «Type»)) → Bool
has_unknown None = false
has_unknown (Some fields) = list_any is_none fields

-- LiteralFields: a literal with an unknown or repeated field name, or with values without names whose number is
-- neither 0 nor that of the fields
abbrev pub literal_fields : Node → Bool
literal_fields (node.Literal fields values) = is_partial fields values
literal_fields (node.Keyed fields twice values) = has_unknown fields || twice
literal_fields _ = false

-- PrintType: `Println` of a pointer, slice or channel; only a call of a builtin breaks it
abbrev pub print_type : Node → Bool
print_type _ = false

-- ReturnCount: a value returned by a function without a result, or none by one with a result
abbrev pub return_count : Node → Bool
return_count (node.Return None given) = is_some given
return_count (node.Return (Some t) given) = is_none given
return_count _ = false

-- MissingReturn: a function with a result whose body is not terminating, as Flow.antt of rgo_types defines that
abbrev pub missing_return : Node → Bool
missing_return (node.End has_result is_terminating) = has_result && not is_terminating
missing_return _ = false

-- LoopOutside: `break` or `continue` outside `for`
abbrev pub loop_outside : Node → Bool
loop_outside (node.Branch in_loop) = not in_loop
loop_outside _ = false

-- NoMain: no function `main` without parameters and result
abbrev pub no_main : Node → Bool
no_main (node.TextEnd has_main) = not has_main
no_main _ = false

-- whether a node other than a call of a builtin breaks the rule
abbrev pub test_of : Rule → Node → Bool
test_of rule.BadImport n = bad_import n
test_of rule.Redeclared n = redeclared n
test_of rule.ReservedName n = reserved_name n
test_of rule.NoSuchName n = no_such_name n
test_of rule.NotType n = not_type n
test_of rule.StructByValue n = struct_by_value n
test_of rule.PointerBase n = pointer_base n
test_of rule.NotValue n = not_value n
test_of rule.StringPlace n = string_place n
test_of rule.Mismatch n = mismatch n
test_of rule.SliceCompare n = slice_compare n
test_of rule.BareNil n = bare_nil n
test_of rule.NotAssignable n = not_assignable n
test_of rule.NotPlace n = not_place n
test_of rule.NoSuchField n = no_such_field n
test_of rule.NotIndexable n = not_indexable n
test_of rule.NotCall n = not_call n
test_of rule.ArgCount n = arg_count n
test_of rule.NoResult n = no_result n
test_of rule.NotStatement n = not_statement n
test_of rule.GoTarget n = go_target n
test_of rule.NotChannel n = not_channel n
test_of rule.NotBool n = not_bool n
test_of rule.NotInt n = not_int n
test_of rule.ConstRange n = const_range n
test_of rule.ConstZeroDivisor n = const_zero_divisor n
test_of rule.ConstIndex n = const_index n
test_of rule.ConstSize n = const_size n
test_of rule.LiteralFields n = literal_fields n
test_of rule.PrintType n = print_type n
test_of rule.ReturnCount n = return_count n
test_of rule.MissingReturn n = missing_return n
test_of rule.LoopOutside n = loop_outside n
test_of rule.NoMain n = no_main n

-- whether the node breaks the rule
abbrev pub breaks : Rule → Node → Bool
breaks r (node.CallBuiltin b role args) = call_breaks r b role args
breaks r n = test_of r n

-- all rules, in the order of their numbers
abbrev pub rules : List Rule
rules =
    rule.BadImport ∷ rule.Redeclared ∷ rule.ReservedName ∷ rule.NoSuchName ∷ rule.NotType
    ∷ rule.StructByValue ∷ rule.PointerBase ∷ rule.NotValue ∷ rule.StringPlace ∷ rule.Mismatch
    ∷ rule.SliceCompare ∷ rule.BareNil ∷ rule.NotAssignable ∷ rule.NotPlace ∷ rule.NoSuchField
    ∷ rule.NotIndexable ∷ rule.NotCall ∷ rule.ArgCount ∷ rule.NoResult ∷ rule.NotStatement
    ∷ rule.GoTarget ∷ rule.NotChannel ∷ rule.NotBool ∷ rule.NotInt ∷ rule.ConstRange
    ∷ rule.ConstZeroDivisor ∷ rule.ConstIndex ∷ rule.ConstSize ∷ rule.LiteralFields
    ∷ rule.PrintType ∷ rule.ReturnCount ∷ rule.MissingReturn ∷ rule.LoopOutside ∷ rule.NoMain ∷ []

-- the first of these rules that the node breaks
abbrev pub first_broken : List Rule → Node → Option Rule
first_broken [] n = None
first_broken (r ∷ rs) n = if breaks r n then Some r else first_broken rs n

-- the first rule that the node breaks
unfoldable pub broken : Node → Option Rule
broken n = first_broken rules n
