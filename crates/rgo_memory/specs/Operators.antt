-- The results of operators. An operator returns nil for values that it does not take, which no typed program passes to it.
use Rattle.std.specs.Prelude.{Bool, true, false, not, ℤ, pos, int_lt, int_le, int_rem, ◌==◌, if◌then◌else◌}
use Rattle.std.specs.Int.{w64, int_wrapping_add, int_wrapping_sub, int_wrapping_mul, int_wrapping_div, int_wrapping_neg}
use Rattle.std.specs.Ordering.{int_eq}
use Rattle.std.specs.Prelude.{Result, Ok, Err}
use Rattle.rgo_ast.specs.declared.ops.BinaryOp.{BinaryOp}
use Rattle.rgo_ast.specs.declared.ops.BinaryOp.TheVariants.{Mul, Div, Rem, Add, Sub, Eq, Ne, Lt, Le, Gt, Ge}
use Rattle.rgo_memory.specs.declared.values.Value.{Value}
use Rattle.rgo_memory.specs.declared.values.Value.TheVariants as value
use Rattle.rgo_memory.specs.declared.traps.Trap.{Trap}
use Rattle.rgo_memory.specs.declared.traps.Trap.TheVariants.{DivideZero}

-- `==` and `!=`, from whether the values are equal
abbrev pub is_equal : BinaryOp → Bool → Value
is_equal Eq same = value.Bool same
is_equal Ne same = value.Bool (not same)
is_equal _ same = value.Nil

-- the operator does not trap, and its result is this int
abbrev pub int_result : ℤ → Result Value Trap
int_result z = Ok (value.Int z)

-- the same for a truth value
abbrev pub truth : Bool → Result Value Trap
truth b = Ok (value.Bool b)

-- the result z of a division by y, whatever z is if y is 0
abbrev pub checked_quotient : ℤ → ℤ → Result Value Trap
checked_quotient y z = if int_eq y (pos 0) then Err DivideZero else int_result z

-- A quotient and a remainder are truncated towards zero. A remainder needs no wrapping, since it is nearer to zero than the divisor; of
-- the quotients only that of the least integer and -1 wraps.
abbrev pub on_ints : BinaryOp → ℤ → ℤ → Result Value Trap
on_ints Add x y = int_result (int_wrapping_add w64 x y)
on_ints Sub x y = int_result (int_wrapping_sub w64 x y)
on_ints Mul x y = int_result (int_wrapping_mul w64 x y)
on_ints Div x y = checked_quotient y (int_wrapping_div w64 x y)
on_ints Rem x y = checked_quotient y (int_rem x y)
on_ints Lt x y = truth (int_lt x y)
on_ints Le x y = truth (int_le x y)
on_ints Gt x y = truth (int_lt y x)
on_ints Ge x y = truth (int_le y x)
on_ints op x y = Ok (is_equal op (int_eq x y))

-- whether two truth values are equal
abbrev pub same_bool : Bool → Bool → Bool
same_bool true b = b
same_bool false b = not b

-- Pointers, slices and channels are equal if they are one object. `&&` and `||` are not here: they may leave their right operand out,
-- so they are statements of control.
abbrev pub binary_of : BinaryOp → Value → Value → Result Value Trap
binary_of op (value.Int x) (value.Int y) = on_ints op x y
binary_of op (value.Bool a) (value.Bool b) = Ok (is_equal op (same_bool a b))
binary_of op (value.Object m) (value.Object n) = Ok (is_equal op (m == n))
binary_of op value.Nil value.Nil = Ok (is_equal op true)
binary_of op value.Nil (value.Object n) = Ok (is_equal op false)
binary_of op (value.Object m) value.Nil = Ok (is_equal op false)
binary_of op _ _ = Ok value.Nil

-- `-x`; it wraps for the least integer, whose negation is itself
abbrev pub negated_value : Value → Value
negated_value (value.Int x) = value.Int (int_wrapping_neg w64 x)
negated_value _ = value.Nil

-- `!b`; nil for what is not a truth value
abbrev pub inverted : Value → Value
inverted (value.Bool b) = value.Bool (not b)
inverted _ = value.Nil

-- `x == nil`
abbrev pub nil_test : Value → Value
nil_test value.Nil = value.Bool true
nil_test (value.Object n) = value.Bool false
nil_test _ = value.Nil
