-- Constants, their values, and the range that they keep. Every constant operation has to keep it, not only the last one: so the value
-- of a constant is the value that the same operations have at run time.
use Rattle.std.specs.Prelude.{Bool, true, false, not, ◌^◌, ℤ, pos, negsuc, ◌+ℤ◌, ◌-ℤ◌, ◌*ℤ◌, neg_ℤ, int_div, int_rem}
use Rattle.std.specs.Prelude.{nat_lt, Option, Some, None, if◌then◌else◌}
use Rattle.rgo_ast.specs.declared.ops.UnaryOp.{UnaryOp}
use Rattle.rgo_ast.specs.declared.ops.UnaryOp.TheVariants.{Plus, Minus}
use Rattle.rgo_ast.specs.declared.ops.BinaryOp.{BinaryOp}
use Rattle.rgo_ast.specs.declared.ops.BinaryOp.TheVariants.{Mul, Div, Rem, Add, Sub}
use Rattle.rgo_typing_rules.specs.Shapes.{Shape, Constant}

-- -9223372036854775808 to 9223372036854775807
abbrev pub in_range : ℤ → Bool
in_range (pos n) = nat_lt n (2 ^ 63)
in_range (negsuc n) = nat_lt n (2 ^ 63)

-- n = 0; `negsuc n` is -(n + 1), so it is never 0
abbrev pub is_zero : ℤ → Bool
is_zero (pos n) = nat_lt n 1
is_zero (negsuc n) = false

-- n < 0
abbrev pub is_below_zero : ℤ → Bool
is_below_zero (pos n) = false
is_below_zero (negsuc n) = true

abbrev pub constant_of : Shape → Option ℤ
constant_of (Constant n) = Some n
constant_of _ = None

-- the quotient or remainder `by a b`, or none if the divisor is 0: ConstZeroDivisor reports that
abbrev pub divided : (ℤ → ℤ → ℤ) → ℤ → ℤ → Option ℤ
divided by a b = if is_zero b then None else Some (by a b)

-- the value of a constant operation, if it is one
abbrev pub folded : BinaryOp → ℤ → ℤ → Option ℤ
folded Add a b = Some (a +ℤ b)
folded Sub a b = Some (a -ℤ b)
folded Mul a b = Some (a *ℤ b)
folded Div a b = divided int_div a b
folded Rem a b = divided int_rem a b
folded _ a b = None

-- the same of two operands, if both are constants
abbrev pub folded_shapes : BinaryOp → Shape → Shape → Option ℤ
folded_shapes op (Constant a) (Constant b) = folded op a b
folded_shapes op _ _ = None

-- the value of `+a` or `-a`; no other operator of one operand has a constant value
abbrev pub folded_one : UnaryOp → ℤ → Option ℤ
folded_one Plus a = Some a
folded_one Minus a = Some (neg_ℤ a)
folded_one _ a = None

-- the same of one operand, if it is a constant
abbrev pub folded_shape : UnaryOp → Shape → Option ℤ
folded_shape op (Constant a) = folded_one op a
folded_shape op _ = None

-- a constant operation has a value, and it is outside the range
abbrev pub is_out_of_range : Option ℤ → Bool
is_out_of_range None = false
is_out_of_range (Some n) = not (in_range n)

-- a value that keeps the range
abbrev pub kept : Option ℤ → Option ℤ
kept None = None
kept (Some n) = if in_range n then Some n else None
