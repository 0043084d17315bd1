-- Numbers in decimal digits.
use Rattle.std.specs.Prelude.{◌&&◌, ℕ, Bool, List, Option, Some, None, length, if◌then◌else◌, nat_le, nat_lt}
use Rattle.std.specs.Prelude.{option_and_then}
use Rattle.std.specs.List.{list_all}
use Rattle.std.specs.Char.{is_ascii_digit}
use Rattle.std.specs.Str.Parse.{digits_value}

-- one or more decimal digits
abbrev pub is_numeral : List ℕ → Bool
is_numeral text = nat_lt 0 (length text) && list_all is_ascii_digit text

-- the number that the text writes, if it is one
abbrev pub numeral_value : List ℕ → Option ℕ
numeral_value text = if is_numeral text then Some (digits_value 10 text) else None

-- the number, if it is from `least` to `most`
abbrev pub within : ℕ → ℕ → Option ℕ → Option ℕ
within least most = option_and_then (λ n. if nat_le least n && nat_le n most then Some n else None)
