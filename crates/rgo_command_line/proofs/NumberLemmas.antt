-- A numeral that `parse` refuses writes a number that no 64-bit word holds, so it is out of the range of every option.
use Rattle.std.proofs.Common.{◌≡◌, ◌∙◌, sym, ap, ◌<◌, ◌≤◌, ◌^◌, ◌&&◌, ℕ, Bool, true, false, true≢false, List, [], ◌∷◌}
use Rattle.std.proofs.Common.{length, None, Err, refl, arith, nat_lt, inl, inr}
use Rattle.std.specs.List.{list_all}
use Rattle.std.specs.Char.{is_ascii_digit}
use Rattle.std.specs.Str.{all_ascii_digits}
use Rattle.std.specs.Str.Parse.{ParsesUnsigned, digits_value}
use Rattle.std.proofs.lemmas.Bool.{cases_lt}
use Rattle.std.proofs.lemmas.Bool.Decides.{nat_tests}
use Rattle.std.proofs.lemmas.Str.Parse.{numerals_by_value, parse_digits, tells_all_ascii_digits}
use Rattle.rgo_command_line.specs.Numbers.{is_numeral, numeral_value, within}

same_test : (digits : List ℕ) → list_all is_ascii_digit digits ≡ all_ascii_digits digits
same_test [] = refl
same_test (c ∷ cs) = ap (λ b. is_ascii_digit c && b) (same_test cs)

pub both : (a b : Bool) → (a && b) ≡ true → (a ≡ true) × (b ≡ true)
both true b e = (refl, e)
both false b e = absurd (true≢false (sym e))

pub too_large : {E : Type 0} (least most : ℕ) (text : List ℕ) (error : E)
    → ParsesUnsigned 64 10 text (Err error)
    → is_numeral text ≡ true
    → most < 2 ^ 64
    → within least most (numeral_value text) ≡ None
too_large least most text error parses numeral fits =
    let parts = both (nat_lt 0 (length text)) (list_all is_ascii_digit text) numeral in
    let some : 0 < length text = grind (arith, nat_tests, parts.0) in
    let fails = parse_digits (numerals_by_value (λ ds. all_ascii_digits ds ≡ true) tells_all_ascii_digits)
    64 text (Err error) parses (sym (same_test text) ∙ parts.1) in
    let past : 2 ^ 64 ≤ digits_value 10 text = elim (cases_lt (digits_value 10 text) (2 ^ 64)) [
      | inl below ↦ absurd (fails (some, below))
      | inr above ↦ above
    ] in
    grind (arith, nat_tests)
