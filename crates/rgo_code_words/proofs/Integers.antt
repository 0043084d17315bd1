-- Integers are read back, and nothing else is read.
use Rattle.std.proofs.Common.{◌≡◌, ◌≢◌, ℕ, zero, suc, ◌+◌, ◌<◌, ◌≤◌, ◌^◌, ◌%◌, ℤ, pos, negsuc, neg_ℤ, true, false, true≢false, List, [], ◌∷◌, ◌++◌, Option, Some, None, Result, Ok, Err, w64, FitsSigned, rules, refl, sym, ap, ◌∙◌, subst, arith, decimal}
use Rattle.std.specs.Bool.{Decides}
use Rattle.std.specs.Fmt.{signed_decimal}
use Rattle.std.specs.Str.{bytes_eq, IsUtf8, IsAscii}
use Rattle.std.specs.Str.Parse.{digits_value, signed_digits_value, IsNumeral, ParsesSigned, without_leading_sign}
use Rattle.std.proofs.lemmas.Bool.Decides.{Decides-ltb}
use Rattle.std.proofs.lemmas.Fmt.{decimal_is_IsNumeral, decimal_by_steps, IsAscii-decimal}
use Rattle.std.proofs.lemmas.Int.{ints}
use Rattle.std.proofs.lemmas.Str.{IsUtf8-from_ascii}
use Rattle.std.proofs.lemmas.Slice.Eq.{bytes_eq-Decides}
use Rattle.rgo_code_words.specs.Readers.{if_printed, is_int64, read_int}
use Rattle.rgo_code_words.specs.Worded.{IntFits}
use Rattle.rgo_code_words.proofs.Lacks.{differs}
use Rattle.rgo_code_words.proofs.Numerals.{printed, printed_back}
use Rattle.rgo_code_words.proofs.Options.{some_same, not_none}

-- the first byte of a number is a digit
record Begins (bytes : List ℕ) : Type 0 where
  pub first : ℕ
  pub rest : List ℕ
  pub is : bytes ≡ first ∷ rest
  pub digit : 48 ≤ first

begins : (k : ℕ) → k < 2 ^ 64 → Begins (decimal k)
begins k l =
    decimal_by_steps (λ n digits. Begins digits)
    (λ n m. record { first = 48 + n; rest = []; is = refl; digit = omega arith })
    (λ n digits m b. record {
      first = b.first;
      rest = b.rest ++ (48 + n % 10) ∷ [];
      is = ap (λ ds. ds ++ (48 + n % 10) ∷ []) b.is;
      digit = b.digit;
    })
    k l

unsigned : (b : ℕ) (rest : List ℕ) → 48 ≤ b
    → signed_digits_value 10 (b ∷ rest) ≡ pos (digits_value 10 (b ∷ rest))
unsigned b rest l = rw (differs b 45 (omega (arith, l)), differs b 43 (omega (arith, l))) refl

value_back : (z : ℤ) → IntFits z → signed_digits_value 10 (signed_decimal z) ≡ z
value_back (pos n) f =
    let b = begins n (omega (arith, f)) in
    ap (signed_digits_value 10) b.is ∙ unsigned b.first b.rest b.digit
    ∙ ap (λ ds. pos (digits_value 10 ds)) (sym b.is) ∙ ap pos (decimal_is_IsNumeral n (omega (arith, f))).1
value_back (negsuc n) f = ap (λ k. neg_ℤ (pos k)) (decimal_is_IsNumeral (suc n) (omega (arith, f))).1

int_test : (z : ℤ) → Decides (is_int64 z) (IntFits z)
int_test (pos n) = Decides-ltb n (2 ^ 63)
int_test (negsuc n) = Decides-ltb n (2 ^ 63)

pub int_back : (z : ℤ) → IntFits z → read_int (signed_decimal z) ≡ Some z
unfolding read_int
int_back z f =
    ap (if_printed is_int64 signed_decimal (signed_decimal z)) (value_back z f)
    ∙ printed_back is_int64 signed_decimal z ((int_test z).1 f)

pub int_sound : (word : List ℕ) (z : ℤ) → read_int word ≡ Some z → (word ≡ signed_decimal z) × IntFits z
unfolding read_int
int_sound word z e =
    let p = printed is_int64 signed_decimal word (signed_digits_value 10 word) z e in
    (sym p.2 ∙ ap signed_decimal p.0, subst IntFits p.0 ((int_test (signed_digits_value 10 word)).0 p.1))

pub int_none : (word : List ℕ) → ((z : ℤ) → IntFits z → word ≢ signed_decimal z) → read_int word ≡ None
int_none word nowhere = by (read_int word) refl
  where
    by : (o : Option ℤ) → read_int word ≡ o → o ≡ None
    by None e = refl
    by (Some z) e = let s = int_sound word z e in absurd (nowhere z s.1 s.0)

-- ---- what a guess is worth

pub int_here : (word : List ℕ) (z : ℤ) → IntFits z → bytes_eq (signed_decimal z) word ≡ true → Some z ≡ read_int word
int_here word z f e =
    sym (subst (λ w. read_int w ≡ Some z) ((bytes_eq-Decides (signed_decimal z) word).0 e) (int_back z f))

pub int_elsewhere : (word : List ℕ) (z : ℤ) → ((k : ℤ) → IntFits k → word ≡ signed_decimal k → Some z ≡ Some k)
    → bytes_eq (signed_decimal z) word ≡ false → None ≡ read_int word
int_elsewhere word z only e = sym (int_none word nowhere)
  where
    nowhere : (k : ℤ) → IntFits k → word ≢ signed_decimal k
    nowhere k l q =
        let same : signed_decimal z ≡ word = ap signed_decimal (some_same z k (only k l q)) ∙ sym q in
        true≢false (sym ((bytes_eq-Decides (signed_decimal z) word).1 same) ∙ e)

pub int_nowhere : (word : List ℕ) → ((k : ℤ) → IntFits k → word ≡ signed_decimal k → ◌≡◌ {A = Option ℤ} None (Some k))
    → None ≡ read_int word
int_nowhere word none = sym (int_none word (λ k l q. not_none k (none k l q)))

text_of_int : (z : ℤ) → IntFits z → IsUtf8 (signed_decimal z)
text_of_int (pos n) f = IsUtf8-from_ascii (decimal n) (IsAscii-decimal n (omega (arith, f)))
text_of_int (negsuc n) f = IsUtf8-from_ascii (45 ∷ decimal (suc n)) ascii
  where
    ascii : IsAscii (45 ∷ decimal (suc n))
    ascii zero = omega arith
    ascii (suc i) = IsAscii-decimal (suc n) (omega (arith, f)) i

-- bytes that are not UTF-8 are not a number
pub int_is_text : (word : List ℕ) → ¬ (IsUtf8 word) → None ≡ read_int word
int_is_text word binary = sym (int_none word (λ z f q. binary (subst IsUtf8 (sym q) (text_of_int z f))))

-- ---- what std reads

numeral : (z : ℤ) → IntFits z → IsNumeral 10 (without_leading_sign (signed_decimal z))
numeral (pos n) f =
    let b = begins n (omega (arith, f)) in
    let whole : without_leading_sign (b.first ∷ b.rest) ≡ b.first ∷ b.rest =
    rw (differs b.first 45 (omega (arith, b.digit)), differs b.first 43 (omega (arith, b.digit))) refl in
    subst (λ ds. IsNumeral 10 (without_leading_sign ds)) (sym b.is)
    (subst (IsNumeral 10) (b.is ∙ sym whole) (decimal_is_IsNumeral n (omega (arith, f))).0)
numeral (negsuc n) f = (decimal_is_IsNumeral (suc n) (omega (arith, f))).0

pub int_fits : (z : ℤ) → IntFits z → FitsSigned w64 z
int_fits (pos n) f = search (rules, ints)
int_fits (negsuc n) f = search (rules, ints)

pub fits_int : (z : ℤ) → FitsSigned w64 z → IntFits z
fits_int (pos n) f = omega (arith, ints)
fits_int (negsuc n) f = omega (arith, ints)

pub int_parsed : {E : Type 0} (z : ℤ) (bytes : List ℕ) (r : Result ℤ E) → ParsesSigned w64 10 bytes r → IntFits z
    → bytes ≡ signed_decimal z → r ≡ Ok z
int_parsed z bytes (Ok x) p f e = ap Ok (p.1 ∙ ap (signed_digits_value 10) e ∙ value_back z f)
int_parsed z bytes (Err x) p f e =
    absurd (p (
      subst (λ ds. IsNumeral 10 (without_leading_sign ds)) (sym e) (numeral z f),
      subst (FitsSigned w64) (sym (ap (signed_digits_value 10) e ∙ value_back z f)) (int_fits z f),
    ))
