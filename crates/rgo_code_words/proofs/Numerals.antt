-- Numbers are read back, and nothing else is read.
use Rattle.std.proofs.Common.{◌≡◌, ◌≢◌, ℕ, ◌<◌, ◌^◌, Bool, true, false, true≢false, ◌&&◌, List, Option, Some, None, if◌then◌else◌, refl, sym, ap, ◌∙◌, subst, arith, decimal}
use Rattle.std.specs.Str.{bytes_eq, IsUtf8}
use Rattle.std.specs.Str.Parse.{digits_value}
use Rattle.std.proofs.lemmas.Bool.Decides.{Decides-ltb}
use Rattle.std.proofs.lemmas.Fmt.{decimal_is_IsNumeral, IsAscii-decimal}
use Rattle.std.proofs.lemmas.Str.{IsUtf8-from_ascii}
use Rattle.std.proofs.lemmas.Slice.Eq.{bytes_eq-Decides}
use Rattle.rgo_code_words.specs.Readers.{if_printed, is_small, read_number}
use Rattle.rgo_code_words.proofs.Options.{some_same, not_none}

-- what is read is printed so, and fits
pub printed : {A : Type 0} (fits : A → Bool) (print : A → List ℕ) (word : List ℕ) (a b : A)
    → if_printed fits print word a ≡ Some b → (a ≡ b) × (fits a ≡ true) × (print a ≡ word)
printed fits print word a b e = by (fits a) refl (bytes_eq (print a) word) refl e
  where
    by : (x : Bool) → fits a ≡ x → (y : Bool) → bytes_eq (print a) word ≡ y → (if x && y then Some a else None) ≡ Some b
        → (a ≡ b) × (fits a ≡ true) × (print a ≡ word)
    by true f true p q = (some_same a b q, f, (bytes_eq-Decides (print a) word).0 p)
    by true f false p q = absurd (not_none b q)
    by false f y p q = absurd (not_none b q)

pub printed_back : {A : Type 0} (fits : A → Bool) (print : A → List ℕ) (a : A) → fits a ≡ true
    → if_printed fits print (print a) a ≡ Some a
printed_back fits print a f =
    ap (λ x. if x && bytes_eq (print a) (print a) then Some a else None) f
    ∙ ap (λ y. if y then Some a else None) ((bytes_eq-Decides (print a) (print a)).1 refl)

-- ---- numbers

pub number_back : (k : ℕ) → k < 2 ^ 32 → read_number (decimal k) ≡ Some k
unfolding read_number
number_back k l =
    ap (if_printed is_small decimal (decimal k)) (decimal_is_IsNumeral k (omega (arith, l))).1
    ∙ printed_back is_small decimal k ((Decides-ltb k (2 ^ 32)).1 l)

pub number_sound : (word : List ℕ) (k : ℕ) → read_number word ≡ Some k → (word ≡ decimal k) × (k < 2 ^ 32)
unfolding read_number
number_sound word k e =
    let p = printed is_small decimal word (digits_value 10 word) k e in
    (sym p.2 ∙ ap decimal p.0, subst (λ n. n < 2 ^ 32) p.0 ((Decides-ltb (digits_value 10 word) (2 ^ 32)).0 p.1))

-- a word that is not a small number
pub number_none : (word : List ℕ) → ((k : ℕ) → k < 2 ^ 32 → word ≢ decimal k) → read_number word ≡ None
number_none word nowhere = by (read_number word) refl
  where
    by : (o : Option ℕ) → read_number word ≡ o → o ≡ None
    by None e = refl
    by (Some k) e = let s = number_sound word k e in absurd (nowhere k s.1 s.0)

-- what a guess is worth

pub number_here : (word : List ℕ) (n : ℕ) → n < 2 ^ 32 → bytes_eq (decimal n) word ≡ true → Some n ≡ read_number word
number_here word n l e = sym (subst (λ w. read_number w ≡ Some n) ((bytes_eq-Decides (decimal n) word).0 e) (number_back n l))

pub number_elsewhere : (word : List ℕ) (n : ℕ) → ((k : ℕ) → k < 2 ^ 32 → word ≡ decimal k → Some n ≡ Some k)
    → bytes_eq (decimal n) word ≡ false → None ≡ read_number word
number_elsewhere word n only e = sym (number_none word nowhere)
  where
    nowhere : (k : ℕ) → k < 2 ^ 32 → word ≢ decimal k
    nowhere k l q =
        let same : decimal n ≡ word = ap decimal (some_same n k (only k l q)) ∙ sym q in
        true≢false (sym ((bytes_eq-Decides (decimal n) word).1 same) ∙ e)

pub number_nowhere : (word : List ℕ) → ((k : ℕ) → k < 2 ^ 32 → word ≡ decimal k → ◌≡◌ {A = Option ℕ} None (Some k))
    → None ≡ read_number word
number_nowhere word none = sym (number_none word (λ k l q. not_none k (none k l q)))

-- bytes that are not UTF-8 are not a number
pub number_is_text : (word : List ℕ) → ¬ (IsUtf8 word) → None ≡ read_number word
number_is_text word binary = sym (number_none word is_text)
  where
    is_text : (k : ℕ) → k < 2 ^ 32 → word ≢ decimal k
    is_text k l q = binary (subst IsUtf8 (sym q) (IsUtf8-from_ascii (decimal k) (IsAscii-decimal k (omega (arith, l)))))
