-- The kinds of a word after `run`. The proofs about `run` go by cases of `Kind`, so that they do not look at the bytes of a word.
use Rattle.std.proofs.Common.{◌≡◌, ◌∙◌, refl, sym, ap, subst, codes, cond, Bool}
use Rattle.std.proofs.Common.{true, false, true≢false, ℕ, ◌==◌, ◌+◌}
use Rattle.std.proofs.Common.{[], ◌∷◌, ◌++◌, length, nat_lt, suc, Option}
use Rattle.std.proofs.Common.{Some, None, arith, ◌⊎◌, inl, inr}
use Rattle.std.specs.Char.{is_ascii_digit}
use Rattle.std.specs.List.{list_all, before_first, after_first, position_or_len}
use Rattle.std.specs.Option.{option_and_then}
use Rattle.std.specs.Str.{bytes_eq}
use Rattle.std.proofs.lemmas.Bool.Decides.{nat_tests}
use Rattle.std.proofs.lemmas.Slice.Eq.{bytes_eq-Decides}
use Rattle.clap.specs.Words.{Text}
use Rattle.clap.specs.Lexer.{has_byte, long_of, long_of_rest, name_and_value, short_of, strip_byte}
use Rattle.rgo_command_line.specs.Numbers.{is_numeral}
use Rattle.rgo_command_line.proofs.NumberLemmas.{both}
use Rattle.rgo_command_line.proofs.StrayLemmas.{IsNoOption, IsUnknown}

-- the options of `run` that have a number
pub data Number : Type 0 where
  steps : Number
  goroutines : Number
  pages : Number
  page_words : Number
  regions : Number
  workers : Number

-- the options of `run`
pub data Name : Type 0 where
  number : Number → Name
  stats : Name

abbrev pub number_text : Number → Text
number_text steps = codes "steps"
number_text goroutines = codes "goroutines"
number_text pages = codes "pages"
number_text page_words = codes "page-words"
number_text regions = codes "regions"
number_text workers = codes "workers"

abbrev pub text_of : Name → Text
text_of (number n) = number_text n
text_of stats = codes "stats"

-- `--name`
abbrev pub dashed : Name → Text
dashed name = codes "--" ++ text_of name

-- `--name=value`
abbrev pub joined : Name → Text → Text
joined name value = codes "--" ++ (text_of name ++ (codes "=" ++ value))

-- the word is a `--`, an option's name, a name with a value, or no word of `run`
pub data Kind : Text → Type 0 where
  dashes : Kind (codes "--")
  named : (name : Name) → Kind (dashed name)
  valued : (name : Name) (value : Text) → Kind (joined name value)
  other : (x : Text) → bytes_eq x (codes "--") ≡ false → IsUnknown true x → Kind x

-- a name, and the value that follows it, if there is one
abbrev written : Text × Option Text → Text
written (name, None) = name
written (name, Some value) = name ++ 61 ∷ value

parts : (text : Text) → text ≡ written (name_and_value text)
parts [] = refl
parts (x ∷ xs) = by_first (x == 61) refl (parts xs)
  where
    by_rest : (b : Bool)
        → xs ≡ written (before_first (λ c. c == 61) xs, cond b (Some (after_first (λ c. c == 61) xs)) None)
        → x ∷ xs ≡ written (x ∷ before_first (λ c. c == 61) xs, cond b (Some (after_first (λ c. c == 61) xs)) None)
    by_rest true h = ap (λ t. x ∷ t) h
    by_rest false h = ap (λ t. x ∷ t) h

    by_first : (b : Bool) → (x == 61) ≡ b
        → xs ≡ written (name_and_value xs)
        → x ∷ xs ≡ written (name_and_value (x ∷ xs))
    by_first true e h = let is : x ≡ 61 = grind (arith, nat_tests) in rw e (ap (λ c. c ∷ xs) is)
    by_first false e h =
        let n = position_or_len (λ c. c == 61) xs in
        let one : 1 + n ≡ suc n = omega arith in
        let two : suc n + 1 ≡ suc (n + 1) = omega arith in
        rw (e, one, two) (by_rest (has_byte 61 xs) h)

stripped : (c : ℕ) (text rest : Text) → strip_byte c text ≡ Some rest → text ≡ c ∷ rest
stripped c [] rest e = cc
stripped c (x ∷ xs) rest e = by_first (x == c) refl e
  where
    by_first : (b : Bool) → (x == c) ≡ b → cond b (Some xs) None ≡ Some rest → x ∷ xs ≡ c ∷ rest
    by_first true d e = let is : x ≡ c = grind (arith, nat_tests) in let same : xs ≡ rest = cc in rw (is, same) refl
    by_first false d e = cc

-- a word with two dashes is what it is read as
long_word : (x : Text) (p : Text × Option Text) → long_of x ≡ Some p → x ≡ codes "--" ++ written p
long_word x p e = by_first (strip_byte 45 x) refl e
  where
    by_second : (y : Text) (z : Option Text) → strip_byte 45 y ≡ z
        → option_and_then long_of_rest z ≡ Some p
        → y ≡ 45 ∷ written p
    by_second y None f e = cc
    by_second y (Some []) f e = cc
    by_second y (Some (c ∷ cs)) f e =
        let is : name_and_value (c ∷ cs) ≡ p = cc in
        stripped 45 y (c ∷ cs) f ∙ ap (λ t. 45 ∷ t) (parts (c ∷ cs) ∙ ap written is)

    by_first : (y : Option Text) → strip_byte 45 x ≡ y
        → option_and_then long_of_rest (option_and_then (strip_byte 45) y) ≡ Some p
        → x ≡ 45 ∷ 45 ∷ written p
    by_first None d e = cc
    by_first (Some y) d e = stripped 45 x y d ∙ ap (λ t. 45 ∷ t) (by_second y (strip_byte 45 y) refl e)

-- the text is the name of an option, or of none
abbrev pub Named : Text → Type 0
Named text = ((name : Name) × (text_of name ≡ text)) ⊎ IsNoOption text

pub name_of_text : (text : Text) → Named text
name_of_text text =
    by_names (bytes_eq (codes "steps") text) (bytes_eq (codes "goroutines") text) (bytes_eq (codes "pages") text)
    (bytes_eq (codes "page-words") text) (bytes_eq (codes "regions") text) (bytes_eq (codes "workers") text)
    (bytes_eq (codes "stats") text) refl refl refl refl refl refl refl
  where
    is : (name : Name) → bytes_eq (text_of name) text ≡ true → Named text
    is name e = inl (name, (bytes_eq-Decides (text_of name) text).0 e)

    by_names : (a b c d f g h : Bool)
        → bytes_eq (codes "steps") text ≡ a
        → bytes_eq (codes "goroutines") text ≡ b
        → bytes_eq (codes "pages") text ≡ c
        → bytes_eq (codes "page-words") text ≡ d
        → bytes_eq (codes "regions") text ≡ f
        → bytes_eq (codes "workers") text ≡ g
        → bytes_eq (codes "stats") text ≡ h
        → Named text
    by_names true b c d f g h ha hb hc hd hf hg hh = is (number steps) ha
    by_names false true c d f g h ha hb hc hd hf hg hh = is (number goroutines) hb
    by_names false false true d f g h ha hb hc hd hf hg hh = is (number pages) hc
    by_names false false false true f g h ha hb hc hd hf hg hh = is (number page_words) hd
    by_names false false false false true g h ha hb hc hd hf hg hh = is (number regions) hf
    by_names false false false false false true h ha hb hc hd hf hg hh = is (number workers) hg
    by_names false false false false false false true ha hb hc hd hf hg hh = is stats hh
    by_names false false false false false false false ha hb hc hd hf hg hh =
        inr (record {
          steps = ha;
          goroutines = hb;
          pages = hc;
          page_words = hd;
          regions = hf;
          workers = hg;
          stats = hh;
        })

-- the word is one of these
pub kind_of_word : (x : Text) → Kind x
kind_of_word x = by_dashes (bytes_eq x (codes "--")) refl
  where
    of_name : (name : Name) (p : Text × Option Text) → text_of name ≡ p.0 → x ≡ codes "--" ++ written p → Kind x
    of_name name (n, None) e is =
        subst Kind (ap (λ t. codes "--" ++ t) e ∙ sym is) (named name)
    of_name name (n, Some v) e is =
        subst Kind (ap (λ t. codes "--" ++ (t ++ 61 ∷ v)) e ∙ sym is) (valued name v)

    by_name : (p : Text × Option Text) → Named p.0
        → bytes_eq x (codes "--") ≡ false
        → long_of x ≡ Some p
        → Kind x
    by_name p (inl (name, e)) d l = of_name name p e (long_word x p l)
    by_name p (inr none) d l =
        other x d (λ q m. let same : p ≡ q = cc in subst (λ r. IsNoOption r.0) same none)

    by_long : (long : Option (Text × Option Text)) → long_of x ≡ long → bytes_eq x (codes "--") ≡ false → Kind x
    by_long None l d = other x d (λ q m. absurd (none q (sym l ∙ m)))
      where
        none : (q : Text × Option Text) → None ≡ Some q → ⊥
        none q m = cc
    by_long (Some p) l d = by_name p (name_of_text p.0) d l

    by_dashes : (b : Bool) → bytes_eq x (codes "--") ≡ b → Kind x
    by_dashes true d = subst Kind (sym ((bytes_eq-Decides x (codes "--")).0 d)) dashes
    by_dashes false d = by_long (long_of x) refl d

-- a numeral begins with no dash
pub record IsPlain (x : Text) : Type 0 where
  pub no_dashes : bytes_eq x (codes "--") ≡ false
  pub no_long : long_of x ≡ None
  pub no_short : short_of x ≡ None

pub numeral_is_plain : (x : Text) → is_numeral x ≡ true → IsPlain x
numeral_is_plain [] e = absurd (true≢false (sym e))
numeral_is_plain (d ∷ ds) e = by_dash (d == 45) refl
  where
    digit : is_ascii_digit d ≡ true
    digit = (both (is_ascii_digit d) (list_all is_ascii_digit ds)
        (both (nat_lt 0 (length (d ∷ ds))) (list_all is_ascii_digit (d ∷ ds)) e).1).0

    by_dash : (b : Bool) → (d == 45) ≡ b → IsPlain (d ∷ ds)
    by_dash true f =
        let is : d ≡ 45 = grind (arith, nat_tests) in
        absurd (true≢false (sym digit ∙ ap is_ascii_digit is))
    by_dash false f = record { no_dashes = rw f refl; no_long = rw f refl; no_short = rw f refl }
