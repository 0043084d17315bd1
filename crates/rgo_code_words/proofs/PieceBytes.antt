-- Bytes of strings are read back, and nothing else is read.
use Rattle.std.proofs.Common.{◌≡◌, ℕ, ◌+◌, ◌-◌, ◌*◌, ◌/◌, ◌%◌, ◌<◌, ◌≤◌, ◌==◌, ◌&&◌, ◌||◌, nat_lt, nat_le, Bool, true, false, true≢false, if◌then◌else◌, List, [], ◌∷◌, ◌++◌, length, drop, get_or, Some, None, refl, sym, ap, subst, ◌∙◌, arith}
use Rattle.std.specs.Option.{option_map}
use Rattle.std.proofs.lemmas.Bool.Decides.{Decides-eqb, nat_tests}
use Rattle.rgo_code_words.specs.Pieces.{hex_value, is_numbered, is_plain, if_numbered, numbered, escaped_byte, string_byte}
use Rattle.rgo_code_words.specs.Readers.{on_some}
use Rattle.rgo_code_printing.specs.Words.{hex_digit, byte_word}
use Rattle.rgo_code_words.proofs.Options.{some_same, under, after_some, mapped, either}

-- ---- digits

hex_back : (d : ℕ) → d < 16 → hex_value (hex_digit d) ≡ Some d
hex_back d l = by (nat_lt d 10) refl
  where
    by : (t : Bool) → nat_lt d 10 ≡ t → hex_value (if t then 48 + d else 87 + d) ≡ Some d
    by true e =
        let small : nat_le 48 (48 + d) && nat_le (48 + d) 57 ≡ true = grind (arith, nat_tests) in
        rw small (ap Some (omega arith))
    by false e =
        let high : nat_le 48 (87 + d) && nat_le (87 + d) 57 ≡ false = grind (arith, nat_tests) in
        let letter : nat_le 97 (87 + d) && nat_le (87 + d) 102 ≡ true = grind (arith, nat_tests) in
        rw (high, letter) (ap Some (omega arith))

record IsHex (d v : ℕ) : Type 0 where
  pub small : v < 16
  pub is : d ≡ hex_digit v

hex_is : (d v : ℕ) → hex_value d ≡ Some v → IsHex d v
hex_is d v e =
    either (nat_le 48 d && nat_le d 57) _ _ v (IsHex d v) e
    (λ t q. digit t (some_same (d - 48) v q))
    (λ q. let u = under (nat_le 97 d && nat_le d 102) _ v q in letter u.holds (some_same (d - 87) v u.is))
  where
    digit : nat_le 48 d && nat_le d 57 ≡ true → d - 48 ≡ v → IsHex d v
    digit t q =
        let low : 48 ≤ d = grind (arith, nat_tests) in
        let high : d ≤ 57 = grind (arith, nat_tests) in
        let less : nat_lt v 10 ≡ true = grind (arith, nat_tests) in
        record { small = omega (arith, q); is = rw less (omega (arith, q)) }

    letter : nat_le 97 d && nat_le d 102 ≡ true → d - 87 ≡ v → IsHex d v
    letter t q =
        let low : 97 ≤ d = grind (arith, nat_tests) in
        let high : d ≤ 102 = grind (arith, nat_tests) in
        let less : nat_lt v 10 ≡ false = grind (arith, nat_tests) in
        record { small = omega (arith, q); is = rw less (omega (arith, q)) }

-- ---- bytes that are printed by their number

numbered_back : (b : ℕ) → b < 256 → is_numbered b ≡ true → numbered (hex_digit (b / 16)) (hex_digit (b % 16)) ≡ Some b
numbered_back b l n =
    let whole : b / 16 * 16 + b % 16 ≡ b = omega arith in
    ap (λ o. on_some o (λ h. on_some (hex_value (hex_digit (b % 16))) (λ k. if_numbered (h * 16 + k)))) (hex_back (b / 16) (omega (arith, l)))
    ∙ ap (λ o. on_some o (λ k. if_numbered (b / 16 * 16 + k))) (hex_back (b % 16) (omega arith))
    ∙ ap if_numbered whole
    ∙ ap (λ t. if t then Some b else None) n

record IsNumbered (h l b : ℕ) : Type 0 where
  pub small : b < 256
  pub passes : is_numbered b ≡ true
  pub high : h ≡ hex_digit (b / 16)
  pub low : l ≡ hex_digit (b % 16)

numbered_is : (h l b : ℕ) → numbered h l ≡ Some b → IsNumbered h l b
numbered_is h l b e =
    let a = after_some (hex_value h) _ b e in
    let c = after_some (hex_value l) _ b a.is in
    let u = under (is_numbered (a.value * 16 + c.value)) _ b c.is in
    let same = some_same (a.value * 16 + c.value) b u.is in
    let x = hex_is h a.value a.was in
    let y = hex_is l c.value c.was in
    let quotient : a.value ≡ b / 16 = omega (arith, same, x.small, y.small) in
    let rest : c.value ≡ b % 16 = omega (arith, same, x.small, y.small) in
    record {
      small = omega (arith, same, x.small, y.small);
      passes = ap is_numbered (sym same) ∙ u.holds;
      high = x.is ∙ ap hex_digit quotient;
      low = y.is ∙ ap hex_digit rest;
    }

-- ---- bytes at the front

-- which of the forms a byte has
data Form (b : ℕ) : Type 0 where
  quote : b ≡ 34 → Form b
  slash : b ≡ 92 → Form b
  newline : b ≡ 10 → Form b
  number : is_numbered b ≡ true → byte_word b ≡ 92 ∷ 120 ∷ hex_digit (b / 16) ∷ hex_digit (b % 16) ∷ [] → Form b
  plain : is_plain b ≡ true → byte_word b ≡ b ∷ [] → Form b

form : (b : ℕ) → Form b
form b = by (b == 34) refl (b == 92) refl (b == 10) refl (nat_lt b 32 || nat_lt 126 b) refl
  where
    by : (p : Bool) → (b == 34) ≡ p → (q : Bool) → (b == 92) ≡ q → (r : Bool) → (b == 10) ≡ r
        → (s : Bool) → nat_lt b 32 || nat_lt 126 b ≡ s → Form b
    by true e q f r g s h = quote ((Decides-eqb b 34).0 e)
    by false e true f r g s h = slash ((Decides-eqb b 92).0 f)
    by false e false f true g s h = newline ((Decides-eqb b 10).0 g)
    by false e false f false g true h =
        number (rw (g, h) refl) (rw (e, f, g, h) refl)
    by false e false f false g false h =
        plain (grind (arith, nat_tests)) (rw (e, f, g, h) refl)

-- what is read at the front: a byte, and how many bytes it takes
pub byte_back : (b : ℕ) (rest : List ℕ) → b < 256 → string_byte (byte_word b ++ rest) ≡ Some (b, length (byte_word b))
byte_back b rest l = by (form b)
  where
    by : Form b → string_byte (byte_word b ++ rest) ≡ Some (b, length (byte_word b))
    by (quote e) = subst (λ x. string_byte (byte_word x ++ rest) ≡ Some (x, length (byte_word x))) (sym e) refl
    by (slash e) = subst (λ x. string_byte (byte_word x ++ rest) ≡ Some (x, length (byte_word x))) (sym e) refl
    by (newline e) = subst (λ x. string_byte (byte_word x ++ rest) ≡ Some (x, length (byte_word x))) (sym e) refl
    by (number n w) =
        subst (λ ds. string_byte (ds ++ rest) ≡ Some (b, length ds)) (sym w)
        (ap (option_map (λ b. (b, 4))) (numbered_back b l n))
    by (plain p w) =
        subst (λ ds. string_byte (ds ++ rest) ≡ Some (b, length ds)) (sym w)
        (ap (λ t. if t then Some (b, 1) else (if b == 92 then escaped_byte (get_or rest 0 0) (get_or rest 1 0) (get_or rest 2 0) else None)) p)

-- what was read at the front
pub record ByteIs (bytes : List ℕ) (r : ℕ × ℕ) : Type 0 where
  pub small : r.0 < 256
  pub cut : bytes ≡ byte_word r.0 ++ drop r.1 bytes
  pub within : r.1 ≤ length bytes
  pub some : 0 < r.1

plain_word : (b : ℕ) → is_plain b ≡ true → byte_word b ≡ b ∷ []
plain_word b p =
    let e : (b == 34) ≡ false = grind (arith, nat_tests) in
    let f : (b == 92) ≡ false = grind (arith, nat_tests) in
    let g : (b == 10) ≡ false = grind (arith, nat_tests) in
    let h : nat_lt b 32 || nat_lt 126 b ≡ false = grind (arith, nat_tests) in
    rw (e, f, g, h) refl

number_word : (b : ℕ) → is_numbered b ≡ true → byte_word b ≡ 92 ∷ 120 ∷ hex_digit (b / 16) ∷ hex_digit (b % 16) ∷ []
number_word b p =
    let e : (b == 34) ≡ false = grind (arith, nat_tests) in
    let f : (b == 92) ≡ false = grind (arith, nat_tests) in
    let g : (b == 10) ≡ false = grind (arith, nat_tests) in
    let h : nat_lt b 32 || nat_lt 126 b ≡ true = grind (arith, nat_tests) in
    rw (e, f, g, h) refl

-- the first bytes, where they are not 0
record FirstBytes (bytes : List ℕ) (n : ℕ) (front : List ℕ) : Type 0 where
  pub cut : bytes ≡ front ++ drop n bytes
  pub within : n ≤ length bytes

one_at : (bytes : List ℕ) → 0 < get_or bytes 0 0 → FirstBytes bytes 1 (get_or bytes 0 0 ∷ [])
one_at [] l = absurd (omega (arith, l))
one_at (a ∷ bytes) l = record { cut = refl; within = omega arith }

two_at : (bytes : List ℕ) → 0 < get_or bytes 1 0 → FirstBytes bytes 2 (get_or bytes 0 0 ∷ get_or bytes 1 0 ∷ [])
two_at [] l = absurd (omega (arith, l))
two_at (a ∷ []) l = absurd (omega (arith, l))
two_at (a ∷ b ∷ bytes) l = record { cut = refl; within = omega arith }

four_at : (bytes : List ℕ) → 0 < get_or bytes 3 0
    → FirstBytes bytes 4 (get_or bytes 0 0 ∷ get_or bytes 1 0 ∷ get_or bytes 2 0 ∷ get_or bytes 3 0 ∷ [])
four_at [] l = absurd (omega (arith, l))
four_at (a ∷ []) l = absurd (omega (arith, l))
four_at (a ∷ b ∷ []) l = absurd (omega (arith, l))
four_at (a ∷ b ∷ c ∷ []) l = absurd (omega (arith, l))
four_at (a ∷ b ∷ c ∷ d ∷ bytes) l = record { cut = refl; within = omega arith }

read_at : (bytes front : List ℕ) (b n : ℕ) → b < 256 → 0 < n → FirstBytes bytes n front → byte_word b ≡ front
    → ByteIs bytes (b, n)
read_at bytes front b n l m f w = record {
  small = l;
  cut = f.cut ∙ ap (λ t. t ++ drop n bytes) (sym w);
  within = f.within;
  some = m;
}

hex_some : (d : ℕ) → 0 < hex_digit d
hex_some d = by (nat_lt d 10)
  where
    by : (t : Bool) → 0 < (if t then 48 + d else 87 + d)
    by true = omega arith
    by false = omega arith

two_front : (bytes : List ℕ) (k b : ℕ) → get_or bytes 0 0 ≡ 92 → get_or bytes 1 0 ≡ k → 0 < k → b < 256
    → byte_word b ≡ 92 ∷ k ∷ [] → ByteIs bytes (b, 2)
two_front bytes k b e f l small w =
    read_at bytes (get_or bytes 0 0 ∷ get_or bytes 1 0 ∷ []) b 2 small (omega arith) (two_at bytes (omega (arith, f, l)))
    (w ∙ ap (λ x. x ∷ k ∷ []) (sym e) ∙ ap (λ x. get_or bytes 0 0 ∷ x ∷ []) (sym f))

escaped_is : (bytes : List ℕ) (r : ℕ × ℕ) → get_or bytes 0 0 ≡ 92
    → escaped_byte (get_or bytes 1 0) (get_or bytes 2 0) (get_or bytes 3 0) ≡ Some r → ByteIs bytes r
escaped_is bytes r e s =
    let kind = get_or bytes 1 0 in
    either (kind == 34 || kind == 92) _ _ r (ByteIs bytes r) s
    (λ t q. subst (ByteIs bytes) (some_same (kind, 2) r q) (itself kind refl t)) (λ s.
    either (kind == 110) _ _ r (ByteIs bytes r) s
    (λ t q. subst (ByteIs bytes) (some_same (10, 2) r q)
    (two_front bytes 110 10 e ((Decides-eqb kind 110).0 t) (omega arith) (omega arith) refl)) (λ s.
    let u = under (kind == 120) _ r s in
    let m = mapped (λ b. (b, 4)) (numbered (get_or bytes 2 0) (get_or bytes 3 0)) r u.is in
    let n = numbered_is (get_or bytes 2 0) (get_or bytes 3 0) m.value m.was in
    subst (ByteIs bytes) m.is (four kind refl m.value ((Decides-eqb kind 120).0 u.holds) n)))
  where
    itself : (kind : ℕ) → get_or bytes 1 0 ≡ kind → (kind == 34 || kind == 92) ≡ true → ByteIs bytes (kind, 2)
    itself kind f t = by (kind == 34) refl (kind == 92) refl t
      where
        by : (p : Bool) → (kind == 34) ≡ p → (q : Bool) → (kind == 92) ≡ q → (p || q) ≡ true → ByteIs bytes (kind, 2)
        by true g q h t =
            let is = (Decides-eqb kind 34).0 g in
            subst (λ k. ByteIs bytes (k, 2)) (sym is) (two_front bytes 34 34 e (f ∙ is) (omega arith) (omega arith) refl)
        by false g true h t =
            let is = (Decides-eqb kind 92).0 h in
            subst (λ k. ByteIs bytes (k, 2)) (sym is) (two_front bytes 92 92 e (f ∙ is) (omega arith) (omega arith) refl)
        by false g false h t = absurd (true≢false (sym t))

    four : (kind : ℕ) → get_or bytes 1 0 ≡ kind → (b : ℕ) → kind ≡ 120 → IsNumbered (get_or bytes 2 0) (get_or bytes 3 0) b
        → ByteIs bytes (b, 4)
    four kind f b is n =
        let some : 0 < get_or bytes 3 0 = subst (λ x. 0 < x) (sym n.low) (hex_some (b % 16)) in
        read_at bytes (get_or bytes 0 0 ∷ get_or bytes 1 0 ∷ get_or bytes 2 0 ∷ get_or bytes 3 0 ∷ []) b 4 n.small (omega arith)
        (four_at bytes some)
        (number_word b n.passes ∙ ap (λ x. x ∷ 120 ∷ hex_digit (b / 16) ∷ hex_digit (b % 16) ∷ []) (sym e)
        ∙ ap (λ x. get_or bytes 0 0 ∷ x ∷ hex_digit (b / 16) ∷ hex_digit (b % 16) ∷ []) (sym (f ∙ is))
        ∙ ap (λ x. get_or bytes 0 0 ∷ get_or bytes 1 0 ∷ x ∷ hex_digit (b % 16) ∷ []) (sym n.high)
        ∙ ap (λ x. get_or bytes 0 0 ∷ get_or bytes 1 0 ∷ get_or bytes 2 0 ∷ x ∷ []) (sym n.low))

pub byte_is : (bytes : List ℕ) (r : ℕ × ℕ) → string_byte bytes ≡ Some r → ByteIs bytes r
byte_is bytes r e =
    let first = get_or bytes 0 0 in
    either (is_plain first) _ _ r (ByteIs bytes r) e
    (λ t q. subst (ByteIs bytes) (some_same (first, 1) r q) (itself first refl t)) (λ e.
    let u = under (first == 92) _ r e in
    escaped_is bytes r ((Decides-eqb first 92).0 u.holds) u.is)
  where
    itself : (first : ℕ) → get_or bytes 0 0 ≡ first → is_plain first ≡ true → ByteIs bytes (first, 1)
    itself first f t =
        let low : 32 ≤ first = grind (arith, nat_tests) in
        let high : first ≤ 126 = grind (arith, nat_tests) in
        read_at bytes (get_or bytes 0 0 ∷ []) first 1 (omega (arith, high)) (omega arith) (one_at bytes (omega (arith, f, low)))
        (plain_word first t ∙ ap (λ x. x ∷ []) (sym f))
