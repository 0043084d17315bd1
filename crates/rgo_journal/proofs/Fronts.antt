-- Numbers before a byte are read back, and nothing else is read.
use Rattle.std.proofs.Common.{◌≡◌, ℕ, ◌+◌, ◌-◌, ◌<◌, ◌^◌, ◌==◌, nat_lt, Bool, true, false, if◌then◌else◌, List, [], ◌∷◌, ◌++◌, length, take, drop, get_or, Option, Some, None, refl, sym, ap, ◌∙◌, subst, arith, decimal, length-append, length-drop}
use Rattle.std.specs.List.{position_or_len, before_first, after_first}
use Rattle.std.specs.Option.{option_map}
use Rattle.std.specs.Str.{bytes_eq}
use Rattle.std.proofs.lemmas.Bool.Decides.{Decides-eqb, Decides-ltb}
use Rattle.std.proofs.lemmas.List.{take_all, take_at, drop_at, drop-drop, take-append-drop}
use Rattle.std.proofs.lemmas.List.Elements.{All-head, All-tail}
use Rattle.std.proofs.lemmas.List.Sums.{split_at_first, passes_at_first}
use Rattle.std.proofs.lemmas.Slice.Eq.{bytes_eq-Decides}
use Rattle.rgo_code_words.specs.Readers.{on_some, read_number}
use Rattle.rgo_code_words.proofs.Lacks.{Lacks, decimal_lacks}
use Rattle.rgo_code_words.proofs.Numerals.{number_back, number_sound}
use Rattle.rgo_code_words.proofs.Options.{some_same, not_none}
use Rattle.rgo_journal.specs.Reading.{after_front, number_to, two_numbers, three_numbers}

-- ---- what follows a front

pub after_back : (front rest : List ℕ) → after_front front (front ++ rest) ≡ Some rest
after_back front rest =
    ap (λ b. if b then Some (drop (length front) (front ++ rest)) else None)
    ((bytes_eq-Decides (take (length front) (front ++ rest)) front).1 (take_at front rest (length front) refl))
    ∙ ap Some (drop_at front rest (length front) refl)

pub after_here : (front bytes : List ℕ) → bytes_eq front (take (length front) bytes) ≡ true
    → Some (take (length bytes - length front) (drop (length front) bytes)) ≡ after_front front bytes
after_here front bytes e =
    let same = (bytes_eq-Decides (take (length front) bytes) front).1
    (sym ((bytes_eq-Decides front (take (length front) bytes)).0 e)) in
    ap Some (take_all (length bytes - length front) (drop (length front) bytes) (omega (arith, length-drop (length front) bytes)))
    ∙ sym (ap (λ b. if b then Some (drop (length front) bytes) else None) same)

pub after_sound : (front bytes rest : List ℕ) → after_front front bytes ≡ Some rest → bytes ≡ front ++ rest
after_sound front bytes rest e = by (bytes_eq (take (length front) bytes) front) refl e
  where
    by : (b : Bool) → bytes_eq (take (length front) bytes) front ≡ b
        → (if b then Some (drop (length front) bytes) else None) ≡ Some rest → bytes ≡ front ++ rest
    by true same q =
        sym (take-append-drop (length front) bytes)
        ∙ ap (λ t. t ++ drop (length front) bytes) ((bytes_eq-Decides (take (length front) bytes) front).0 same)
        ∙ ap (λ t. front ++ t) (some_same (drop (length front) bytes) rest q)
    by false same q = absurd (not_none rest q)

-- ---- the number before a byte

abbrev with_rest : List ℕ → ℕ → ℕ × List ℕ
with_rest rest n = (n, rest)

abbrev with_one : ℕ → ℕ × List ℕ → ℕ × ℕ × List ℕ
with_one a x = (a, x.0, x.1)

abbrev with_two : ℕ → ℕ × ℕ × List ℕ → ℕ × ℕ × ℕ × List ℕ
with_two a x = (a, x.0, x.1, x.2)

first_at : (c : ℕ) (w rest : List ℕ) → Lacks c w → position_or_len (λ b. b == c) (w ++ c ∷ rest) ≡ length w
first_at c [] rest l = rw ((Decides-eqb c c).1 refl) refl
first_at c (b ∷ w) rest l =
    let tail = first_at c w rest (All-tail (λ b. (b == c) ≡ false) b w l) in
    rw (All-head (λ b. (b == c) ≡ false) b w l) (ap (λ n. 1 + n) tail ∙ omega arith)

before_it : (c : ℕ) (w rest : List ℕ) → Lacks c w → before_first (λ b. b == c) (w ++ c ∷ rest) ≡ w
before_it c w rest l =
    ap (λ n. take n (w ++ c ∷ rest)) (first_at c w rest l) ∙ take_at w (c ∷ rest) (length w) refl

after_it : (c : ℕ) (w rest : List ℕ) → Lacks c w → after_first (λ b. b == c) (w ++ c ∷ rest) ≡ rest
after_it c w rest l =
    ap (λ k. drop (k + 1) (w ++ c ∷ rest)) (first_at c w rest l)
    ∙ sym (drop-drop 1 (length w) (w ++ c ∷ rest)) ∙ ap (drop 1) (drop_at w (c ∷ rest) (length w) refl)

longer : (w v : List ℕ) (c : ℕ) → length w < length (w ++ c ∷ v)
longer w v c = omega (arith, length-append w (c ∷ v))

pub number_to_back : (c n : ℕ) (rest : List ℕ) → c < 48 → n < 2 ^ 32 → number_to c (decimal n ++ c ∷ rest) ≡ Some (n, rest)
number_to_back c n rest low small =
    let lacks = decimal_lacks n c (omega (arith, small)) low in
    let bytes = decimal n ++ c ∷ rest in
    let at : position_or_len (λ b. b == c) bytes < length bytes =
    omega (arith, first_at c (decimal n) rest lacks, longer (decimal n) rest c) in
    ap (λ t. if t then option_map (with_rest (after_first (λ b. b == c) bytes)) (read_number (before_first (λ b. b == c) bytes)) else None)
    ((Decides-ltb (position_or_len (λ b. b == c) bytes) (length bytes)).1 at)
    ∙ ap (λ w. option_map (with_rest (after_first (λ b. b == c) bytes)) (read_number w)) (before_it c (decimal n) rest lacks)
    ∙ ap (λ w. option_map (with_rest w) (read_number (decimal n))) (after_it c (decimal n) rest lacks)
    ∙ ap (option_map (with_rest rest)) (number_back n small)

pub record NumberTo (c : ℕ) (bytes : List ℕ) (n : ℕ) (rest : List ℕ) : Type 0 where
  pub cut : bytes ≡ decimal n ++ c ∷ rest
  pub small : n < 2 ^ 32

pub number_to_sound : (c : ℕ) (bytes : List ℕ) (n : ℕ) (rest : List ℕ) → number_to c bytes ≡ Some (n, rest)
    → NumberTo c bytes n rest
number_to_sound c bytes n rest e = by (nat_lt (position_or_len (λ b. b == c) bytes) (length bytes)) refl e
  where
    read : (o : Option ℕ) → read_number (before_first (λ b. b == c) bytes) ≡ o
        → option_map (with_rest (after_first (λ b. b == c) bytes)) o ≡ Some (n, rest)
        → position_or_len (λ b. b == c) bytes < length bytes → NumberTo c bytes n rest
    read None r q l = absurd (not_none (n, rest) q)
    read (Some k) r q l =
        let word = number_sound (before_first (λ b. b == c) bytes) k r in
        let same = some_same (k, after_first (λ b. b == c) bytes) (n, rest) q in
        record {
          cut = split_at_first (λ b. b == c) bytes 0 l
              ∙ ap (λ b. before_first (λ b. b == c) bytes ++ b ∷ after_first (λ b. b == c) bytes)
              ((Decides-eqb (get_or bytes (position_or_len (λ b. b == c) bytes) 0) c).0 (passes_at_first (λ b. b == c) bytes 0 l))
              ∙ ap (λ w. w ++ c ∷ after_first (λ b. b == c) bytes) word.0
              ∙ ap (λ x. decimal x.0 ++ c ∷ x.1) same;
          small = subst (λ m. m < 2 ^ 32) (ap (λ x. x.0) same) word.1;
        }

    by : (t : Bool) → nat_lt (position_or_len (λ b. b == c) bytes) (length bytes) ≡ t
        → (if t then option_map (with_rest (after_first (λ b. b == c) bytes)) (read_number (before_first (λ b. b == c) bytes)) else None)
        ≡ Some (n, rest) → NumberTo c bytes n rest
    by true t q = read (read_number (before_first (λ b. b == c) bytes)) refl q
        ((Decides-ltb (position_or_len (λ b. b == c) bytes) (length bytes)).0 t)
    by false t q = absurd (not_none (n, rest) q)

-- ---- two and three numbers

pub two_back : (a b : ℕ) (rest : List ℕ) → a < 2 ^ 32 → b < 2 ^ 32
    → two_numbers (decimal a ++ 32 ∷ (decimal b ++ 10 ∷ rest)) ≡ Some (a, b, rest)
two_back a b rest k l =
    ap (λ o. on_some o (λ a. option_map (with_one a.0) (number_to 10 a.1)))
    (number_to_back 32 a (decimal b ++ 10 ∷ rest) (omega arith) k)
    ∙ ap (option_map (with_one a)) (number_to_back 10 b rest (omega arith) l)

pub three_back : (a b c : ℕ) (rest : List ℕ) → a < 2 ^ 32 → b < 2 ^ 32 → c < 2 ^ 32
    → three_numbers (decimal a ++ 32 ∷ (decimal b ++ 32 ∷ (decimal c ++ 10 ∷ rest))) ≡ Some (a, b, c, rest)
three_back a b c rest k l m =
    ap (λ o. on_some o (λ a. option_map (with_two a.0) (two_numbers a.1)))
    (number_to_back 32 a (decimal b ++ 32 ∷ (decimal c ++ 10 ∷ rest)) (omega arith) k)
    ∙ ap (option_map (with_two a)) (two_back b c rest l m)

pub record TwoNumbers (bytes : List ℕ) (a b : ℕ) (rest : List ℕ) : Type 0 where
  pub cut : bytes ≡ decimal a ++ 32 ∷ (decimal b ++ 10 ∷ rest)
  pub first : a < 2 ^ 32
  pub second : b < 2 ^ 32

pub two_sound : (bytes : List ℕ) (a b : ℕ) (rest : List ℕ) → two_numbers bytes ≡ Some (a, b, rest) → TwoNumbers bytes a b rest
two_sound bytes a b rest e = by (number_to 32 bytes) refl e
  where
    then_last : (k : ℕ) (v : List ℕ) (o : Option (ℕ × List ℕ)) → number_to 32 bytes ≡ Some (k, v) → number_to 10 v ≡ o
        → option_map (with_one k) o ≡ Some (a, b, rest) → TwoNumbers bytes a b rest
    then_last k v None p q r = absurd (not_none (a, b, rest) r)
    then_last k v (Some x) p q r =
        let first = number_to_sound 32 bytes k v p in
        let second = number_to_sound 10 v x.0 x.1 q in
        subst (λ y. TwoNumbers bytes y.0 y.1 y.2) (some_same (k, x.0, x.1) (a, b, rest) r) (record {
          cut = first.cut ∙ ap (λ w. decimal k ++ 32 ∷ w) second.cut;
          first = first.small;
          second = second.small;
        })

    by : (o : Option (ℕ × List ℕ)) → number_to 32 bytes ≡ o
        → on_some o (λ a. option_map (with_one a.0) (number_to 10 a.1)) ≡ Some (a, b, rest)
        → TwoNumbers bytes a b rest
    by None p q = absurd (not_none (a, b, rest) q)
    by (Some x) p q = then_last x.0 x.1 (number_to 10 x.1) p refl q

pub record ThreeNumbers (bytes : List ℕ) (a b c : ℕ) (rest : List ℕ) : Type 0 where
  pub cut : bytes ≡ decimal a ++ 32 ∷ (decimal b ++ 32 ∷ (decimal c ++ 10 ∷ rest))
  pub first : a < 2 ^ 32
  pub second : b < 2 ^ 32
  pub third : c < 2 ^ 32

pub three_sound : (bytes : List ℕ) (a b c : ℕ) (rest : List ℕ) → three_numbers bytes ≡ Some (a, b, c, rest)
    → ThreeNumbers bytes a b c rest
three_sound bytes a b c rest e = by (number_to 32 bytes) refl e
  where
    then_others : (k : ℕ) (v : List ℕ) (o : Option (ℕ × ℕ × List ℕ)) → number_to 32 bytes ≡ Some (k, v) → two_numbers v ≡ o
        → option_map (with_two k) o ≡ Some (a, b, c, rest) → ThreeNumbers bytes a b c rest
    then_others k v None p q r = absurd (not_none (a, b, c, rest) r)
    then_others k v (Some x) p q r =
        let first = number_to_sound 32 bytes k v p in
        let others = two_sound v x.0 x.1 x.2 q in
        subst (λ y. ThreeNumbers bytes y.0 y.1 y.2 y.3) (some_same (k, x.0, x.1, x.2) (a, b, c, rest) r) (record {
          cut = first.cut ∙ ap (λ w. decimal k ++ 32 ∷ w) others.cut;
          first = first.small;
          second = others.first;
          third = others.second;
        })

    by : (o : Option (ℕ × List ℕ)) → number_to 32 bytes ≡ o
        → on_some o (λ a. option_map (with_two a.0) (two_numbers a.1)) ≡ Some (a, b, c, rest)
        → ThreeNumbers bytes a b c rest
    by None p q = absurd (not_none (a, b, c, rest) q)
    by (Some x) p q = then_others x.0 x.1 (two_numbers x.1) p refl q
