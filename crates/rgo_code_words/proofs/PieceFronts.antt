-- The piece at the front of some bytes: there is at most one. A string ends at the first quote that is not escaped, and a variable at a
-- comma or at the end.
use Rattle.std.proofs.Common.{◌≡◌, ℕ, ◌+◌, ◌<◌, ◌≤◌, ◌^◌, ◌==◌, ◌≢◌, nat_lt, Bool, true, false, List, [], ◌∷◌, ◌++◌, length, take, drop, get_or, Option, Some, None, refl, sym, ap, subst, ◌∙◌, arith, append_assoc, length-drop, get_or-drop}
use Rattle.std.specs.List.{flat_map, position_or_len}
use Rattle.std.specs.Bool.{Decides}
use Rattle.std.proofs.lemmas.Bool.Decides.{Decides-eqb, Decides-ltb, not_from_Decides}
use Rattle.std.proofs.lemmas.List.{take_at, drop_all, drop-drop, take-append-drop, get_or_past}
use Rattle.std.proofs.lemmas.List.Elements.{All-head, All-tail, All-append, All-cons, All-nil}
use Rattle.std.proofs.lemmas.List.Sums.{passes_at_first}
use Rattle.rgo_typed.specs.declared.statements.Piece.{Piece}
use Rattle.rgo_typed.specs.declared.statements.Piece.TheVariants as piece
use Rattle.rgo_code_words.specs.Pieces.{string_byte, AreBytes, IsStringInside, value_list, Fronts, NoneFronts}
use Rattle.rgo_code_words.specs.Readers.{read_variable}
use Rattle.rgo_code_printing.specs.Words.{byte_word, string_word, variable_word}
use Rattle.rgo_code_words.specs.Worded.{IsSmallNumber}
use Rattle.rgo_code_words.proofs.Lacks.{Lacks, lacks_from, lettered_from}
use Rattle.rgo_code_words.proofs.ListFacts.{rest_same, flat_push, drop_here}
use Rattle.rgo_code_words.proofs.Numerals.{number_back}
use Rattle.rgo_code_words.proofs.Options.{some_same, not_none}
use Rattle.rgo_code_words.proofs.PieceBytes.{byte_back, byte_is}
use Rattle.rgo_code_words.proofs.WordsBack.{lettered_back, lettered_is}

-- ---- strings

goes_on : (b : ℕ) (s x : List ℕ) → b < 256 → string_byte (flat_map byte_word (b ∷ s) ++ x) ≡ Some (b, length (byte_word b))
goes_on b s x l =
    ap string_byte (append_assoc (byte_word b) (flat_map byte_word s) x) ∙ byte_back b (flat_map byte_word s ++ x) l

pub record Same (s t x y : List ℕ) : Type 0 where
  pub inside : s ≡ t
  pub rest : x ≡ y

same_byte : (b c m n : ℕ) → ◌≡◌ {A = Option (ℕ × ℕ)} (Some (b, m)) (Some (c, n)) → b ≡ c
same_byte b c m n e = ap (λ p. p.0) (some_same (b, m) (c, n) e)

-- the inside of a string is as long as it can be
insides_one : (s t x y : List ℕ) → flat_map byte_word s ++ x ≡ flat_map byte_word t ++ y → AreBytes s → AreBytes t
    → string_byte x ≡ None → string_byte y ≡ None → Same s t x y
insides_one [] [] x y e f g p q = record { inside = refl; rest = e }
insides_one [] (c ∷ t) x y e f g p q =
    absurd (not_none (c, length (byte_word c)) (sym p ∙ ap string_byte e ∙ goes_on c t y (All-head (λ b. b < 2 ^ 8) c t g)))
insides_one (b ∷ s) [] x y e f g p q =
    absurd (not_none (b, length (byte_word b)) (sym q ∙ ap string_byte (sym e) ∙ goes_on b s x (All-head (λ b. b < 2 ^ 8) b s f)))
insides_one (b ∷ s) (c ∷ t) x y e f g p q =
    let same : b ≡ c =
    same_byte b c (length (byte_word b)) (length (byte_word c))
    (sym (goes_on b s x (All-head (λ b. b < 2 ^ 8) b s f)) ∙ ap string_byte e ∙ goes_on c t y (All-head (λ b. b < 2 ^ 8) c t g)) in
    let rest : flat_map byte_word s ++ x ≡ flat_map byte_word t ++ y =
    rest_same (byte_word b) (flat_map byte_word s ++ x) (flat_map byte_word t ++ y)
    (sym (append_assoc (byte_word b) (flat_map byte_word s) x) ∙ e
    ∙ append_assoc (byte_word c) (flat_map byte_word t) y ∙ ap (λ d. byte_word d ++ (flat_map byte_word t ++ y)) (sym same)) in
    let more =
    insides_one s t x y rest (All-tail (λ b. b < 2 ^ 8) b s f) (All-tail (λ b. b < 2 ^ 8) c t g) p q in
    record { inside = ap (λ b. b ∷ s) same ∙ ap (λ r. c ∷ r) more.inside; rest = more.rest }

-- a string and what follows it
string_cut : (s rest : List ℕ) → string_word s ++ rest ≡ 34 ∷ (flat_map byte_word s ++ 34 ∷ rest)
string_cut s rest = ap (λ t. 34 ∷ t) (append_assoc (flat_map byte_word s) (34 ∷ []) rest)

tail_same : (a : ℕ) (x y : List ℕ) → a ∷ x ≡ a ∷ y → x ≡ y
tail_same a x y e = ap (drop 1) e

pub strings_one : (s t x y : List ℕ) → string_word s ++ x ≡ string_word t ++ y → AreBytes s → AreBytes t → Same s t x y
strings_one s t x y e f g =
    let same =
    insides_one s t (34 ∷ x) (34 ∷ y)
    (tail_same 34 _ _ (sym (string_cut s x) ∙ e ∙ string_cut t y)) f g refl refl in
    record { inside = same.inside; rest = tail_same 34 x y same.rest }

-- ---- variables

abbrev pub is_comma : ℕ → Bool
is_comma b = b == 44

-- a comma after bytes without one, or nothing
pub to_comma : (w rest : List ℕ) → Lacks 44 w → get_or rest 0 44 ≡ 44 → position_or_len is_comma (w ++ rest) ≡ length w
to_comma [] [] l e = refl
to_comma [] (b ∷ rest) l e = rw e refl
to_comma (b ∷ w) rest l e =
    let tail = to_comma w rest (All-tail (λ b. (b == 44) ≡ false) b w l) e in
    rw (All-head (λ b. (b == 44) ≡ false) b w l) (ap (λ n. 1 + n) tail ∙ omega arith)

pub variable_lacks : (v : ℕ) → IsSmallNumber v → Lacks 44 (variable_word v)
variable_lacks v s =
    lacks_from 45 44 (variable_word v) (omega arith) (lettered_from 45 118 v (omega arith) (omega arith) s)

variables_one : (a b : ℕ) → IsSmallNumber a → IsSmallNumber b → variable_word a ≡ variable_word b → a ≡ b
variables_one a b s t e =
    some_same a b (sym (number_back a s) ∙ ap read_variable e ∙ number_back b t)

record SameWord (a b : ℕ) (x y : List ℕ) : Type 0 where
  pub variable : a ≡ b
  pub rest : x ≡ y

words_one : (a b : ℕ) (x y : List ℕ) → IsSmallNumber a → IsSmallNumber b → get_or x 0 44 ≡ 44 → get_or y 0 44 ≡ 44
    → variable_word a ++ x ≡ variable_word b ++ y → SameWord a b x y
words_one a b x y s t p q e =
    let len : length (variable_word a) ≡ length (variable_word b) =
    sym (to_comma (variable_word a) x (variable_lacks a s) p) ∙ ap (position_or_len is_comma) e
    ∙ to_comma (variable_word b) y (variable_lacks b t) q in
    let word : variable_word a ≡ variable_word b =
    sym (take_at (variable_word a) x (length (variable_word a)) refl)
    ∙ ap (take (length (variable_word a))) e ∙ take_at (variable_word b) y (length (variable_word a)) (sym len) in
    record {
      variable = variables_one a b s t word;
      rest = rest_same (variable_word a) x y (e ∙ ap (λ w. w ++ y) (sym word));
    }

-- ---- pieces

pub record SameFront (p q : Piece) (v w : Option ℕ) (n m : ℕ) : Type 0 where
  pub piece : p ≡ q
  pub value : v ≡ w
  pub len : n ≡ m

same_len : (bytes : List ℕ) (n m : ℕ) → n ≤ length bytes → m ≤ length bytes → drop n bytes ≡ drop m bytes → n ≡ m
same_len bytes n m k l e = omega (arith, k, l, length-drop n bytes, length-drop m bytes, ap length e)

pub fronts_one : (bytes : List ℕ) (p q : Piece) (v w : Option ℕ) (n m : ℕ) → Fronts bytes p v n → Fronts bytes q w m
    → SameFront p q v w n m
fronts_one bytes (piece.Text s) (piece.Text t) None None n m f g =
    let same = strings_one s t (drop n bytes) (drop m bytes) (sym f.cut ∙ g.cut) f.fits g.fits in
    record { piece = ap piece.Text same.inside; value = refl; len = same_len bytes n m f.within g.within same.rest }
fronts_one bytes piece.Value piece.Value (Some a) (Some b) n m f g =
    let same = words_one a b (drop n bytes) (drop m bytes) f.small g.small f.closed g.closed (sym f.cut ∙ g.cut) in
    record { piece = refl; value = ap Some same.variable; len = same_len bytes n m f.within g.within same.rest }
fronts_one bytes (piece.Text s) piece.Value v (Some b) n m f g =
    absurd (omega (arith, ap (λ t. get_or t 0 0) (sym f.cut ∙ g.cut)))
fronts_one bytes piece.Value (piece.Text t) (Some a) w n m f g =
    absurd (omega (arith, ap (λ t. get_or t 0 0) (sym f.cut ∙ g.cut)))
fronts_one bytes (piece.Text s) q (Some a) w n m f g = absurd (omega (arith, f.values))
fronts_one bytes p (piece.Text t) v (Some b) n m f g = absurd (omega (arith, g.values))
fronts_one bytes piece.Value q None w n m f g = absurd (omega (arith, f.values))
fronts_one bytes p piece.Value v None n m f g = absurd (omega (arith, g.values))

-- ---- what is read at the front

-- one more byte of a string
pub record Inside (bytes inside : List ℕ) (at : ℕ) : Type 0 where
  pub within : at ≤ length bytes
  pub cut : bytes ≡ flat_map byte_word inside ++ drop at bytes
  pub fits : AreBytes inside

pub inside_more : (bytes xs ys rest : List ℕ) (at : ℕ) (r : ℕ × ℕ) → rest ≡ drop at bytes → string_byte rest ≡ Some r
    → ys ≡ xs ++ r.0 ∷ [] → Inside bytes xs at → Inside bytes ys (at + r.1)
inside_more bytes xs ys rest at r whole e y i =
    let b = byte_is rest r e in
    let after : drop r.1 rest ≡ drop (at + r.1) bytes = ap (drop r.1) whole ∙ drop-drop r.1 at bytes in
    record {
      within = omega (arith, b.within, ap length whole, length-drop at bytes, i.within);
      cut = i.cut ∙ ap (λ t. flat_map byte_word xs ++ t) (sym whole ∙ b.cut ∙ ap (λ t. byte_word r.0 ++ t) after)
          ∙ sym (append_assoc (flat_map byte_word xs) (byte_word r.0) (drop (at + r.1) bytes))
          ∙ ap (λ t. t ++ drop (at + r.1) bytes) (sym (ap (flat_map byte_word) y ∙ flat_push byte_word xs r.0));
      fits = subst AreBytes (sym y) (All-append (λ b. b < 2 ^ 8) xs (r.0 ∷ []) i.fits
          (All-cons (λ b. b < 2 ^ 8) r.0 [] b.small (All-nil (λ b. b < 2 ^ 8))));
    }

-- each byte of a string takes some
pub byte_some : (rest : List ℕ) (r : ℕ × ℕ) → string_byte rest ≡ Some r → (0 < r.1) × (r.1 ≤ length rest)
byte_some rest r e = let b = byte_is rest r e in (b.some, b.within)

first_byte : (bytes : List ℕ) (b : ℕ) → get_or bytes 0 0 ≡ b → 0 < b → bytes ≡ b ∷ drop 1 bytes
first_byte [] b e l = absurd (omega (arith, e, l))
first_byte (a ∷ bytes) b e l = ap (λ x. x ∷ bytes) e

module _ (bytes inside : List ℕ) (len : ℕ) (quote : get_or bytes 0 0 ≡ 34) (i : IsStringInside (drop 1 bytes) inside len) where
  rest_is : drop len (drop 1 bytes) ≡ drop (1 + len) bytes
  rest_is = drop-drop len 1 bytes

  pub string_fronts : get_or bytes (1 + len) 0 ≡ 34 → Fronts bytes (piece.Text inside) None (len + 2)
  string_fronts e =
      let long : 1 + len < length bytes = inner in
      let next : 1 + len + 1 ≡ len + 2 = omega arith in
      let after : drop len (drop 1 bytes) ≡ 34 ∷ drop (len + 2) bytes =
      rest_is ∙ drop_here bytes (1 + len) 0 long ∙ ap (λ b. b ∷ drop (1 + len + 1) bytes) e
      ∙ ap (λ k. 34 ∷ drop k bytes) next in
      record {
        cut = first_byte bytes 34 quote (omega arith) ∙ ap (λ t. 34 ∷ t) (i.cut ∙ ap (λ t. flat_map byte_word inside ++ t) after)
            ∙ sym (string_cut inside (drop (len + 2) bytes));
        within = omega (arith, long);
        fits = i.fits;
        values = refl;
        small = tt;
        closed = tt;
      }
    where
      inner : 1 + len < length bytes
      inner = by (nat_lt (1 + len) (length bytes)) (Decides-ltb (1 + len) (length bytes))
        where
          by : (t : Bool) → Decides t (1 + len < length bytes) → 1 + len < length bytes
          by true d = d.0 refl
          by false d =
              let past : length bytes ≤ 1 + len = omega (arith, not_from_Decides false d refl) in
              absurd (omega (arith, sym (get_or_past bytes (1 + len) 0 past) ∙ e))

  pub string_none : get_or bytes (1 + len) 0 ≢ 34 → NoneFronts bytes
  string_none other (piece.Text s) value n f =
      let tail : flat_map byte_word s ++ 34 ∷ drop n bytes ≡ drop 1 bytes =
      tail_same 34 _ _ (sym (string_cut s (drop n bytes)) ∙ text value f.values f ∙ first_byte bytes 34 quote (omega arith)) in
      let same = insides_one s inside (34 ∷ drop n bytes) (drop len (drop 1 bytes)) (tail ∙ i.cut) f.fits i.fits refl i.stops in
      other (sym (get_or-drop (1 + len) bytes 0 0 ∙ ap (λ k. get_or bytes k 0) (omega arith))
      ∙ ap (λ t. get_or t 0 0) (sym rest_is ∙ sym same.rest))
    where
      text : (value : Option ℕ) → length (value_list value) ≡ 0 → Fronts bytes (piece.Text s) value n
          → string_word s ++ drop n bytes ≡ bytes
      text value v f = sym f.cut
  string_none other piece.Value None n f = absurd (omega (arith, f.values))
  string_none other piece.Value (Some v) n f =
      absurd (omega (arith, sym quote ∙ ap (λ t. get_or t 0 0) f.cut))

module _ (bytes : List ℕ) (n : ℕ) (first : n ≡ position_or_len is_comma bytes) (within : n ≤ length bytes) where
  pub variable_fronts : (v : ℕ) → read_variable (take n bytes) ≡ Some v → Fronts bytes piece.Value (Some v) n
  variable_fronts v e =
      let w = lettered_is 118 (take n bytes) v e in
      record {
        cut = sym (take-append-drop n bytes) ∙ ap (λ t. t ++ drop n bytes) w.0;
        within = within;
        fits = tt;
        values = refl;
        small = w.1;
        closed = by (nat_lt n (length bytes)) (Decides-ltb n (length bytes));
      }
    where
      by : (t : Bool) → Decides t (n < length bytes) → get_or (drop n bytes) 0 44 ≡ 44
      by true d =
          let less : n < length bytes = d.0 refl in
          get_or-drop n bytes 0 44 ∙ ap (λ k. get_or bytes k 44) (omega (arith, first))
          ∙ (Decides-eqb (get_or bytes (position_or_len is_comma bytes) 44) 44).0
          (passes_at_first is_comma bytes 44 (omega (arith, less, first)))
      by false d = ap (λ t. get_or t 0 44) (drop_all n bytes (omega (arith, not_from_Decides false d refl)))

  pub variable_none : get_or bytes 0 0 ≢ 34 → read_variable (take n bytes) ≡ None → NoneFronts bytes
  variable_none other e (piece.Text s) value m f = other (ap (λ t. get_or t 0 0) f.cut)
  variable_none other e piece.Value None m f = absurd (omega (arith, f.values))
  variable_none other e piece.Value (Some v) m f =
      let w = variable_word v in
      let len : n ≡ length w =
      first ∙ ap (position_or_len is_comma) f.cut ∙ to_comma w (drop m bytes) (variable_lacks v f.small) f.closed in
      let word : take n bytes ≡ w =
      ap (take n) f.cut ∙ take_at w (drop m bytes) n (sym len) in
      not_none v (sym e ∙ ap read_variable word ∙ lettered_back 118 v f.small)
