-- Words that show the values of operators. Each operator on ints is one of 64 bits in both definitions. The hard case is equality: equal
-- words of two objects mean the same object only because both are in live regions.
use Rattle.std.proofs.Common.{◌≡◌, ◌≢◌, ℕ, zero, suc, ◌/◌, ◌%◌, ◌^◌, ◌<◌, ◌≤◌, ◌==◌, ◌⊎◌, inl, inr, Bool, true, false, not, List, ◌++◌}
use Rattle.std.proofs.Common.{Some, Result, Ok, Err, refl, sym, ap, ◌∙◌, subst, arith, slice_get, ℤ, pos, negsuc, neg_ℤ}
use Rattle.std.proofs.Common.{if◌then◌else◌, int_div, int_rem, FitsSigned, w64, true≢false, mod-lt, pow_pos, div-le_self}
use Rattle.std.proofs.lemmas.Bool.Decides.{nat_tests, Decides-int_eq}
use Rattle.rgo_sound.proofs.Tests.{split}
use Rattle.std.proofs.lemmas.Int.{of_z-to_z}
use Rattle.std.proofs.lemmas.Option.{same_Some}
use Rattle.std.specs.Int.{cast_signed, cast_unsigned, int_wrapping_add, int_wrapping_sub, int_wrapping_mul, int_wrapping_div, from_bool}
use Rattle.std.specs.Ordering.{int_eq}
use lib.Signed.{mag_rem}
use mir.ValLaws as laws
use Rattle.rgo_sound.specs.Ast.declared.ops.BinaryOp.{BinaryOp}
use Rattle.rgo_sound.specs.Ast.declared.ops.BinaryOp.TheVariants as binary
use Rattle.rgo_sound.specs.Typed.declared.types.Type.{«Type»}
use Rattle.rgo_sound.specs.Typed.declared.types.Base.TheVariants as base
use Rattle.rgo_sound.specs.Typed.Types.{is_pointer_like}
use Rattle.rgo_sound.specs.WellFormed.TypeRules.{int, bool}
use Rattle.rgo_sound.specs.Memory.declared.traps.Trap.{Trap}
use Rattle.rgo_sound.specs.Memory.declared.traps.Trap.TheVariants.{DivideZero}
use Rattle.rgo_sound.specs.Memory.declared.values.Value.{Value}
use Rattle.rgo_sound.specs.Memory.declared.values.Value.TheVariants as value
use Rattle.rgo_sound.specs.Memory.Operators.{on_ints, binary_of, checked_quotient, same_bool}
use Rattle.rgo_sound.specs.Types.{HasKind}
use Rattle.rgo_sound.proofs.Places.{get_front}
use Rattle.rgo_core_frames.specs.shown.Operators.{binary_on_words, word_in, word_of}
use Rattle.rgo_core_frames.specs.shown.Words.{Shows}

-- ---- more objects

pub shows_more : (addresses more : List ℕ) (v : Value) (w : ℕ) → Shows addresses v w → Shows (addresses ++ more) v w
shows_more addresses more (value.Int z) w h = h
shows_more addresses more (value.Bool b) w h = h
shows_more addresses more value.Nil w h = h
shows_more addresses more (value.Object o) w (a, e, q) = (a, get_front addresses more o a e, q)

-- ---- ints

-- a value whose word is determined by itself
abbrev pub IsWord : Value → Type 0
IsWord (value.Int z) = FitsSigned w64 z
IsWord (value.Bool b) = Unit {0}
IsWord value.Nil = Unit {0}
IsWord (value.Object o) = ⊥

pub word_shows : (addresses : List ℕ) (v : Value) → IsWord v → Shows addresses v (word_of v)
word_shows addresses (value.Int z) f = ((laws.of_z_fits w64 z f).fits, sym (laws.to_z-of_z w64 z f))
word_shows addresses (value.Bool b) f = refl
word_shows addresses value.Nil f = refl
word_shows addresses (value.Object o) f = absurd f

signed_fits : (n : ℕ) → n < 2 ^ 64 → FitsSigned w64 (cast_signed w64 n)
signed_fits n h = laws.to_z-Fits w64 n (record { fits = h })

pub wrapped_fits : (n : ℕ) → FitsSigned w64 (cast_signed w64 (n % 2 ^ 64))
wrapped_fits n = signed_fits (n % 2 ^ 64) (mod-lt n (pow_pos 64))

unsigned_neg : (k n : ℕ) → n ≤ k → k < 2 ^ 64 → cast_unsigned w64 (neg_ℤ (pos n)) < 2 ^ 64
unsigned_neg k zero l h = pow_pos 64
unsigned_neg k (suc n) l h = omega (arith, pow_pos 64)

half_small : (n : ℕ) → n < 2 ^ 63 → suc n < 2 ^ 64
half_small n h = omega arith

div_small : (x y : ℤ) → FitsSigned w64 x → cast_unsigned w64 (int_div x y) < 2 ^ 64
div_small (pos a) (pos b) f = let l = div-le_self a b in let m = f.sfits in let p = half_small a m in omega (arith, l, p)
div_small (pos a) (negsuc b) f =
    let l = div-le_self a (suc b) in let p = half_small a f.sfits in unsigned_neg (suc a) (a / suc b) (omega (arith, l)) p
div_small (negsuc a) (pos b) f =
    let l = div-le_self (suc a) b in let p = half_small a f.sfits in unsigned_neg (suc a) (suc a / b) l p
div_small (negsuc a) (negsuc b) f =
    let l = div-le_self (suc a) (suc b) in let p = half_small a f.sfits in omega (arith, l, p)

rem_fits : (x y : ℤ) → FitsSigned w64 x → FitsSigned w64 (int_rem x y)
rem_fits x y f = laws.sfits_le (mag_rem x y) f

ok_word : (v r : Value) → IsWord v → ◌≡◌ {A = Result Value Trap} (Ok v) (Ok r) → IsWord r
ok_word v r i q = let is : v ≡ r = cc in subst IsWord is i

divided_word : (y z : ℤ) → FitsSigned w64 z → (r : Value) → checked_quotient y z ≡ Ok r → IsWord r
divided_word y z f r e = go (int_eq y (pos 0)) e
  where
    go : (b : Bool) → (if b then Err DivideZero else Ok (value.Int z)) ≡ Ok r → IsWord r
    go true q = cc
    go false q = ok_word (value.Int z) r f q

-- the value of an operator for two ints of 64 bits is such an int, or a bool
pub ints_word : (op : BinaryOp) (x y : ℤ) → FitsSigned w64 x → (r : Value) → on_ints op x y ≡ Ok r → IsWord r
ints_word binary.Add x y f r e = ok_word (value.Int (int_wrapping_add w64 x y)) r (wrapped_fits _) e
ints_word binary.Sub x y f r e = ok_word (value.Int (int_wrapping_sub w64 x y)) r (wrapped_fits _) e
ints_word binary.Mul x y f r e = ok_word (value.Int (int_wrapping_mul w64 x y)) r (wrapped_fits _) e
ints_word binary.Div x y f r e = divided_word y (int_wrapping_div w64 x y) (signed_fits _ (div_small x y f)) r e
ints_word binary.Rem x y f r e = divided_word y (int_rem x y) (rem_fits x y f) r e
ints_word binary.Lt x y f r e = ok_word (value.Bool _) r tt e
ints_word binary.Le x y f r e = ok_word (value.Bool _) r tt e
ints_word binary.Gt x y f r e = ok_word (value.Bool _) r tt e
ints_word binary.Ge x y f r e = ok_word (value.Bool _) r tt e
ints_word binary.Eq x y f r e = ok_word (value.Bool _) r tt e
ints_word binary.Ne x y f r e = ok_word (value.Bool _) r tt e
ints_word binary.And x y f r e = ok_word value.Nil r tt e
ints_word binary.Or x y f r e = ok_word value.Nil r tt e

-- ---- the values of a type

-- a value, its word, and that the word shows the value: an int
pub record IsInt (v : Value) (w : ℕ) : Type 0 where
  pub is : v ≡ value.Int (cast_signed w64 w)
  pub small : w < 2 ^ 64

pub record IsTruth (v : Value) (w : ℕ) : Type 0 where
  pub truth : Bool
  pub is : v ≡ value.Bool truth
  pub word : w ≡ from_bool truth

int_not_bool : int ≡ bool → ⊥
int_not_bool e = let x : base.Int ≡ base.Bool = ap (λ (t : «Type»). t.base) e in cc

int_not_pointer : is_pointer_like int ≡ true → ⊥
int_not_pointer e = true≢false (sym e)

bool_not_pointer : is_pointer_like bool ≡ true → ⊥
bool_not_pointer e = true≢false (sym e)

pub int_is : (kinds : List «Type») (addresses : List ℕ) (v : Value) (w : ℕ) → HasKind kinds int v → Shows addresses v w → IsInt v w
int_is kinds addresses (value.Int z) w k h = record { is = ap (λ x. value.Int x) h.1; small = h.0 }
int_is kinds addresses (value.Bool b) w k h = absurd (int_not_bool k)
int_is kinds addresses value.Nil w k h = absurd (int_not_pointer k)
int_is kinds addresses (value.Object o) w k h = absurd (int_not_pointer k.1)

pub truth_is : (kinds : List «Type») (addresses : List ℕ) (v : Value) (w : ℕ) → HasKind kinds bool v → Shows addresses v w → IsTruth v w
truth_is kinds addresses (value.Int z) w k h = absurd (int_not_bool (sym k))
truth_is kinds addresses (value.Bool b) w k h = record { truth = b; is = refl; word = h }
truth_is kinds addresses value.Nil w k h = absurd (bool_not_pointer k)
truth_is kinds addresses (value.Object o) w k h = absurd (bool_not_pointer k.1)

-- ---- equality

-- two values are equal exactly if their words are
pub record AreCompared (v w : Value) (x y : ℕ) : Type 0 where
  pub same : Bool
  pub eq : binary_of binary.Eq v w ≡ Ok (value.Bool same)
  pub ne : binary_of binary.Ne v w ≡ Ok (value.Bool (not same))
  pub words : (x == y) ≡ same

pub same_numbers : (x y : ℕ) → x ≡ y → (x == y) ≡ true
same_numbers x y e = grind (arith, nat_tests)

pub other_numbers : (x y : ℕ) → x ≢ y → (x == y) ≡ false
other_numbers x y e = grind (arith, nat_tests)

number_or_not : (x y : ℕ) → (x ≡ y) ⊎ (x ≢ y)
number_or_not zero zero = inl refl
number_or_not zero (suc y) = inr (λ e. omega (arith, e))
number_or_not (suc x) zero = inr (λ e. omega (arith, e))
number_or_not (suc x) (suc y) = go (number_or_not x y)
  where
    go : (x ≡ y) ⊎ (x ≢ y) → (suc x ≡ suc y) ⊎ (suc x ≢ suc y)
    go (inl e) = inl (ap suc e)
    go (inr n) = inr (λ e. n (omega (arith, e)))

int_same : (x y : ℕ) → x < 2 ^ 64 → y < 2 ^ 64 → int_eq (cast_signed w64 x) (cast_signed w64 y) ≡ (x == y)
int_same x y l m = go (number_or_not x y)
  where
    back : cast_signed w64 x ≡ cast_signed w64 y → x ≡ y
    back e = sym (of_z-to_z w64 x l) ∙ ap (cast_unsigned w64) e ∙ of_z-to_z w64 y m

    go : (x ≡ y) ⊎ (x ≢ y) → int_eq (cast_signed w64 x) (cast_signed w64 y) ≡ (x == y)
    go (inl e) =
        (Decides-int_eq (cast_signed w64 x) (cast_signed w64 y)).1 (ap (cast_signed w64) e) ∙ sym (same_numbers x y e)
    go (inr n) = split (int_eq (cast_signed w64 x) (cast_signed w64 y))
        (λ t. absurd (n (back ((Decides-int_eq (cast_signed w64 x) (cast_signed w64 y)).0 t))))
        (λ f. f ∙ sym (other_numbers x y n))

flags_same : (a b : Bool) → (from_bool a == from_bool b) ≡ same_bool a b
flags_same true true = refl
flags_same true false = refl
flags_same false true = refl
flags_same false false = refl

-- its operands, by their types
abbrev pub Operands : BinaryOp → Value → Value → ℕ → ℕ → Type 0
Operands binary.Eq v w x y = AreCompared v w x y
Operands binary.Ne v w x y = AreCompared v w x y
Operands op v w x y = IsInt v x × IsInt w y

module _ (addresses : List ℕ) (stands : ℕ → Type 0)
    (differ : (o p a : ℕ) → stands o → stands p → slice_get addresses o ≡ Some a → slice_get addresses p ≡ Some a → o ≡ p) where
  -- an object to which a value points is live
  abbrev pub IsStanding : Value → Type 0
  IsStanding (value.Object o) = stands o
  IsStanding _ = Unit {0}

  objects_same : (o p x y : ℕ) → stands o → stands p → Shows addresses (value.Object o) x → Shows addresses (value.Object p) y → (x == y) ≡ (o == p)
  objects_same o p x y i j (a, e, q) (b, f, r) = go (number_or_not o p)
    where
      go : (o ≡ p) ⊎ (o ≢ p) → (x == y) ≡ (o == p)
      go (inl s) =
          let ab : a ≡ b = same_Some a b (sym e ∙ ap (slice_get addresses) s ∙ f) in
          same_numbers x y (q ∙ ap suc ab ∙ sym r) ∙ sym (same_numbers o p s)
      go (inr n) =
          other_numbers x y (λ s. n (differ o p a i j e (f ∙ ap Some (let t : suc a ≡ suc b = sym q ∙ s ∙ r in omega (arith, t)))))
          ∙ sym (other_numbers o p n)

  pub compared : (kinds : List «Type») (u : «Type») (v w : Value) (x y : ℕ) → IsStanding v → IsStanding w
      → HasKind kinds u v → HasKind kinds u w → Shows addresses v x → Shows addresses w y → AreCompared v w x y
  compared kinds u (value.Int i) (value.Int j) x y sv sw k l g h =
      record { same = int_eq i j; eq = refl; ne = refl; words = sym (int_same x y g.0 h.0) ∙ (λ t. int_eq (sym g.1 t) (sym h.1 t)) }
  compared kinds u (value.Int i) (value.Bool b) x y sv sw k l g h = absurd (int_not_bool (sym k ∙ l))
  compared kinds u (value.Int i) value.Nil x y sv sw k l g h = absurd (int_not_pointer (ap is_pointer_like (sym k) ∙ l))
  compared kinds u (value.Int i) (value.Object p) x y sv sw k l g h = absurd (int_not_pointer (ap is_pointer_like (sym k) ∙ l.1))
  compared kinds u (value.Bool a) (value.Int j) x y sv sw k l g h = absurd (int_not_bool (sym l ∙ k))
  compared kinds u (value.Bool a) (value.Bool b) x y sv sw k l g h =
      record { same = same_bool a b; eq = refl; ne = refl; words = (λ t. g t == h t) ∙ flags_same a b }
  compared kinds u (value.Bool a) value.Nil x y sv sw k l g h = absurd (bool_not_pointer (ap is_pointer_like (sym k) ∙ l))
  compared kinds u (value.Bool a) (value.Object p) x y sv sw k l g h = absurd (bool_not_pointer (ap is_pointer_like (sym k) ∙ l.1))
  compared kinds u value.Nil (value.Int j) x y sv sw k l g h = absurd (int_not_pointer (ap is_pointer_like (sym l) ∙ k))
  compared kinds u value.Nil (value.Bool b) x y sv sw k l g h = absurd (bool_not_pointer (ap is_pointer_like (sym l) ∙ k))
  compared kinds u value.Nil value.Nil x y sv sw k l g h =
      record { same = true; eq = refl; ne = refl; words = same_numbers x y (g ∙ sym h) }
  compared kinds u value.Nil (value.Object p) x y sv sw k l g (b, f, r) =
      record { same = false; eq = refl; ne = refl; words = other_numbers x y (λ s. omega (arith, g, r, s)) }
  compared kinds u (value.Object o) (value.Int j) x y sv sw k l g h = absurd (int_not_pointer (ap is_pointer_like (sym l) ∙ k.1))
  compared kinds u (value.Object o) (value.Bool b) x y sv sw k l g h = absurd (bool_not_pointer (ap is_pointer_like (sym l) ∙ k.1))
  compared kinds u (value.Object o) value.Nil x y sv sw k l (a, e, q) h =
      record { same = false; eq = refl; ne = refl; words = other_numbers x y (λ s. omega (arith, h, q, s)) }
  compared kinds u (value.Object o) (value.Object p) x y sv sw k l g h =
      record { same = o == p; eq = refl; ne = refl; words = objects_same o p x y sv sw g h }

  -- ---- a binary operator

  -- it has a value that the word shows
  pub record Answers (o : Result Value Trap) (word : ℕ) : Type 0 where
    pub answer : Value
    pub is : o ≡ Ok answer
    pub shows : Shows addresses answer word

  answers_ints : (op : BinaryOp) (v w : Value) (x y word : ℕ) → IsInt v x → IsInt w y
      → word_in (on_ints op (cast_signed w64 x) (cast_signed w64 y)) ≡ Some word → Answers (binary_of op v w) word
  answers_ints op v w x y word i j e = go (on_ints op (cast_signed w64 x) (cast_signed w64 y)) refl e
    where
      is : binary_of op v w ≡ on_ints op (cast_signed w64 x) (cast_signed w64 y)
      is = λ t. binary_of op (i.is t) (j.is t)

      go : (o : Result Value Trap) → on_ints op (cast_signed w64 x) (cast_signed w64 y) ≡ o → word_in o ≡ Some word
          → Answers (binary_of op v w) word
      go (Ok r) q e = record {
        answer = r;
        is = is ∙ q;
        shows = subst (Shows addresses r) (same_Some (word_of r) word e)
            (word_shows addresses r (ints_word op (cast_signed w64 x) (cast_signed w64 y) (signed_fits x i.small) r q));
      }
      go (Err trap) q e = cc

  pub binary_answers : (op : BinaryOp) (v w : Value) (x y word : ℕ) → Operands op v w x y
      → binary_on_words op x y ≡ Some word → Answers (binary_of op v w) word
  binary_answers binary.Eq v w x y word o e = record {
    answer = value.Bool o.same;
    is = o.eq;
    shows = sym (same_Some (from_bool (x == y)) word e) ∙ ap from_bool o.words;
  }
  binary_answers binary.Ne v w x y word o e = record {
    answer = value.Bool (not o.same);
    is = o.ne;
    shows = sym (same_Some (from_bool (not (x == y))) word e) ∙ ap (λ b. from_bool (not b)) o.words;
  }
  binary_answers binary.Add v w x y word o e = answers_ints binary.Add v w x y word o.0 o.1 e
  binary_answers binary.Sub v w x y word o e = answers_ints binary.Sub v w x y word o.0 o.1 e
  binary_answers binary.Mul v w x y word o e = answers_ints binary.Mul v w x y word o.0 o.1 e
  binary_answers binary.Div v w x y word o e = answers_ints binary.Div v w x y word o.0 o.1 e
  binary_answers binary.Rem v w x y word o e = answers_ints binary.Rem v w x y word o.0 o.1 e
  binary_answers binary.Lt v w x y word o e = answers_ints binary.Lt v w x y word o.0 o.1 e
  binary_answers binary.Le v w x y word o e = answers_ints binary.Le v w x y word o.0 o.1 e
  binary_answers binary.Gt v w x y word o e = answers_ints binary.Gt v w x y word o.0 o.1 e
  binary_answers binary.Ge v w x y word o e = answers_ints binary.Ge v w x y word o.0 o.1 e
  binary_answers binary.And v w x y word o e = answers_ints binary.And v w x y word o.0 o.1 e
  binary_answers binary.Or v w x y word o e = answers_ints binary.Or v w x y word o.0 o.1 e
