-- Members that callers see, by their numbers and in the order of a summary.
use Rattle.std.proofs.Common.{◌≡◌, ◌⊎◌, ⊎_elim, ℕ, zero, suc, ◌<◌, ◌+◌, List, [], ◌∷◌, ◌++◌, length, Some, slice_get, refl, sym, ap, ◌∙◌, arith}
use Rattle.std.proofs.lemmas.Option.{same_Some, slice_get_within}
use Rattle.std.proofs.lemmas.Bool.{cases_lt}
use Rattle.rgo_tac.specs.declared.regions.Class.{Class}
use Rattle.rgo_tac.specs.declared.regions.Class.TheVariants as class
use Rattle.rgo_tac.specs.declared.regions.Member.{Member}
use Rattle.rgo_tac.specs.declared.regions.Member.TheVariants.{Variable, Result}
use Rattle.rgo_tac.specs.Code.{TacFn}
use Rattle.rgo_classes.specs.declared.classes.Summary.{Summary}
use Rattle.rgo_classes.specs.Classes.{variables_before, outer_members}
use Rattle.rgo_summaries.specs.Calls.{member}
use Rattle.rgo_summaries.specs.Families.{outer_classes}
use Rattle.rgo_summaries.specs.Names.{class_at}

-- ---- lists with one more item

pub get_left : {X : Type 0} (xs ys : List X) (k : ℕ) → k < length xs → slice_get (xs ++ ys) k ≡ slice_get xs k
get_left [] ys k l = absurd (omega (arith, l))
get_left (x ∷ xs) ys zero l = refl
get_left (x ∷ xs) ys (suc k) l = get_left xs ys k (omega (arith, l))

pub get_last : {X : Type 0} (xs : List X) (y : X) → slice_get (xs ++ y ∷ []) (length xs) ≡ Some y
get_last [] y = refl
get_last (x ∷ xs) y = get_last xs y

-- a number below one more is below it, or it is the last
pub below_or_last : (n k : ℕ) → k < n + 1 → (k < n) ⊎ (k ≡ n)
below_or_last n k l = grind arith

-- ---- the members in order

pub before_after : (n k : ℕ) (after : List Member) → slice_get (variables_before n after) (n + k) ≡ slice_get after k
before_after zero k after = ap (slice_get after) (omega arith)
before_after (suc n) k after =
    let j : suc n + k ≡ n + suc k = omega arith in
    ap (slice_get (variables_before n (Variable n ∷ after))) j ∙ before_after n (suc k) (Variable n ∷ after)

pub before_get : (n k : ℕ) (after : List Member) → k < n → slice_get (variables_before n after) k ≡ Some (Variable k)
before_get zero k after l = absurd (omega (arith, l))
before_get (suc n) k after l = ⊎_elim
    (λ less. before_get n k (Variable n ∷ after) less)
    (λ more.
    let same : k ≡ n + 0 = omega (arith, l, more) in
    let plain : k ≡ n = omega (arith, l, more) in
    ap (slice_get (variables_before n (Variable n ∷ after))) same ∙ before_after n 0 (Variable n ∷ after)
    ∙ ap (λ v. Some (Variable v)) (sym plain))
    (cases_lt k n)

pub before_len : (n : ℕ) (after : List Member) → length (variables_before n after) ≡ n + length after
before_len zero after = omega arith
before_len (suc n) after =
    let e : n + suc (length after) ≡ suc n + length after = omega arith in
    before_len n (Variable n ∷ after) ∙ e

pub outer_len : (f : TacFn) → length (outer_members f) ≡ f.params + 1
outer_len f = before_len f.params (Result ∷ [])

-- ---- the place of a member's class in a summary

abbrev pub place : ℕ → ℕ → ℕ
place params zero = 0
place params (suc zero) = params
place params (suc (suc v)) = v

pub member_placed : (f : TacFn) (i : ℕ) → 0 < i → i < f.params + 2
    → slice_get (outer_members f) (place f.params i) ≡ Some (member i)
member_placed f zero p l = absurd (omega (arith, p))
member_placed f (suc zero) p l =
    let e : f.params ≡ f.params + 0 = omega arith in
    ap (slice_get (outer_members f)) e ∙ before_after f.params 0 (Result ∷ [])
member_placed f (suc (suc v)) p l = before_get f.params v (Result ∷ []) (omega (arith, l))

pub class_placed : (s : Summary) (params i : ℕ) → length s.params ≡ params → 0 < i → i < params + 2
    → slice_get (outer_classes s) (place params i) ≡ class_at s i
class_placed s params zero len p l = absurd (omega (arith, p))
class_placed s params (suc zero) len p l =
    ap (slice_get (outer_classes s)) (sym len) ∙ get_last s.params s.result
class_placed s params (suc (suc v)) len p l = get_left s.params (s.result ∷ []) v (omega (arith, l, len))

-- each place is that of some member
pub record Placed (f : TacFn) (k : ℕ) (m : Member) : Type 0 where
  pub number : ℕ
  pub some : 0 < number
  pub outer : number < f.params + 2
  pub at : k ≡ place f.params number
  pub is : m ≡ member number

pub placed : (f : TacFn) (k : ℕ) (m : Member) → slice_get (outer_members f) k ≡ Some m → Placed f k m
placed f k m e = ⊎_elim
    (λ less. record {
      number = suc (suc k);
      some = omega arith;
      outer = omega (arith, less);
      at = refl;
      is = same_Some m (Variable k) (sym e ∙ before_get f.params k (Result ∷ []) less);
    })
    (λ more.
    let within = slice_get_within (outer_members f) k m e in
    let same : k ≡ f.params + 0 = omega (arith, more, within, outer_len f) in
    let plain : k ≡ f.params = omega (arith, same) in
    record {
      number = 1;
      some = omega arith;
      outer = omega arith;
      at = plain;
      is = same_Some m Result (sym e ∙ ap (slice_get (outer_members f)) same
          ∙ before_after f.params 0 (Result ∷ []));
    })
    (cases_lt k f.params)

-- a member with a class is one that callers see
pub class_within : (s : Summary) (params i : ℕ) (c : Class) → length s.params ≡ params → class_at s i ≡ Some c
    → i < params + 2
class_within s params zero c len e = omega arith
class_within s params (suc zero) c len e = omega arith
class_within s params (suc (suc v)) c len e = omega (arith, slice_get_within s.params v c e, len)

-- and each of these has one
pub some_get : {X : Type 0} (xs : List X) (k : ℕ) → k < length xs → (x : X) × (slice_get xs k ≡ Some x)
some_get [] k l = absurd (omega (arith, l))
some_get (x ∷ xs) zero l = (x, refl)
some_get (x ∷ xs) (suc k) l = some_get xs k (omega (arith, l))

pub has_class : (s : Summary) (params i : ℕ) → length s.params ≡ params → i < params + 2 → (c : Class)
    × (class_at s i ≡ Some c)
has_class s params zero len l = (class.Global, refl)
has_class s params (suc zero) len l = (s.result, refl)
has_class s params (suc (suc v)) len l = some_get s.params v (omega (arith, l, len))
