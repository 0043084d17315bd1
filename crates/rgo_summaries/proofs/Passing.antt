-- What is passed in a call, one member after another, and what an instruction joins by itself.
use Rattle.std.proofs.Common.{◌≡◌, ◌⊎◌, inl, inr, ⊎_elim, ℕ, suc, ◌<◌, ◌+◌, Option, Some, None, length, slice_get, refl, sym, ap, ◌∙◌, subst, arith}
use Rattle.std.specs.Option.{option_map}
use Rattle.std.proofs.lemmas.Bool.{cases_lt}
use Rattle.std.proofs.lemmas.Option.{none-some, same_Some}
use Rattle.rgo_tac.specs.declared.regions.Member.{Member}
use Rattle.rgo_tac.specs.declared.regions.Member.TheVariants.{Variable, Result, Global}
use Rattle.rgo_tac.specs.Code.{TacFn}
use Rattle.rgo_classes.specs.Joins.{IsPointerLike}
use Rattle.rgo_classes.specs.Labels.{member_index}
use Rattle.rgo_classes.proofs.Labelled.{variable_below}
use Rattle.rgo_summaries.specs.declared.beginning.Calling.{Calling}
use Rattle.rgo_summaries.specs.declared.progress.Progress.{Progress}
use Rattle.rgo_summaries.specs.Beginning.{Of, OwnHere, PassedFor, Passing, PassingBelow, own_in}
use Rattle.rgo_summaries.specs.Calls.{CallParts, member, passed_member}
use Rattle.rgo_summaries.specs.Kinds.{width_of}
use Rattle.rgo_summaries.specs.Progress.{AddsJoins, Two}
use Rattle.rgo_summaries.specs.Views.{parts_of_call}
use Rattle.rgo_summaries.proofs.Adding.{adds_more, adds_none}

-- pointer-like members have nodes
pub like_below : (f : TacFn) (m : Member) → IsPointerLike f m → member_index m < length f.variables + 2
like_below f Global like = omega arith
like_below f Result like = omega arith
like_below f (Variable v) like = omega (arith, variable_below f.variables v like)

pub member_number : (m : Member) → member (member_index m) ≡ m
member_number Global = refl
member_number Result = refl
member_number (Variable v) = ap member two
  where
    two : v + 2 ≡ suc (suc v)
    two = omega arith

-- ---- one member

-- as the code finds it: the number of what is passed
number_passed : (o : Option Member) (k : ℕ) → option_map member_index o ≡ Some k → (m : Member) × (o ≡ Some m)
    × (k ≡ member_index m)
number_passed None k e = absurd (none-some k e)
number_passed (Some m) k e = (m, refl, sym (same_Some (member_index m) k e))

module _ (c : Calling) (number : ℕ) where
  abbrev call : CallParts
  call = parts_of_call c.call

  module _ (actual : ℕ) (e : Some actual ≡ option_map member_index (passed_member call number)) where
    abbrev Found : Type 0
    Found = (m : Member) × (passed_member call number ≡ Some m) × (actual ≡ member_index m)

    found : Found
    found = number_passed (passed_member call number) actual (sym e)

    like_found : IsPointerLike c.function.now (member actual) → IsPointerLike c.function.now found.0
    like_found like = subst (IsPointerLike c.function.now) (ap member found.2 ∙ member_number found.0) like

    pub is_passing : number < width_of c.callee.now → IsPointerLike c.callee.now (member number)
        → IsPointerLike c.function.now (member actual) → (f x y : ℕ) → Two c.caller (c.base + number) actual f x y
        → Passing c number f x y
    is_passing l callee like f x y t = (
      t.0,
      record {
        actual = found.0;
        outer = (omega (arith, l), callee);
        passes = found.1;
        pointer_like = like_found like;
        x_is = t.1;
        y_is = t.2 ∙ found.2;
      },
    )

    pub only_passing : (f x y : ℕ) → Passing c number f x y → Two c.caller (c.base + number) actual f x y
    only_passing f x y p =
        let same : found.0 ≡ p.1.actual = same_Some found.0 p.1.actual (sym found.1 ∙ p.1.passes) in
        (p.0, p.1.x_is, p.1.y_is ∙ ap member_index (sym same) ∙ sym found.2)

    -- it is not passed if one of the two is not pointer-like
    pub not_passing : (IsPointerLike c.callee.now (member number) → IsPointerLike c.function.now (member actual) → ⊥)
        → (f x y : ℕ) → Passing c number f x y → ⊥
    not_passing n f x y p =
        let same : found.0 ≡ p.1.actual = same_Some found.0 p.1.actual (sym found.1 ∙ p.1.passes) in
        n p.1.outer.1
        (subst (IsPointerLike c.function.now) (sym (ap member found.2 ∙ member_number found.0 ∙ same)) p.1.pointer_like)

-- the same joins by another name
pub adds_as : (p q : Progress) (These Those : ℕ → ℕ → ℕ → Type 0) → ((f x y : ℕ) → These f x y → Those f x y)
    → ((f x y : ℕ) → Those f x y → These f x y) → AddsJoins p q These → AddsJoins p q Those
adds_as p q These Those to from a =
    adds_more p p q (λ f x y. ⊥) These Those (adds_none p (λ f x y. ⊥) (λ f x y h. h)) a
    (λ f x y h. inr (from f x y h)) (λ f x y h. absurd h) to

-- ---- all members

module _ (p q r : Progress) (c : Calling) (n : ℕ) (one : AddsJoins p q (PassingBelow c n))
    (other : AddsJoins q r (Passing c n)) where
  abbrev More : ℕ → ℕ → ℕ → Type 0
  More = PassingBelow c (n + 1)

  at_number : (f x y k : ℕ) → k ≡ n → f ≡ c.caller
      → PassedFor c.function.now (parts_of_call c.call) c.callee.now c.base k x y → Passing c n f x y
  at_number f x y k e fn h = (fn, subst (λ i. PassedFor c.function.now (parts_of_call c.call) c.callee.now c.base i x y) e h)

  split : (f x y : ℕ) → More f x y → PassingBelow c n f x y ⊎ Passing c n f x y
  split f x y h = ⊎_elim
      (λ l. inl (h.0, (h.1.0, l, h.1.2)))
      (λ l. inr (at_number f x y h.1.0 (omega (arith, l, h.1.1)) h.0 h.1.2))
      (cases_lt h.1.0 n)

  pub passing_more : AddsJoins p r More
  passing_more =
      adds_more p q r (PassingBelow c n) (Passing c n) More one other split
      (λ f x y h. (h.0, (h.1.0, omega (arith, h.1.1), h.1.2)))
      (λ f x y h. (h.0, (n, omega arith, h.1)))

-- ---- an instruction by itself

module _ (n : ℕ) (f : TacFn) (at : ℕ) (a b : Member) (e : own_in f (slice_get f.body at) ≡ Some (a, b)) where
  pub is_own : (g x y : ℕ) → Two n (member_index a) (member_index b) g x y → Of n (OwnHere f at) g x y
  is_own g x y t = (t.0, record { one = a; other = b; joined = e; x_is = t.1; y_is = t.2 })

  pub only_own : (g x y : ℕ) → Of n (OwnHere f at) g x y → Two n (member_index a) (member_index b) g x y
  only_own g x y h =
      let same : (h.1.one, h.1.other) ≡ (a, b) = same_Some (h.1.one, h.1.other) (a, b) (sym h.1.joined ∙ e) in (
        h.0,
        h.1.x_is ∙ ap (λ (p : Member × Member). member_index p.0) same,
        h.1.y_is ∙ ap (λ (p : Member × Member). member_index p.1) same,
      )
