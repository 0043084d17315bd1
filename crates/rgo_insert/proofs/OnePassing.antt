-- The rules on calls and starts leave one list of what is passed.
use Rattle.std.proofs.Common.{◌≡◌, ◌<◌, ◌≤◌, ◌+◌, ℕ, zero, suc, List, [], ◌∷◌, length, Option, Some, None, slice_get, refl, sym, ap, ◌∙◌, subst, arith}
use Rattle.std.specs.Prelude.{is_some}
use Rattle.std.specs.Option.{option_map}
use Rattle.std.proofs.lemmas.Option.{same_Some, none-some, slice_get_within}
use Rattle.rgo_tac.specs.declared.regions.Class.{Class}
use Rattle.rgo_tac.specs.declared.regions.Class.TheVariants.{Name}
use Rattle.rgo_tac.specs.declared.regions.Member.TheVariants.{Variable}
use Rattle.rgo_summaries.specs.Calls.{CallParts, member, passed_member}
use Rattle.rgo_summaries.proofs.Outer.{some_get}
use Rattle.rgo_code.specs.ClassRules.{IsPassedFor, PassesClasses}
use Rattle.rgo_code.specs.Code.{CodeFn, Slot}
use Rattle.rgo_code.specs.Names.{class_of, member_class, region_parameters, slot_class}
use Rattle.rgo_insert.specs.Passing.{formal_classes}
use Rattle.rgo_insert.proofs.Alike.{AreAlike, same_class, same_regions, same_result}
use Rattle.rgo_insert.proofs.Formals.{formal_is, variable_is}
use Rattle.rgo_insert.proofs.RegionNames.{name_of_one}

-- lists of one length with the same items
pub lists_same : {A : Type 0} (xs ys : List A) → length xs ≡ length ys
    → ((n : ℕ) (x y : A) → slice_get xs n ≡ Some x → slice_get ys n ≡ Some y → x ≡ y) → xs ≡ ys
lists_same [] [] e same = refl
lists_same [] (y ∷ ys) e same = absurd (omega (arith, e))
lists_same (x ∷ xs) [] e same = absurd (omega (arith, e))
lists_same (x ∷ xs) (y ∷ ys) e same =
    ap (λ z. z ∷ xs) (same 0 x y refl refl)
    ∙ ap (λ zs. y ∷ zs) (lists_same xs ys (omega (arith, e)) (λ n. same (suc n)))

-- what a call passes for the members of its callee
pub record IsCalled (callee : CodeFn) (call : CallParts) : Type 0 where
  pub arguments : length call.from ≡ callee.params
  pub params : callee.params ≤ length callee.variables
  pub target : is_some call.to ≡ is_some callee.result

some_of : {A B : Type 0} (x : Option A) (y : Option B) (b : B) → is_some x ≡ is_some y → y ≡ Some b
    → (a : A) × (x ≡ Some a)
some_of None None b e is = absurd (none-some b is)
some_of None (Some c) b e is = absurd cc
some_of (Some a) y b e is = (a, refl)

slot_there : (o : Option Slot) (k : ℕ) → slot_class o ≡ Name k → (s : Slot) × (o ≡ Some s)
slot_there None k e = absurd cc
slot_there (Some s) k e = (s, refl)

-- a member whose class has a name is passed a variable
actual_of : (callee : CodeFn) (call : CallParts) (is : IsCalled callee call) (m k : ℕ) → 0 < m → m < callee.params + 2
    → member_class callee (member m) ≡ Name k → (v : ℕ) × (passed_member call m ≡ Some (Variable v))
actual_of callee call is zero k some outer e = absurd (omega (arith, some))
actual_of callee call is (suc zero) k some outer e =
    let s = slot_there callee.result k e in
    let d = some_of call.to callee.result s.0 is.target s.1 in
    (d.0, ap (option_map Variable) d.1)
actual_of callee call is (suc (suc i)) k some outer e =
    let a = some_get call.from i (omega (arith, outer, is.arguments)) in
    (a.0, ap (option_map Variable) a.1)

-- what is passed for a member
for_member : (f callee : CodeFn) (call : CallParts) (passes : List Class) → PassesClasses f callee call.to call.from passes
    → (m v : ℕ) → m < callee.params + 2 → passed_member call m ≡ Some (Variable v)
    → IsPassedFor (region_parameters callee) passes (member_class callee (member m)) (class_of f v)
for_member f callee call passes p zero v outer e = absurd cc
for_member f callee call passes p (suc zero) v outer e = p.result v (variable_is call.to v e)
for_member f callee call passes p (suc (suc i)) v outer e =
    p.arguments i v (omega (arith, outer)) (variable_is (slice_get call.from i) v e)

-- by the class of the member
for_name : (regions passes : List Class) (c : Class) (k : ℕ) (actual : Class) → c ≡ Name k
    → IsPassedFor regions passes c actual → (p : ℕ) → slice_get regions p ≡ Some (Name k)
    → slice_get passes p ≡ Some actual
for_name regions passes c k actual e h = subst (λ x. IsPassedFor regions passes x actual) e h

module _ (f g one other : CodeFn) (call : CallParts) (like : AreAlike f g) (callees : AreAlike one other)
    (is : IsCalled one call) where
  pub one_passing : (x y : List Class) → PassesClasses f one call.to call.from x → PassesClasses g other call.to call.from y → x ≡ y
  one_passing x y px py =
      lists_same x y (px.len ∙ ap length (same_regions one other callees) ∙ sym py.len) (λ p c d at_x at_y.
      let within = slice_get_within x p c at_x in
      let region = some_get (region_parameters one) p (omega (arith, within, px.len)) in
      let n = name_of_one [] (formal_classes one) p region.0 region.1 in
      let m = formal_is one is.params n.at (Name n.name) n.here in
      let a = actual_of one call is m.number n.name m.some m.outer m.class_is in
      let in_one : slice_get (region_parameters one) p ≡ Some (Name n.name) = region.1 ∙ ap Some n.is in
      let in_other = ap (λ l. slice_get l p) (sym (same_regions one other callees)) ∙ in_one in
      let class_there : member_class other (member m.number) ≡ Name n.name =
      same_member one other callees m.number ∙ m.class_is in
      same_Some c d (
      sym at_x
      ∙ for_name (region_parameters one) x (member_class one (member m.number)) n.name (class_of f a.0) m.class_is
      (for_member f one call x px m.number a.0 m.outer a.1) p in_one
      ∙ ap Some (same_class f g like a.0)
      ∙ sym (for_name (region_parameters other) y (member_class other (member m.number)) n.name (class_of g a.0)
      class_there
      (for_member g other call y py m.number a.0 (subst (λ q. m.number < q + 2) callees.params m.outer) a.1) p in_other)
      ∙ at_y))
    where
      same_member : (h i : CodeFn) → AreAlike h i → (m : ℕ) → member_class i (member m) ≡ member_class h (member m)
      same_member h i alike zero = refl
      same_member h i alike (suc zero) = sym (same_result h i alike)
      same_member h i alike (suc (suc v)) = sym (same_class h i alike v)
