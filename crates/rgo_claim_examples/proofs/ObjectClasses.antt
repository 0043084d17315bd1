-- The classes of `one_object`: its two pointers are in one, since one is copied to the other. A class is the least that the joins
-- force, so it has to be shown as well that nothing else joins them.
use Rattle.std.proofs.Common.{◌≡◌, ◌↔◌, ◌⊎◌, inl, inr, ℕ, zero, suc, List, [], ◌∷◌, ◌++◌, Option, Some, None, refl, sym, ap}
use Rattle.std.proofs.Common.{◌∙◌, subst, arith, true≢false, slice_get}
use Rattle.std.proofs.lemmas.Option.{same_Some}
use Rattle.rgo_tac.specs.declared.regions.Class.{Class}
use Rattle.rgo_tac.specs.declared.regions.Class.TheVariants as class
use Rattle.rgo_tac.specs.declared.regions.Member.{Member}
use Rattle.rgo_tac.specs.declared.regions.Member.TheVariants.{Variable, Result, Global}
use Rattle.rgo_tac.specs.Code.{Instr, TacFn}
use Rattle.rgo_tac.specs.Joins.{op_joins}
use Rattle.rgo_classes.specs.declared.classes.Summary.{Summary}
use Rattle.rgo_classes.specs.Classes.{AreNumbered, Describes, InOneClass, all_members, outer_members}
use Rattle.rgo_classes.specs.Joins.{IsPointerLike, Joins, OpJoins}
use Rattle.rgo_classes.specs.Same.{Chain}
use Rattle.rgo_summaries.specs.Families.{IsFamily, IsLeastFamily, JoinsNoMore, outer_classes}
use Rattle.rgo_code.specs.Code.{CodeFn}
use Rattle.rgo_code.specs.Erasure.{erased, erased_fn}
use Rattle.rgo_insert.specs.Inserted.{HasClasses, classes_in}
use Rattle.rgo_claim_examples.specs.CompiledCode.{code_with, main_with}
use Rattle.rgo_claim_examples.proofs.Checked.{all_at}

-- `main` has neither parameters nor a result
abbrev own : Summary
own = record { params = []; result = class.NoClass }

abbrev pub family : List Summary
family = own ∷ []

abbrev main : CodeFn
main = main_with (0 ∷ [])

abbrev f : TacFn
f = erased_fn main

-- ---- the summary

none_global : class.NoClass ≡ class.Global → ⊥
none_global e = cc

none_name : (k : ℕ) → class.NoClass ≡ class.Name k → ⊥
none_name k e = cc

name_global : class.Name 0 ≡ class.Global → ⊥
name_global e = cc

name_none : class.Name 0 ≡ class.NoClass → ⊥
name_none e = cc

-- the only item of a list of one
only : {X : Type 0} (x y : X) (i : ℕ) → slice_get (x ∷ []) i ≡ Some y → x ≡ y
only x y zero e = same_Some x y e
only x y (suc i) e = absurd cc

outer : (summaries : List Summary) → Describes summaries f (outer_members f) (outer_classes own)
outer summaries = record {
  len = refl;
  none =
      λ i m at. all_at
      (λ i m. (slice_get (outer_classes own) i ≡ Some class.NoClass) ↔ (IsPointerLike f m → ⊥)) (Result ∷ []) i m
      ((λ e p. true≢false (sym p), λ n. refl), tt) at;
  global =
      λ i m at. all_at
      (λ i m. (slice_get (outer_classes own) i ≡ Some class.Global)
      ↔ (IsPointerLike f m × InOneClass summaries f m Global)) (Result ∷ []) i m
      ((λ e. absurd (none_global (same_Some class.NoClass class.Global e)), λ p. absurd (true≢false (sym p.0))), tt)
      at;
  same =
      λ i j m n at_m at_n p q. absurd (true≢false (sym (subst (IsPointerLike f) (sym (only Result m i at_m)) p)));
  numbered = λ i k j e less. absurd (none_name k (only class.NoClass (class.Name k) i e));
}

closed : IsFamily (erased (code_with (0 ∷ []))) family
closed = record {
  len = refl;
  own =
      λ n g s there at.
      subst (λ t. Describes family g (outer_members g) (outer_classes t)) (only own s n at)
      (subst (λ h. Describes family h (outer_members h) (outer_classes own)) (only f g n there) (outer family));
}

joins_no_more : (t : Summary) → JoinsNoMore own t
joins_no_more t = record {
  global = λ i e. absurd (none_global (only class.NoClass class.Global i e));
  same = λ i j c some at_i at_j. absurd (some (sym (only class.NoClass c i at_i)));
}

pub least : IsLeastFamily (erased (code_with (0 ∷ []))) family
least = record {
  closed = closed;
  least = λ other is n s t at_s at_t. subst (λ u. JoinsNoMore u t) (only own s n at_s) (joins_no_more t);
}

-- ---- the classes

abbrev label : Member → ℕ
label (Variable zero) = 0
label (Variable (suc zero)) = 0
label (Variable (suc (suc v))) = 2
label Result = 3
label Global = 1

no_join : (a b : Member) → ◌≡◌ {A = Option (Member × Member)} None (Some (a, b)) → ⊥
no_join a b e = cc

-- what an instruction joins has one label
joins_label : (at : ℕ) (instr : Instr) (a b : Member) → slice_get f.body at ≡ Some instr
    → op_joins instr.op ≡ Some (a, b) → IsPointerLike f a → label a ≡ label b
joins_label zero instr a b here joined like =
    absurd (no_join a b (subst (λ (i : Instr). op_joins i.op ≡ Some (a, b)) (sym (same_Some _ instr here)) joined))
joins_label (suc zero) instr a b here joined like =
    let e = subst (λ (i : Instr). op_joins i.op ≡ Some (a, b)) (sym (same_Some _ instr here)) joined in
    let pair = same_Some (Variable 1, Variable 0) (a, b) e in
    sym (ap (λ (p : Member × Member). label p.0) pair) ∙ ap (λ (p : Member × Member). label p.1) pair
joins_label (suc (suc zero)) instr a b here joined like =
    let e = subst (λ (i : Instr). op_joins i.op ≡ Some (a, b)) (sym (same_Some _ instr here)) joined in
    let pair = same_Some (Variable 2, Variable 1) (a, b) e in
    let first = ap (λ (p : Member × Member). p.0) pair in
    absurd (true≢false (sym (subst (IsPointerLike f) (sym first) like)))
joins_label (suc (suc (suc zero))) instr a b here joined like =
    absurd (no_join a b (subst (λ (i : Instr). op_joins i.op ≡ Some (a, b)) (sym (same_Some _ instr here)) joined))
joins_label (suc (suc (suc (suc zero)))) instr a b here joined like =
    absurd (no_join a b (subst (λ (i : Instr). op_joins i.op ≡ Some (a, b)) (sym (same_Some _ instr here)) joined))
joins_label (suc (suc (suc (suc (suc at))))) instr a b here joined like = absurd cc

-- no instruction calls, so what one joins is what it joins by itself
by_itself : (at : ℕ) (instr : Instr) (a b : Member) → slice_get f.body at ≡ Some instr → OpJoins family instr.op a b
    → op_joins instr.op ≡ Some (a, b)
by_itself zero instr a b here joined =
    subst (λ (i : Instr). OpJoins family i.op a b → op_joins i.op ≡ Some (a, b)) (same_Some _ instr here) (λ j. j) joined
by_itself (suc zero) instr a b here joined =
    subst (λ (i : Instr). OpJoins family i.op a b → op_joins i.op ≡ Some (a, b)) (same_Some _ instr here) (λ j. j) joined
by_itself (suc (suc zero)) instr a b here joined =
    subst (λ (i : Instr). OpJoins family i.op a b → op_joins i.op ≡ Some (a, b)) (same_Some _ instr here) (λ j. j) joined
by_itself (suc (suc (suc zero))) instr a b here joined =
    subst (λ (i : Instr). OpJoins family i.op a b → op_joins i.op ≡ Some (a, b)) (same_Some _ instr here) (λ j. j) joined
by_itself (suc (suc (suc (suc zero)))) instr a b here joined =
    subst (λ (i : Instr). OpJoins family i.op a b → op_joins i.op ≡ Some (a, b)) (same_Some _ instr here) (λ j. j) joined
by_itself (suc (suc (suc (suc (suc at))))) instr a b here joined = absurd cc

label_of : (a b : Member) → Joins family f a b → label a ≡ label b
label_of a b j = joins_label j.at j.instr a b j.here (by_itself j.at j.instr a b j.here j.joined) j.first

same_label : (links : ℕ) (a b : Member) → Chain (Joins family f) links a b → label a ≡ label b
same_label zero a b e = ap label e
same_label (suc n) a b c = by c.1 ∙ same_label n c.0 b c.2
  where
    by : (Joins family f a c.0) ⊎ (Joins family f c.0 a) → label a ≡ label c.0
    by (inl j) = label_of a c.0 j
    by (inr j) = sym (label_of c.0 a j)

-- the copy joins the two pointers
copied : Joins family f (Variable 1) (Variable 0)
copied = record { at = 1; instr = _; here = refl; joined = refl; first = refl; second = refl }

abbrev classes : List Class
classes = class.Name 0 ∷ class.Name 0 ∷ class.NoClass ∷ class.NoClass ∷ []

abbrev members : List Member
members = Variable 0 ∷ Variable 1 ∷ Variable 2 ∷ Result ∷ []

no_global : (m : Member) → (label m ≡ 1 → ⊥) → InOneClass family f m Global → ⊥
no_global m differs s = differs (same_label s.0 m Global s.1)

zero_one : ◌≡◌ {A = ℕ} 0 1 → ⊥
zero_one e = omega (arith, e)

none : (i : ℕ) (m : Member) → slice_get members i ≡ Some m
    → (slice_get classes i ≡ Some class.NoClass) ↔ (IsPointerLike f m → ⊥)
none i m at =
    all_at (λ i m. (slice_get classes i ≡ Some class.NoClass) ↔ (IsPointerLike f m → ⊥)) members i m (
      (λ e. absurd (name_none (same_Some (class.Name 0) class.NoClass e)), λ n. absurd (n refl)),
      (
        (λ e. absurd (name_none (same_Some (class.Name 0) class.NoClass e)), λ n. absurd (n refl)),
        ((λ e p. true≢false (sym p), λ n. refl), ((λ e p. true≢false (sym p), λ n. refl), tt)),
      ),
    ) at

global : (i : ℕ) (m : Member) → slice_get members i ≡ Some m
    → (slice_get classes i ≡ Some class.Global) ↔ (IsPointerLike f m × InOneClass family f m Global)
global i m at =
    all_at (λ i m. (slice_get classes i ≡ Some class.Global) ↔ (IsPointerLike f m × InOneClass family f m Global))
    members i m (
      (
        λ e. absurd (name_global (same_Some (class.Name 0) class.Global e)),
        λ p. absurd (no_global (Variable 0) zero_one p.1),
      ),
      (
        (
          λ e. absurd (name_global (same_Some (class.Name 0) class.Global e)),
          λ p. absurd (no_global (Variable 1) zero_one p.1),
        ),
        (
          (λ e. absurd (none_global (same_Some class.NoClass class.Global e)), λ p. absurd (true≢false (sym p.0))),
          ((λ e. absurd (none_global (same_Some class.NoClass class.Global e)), λ p. absurd (true≢false (sym p.0))), tt),
        ),
      ),
    )
    at

-- a pointer-like member of the function is one of its first two variables
data IsPointer : ℕ → Member → Type 0 where
  first : IsPointer 0 (Variable 0)
  second : IsPointer 1 (Variable 1)

is_pointer : (i : ℕ) (m : Member) → slice_get members i ≡ Some m → IsPointerLike f m → IsPointer i m
is_pointer i m at =
    all_at (λ i m. IsPointerLike f m → IsPointer i m) members i m
    (λ p. first, (λ p. second, (λ p. absurd (true≢false (sym p)), (λ p. absurd (true≢false (sym p)), tt)))) at

same_by : (i j : ℕ) (m n : Member) → IsPointer i m → IsPointer j n
    → (slice_get classes i ≡ slice_get classes j) ↔ InOneClass family f m n
same_by i j m n first first = (λ e. (0, refl), λ s. refl)
same_by i j m n first second = (λ e. (1, (Variable 1, inr copied, refl)), λ s. refl)
same_by i j m n second first = (λ e. (1, (Variable 0, inl copied, refl)), λ s. refl)
same_by i j m n second second = (λ e. (0, refl), λ s. refl)

abbrev name_of : Class → ℕ
name_of (class.Name k) = k
name_of class.NoClass = 0
name_of class.Global = 0

numbered : AreNumbered classes
numbered zero k j e less =
    let is : 0 ≡ k = ap name_of (same_Some (class.Name 0) (class.Name k) e) in absurd (omega (arith, is, less))
numbered (suc zero) k j e less =
    let is : 0 ≡ k = ap name_of (same_Some (class.Name 0) (class.Name k) e) in absurd (omega (arith, is, less))
numbered (suc (suc zero)) k j e less = absurd (none_name k (same_Some class.NoClass (class.Name k) e))
numbered (suc (suc (suc zero))) k j e less = absurd (none_name k (same_Some class.NoClass (class.Name k) e))
numbered (suc (suc (suc (suc i)))) k j e less = absurd cc

described : Describes family f (all_members f) ((classes_in main).variables ++ (classes_in main).result ∷ [])
described = record {
  len = refl;
  none = none;
  global = global;
  same = λ i j m n at_m at_n p q. same_by i j m n (is_pointer i m at_m p) (is_pointer j n at_n q);
  numbered = numbered;
}

pub has_classes : HasClasses family (code_with (0 ∷ []))
has_classes n g there =
    subst (λ h. Describes family (erased_fn h) (all_members (erased_fn h))
    ((classes_in h).variables ++ (classes_in h).result ∷ [])) (only main g n there) described
