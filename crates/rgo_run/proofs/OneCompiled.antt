-- A program has one compiled code. Its classes are numbered in the order of their first members, so two numberings of the same joins
-- agree: at the first place where they differ, neither number can be the smaller one (`not_less`). The least summaries follow from the
-- classes, and the lists of each instruction from both.
use Rattle.std.proofs.Common.{◌≡◌, ◌≢◌, ◌<◌, ◌≤◌, ◌⊎◌, inl, inr, ℕ, zero, suc, Bool, true, false, List, [], ◌∷◌, ◌++◌, length, Option, Some, None, refl, sym, ap, ◌∙◌, subst, arith, slice_get, get_or}
use Rattle.std.specs.Option.{option_map}
use Rattle.std.proofs.lemmas.Bool.{cases_lt}
use Rattle.std.proofs.lemmas.Option.{same_Some, none-some, slice_get-map, slice_get_cases, slice_get_past, slice_get_within}
use Rattle.rgo_tac.specs.declared.regions.Class.{Class}
use Rattle.rgo_tac.specs.declared.regions.Class.TheVariants as class
use Rattle.rgo_tac.specs.declared.regions.Member.{Member}
use Rattle.rgo_tac.specs.Code.{Tac, TacFn}
use Rattle.rgo_tac.specs.Joins.{is_pointer_like_member}
use Rattle.rgo_lower.proofs.Determined.{lowering_is_determined}
use Rattle.rgo_classes.specs.declared.classes.Summary.{Summary}
use Rattle.rgo_classes.specs.Classes.{AreNamed, AreNumbered, Describes, InOneClass, all_members, outer_members}
use Rattle.rgo_classes.specs.Joins.{IsPointerLike}
use Rattle.rgo_summaries.specs.Families.{IsLeastFamily, JoinsNoMore, outer_classes}
use Rattle.rgo_code.specs.Code.{Code, CodeFn}
use Rattle.rgo_code.specs.Erasure.{erased, erased_fn}
use Rattle.rgo_insert.specs.Inserted.{HasClasses, classes_in}
use Rattle.rgo_insert.specs.Laws.{HaveSameClasses}
use Rattle.rgo_insert.proofs.OneCode.{one_code}
use Rattle.rgo_insert.proofs.OnePassing.{lists_same}
use Rattle.rgo_run.specs.Compiled.{OneCompiled}

-- ---- lists

-- a position without an item is past the end
past : {A : Type 0} (c : List A) (n : ℕ) → slice_get c n ≡ None → length c ≤ n
past {A} c n none = of ((slice_get_cases c n).1)
  where
    of : ((z : A) × (n < length c) × (slice_get c n ≡ Some z) × (get_or c n z ≡ z))
        ⊎ ((length c ≤ n) × (slice_get c n ≡ None)) → length c ≤ n
    of (inl r) = absurd (none-some r.0 (sym none ∙ r.2))
    of (inr r) = r.0

-- a position within the list has an item
there : {A : Type 0} (c : List A) (n : ℕ) → n < length c → (z : A) × (slice_get c n ≡ Some z)
there {A} c n within = of ((slice_get_cases c n).1)
  where
    of : ((z : A) × (n < length c) × (slice_get c n ≡ Some z) × (get_or c n z ≡ z))
        ⊎ ((length c ≤ n) × (slice_get c n ≡ None)) → (z : A) × (slice_get c n ≡ Some z)
    of (inl r) = (r.0, r.2)
    of (inr r) = absurd (omega (arith, within, r.0))

-- ---- lists of classes

-- what list a joins, or leaves without a class, list b does as well; and a is numbered in order
record JoinsAs (a b : List Class) : Type 0 where
  len : length a ≡ length b
  none : (i : ℕ) → slice_get a i ≡ Some class.NoClass → slice_get b i ≡ Some class.NoClass
  global : (i : ℕ) → slice_get a i ≡ Some class.Global → slice_get b i ≡ Some class.Global
  same : (i j k : ℕ) → slice_get a i ≡ Some (class.Name k) → slice_get a j ≡ Some (class.Name k)
      → slice_get b i ≡ slice_get b j
  numbered : AreNumbered a

-- the lists agree before a position
abbrev AreSameBefore : List Class → List Class → ℕ → Type 0
AreSameBefore a b n = (i : ℕ) → i < n → slice_get a i ≡ slice_get b i

-- if all classes before a position are the same, neither class at it has a name less than the other's
not_less : (a b : List Class) (i k l : ℕ) → JoinsAs a b → JoinsAs b a → AreSameBefore a b i
    → slice_get a i ≡ Some (class.Name k) → slice_get b i ≡ Some (class.Name l) → k < l → ⊥
not_less a b i k l x y before at_a at_b less =
    let first = y.numbered i l k at_b less in
    let same = x.same first.0 i k (before first.0 first.1 ∙ first.2) at_a in
    let names : Some (class.Name k) ≡ Some (class.Name l) = sym first.2 ∙ same ∙ at_b in
    absurd (different k l less (name_of k l names))
  where
    name_of : (k l : ℕ) → Some (class.Name k) ≡ Some (class.Name l) → k ≡ l
    name_of k l e = cc

    different : (k l : ℕ) → k < l → k ≡ l → ⊥
    different k l less e = omega (arith, less, e)

same_name : (a b : List Class) (i k l : ℕ) → JoinsAs a b → JoinsAs b a → AreSameBefore a b i
    → slice_get a i ≡ Some (class.Name k) → slice_get b i ≡ Some (class.Name l) → k ≡ l
same_name a b i k l x y before at_a at_b = by (cases_lt k l) (cases_lt l k)
  where
    by : (k < l) ⊎ (l ≤ k) → (l < k) ⊎ (k ≤ l) → k ≡ l
    by (inl less) q = absurd (not_less a b i k l x y before at_a at_b less)
    by (inr p) (inl less) = absurd (not_less b a i l k y x (λ j below. sym (before j below)) at_b at_a less)
    by (inr p) (inr q) = omega (arith, p, q)

same_at : (a b : List Class) (i : ℕ) → JoinsAs a b → JoinsAs b a → AreSameBefore a b i → slice_get a i ≡ slice_get b i
same_at a b i x y before = by (slice_get a i) (slice_get b i) refl refl
  where
    by : (p q : Option Class) → slice_get a i ≡ p → slice_get b i ≡ q → slice_get a i ≡ slice_get b i
    by (Some class.NoClass) q p_is q_is = p_is ∙ sym (x.none i p_is)
    by (Some class.Global) q p_is q_is = p_is ∙ sym (x.global i p_is)
    by p (Some class.NoClass) p_is q_is = y.none i q_is ∙ sym q_is
    by p (Some class.Global) p_is q_is = y.global i q_is ∙ sym q_is
    by (Some (class.Name k)) (Some (class.Name l)) p_is q_is =
        p_is ∙ ap (λ n. Some (class.Name n)) (same_name a b i k l x y before p_is q_is) ∙ sym q_is
    by None None p_is q_is = p_is ∙ sym q_is
    by None (Some (class.Name l)) p_is q_is =
        p_is ∙ sym (slice_get_past b i (subst (λ n. n ≤ i) x.len (past a i p_is)))
    by (Some (class.Name k)) None p_is q_is =
        slice_get_past a i (subst (λ n. n ≤ i) y.len (past b i q_is)) ∙ sym q_is

same_next : (a b : List Class) (n : ℕ) → JoinsAs a b → JoinsAs b a → AreSameBefore a b n → AreSameBefore a b (suc n)
same_next a b n x y before i below = by (cases_lt i n)
  where
    by : (i < n) ⊎ (n ≤ i) → slice_get a i ≡ slice_get b i
    by (inl less) = before i less
    by (inr more) =
        let is : n ≡ i = omega (arith, below, more) in
        subst (λ j. slice_get a j ≡ slice_get b j) is (same_at a b n x y before)

same_before : (a b : List Class) → JoinsAs a b → JoinsAs b a → (n : ℕ) → AreSameBefore a b n
same_before a b x y zero i below = absurd (omega (arith, below))
same_before a b x y (suc n) i below = same_next a b n x y (same_before a b x y n) i below

one_list : (a b : List Class) → JoinsAs a b → JoinsAs b a → a ≡ b
one_list a b x y =
    lists_same a b x.len (λ i c d at_c at_d.
    same_Some c d (sym at_c ∙ same_before a b x y (suc i) i (omega arith) ∙ at_d))

-- ---- members

member_at : (ms : List Member) (cs : List Class) (i : ℕ) (c : Class) → length cs ≡ length ms → slice_get cs i ≡ Some c
    → (m : Member) × (slice_get ms i ≡ Some m)
member_at ms cs i c len at = there ms i (subst (λ n. i < n) len (slice_get_within cs i c at))

-- a member that is not without a class is pointer-like
has_class : (f : TacFn) (m : Member) → ((IsPointerLike f m → ⊥) → ⊥) → IsPointerLike f m
has_class f m not = by (is_pointer_like_member f m) refl
  where
    by : (b : Bool) → is_pointer_like_member f m ≡ b → is_pointer_like_member f m ≡ true
    by true e = e
    by false e = absurd (not (λ like. let both = sym like ∙ e in cc))

module _ {R S : Member → Member → Type 0} {f : TacFn} {ms : List Member} {a b : List Class}
    (x : AreNamed R f ms a) (y : AreNamed S f ms b) where
  no_class : (i : ℕ) → slice_get a i ≡ Some class.NoClass → slice_get b i ≡ Some class.NoClass
  no_class i at =
      let m = member_at ms a i class.NoClass x.len at in (y.none i m.0 m.1).1 ((x.none i m.0 m.1).0 at)

  like_at : (i k : ℕ) (m : Member) → slice_get ms i ≡ Some m → slice_get a i ≡ Some (class.Name k) → IsPointerLike f m
  like_at i k m there at =
      has_class f m (λ not. let none = (x.none i m there).1 not in no_name k (sym at ∙ none))
    where
      no_name : (k : ℕ) → Some (class.Name k) ≡ Some class.NoClass → ⊥
      no_name k e = cc

-- classes of the same members by the same relation
joins_as : (R : Member → Member → Type 0) (f : TacFn) (ms : List Member) (a b : List Class) → AreNamed R f ms a
    → AreNamed R f ms b → JoinsAs a b
joins_as R f ms a b x y = record {
  len = x.len ∙ sym y.len;
  none = no_class x y;
  global = λ i at.
      let m = member_at ms a i class.Global x.len at in
      (y.global i m.0 m.1).1 ((x.global i m.0 m.1).0 at);
  same = λ i j k at_i at_j.
      let m = member_at ms a i (class.Name k) x.len at_i in
      let n = member_at ms a j (class.Name k) x.len at_j in
      let p = like_at x y i k m.0 m.1 at_i in
      let q = like_at x y j k n.0 n.1 at_j in
      (y.same i j m.0 n.0 m.1 n.1 p q).1 ((x.same i j m.0 n.0 m.1 n.1 p q).0 (at_i ∙ sym at_j));
  numbered = x.numbered;
}

one_naming : (R : Member → Member → Type 0) (f : TacFn) (ms : List Member) (a b : List Class) → AreNamed R f ms a
    → AreNamed R f ms b → a ≡ b
one_naming R f ms a b x y = one_list a b (joins_as R f ms a b x y) (joins_as R f ms b a y x)

-- ---- summaries

-- the last of two lists that are the same, and what is before it
last_same : (xs ys : List Class) (c d : Class) → xs ++ c ∷ [] ≡ ys ++ d ∷ [] → (xs ≡ ys) × (c ≡ d)
last_same [] [] c d e = let same : c ≡ d = cc in (refl, same)
last_same [] (y ∷ []) c d e = absurd cc
last_same [] (y ∷ z ∷ ys) c d e = absurd cc
last_same (x ∷ []) [] c d e = absurd cc
last_same (x ∷ z ∷ xs) [] c d e = absurd cc
last_same (x ∷ xs) (y ∷ ys) c d e =
    let first : x ≡ y = cc in
    let rest : xs ++ c ∷ [] ≡ ys ++ d ∷ [] = cc in
    let l = last_same xs ys c d rest in
    (ap (λ h. h ∷ xs) first ∙ ap (λ t. y ∷ t) l.0, l.1)

outer_joins_as : (family other : List Summary) (f : TacFn) (s t : Summary)
    → Describes family f (outer_members f) (outer_classes s) → Describes other f (outer_members f) (outer_classes t)
    → JoinsNoMore s t → JoinsAs (outer_classes s) (outer_classes t)
outer_joins_as family other f s t x y joins = record {
  len = x.len ∙ sym y.len;
  none = no_class x y;
  global = joins.global;
  same = λ i j k at_i at_j. joins.same i j (class.Name k) (named k) at_i at_j;
  numbered = x.numbered;
}
  where
    named : (k : ℕ) → class.Name k ≢ class.NoClass
    named k e = cc

same_summary : (s t : Summary) → outer_classes s ≡ outer_classes t → s ≡ t
same_summary s t e =
    let l = last_same s.params t.params s.result t.result e in
    ap (λ p. record { params = p; result = s.result }) l.0 ∙ ap (λ r. record { params = t.params; result = r }) l.1

one_family : (code : Tac) (a b : List Summary) → IsLeastFamily code a → IsLeastFamily code b → a ≡ b
one_family code a b x y = lists_same a b (x.closed.len ∙ sym y.closed.len) same
  where
    same : (n : ℕ) (s t : Summary) → slice_get a n ≡ Some s → slice_get b n ≡ Some t → s ≡ t
    same n s t at_s at_t =
        let f = there code.functions n (subst (λ l. n < l) x.closed.len (slice_get_within a n s at_s)) in
        let u = x.closed.own n f.0 s f.1 at_s in
        let v = y.closed.own n f.0 t f.1 at_t in
        same_summary s t (one_list (outer_classes s) (outer_classes t)
        (outer_joins_as a b f.0 s t u v (x.least b y.closed n s t at_s at_t))
        (outer_joins_as b a f.0 t s v u (y.least a x.closed n t s at_t at_s)))

-- ---- code

erased_at : (code : Code) (n : ℕ) (f : CodeFn) → slice_get code.functions n ≡ Some f
    → slice_get (erased code).functions n ≡ Some (erased_fn f)
erased_at code n f there = slice_get-map erased_fn code.functions n ∙ ap (option_map erased_fn) there

same_classes : (a b : Code) (family : List Summary) → erased a ≡ erased b → HasClasses family a → HasClasses family b
    → HaveSameClasses a b
same_classes a b family same x y n f g at_f at_g =
    let fn = same_Some (erased_fn f) (erased_fn g)
    (sym (erased_at a n f at_f) ∙ ap (λ (t : Tac). slice_get t.functions n) same ∙ erased_at b n g at_g) in
    let named = subst (λ t. Describes family t (all_members t)
    ((classes_in f).variables ++ (classes_in f).result ∷ [])) fn (x n f at_f) in
    let l = last_same (classes_in f).variables (classes_in g).variables (classes_in f).result (classes_in g).result
    (one_naming (InOneClass family (erased_fn g)) (erased_fn g) (all_members (erased_fn g)) _ _ named (y n g at_g)) in
    ap (λ v. record { variables = v; result = (classes_in f).result }) l.0
    ∙ ap (λ r. record { variables = (classes_in g).variables; result = r }) l.1

pub one_compiled : OneCompiled
one_compiled program a b x y =
    let same : erased a ≡ erased b = lowering_is_determined program (erased b) (erased a) y.lowered x.lowered in
    let family = one_family (erased b) x.family y.family (subst (λ t. IsLeastFamily t x.family) same x.least) y.least in
    one_code a b x.checked y.checked x.ascends y.ascends same (x.declared ∙ sym y.declared)
    (same_classes a b y.family same (subst (λ s. HasClasses s a) family x.classes) y.classes)
