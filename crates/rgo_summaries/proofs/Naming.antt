-- Summaries that name the classes of an equivalence are those that describe it.
use Rattle.std.proofs.Common.{◌≡◌, ◌≢◌, ◌⊎◌, inl, inr, ⊎_elim, ◌↔◌, ℕ, zero, suc, ◌<◌, ◌+◌, Bool, true, false, List, [], ◌∷◌, length, Some, slice_get, refl, sym, ap, ◌∙◌, subst, arith, length-append}
use Rattle.std.proofs.lemmas.Option.{same_Some, slice_get_within}
use Rattle.rgo_tac.specs.declared.regions.Class.{Class}
use Rattle.rgo_tac.specs.declared.regions.Class.TheVariants as class
use Rattle.rgo_tac.specs.declared.regions.Member.{Member}
use Rattle.rgo_tac.specs.declared.regions.Member.TheVariants.{Global}
use Rattle.rgo_tac.specs.Code.{TacFn}
use Rattle.rgo_tac.specs.Joins.{is_pointer_like_member}
use Rattle.rgo_classes.specs.declared.classes.Summary.{Summary}
use Rattle.rgo_classes.specs.Joins.{IsPointerLike, Joins}
use Rattle.rgo_classes.specs.Classes.{AreNamed, Describes, InOneClass, outer_members}
use Rattle.rgo_summaries.specs.Calls.{member}
use Rattle.rgo_summaries.specs.Families.{outer_classes, JoinsNoMore}
use Rattle.rgo_summaries.specs.Names.{class_at, SummaryNames}
use Rattle.rgo_summaries.specs.Nodes.{IsOuter}
use Rattle.rgo_classes.proofs.Chains as chain
use Rattle.rgo_summaries.proofs.Chains.{IsEquivalence}
use Rattle.rgo_summaries.proofs.Outer.{place, member_placed, class_placed, placed, class_within, has_class, outer_len, some_get}
use Rattle.rgo_summaries.proofs.Standing.{Together}

is_or_not : (b : Bool) → (b ≡ true) ⊎ (b ≡ true → ⊥)
is_or_not true = inl refl
is_or_not false = inr (λ e. cc)

pub pointer_like_or_not : (f : TacFn) (m : Member) → IsPointerLike f m ⊎ (IsPointerLike f m → ⊥)
pointer_like_or_not f m = is_or_not (is_pointer_like_member f m)

module _ (Related : ℕ → ℕ → Type 0) (f : TacFn) (s : Summary) (names : SummaryNames Related f s) where
  -- a class other than none is one of a pointer-like member
  pub outer_by_class : (i : ℕ) (c : Class) → class_at s i ≡ Some c → c ≢ class.NoClass → IsOuter f i
  outer_by_class i c e some =
      let l = class_within s f.params i c names.len e in (
        l,
        ⊎_elim (λ p. p) (λ n. absurd (some (same_Some c class.NoClass (sym e ∙ (names.none i l).1 n))))
            (pointer_like_or_not f (member i)),
      )

  pub class_of_outer : (i : ℕ) → IsOuter f i → (c : Class) × (class_at s i ≡ Some c) × (c ≢ class.NoClass)
  class_of_outer i o =
      let c = has_class s f.params i names.len o.0 in
      (c.0, c.1, λ e. (names.none i o.0).0 (c.1 ∙ ap Some e) o.1)

  pub together : (i j : ℕ) → IsOuter f i → IsOuter f j → Related i j → Together s i j
  together i j oi oj r =
      let c = class_of_outer i oi in
      record { named = c.0; some = c.2; first = c.1; second = sym ((names.same i j oi oj).1 r) ∙ c.1 }

  pub related : (i j : ℕ) (c : Class) → c ≢ class.NoClass → class_at s i ≡ Some c → class_at s j ≡ Some c
      → IsOuter f i × IsOuter f j × Related i j
  related i j c some e g =
      let oi = outer_by_class i c e some in
      let oj = outer_by_class j c g some in
      (oi, oj, (names.same i j oi oj).0 (e ∙ sym g))

pub names_along : (R S : ℕ → ℕ → Type 0) (f : TacFn) (s : Summary)
    → ((i j : ℕ) → IsOuter f i → IsOuter f j → R i j ↔ S i j)
    → SummaryNames R f s → SummaryNames S f s
names_along R S f s same names = record {
  len = names.len;
  none = names.none;
  same = λ i j oi oj.
      let n = names.same i j oi oj in
      let r = same i j oi oj in
      (λ e. r.0 (n.0 e), λ h. n.1 (r.1 h));
  numbered = names.numbered;
}

-- ---- of an equivalence of members

abbrev pub ByNumber : (Member → Member → Type 0) → ℕ → ℕ → Type 0
ByNumber Same i j = Same (member i) (member j)

module _ (Same : Member → Member → Type 0) (equal : IsEquivalence Same) (f : TacFn) (s : Summary) where
  params_len : AreNamed Same f (outer_members f) (outer_classes s) → length s.params ≡ f.params
  params_len d = omega (arith, d.len, length-append s.params (s.result ∷ []), outer_len f)

  module _ (len : length s.params ≡ f.params) where
    at_place : (i : ℕ) → 0 < i → i < f.params + 2 → slice_get (outer_classes s) (place f.params i) ≡ class_at s i
    at_place i p l = class_placed s f.params i len p l

  names_none : (d : AreNamed Same f (outer_members f) (outer_classes s)) (i : ℕ) → i < f.params + 2
      → (class_at s i ≡ Some class.NoClass) ↔ (IsPointerLike f (member i) → ⊥)
  names_none d zero l = (λ e. absurd (absurd_global (same_Some class.Global class.NoClass e)), λ n. absurd (n refl))
    where
      absurd_global : class.Global ≡ class.NoClass → ⊥
      absurd_global e = cc
  names_none d (suc i) l =
      let at = at_place (params_len d) (suc i) (omega arith) l in
      let n = d.none (place f.params (suc i)) (member (suc i)) (member_placed f (suc i) (omega arith) l) in
      (λ e. n.0 (at ∙ e), λ h. sym at ∙ n.1 h)

  -- two members have one class exactly where they are the same
  abbrev Agree : ℕ → ℕ → Type 0
  Agree i j = (class_at s i ≡ class_at s j) ↔ ByNumber Same i j

  -- with the package variables
  with_global : (d : AreNamed Same f (outer_members f) (outer_classes s)) (i : ℕ) → 0 < i → IsOuter f i
      → (class_at s i ≡ Some class.Global) ↔ Same (member i) Global
  with_global d i p o =
      let at = at_place (params_len d) i p o.0 in
      let g = d.global (place f.params i) (member i) (member_placed f i p o.0) in
      (λ e. (g.0 (at ∙ e)).1, λ h. sym at ∙ g.1 (o.1, h))

  names_same : (d : AreNamed Same f (outer_members f) (outer_classes s)) (i j : ℕ) → IsOuter f i → IsOuter f j
      → Agree i j
  names_same d zero zero oi oj = (λ e. equal.reflexive Global, λ h. refl)
  names_same d zero (suc j) oi oj =
      let g = with_global d (suc j) (omega arith) oj in (
        λ e. equal.symmetric (member (suc j)) Global (g.0 (sym e)),
        λ h. sym (g.1 (equal.symmetric Global (member (suc j)) h)),
      )
  names_same d (suc i) zero oi oj =
      let g = with_global d (suc i) (omega arith) oi in
      (λ e. g.0 e, λ h. g.1 h)
  names_same d (suc i) (suc j) oi oj =
      let len = params_len d in
      let at_i = at_place len (suc i) (omega arith) oi.0 in
      let at_j = at_place len (suc j) (omega arith) oj.0 in
      let same =
      d.same (place f.params (suc i)) (place f.params (suc j)) (member (suc i)) (member (suc j))
      (member_placed f (suc i) (omega arith) oi.0) (member_placed f (suc j) (omega arith) oj.0) oi.1 oj.1
      in
      (λ e. same.0 (at_i ∙ e ∙ sym at_j), λ h. sym at_i ∙ same.1 h ∙ at_j)

  pub numbers_named : AreNamed Same f (outer_members f) (outer_classes s) → SummaryNames (ByNumber Same) f s
  numbers_named d = record {
    len = params_len d;
    none = names_none d;
    same = names_same d;
    numbered = d.numbered;
  }

  module _ (n : SummaryNames (ByNumber Same) f s) where
    described_none : (k : ℕ) (m : Member) → slice_get (outer_members f) k ≡ Some m
        → (slice_get (outer_classes s) k ≡ Some class.NoClass) ↔ (IsPointerLike f m → ⊥)
    described_none k m e =
        let p = placed f k m e in
        let at = ap (slice_get (outer_classes s)) p.at ∙ at_place n.len p.number p.some p.outer in
        let none = n.none p.number p.outer in (
          λ c. subst (λ x. IsPointerLike f x → ⊥) (sym p.is) (none.0 (sym at ∙ c)),
          λ h. at ∙ none.1 (subst (λ x. IsPointerLike f x → ⊥) p.is h),
        )

    described_global : (k : ℕ) (m : Member) → slice_get (outer_members f) k ≡ Some m
        → (slice_get (outer_classes s) k ≡ Some class.Global) ↔ (IsPointerLike f m × Same m Global)
    described_global k m e =
        let p = placed f k m e in
        let at = ap (slice_get (outer_classes s)) p.at ∙ at_place n.len p.number p.some p.outer in
        let none_left : class.Global ≢ class.NoClass = λ q. cc in
        let zero_outer : IsOuter f 0 = (omega arith, refl) in (
          λ c.
              let o = outer_by_class (ByNumber Same) f s n p.number class.Global (sym at ∙ c) none_left in
              let r = (n.same p.number 0 o zero_outer).0 (sym at ∙ c) in
              subst (λ x. IsPointerLike f x × Same x Global) (sym p.is) (o.1, r),
          λ h.
              let g = subst (λ x. IsPointerLike f x × Same x Global) p.is h in
              at ∙ (n.same p.number 0 (p.outer, g.0) zero_outer).1 g.1,
        )

    described_same : (k j : ℕ) (m o : Member) → slice_get (outer_members f) k ≡ Some m
        → slice_get (outer_members f) j ≡ Some o
        → IsPointerLike f m → IsPointerLike f o
        → (slice_get (outer_classes s) k ≡ slice_get (outer_classes s) j) ↔ Same m o
    described_same k j m o e g pm po =
        let p = placed f k m e in
        let q = placed f j o g in
        let at_p = ap (slice_get (outer_classes s)) p.at ∙ at_place n.len p.number p.some p.outer in
        let at_q = ap (slice_get (outer_classes s)) q.at ∙ at_place n.len q.number q.some q.outer in
        let same =
        n.same p.number q.number (p.outer, subst (IsPointerLike f) p.is pm) (q.outer, subst (IsPointerLike f) q.is po)
        in (
          λ c. subst (λ x. Same x o) (sym p.is)
              (subst (λ x. Same (member p.number) x) (sym q.is) (same.0 (sym at_p ∙ c ∙ at_q))),
          λ h. at_p ∙ same.1 (subst (λ x. Same (member p.number) x) q.is (subst (λ x. Same x o) p.is h)) ∙ sym at_q,
        )

    pub members_named : AreNamed Same f (outer_members f) (outer_classes s)
    members_named = record {
      len = omega (arith, n.len, length-append s.params (s.result ∷ []), outer_len f);
      none = described_none;
      global = described_global;
      same = described_same;
      numbered = n.numbered;
    }

-- ---- of the equivalence of a function

abbrev pub InOne : List Summary → TacFn → ℕ → ℕ → Type 0
InOne sums f = ByNumber (InOneClass sums f)

pub in_one_class : (sums : List Summary) (f : TacFn) → IsEquivalence (InOneClass sums f)
in_one_class sums f = record {
  reflexive = λ a. chain.reflexive (Joins sums f) a a refl;
  symmetric = λ a b h. chain.symmetric (Joins sums f) a b h;
  transitive = λ a b c h g. chain.transitive (Joins sums f) a b c h g;
}

pub names_of : (sums : List Summary) (f : TacFn) (s : Summary) → Describes sums f (outer_members f) (outer_classes s)
    → SummaryNames (InOne sums f) f s
names_of sums f s d = numbers_named (InOneClass sums f) (in_one_class sums f) f s d

pub describes_of : (sums : List Summary) (f : TacFn) (s : Summary) → SummaryNames (InOne sums f) f s
    → Describes sums f (outer_members f) (outer_classes s)
describes_of sums f s n = members_named (InOneClass sums f) (in_one_class sums f) f s n

-- ---- of two equivalences one of which contains the other

module _ (R S : ℕ → ℕ → Type 0) (f : TacFn) (s t : Summary) (ns : SummaryNames R f s) (nt : SummaryNames S f t)
    (less : (i j : ℕ) → IsOuter f i → IsOuter f j → R i j → S i j) where
  same_in_both : (i j : ℕ) (c : Class) → c ≢ class.NoClass → class_at s i ≡ Some c → class_at s j ≡ Some c
      → class_at t i ≡ class_at t j
  same_in_both i j c some e g =
      let r = related R f s ns i j c some e g in
      (nt.same i j r.0 r.1).1 (less i j r.0 r.1 r.2)

  -- a place in the one summary is one in the other
  abbrev At : ℕ → Type 0
  At k = (i : ℕ) × (slice_get (outer_classes s) k ≡ class_at s i) × (slice_get (outer_classes t) k ≡ class_at t i)

  at_both : (k : ℕ) (c : Class) → slice_get (outer_classes s) k ≡ Some c → At k
  at_both k c e =
      let in_s = slice_get_within (outer_classes s) k c e in
      let m =
      some_get (outer_members f) k (omega (arith, in_s, length-append s.params (s.result ∷ []), outer_len f, ns.len))
      in
      let p = placed f k m.0 m.1 in (
        p.number,
        ap (slice_get (outer_classes s)) p.at ∙ class_placed s f.params p.number ns.len p.some p.outer,
        ap (slice_get (outer_classes t)) p.at ∙ class_placed t f.params p.number nt.len p.some p.outer,
      )

  pub no_more : JoinsNoMore s t
  no_more = record {
    global = λ k e.
        let a = at_both k class.Global e in
        let none_left : class.Global ≢ class.NoClass = λ q. cc in
        a.2 ∙ same_in_both a.0 0 class.Global none_left (sym a.1 ∙ e) refl;
    same = λ k j c some e g.
        let a = at_both k c e in
        let b = at_both j c g in
        a.2 ∙ same_in_both a.0 b.0 c some (sym a.1 ∙ e) (sym b.1 ∙ g) ∙ sym b.2;
  }
