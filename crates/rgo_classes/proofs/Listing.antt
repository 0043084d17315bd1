-- One variable more is listed with its class, as a call is gone through. It is joined with one holder only; the others of its class are
-- joined with that one already.
use Rattle.std.proofs.Common.{◌≡◌, ◌≢◌, ◌⊎◌, inl, inr, ⊎_elim, ℕ, List, [], ◌∷◌, ◌++◌, false, Some, None, nat_eq, refl, sym, ap, ◌∙◌, subst}
use Rattle.std.specs.List.{Contains}
use Rattle.std.specs.HashMap.{HashMap, get}
use Rattle.std.proofs.lemmas.Bool.{cases_eq, ne_eqb}
use Rattle.std.proofs.lemmas.List.Elements.{Contains-append_left, Contains-push, Contains-push_cases}
use Rattle.std.proofs.lemmas.Option.{none-some, same_Some}
use Rattle.rgo_tac.specs.declared.regions.Class.{Class}
use Rattle.rgo_tac.specs.declared.regions.Class.TheVariants as class
use Rattle.rgo_tac.specs.declared.regions.Member.{Member}
use Rattle.rgo_tac.specs.declared.regions.Member.TheVariants.{Variable, Result, Global}
use Rattle.rgo_tac.specs.Code.{TacFn}
use Rattle.rgo_classes.specs.Holding.{Among, HeldJoins, Holding, IsOfClass}
use Rattle.rgo_classes.specs.Joins.{IsPointerLike}
use Rattle.rgo_classes.specs.Labels.{Also, AreFor, JoinsAlso, Pair}
use Rattle.rgo_classes.specs.Same.{AreSame}
use Rattle.rgo_classes.proofs.Chains.{contains, reflexive, symmetric, transitive}
use Rattle.rgo_classes.proofs.Joining.{Either, Relation, joins_more, joins_same}
use Rattle.rgo_classes.proofs.Labelled.{among_within}

abbrev pub Listed : Type 0
Listed = Class × ℕ

holds_left : (held : List Listed) (p : Listed) (c : Class) (m : Member) → IsOfClass held c m
    → IsOfClass (held ++ p ∷ []) c m
holds_left held p c (Variable v) h = Contains-append_left held (p ∷ []) (c, v) h
holds_left held p c Result h = h
holds_left held p c Global h = h

-- the members of a class are those that were, and the new one
holds_cases : (held : List Listed) (c : Class) (v : ℕ) (d : Class) (m : Member) → IsOfClass (held ++ (c, v) ∷ []) d m
    → IsOfClass held d m ⊎ ((d ≡ c) × (m ≡ Variable v))
holds_cases held c v d (Variable w) h =
    ⊎_elim (λ l. inl l)
    (λ e. inr (sym (ap (λ (q : Listed). q.0) e), ap Variable (sym (ap (λ (q : Listed). q.1) e))))
    (Contains-push_cases held (c, v) (d, w) h)
holds_cases held c v d Result h = absurd h
holds_cases held c v d Global h = inl h

module _ (f : TacFn) (held : List Listed) (c : Class) (v : ℕ) where
  -- the new variable, and one of its class
  pub record Fresh (a b : Member) : Type 0 where
    pub is : a ≡ Variable v
    pub some : c ≢ class.NoClass
    pub like : IsPointerLike f (Variable v)
    pub other : (b ≡ Variable v) ⊎ (IsOfClass held c b × IsPointerLike f b)

  abbrev pub Before : Relation
  Before = Among f (HeldJoins held)

  abbrev pub After : Relation
  After = Among f (HeldJoins (held ++ (c, v) ∷ []))

  still : (a b : Member) → Before a b → After a b
  still a b r =
      ((r.0.0, r.0.1, holds_left held (c, v) r.0.0 a r.0.2, holds_left held (c, v) r.0.0 b r.0.3), r.1, r.2)

  -- what is joined now was before, or the new variable is one of the two
  after_cases : (a b : Member) → After a b → Before a b ⊎ (Fresh a b ⊎ Fresh b a)
  after_cases a b r = ⊎_elim
      (λ x. ⊎_elim
      (λ y. inl ((r.0.0, r.0.1, x, y), r.1, r.2))
      (λ y. inr (inr (fresh b a y r.2 (inr (subst (λ d. IsOfClass held d a) y.0 x, r.1)))))
      (holds_cases held c v r.0.0 b r.0.3))
      (λ x. ⊎_elim
      (λ y. inr (inl (fresh a b x r.1 (inr (subst (λ d. IsOfClass held d b) x.0 y, r.2)))))
      (λ y. inr (inl (fresh a b x r.1 (inl y.1))))
      (holds_cases held c v r.0.0 b r.0.3))
      (holds_cases held c v r.0.0 a r.0.2)
    where
      fresh : (x y : Member) → (r.0.0 ≡ c) × (x ≡ Variable v) → IsPointerLike f x
          → (y ≡ Variable v) ⊎ (IsOfClass held c y × IsPointerLike f y) → Fresh x y
      fresh x y e like other = record {
        is = e.1;
        some = λ n. r.0.1 (e.0 ∙ n);
        like = subst (IsPointerLike f) e.1 like;
        other = other;
      }

  -- ---- it is not joined

  abbrev pub IsIdle : Type 0
  IsIdle = c ≢ class.NoClass → IsPointerLike f (Variable v) → ⊥

  module _ {S : Type 0} (old labels : List ℕ) (holders : HashMap ℕ ℕ S)
      (h : Holding f old held labels holders) where
    abbrev Longer : List ℕ → HashMap ℕ ℕ S → Type 0
    Longer = Holding f old (held ++ (c, v) ∷ [])

    -- what was listed of a name, or the new variable
    listed_cases : (k w : ℕ) → Contains (held ++ (c, v) ∷ []) (class.Name k, w)
        → Contains held (class.Name k, w) ⊎ ((c ≡ class.Name k) × (v ≡ w))
    listed_cases k w m =
        ⊎_elim (λ l. inl l) (λ e. inr (ap (λ (q : Listed). q.0) e, ap (λ (q : Listed). q.1) e))
        (Contains-push_cases held (c, v) (class.Name k, w) m)

    pub holding_idle : IsIdle → Longer labels holders
    holding_idle idle = record {
      joined = joins_same old labels Before After (λ a b r. contains (Also old After) a b (inr (still a b r)))
          (λ a b r. contains (Also old Before) a b (inr (kept a b r))) h.joined;
      listed = λ k w e. Contains-append_left held ((c, v) ∷ []) (class.Name k, w) (h.listed k w e);
      each = λ k w m like. ⊎_elim (λ l. h.each k w l like)
          (λ e. absurd (idle (named e.0) (subst (λ x. IsPointerLike f (Variable x)) (sym e.1) like)))
          (listed_cases k w m);
    }
      where
        kept : (a b : Member) → After a b → Before a b
        kept a b r = ⊎_elim (λ x. x)
            (λ x. ⊎_elim (λ y. absurd (idle y.some y.like)) (λ y. absurd (idle y.some y.like)) x)
            (after_cases a b r)

        named : {k : ℕ} → c ≡ class.Name k → c ≢ class.NoClass
        named e n = cc

    -- ---- it is the first of its class

    pub holding_first : (k : ℕ) (holders' : HashMap ℕ ℕ S) → c ≡ class.Name k → get nat_eq holders k ≡ None
        → get nat_eq holders' k ≡ Some v → ((q : ℕ) → q ≢ k → get nat_eq holders' q ≡ get nat_eq holders q)
        → Longer labels holders'
    holding_first k holders' is none here others = record {
      joined = joins_same old labels Before After (λ a b r. contains (Also old After) a b (inr (still a b r))) back
          h.joined;
      listed = λ q w e. ⊎_elim
          (λ s. here_listed q w s (sym (ap (get nat_eq holders') s ∙ here) ∙ e))
          (λ n. Contains-append_left held ((c, v) ∷ []) (class.Name q, w) (h.listed q w (sym (others q n) ∙ e)))
          (cases_eq q k);
      each = λ q w m like e. ⊎_elim
          (λ s. none-some v (sym e ∙ ap (get nat_eq holders') s ∙ here))
          (λ n. ⊎_elim
          (λ l. h.each q w l like (sym (others q n) ∙ e))
          (λ l. n (name_is q (sym l.0 ∙ is)))
          (listed_cases q w m))
          (cases_eq q k);
    }
      where
        name_is : (q : ℕ) → class.Name q ≡ class.Name k → q ≡ k
        name_is q e = cc

        here_listed : (q w : ℕ) → q ≡ k → Some v ≡ Some w → Contains (held ++ (c, v) ∷ []) (class.Name q, w)
        here_listed q w s e =
            subst (λ (p : Listed). Contains (held ++ (c, v) ∷ []) p)
            (let p : ◌≡◌ {A = Listed} (c, v) (class.Name q, w) = cc (is, s, same_Some v w e) in p)
            (Contains-push held (c, v))

        alone : (b : Member) → IsOfClass held c b → IsPointerLike f b → ⊥
        alone (Variable w) m like = h.each k w (subst (λ d. Contains held (d, w)) is m) like none
        alone Result m like = m
        alone Global m like = cc

        same : (a b : Member) → Fresh a b → a ≡ b
        same a b x = ⊎_elim (λ e. x.is ∙ sym e) (λ o. absurd (alone b o.0 o.1)) x.other

        back : (a b : Member) → After a b → AreSame (Also old Before) a b
        back a b r = ⊎_elim
            (λ x. contains (Also old Before) a b (inr x))
            (λ x. reflexive (Also old Before) a b (⊎_elim (λ y. same a b y) (λ y. sym (same b a y)) x))
            (after_cases a b r)

    -- ---- it is joined with one of its class

    module _ (labels' : List ℕ) (fits : AreFor f old) (m : Member) (some : c ≢ class.NoClass)
        (like : IsPointerLike f (Variable v)) (m_holds : IsOfClass held c m) (m_like : IsPointerLike f m)
        (j : JoinsAlso labels (Pair (Variable v) m) labels') where
      abbrev Both : Relation
      Both = Either Before (Pair (Variable v) m)

      forth : (a b : Member) → Both a b → AreSame (Also old After) a b
      forth a b r = contains (Also old After) a b (inr (⊎_elim (λ x. still a b x) (λ x. new a b x) r))
        where
          new : (x y : Member) → Pair (Variable v) m x y → After x y
          new x y e = (
            (
              c,
              some,
              subst (λ z. IsOfClass (held ++ (c, v) ∷ []) c z) (sym e.0) (Contains-push held (c, v)),
              subst (λ z. IsOfClass (held ++ (c, v) ∷ []) c z) (sym e.1) (holds_left held (c, v) c m m_holds),
            ),
            subst (IsPointerLike f) (sym e.0) like,
            subst (IsPointerLike f) (sym e.1) m_like,
          )

      fresh_same : (a b : Member) → Fresh a b → AreSame (Also old Both) a b
      fresh_same a b x = ⊎_elim
          (λ e. reflexive (Also old Both) a b (x.is ∙ sym e))
          (λ o. transitive (Also old Both) a m b
          (contains (Also old Both) a m (inr (inr (x.is, refl))))
          (contains (Also old Both) m b (inr (inl ((c, some, m_holds, o.0), m_like, o.1)))))
          x.other

      back : (a b : Member) → After a b → AreSame (Also old Both) a b
      back a b r = ⊎_elim
          (λ x. contains (Also old Both) a b (inr (inl x)))
          (λ x. ⊎_elim (λ y. fresh_same a b y) (λ y. symmetric (Also old Both) b a (fresh_same b a y)) x)
          (after_cases a b r)

      pub holding_joined : ((k : ℕ) → c ≡ class.Name k → get nat_eq holders k ≢ None) → Longer labels' holders
      holding_joined named = record {
        joined = joins_same old labels' Both After forth back
            (joins_more old labels labels' Before (Pair (Variable v) m) (among_within f old (HeldJoins held) fits)
            h.joined j);
        listed = λ k w e. Contains-append_left held ((c, v) ∷ []) (class.Name k, w) (h.listed k w e);
        each = λ k w i l. ⊎_elim (λ o. h.each k w o l) (λ e. named k e.0) (listed_cases k w i);
      }

pub name_some : (k : ℕ) → class.Name k ≢ class.NoClass
name_some k e = cc

-- a name that is found is not another one
pub name_found : {S : Type 0} (holders : HashMap ℕ ℕ S) (n k v : ℕ) → get nat_eq holders n ≡ Some v
    → class.Name n ≡ class.Name k → get nat_eq holders k ≢ None
name_found holders n k v found e none = none-some v (sym none ∙ ap (get nat_eq holders) (same_name k n e) ∙ found)
  where
    same_name : (p q : ℕ) → class.Name q ≡ class.Name p → p ≡ q
    same_name p q s = cc

-- the keys that a change of one key leaves
pub others_apart : (q k : ℕ) → q ≢ k → nat_eq k q ≡ false
others_apart q k n = ne_eqb k q (λ e. n (sym e))

pub global_some : (c : Class) → c ≡ class.Global → c ≢ class.NoClass
global_some c e n = cc

pub global_unnamed : (c : Class) (k : ℕ) → c ≡ class.Global → c ≡ class.Name k → ⊥
global_unnamed c k e n = cc
