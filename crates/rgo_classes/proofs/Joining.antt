-- Labels under joins that are made one after another: the labels of some joins and then of more are those of all. So each function may
-- state its own joins only.
use Rattle.std.proofs.Common.{◌≡◌, ◌⊎◌, inl, inr, ⊎_elim, ◌↔◌, ℕ, List, refl, sym, ap, ◌∙◌, arith}
use Rattle.rgo_tac.specs.declared.regions.Member.{Member}
use Rattle.rgo_classes.specs.Labels.{Also, AreLabels, IsIn, JoinsAlso, NoJoins, Pair, label_of, member_index}
use Rattle.rgo_classes.specs.Moves.{Merges}
use Rattle.rgo_classes.specs.Same.{AreSame}
use Rattle.rgo_classes.proofs.Chains.{along, contains, labelled, symmetric, transitive}

abbrev pub Relation : Type 1
Relation = Member → Member → Type 0

-- the joins of the one and those of the other
abbrev pub Either : Relation → Relation → Relation
Either R S a b = R a b ⊎ S a b

-- these joins are of members that have labels
abbrev pub Within : List ℕ → Relation → Type 0
Within labels R = (a b : Member) → R a b → IsIn labels a × IsIn labels b

-- ---- two members are joined

module _ (old new : List ℕ) (a b : Member) (ia : IsIn old a) (ib : IsIn old b)
    (m : Merges old new (member_index a) (member_index b)) where
  abbrev All : Relation
  All = Also old (Pair a b)

  met : AreSame All a b
  met = contains All a b (inr (refl, refl))

  kept : (x y : Member) → IsIn old x → IsIn old y → label_of old x ≡ label_of old y → AreSame All x y
  kept x y ix iy e = contains All x y (inl (ix, iy, e))

  across : (x y : Member) → IsIn old x → IsIn old y → label_of old x ≡ label_of old a
      → label_of old y ≡ label_of old b → AreSame All x y
  across x y ix iy ex ey =
      transitive All x a y (kept x a ix ia ex) (transitive All a b y met (kept b y ib iy (sym ey)))

  joined : (x y : Member) → IsIn old x → IsIn old y → label_of new x ≡ label_of new y → AreSame All x y
  joined x y ix iy e = ⊎_elim
      (λ s. kept x y ix iy s)
      (λ t. ⊎_elim
      (λ s. across x y ix iy s.0 s.1)
      (λ s. symmetric All y x (across y x iy ix s.1 s.0))
      t)
      (m.only (member_index x) (member_index y) ix iy e)

  respects : (x y : Member) → All x y → label_of new x ≡ label_of new y
  respects x y h = ⊎_elim
      (λ o. m.kept (member_index x) (member_index y) o.0 o.1 o.2)
      (λ p. ap (label_of new) p.0 ∙ m.met ∙ sym (ap (label_of new) p.1))
      h

  pub joins_pair : JoinsAlso old (Pair a b) new
  joins_pair = record {
    len = m.size;
    labels = λ x y ix iy. (
      λ e. joined x y (omega (arith, ix, m.size)) (omega (arith, iy, m.size)) e,
      λ s. labelled All (label_of new) respects x y s,
    );
  }

-- ---- the same joins

pub labels_same : (labels : List ℕ) (J K : Relation) → ((a b : Member) → J a b → AreSame K a b)
    → ((a b : Member) → K a b → AreSame J a b) → AreLabels J labels → AreLabels K labels
labels_same labels J K forth back are a b ia ib = (
  λ e. along J K forth a b ((are a b ia ib).0 e),
  λ s. (are a b ia ib).1 (along K J back a b s),
)

pub joins_same : (old new : List ℕ) (R S : Relation) → ((a b : Member) → R a b → AreSame (Also old S) a b)
    → ((a b : Member) → S a b → AreSame (Also old R) a b) → JoinsAlso old R new → JoinsAlso old S new
joins_same old new R S forth back j = record {
  len = j.len;
  labels = labels_same new (Also old R) (Also old S)
      (λ a b h. ⊎_elim (λ o. contains (Also old S) a b (inl o)) (λ r. forth a b r) h)
      (λ a b h. ⊎_elim (λ o. contains (Also old R) a b (inl o)) (λ s. back a b s) h)
      j.labels;
}

-- the one says the same as the other
pub joins_equal : (old new : List ℕ) (R S : Relation) → ((a b : Member) → R a b ↔ S a b)
    → JoinsAlso old R new → JoinsAlso old S new
joins_equal old new R S same j =
    joins_same old new R S (λ a b r. contains (Also old S) a b (inr ((same a b).0 r)))
    (λ a b s. contains (Also old R) a b (inr ((same a b).1 s))) j

-- ---- no new join

pub joins_still : (labels : List ℕ) (R : Relation)
    → ((a b : Member) → R a b → label_of labels a ≡ label_of labels b) → JoinsAlso labels R labels
joins_still labels R still = record {
  len = refl;
  labels = λ a b ia ib. (
    λ e. contains (Also labels R) a b (inl (ia, ib, e)),
    λ s. labelled (Also labels R) (label_of labels) (λ x y h. ⊎_elim (λ o. o.2) (λ r. still x y r) h) a b s,
  );
}

pub joins_none : (labels : List ℕ) (R : Relation) → ((a b : Member) → R a b → ⊥) → JoinsAlso labels R labels
joins_none labels R none = joins_still labels R (λ a b r. absurd (none a b r))

-- ---- joins after joins

module _ (J : Relation) (old new : List ℕ) (R : Relation) (within : Within old J) (are : AreLabels J old)
    (j : JoinsAlso old R new) where
  forth : (a b : Member) → Also old R a b → AreSame (Either J R) a b
  forth a b h = ⊎_elim
      (λ o. along J (Either J R) (λ x y g. contains (Either J R) x y (inl g)) a b ((are a b o.0 o.1).0 o.2))
      (λ r. contains (Either J R) a b (inr r))
      h

  back : (a b : Member) → Either J R a b → AreSame (Also old R) a b
  back a b h = ⊎_elim
      (λ g. let w = within a b g in
      contains (Also old R) a b (inl (w.0, w.1, (are a b w.0 w.1).1 (contains J a b g))))
      (λ r. contains (Also old R) a b (inr r))
      h

  -- the labels of some joins and then of more are those of all
  pub labels_more : AreLabels (Either J R) new
  labels_more = labels_same new (Also old R) (Either J R) forth back j.labels

-- the labels of no joins and then of some are those of these
pub labels_first : (old new : List ℕ) (R : Relation) → AreLabels NoJoins old → JoinsAlso old R new
    → AreLabels R new
labels_first old new R are j =
    labels_same new (Either NoJoins R) R (λ a b h. ⊎_elim (λ n. absurd n) (λ r. contains R a b r) h)
    (λ a b r. contains (Either NoJoins R) a b (inr r)) (labels_more NoJoins old new R (λ a b n. absurd n) are j)

abbrev Three : (old : List ℕ) → Relation → Relation → Relation
Three old R S = Either (Also old R) S

pub joins_more : (old mid new : List ℕ) (R S : Relation) → Within old R → JoinsAlso old R mid → JoinsAlso mid S new
    → JoinsAlso old (Either R S) new
joins_more old mid new R S within first second = record {
  len = second.len ∙ first.len;
  labels = labels_same new (Three old R S) (Also old (Either R S))
      (λ a b h. contains (Also old (Either R S)) a b (right a b h))
      (λ a b h. contains (Three old R S) a b (left a b h))
      (labels_more (Also old R) mid new S inside first.labels second);
}
  where
    inside : Within mid (Also old R)
    inside a b h = ⊎_elim
        (λ o. (omega (arith, o.0, first.len), omega (arith, o.1, first.len)))
        (λ r. let w = within a b r in (omega (arith, w.0, first.len), omega (arith, w.1, first.len)))
        h

    right : (a b : Member) → Three old R S a b → Also old (Either R S) a b
    right a b h = ⊎_elim (λ l. ⊎_elim (λ o. inl o) (λ r. inr (inl r)) l) (λ s. inr (inr s)) h

    left : (a b : Member) → Also old (Either R S) a b → Three old R S a b
    left a b h = ⊎_elim (λ o. inl (inl o)) (λ e. ⊎_elim (λ r. inl (inr r)) (λ s. inr s) e) h
