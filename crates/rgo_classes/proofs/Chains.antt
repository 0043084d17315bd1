-- Chains of joins: being the same is the least equivalence that contains the joins, by induction on the number of links.
use Rattle.std.proofs.Common.{◌≡◌, inl, inr, ⊎_elim, ℕ, zero, suc, refl, sym, ap, ◌∙◌, subst}
use Rattle.rgo_classes.specs.Same.{Chain, AreSame, IsLeastEquivalence}

pub contains : {A : Type 0} (J : A → A → Type 0) (a b : A) → J a b → AreSame J a b
contains J a b h = (1, (b, inl h, refl))

pub reflexive : {A : Type 0} (J : A → A → Type 0) (a b : A) → a ≡ b → AreSame J a b
reflexive J a b e = (0, e)

chained_on : {A : Type 0} (J : A → A → Type 0) (n : ℕ) (a b c : A) → Chain J n a b → AreSame J b c → AreSame J a c
chained_on J zero a b c e s = subst (λ m. AreSame J m c) (sym e) s
chained_on J (suc n) a b c e s = let rest = chained_on J n e.0 b c e.2 s in (suc rest.0, (e.0, e.1, rest.1))

pub transitive : {A : Type 0} (J : A → A → Type 0) (a b c : A) → AreSame J a b → AreSame J b c → AreSame J a c
transitive J a b c s t = chained_on J s.0 a b c s.1 t

turned_on : {A : Type 0} (J : A → A → Type 0) (n : ℕ) (a b : A) → Chain J n a b → AreSame J b a
turned_on J zero a b e = (0, sym e)
turned_on J (suc n) a b e =
    transitive J b e.0 a (turned_on J n e.0 b e.2) (1, (a, ⊎_elim (λ h. inr h) (λ h. inl h) e.1, refl))

pub symmetric : {A : Type 0} (J : A → A → Type 0) (a b : A) → AreSame J a b → AreSame J b a
symmetric J a b s = turned_on J s.0 a b s.1

along_on : {A : Type 0} (J K : A → A → Type 0) → ((a b : A) → J a b → AreSame K a b)
    → (n : ℕ) (a b : A) → Chain J n a b → AreSame K a b
along_on J K keeps zero a b e = (0, e)
along_on J K keeps (suc n) a b e =
    transitive K a e.0 b (⊎_elim (λ h. keeps a e.0 h) (λ h. symmetric K e.0 a (keeps e.0 a h)) e.1)
    (along_on J K keeps n e.0 b e.2)

-- what each join leads to, a chain of joins leads to
pub along : {A : Type 0} (J K : A → A → Type 0) → ((a b : A) → J a b → AreSame K a b)
    → (a b : A) → AreSame J a b → AreSame K a b
along J K keeps a b s = along_on J K keeps s.0 a b s.1

labelled_on : {A : Type 0} (J : A → A → Type 0) (label : A → ℕ) → ((a b : A) → J a b → label a ≡ label b)
    → (n : ℕ) (a b : A) → Chain J n a b → label a ≡ label b
labelled_on J label keeps zero a b e = ap label e
labelled_on J label keeps (suc n) a b e =
    ⊎_elim (λ h. keeps a e.0 h) (λ h. sym (keeps e.0 a h)) e.1 ∙ labelled_on J label keeps n e.0 b e.2

-- a labelling that respects the joins respects chains of them
pub labelled : {A : Type 0} (J : A → A → Type 0) (label : A → ℕ) → ((a b : A) → J a b → label a ≡ label b)
    → (a b : A) → AreSame J a b → label a ≡ label b
labelled J label keeps a b s = labelled_on J label keeps s.0 a b s.1

pub is_least : {A : Type 0} (J : A → A → Type 0) → IsLeastEquivalence J
is_least J = record {
  contains = contains J;
  reflexive = λ a. reflexive J a a refl;
  symmetric = symmetric J;
  transitive = transitive J;
  least = labelled J;
}
