-- The least equivalence that contains a relation: a chain of joins, each taken in either direction.
use Rattle.std.specs.Prelude.{◌≡◌, ◌⊎◌, ℕ, zero, suc}

module _ {A : Type 0} (Joins : A → A → Type 0) where
  -- a chain of this number of joins leads from a to b
  abbrev pub Chain : (links : ℕ) → A → A → Type 0
  Chain zero a b = a ≡ b
  Chain (suc n) a b = (c : A) × (Joins a c ⊎ Joins c a) × Chain n c b

  -- a and b are linked by a chain of any length, which may be 0: each is the same as itself
  abbrev pub AreSame : A → A → Type 0
  AreSame a b = (links : ℕ) × Chain links a b

  -- It is an equivalence that contains the joins, and every labelling that respects the joins respects it.
  pub record IsLeastEquivalence : Type 0 where
    pub contains : (a b : A) → Joins a b → AreSame a b
    pub reflexive : (a : A) → AreSame a a
    pub symmetric : (a b : A) → AreSame a b → AreSame b a
    pub transitive : (a b c : A) → AreSame a b → AreSame b c → AreSame a c
    pub least : (label : A → ℕ) → ((a b : A) → Joins a b → label a ≡ label b)
        → (a b : A) → AreSame a b → label a ≡ label b
