-- How joins of a function's nodes are carried to the nodes of its callers.
use Rattle.std.specs.Prelude.{ℕ, ◌+◌}

-- `Spreads f x y`: nodes x and y of function f are equivalent in the least relation that contains the first joins and
-- is carried from each callee to its callers. The nodes that a call has for its callee's members are numbered from a base on. Each
-- number is equivalent to itself, whether or not it is a node, so no clause needs a bound.
module _ (First : ℕ → ℕ → ℕ → Type 0) (Inside : ℕ → ℕ → Type 0) (Carries : ℕ → ℕ → ℕ → Type 0) where
  pub data Spreads : ℕ → ℕ → ℕ → Type 0 where
    first : {f x y : ℕ} → First f x y → Spreads f x y
    carried : {g f base x y : ℕ} → Carries g f base → Inside g x → Inside g y → Spreads g x y
        → Spreads f (base + x) (base + y)
    itself : (f x : ℕ) → Spreads f x x
    turned : {f x y : ℕ} → Spreads f x y → Spreads f y x
    chained : {f x y z : ℕ} → Spreads f x y → Spreads f y z → Spreads f x z
