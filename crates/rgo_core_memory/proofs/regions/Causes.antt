-- If a search found every page claimed, as many were taken as there are; if it found every slot in use, as many regions were created. By
-- the pigeonhole principle: the pages of the steps so far, as a list, have every page, so it is at least as long.
use Rattle.std.proofs.Common.{◌≡◌, ℕ, zero, suc, ◌+◌, ◌<◌, ◌≤◌, List, [], ◌∷◌, length, refl, ap, sym, ◌∙◌, inr, arith}
use mathlib.Core.Logic.{dite}
use native.Mathlib.Decide.{ℕ_discrete}
use Rattle.rgo_core_memory.specs.declared.layout.TableSizes.{TableSizes}
use Rattle.rgo_core_memory.specs.Records.{Rec, HasRecord}
use Rattle.rgo_core_memory.specs.Ground.{Ground, taken_of}
use Rattle.rgo_core_memory.specs.Pages.{occurrences}
use Rattle.rgo_core_memory.specs.Image.{MemoryImage, Where}
use Rattle.rgo_core_memory.proofs.pages.Chains.{times_first, times_else}

-- how often the numbers below n occur in a list
abbrev spread : ℕ → List ℕ → ℕ
spread zero l = 0
spread (suc n) l = occurrences n l + spread n l

spread_none : (n : ℕ) → spread n [] ≡ 0
spread_none zero = refl
spread_none (suc n) = let a = spread_none n in omega arith

spread_out : (n y : ℕ) (l : List ℕ) → n ≤ y → spread n (y ∷ l) ≡ spread n l
spread_out zero y l h = refl
spread_out (suc n) y l h = let a = times_else n y l (λ e. omega arith) in let b = spread_out n y l (omega arith) in omega arith

spread_cons : (n y : ℕ) (l : List ℕ) → spread n (y ∷ l) ≤ suc (spread n l)
spread_cons zero y l = omega arith
spread_cons (suc n) y l = dite (ℕ_discrete y n)
    (λ e. let a = times_first n y l e in let b = spread_out n y l (omega arith) in omega arith)
    (λ ne. let a = times_else n y l ne in let b = spread_cons n y l in omega arith)

spread_most : (n : ℕ) (l : List ℕ) → spread n l ≤ length l
spread_most n [] = let a = spread_none n in omega arith
spread_most n (y ∷ l) = let a = spread_cons n y l in let b = spread_most n l in omega arith

-- a list in which each of n numbers occurs has at least n elements
onto : (n : ℕ) (l : List ℕ) → ((r : ℕ) → r < n → 0 < occurrences r l) → n ≤ length l
onto n l all = let a = go n (λ r h. all r h) in let b = spread_most n l in omega arith
  where
    go : (m : ℕ) → ((r : ℕ) → r < m → 0 < occurrences r l) → m ≤ spread m l
    go zero all = omega arith
    go (suc m) all = let a = go m (λ r h. all r (omega arith)) in let b = all m (omega arith) in omega arith

-- the first n values of a function
abbrev row : (ℕ → ℕ) → ℕ → List ℕ
row f zero = []
row f (suc n) = f n ∷ row f n

row_length : (f : ℕ → ℕ) (n : ℕ) → length (row f n) ≡ n
row_length f zero = refl
row_length f (suc n) = ap suc (row_length f n)

row_has : (f : ℕ → ℕ) (n k p : ℕ) → k < n → f k ≡ p → 0 < occurrences p (row f n)
row_has f zero k p l e = absurd (omega arith)
row_has f (suc n) k p l e = dite (ℕ_discrete (f n) p)
    (λ y. let t = times_first p (f n) (row f n) y in omega arith)
    (λ ne. let t = times_else p (f n) (row f n) ne in let r = row_has f n k p (dite (ℕ_discrete k n) (λ q. absurd (ne (ap f (sym q)
    ∙ e))) (λ m. omega (arith, l, m))) e in omega arith)

covered : (f : ℕ → ℕ) (n m : ℕ) → ((p : ℕ) → p < n → (k : ℕ) × (k < m) × (f k ≡ p)) → n ≤ m
covered f n m all = let a = onto n (row f m) (λ p l. let t = all p l in row_has f m t.0 p t.1 t.2) in let b = row_length f m in omega arith

module _ (z : TableSizes) (words : List ℕ) (recs : List Rec) (x : Ground) (places : Where) (k : MemoryImage z words recs x places) (g : ℕ) (c : Rec)
    (own : HasRecord recs g c) where
  pub pages_spent : ((p : ℕ) → p < z.pages → 0 < occurrences p c.tried_pages) → z.pages ≤ taken_of x
  pages_spent all = covered places.page z.pages (taken_of x) (λ p l. k.taken.pages p (inr (g, c, own, all p l)))

  pub slots_spent : ((s : ℕ) → s < z.slots → 0 < occurrences s c.tried_slots) → z.slots ≤ length x.regions
  slots_spent all = covered places.slot z.slots (length x.regions) (λ s l. k.taken.slots s l (inr (g, c, own, all s l)))
