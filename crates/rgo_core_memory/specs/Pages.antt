-- Pages, the chains on which they are, and who is at work on them. A chain has no lock. That it is never claimed into and returned at
-- the same time follows from stakes: a claimer has one, and a chain is returned when none is left.
use Rattle.std.specs.Prelude.{◌≡◌, ◌⊎◌, ℕ, suc, ◌<◌, ◌≤◌, ◌==◌, List, [], ◌∷◌, if◌then◌else◌}
use Rattle.rgo_core_memory.specs.Records.{Rec, HasRecord, Got, Hung, Past, Gave, ReturnsChain}

-- where a page is: free, on the chain of a slot, or claimed by a goroutine
pub data Place : Type 0 where
  Free : Place
  Chained : (slot : ℕ) → Place
  Claimed : (goroutine : ℕ) → Place

abbrev pub occurrences : ℕ → List ℕ → ℕ
occurrences x [] = 0
occurrences x (y ∷ ys) = if y == x then suc (occurrences x ys) else occurrences x ys

-- from this head the links lead through these pages, to the end
abbrev pub PageChain : (ℕ → ℕ) → ℕ → List ℕ → Type 0
PageChain link h [] = h ≡ 0
PageChain link h (p ∷ ps) = (h ≡ suc p) × PageChain link (link p) ps

-- Beside the words: where each page is, the chain of each slot, the true next of each page, which is in its word or in the record of
-- its claimer, and the true head of each chain, which is in its word or in the record of the goroutine that returns it. `once`
-- makes the loop over a chain end: a page that was freed cannot come again.
pub record Pages (states nexts heads : ℕ → ℕ) (recs : List Rec) (at : ℕ → Place) (chain : ℕ → List ℕ) (link top : ℕ
    → ℕ) : Type 0
  where
    -- a state shows only whether a page is free; whether it is on its chain already, the record of its claimer knows
    pub is_free : (p : ℕ) → at p ≡ Free → states p ≡ 0
    pub is_chained : (p r : ℕ) → at p ≡ Chained r → (states p ≡ suc r) × (0 < occurrences p (chain r))
    pub is_claimed : (p g : ℕ) → at p ≡ Claimed g → (r : ℕ) × (c : Rec) × HasRecord recs g c × (c.claim ≡ Got p r)
        × (states p ≡ suc r)
    -- a page is on one chain, and there once: with the first page that is freed, the chain is shorter for good
    pub on : (r p : ℕ) → 0 < occurrences p (chain r) → at p ≡ Chained r
    pub once : (r p : ℕ) → occurrences p (chain r) ≤ 1
    pub chains : (r : ℕ) → PageChain link (top r) (chain r)
    -- a next word may be wrong only until the claimer has stored it, and until then it has a stake, so nobody reads the word
    pub links : (p r : ℕ) → at p ≡ Chained r → (nexts p ≡ link p) ⊎ ((g : ℕ) × (c : Rec) × HasRecord recs g c
        × (c.claim ≡ Hung p r (link p)))
    -- a head word may be wrong only while a goroutine returns the chain, and that one has the true head in its record
    pub tops : (r : ℕ) → (top r ≡ heads r) ⊎ ((g : ℕ) × (c : Rec) × HasRecord recs g c × ReturnsChain c.give r (top r))
    -- what a record has done by halves is so, hence it can go on without looking at the table
    pub gots : (g p r : ℕ) (c : Rec) → HasRecord recs g c → c.claim ≡ Got p r → (at p ≡ Claimed g) × (states p ≡ suc r)
    pub hungs : (g p r old : ℕ) (c : Rec) → HasRecord recs g c → c.claim ≡ Hung p r old → (at p ≡ Chained r) × (link p ≡ old)
    pub cursors : (g r h : ℕ) (c : Rec) → HasRecord recs g c → ReturnsChain c.give r h → top r ≡ h
    pub pasts : (g r p q : ℕ) (c : Rec) → HasRecord recs g c → c.give ≡ Past r (suc p) q → link p ≡ q
    -- only an empty chain with head 0 may be left to the next region of the slot
    pub gaves : (g r : ℕ) (c : Rec) → HasRecord recs g c → c.give ≡ Gave r → (heads r ≡ 0) × (chain r ≡ [])
