-- What the return of a chain leaves.
use Rattle.std.specs.Prelude.{◌≡◌, ◌≤◌, ◌+◌, ◌-◌, ◌*◌, ℕ, suc, List, [], ◌∷◌, ◌++◌, length}
use Rattle.rgo_core.specs.Rule.Histories.{access}
use Rattle.rgo_core.specs.Rule.Views.{Me}
use Rattle.rgo_core.specs.Rule.declared.accesses.Access.{Access}
use Rattle.rgo_core.specs.Rule.declared.accesses.Kind.TheVariants.{ClearHead, FreePage, LoadHead, LoadNext}
use Rattle.rgo_core.specs.Memory.Records.{Gave, Giving, Past, with_give}
use Rattle.rgo_core.specs.Memory.Words.{head_at, next_at, state_at}
use Rattle.rgo_core.specs.Memory.declared.layout.TableSizes.{TableSizes}
use Rattle.rgo_core.specs.moves.Chains.{frees, remembers}
use Rattle.rgo_core.specs.Core.{Setup}
use Rattle.rgo_core.specs.runs.Opening.{first_of}
use Rattle.rgo_core.specs.Records.{Record, accesses}
use Rattle.rgo_core_steps.specs.Grown.{Made}

-- a page that was freed: its next word and its state as they were found
pub record Freed : Type 0 where
  pub page : ℕ
  pub next : ℕ
  pub state : ℕ

-- From this link on each page is the one before it linked to, up to this link. A chain that ends with 0 has all pages of its slot.
abbrev pub LinksLeadTo : (from : ℕ) → List Freed → (to : ℕ) → Type 0
LinksLeadTo from [] to = from ≡ to
LinksLeadTo from (f ∷ fs) to = (from ≡ suc f.page) × LinksLeadTo f.next fs to

-- What goroutine g does with the pages: it loads the next word of each before it frees it, since a free page may get another next word.
abbrev pub freeing : TableSizes → List Freed → (g : ℕ) → List Access
freeing z [] g = []
freeing z (f ∷ fs) g =
    access g LoadNext (next_at z f.page) f.next f.next ∷ access g FreePage (state_at z f.page) f.state 0 ∷ freeing z fs g

-- the record after it has freed one page of a chain
abbrev pub freed_one : Record → (slot page next : ℕ) → Record
freed_one c s p q = frees (remembers c (with_give c.memory (Past s (p + 1) q))) s q

-- the goroutine has loaded the next word of this page, and then freed it
pub record OneFreed (T : Setup) (z : TableSizes) (slot : ℕ) (c : Record) (page next : ℕ) (m w : Me Record) : Type 0 where
  pub state : ℕ
  pub made : Made accesses (first_of T.code) m (freeing z (record { page = page; next = next; state = state } ∷ []))
      (freed_one c slot page next) w

-- the record after it has loaded the head and freed n pages, where this link leads to the next one
abbrev pub giving : Record → (slot n cursor : ℕ) → Record
giving c s n cursor = record c {
  clock = record c.clock {
    share = record c.clock.share { returned = c.clock.share.returned + n };
    owed = c.clock.owed - n;
    accesses = c.clock.accesses + (2 * n + 1);
  };
  memory = with_give c.memory (Giving s cursor);
}

-- the goroutine has loaded the head of the chain and freed n pages
pub record ChainGiven (T : Setup) (z : TableSizes) (slot : ℕ) (c : Record) (n cursor : ℕ) (m w : Me Record) : Type 0 where
  pub head : ℕ
  pub freed : List Freed
  pub chain : LinksLeadTo head freed cursor
  pub count : length freed ≡ n
  -- so the difference of the two is what is left to free
  pub low : n ≤ c.clock.owed
  pub made : Made accesses (first_of T.code) m (λ g. access g LoadHead (head_at z slot) head head ∷ freeing z freed g)
      (giving c slot n cursor) w

-- the record after it has returned all pages that it owed, those of the chain of this slot
abbrev pub gave_back : Record → (slot : ℕ) → Record
gave_back c s = record c {
  clock = record c.clock {
    share = record c.clock.share { returned = c.clock.share.returned + c.clock.owed };
    owed = 0;
    accesses = c.clock.accesses + (2 * c.clock.owed + 2);
  };
  memory = with_give c.memory (Gave s);
}

-- The goroutine has loaded the head of the chain, then it has freed page after page to the end of the chain, n in all, and then
-- cleared the head.
pub record ChainGivenBack (T : Setup) (z : TableSizes) (slot : ℕ) (c : Record) (n : ℕ) (m w : Me Record) : Type 0 where
  pub head : ℕ
  pub freed : List Freed
  pub cleared : ℕ
  pub chain : LinksLeadTo head freed 0
  pub count : length freed ≡ n
  pub made : Made accesses (first_of T.code) m
      (λ g. access g LoadHead (head_at z slot) head head ∷ freeing z freed g ++ access g ClearHead (head_at z slot) cleared 0 ∷ [])
      (gave_back c slot) w
