-- What a search for a free page leaves, and a claim.
use Rattle.std.specs.Prelude.{◌≡◌, ◌≢◌, ◌<◌, ◌≤◌, ◌+◌, ◌-◌, ℕ, List, [], ◌∷◌, ◌++◌, Option, Some, None}
use Rattle.rgo_core.specs.Rule.Histories.{access, accesses_by}
use Rattle.rgo_core.specs.Rule.Passes.{ChangesNothingBy}
use Rattle.rgo_core.specs.Rule.Views.{Me, number_of}
use Rattle.rgo_core.specs.Rule.declared.accesses.Access.{Access}
use Rattle.rgo_core.specs.Rule.declared.accesses.Kind.TheVariants.{ClaimPage, HangPage, LinkPage}
use Rattle.rgo_core.specs.Memory.Pages.{occurrences}
use Rattle.rgo_core.specs.Memory.Records.{Idle, with_claim}
use Rattle.rgo_core.specs.Memory.Words.{head_at, next_at, state_at}
use Rattle.rgo_core.specs.Memory.declared.layout.TableSizes.{TableSizes}
use Rattle.rgo_core.specs.Core.{Setup}
use Rattle.rgo_core.specs.runs.Opening.{first_of}
use Rattle.rgo_core.specs.Records.{Record, accessed, accesses}
use Rattle.rgo_core_steps.specs.Grown.{Found, SeatGrew, Made}
use Rattle.rgo_core_steps.specs.Pages.{claims_or_reserves, tried_page}
use Rattle.rgo_core_steps.specs.Searches.{AreTaken, Miss, TookFreePlace, TookOne, Tried, TriedAll, around, misses, missing, places_of, upward}
use Rattle.rgo_core_steps.specs.Seats.{mine}

-- The goroutine of seat m, whose record is c after its local steps, has exchanged the states of pages, each at most once. It found
-- those before this page in use and that of this page 0, and so has claimed this page for the slot, as an own page or as one of a
-- spread object.
abbrev pub PageTaken : Setup → TableSizes → (slot : ℕ) → (c : Record) → (page : ℕ) → (m w : Me Record) → Type 0
PageTaken T z s c p m w =
    TookOne accesses (first_of T.code) ClaimPage (state_at z) tried_page c z.pages p (s + 1) (λ d. claims_or_reserves T d p s) m w

-- it has exchanged the state of each page once, and found each in use
abbrev pub AllPagesTried : Setup → TableSizes → (c : Record) → (m w : Me Record) → Type 0
AllPagesTried T z c m w = TriedAll accesses (first_of T.code) ClaimPage (state_at z) tried_page c z.pages m w

-- one of both, by what the search returns
abbrev pub PageOrNone : Setup → TableSizes → (slot : ℕ) → (c : Record) → Option ℕ → (m w : Me Record) → Type 0
PageOrNone T z s c None m w = AllPagesTried T z c m w
PageOrNone T z s c (Some p) m w = (p < z.pages) × PageTaken T z s c p m w

-- it has exchanged the states from `first` to `end`, until it found one 0; stated for a part of the pages, since the search goes around
abbrev pub PagesTried : Setup → TableSizes → (slot first end : ℕ) → (c : Record) → Option ℕ → (m w : Me Record) → Type 0
PagesTried T z s first end c None m w =
    Tried accesses (first_of T.code) ClaimPage (state_at z) tried_page c (upward first (end - first)) m w
PagesTried T z s first end c (Some p) m w = (first ≤ p) × (p < end)
    × TookFreePlace accesses (first_of T.code) ClaimPage (state_at z) tried_page c (upward first (p - first)) p (s + 1) (λ d. claims_or_reserves T d p s) m w

-- the record after a page is claimed for a slot, hung on its chain and linked
abbrev pub has_claimed : Setup → Record → (page slot : ℕ) → Record
has_claimed T c p s = record (claims_or_reserves T c p s) {
  clock = accessed (accessed (claims_or_reserves T c p s).clock);
  memory = with_claim (claims_or_reserves T c p s).memory Idle;
}

-- the goroutine has put the page at the head of the chain of the slot, where it found `head`, and has stored that as its next word
pub record Hooked (T : Setup) (z : TableSizes) (c : Record) (page slot : ℕ) (m w : Me Record) : Type 0 where
  pub head : ℕ
  pub next : ℕ
  pub made : Made accesses (first_of T.code) m
      (λ g. access g HangPage (head_at z slot) head (page + 1) ∷ access g LinkPage (next_at z page) next head ∷ [])
      (record c { clock = accessed (accessed c.clock); memory = with_claim c.memory Idle }) w

-- The goroutine has found this page free as above, and has put it at the head of the chain of the slot: it found `head` there, and
-- stored that as the page's next word.
pub record PageClaimed (T : Setup) (z : TableSizes) (slot : ℕ) (c : Record) (page : ℕ) (m w : Me Record) : Type 0 where
  pub low : page < z.pages
  pub start : ℕ
  pub inside : start ≤ z.pages
  pub before : List ℕ
  pub after : List ℕ
  pub order : around start z.pages ≡ before ++ page ∷ after
  pub tries : List Miss
  pub are : places_of tries ≡ before
  pub taken : AreTaken tries
  pub head : ℕ
  pub next : ℕ
  pub made : Made accesses (first_of T.code) m
      (λ g. misses ClaimPage (state_at z) tries g
      ++ access g ClaimPage (state_at z page) 0 (slot + 1)
      ∷ access g HangPage (head_at z slot) head (page + 1)
      ∷ access g LinkPage (next_at z page) next head ∷ [])
      (has_claimed T (missing tried_page c tries) page slot) w

-- A search in vain made one exchange for each page, and changed no word. Each page was found in use, and the record remembers it.
pub record FullPages (T : Setup) (z : TableSizes) (c : Record) (m w : Me Record) : Type 0 where
  pub es : List Access
  pub grew : SeatGrew accesses (first_of T.code) m es w
  pub made : accesses_by (number_of m) es ≡ z.pages
  pub still : ChangesNothingBy (number_of m) es
  pub found : (p : ℕ) → p < z.pages → (n : ℕ) × (n ≢ 0) × Found (number_of m) es ClaimPage (state_at z p) n
  pub remembered : (p : ℕ) → p < z.pages → 0 < occurrences p (mine T w).memory.tried_pages

abbrev pub FullPagesLaw : Type 0
FullPagesLaw = (T : Setup) (z : TableSizes) (c : Record) (m w : Me Record) → AllPagesTried T z c m w → FullPages T z c m w
