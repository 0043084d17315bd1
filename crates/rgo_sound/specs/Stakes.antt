-- Stakes: how they are counted. The machine stores a number for each region and lists for each goroutine; here the two agree.
use Rattle.std.specs.Prelude.{Bool, List, Some, [], false, if◌then◌else◌, nat_eq, slice_get, true, ℕ, ◌+◌, ◌∷◌, ◌≡◌}
use Rattle.rgo_region_machine.specs.Regions.{RegionInfo}
use Rattle.rgo_region_machine.specs.States.{Holder, RegionState, frames_of}

-- whether region r is listed
abbrev pub is_in : ℕ → List ℕ → Bool
is_in r [] = false
is_in r (x ∷ xs) = if nat_eq r x then true else is_in r xs

-- 1 for true, 0 for false: so a sum counts what is true
abbrev pub one_when : Bool → ℕ
one_when true = 1
one_when false = 0

-- how often region r is listed
abbrev pub times_in : ℕ → List ℕ → ℕ
times_in r [] = 0
times_in r (x ∷ xs) = one_when (nat_eq r x) + times_in r xs

-- the sum of f over the goroutines
abbrev pub total : (Holder → ℕ) → List Holder → ℕ
total f [] = 0
total f (h ∷ hs) = f h + total f hs

-- How many goroutines have a stake in a region, and how many stakes are pending for children. A goroutine counts once however often
-- the region is listed; a pending stake counts each time, since each was added to the region's number.
abbrev pub holders_of : RegionState → ℕ → ℕ
holders_of s r = total (λ h. one_when (is_in r h.stakes)) s.holders

-- how many stakes in region r are pending for children, over all goroutines
abbrev pub pending_of : RegionState → ℕ → ℕ
pending_of s r = total (λ h. times_in r h.pending) s.holders

-- A goroutine that has returned and owes nothing. Before the second holds it may still have to end its base.
abbrev pub HasEnded : RegionState → ℕ → Holder → Type 0
HasEnded s g h = (frames_of s.plain g ≡ []) × (h.duties ≡ [])

-- each count of stakes is right, and a goroutine that has ended has none
pub record StakesAreCounted (s : RegionState) : Type 0 where
  pub counted : (r : ℕ) (info : RegionInfo) → slice_get s.regions r ≡ Some info → info.stakes
      ≡ holders_of s r + pending_of s r
  pub ended : (g : ℕ) (h : Holder) → slice_get s.holders g ≡ Some h → HasEnded s g h → h.stakes ≡ []
