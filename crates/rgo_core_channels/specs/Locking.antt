-- Locking a channel, and its cells under the lock. Nobody waits for a lock: a goroutine that finds one, or whose exchange fails,
-- returns, and its turn decides when to try again.
use Rattle.std.specs.Prelude.{◌≡◌, ◌≢◌, ◌⊎◌, ℕ, suc, ◌+◌, ◌%◌, ◌<◌, ◌==◌, false, if◌then◌else◌}
use Rattle.rgo_core_channels.specs.Controls.{count_of, extent, head_of, spreads}
use Rattle.rgo_core_channels.specs.Moments.{KeepsState, Law, LoadsWord}
use Rattle.rgo_core_channels.specs.Records.{Free, Locked, Reached, Read, ChannelRec, Sized, Wrote, with_hold, with_lock}
use Rattle.rgo_core_channels.specs.Standing.{IsAt}

-- By the control and the capacity the cell holds nothing: no value of the queue, and no offer that was not taken. A taken offer may be
-- overwritten, since its receiver has loaded it.
abbrev pub IsSpare : (found capacity cell : ℕ) → Type 0
IsSpare n capacity i = (i < extent capacity)
    × ((j : ℕ) → j < count_of n → 0 < capacity → (head_of n + j) % capacity ≢ i) × (capacity ≡ 0 → count_of n ≢ 1)

-- An unlocked control is exchanged for the locked one. If it is still n, the channel is as it was when n was loaded, even if it has
-- changed and changed back: the law needs the control alone. Otherwise nothing changes.
abbrev pub LockLaw : Type 0
LockLaw = Law (λ T g c. (a n : ℕ) → IsAt T.code T.place T.state g c.post a → n % 2 ≡ 0 → c.hold ≡ Free
    → KeepsState T g a (λ w. if w == n then suc n else w) (with_lock c a n))

-- by what the record knows, the cell is at that word: after the capacity, if the channel fits a page; or where it was found
abbrev pub IsCell : (page_words : ℕ) → ChannelRec → (at capacity cell word : ℕ) → Type 0
IsCell page_words c a capacity i w =
    ((spreads page_words capacity ≡ false) × (w ≡ a + 2 + i)) ⊎ (c.reach ≡ Reached a i w)

-- A cell is loaded. Its value is remembered with the control that was found, so that the commit can name both.
abbrev pub CellLoadLaw : Type 0
CellLoadLaw = Law (λ T g c. (a n i size p : ℕ) → c.hold ≡ Locked a n → c.size ≡ Sized a size → i < extent size
    → IsCell T.page_words c a size i p → LoadsWord T g p (λ w. with_hold c (Read a n i w)))

-- a cell that holds nothing is stored
abbrev pub CellStoreLaw : Type 0
CellStoreLaw = Law (λ T g c. (a n i size p x : ℕ) → c.hold ≡ Locked a n → c.size ≡ Sized a size → IsSpare n size i
    → IsCell T.page_words c a size i p → KeepsState T g p (λ w. x) (λ w. with_hold c (Wrote a n i x)))
