-- Accesses to a channel before its operation takes effect: the control, the capacity and cells are loaded, the control is locked, and
-- a cell is stored. The region machine makes no step, so others that look at the channel see it as before. A goroutine that is at the
-- channel may make them; those to cells need the lock.
use Rattle.std.specs.Prelude.{◌≡◌, ◌⊎◌, ◌+◌, ◌-◌, ◌/◌, ◌%◌, ◌^◌, true, ◌<◌, ◌≤◌, ◌==◌, ℕ, suc, if◌then◌else◌}
use Rattle.rgo_core_channels.specs.Controls.{count_of, extent, tail_words, head_of, spreads}
use Rattle.rgo_core_channels.specs.Locking.{IsCell, IsSpare}
use Rattle.rgo_core_channels.specs.Records.{Free, Locked, Offering, Read, Sized, Wrote, with_hold, with_lock, with_look, with_own_look, with_reach, with_size}
use Rattle.rgo_core_memory.specs.Words.{all_words, cell_at}
use Rattle.rgo_core.specs.ties.AtChannels.{IsAtChannel, knows}
use Rattle.rgo_core.specs.Core.{Setup, layout}
use Rattle.rgo_core.specs.Records.{Record}
use Rattle.rgo_core.specs.Steps.{Moves}

-- The control is loaded. What was found leaves room for what a commit adds; and its head is a cell, if the capacity is known. So the
-- code needs no test against overflow or a bad head.
abbrev pub ControlMove : Type 0
ControlMove = (T : Setup) (g : ℕ) (c : Record) (a : ℕ) → IsAtChannel T c a
    → Moves T g c a (λ n. n) (λ n d. (d ≡ knows c (with_look c.side a n)) × (n + 4 < 2 ^ 64)
    × ((size : ℕ) → c.side.size ≡ Sized a size → head_of n < extent size))

-- A goroutine loads the control of the channel at which its offer is: the offer is not taken, or it is. Phase 0 cannot be found, since
-- only this goroutine leads from 2 to 0.
abbrev pub OwnControlMove : Type 0
OwnControlMove = (T : Setup) (g : ℕ) (c : Record) (a : ℕ) → c.side.post ≡ Offering a
    → Moves T g c a (λ n. n) (λ n d. (d ≡ knows c (with_own_look c.side a n)) × (n + 4 < 2 ^ 64)
    × ((count_of n ≡ 1) ⊎ (count_of n ≡ 2)))

-- The capacity is loaded. It is small, and the words that follow it are in the table.
abbrev pub CapacityMove : Type 0
CapacityMove = (T : Setup) (g : ℕ) (c : Record) (a : ℕ) → IsAtChannel T c a
    → Moves T g c (a + 1) (λ n. n) (λ n d. (d ≡ knows c (with_size c.side a n)) × (n < 1073741820)
    × (a + 2 + tail_words T.sizes.page_words n ≤ all_words (layout T)))

-- An unlocked control is exchanged for the locked one. One lock at a time: a record has room for one, and no goroutine waits while it
-- has a lock.
abbrev pub LockMove : Type 0
LockMove = (T : Setup) (g : ℕ) (c : Record) (a n : ℕ) → IsAtChannel T c a → n % 2 ≡ 0 → c.side.hold ≡ Free
    → Moves T g c a (λ w. if w == n then suc n else w) (λ w d. d ≡ knows c (with_lock c.side a n w))

-- The number of the data page that has a cell of a spread channel is loaded, plus 1. Then the record has found the word of the cell,
-- which is in the table. It needs no lock.
abbrev pub PageNumberMove : Type 0
PageNumberMove = (T : Setup) (g : ℕ) (c : Record) (a i size : ℕ) → c.side.size ≡ Sized a size
    → spreads T.sizes.page_words size ≡ true → i < extent size
    → Moves T g c (a + 2 + i / T.sizes.page_words) (λ w. w)
    (λ w d. (d ≡ knows c (with_reach c.side a i (cell_at (layout T) (w - 1) (i % T.sizes.page_words)))) × (0 < w)
    × (cell_at (layout T) (w - 1) (i % T.sizes.page_words) < all_words (layout T)))

-- A cell is loaded under the lock. The value is not received yet: that is the commit, which needs the same control.
abbrev pub CellLoadMove : Type 0
CellLoadMove = (T : Setup) (g : ℕ) (c : Record) (a n i size p : ℕ) → c.side.hold ≡ Locked a n → c.side.size ≡ Sized a size
    → i < extent size → IsCell T.sizes.page_words c.side a size i p
    → Moves T g c p (λ w. w) (λ w d. d ≡ knows c (with_hold c.side (Read a n i w)))

-- A cell that holds nothing is stored under the lock. That it holds nothing follows from the control that was found, which nobody has
-- changed since.
abbrev pub CellStoreMove : Type 0
CellStoreMove = (T : Setup) (g : ℕ) (c : Record) (a n i size p x : ℕ) → c.side.hold ≡ Locked a n → c.side.size ≡ Sized a size
    → IsSpare n size i → IsCell T.sizes.page_words c.side a size i p
    → Moves T g c p (λ w. x) (λ w d. d ≡ knows c (with_hold c.side (Wrote a n i x)))
