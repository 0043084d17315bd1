-- Loads of a channel's capacity and control. They need no lock. What they show of bounds is true for good, and lets the code compute
-- positions and controls without tests.
use Rattle.std.specs.Prelude.{◌≡◌, ℕ, ◌+◌, ◌^◌, ◌<◌, ◌≤◌, length, slice_index}
use Rattle.rgo_core_channels.specs.Controls.{extent, tail_words, head_of}
use Rattle.rgo_core_channels.specs.Moments.{Law, LoadsWord}
use Rattle.rgo_core_channels.specs.Records.{Sized, Offering, with_look, with_own_look, with_size}
use Rattle.rgo_core_channels.specs.Standing.{IsAt}

-- The capacity is loaded. The last word that follows it is in the table, and the capacity is small. It is loaded before the control, so
-- that an answer is about the last word that was loaded.
abbrev pub CapacityLaw : Type 0
CapacityLaw = Law (λ T g c. (a : ℕ) → IsAt T.code T.place T.state g c.post a
    → LoadsWord T g (a + 1) (with_size c a)
    × (a + 2 + tail_words T.page_words (slice_index T.words (a + 1)) ≤ length T.words)
    × (slice_index T.words (a + 1) < 1073741820))

-- The control is loaded. It leaves room for what a commit adds, and its head is a cell if the capacity is known. The record keeps only
-- that the channel was found closed, since all else may be outdated at once.
abbrev pub ControlLaw : Type 0
ControlLaw = Law (λ T g c. (a : ℕ) → IsAt T.code T.place T.state g c.post a
    → LoadsWord T g a (with_look c a) × (slice_index T.words a + 4 < 2 ^ 64)
    × ((size : ℕ) → c.size ≡ Sized a size → head_of (slice_index T.words a) < extent size))

-- a goroutine loads the control of the channel at which its offer is: only it may acknowledge
abbrev pub OwnControlLaw : Type 0
OwnControlLaw = Law (λ T g c. (a : ℕ) → c.post ≡ Offering a
    → LoadsWord T g a (with_own_look c a) × (slice_index T.words a + 4 < 2 ^ 64))
