-- What the record of a goroutine has of channels. A channel is named by the word of its control, since code knows addresses and no
-- numbers of objects. It is the memory of an operation between its accesses, and is empty between operations, except for an offer.
use Rattle.std.specs.Prelude.{◌≡◌, ◌⊎◌, ℕ, ◌==◌, ◌&&◌, if◌then◌else◌}
use Rattle.rgo_core_channels.specs.Controls.{closed_of, count_of}

-- The channel that it has locked, with the control that it found there; and a value that it has then stored in a cell, or has
-- loaded from one. A goroutine locks one channel at a time.
pub data Hold : Type 0 where
  Free : Hold
  Locked : (at found : ℕ) → Hold
  Wrote : (at found cell value : ℕ) → Hold
  Read : (at found cell value : ℕ) → Hold

-- the capacity that it has read
pub data Size : Type 0 where
  Unknown : Size
  Sized : (at capacity : ℕ) → Size

-- a cell of a spread channel that it has found by a page number, and the position of its word
pub data Reach : Type 0 where
  Unreached : Reach
  Reached : (at cell word : ℕ) → Reach

-- the channel at which its offer is, or was taken and is not yet acknowledged
pub data Post : Type 0 where
  Nowhere : Post
  Offering : (at : ℕ) → Post

-- A channel that it has found closed; or found closed while its own offer is there, which nobody can take any more. Both stay true, so
-- they may be kept until the trap.
pub data Saw : Type 0 where
  Nothing : Saw
  Shut : (at : ℕ) → Saw
  Stranded : (at : ℕ) → Saw

pub record ChannelRec : Type 0 where
  pub hold : Hold
  pub size : Size
  pub reach : Reach
  pub post : Post
  pub saw : Saw

-- it has locked that channel, whose control was then this
abbrev pub HoldsAt : Hold → (at found : ℕ) → Type 0
HoldsAt Free a n = ⊥
HoldsAt (Locked b m) a n = (b ≡ a) × (m ≡ n)
HoldsAt (Wrote b m i v) a n = (b ≡ a) × (m ≡ n)
HoldsAt (Read b m i v) a n = (b ≡ a) × (m ≡ n)

-- and knows what is in that cell
abbrev pub InCell : Hold → (at cell value : ℕ) → Type 0
InCell Free a i v = ⊥
InCell (Locked b m) a i v = ⊥
InCell (Wrote b m j w) a i v = (b ≡ a) × (j ≡ i) × (w ≡ v)
InCell (Read b m j w) a i v = (b ≡ a) × (j ≡ i) × (w ≡ v)

-- it knows something of the channel there
abbrev pub KnowsOf : ChannelRec → ℕ → Type 0
KnowsOf c a = ((n : ℕ) × HoldsAt c.hold a n) ⊎ (((n : ℕ) × (c.size ≡ Sized a n))
    ⊎ ((c.saw ≡ Shut a) ⊎ ((c.saw ≡ Stranded a) ⊎ ((c.post ≡ Offering a)
    ⊎ ((i : ℕ) × (w : ℕ) × (c.reach ≡ Reached a i w))))))

-- ---- the record after an access, by what the access has found

-- It knows nothing of channels. This is the record of a goroutine that is not at an operation on one, as `knows` in the image requires.
abbrev pub at_rest : ChannelRec
at_rest = record { hold = Free; size = Unknown; reach = Unreached; post = Nowhere; saw = Nothing }

-- its offer is there: all else is forgotten, and is loaded again when the goroutine looks after its offer
abbrev pub offering_record : ℕ → ChannelRec
offering_record a = record { hold = Free; size = Unknown; reach = Unreached; post = Offering a; saw = Nothing }

abbrev pub with_hold : ChannelRec → Hold → ChannelRec
with_hold c h = record c { hold = h }

abbrev pub with_size : ChannelRec → (at capacity : ℕ) → ChannelRec
with_size c a n = record c { size = Sized a n }

-- it has found that cell, at that word
abbrev pub with_reach : ChannelRec → (at cell word : ℕ) → ChannelRec
with_reach c a i w = record c { reach = Reached a i w }

-- the control was found to be n
abbrev pub with_look : ChannelRec → (at found : ℕ) → ChannelRec
with_look c a n = if closed_of n == 1 then record c { saw = Shut a } else c

-- the control of the channel at which its offer is was found to be n
abbrev pub with_own_look : ChannelRec → (at found : ℕ) → ChannelRec
with_own_look c a n = if closed_of n == 1 && count_of n == 1 then record c { saw = Stranded a } else c

-- the control was w, and is locked now if w is n
abbrev pub with_lock : ChannelRec → (at n w : ℕ) → ChannelRec
with_lock c a n w = if w == n then with_hold c (Locked a n) else c
