-- What each access to a channel requires of the record of its goroutine, and what it shows. A channel is named by `at`, the word of its
-- control. All premises are about the record: what it has found stays true or is protected by the lock.
use Rattle.std.specs.Prelude.{◌≡◌, ◌⊎◌, ◌+◌, ◌-◌, ◌%◌, ◌^◌, ◌<◌, ◌≤◌, ℕ, true, [], ◌∷◌, Option}
use Rattle.rgo_core.specs.Channels.Controls.{closed_of, count_of, extent, head_of, spreads, tail_words}
use Rattle.rgo_core.specs.Channels.Locking.{IsCell, IsSpare}
use Rattle.rgo_core.specs.Channels.Records.{Free, Hold, Locked, Offering, Read, Sized, Wrote, with_look, with_own_look, with_reach, with_size}
use Rattle.rgo_core.specs.Frames.shown.WordFrames.{frame_word}
use Rattle.rgo_core.specs.Memory.Words.{all_words, cell_at}
use Rattle.rgo_sound.specs.Typed.declared.actions.Action.TheVariants.{Close, Recv, Send}
use Rattle.rgo_core.specs.ties.AtChannels.{Operates, knows}
use Rattle.rgo_core.specs.moves.Commits.{IsAtSend}
use Rattle.rgo_core.specs.Core.{Setup, layout}
use Rattle.rgo_core.specs.Records.{Record}

-- ---- what a goroutine has under the lock

-- the control that it found when it locked the channel
abbrev pub found_by : Hold → ℕ
found_by Free = 0
found_by (Locked at n) = n
found_by (Wrote at n cell value) = n
found_by (Read at n cell value) = n

-- the word that it has stored in a cell, or has loaded from one
abbrev pub value_by : Hold → ℕ
value_by Free = 0
value_by (Locked at n) = 0
value_by (Wrote at n cell value) = value
value_by (Read at n cell value) = value

-- ---- loads

-- n was found on a control: what a commit adds to it fits, and its head is a cell if the capacity is known. So the code needs no tests.
pub record ShowsControl (c : Record) (at n : ℕ) (d : Record) : Type 0 where
  pub is : d ≡ knows c (with_look c.side at n)
  pub fits : n + 4 < 2 ^ 64
  pub head : (size : ℕ) → c.side.size ≡ Sized at size → head_of n < extent size

-- the same, by the goroutine whose offer is at the channel: the offer is not taken, or it is
pub record ShowsOwnControl (c : Record) (at n : ℕ) (d : Record) : Type 0 where
  pub is : d ≡ knows c (with_own_look c.side at n)
  pub fits : n + 4 < 2 ^ 64
  pub phase : (count_of n ≡ 1) ⊎ (count_of n ≡ 2)

-- n is the capacity: it is small, and the words that follow it are words of the table
pub record ShowsCapacity (T : Setup) (c : Record) (at n : ℕ) (d : Record) : Type 0 where
  pub is : d ≡ knows c (with_size c.side at n)
  pub small : n < 1073741820
  pub inside : at + 2 + tail_words T.sizes.page_words n ≤ all_words (layout T)

-- ---- cells

-- The goroutine knows the capacity of the channel, which is spread and has this cell. No lock is asked for.
pub record CanReachCell (T : Setup) (c : Record) (at cell : ℕ) : Type 0 where
  pub size : ℕ
  pub sized : c.side.size ≡ Sized at size
  pub spread : spreads T.sizes.page_words size ≡ true
  pub within : cell < extent size

-- w is the number, plus 1, of the data page that has the cell, which is a word of the table
pub record ShowsPage (T : Setup) (c : Record) (at cell w : ℕ) (d : Record) : Type 0 where
  pub is : d ≡ knows c (with_reach c.side at cell (cell_at (layout T) (w - 1) (cell % T.sizes.page_words)))
  pub some : 0 < w
  pub inside : cell_at (layout T) (w - 1) (cell % T.sizes.page_words) < all_words (layout T)

-- The goroutine has locked the channel and knows its capacity; the channel has this cell, which is this word of the table.
pub record CanLoadCell (T : Setup) (c : Record) (at cell word : ℕ) : Type 0 where
  pub n : ℕ
  pub size : ℕ
  pub locked : c.side.hold ≡ Locked at n
  pub sized : c.side.size ≡ Sized at size
  pub within : cell < extent size
  pub is_there : IsCell T.sizes.page_words c.side at size cell word

-- The same, and the cell holds nothing, by the control that was found under the lock.
pub record CanStoreCell (T : Setup) (c : Record) (at cell word : ℕ) : Type 0 where
  pub n : ℕ
  pub size : ℕ
  pub locked : c.side.hold ≡ Locked at n
  pub sized : c.side.size ≡ Sized at size
  pub spare : IsSpare n size cell
  pub is_there : IsCell T.sizes.page_words c.side at size cell word

-- ---- Commits. The goroutine has locked the channel, whose control was n, so the channel is still as n shows it.

-- The next instruction sends into a buffer that has room, and the word of the value is in the first free cell, where the next receivers
-- will look for it.
pub record CanSend (T : Setup) (c : Record) (at n : ℕ) : Type 0 where
  pub to : Option ℕ
  pub sent : ℕ
  pub cell : ℕ
  pub size : ℕ
  pub here : Operates T c to Send (sent ∷ []) at
  pub wrote : c.side.hold ≡ Wrote at n cell (frame_word here.here.w sent)
  pub sized : c.side.size ≡ Sized at size
  pub is_open : closed_of n ≡ 0
  pub room : count_of n < size
  pub first : cell ≡ (head_of n + count_of n) % size

-- The next instruction receives from a buffer that is not empty, and the oldest value was loaded.
pub record CanReceive (T : Setup) (c : Record) (at n size : ℕ) : Type 0 where
  pub to : Option ℕ
  pub cell : ℕ
  pub value : ℕ
  pub here : Operates T c to Recv [] at
  pub read : c.side.hold ≡ Read at n cell value
  pub sized : c.side.size ≡ Sized at size
  pub some : 0 < count_of n
  pub buffer : 0 < size
  pub oldest : cell ≡ head_of n

-- The next instruction receives from a closed channel that has no value left.
pub record CanReceiveZero (T : Setup) (c : Record) (at n : ℕ) : Type 0 where
  pub to : Option ℕ
  pub size : ℕ
  pub here : Operates T c to Recv [] at
  pub locked : c.side.hold ≡ Locked at n
  pub sized : c.side.size ≡ Sized at size
  pub closed : closed_of n ≡ 1
  pub none : (size ≡ 0) ⊎ (count_of n ≡ 0)

-- The next instruction closes a channel that is open.
pub record CanClose (T : Setup) (c : Record) (at n : ℕ) : Type 0 where
  pub to : Option ℕ
  pub here : Operates T c to Close [] at
  pub locked : c.side.hold ≡ Locked at n
  pub is_open : closed_of n ≡ 0

-- The next instruction sends on a channel without a buffer that has no offer, and the word of the value is in the cell.
pub record CanOffer (T : Setup) (c : Record) (at n : ℕ) : Type 0 where
  pub to : Option ℕ
  pub sent : ℕ
  pub here : Operates T c to Send (sent ∷ []) at
  pub wrote : c.side.hold ≡ Wrote at n 0 (frame_word here.here.w sent)
  pub sized : c.side.size ≡ Sized at 0
  pub is_open : closed_of n ≡ 0
  pub none : count_of n ≡ 0

-- The next instruction receives from a channel without a buffer that has an offer, and the word of its value was loaded.
pub record RecordCanMeet (T : Setup) (c : Record) (at n : ℕ) : Type 0 where
  pub to : Option ℕ
  pub value : ℕ
  pub here : Operates T c to Recv [] at
  pub read : c.side.hold ≡ Read at n 0 value
  pub sized : c.side.size ≡ Sized at 0
  pub is_open : closed_of n ≡ 0
  pub offered : count_of n ≡ 1

-- The goroutine's own offer was taken. That it is the goroutine's own follows from its record; no word has the sender.
pub record CanAcknowledge (T : Setup) (c : Record) (at n : ℕ) : Type 0 where
  pub here : IsAtSend T c
  pub own : c.side.post ≡ Offering at
  pub locked : c.side.hold ≡ Locked at n
  pub taken : count_of n ≡ 2
