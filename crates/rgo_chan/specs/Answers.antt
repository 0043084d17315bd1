-- What each operation on a channel returns, which accesses its goroutine has made for that, and what its record is then. `c` is the
-- record before them; m and w are what the seat knew before and knows after; s and t are the numbers of counted accesses.
--
-- The accesses are listed in full, with what they found, because the law of deadlocks needs exactly that: which words a goroutine was
-- blocked by, and that it changed none of them.
use Rattle.std.specs.Prelude.{◌≡◌, ◌≢◌, ◌⊎◌, ◌+◌, ◌-◌, ◌/◌, ◌%◌, ◌<◌, ◌≤◌, ℕ, List, [], ◌∷◌, ◌++◌, if◌then◌else◌}
use Rattle.rgo_core.specs.Channels.Controls.{closed_of, control, count_of, extent, head_of, spreads, tail_words}
use Rattle.rgo_core.specs.Channels.Locking.{IsCell}
use Rattle.rgo_core.specs.Channels.Records.{Locked, ChannelRec as SideRec, Sized, with_look, with_own_look, with_size}
use Rattle.rgo_core.specs.Rule.Histories.{access}
use Rattle.rgo_core.specs.Rule.Views.{Me}
use Rattle.rgo_core.specs.Rule.declared.accesses.Access.{Access}
use Rattle.rgo_core.specs.Rule.declared.accesses.Kind.TheVariants.{Commit, Load, LoadCell, LoadControl, LoadIndex, LockChannel, StoreCell}
use Rattle.rgo_core.specs.ties.Bounds.{Points}
use Rattle.rgo_core.specs.moves.Commits.{offers}
use Rattle.rgo_core.specs.Memory.Words.{all_words, cell_at}
use Rattle.rgo_core.specs.Core.{Setup, layout}
use Rattle.rgo_core.specs.Records.{Record}
use Rattle.rgo_core_steps.specs.Accesses.{given_type}
use Rattle.rgo_core_steps.specs.After.{acknowledging, committing}
use Rattle.rgo_core_steps.specs.Calls.{Did, accessing, waited}
use Rattle.rgo_chan.specs.Ready.{HasNoOffer, HasOffer, BufferHasRoom, HasValue, IsClosed, IsDrained, IsEmpty, IsBufferFull, IsOffered, IsOpen, IsTaken, IsUnlocked}
use Rattle.rgo_chan.specs.declared.answers.Tried.{Tried}
use Rattle.rgo_chan.specs.declared.answers.Tried.TheVariants.{Busy, Done, NotReady, Offered, Trap}

-- ---- accesses of goroutine g to the channel whose control is word `at`

module _ (at : ℕ) where
  abbrev pub loads_capacity : (size g : ℕ) → Access
  loads_capacity size g = access g Load (at + 1) size size

  abbrev pub loads_control : (n g : ℕ) → Access
  loads_control n g = access g LoadControl at n n

  -- the capacity, and then the control
  abbrev pub looks : (size n g : ℕ) → List Access
  looks size n g = loads_capacity size g ∷ loads_control n g ∷ []

  -- an exchange that finds the control that was loaded, and locks it
  abbrev pub locks : (n g : ℕ) → Access
  locks n g = access g LockChannel at n (n + 1)

  -- an exchange that finds another one, and changes nothing; so the accesses of a `Busy` change no word, and a pass may ignore them
  abbrev pub misses : (k g : ℕ) → Access
  misses k g = access g LockChannel at k k

  abbrev pub commits : (old new g : ℕ) → Access
  commits old new g = access g Commit at old new

  -- what a record knows of channels after it has found this capacity and this control
  abbrev pub looked : SideRec → (size n : ℕ) → SideRec
  looked side size n = with_look (with_size side at size) at n

-- ---- cells

abbrev pub loads_cell : (word value g : ℕ) → Access
loads_cell word value g = access g LoadCell word value value

abbrev pub stores_cell : (word old value g : ℕ) → Access
stores_cell word old value g = access g StoreCell word old value

-- How many page numbers are loaded to reach a cell of a channel of this capacity: one if it is spread. It depends on the capacity alone, so
-- the cost of an operation is known before it.
abbrev pub numbers : Setup → (size : ℕ) → ℕ
numbers T size = if spreads T.sizes.page_words size then 1 else 0

module _ (T : Setup) (at size cell : ℕ) where
  -- If the channel is spread, the number of the cell's page is loaded, plus 1, which is k; else k is nothing.
  abbrev pub reaches : (k g : ℕ) → List Access
  reaches k g = if spreads T.sizes.page_words size then access g LoadIndex (at + 2 + cell / T.sizes.page_words) k k ∷ [] else []

  -- the word of the cell: in that page, or after the capacity
  abbrev pub cell_word : (k : ℕ) → ℕ
  cell_word k = if spreads T.sizes.page_words size then cell_at (layout T) (k - 1) (cell % T.sizes.page_words) else at + 2 + cell

-- the first cell that is free
abbrev pub free_cell : (size n : ℕ) → ℕ
free_cell size n = (head_of n + count_of n) % size

-- the control after a receive of the oldest value
abbrev pub without_oldest : (size n : ℕ) → ℕ
without_oldest size n = control (closed_of n) (count_of n - 1) ((head_of n + 1) % size)

-- ---- results

module _ (T : Setup) (at : ℕ) (c : Record) where
  -- A value was put into a cell of the buffer; it was offered; the channel was full; it was locked, or the exchange found another
  -- control; it was closed.
  abbrev pub Sends : (value : ℕ) → Tried → (m : Me Record) (s : ℕ) → (w : Me Record) (t : ℕ) → Type 0
  Sends value (Done v) m s w t =
      (v ≡ 0) × (size n k x y : ℕ) × IsUnlocked n × BufferHasRoom size n
      × Did T m s
      (λ g. looks at size n g ++ locks at n g ∷ reaches T at size (free_cell size n) k g
      ++ stores_cell (cell_word T at size (free_cell size n) k) x value g ∷ commits at y (n + 4) g ∷ [])
      (committing T.code (accessing (4 + numbers T size) c) 0) w t
  Sends value Offered m s w t =
      (n k x y : ℕ) × IsUnlocked n × HasNoOffer 0 n
      × Did T m s
      (λ g. looks at 0 n g ++ locks at n g ∷ reaches T at 0 0 k g ++ stores_cell (cell_word T at 0 0 k) x value g
      ∷ commits at y (n + 4) g ∷ [])
      (offers (accessing (4 + numbers T 0) c) at) w t
  Sends value NotReady m s w t =
      (size n : ℕ) × IsUnlocked n × IsBufferFull size n
      × Did T m s (looks at size n) (waited 2 c (looked at c.side size n)) w t
  Sends value (Busy k) m s w t =
      ((size : ℕ) × (k % 2 ≡ 1) × Did T m s (looks at size k) (waited 2 c (looked at c.side size k)) w t)
      ⊎ ((size n : ℕ) × IsUnlocked n × (BufferHasRoom size n ⊎ HasNoOffer size n) × (k ≢ n)
      × Did T m s (λ g. looks at size n g ++ misses at k g ∷ []) (waited 3 c (looked at c.side size n)) w t)
  Sends value (Trap e) m s w t =
      (e ≡ 5) × (size n : ℕ) × IsUnlocked n × IsClosed n
      × Did T m s (looks at size n) (waited 2 c (looked at c.side size n)) w t

  -- A receive of v: the oldest value of the buffer; zero, since nothing is left; an offer. A pointer that was received leads to words of
  -- pages.
  abbrev pub ReceivesValue : (v : ℕ) → (m : Me Record) (s : ℕ) → (w : Me Record) (t : ℕ) → Type 0
  ReceivesValue v m s w t =
      (size n k y : ℕ) × IsUnlocked n × HasValue size n × Points T (given_type T c) v
      × Did T m s
      (λ g. looks at size n g ++ locks at n g ∷ reaches T at size (head_of n) k g
      ++ loads_cell (cell_word T at size (head_of n) k) v g ∷ commits at y (without_oldest size n) g ∷ [])
      (committing T.code (accessing (4 + numbers T size) c) v) w t

  abbrev pub ReceivesZero : (v : ℕ) → (m : Me Record) (s : ℕ) → (w : Me Record) (t : ℕ) → Type 0
  ReceivesZero v m s w t =
      (v ≡ 0) × (size n y : ℕ) × IsUnlocked n × IsDrained size n
      × Did T m s (λ g. looks at size n g ++ locks at n g ∷ commits at y n g ∷ []) (committing T.code (accessing 3 c) 0) w t

  abbrev pub TakesOffer : (v : ℕ) → (m : Me Record) (s : ℕ) → (w : Me Record) (t : ℕ) → Type 0
  TakesOffer v m s w t =
      (n k y : ℕ) × IsUnlocked n × HasOffer 0 n × Points T (given_type T c) v
      × Did T m s
      (λ g. looks at 0 n g ++ locks at n g ∷ reaches T at 0 0 k g ++ loads_cell (cell_word T at 0 0 k) v g ∷ commits at y (n + 4) g ∷ [])
      (committing T.code (accessing (4 + numbers T 0) c) v) w t

  -- A value was received; the channel was empty; it was locked, or the exchange found another control.
  abbrev pub Receives : Tried → (m : Me Record) (s : ℕ) → (w : Me Record) (t : ℕ) → Type 0
  Receives (Done v) m s w t = ReceivesValue v m s w t ⊎ (ReceivesZero v m s w t ⊎ TakesOffer v m s w t)
  Receives Offered m s w t = ⊥
  Receives NotReady m s w t =
      (size n : ℕ) × IsUnlocked n × IsEmpty size n
      × Did T m s (looks at size n) (waited 2 c (looked at c.side size n)) w t
  Receives (Busy k) m s w t =
      ((size : ℕ) × (k % 2 ≡ 1) × Did T m s (looks at size k) (waited 2 c (looked at c.side size k)) w t)
      ⊎ ((size n : ℕ) × IsUnlocked n × (HasValue size n ⊎ (IsDrained size n ⊎ HasOffer size n)) × (k ≢ n)
      × Did T m s (λ g. looks at size n g ++ misses at k g ∷ []) (waited 3 c (looked at c.side size n)) w t)
  Receives (Trap e) m s w t = ⊥

  -- The offer had been taken, and was acknowledged; it was not taken; the channel was locked, or the exchange found another control; the
  -- channel was closed with the offer.
  abbrev pub Acknowledges : Tried → (m : Me Record) (s : ℕ) → (w : Me Record) (t : ℕ) → Type 0
  Acknowledges (Done v) m s w t =
      (v ≡ 0) × (n y : ℕ) × IsUnlocked n × IsTaken n
      × Did T m s (λ g. loads_control at n g ∷ locks at n g ∷ commits at y (n - 8) g ∷ []) (acknowledging T.code (accessing 2 c)) w t
  Acknowledges Offered m s w t = ⊥
  Acknowledges NotReady m s w t =
      (n : ℕ) × IsUnlocked n × IsOpen n × IsOffered n
      × Did T m s (λ g. loads_control at n g ∷ []) (waited 1 c (with_own_look c.side at n)) w t
  Acknowledges (Busy k) m s w t =
      ((k % 2 ≡ 1) × Did T m s (λ g. loads_control at k g ∷ []) (waited 1 c (with_own_look c.side at k)) w t)
      ⊎ ((n : ℕ) × IsUnlocked n × IsTaken n × (k ≢ n)
      × Did T m s (λ g. loads_control at n g ∷ misses at k g ∷ []) (waited 2 c (with_own_look c.side at n)) w t)
  Acknowledges (Trap e) m s w t =
      (e ≡ 5) × (n : ℕ) × IsUnlocked n × IsClosed n × IsOffered n
      × Did T m s (λ g. loads_control at n g ∷ []) (waited 1 c (with_own_look c.side at n)) w t

  -- The channel was closed; it was locked, or the exchange found another control; it had been closed before.
  abbrev pub Closes : Tried → (m : Me Record) (s : ℕ) → (w : Me Record) (t : ℕ) → Type 0
  Closes (Done v) m s w t =
      (v ≡ 0) × (n y : ℕ) × IsUnlocked n × IsOpen n
      × Did T m s (λ g. loads_control at n g ∷ locks at n g ∷ commits at y (n + 2) g ∷ []) (committing T.code (accessing 2 c) 0) w t
  Closes Offered m s w t = ⊥
  Closes NotReady m s w t = ⊥
  Closes (Busy k) m s w t =
      ((k % 2 ≡ 1) × Did T m s (λ g. loads_control at k g ∷ []) (waited 1 c (with_look c.side at k)) w t)
      ⊎ ((n : ℕ) × IsUnlocked n × IsOpen n × (k ≢ n)
      × Did T m s (λ g. loads_control at n g ∷ misses at k g ∷ []) (waited 2 c (with_look c.side at n)) w t)
  Closes (Trap e) m s w t =
      (e ≡ 6) × (n : ℕ) × IsUnlocked n × IsClosed n
      × Did T m s (λ g. loads_control at n g ∷ []) (waited 1 c (with_look c.side at n)) w t

-- ---- what the parts of an operation leave

-- The capacity and the control were loaded. What a commit adds to the control fits; the oldest cell is one of the cells. The words that
-- follow the capacity are words of the table: the cells, or if the channel is spread, the numbers of their pages.
pub record Looked (T : Setup) (at : ℕ) (c : Record) (size n : ℕ) (m : Me Record) (s : ℕ) (w : Me Record) (t : ℕ) : Type 0 where
  pub did : Did T m s (looks at size n) (waited 2 c (looked at c.side size n)) w t
  -- so that the commit of a value does not overflow the control
  pub fits : n + 4 < 18446744073709551616
  pub head : head_of n < extent size
  pub small : size < 1073741820
  pub inside : at + 2 + tail_words T.sizes.page_words size ≤ all_words (layout T)

-- the goroutine has locked the channel, whose control was n, and knows its capacity
abbrev pub Holds : (at size n : ℕ) → SideRec → Type 0
Holds at size n side = (side.hold ≡ Locked at n) × (side.size ≡ Sized at size)

-- The word of a cell is known, by number k of its page where the channel is spread; it is a word of the table. The record, which was c,
-- has locked the channel as before.
pub record IsReached (T : Setup) (at size cell word : ℕ) (c : Record) (m : Me Record) (s : ℕ) (w : Me Record) (t : ℕ) : Type 0 where
  pub k : ℕ
  pub side : SideRec
  pub is : word ≡ cell_word T at size cell k
  pub inside : word < all_words (layout T)
  -- a page number is loaded under the lock, which it must not lose
  pub hold : side.hold ≡ c.side.hold
  pub sized : side.size ≡ c.side.size
  pub there : IsCell T.sizes.page_words side at size cell word
  pub did : Did T m s (reaches T at size cell k) (waited (numbers T size) c side) w t
