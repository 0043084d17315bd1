-- Whether an operation on a channel can take effect, by its capacity and its control. No other word is asked for, since one load of the
-- control then decides, and the exchange that locks it confirms the decision.
use Rattle.std.specs.Prelude.{◌≡◌, ◌≢◌, ◌⊎◌, ◌%◌, ◌<◌, ◌≤◌, ℕ}
use Rattle.rgo_core.specs.Channels.Controls.{closed_of, count_of}

abbrev pub IsUnlocked : (control : ℕ) → Type 0
IsUnlocked n = n % 2 ≡ 0

abbrev pub IsOpen : (control : ℕ) → Type 0
IsOpen n = closed_of n ≡ 0

abbrev pub IsClosed : (control : ℕ) → Type 0
IsClosed n = closed_of n ≡ 1

-- ---- sends

-- the buffer has a free cell
abbrev pub BufferHasRoom : (size control : ℕ) → Type 0
BufferHasRoom size n = IsOpen n × (count_of n < size)

-- without a buffer: there is no offer
abbrev pub HasNoOffer : (size control : ℕ) → Type 0
HasNoOffer size n = IsOpen n × (size ≡ 0) × (count_of n ≡ 0)

-- the buffer is full, or there is an offer already
abbrev pub IsBufferFull : (size control : ℕ) → Type 0
IsBufferFull size n = IsOpen n × (((0 < size) × (size ≤ count_of n)) ⊎ ((size ≡ 0) × (0 < count_of n)))

-- ---- receives

abbrev pub HasValue : (size control : ℕ) → Type 0
HasValue size n = (0 < size) × (0 < count_of n)

-- without a buffer: there is an offer that is not taken
abbrev pub HasOffer : (size control : ℕ) → Type 0
HasOffer size n = IsOpen n × (size ≡ 0) × (count_of n ≡ 1)

-- the channel is closed, and nothing is left in it
abbrev pub IsDrained : (size control : ℕ) → Type 0
IsDrained size n = IsClosed n × ((size ≡ 0) ⊎ (count_of n ≡ 0))

-- the buffer is empty, or there is no offer that could be taken: an offer that another receiver has taken does not count
abbrev pub IsEmpty : (size control : ℕ) → Type 0
IsEmpty size n = IsOpen n × (((0 < size) × (count_of n ≡ 0)) ⊎ ((size ≡ 0) × (count_of n ≢ 1)))

-- ---- acknowledgements

-- the offer that is at the channel is not taken
abbrev pub IsOffered : (control : ℕ) → Type 0
IsOffered n = count_of n ≡ 1

-- it is taken
abbrev pub IsTaken : (control : ℕ) → Type 0
IsTaken n = count_of n ≡ 2
