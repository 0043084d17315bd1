-- The control of a channel, its first word: bit 0 is the lock, bit 1 is set if it is closed. Then come 30 bits for the number of
-- values, or for the phase of a channel without a buffer, and the cell of the oldest value. It is one word because an operation has to
-- find all of them at one moment.
use Rattle.std.specs.Prelude.{ℕ, ◌+◌, ◌*◌, ◌/◌, ◌%◌, Bool, true, false, [], max, if◌then◌else◌}
use Rattle.rgo_sound.specs.Memory.Memory.{Channel}
use Rattle.rgo_sound.specs.RegionMachine.Objects.{data_pages, is_spread}

abbrev pub bit : Bool → ℕ
bit true = 1
bit false = 0

-- The control of a channel that is not locked. With the lock it is 1 more, so locking and unlocking keep all else.
abbrev pub control : (closed count head : ℕ) → ℕ
control closed count head = 2 * closed + 4 * count + 4294967296 * head

abbrev pub closed_of : ℕ → ℕ
closed_of n = n / 2 % 2

abbrev pub count_of : ℕ → ℕ
count_of n = n / 4 % 1073741824

abbrev pub head_of : ℕ → ℕ
head_of n = n / 4294967296

-- how many cells a channel of this capacity has
abbrev pub extent : ℕ → ℕ
extent capacity = max 1 capacity

-- whether a channel of this capacity does not fit a page
abbrev pub spreads : (page_words capacity : ℕ) → Bool
spreads page_words capacity = is_spread page_words (Channel capacity [] false)

-- how many words follow the capacity in the same page: the cells, or the numbers of the data pages if the channel is spread
abbrev pub tail_words : (page_words capacity : ℕ) → ℕ
tail_words page_words capacity =
    if spreads page_words capacity then data_pages page_words (Channel capacity [] false) else extent capacity
