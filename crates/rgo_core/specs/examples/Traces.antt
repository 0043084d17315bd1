-- Small runs as lists of accesses: how a table opens, prints, a region from its creation until its pages are free again, a meeting, and a
-- ring. After each access, the words that are not 0.
use Rattle.std.specs.Prelude.{◌≡◌, ◌==◌, ◌+◌, ◌-◌, ◌%◌, ◌^◌, ℕ, suc, bit_or, true, false, List, [], ◌∷◌, replicate, pos, if◌then◌else◌, slice_set}
use Rattle.rgo_sound.specs.Memory.Memory.{Object, SliceObject}
use Rattle.rgo_sound.specs.Memory.declared.values.Value.TheVariants as value
use Rattle.rgo_sound.specs.Machine.declared.picks.End.TheVariants.{Exit}
use Rattle.rgo_sound.specs.RegionMachine.Counts.{Counts}
use Rattle.rgo_sound.specs.RegionMachine.Objects.{object_words as words_of}
use Rattle.rgo_sound.specs.RegionMachine.States.{Ended}
use Rattle.rgo_sound.specs.Tally.{no_share}
use Rattle.rgo_core_channels.specs.Controls.{closed_of, control, count_of, head_of}
use Rattle.rgo_core_channels.specs.Records.{ChannelRec as SideRec, at_rest, offering_record, with_hold, with_lock, with_look, with_own_look, with_size, Read, Wrote}
use Rattle.rgo_core_frames.specs.goroutines.Opening.{no_record}
use Rattle.rgo_core_memory.specs.Encoding.{content, opening_word}
use Rattle.rgo_core_memory.specs.Opening.{first_record, first_words}
use Rattle.rgo_core_memory.specs.Records.{Giving, Gave, Calm, Hung, Idle, Past, Rec as MemoryRec, with_claim, with_give, with_object_in_page, with_tried_page, with_word}
use Rattle.rgo_core_memory.specs.Words.{cell_at, clock_at, count_at, head_at, next_at, state_at}
use Rattle.rgo_core_memory.specs.declared.layout.TableSizes.{TableSizes}
use Rattle.rgo_core.specs.moves.Chains.{frees, remembers}
use Rattle.rgo_core.specs.moves.Claims.{claims}
use Rattle.rgo_core.specs.Records.{Drawn, Record, accessed, begins_with, fresh, with_end, with_print}
use Rattle.rgo_core.specs.moves.Regions.{creates, leaves_last}
use Rattle.rgo_core.specs.runs.Traces.{Step, filled, records_at_last, words_of_each}

-- two pages of four words, one slot for a region, no package variables
abbrev pub tiny : TableSizes
tiny = record { pages = 2; page_words = 4; slots = 1; variables = 0 }

abbrev pub first_records : List Record
first_records = record (begins_with no_record) { clock = fresh } ∷ []

-- ---- prints

-- a print of these bytes, and the end, both by the laws of the clock
abbrev pub prints_these : List ℕ → Step
prints_these bytes = record {
  by = 0;
  word = clock_at;
  leaves = λ n. (n + 1) % 2 ^ 64;
  becomes = λ n c. record c { clock = with_print c.clock n bytes };
}

abbrev pub ends_it : Step
ends_it = record {
  by = 0;
  word = clock_at;
  leaves = λ n. bit_or n (2 ^ 63);
  becomes = λ n c. record c { clock = with_end c.clock n (Ended Exit) };
}

abbrev pub printing_trace : List Step
printing_trace = prints_these (7 ∷ 8 ∷ []) ∷ prints_these (9 ∷ []) ∷ ends_it ∷ prints_these (5 ∷ []) ∷ []

abbrev pub printed_in : List Record → List Drawn
printed_in [] = []
printed_in (c ∷ cs) = c.clock.prints

-- ---- a region

abbrev pub remembering : ℕ → (ℕ → ℕ) → (ℕ → MemoryRec → MemoryRec) → Step
remembering i f m = record { by = 0; word = i; leaves = f; becomes = λ n c. remembers c (m n c.memory) }

-- slot p is taken if it is free
abbrev pub takes_slot : ℕ → Step
takes_slot p = record {
  by = 0;
  word = count_at tiny p;
  leaves = λ n. if n == 0 then 2 else n;
  becomes = λ n c. if n == 0 then creates c 0 [] p else c;
}

-- page p is claimed for slot 0 if it is free
abbrev pub claims_if_free : ℕ → Step
claims_if_free p = record {
  by = 0;
  word = state_at tiny p;
  leaves = λ n. if n == 0 then 1 else n;
  becomes = λ n c. if n == 0 then claims c p 0 else remembers c (with_tried_page c.memory p);
}

abbrev pub hangs : ℕ → Step
hangs p = remembering (head_at tiny 0) (λ n. suc p) (λ n m. with_claim m (Hung p 0 n))

abbrev pub links : ℕ → ℕ → Step
links p old = remembering (next_at tiny p) (λ n. old) (λ n m. with_claim m Idle)

-- three elements that are 0, after their number
abbrev pub three_ints : Object
three_ints = SliceObject (replicate 3 (value.Int (pos 0)))

-- word i of it is stored, on page p
abbrev pub stores_word : (page i : ℕ) → List ℕ → Step
stores_word p i stored = remembering (cell_at tiny p i) (λ n. opening_word (content three_ints i))
    (λ n m. with_word m (record { slot = 0; page = p; fill = 0 }) three_ints (i ∷ stored))

-- and the last word, which makes it
abbrev pub makes_it : (page i : ℕ) → Step
makes_it p i = record {
  by = 0;
  word = cell_at tiny p i;
  leaves = λ n. opening_word (content three_ints i);
  becomes = λ n c. record c {
    clock = record (accessed c.clock) {
      share = record c.clock.share { steps = suc c.clock.share.steps; objects = suc c.clock.share.objects };
    };
    memory = with_object_in_page c.memory 0 (words_of three_ints);
  };
}

abbrev pub leaves_region : Step
leaves_region = record {
  by = 0;
  word = count_at tiny 0;
  leaves = λ n. (n + (2 ^ 64 - 1)) % 2 ^ 64;
  becomes = λ n c. if n == 2 then leaves_last c no_record.holder 0 2 else c;
}

abbrev pub loads_head : Step
loads_head = remembering (head_at tiny 0) (λ n. n) (λ n m. with_give m (Giving 0 n))

abbrev pub loads_next : ℕ → Step
loads_next p = remembering (next_at tiny p) (λ n. n) (λ n m. with_give m (Past 0 (suc p) n))

abbrev pub frees_page : (page next : ℕ) → Step
frees_page p q = record { by = 0; word = state_at tiny p; leaves = λ n. 0; becomes = λ n c. frees c 0 q }

abbrev pub clears_head : Step
clears_head = remembering (head_at tiny 0) (λ n. 0) (λ n m. with_give m (Gave 0))

abbrev pub frees_slot : Step
frees_slot = remembering (count_at tiny 0) (λ n. 0) (λ n m. with_give m Calm)

-- a region is created, and an object is made in a page of it; it fills the page, so that the next one takes another
abbrev pub filling_trace : List Step
filling_trace =
    takes_slot 0 ∷ claims_if_free 0 ∷ hangs 0 ∷ links 0 0
    ∷ stores_word 0 0 [] ∷ stores_word 0 1 (0 ∷ []) ∷ stores_word 0 2 (1 ∷ 0 ∷ []) ∷ makes_it 0 3
    ∷ claims_if_free 0 ∷ claims_if_free 1 ∷ hangs 1 ∷ links 1 1
    ∷ stores_word 1 0 [] ∷ stores_word 1 1 (0 ∷ []) ∷ stores_word 1 2 (1 ∷ 0 ∷ []) ∷ makes_it 1 3 ∷ []

-- its only stake ends, and its pages are returned
abbrev pub giving_back : List Step
giving_back =
    leaves_region ∷ loads_head ∷ loads_next 1 ∷ frees_page 1 1 ∷ loads_next 0 ∷ frees_page 0 0 ∷ clears_head ∷ frees_slot ∷ []

-- the words when the region is filled
abbrev pub filled_words : List ℕ
filled_words = slice_set (slice_set (slice_set (slice_set (slice_set (slice_set (slice_set
    (first_words tiny) 32 1) 33 1) 51 1) 68 2) 86 2) 104 3) 108 3

abbrev pub first_share : List Record → Counts
first_share [] = no_share
first_share (c ∷ cs) = c.clock.share

abbrev pub memory_in : List Record → MemoryRec
memory_in [] = first_record
memory_in (c ∷ cs) = c.memory

-- ---- channels

-- goroutine g leaves f n on word i of the channel, and then knows this of it
abbrev pub channel_step : (by : ℕ) → (i : ℕ) → (ℕ → ℕ) → (ℕ → SideRec → SideRec) → Step
channel_step g i f side = record {
  by = g;
  word = i;
  leaves = f;
  becomes = λ n c. record c { clock = accessed c.clock; side = side n c.side };
}

abbrev pub loads_control : ℕ → Step
loads_control g = channel_step g 0 (λ n. n) (λ n r. with_look r 0 n)

abbrev pub loads_own_control : ℕ → Step
loads_own_control g = channel_step g 0 (λ n. n) (λ n r. with_own_look r 0 n)

abbrev pub loads_capacity : ℕ → Step
loads_capacity g = channel_step g 1 (λ n. n) (λ n r. with_size r 0 n)

abbrev pub locks_it : (by : ℕ) → (control : ℕ) → Step
locks_it g n = channel_step g 0 (λ w. if w == n then suc n else w) (λ w r. with_lock r 0 n w)

abbrev pub stores_cell : (by control i x : ℕ) → Step
stores_cell g n i x = channel_step g (2 + i) (λ w. x) (λ w r. with_hold r (Wrote 0 n i x))

abbrev pub loads_cell : (by control i : ℕ) → Step
loads_cell g n i = channel_step g (2 + i) (λ w. w) (λ w r. with_hold r (Read 0 n i w))

-- an operation takes effect, and the channel is unlocked
abbrev pub commits : (by control : ℕ) → SideRec → Step
commits g n r = channel_step g 0 (λ w. n) (λ w s. r)

-- a channel without a buffer: its control, its capacity, and the cell for an offer
abbrev pub unbuffered : List ℕ
unbuffered = 0 ∷ 0 ∷ 0 ∷ []

-- Goroutine 0 offers 7, goroutine 1 receives it, and goroutine 0 acknowledges that.
abbrev pub meeting : List Step
meeting =
    loads_capacity 0 ∷ loads_control 0 ∷ locks_it 0 0 ∷ stores_cell 0 0 0 7 ∷ commits 0 (0 + 4) (offering_record 0)
    ∷ loads_capacity 1 ∷ loads_control 1 ∷ locks_it 1 4 ∷ loads_cell 1 4 0 ∷ commits 1 (4 + 4) at_rest
    ∷ loads_own_control 0 ∷ locks_it 0 8 ∷ commits 0 (8 - 8) at_rest ∷ []

abbrev pub two_records : List Record
two_records = begins_with no_record ∷ begins_with no_record ∷ []

abbrev pub sides_in : List Record → List SideRec
sides_in [] = []
sides_in (c ∷ cs) = c.side ∷ sides_in cs

-- a buffer for three values
abbrev pub buffer_words : List ℕ
buffer_words = 0 ∷ 3 ∷ 0 ∷ 0 ∷ 0 ∷ []

-- a value is sent when the control is n, and the oldest is received
abbrev pub sending_trace : (control x : ℕ) → List Step
sending_trace n x = locks_it 0 n ∷ stores_cell 0 n ((head_of n + count_of n) % 3) x ∷ commits 0 (n + 4) at_rest ∷ []

abbrev pub receiving_trace : (control : ℕ) → List Step
receiving_trace n =
    locks_it 1 n ∷ loads_cell 1 n (head_of n)
    ∷ commits 1 (control (closed_of n) (count_of n - 1) ((head_of n + 1) % 3)) at_rest ∷ []

pub record TraceExamples : Type 0 where
  -- ---- how the table opens: `main` is made, and Global has its count
  pub opens : filled (first_words tiny) ≡ (16, 1) ∷ (69, 2) ∷ []
  -- ---- the clock counts prints, and has the end in bit 63
  pub prints : words_of_each printing_trace (first_words tiny)
      ≡ ((0, 1) ∷ (16, 1) ∷ (69, 2) ∷ []) ∷ ((0, 2) ∷ (16, 1) ∷ (69, 2) ∷ [])
      ∷ ((0, 9223372036854775810) ∷ (16, 1) ∷ (69, 2) ∷ []) ∷ ((0, 9223372036854775811) ∷ (16, 1) ∷ (69, 2) ∷ []) ∷ []
  pub tickets : printed_in (records_at_last printing_trace (first_words tiny) first_records)
      ≡ record { ticket = 0; bytes = 7 ∷ 8 ∷ []; is_void = false } ∷ record { ticket = 1; bytes = 9 ∷ []; is_void = false }
      ∷ record { ticket = 2; bytes = 5 ∷ []; is_void = true } ∷ []
  -- ---- a region is created and filled
  pub fills : words_of_each filling_trace (first_words tiny)
      ≡ ((16, 1) ∷ (68, 2) ∷ (69, 2) ∷ [])
      ∷ ((16, 1) ∷ (32, 1) ∷ (68, 2) ∷ (69, 2) ∷ [])
      ∷ ((16, 1) ∷ (32, 1) ∷ (68, 2) ∷ (69, 2) ∷ (86, 1) ∷ [])
      ∷ ((16, 1) ∷ (32, 1) ∷ (68, 2) ∷ (69, 2) ∷ (86, 1) ∷ [])
      ∷ ((16, 1) ∷ (32, 1) ∷ (68, 2) ∷ (69, 2) ∷ (86, 1) ∷ (104, 3) ∷ [])
      ∷ ((16, 1) ∷ (32, 1) ∷ (68, 2) ∷ (69, 2) ∷ (86, 1) ∷ (104, 3) ∷ [])
      ∷ ((16, 1) ∷ (32, 1) ∷ (68, 2) ∷ (69, 2) ∷ (86, 1) ∷ (104, 3) ∷ [])
      ∷ ((16, 1) ∷ (32, 1) ∷ (68, 2) ∷ (69, 2) ∷ (86, 1) ∷ (104, 3) ∷ [])
      ∷ ((16, 1) ∷ (32, 1) ∷ (68, 2) ∷ (69, 2) ∷ (86, 1) ∷ (104, 3) ∷ [])
      ∷ ((16, 1) ∷ (32, 1) ∷ (33, 1) ∷ (68, 2) ∷ (69, 2) ∷ (86, 1) ∷ (104, 3) ∷ [])
      ∷ ((16, 1) ∷ (32, 1) ∷ (33, 1) ∷ (68, 2) ∷ (69, 2) ∷ (86, 2) ∷ (104, 3) ∷ [])
      ∷ ((16, 1) ∷ (32, 1) ∷ (33, 1) ∷ (51, 1) ∷ (68, 2) ∷ (69, 2) ∷ (86, 2) ∷ (104, 3) ∷ [])
      ∷ ((16, 1) ∷ (32, 1) ∷ (33, 1) ∷ (51, 1) ∷ (68, 2) ∷ (69, 2) ∷ (86, 2) ∷ (104, 3) ∷ (108, 3) ∷ [])
      ∷ ((16, 1) ∷ (32, 1) ∷ (33, 1) ∷ (51, 1) ∷ (68, 2) ∷ (69, 2) ∷ (86, 2) ∷ (104, 3) ∷ (108, 3) ∷ [])
      ∷ ((16, 1) ∷ (32, 1) ∷ (33, 1) ∷ (51, 1) ∷ (68, 2) ∷ (69, 2) ∷ (86, 2) ∷ (104, 3) ∷ (108, 3) ∷ [])
      ∷ ((16, 1) ∷ (32, 1) ∷ (33, 1) ∷ (51, 1) ∷ (68, 2) ∷ (69, 2) ∷ (86, 2) ∷ (104, 3) ∷ (108, 3) ∷ []) ∷ []
  -- the second page is its own, and full
  pub own_page : (memory_in (records_at_last filling_trace (first_words tiny) first_records)).fills ≡ record { slot = 0; page = 1; fill = 4 } ∷ []
  -- ---- it is left, and its pages are returned; what was in cells and in links stays
  pub gives : words_of_each giving_back filled_words
      ≡ ((16, 1) ∷ (32, 1) ∷ (33, 1) ∷ (51, 1) ∷ (68, 1) ∷ (69, 2) ∷ (86, 2) ∷ (104, 3) ∷ (108, 3) ∷ [])
      ∷ ((16, 1) ∷ (32, 1) ∷ (33, 1) ∷ (51, 1) ∷ (68, 1) ∷ (69, 2) ∷ (86, 2) ∷ (104, 3) ∷ (108, 3) ∷ [])
      ∷ ((16, 1) ∷ (32, 1) ∷ (33, 1) ∷ (51, 1) ∷ (68, 1) ∷ (69, 2) ∷ (86, 2) ∷ (104, 3) ∷ (108, 3) ∷ [])
      ∷ ((16, 1) ∷ (32, 1) ∷ (51, 1) ∷ (68, 1) ∷ (69, 2) ∷ (86, 2) ∷ (104, 3) ∷ (108, 3) ∷ [])
      ∷ ((16, 1) ∷ (32, 1) ∷ (51, 1) ∷ (68, 1) ∷ (69, 2) ∷ (86, 2) ∷ (104, 3) ∷ (108, 3) ∷ [])
      ∷ ((16, 1) ∷ (51, 1) ∷ (68, 1) ∷ (69, 2) ∷ (86, 2) ∷ (104, 3) ∷ (108, 3) ∷ [])
      ∷ ((16, 1) ∷ (51, 1) ∷ (68, 1) ∷ (69, 2) ∷ (104, 3) ∷ (108, 3) ∷ [])
      ∷ ((16, 1) ∷ (51, 1) ∷ (69, 2) ∷ (104, 3) ∷ (108, 3) ∷ []) ∷ []
  pub counted : first_share (records_at_last giving_back filled_words (records_at_last filling_trace (first_words tiny) first_records))
      ≡ record { made = 1; removed = 1; taken = 2; returned = 2; steps = 2; objects = 2; goroutines = 1 }
  pub calm : (memory_in (records_at_last giving_back filled_words (records_at_last filling_trace (first_words tiny) first_records))).give ≡ Calm
  pub no_page : (memory_in (records_at_last giving_back filled_words (records_at_last filling_trace (first_words tiny) first_records))).fills ≡ []
  -- ---- a meeting
  pub meets : words_of_each meeting unbuffered
      ≡ [] ∷ [] ∷ ((0, 1) ∷ []) ∷ ((0, 1) ∷ (2, 7) ∷ []) ∷ ((0, 4) ∷ (2, 7) ∷ [])
      ∷ ((0, 4) ∷ (2, 7) ∷ []) ∷ ((0, 4) ∷ (2, 7) ∷ []) ∷ ((0, 5) ∷ (2, 7) ∷ []) ∷ ((0, 5) ∷ (2, 7) ∷ []) ∷ ((0, 8) ∷ (2, 7) ∷ [])
      ∷ ((0, 8) ∷ (2, 7) ∷ []) ∷ ((0, 9) ∷ (2, 7) ∷ []) ∷ ((2, 7) ∷ []) ∷ []
  pub met : sides_in (records_at_last meeting unbuffered two_records) ≡ at_rest ∷ at_rest ∷ []
  -- ---- a ring: three values fill it; one is received, and the next goes into its cell
  pub first_sent : words_of_each (sending_trace 0 5) buffer_words ≡ ((0, 1) ∷ (1, 3) ∷ []) ∷ ((0, 1) ∷ (1, 3) ∷ (2, 5) ∷ []) ∷ ((0, 4) ∷ (1, 3) ∷ (2, 5) ∷ []) ∷ []
  pub second_sent : words_of_each (sending_trace 4 6) (4 ∷ 3 ∷ 5 ∷ 0 ∷ 0 ∷ [])
      ≡ ((0, 5) ∷ (1, 3) ∷ (2, 5) ∷ []) ∷ ((0, 5) ∷ (1, 3) ∷ (2, 5) ∷ (3, 6) ∷ []) ∷ ((0, 8) ∷ (1, 3) ∷ (2, 5) ∷ (3, 6) ∷ []) ∷ []
  pub third_sent : words_of_each (sending_trace 8 7) (8 ∷ 3 ∷ 5 ∷ 6 ∷ 0 ∷ [])
      ≡ ((0, 9) ∷ (1, 3) ∷ (2, 5) ∷ (3, 6) ∷ []) ∷ ((0, 9) ∷ (1, 3) ∷ (2, 5) ∷ (3, 6) ∷ (4, 7) ∷ [])
      ∷ ((0, 12) ∷ (1, 3) ∷ (2, 5) ∷ (3, 6) ∷ (4, 7) ∷ []) ∷ []
  pub received : words_of_each (receiving_trace 12) (12 ∷ 3 ∷ 5 ∷ 6 ∷ 7 ∷ [])
      ≡ ((0, 13) ∷ (1, 3) ∷ (2, 5) ∷ (3, 6) ∷ (4, 7) ∷ []) ∷ ((0, 13) ∷ (1, 3) ∷ (2, 5) ∷ (3, 6) ∷ (4, 7) ∷ [])
      ∷ ((0, 4294967304) ∷ (1, 3) ∷ (2, 5) ∷ (3, 6) ∷ (4, 7) ∷ []) ∷ []
  pub again : words_of_each (sending_trace 4294967304 8) (4294967304 ∷ 3 ∷ 5 ∷ 6 ∷ 7 ∷ [])
      ≡ ((0, 4294967305) ∷ (1, 3) ∷ (2, 5) ∷ (3, 6) ∷ (4, 7) ∷ []) ∷ ((0, 4294967305) ∷ (1, 3) ∷ (2, 8) ∷ (3, 6) ∷ (4, 7) ∷ [])
      ∷ ((0, 4294967308) ∷ (1, 3) ∷ (2, 8) ∷ (3, 6) ∷ (4, 7) ∷ []) ∷ []
  -- a lock that finds another control does nothing
  pub unlocked : words_of_each (locks_it 0 4 ∷ []) (8 ∷ 3 ∷ []) ≡ ((0, 8) ∷ (1, 3) ∷ []) ∷ []
  -- nor does an exchange that finds a slot, or a page, in use
  pub taken : words_of_each (takes_slot 0 ∷ []) filled_words ≡ filled filled_words ∷ []
