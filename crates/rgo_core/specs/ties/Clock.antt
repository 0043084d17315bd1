-- The clock: which pieces of print have tickets, and whether the run has ended. Both are in one word, so that one access draws a ticket and
-- learns whether the print still counts.
use Rattle.std.specs.Option.{option_len}
use Rattle.std.specs.Prelude.{◌≡◌, ◌≤◌, ◌<◌, ◌+◌, ◌^◌, ◌==◌, ℕ, nat_le, List, [], ◌++◌, length, count_by, sum_by, Some, None, slice_get, slice_index}
use Rattle.rgo_core_memory.specs.Words.{clock_at}
use Rattle.rgo_core_rule.specs.Lists.{flattened}
use Rattle.rgo_sound.specs.RegionMachine.States.{Mark, RegionState}
use Rattle.rgo_core.specs.Records.{ClockRec, Drawn, end_bit}

-- how often a record has this ticket
abbrev pub has_ticket : ℕ → ClockRec → ℕ
has_ticket t c = count_by (λ (d : Drawn). d.ticket == t) c.prints

abbrev pub prints_in : ClockRec → ℕ
prints_in c = length c.prints

-- 1 if the record has set the end mark
abbrev pub has_set : ClockRec → ℕ
has_set c = option_len c.first

-- The pieces in the order of their tickets: those drawn before the run ended, and those drawn after. The pieces themselves are in the
-- records; the word only counts them. By `once` and `pieces` a driver that has all records has the whole print, in its order.
pub record Clock (words : List ℕ) (recs : List ClockRec) (s : RegionState) (before late : List (List ℕ)) : Type 0 where
  -- the word counts the tickets, and the last bit is the end: one access reads both
  pub shows : slice_index words clock_at ≡ length (before ++ late) + end_bit s.mark
  -- what was drawn before the end is the print
  pub print : s.plain.printed ≡ flattened before
  -- before the end no piece is late
  pub void : s.mark ≡ None → late ≡ []
  -- each ticket is in one record, with its piece
  pub once : (t : ℕ) → t < length (before ++ late) → sum_by (has_ticket t) recs ≡ 1
  pub none_later : (t : ℕ) → length (before ++ late) ≤ t → sum_by (has_ticket t) recs ≡ 0
  pub pieces : (g i : ℕ) (c : ClockRec) (d : Drawn) → slice_get recs g ≡ Some c → slice_get c.prints i ≡ Some d
      → (slice_get (before ++ late) d.ticket ≡ Some d.bytes) × (d.is_void ≡ nat_le (length before) d.ticket)
  pub amount : sum_by prints_in recs ≡ length (before ++ late)
  -- with at most 1,000,000 goroutines tickets stay below 2^63
  pub bound : (g : ℕ) (c : ClockRec) → slice_get recs g ≡ Some c → length c.prints ≤ 2 ^ 43
  -- A record that has set the mark has set this one; and if there is one, some record has set it. So the driver finds the end of the run
  -- in the records, without a word for it.
  pub first : (g : ℕ) (c : ClockRec) (mark : Mark) → slice_get recs g ≡ Some c → c.first ≡ Some mark → s.mark ≡ Some mark
  pub setter : (mark : Mark) → s.mark ≡ Some mark
      → (g : ℕ) × (c : ClockRec) × (slice_get recs g ≡ Some c) × (c.first ≡ Some mark)
  -- No other record has set one: only one access finds the bit clear.
  pub sole : sum_by has_set recs ≤ 1
