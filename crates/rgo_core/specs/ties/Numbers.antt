-- Numbers of goroutines: how many were drawn, and which goroutine has started which. From this a driver knows that it has all records: that
-- of `main`, and with each those of its children.
use Rattle.std.specs.Prelude.{◌≡◌, ℕ, ◌+◌, ◌<◌, ◌≤◌, ◌==◌, Bool, true, List, length, count_by, sum_by, Some, slice_get}
use Rattle.rgo_core.specs.Records.{ClockRec}

-- how often goroutine h is a child of this record
abbrev pub has_child : ℕ → ClockRec → ℕ
has_child h c = count_by (λ n. n == h) c.children

abbrev pub was_refused : ClockRec → Bool
was_refused c = c.refused

-- `drawn` is the number in the word; at most `limit` goroutines start
pub record Numbers (limit drawn : ℕ) (recs : List ClockRec) : Type 0 where
  -- below the limit the number found is that of the new goroutine, its place in the list
  pub low : drawn ≤ limit → length recs ≡ drawn
  pub high : limit ≤ drawn → length recs ≡ limit
  -- each goroutine is refused at most once, so the word does not wrap around
  pub draws : drawn ≤ limit + count_by was_refused recs
  -- A number is refused only if there are as many goroutines as there may be. This stays so, since goroutines never become fewer.
  pub full : (g : ℕ) (c : ClockRec) → slice_get recs g ≡ Some c → c.refused ≡ true → limit ≤ drawn
  -- Each goroutine but the first is the child of one with a smaller number. So following parents ends at `main`.
  pub none : (h : ℕ) → length recs ≤ h → sum_by (has_child h) recs ≡ 0
  pub first : sum_by (has_child 0) recs ≡ 0
  pub one : (h : ℕ) → 0 < h → h < length recs → sum_by (has_child h) recs ≡ 1
  pub smaller : (g h : ℕ) (c : ClockRec) → slice_get recs g ≡ Some c → 0 < has_child h c → g < h
