-- Lists of shares: one more place, and their sums. A sum is bounded by the number of shares times 2^64, so that the loop of `total` does
-- not overflow.
use Rattle.std.proofs.Common.{◌≡◌, ◌+◌, ◌*◌, ◌<◌, ◌≤◌, ℕ, List, [], ◌∷◌, ◌++◌, append_assoc, drop, get_or, length, replicate, ap, sym, ◌∙◌}
use Rattle.std.proofs.lemmas.List.{at_drop_all, at_drop_more, replicate_more}
use Rattle.rgo_core.proofs.goroutines.Counting.{plus_assoc, plus_none}
use Rattle.rgo_sound.specs.RegionMachine.Counts.{Counts}
use Rattle.rgo_sound.specs.Tally.{counts_plus}
use Rattle.rgo_table_runs.specs.closing.Gathering.{sum_of}

-- each count is at most that of n shares
pub record Within (n : ℕ) (c : Counts) : Type 0 where
  pub made : c.made ≤ n * 18446744073709551615
  pub removed : c.removed ≤ n * 18446744073709551615
  pub taken : c.taken ≤ n * 18446744073709551615
  pub returned : c.returned ≤ n * 18446744073709551615
  pub steps : c.steps ≤ n * 18446744073709551615
  pub objects : c.objects ≤ n * 18446744073709551615
  pub goroutines : c.goroutines ≤ n * 18446744073709551615

-- `t` with the rest is the sum of all
abbrev pub SumsTo : List Counts → ℕ → Counts → Type 0
SumsTo xs i t = counts_plus t (sum_of (drop i xs)) ≡ sum_of xs

pub sums_more : (xs : List Counts) (i : ℕ) (x t u : Counts) → i < length xs → x ≡ get_or xs i x → u ≡ counts_plus t x → SumsTo xs i t
    → SumsTo xs (i + 1) u
sums_more xs i x t u within here more so_far =
    let rest = sum_of (drop (i + 1) xs) in
    ap (λ (c : Counts). counts_plus c rest) more ∙ plus_assoc t x rest
    ∙ ap (λ (c : Counts). counts_plus t (counts_plus c rest)) here
    ∙ sym (ap (counts_plus t) (at_drop_more sum_of xs i x within)) ∙ so_far

pub sums_all : (xs : List Counts) (i : ℕ) (t : Counts) → length xs ≤ i → SumsTo xs i t → t ≡ sum_of xs
sums_all xs i t past so_far = sym (plus_none t) ∙ sym (ap (counts_plus t) (at_drop_all sum_of xs i past)) ∙ so_far

-- ---- places

pub one_place : {A : Type 0} (old now then : List A) (n m : ℕ) (x y : A) → now ≡ old ++ replicate n y → then ≡ now ++ x ∷ [] → x ≡ y → m ≡ n + 1
    → then ≡ old ++ replicate m y
one_place old now then n m x y so_far more same next =
    more ∙ ap (λ (z : _). now ++ z ∷ []) same ∙ ap (λ (l : List _). l ++ y ∷ []) so_far ∙ append_assoc old (replicate n y) (y ∷ [])
    ∙ ap (λ (l : List _). old ++ l) (replicate_more n y) ∙ ap (λ (k : ℕ). old ++ replicate k y) (sym next)
