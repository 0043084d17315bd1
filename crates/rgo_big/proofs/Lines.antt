-- Parts of a text, written one after the other.
use Rattle.std.proofs.Common.{◌≡◌, ◌+◌, ◌-◌, ◌<◌, ℕ, suc, List, ◌++◌, ap, ◌∙◌, append_assoc, arith}
use Rattle.std.specs.List.{flat_map, range_with_len}

pub three_parts : (old a b c first second third : List ℕ) → first ≡ old ++ a → second ≡ first ++ b
    → third ≡ second ++ c → third ≡ old ++ (a ++ (b ++ c))
three_parts old a b c first second third one two three =
    three ∙ ap (λ l. l ++ c) (two ∙ ap (λ l. l ++ b) one) ∙ append_assoc (old ++ a) b c ∙ append_assoc old a (b ++ c)

-- a line for each number below n
module _ (line : ℕ → List ℕ) (n : ℕ) where
  -- the lines from number k on
  abbrev pub lines_from : ℕ → List ℕ
  lines_from k = flat_map line (range_with_len k (n - k))

  first_line : (k : ℕ) → k < n → line k ++ lines_from (k + 1) ≡ lines_from k
  first_line k below =
      let more : suc (n - (k + 1)) ≡ n - k = omega arith in ap (λ m. flat_map line (range_with_len k m)) more

  -- one more line is written
  pub one_more : (k : ℕ) → k < n → (now after whole : List ℕ) → after ≡ now ++ line k
      → now ++ lines_from k ≡ whole → after ++ lines_from (k + 1) ≡ whole
  one_more k below now after whole is so =
      ap (λ l. l ++ lines_from (k + 1)) is ∙ append_assoc now (line k) (lines_from (k + 1))
      ∙ ap (λ l. now ++ l) (first_line k below) ∙ so
