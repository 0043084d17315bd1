-- The words of a table are within its length, by its sizes.
use Rattle.std.proofs.Common.{ℕ, ◌<◌, ◌≤◌, arith}
use Rattle.atomic_table.specs.Seated.{TableId}
use Rattle.rgo_core.specs.Memory.Words.{count_at, head_at, next_at, state_at}
use Rattle.rgo_core.specs.Memory.declared.layout.TableSizes.{TableSizes}
use Rattle.rgo_core.specs.Core.{Setup}
use Rattle.rgo_core_steps.specs.Layouts.{HasLayout}

module _ {T : Setup} {z : TableSizes} {t : TableId} (k : HasLayout T z t) where
  pub state_low : (p : ℕ) → p < z.pages → state_at z p < t.words
  state_low p low = let w = k.words in omega (arith, w, low)

  pub next_low : (p : ℕ) → p < z.pages → next_at z p < t.words
  next_low p low = let w = k.words in omega (arith, w, low)

  pub count_low : (s : ℕ) → s ≤ z.slots → count_at z s < t.words
  count_low s low = let w = k.words in omega (arith, w, low)

  pub head_low : (s : ℕ) → s ≤ z.slots → head_at z s < t.words
  head_low s low = let w = k.words in omega (arith, w, low)
