-- Words of pages and package variables are words of the table of a run.
use Rattle.std.proofs.Common.{◌≡◌, ◌<◌, ◌≤◌, ◌+◌, ℕ, length, sym, ap, ◌∙◌, arith}
use Rattle.rgo_core.specs.Memory.Words.{all_words, base, variable_at}
use Rattle.rgo_core.specs.ties.Bounds.{LieInPages}
use Rattle.rgo_core.specs.Core.{layout}
use Rattle.rgo_core_facts.proofs.Lying.{pages_in_table}
use Rattle.rgo_acts.specs.Runs.{IsRun, Run}

module _ (r : Run) (run : IsRun r) where
  pub all_of_them : all_words (layout r.setup) ≡ r.table.words
  all_of_them = ap all_words (sym run.layout.sizes) ∙ sym run.layout.words

  pub few : r.table.words ≤ 4294967296
  few = let e = run.layout.words in let f = run.layout.fits in omega (arith, e, f)

  pub cell_inside : (address offset : ℕ) → LieInPages r.setup address (offset + 1) → base (layout r.setup) + (address + offset) < r.table.words
  cell_inside address offset lies =
      let e = pages_in_table r.setup address (offset + 1) lies in
      let all = all_of_them in
      omega (arith, e, all)

  pub variable_inside : (n : ℕ) → n < length r.setup.code.variables → variable_at (layout r.setup) n < r.table.words
  variable_inside n exists = let all = all_of_them in omega (arith, all, exists)
