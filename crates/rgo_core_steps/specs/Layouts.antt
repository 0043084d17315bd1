-- The sizes of a table, by which calls find its words. Code gets them as an argument, since the table itself does not have them.
use Rattle.std.specs.Prelude.{◌≡◌, ◌≤◌, ◌^◌}
use Rattle.atomic_table.specs.Seated.{TableId}
use Rattle.rgo_core.specs.Memory.Words.{all_words}
use Rattle.rgo_core.specs.Memory.declared.layout.TableSizes.{TableSizes}
use Rattle.rgo_core.specs.Core.{Setup, layout}

-- these are the sizes of the table that was made for T, and the table has all its words
pub record HasLayout (T : Setup) (z : TableSizes) (table : TableId) : Type 0 where
  pub sizes : z ≡ layout T
  -- positions are sums that then do not overflow
  pub fits : all_words z ≤ 2 ^ 32
  pub words : table.words ≡ all_words z
