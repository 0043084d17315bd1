-- The run that goroutines are part of, as contracts see it.
use Rattle.std.specs.Prelude.{◌≡◌}
use Rattle.atomic_table.specs.Seated.{TableId}
use Rattle.rgo_sound.specs.Machine.declared.limits.Limits.{Limits}
use Rattle.rgo_core.specs.Memory.declared.layout.TableSizes.{TableSizes}
use Rattle.rgo_core.specs.Core.{Setup}
use Rattle.rgo_core_steps.specs.Layouts.{HasLayout}
use Rattle.rgo_body.specs.Programs.{CompactProgram}

-- what its table was made for, the table, the sizes of it, the limits, and the program
pub record Run : Type 0 where
  pub setup : Setup
  pub table : TableId
  pub sizes : TableSizes
  pub limits : Limits
  pub program : CompactProgram

-- all of one table
pub record IsRun (r : Run) : Type 0 where
  pub layout : HasLayout r.setup r.sizes r.table
  pub limits : r.limits ≡ r.setup.limits
  pub code : r.program.code ≡ r.setup.code
