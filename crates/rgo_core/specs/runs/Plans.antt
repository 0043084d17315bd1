-- What is fixed when a table opens, in the terms of the definitions: every law has it as its first argument.
use Rattle.rgo_core.specs.Core.{Setup}
use Rattle.rgo_core.specs.declared.table.Plan.{Plan}

abbrev pub setup_of : Plan → Setup
setup_of plan = record { code = plan.code.value; sizes = plan.sizes; limits = plan.limits }
