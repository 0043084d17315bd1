use Rattle.rgo_core_facts.proofs.Lying.{operand_points}
use Rattle.rgo_core_facts.proofs.memory.operand_points.Goals as goal

pub returns : goal.returns
returns c = operand_points
