use Rattle.rgo_core_facts.proofs.OwnPages.{room_lies}
use Rattle.rgo_core_facts.proofs.memory.room_lies.Goals as goal

pub returns : goal.returns
returns c = room_lies
