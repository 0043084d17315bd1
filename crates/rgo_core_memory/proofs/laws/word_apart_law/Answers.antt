use Rattle.rgo_core_memory.proofs.objects.Allocating.{word_keeps_apart}
use Rattle.rgo_core_memory.proofs.laws.word_apart_law.Goals as goal

pub returns : goal.returns
returns c = word_keeps_apart
