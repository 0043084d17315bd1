use Rattle.std.proofs.Common.{sym}
use Rattle.rgo_interpreter.proofs.Heap.{length_of_heap}
use Rattle.rgo_interpreter.proofs.memory.Memory.len.Goals as goal

pub returns : goal.returns
returns c = sym (length_of_heap c.args.self.now)
