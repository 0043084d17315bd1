use Rattle.std.proofs.Common.{ap, sym, ◌∙◌}
use Rattle.rgo_interpreter.specs.Views.{object_view_or_empty}
use Rattle.rgo_interpreter.proofs.Heap.{read_slot, read_past}
use Rattle.rgo_interpreter.proofs.memory.Memory.object.Goals as goal

pub returns-in-Some : goal.returns-in-Some
returns-in-Some c =
    read_slot c.args.self.now c.args.n _ c.in-Some.ensures c.if-n-self.true ∙ ap object_view_or_empty (sym c.get.ensures)

pub returns-in-None : goal.returns-in-None
returns-in-None c = read_slot c.args.self.now c.args.n _ c.in-None.ensures c.if-n-self.true

pub returns-else-n-self : goal.returns-else-n-self
returns-else-n-self c = read_past c.args.self.now c.args.n c.if-n-self.false
