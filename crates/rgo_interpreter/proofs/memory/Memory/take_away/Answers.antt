use Rattle.std.proofs.Common.{ap, ◌∙◌}
use Rattle.rgo_interpreter.specs.Views.{memory_view}
use Rattle.rgo_interpreter.proofs.Heap.{cleared, same_slots, nothing_there}
use Rattle.rgo_interpreter.proofs.memory.Memory.take_away.Goals as goal

pub returns-in_default : goal.returns-in_default
returns-in_default c =
    ap memory_view c.block_mut.follows.holds-at-none ∙ nothing_there c.args.self.now c.args.n c.in_default.ensures.value

pub returns-then-number-self : goal.returns-then-number-self
returns-then-number-self c =
    let without = c.block_mut.follows.lender c.clear.new.self in
    let has = rw c.in-Some.is at (c.block_mut.follows.holds c.clear.new.self) in
    let kept = c.drop_if_empty.ensures in
    same_slots without c.drop_if_empty.new.self kept.slots kept.made kept.variables
    ∙ cleared c.args.self.now without c.args.n _ _ c.in-Some.ensures.value has c.clear.ensures

pub returns-else-number-self : goal.returns-else-number-self
returns-else-number-self c =
    cleared c.args.self.now _ c.args.n _ _ c.in-Some.ensures.value
    (rw c.in-Some.is at (c.block_mut.follows.holds c.clear.new.self)) c.clear.ensures
