-- Those at the address and those elsewhere are together all, so that the count does not pass below zero and stays that of the view.
use Rattle.std.proofs.Common.{◌≡◌, ◌∙◌, ap, arith, length, min, sym, [], take, drop, append-nil}
use Rattle.std.proofs.lemmas.List.{length-drop}
use Rattle.std.specs.VecDeque.{deque_items}
use Rattle.rgo_runtime.specs.Parking.{elsewhere, pairs_of, values_at}
use Rattle.rgo_runtime.proofs.lists.Queues.{nothing_in, parted}
use Rattle.rgo_runtime.proofs.queues.Queues.take.Goals as goal

pub overflow_sub-self : goal.overflow_sub-self
overflow_sub-self g c =
    let parts = parted c.args.at (pairs_of deque_items c.self.inside.queues.entries) in
    omega (arith, parts, c.in-Ok.ensures.many, c.self.invariant)

pub invariant_of-self : goal.invariant_of-self
invariant_of-self g c =
    let before = pairs_of deque_items c.self.inside.queues.entries in
    let after = pairs_of deque_items c.take_from.new.queues.entries in
    let parts = parted c.args.at before in
    let now = parted c.args.at after in
    let left = ap length c.in-Ok.ensures.left ∙ length-drop c.in-Ok.many (values_at c.args.at before) in
    let others = ap length c.in-Ok.ensures.others in
    omega (arith, parts, now, left, others, c.in-Ok.ensures.many, c.self.invariant)
