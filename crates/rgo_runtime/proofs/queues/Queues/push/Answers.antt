-- Those at the address and those elsewhere are together all: there is one more of the former.
use Rattle.std.proofs.Common.{◌∙◌, ap, arith, length}
use Rattle.std.specs.VecDeque.{deque_items}
use Rattle.rgo_runtime.specs.Parking.{pairs_of, values_at}
use Rattle.rgo_runtime.proofs.lists.Queues.{length_joined, parted}
use Rattle.rgo_runtime.proofs.queues.Queues.push.Goals as goal

pub invariant_of-self : goal.invariant_of-self
invariant_of-self g c =
    let before = pairs_of deque_items c.self.inside.queues.entries in
    let after = pairs_of deque_items c.add.new.queues.entries in
    let parts = parted c.args.at before in
    let now = parted c.args.at after in
    let joins = ap length c.in-Ok.ensures.joined ∙ length_joined c.args.is_oldest c.args.value (values_at c.args.at before) in
    let others = ap length c.in-Ok.ensures.others in
    let added = c.in-Some.ensures in
    omega (arith, parts, now, joins, others, added.1, c.self.invariant)
