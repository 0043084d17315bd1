-- If the queue is found, its values are all those at the address, since the map has each address once; if none is found, there are none, and
-- nothing changes.
use Rattle.std.proofs.Common.{◌≡◌, ◌∙◌, ◌++◌, [], ap, append-nil, arith, drop, length, min, refl, sym, take}
use Rattle.std.specs.VecDeque.{deque_items}
use Rattle.rgo_runtime.specs.Parking.{pairs_of, values_at}
use Rattle.rgo_runtime.proofs.lists.Queues.{changed_at, found_at, kept, none_at, others_kept}
use Rattle.rgo_runtime.proofs.queues.take_from.Goals as goal

pub returns-in-Ok-clause-many : goal.returns-in-Ok-clause-many
returns-in-Ok-clause-many g c =
    let queue = c.in-Some.queue.now in
    let h = found_at deque_items c.args.queues.now.entries c.args.at queue c.in-Some.ensures.unique (sym c.in-Some.ensures.value) in
    let long : c.len.result ≡ length queue.items = c.len.ensures ∙ queue.ok.0 in
    c.min-many.ensures ∙ ap (min c.args.most) (long ∙ ap length (sym h))

pub returns-in-Ok-clause-into : goal.returns-in-Ok-clause-into
returns-in-Ok-clause-into g c =
    let queue = c.in-Some.queue.now in
    let h = found_at deque_items c.args.queues.now.entries c.args.at queue c.in-Some.ensures.unique (sym c.in-Some.ensures.value) in
    c.move_oldest.ensures.into
    ∙ (ap (λ l. l ++ take c.min-many.result queue.items) c.in-Ok.ensures.items
    ∙ ap (λ l. c.args.into.now.items ++ take c.min-many.result l) (sym h))

pub returns-in-Ok-clause-left : goal.returns-in-Ok-clause-left
returns-in-Ok-clause-left g c =
    let es = c.args.queues.now.entries in
    let queue = c.in-Some.queue.now in
    let found = sym c.in-Some.ensures.value in
    let h = found_at deque_items es c.args.at queue c.in-Some.ensures.unique found in
    rw ((c.get_mut.follows.holds c.trim.new.queue).0)
    (changed_at deque_items es c.args.at queue c.trim.new.queue c.in-Some.ensures.unique found
    ∙ (c.trim.ensures ∙ (c.move_oldest.ensures.left ∙ ap (drop c.min-many.result) (sym h))))

pub returns-in-Ok-clause-others : goal.returns-in-Ok-clause-others
returns-in-Ok-clause-others g c =
    rw ((c.get_mut.follows.holds c.trim.new.queue).0)
    (others_kept deque_items c.args.queues.now.entries c.args.at c.in-Some.queue.now c.trim.new.queue (sym c.in-Some.ensures.value))

pub returns-in-Err-clause-same : goal.returns-in-Err-clause-same
returns-in-Err-clause-same g c =
    rw ((c.get_mut.follows.holds c.in-Some.queue.now).0)
    (kept deque_items c.args.queues.now.entries c.args.at c.in-Some.queue.now c.in-Some.queue.now (sym c.in-Some.ensures.value) refl)

pub returns-in-None-clause-many : goal.returns-in-None-clause-many
returns-in-None-clause-many g c =
    let none = ap length (none_at deque_items c.args.queues.now.entries c.args.at (sym c.in-None.ensures.value)) in
    omega (arith, none)
