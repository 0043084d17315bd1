-- The map has each address once, so that the values at the address are those of its queue.
use Rattle.std.proofs.Common.{◌∙◌, ◌++◌, ◌∷◌, [], ap, append-nil, sym, true, false}
use Rattle.std.specs.VecDeque.{deque_items}
use Rattle.rgo_runtime.specs.Parking.{elsewhere, queue_with, pairs_of, values_at}
use Rattle.rgo_runtime.proofs.lists.Queues.{changed_at, elsewhere-append, found_at, joined_to_none, kept, none_at, others_kept, one_at, one_elsewhere, values-append}
use Rattle.rgo_runtime.proofs.queues.add.Goals as goal

pub returns-in-Ok-clause-joined : goal.returns-in-Ok-clause-joined
returns-in-Ok-clause-joined g c =
    let es = c.args.queues.now.entries in
    let old = c.in-Some.queue.now in
    let new = c.join.new.queue in
    let found = sym c.in-Some.ensures.value in
    rw ((c.get_mut.follows.holds new).0)
    (changed_at deque_items es c.args.at old new c.in-Some.ensures.unique found
    ∙ (c.in-Ok.ensures.joined
    ∙ ap (queue_with c.args.is_oldest c.args.value) (sym (found_at deque_items es c.args.at old c.in-Some.ensures.unique found))))

pub returns-in-Ok-clause-others : goal.returns-in-Ok-clause-others
returns-in-Ok-clause-others g c =
    let new = c.join.new.queue in
    rw ((c.get_mut.follows.holds new).0)
    (others_kept deque_items c.args.queues.now.entries c.args.at c.in-Some.queue.now new (sym c.in-Some.ensures.value))

pub returns-in-Err-clause-same : goal.returns-in-Err-clause-same
returns-in-Err-clause-same g c =
    let new = c.join.new.queue in
    rw ((c.get_mut.follows.holds new).0)
    (kept deque_items c.args.queues.now.entries c.args.at c.in-Some.queue.now new (sym c.in-Some.ensures.value) c.in-Err.ensures.same)

pub returns-in-Ok-new_queue-clause-joined : goal.returns-in-Ok-new_queue-clause-joined
returns-in-Ok-new_queue-clause-joined g c =
    let es = c.args.queues.now.entries in
    let pairs = c.in-Ok-new_queue.ensures.begun
    ∙ ap (λ m. pairs_of deque_items m.entries ++ (c.args.at, c.args.value) ∷ []) c.get_mut.follows.holds-at-none in
    let none = none_at deque_items es c.args.at (sym c.in-None.ensures.value) in
    ap (values_at c.args.at) pairs
    ∙ (one_at c.args.at c.args.value (pairs_of deque_items es) none
    ∙ sym (joined_to_none c.args.is_oldest c.args.value (values_at c.args.at (pairs_of deque_items es)) none))

pub returns-in-Ok-new_queue-clause-others : goal.returns-in-Ok-new_queue-clause-others
returns-in-Ok-new_queue-clause-others g c =
    let es = c.args.queues.now.entries in
    let pairs = c.in-Ok-new_queue.ensures.begun
    ∙ ap (λ m. pairs_of deque_items m.entries ++ (c.args.at, c.args.value) ∷ []) c.get_mut.follows.holds-at-none in
    ap (elsewhere c.args.at) pairs ∙ one_elsewhere c.args.at c.args.value (pairs_of deque_items es)
