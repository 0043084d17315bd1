use Rattle.std.proofs.Common.{◌≡◌, ◌∙◌, ◌++◌, ◌∷◌, [], ap, nat_eq, None, rules}
use Rattle.indexmap.proofs.CallerLemmas.{insert_entry-new}
use Rattle.indexmap.specs.IndexMap.{get, insert_entry}
use Rattle.std.specs.VecDeque.{deque_items}
use Rattle.rgo_runtime.specs.Parking.{pairs_of}
use Rattle.rgo_runtime.proofs.lists.Queues.{begun}
use Rattle.rgo_runtime.proofs.queues.new_queue.Goals as goal

pub returns-clause-begun : goal.returns-clause-begun
returns-clause-begun g c =
    let same = c.in-Ok.ensures.entries in
    let none : get nat_eq c.reserve.new.self c.args.at ≡ None = rw same c.requires in
    let queue = c.push_back.new.self in
    let inserted : c.insert.new.self.entries ≡ insert_entry nat_eq c.reserve.new.self.entries c.args.at queue = search rules in
    ap (pairs_of deque_items) (inserted ∙ insert_entry-new nat_eq c.reserve.new.self c.args.at queue none)
    ∙ begun deque_items c.reserve.new.self.entries c.args.at queue c.args.value (search rules)
    ∙ ap (λ es. pairs_of deque_items es ++ (c.args.at, c.args.value) ∷ []) same
