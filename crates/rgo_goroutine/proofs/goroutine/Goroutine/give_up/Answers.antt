use Rattle.std.proofs.Common.{◌∙◌, ◌++◌, List, [], ◌∷◌, ap, append_assoc, sym}
use Rattle.rgo_core.specs.Rule.Passes.{after_pass}
use Rattle.rgo_core.specs.Rule.declared.accesses.Access.{Access}
use Rattle.rgo_goroutine.specs.Goroutines.{all_seen, record_of_goroutine, rows_of_children}
use Rattle.rgo_goroutine.proofs.goroutine.Goroutine.give_up.Goals as goal

pub returns-clause-records : goal.returns-clause-records
returns-clause-records c =
    let T = c.args.run.now.setup in
    let go = c.args.self in
    let old = c.args.seat.now.me.0.records in
    let own = (go.number, record_of_goroutine T go) ∷ [] in
    let its = c.requires.of.stands.alone.0 ∙ ap (λ n. (n, record_of_goroutine T go) ∷ []) (sym c.requires.of.number) in
    c.hand_over.ensures.records
    ∙ (ap (λ k. k ++ rows_of_children T go.children.items) (c.join.ensures.records ∙ ap (λ k. old ++ k) its)
    ∙ append_assoc old own (rows_of_children T go.children.items))

pub returns-clause-seen : goal.returns-clause-seen
returns-clause-seen c =
    c.hand_over.ensures.seen ∙ ap (λ (k : List Access). after_pass k (all_seen c.args.self.children.items)) c.join.ensures.seen
