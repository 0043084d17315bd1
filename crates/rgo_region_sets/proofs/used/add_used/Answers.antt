use Rattle.std.proofs.Common.{ℕ, List, Option, option_to_list, subst}
use Rattle.std.proofs.lemmas.Result.{on_ok_weaker}
use Rattle.rgo_tac.specs.Ops.{operation_of}
use Rattle.rgo_region_sets.specs.Used.{AddsNames}
use Rattle.rgo_region_sets.proofs.Naming.{then_named}
use Rattle.rgo_region_sets.proofs.used.add_used.Goals as goal

pub returns : goal.returns
returns c =
    let old = c.args.names.now.items in
    let mid = c.add_read.new.names.items in
    let new = c.add_written.new.names.items in
    on_ok_weaker c.add_written.result (λ h. then_named c.args.f.now old mid new (operation_of c.args.op)
    (subst (λ (l : List ℕ). AddsNames c.args.f.now old mid l) c.reads.ensures c.in_ok-add_read.ensures)
    (subst (λ (o : Option ℕ). AddsNames c.args.f.now mid new (option_to_list o)) c.writes.ensures h))
    c.add_written.ensures
