use Rattle.rgo_core_rule.specs.Counting.{new_adder}
use Rattle.rgo_core_rule.specs.Views.{number_of, record_of}
use Rattle.rgo_core_rule.proofs.Adding.{add_moves}
use Rattle.rgo_core_rule.proofs.counting.add.Goals as goal

pub fetch_add-requires-clause-asks : goal.fetch_add-requires-clause-asks
fetch_add-requires-clause-asks c =
    let me = c.args.seat.now.me in
    (c.requires.alone, add_moves c.args.table.now.shared.key.limit (number_of me) (record_of new_adder me))
