use Rattle.std.proofs.Common.{arith}
use Rattle.rgo_core_rule.specs.Counting.{new_adder}
use Rattle.rgo_core_rule.specs.Views.{number_of, record_of}
use Rattle.rgo_core_rule.proofs.Adding.{start_moves, started_some, started_none}
use Rattle.rgo_core_rule.proofs.counting.start.Goals as goal

pub fetch_add_start-found-requires-clause-asks : goal.fetch_add_start-found-requires-clause-asks
fetch_add_start-found-requires-clause-asks c =
    let me = c.args.seat.now.me in (
      c.requires.alone,
      rw c.requires.limit (start_moves c.args.table.now.shared.key.limit (number_of me) (record_of new_adder me) c.requires.first),
    )

pub returns-then-found-limit-clause-started : goal.returns-then-found-limit-clause-started
returns-then-found-limit-clause-started c = started_some c.args.limit c.args.seat.now.me c.fetch_add_start-found.result c.fetch_add_start-found.new.seat.me (omega (arith, c.if-found-limit.true)) c.fetch_add_start-found.ensures.told

pub returns-else-found-limit-clause-started : goal.returns-else-found-limit-clause-started
returns-else-found-limit-clause-started c = started_none c.args.limit c.args.seat.now.me c.fetch_add_start-found.result c.fetch_add_start-found.new.seat.me (omega (arith, c.if-found-limit.false)) c.fetch_add_start-found.ensures.told
