use Rattle.std.proofs.Common.{◌≡◌, ◌++◌, reverse, vec_len}
use Rattle.rgo_core.specs.Rule.Passes.{after_pass}
use Rattle.rgo_goroutine.specs.Goroutines.{AreChildren, all_seen, rows_of_children}
use Rattle.rgo_goroutine.proofs.goroutine.hand_over.Given as goal

-- what has come, and what is still to come, from the end
abbrev pub invariant-loop-child : goal.invariant-loop-child
invariant-loop-child l = record {
  table : l.seat.table_id ≡ l.fn.seat.table_id;
  id : l.seat.id ≡ l.fn.seat.id;
  stand : AreChildren l.run (reverse l.started.items);
  records : l.seat.me.0.records ++ rows_of_children l.run.setup (reverse l.started.items)
      ≡ l.fn.seat.me.0.records ++ rows_of_children l.run.setup l.fn.started.items;
  seen : after_pass l.seat.me.0.seen (all_seen (reverse l.started.items)) ≡ after_pass l.fn.seat.me.0.seen (all_seen l.fn.started.items);
  slots : l.seat.me.1 ≡ l.fn.seat.me.1;
}

abbrev pub decreases-loop-child : goal.decreases-loop-child
decreases-loop-child l = vec_len l.started
