-- The walk over the prints: those below `kept` were kept, those from `i` on are still to come, and in between are prints that went out,
-- which `truncate` drops.
use Rattle.std.proofs.Common.{◌≡◌, ◌≤◌, drop, take, vec_len}
use Rattle.rgo_outside.specs.Pieces.{AddsOnly}
use Rattle.rgo_runtime.specs.Printing.{IsPieceOf}
use Rattle.rgo_runtime.proofs.lists.Walks.{Walk}
use Rattle.rgo_runtime.proofs.printing.write_in_order.Given as goal

-- how far the walk is; no write has failed
abbrev pub invariant-loop-i : goal.invariant-loop-i
invariant-loop-i g l = record {
  within : l.kept ≤ l.i;
  len : vec_len l.waiting ≡ l.i-end;
  walk : Walk l.fn.waiting.items l.fn.from (take l.kept l.waiting.items) (drop l.i l.waiting.items) l.next
      (g.K.Sink.contents l.fn.out)
      (g.K.Sink.contents l.out);
  faults : g.K.Sink.faults l.out ≡ g.K.Sink.faults l.fn.out;
  pieces : AddsOnly (IsPieceOf l.fn.waiting.items) (g.K.Sink.pieces l.fn.out) (g.K.Sink.pieces l.out);
}
