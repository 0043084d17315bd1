use Rattle.std.proofs.Common.{◌-◌, ◌≤◌, length, take}
use Rattle.std.specs.Io.KnownBytes.{Appends}
use Rattle.rgo_round_robin.specs.Lines.{Writes}
use Rattle.rgo_round_robin.proofs.lines.write_lines.Given as goal

-- how far the bytes have gone out, and that no write has failed
abbrev pub invariant-loop-written : goal.invariant-loop-written
invariant-loop-written g l = record {
  within : l.written ≤ length l.bytes;
  out : Appends (g.K.Sink.contents l.initial.out) (g.K.Sink.contents l.out) (take l.written l.bytes);
  sink : Writes ⊥ (g.K.Sink.faults l.initial.out) (g.K.Sink.faults l.out) (g.K.Sink.broken l.out)
      (g.K.Sink.pieces l.initial.out)
      (g.K.Sink.pieces l.out);
}

abbrev pub decreases-loop-written : goal.decreases-loop-written
decreases-loop-written g l = length l.bytes - l.written
