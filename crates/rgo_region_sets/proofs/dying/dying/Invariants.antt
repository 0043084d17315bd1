use Rattle.std.proofs.Common.{◌≡◌, ◌↔◌, ℕ, length, vec_len}
use Rattle.rgo_graphs.specs.Rows.{Relates, rows_of}
use Rattle.rgo_region_sets.proofs.Tables.{DiesAmong}
use Rattle.rgo_region_sets.proofs.dying.dying.Given as goal

abbrev pub invariant-loop-span : goal.invariant-loop-span
invariant-loop-span l =
    record {
      len : vec_len l.rows ≡ length l.points;
      rows : (b k : ℕ) → Relates (rows_of l.rows.items) b k
          ↔ DiesAmong l.spans l.points l.targets l.span-index b k;
    }
