use Rattle.std.proofs.Common.{◌≤◌, ◌-◌, length}
use Rattle.rgo_code_words.proofs.PieceLists.{Leads}
use Rattle.rgo_code_words.proofs.printed.read_pieces.Given as goal

abbrev pub invariant-pieces : goal.invariant-pieces
invariant-pieces l = record {
  within : l.at ≤ length l.list;
  leads : Leads l.list l.all.pieces.items l.all.from.items l.at;
}

abbrev pub decreases-pieces : goal.decreases-pieces
decreases-pieces l = length l.list - l.at
