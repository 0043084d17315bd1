use Rattle.std.proofs.Common.{◌≡◌, vec_len}
use Rattle.rgo_summaries.proofs.Listing.{AreNone}
use Rattle.rgo_summaries.proofs.beginning.no_sites.Given as goal

abbrev pub invariant-loop-done : goal.invariant-loop-done
invariant-loop-done l = record {
  len : vec_len l.sites ≡ l.done;
  none : AreNone l.sites.items;
}
