use Rattle.std.proofs.Common.{sym, subst, arith}
use Rattle.rgo_summaries.proofs.Listing.{AreNone, none_first, none_more}
use Rattle.rgo_summaries.proofs.beginning.no_sites.Goals as goal

pub loop-done-init : goal.loop-done-init
loop-done-init c = record {
  len = c.new-sites.ensures.len;
  none = subst AreNone (sym c.new-sites.ensures.items) none_first;
}

pub loop-done-preserved : goal.loop-done-preserved
loop-done-preserved c = record {
  len = omega (arith, c.in_ok-push.ensures.len, c.loop-done.invariant.len);
  none = subst AreNone (sym c.in_ok-push.ensures.items)
      (none_more c.loop-done.sites.items c.new.result c.new.ensures.items c.loop-done.invariant.none);
}
