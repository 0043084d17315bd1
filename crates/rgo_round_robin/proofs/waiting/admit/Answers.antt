use Rattle.std.proofs.Common.{Contains, subst, sym}
use Rattle.std.proofs.lemmas.List.Elements.{Contains-append_left}
use Rattle.rgo_round_robin.proofs.Keepers.{pushed_more}
use Rattle.rgo_round_robin.proofs.waiting.admit.Goals as goal

pub loop-g-preserved : goal.loop-g-preserved
loop-g-preserved c =
    let items = c.in_ok-push.ensures.items in
    record {
      stay = λ h m. subst (λ l. Contains l h) (sym items) (Contains-append_left _ _ h (c.loop-g.invariant.stay h m));
      fresh = λ h past lt. subst (λ l. Contains l h) (sym items)
          (pushed_more c.loop-g.ready.items c.args.from c.loop-g.g c.loop-g.invariant.fresh h past lt);
    }
