use Rattle.std.proofs.Common.{nat_eq, subst, ◌∙◌}
use Rattle.std.specs.HashMap.{get}
use Rattle.std.proofs.lemmas.List.{take_all}
use Rattle.rgo_holding.specs.Learning.{Learned}
use Rattle.rgo_holding.proofs.Starting.{learned_more}
use Rattle.rgo_holding.proofs.holding.Holding.learn_all.Goals as goal

pub loop-region-preserved : goal.loop-region-preserved
loop-region-preserved c = (
  λ slots stakes tracks shows all.
      learned_more slots stakes c.loop-region.self c.learn_given.new.self (get nat_eq c.loop-region.known)
      (get nat_eq c.learn_given.new.known) c.loop-region.keys.items c.push.new.self.items c.args.given.now c.loop-region.region-index _ _
      c.in_ok-push.ensures.items c.loop-region-test.true all c.in_ok-learn_given.ensures.tracks
      (λ t s g. c.in_ok-learn_given.ensures.shows slots stakes t s g)
      (λ t s g. c.in_ok-learn_given.ensures.key slots stakes t s g)
      c.in_ok-learn_given.ensures.still (c.loop-region.invariant.0 slots stakes tracks shows all),
  c.learn_given.ensures.kept.0 ∙ c.loop-region.invariant.1,
  c.learn_given.ensures.kept.1 ∙ c.loop-region.invariant.2,
)

pub returns-clause-learns : goal.returns-clause-learns
returns-clause-learns c = λ slots stakes tracks shows all.
    subst (Learned slots stakes c.loop-region.self (get nat_eq c.loop-region.known) c.loop-region.keys.items)
    (take_all c.loop-region.region-index c.args.given.now c.loop-region-test.false)
    (c.loop-region.invariant.0 slots stakes tracks shows all)
