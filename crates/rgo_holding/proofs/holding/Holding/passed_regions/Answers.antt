use Rattle.std.proofs.Common.{ap, ◌∙◌}
use Rattle.std.proofs.lemmas.List.{take_all}
use Rattle.rgo_sound.specs.RegionMachine.Owed.{passed_regions}
use Rattle.rgo_sound.specs.RegionMachine.States.{top_names}
use Rattle.rgo_holding.proofs.Starting.{regions_more}
use Rattle.rgo_holding.proofs.holding.Holding.passed_regions.Goals as goal

pub loop-class-preserved : goal.loop-class-preserved
loop-class-preserved c = λ slots h fills shows.
    regions_more (top_names h.environments) c.args.passes.now c.loop-class.class-index _ _ _ _ c.in_ok-push.ensures.items
    c.loop-class-test.true (c.loop-class.invariant slots h fills shows) (c.region_of.ensures slots h fills shows)

pub returns : goal.returns
returns c = λ slots h fills shows.
    c.loop-class.invariant slots h fills shows
    ∙ ap (passed_regions (top_names h.environments)) (take_all c.loop-class.class-index c.args.passes.now c.loop-class-test.false)
