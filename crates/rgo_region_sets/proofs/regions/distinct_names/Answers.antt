use Rattle.std.proofs.Common.{◌++◌, List, [], take, subst, sym, ap, arith}
use Rattle.std.proofs.lemmas.List.{take_more}
use Rattle.rgo_tac.specs.declared.regions.Class.{Class}
use Rattle.rgo_code.specs.Names.{distinct_names}
use Rattle.rgo_region_sets.specs.Seen.{IsSeen}
use Rattle.rgo_region_sets.proofs.Distinct.{distinct_more}
use Rattle.rgo_region_sets.proofs.Seeing.{none_seen, distinct_all}
use Rattle.rgo_region_sets.proofs.regions.distinct_names.Goals as goal

pub loop-class-init : goal.loop-class-init
loop-class-init c = record {
  names = ap (λ (l : List Class). l ++ distinct_names [] c.args.classes.now) c.new-distinct.ensures.items;
  sees = none_seen c.new-seen.result c.new-seen.ensures.empty;
}

pub loop-class-preserved : goal.loop-class-preserved
loop-class-preserved c =
    let before = take c.loop-class.class-index c.args.classes.now in
    let step = c.in_ok-add_distinct.ensures before c.loop-class.invariant.sees in
    record {
      names = distinct_more c.args.classes.now c.loop-class.distinct.items c.add_distinct.new.distinct.items
          c.loop-class.class-index _ c.loop-class-test.true c.loop-class.invariant.names step.0;
      sees = subst (λ (l : List Class). IsSeen c.add_distinct.new.seen l)
          (sym (take_more c.args.classes.now c.loop-class.class-index _ c.loop-class-test.true)) step.1;
    }

pub returns : goal.returns
returns c =
    distinct_all c.args.classes.now c.loop-class.distinct.items c.loop-class.class-index
    (omega (arith, c.loop-class-test.false)) c.loop-class.invariant.names
