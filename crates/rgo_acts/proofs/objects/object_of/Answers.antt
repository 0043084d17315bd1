use Rattle.std.proofs.Common.{◌<◌, ◌≤◌, arith, subst}
use Rattle.rgo_core_facts.specs.MemoryObjects.{data_pages_of}
use Rattle.rgo_sound.specs.RegionMachine.Objects.{most_data_pages}
use Rattle.rgo_acts.proofs.new_objects.Kinds.{key_at, no_key}
use Rattle.rgo_acts.proofs.objects.object_of.Goals as goal

pub returns-then-data_pages-most_data_pages-clause-object : goal.returns-then-data_pages-most_data_pages-clause-object
returns-then-data_pages-most_data_pages-clause-object c =
    let a = c.args in
    let has = c.data_pages.ensures in
    let most = c.most_data_pages.ensures in
    let more = c.if-data_pages-most_data_pages.true in
    subst (λ n. most_data_pages n < data_pages_of n a.words a.before) c.page_words-page_words.ensures (omega (arith, has, most, more))

pub unreachable-requires : goal.unreachable-requires
unreachable-requires c =
    let a = c.args in
    no_key a.actor.now.body.holding c.region_of.result _ c.requires.wants.region c.in_default.is
    (c.region_of.ensures a.run.now.setup a.run.now.program _ c.requires.before.stands.shows) c.requires.wants.in_class

pub returns-clause-object : goal.returns-clause-object
returns-clause-object c =
    let a = c.args in
    let wants = c.requires.wants in
    let has = c.data_pages.ensures in
    let most = c.most_data_pages.ensures in
    let few = c.if-data_pages-most_data_pages.false in
    let small = subst (λ n. data_pages_of n a.words a.before ≤ most_data_pages n) c.page_words-page_words.ensures
    (omega (arith, has, most, few)) in
    record {
      is_new = record {
        region = wants.region;
        at_key = key_at a.actor.now.body.holding c.region_of.result c.in-Some.key _ wants.region c.in-Some.is
            (c.region_of.ensures a.run.now.setup a.run.now.program _ c.requires.before.stands.shows) wants.in_class;
        low = wants.low;
        few = wants.few;
        object = wants.fits small;
      };
      small = small;
      some = wants.some;
    }
