use Rattle.rgo_region_sets.proofs.Apart.{none_begun, last_of_name, last_of_other}
use Rattle.rgo_region_sets.proofs.spans.is_spanned.Goals as goal

pub returns-then-count-eq0 : goal.returns-then-count-eq0
returns-then-count-eq0 c =
    none_begun c.args.spans.now c.args.name c.args.at c.begun-count.result c.begun-count.ensures c.if-count-eq0.true

pub returns-then-span-name : goal.returns-then-span-name
returns-then-span-name c =
    last_of_name c.args.spans.now c.args.name c.args.at c.begun-count.result _ c.requires.apart c.begun-count.ensures
    c.if-count-eq0.false c.if-span-name.true

pub returns-else-span-name : goal.returns-else-span-name
returns-else-span-name c =
    last_of_other c.args.spans.now c.args.name c.args.at c.begun-count.result _ c.requires.apart c.begun-count.ensures
    c.if-count-eq0.false c.if-span-name.false
