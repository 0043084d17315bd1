use Rattle.std.proofs.Common.{◌∙◌, sym}
use Rattle.rgo_region_sets.proofs.Seeing.{adds_first, adds_again}
use Rattle.rgo_region_sets.proofs.regions.add_distinct.Goals as goal

pub returns-in_ok-push-in-Some : goal.returns-in_ok-push-in-Some
returns-in_ok-push-in-Some c = λ classes before.
    let s = adds_first c.args.seen.now c.see.new.seen c.args.distinct.now.items c.args.class c.in-Some.name
    (sym c.name_of.ensures ∙ c.in-Some.is) c.in_ok-see-in-Some.ensures.adds c.in_ok-see-in-Some.field-0
    c.in_ok-see-in-Some.ensures.first classes before c.if-branch.true in
    (c.in_ok-push-in-Some.ensures.items ∙ s.0, s.1)

pub returns-else-branch : goal.returns-else-branch
returns-else-branch c = λ classes before.
    adds_again c.args.seen.now c.see.new.seen c.args.distinct.now.items c.args.class c.in-Some.name
    (sym c.name_of.ensures ∙ c.in-Some.is) c.in_ok-see-in-Some.ensures.adds c.in_ok-see-in-Some.field-0
    c.in_ok-see-in-Some.ensures.first classes before c.if-branch.false
