use Rattle.std.proofs.Common.{◌≡◌, ◌∙◌, sym}
use Rattle.std.proofs.lemmas.Result.{IfOk-weaker}
use Rattle.rgo_region_sets.specs.Asked.{AddsPassed}
use Rattle.rgo_region_sets.specs.Sets.{pushed_if}
use Rattle.rgo_region_sets.proofs.Seeing.{passed_name}
use Rattle.rgo_region_sets.proofs.protected.protect.Goals as goal

pub returns-in_ok-first-in-Some : goal.returns-in_ok-first-in-Some
returns-in_ok-first-in-Some c =
    let f = c.args.f.now in
    let old = c.args.names.now.items in
    let new = c.push_if.new.names.items in
    IfOk-weaker c.push_if.result
    (λ ok. new ≡ pushed_if c.is_needed-needed.result old c.in-Some.name)
    (λ ok. AddsPassed f c.args.at c.args.class old new c.args.seen.now c.see.new.seen)
    (λ ok pushes. passed_name f c.args.at c.args.class old new c.args.seen.now c.see.new.seen c.in-Some.name
    c.in_ok-first-in-Some.first c.is_needed-needed.result (sym c.name_of.ensures ∙ c.in-Some.is)
    c.in_ok-first-in-Some.ensures.first c.in_ok-first-in-Some.ensures.adds c.is_needed-needed.ensures pushes)
    c.push_if.ensures
