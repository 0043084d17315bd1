use Rattle.std.proofs.Common.{◌∙◌, ◌<◌, ◌+◌, ap, sym, drop, length, map, arith, Vec, Option}
use Rattle.std.proofs.lemmas.List.{length-map}
use Rattle.rgo_region_machine.specs.Owed.{passed}
use Rattle.rgo_region_machine.specs.declared.regions.Region.{Region}
use Rattle.rgo_region_machine.specs.Regions.{Bindings, bound}
use Rattle.rgo_region_interpreter.specs.Calls.{class_region_in, or_region}
use Rattle.rgo_region_interpreter.specs.Holders.{bound_in}
use Rattle.rgo_region_interpreter.proofs.passing.Lists.{not_named, or_none_same, passed_end, region_at, region_within, regions_same, step_first, step_other}
use Rattle.rgo_region_interpreter.proofs.calls.fill.Goals as goal
use Rattle.rgo_region_interpreter.proofs.calls.fill.Goals.{in-Name+in_ok-bind_first-in-Name, in-NoClass}

pub loop-i-preserved : goal.loop-i-preserved
loop-i-preserved c = λ k.
    let fs = c.args.formals.now in
    let ps = c.args.passes.now in
    let callers = c.args.callers.now in
    let rs = map (class_region_in callers) ps in
    let i = c.loop-i.i in
    let names = c.loop-i.names.items in
    let a : i < length fs = omega (arith, c.loop-i-test.true, c.min-i-end.ensures) in
    let in_passes : i < length ps = omega (arith, c.loop-i-test.true, c.min-i-end.ensures) in
    let b = region_within callers ps i in_passes in
    let rest = λ (p : Bindings). or_region (bound_in names k) (bound p k) in
    let kept = λ (v : Vec (Option Region) _). or_region (bound_in v.items k) (bound (passed (drop (i + 1) fs) (drop (i + 1) rs)) k) in
    elim c.match-formals-i.branch [
      | in-Name+in_ok-bind_first-in-Name w ↦
          ap kept w.names-is
          ∙ step_first fs rs i names w.bind_first.new.names.items w.in-Name.name w.region_by.result k a b w.in-Name.is
          (region_at callers ps i in_passes ∙ sym w.region_by.ensures) (w.in_ok-bind_first-in-Name.ensures k)
          ∙ c.loop-i.invariant k
      | in-NoClass w ↦
          ap kept w.names-is ∙ ap rest (step_other fs rs i a b (not_named _ w.in-NoClass.is)) ∙ c.loop-i.invariant k
    ]

pub returns : goal.returns
returns c = λ bindings same k.
    let fs = c.args.formals.now in
    let ps = c.args.passes.now in
    let rs = map (class_region_in c.args.callers.now) ps in
    let names = c.loop-i.names.items in
    sym (or_none_same (bound_in names k))
    ∙ ap (λ b. or_region (bound_in names k) (bound b k))
    (sym (passed_end fs rs c.loop-i.i (λ a b. omega (arith, a, simp length-map at b, c.loop-i-test.false, c.min-i-end.ensures))))
    ∙ c.loop-i.invariant k
    ∙ ap (λ l. bound (passed fs l) k) (regions_same c.args.callers.now bindings same ps)
