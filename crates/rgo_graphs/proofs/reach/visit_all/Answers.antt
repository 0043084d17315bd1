use Rattle.std.proofs.Common.{◌≡◌, ◌<◌, ◌+◌, ◌-◌, ◌∷◌, ◌∙◌, ℕ, List, length, drop, get_or, arith, ap, sym, subst}
use Rattle.std.proofs.lemmas.List.{at_drop_more}
use Rattle.std.proofs.lemmas.List.Elements.{Contains-get_or}
use Rattle.rgo_graphs.specs.Visits.{Visits}
use Rattle.rgo_graphs.proofs.Marking.{visits_before}
use Rattle.rgo_graphs.proofs.reach.visit_all.Goals as goal

pub visit-requires : goal.visit-requires
visit-requires c =
    let within : c.loop-left.left - 1 < length c.args.these.now = omega (arith, c.loop-left.invariant.within) in
    record {
      inside = omega (
        arith,
        c.loop-left.invariant.visits.size,
        c.requires.inside _ (Contains-get_or c.args.these.now (c.loop-left.left - 1) 0 within),
      );
    }

pub loop-left-preserved : goal.loop-left-preserved
loop-left-preserved c =
    let these = c.args.these.now in
    let k = c.loop-left.left - 1 in
    let within : k < length these = omega (arith, c.loop-left.invariant.within) in
    let next : k + 1 ≡ c.loop-left.left = omega arith in
    let is = at_drop_more (λ (l : List ℕ). l) these k 0 within ∙ ap (λ i. get_or these k 0 ∷ drop i these) next in
    record {
      within = omega (arith, within);
      visits = subst (λ (l : List ℕ). Visits c.args.stamp c.args.found.now.items c.args.marks.now
          c.visit.new.found.items c.visit.new.marks l) (sym is)
          (visits_before c.args.stamp c.args.found.now.items c.args.marks.now c.loop-left.found.items
          c.loop-left.marks c.visit.new.found.items c.visit.new.marks (drop c.loop-left.left these) (get_or these k 0)
          c.loop-left.invariant.visits c.in_ok-visit.ensures.visits);
    }
