use Rattle.rgo_scopes.proofs.scopes.Scopes.enter.Goals as goal
use Rattle.std.proofs.Common.{ap, ◌∙◌, ◌++◌, ◌∷◌, []}
use Rattle.rgo_scopes.specs.Blocks.{entered}
use Rattle.rgo_scopes.proofs.TrailLemmas.{trail-entered, view-entered}

pub invariant_of-self-2 : goal.invariant_of-self-2
invariant_of-self-2 g c =
    trail-entered c.self.inside.here.items c.replace-here.new.dest.items c.self.inside.outer.items
    c.push_reserved.new.self.items c.replace-here.result c.self.inside.newest
    c.self.invariant (ap (λ v. v.items) c.replace-here.ensures.after ∙ c.new.ensures.items)
    (ap (λ v. v.items) c.replace-here.ensures.value)
    (c.push_reserved.ensures.items ∙ ap (λ l. l ++ c.replace-here.result ∷ []) c.in_ok-reserve.ensures.items)

pub returns-clause-entered : goal.returns-clause-entered
returns-clause-entered g c =
    view-entered c.self.inside.here.items c.replace-here.new.dest.items c.self.inside.outer.items
    c.push_reserved.new.self.items c.replace-here.result
    (ap (λ v. v.items) c.replace-here.ensures.after ∙ c.new.ensures.items)
    (ap (λ v. v.items) c.replace-here.ensures.value)
    (c.push_reserved.ensures.items ∙ ap (λ l. l ++ c.replace-here.result ∷ []) c.in_ok-reserve.ensures.items)
    ∙ ap entered c.self.view_is
