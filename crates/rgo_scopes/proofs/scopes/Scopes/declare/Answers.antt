use Rattle.rgo_scopes.proofs.scopes.Scopes.declare.Goals as goal
use Rattle.std.proofs.Common.{ap, ◌∙◌, ◌++◌, ◌∷◌, []}
use Rattle.rgo_scopes.specs.Blocks.{declared}
use Rattle.rgo_scopes.specs.Trail.{binding}
use Rattle.rgo_scopes.proofs.TrailLemmas.{trail-declared, view-declared}

pub invariant_of-self-2 : goal.invariant_of-self-2
invariant_of-self-2 g c =
    let b = binding c.args.name c.args.value c.look_up-hidden.result in
    trail-declared c.self.inside.here.items c.push_reserved.new.self.items c.self.inside.outer.items
    c.self.inside.newest c.note.new.newest b c.len-block.result
    c.self.invariant (c.push_reserved.ensures.items ∙ ap (λ l. l ++ b ∷ []) c.in_ok-reserve.ensures.items)
    c.look_up-hidden.ensures (c.len-block.ensures ∙ c.self.inside.outer.ok.0) c.in_ok-note.ensures.noted

pub returns-clause-declared : goal.returns-clause-declared
returns-clause-declared g c =
    let b = binding c.args.name c.args.value c.look_up-hidden.result in
    view-declared c.self.inside.here.items c.push_reserved.new.self.items c.self.inside.outer.items b
    (c.push_reserved.ensures.items ∙ ap (λ l. l ++ b ∷ []) c.in_ok-reserve.ensures.items)
    ∙ ap (declared c.args.name.now c.args.value) c.self.view_is
