use Rattle.rgo_scopes.proofs.scopes.Scopes.get.Goals as goal
use Rattle.std.proofs.Common.{ap, ◌∙◌, sym, option_map}
use Rattle.rgo_scopes.specs.Blocks.{found}
use Rattle.rgo_scopes.proofs.TrailLemmas.{found-noted}

pub returns-in-Some : goal.returns-in-Some
returns-in-Some g c =
    ap (option_map (λ s. s.value)) (sym c.in-Some.is ∙ c.look_up.ensures)
    ∙ found-noted c.self.inside.here.items c.self.inside.outer.items c.self.inside.newest c.self.invariant
    c.args.name.now
    ∙ ap (found c.args.name.now) c.self.view_is

pub returns-in-None : goal.returns-in-None
returns-in-None g c =
    ap (option_map (λ s. s.value)) (sym c.in-None.is ∙ c.look_up.ensures)
    ∙ found-noted c.self.inside.here.items c.self.inside.outer.items c.self.inside.newest c.self.invariant
    c.args.name.now
    ∙ ap (found c.args.name.now) c.self.view_is
