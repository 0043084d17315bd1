use Rattle.rgo_scopes.proofs.scopes.Scopes.is_declared_here.Goals as goal
use Rattle.std.proofs.Common.{ap, ◌∙◌, sym, is_some, nat_eq}
use Rattle.rgo_scopes.specs.Blocks.{found_in}
use Rattle.rgo_scopes.proofs.TrailLemmas.{is_at, is_at-noted}

pub returns-in-Some : goal.returns-in-Some
returns-in-Some g c =
    ap (nat_eq c.in-Some.seen.block) (c.len.ensures ∙ c.self.inside.outer.ok.0)
    ∙ ap (is_at _) (sym c.in-Some.is ∙ c.look_up.ensures)
    ∙ is_at-noted c.self.inside.here.items c.self.inside.outer.items c.self.inside.newest c.self.invariant
    c.args.name.now
    ∙ ap (λ s. is_some (found_in c.args.name.now s.here)) c.self.view_is
