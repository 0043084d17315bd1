use Rattle.std.proofs.Common.{inl, sym, ap, subst}
use Rattle.rgo_core_steps.specs.After.{making_apart}
use Rattle.rgo_sound.specs.RegionMachine.Counts.{Counts}
use Rattle.rgo_body.specs.Reserves.{PageReserve}
use Rattle.rgo_body.specs.Shows.{BodyShows}
use Rattle.rgo_body.specs.declared.bodies.Body.{Body}
use Rattle.rgo_body.proofs.Acting.{made_apart_shows}
use Rattle.rgo_body.proofs.bodies.Body.made_apart.Goals as goal

pub returns-clause-shows : goal.returns-clause-shows
returns-clause-shows c T r s word =
    let m = c.go_on.new.self in
    subst (λ (x : PageReserve × Counts). BodyShows T c.args.program.now (record m { reserved = x.0; counts = x.1 }) (making_apart T r))
    (λ i. (sym c.clear.ensures i, sym c.add_object.ensures i))
    (made_apart_shows T c.args.program.now c.args.self.now m r c.args.next.now c.args.word s c.requires.ready c.go_on.ensures
    (inl c.requires.does) word)

pub returns-clause-side : goal.returns-clause-side
returns-clause-side c = ap (λ (b : Body). b.side) c.go_on.ensures.rest

pub returns-clause-not_yet : goal.returns-clause-not_yet
returns-clause-not_yet c = ap (λ (b : Body). b.is_expanded) c.go_on.ensures.rest
