use Rattle.std.proofs.Common.{◌∙◌, ap, sym, slice_get, get_or}
use Rattle.rgo_tac.specs.Ops.{place_in}
use Rattle.rgo_tac.proofs.Bodies.{place_at, no_place_at}
use Rattle.rgo_tac.proofs.functions.TacFn.place.Goals as goal

pub returns-in-Some : goal.returns-in-Some
returns-in-Some c =
    let b = c.self.inside.body in
    let there = ap (λ is. slice_get is c.args.n) (sym c.items.ensures) ∙ sym c.instr_at.ensures.instr ∙ c.in-Some.is in
    c.place_at.ensures ∙ ap (λ places. get_or places c.args.n 0) c.items-in-Some.ensures
    ∙ sym (place_at b.lists b.pieces b.instrs b.places c.args.n _ there)
    ∙ ap (λ f. place_in (slice_get f.body c.args.n)) c.self.view_is

pub returns-in-None : goal.returns-in-None
returns-in-None c =
    let b = c.self.inside.body in
    let there = ap (λ is. slice_get is c.args.n) (sym c.items.ensures) ∙ sym c.instr_at.ensures.instr ∙ c.in-None.is in
    sym (no_place_at b.lists b.pieces b.instrs b.places c.args.n there)
    ∙ ap (λ f. place_in (slice_get f.body c.args.n)) c.self.view_is
