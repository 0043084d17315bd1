use Rattle.std.proofs.Common.{◌∙◌, [], ap, subst, sym}
use lib.ListN.{get_elem?}
use Rattle.rgo_core.specs.Memory.declared.layout.TableSizes.{TableSizes}
use Rattle.rgo_core.specs.Rule.Views.{Me, rows_for, view}
use Rattle.rgo_core.specs.runs.Opening.{first_of}
use Rattle.rgo_core.specs.Records.{Record}
use Rattle.rgo_acts.specs.Body.Programs.{CompactProgram}
use Rattle.rgo_acts.specs.Body.Shows.{BodyShows}
use Rattle.rgo_acts.specs.Body.declared.bodies.Body.{Body}
use Rattle.rgo_acts.specs.declared.actors.Actor.{Actor}
use Rattle.rgo_goroutine.proofs.Handing.{main_of}
use Rattle.rgo_goroutine.proofs.goroutine.Goroutine.main_goroutine.Goals as goal

pub part-seat-requires-clause-has : goal.part-seat-requires-clause-has
part-seat-requires-clause-has c =
    (first_of c.args.run.now.setup.code, (0, ap (λ (m : Me Record). get_elem? m.0.records 0) c.requires.first))

pub returns-in-Ok-clause-main : goal.returns-in-Ok-clause-main
returns-in-Ok-clause-main c =
    let r = c.args.run.now in
    let T = r.setup in
    let go = c.new-in-Ok.result in
    let actor = c.new-in-Ok.ensures.actor in
    let seat = c.part-seat.ensures.new in
    let me = ap (λ (a : Actor). a.seat.me) actor
    ∙ (seat.1 ∙ ap (λ (m : Me Record). (view (rows_for 0 m.0.records) m.0.seen, [])) c.requires.first) in
    let shows = c.in-Ok.ensures T (sym c.fits.ensures.code ∙ ap (λ (p : CompactProgram). p.code) (sym c.program.ensures))
    (sym (c.slots.ensures ∙ ap (λ (z : TableSizes). z.slots) c.fits.ensures.layout.sizes)) in (
      main_of r go me (ap (λ (a : Actor). a.seat.table_id) actor ∙ (seat.0 ∙ c.requires.own.0)) (ap (λ (a : Actor). a.behind) actor)
          c.new-in-Ok.ensures.number c.new-in-Ok.ensures.prints c.new-in-Ok.ensures.children c.new-in-Ok.ensures.first
          c.requires.possible
          (subst (λ (b : Body). BodyShows T r.program b (first_of T.code)) (sym (ap (λ (a : Actor). a.body) actor))
          (subst (λ (p : CompactProgram). BodyShows T p c.in-Ok.body (first_of T.code)) c.program.ensures shows)),
      c.new-in-Ok.ensures.number,
      me ∙ sym c.requires.first,
    )
