use Rattle.std.proofs.Common.{◌∙◌, ap, sym, subst, get_or, slice_get}
use Rattle.rgo_code.specs.Noted.{IsNoted, SaysNothing}
use Rattle.rgo_code.specs.Views.{no_note}
use Rattle.rgo_code.proofs.Parts.{note_found, no_note_found, no_instr_found}
use Rattle.rgo_code.proofs.functions.CodeFn.noted.Goals as goal

pub returns-in-Some-note_at : goal.returns-in-Some-note_at
returns-in-Some-note_at c =
    let own = c.self.inside in
    let kind = c.in-Some.kind in
    let note = c.in-Some-note_at.note.now in
    subst (λ f. IsNoted (slice_get f.body c.args.at) kind note) c.self.view_is
    (note_found own.tac.now.body own.regions.now.notes c.args.at kind note (sym c.in-Some.ensures)
    (ap (λ l. get_or l c.args.at no_note) (sym c.items.ensures) ∙ c.in-Some-note_at.ensures))

pub returns-in-None-note_at : goal.returns-in-None-note_at
returns-in-None-note_at c =
    let own = c.self.inside in
    subst (λ f. SaysNothing (slice_get f.body c.args.at)) c.self.view_is
    (no_note_found own.tac.now.body own.regions.now.notes c.args.at
    (ap (λ l. get_or l c.args.at no_note) (sym c.items.ensures) ∙ c.in-None-note_at.ensures))

pub returns-in-None : goal.returns-in-None
returns-in-None c =
    let own = c.self.inside in
    subst (λ f. SaysNothing (slice_get f.body c.args.at)) c.self.view_is
    (no_instr_found own.tac.now.body own.regions.now.notes c.args.at (sym c.in-None.ensures))
