use Rattle.std.proofs.Common.{arith, subst}
use Rattle.rgo_body.specs.Fields.{PointsToFields}
use Rattle.rgo_acts.specs.Runs.{Run}
use Rattle.rgo_acts.proofs.accesses.Fields.{field_here, field_lies, field_located, field_spread}
use Rattle.rgo_acts.proofs.cells.field_word.Goals as goal

pub cell-requires : goal.cell-requires
cell-requires g c =
    let a = c.args in
    let same = c.page_words-page_words.ensures in
    let few = c.if-fields-page_words.true in
    field_lies a.run.now a.actor.now a.next.now c.requires.before a.pointer a.field a.address c.requires.at c.requires.points
    c.fields_at-fields.result
    (subst (λ (r : Run). PointsToFields r.program a.next.now a.pointer c.fields_at-fields.result) c.run.view_is c.fields_at-fields.ensures)
    (omega (arith, same, few))

pub returns-then-fields-page_words : goal.returns-then-fields-page_words
returns-then-fields-page_words g c =
    let a = c.args in
    let same = c.page_words-page_words.ensures in
    let few = c.if-fields-page_words.true in
    field_here a.run.now a.actor.now a.next.now c.requires.before a.pointer a.field a.address c.requires.at c.requires.points
    c.fields_at-fields.result
    (subst (λ (r : Run). PointsToFields r.program a.next.now a.pointer c.fields_at-fields.result) c.run.view_is c.fields_at-fields.ensures)
    (omega (arith, same, few)) c.cell.result c.cell.ensures.at c.cell.ensures.inside

pub locate-requires-clause-spread : goal.locate-requires-clause-spread
locate-requires-clause-spread g c =
    let a = c.args in
    let same = c.page_words-page_words.ensures in
    let more = c.if-fields-page_words.false in
    field_spread a.run.now a.actor.now a.next.now c.requires.before a.pointer a.field a.address c.requires.at c.requires.points
    c.fields_at-fields.result
    (subst (λ (r : Run). PointsToFields r.program a.next.now a.pointer c.fields_at-fields.result) c.run.view_is c.fields_at-fields.ensures)
    (omega (arith, same, more))

pub returns : goal.returns
returns g c =
    let a = c.args in
    field_located a.run.now a.actor.now a.next.now c.requires.before a.pointer a.field a.address c.requires.at c.requires.points
    c.fields_at-fields.result
    (subst (λ (r : Run). PointsToFields r.program a.next.now a.pointer c.fields_at-fields.result) c.run.view_is c.fields_at-fields.ensures)
    c.locate.new.actor c.locate.result c.locate.ensures
