use Rattle.std.proofs.Common.{◌≡◌, ◌+◌, ◌-◌, ◌/◌, ◌%◌, ◌<◌, ◌≤◌, ◌^◌, ◌∙◌, Fits, w64, ap, arith, refl, subst, sym}
use Rattle.rgo_core.specs.moves.Cells.{IsAtSpread}
use Rattle.rgo_core.specs.ties.Bounds.{LieInPages}
use Rattle.rgo_core.specs.Core.{layout}
use Rattle.rgo_core.specs.Memory.Words.{all_words, cell_at}
use Rattle.rgo_core.specs.Memory.declared.layout.TableSizes.{TableSizes}
use Rattle.rgo_acts.specs.Actors.{now}
use Rattle.rgo_acts.specs.Elements.{HasLocated}
use Rattle.rgo_acts.specs.Ready.{ActorIsBefore}
use Rattle.rgo_acts.specs.Runs.{Run}
use Rattle.rgo_acts.proofs.before.Locating.{has_located, number_lies, pages_have_words}
use Rattle.rgo_acts.proofs.cells.locate.Goals as goal

pub nonzero_div-cell : goal.nonzero_div-cell
nonzero_div-cell g c =
    let a = c.args in
    let e = c.page_words-page_words.ensures in
    let some = pages_have_words a.run.now a.actor.now a.next.now c.requires.before a.address a.before a.cell c.requires.spread in
    omega (arith, e, some)

pub nonzero_rem-cell : goal.nonzero_rem-cell
nonzero_rem-cell g c =
    let a = c.args in
    let e = c.page_words-page_words.ensures in
    let some = pages_have_words a.run.now a.actor.now a.next.now c.requires.before a.address a.before a.cell c.requires.spread in
    omega (arith, e, some)

pub overflow_add-before : goal.overflow_add-before
overflow_add-before g c =
    let a = c.args in
    let lies = number_lies a.run.now a.actor.now a.next.now c.requires.before a.address a.before a.cell c.requires.spread in
    let fits : all_words (layout a.run.now.setup) ≤ 2 ^ 32 =
    subst (λ (z : TableSizes). all_words z ≤ 2 ^ 32) c.fits.ensures.layout.sizes c.fits.ensures.layout.fits in
    subst (λ k. Fits w64 (a.before + a.cell / k)) (sym c.page_words-page_words.ensures) (omega (arith, lies, fits))

pub cell-word-requires : goal.cell-word-requires
cell-word-requires g c =
    let a = c.args in
    subst (λ k. LieInPages a.run.now.setup a.address (a.before + a.cell / k + 1)) (sym c.page_words-page_words.ensures)
    (number_lies a.run.now a.actor.now a.next.now c.requires.before a.address a.before a.cell c.requires.spread)

pub index-number-requires-clause-spread : goal.index-number-requires-clause-spread
index-number-requires-clause-spread g c =
    subst (λ (r : Run). IsAtSpread r.setup (now r.setup c.args.actor.now) c.args.address c.args.before c.args.cell) (sym c.run.view_is)
    c.requires.spread

pub returns : goal.returns
returns g c =
    let a = c.args.actor.now in
    let b = record a { seat = c.index-number.new.seat; behind = 0 } in
    let n = c.index-number.result in
    let before = subst (λ (r : Run). ActorIsBefore r a c.args.next.now) (sym c.run.view_is) c.requires.before in
    let at = subst (λ (r : Run). IsAtSpread r.setup (now r.setup a) c.args.address c.args.before c.args.cell) (sym c.run.view_is)
    c.requires.spread in
    let is = subst (λ (r : Run). c.cell_in.result ≡ cell_at (layout r.setup) (n - 1) (c.args.cell % r.setup.sizes.page_words))
    (sym c.run.view_is)
    (c.cell_in.ensures.at
    ∙ ap (λ k. cell_at (layout c.args.run.now.setup) (n - 1) (c.args.cell % k)) c.page_words-page_words.ensures) in
    let inside = subst (λ (r : Run). c.cell_in.result < r.table.words) (sym c.run.view_is) c.cell_in.ensures.inside in
    subst (λ (r : Run). HasLocated r a b c.args.next.now c.args.address c.args.cell c.cell_in.result) c.run.view_is
    (has_located _ a c.args.next.now before c.args.address c.args.before c.args.cell at b c.cell-word.result n
    c.index-number.ensures.own.0 refl refl c.index-number.ensures.possible c.index-number.ensures.leaves c.cell_in.result is inside)
