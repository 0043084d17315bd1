use Rattle.std.proofs.Common.{◌≡◌, ◌+◌, ◌-◌, ◌<◌, ◌≤◌, arith, inl, refl, subst, sym}
use Rattle.rgo_core.specs.moves.Cells.{IsAtSpread}
use Rattle.rgo_core.specs.ties.Bounds.{LieInPages}
use Rattle.rgo_core.specs.Core.{layout}
use Rattle.rgo_core.specs.ties.Links.{IsAtElement}
use Rattle.rgo_core.specs.Memory.Words.{base}
use Rattle.rgo_sound.specs.Tac.Ops.{operation_of}
use Rattle.rgo_acts.specs.Actors.{now}
use Rattle.rgo_acts.specs.Elements.{ActorHasElement, HasLocated, HasNoElementHere}
use Rattle.rgo_acts.specs.Ready.{ActorIsBefore}
use Rattle.rgo_acts.specs.Runs.{Run}
use Rattle.rgo_acts.proofs.before.Instructions.{has_variable}
use Rattle.rgo_acts.proofs.before.Measuring.{at_element, at_spread, has_measured, is_inside, is_located, is_nil, is_outside, length_lies, reads_both, within_pages}
use Rattle.rgo_acts.proofs.cells.element.Goals as goal

pub word-pointer-requires : goal.word-pointer-requires
word-pointer-requires g c =
    has_variable c.args.run.now c.args.actor.now c.args.next.now c.requires.before c.args.slice
    (inl (reads_both (operation_of c.args.next.now.op) c.args.slice c.args.index c.requires.at).0)

pub returns-then-pointer-eq0 : goal.returns-then-pointer-eq0
returns-then-pointer-eq0 g c =
    is_nil c.args.run.now c.args.actor.now c.args.next.now c.requires.before c.args.slice c.args.index c.word-pointer.result c.requires.at
    c.word-pointer.ensures c.if-pointer-eq0.true

pub cell-first-requires : goal.cell-first-requires
cell-first-requires g c =
    length_lies c.args.run.now c.args.actor.now c.args.next.now c.requires.before c.args.slice c.args.index c.word-pointer.result
    c.requires.at c.word-pointer.ensures c.if-pointer-eq0.false

pub measure-elements-requires-clause-element : goal.measure-elements-requires-clause-element
measure-elements-requires-clause-element g c =
    subst (λ (r : Run). IsAtElement r.setup.code (now r.setup c.args.actor.now) (c.word-pointer.result - 1)) (sym c.run.view_is)
    (at_element c.args.run.now c.args.actor.now c.args.next.now c.requires.before c.args.slice c.args.index c.word-pointer.result
    c.requires.at c.word-pointer.ensures c.if-pointer-eq0.false)

pub word-index-requires : goal.word-index-requires
word-index-requires g c =
    has_variable c.args.run.now c.args.actor.now c.args.next.now c.requires.before c.args.index
    (inl (reads_both (operation_of c.args.next.now.op) c.args.slice c.args.index c.requires.at).1)

pub returns-then-index-elements : goal.returns-then-index-elements
returns-then-index-elements g c =
    let a = c.args.actor.now in
    let b = record a { seat = c.measure-elements.new.seat; behind = 0 } in
    let before = subst (λ (r : Run). ActorIsBefore r a c.args.next.now) (sym c.run.view_is) c.requires.before in
    subst (λ (r : Run). HasNoElementHere r a b c.args.next.now c.args.slice c.args.index) c.run.view_is
    (is_outside _ a c.args.next.now before c.args.slice c.args.index c.word-pointer.result c.requires.at c.word-pointer.ensures
    c.if-pointer-eq0.false b c.cell-first.result c.measure-elements.result c.measure-elements.ensures.own.0 refl refl
    c.measure-elements.ensures.possible c.measure-elements.ensures.leaves c.word-index.result c.word-index.ensures c.if-index-elements.true)

pub cell-requires : goal.cell-requires
cell-requires g c =
    let a = c.args.actor.now in
    let b = record a { seat = c.measure-elements.new.seat; behind = 0 } in
    let before = subst (λ (r : Run). ActorIsBefore r a c.args.next.now) (sym c.run.view_is) c.requires.before in
    let same = c.page_words-page_words.ensures in
    let few = c.if-elements-page_words.true in
    let whole = subst (λ (r : Run). c.measure-elements.result < r.setup.sizes.page_words) (sym c.run.view_is) (omega (arith, same, few)) in
    subst (λ (r : Run). LieInPages r.setup (c.word-pointer.result - 1) ((1 + c.word-index.result) + 1)) c.run.view_is
    (within_pages _ a c.args.next.now before c.args.slice c.args.index c.word-pointer.result c.requires.at c.word-pointer.ensures
    c.if-pointer-eq0.false b c.cell-first.result c.measure-elements.result c.measure-elements.ensures.own.0 refl refl
    c.measure-elements.ensures.possible c.measure-elements.ensures.leaves c.word-index.result c.if-index-elements.false whole)

pub returns-then-elements-page_words : goal.returns-then-elements-page_words
returns-then-elements-page_words g c =
    let a = c.args.actor.now in
    let b = record a { seat = c.measure-elements.new.seat; behind = 0 } in
    let before = subst (λ (r : Run). ActorIsBefore r a c.args.next.now) (sym c.run.view_is) c.requires.before in
    let same = c.page_words-page_words.ensures in
    let few = c.if-elements-page_words.true in
    let whole = subst (λ (r : Run). c.measure-elements.result < r.setup.sizes.page_words) (sym c.run.view_is) (omega (arith, same, few)) in
    let at = subst (λ (r : Run). c.cell.result ≡ base (layout r.setup) + ((c.word-pointer.result - 1) + (1 + c.word-index.result)))
    (sym c.run.view_is) c.cell.ensures.at in
    let inside = subst (λ (r : Run). c.cell.result < r.table.words) (sym c.run.view_is) c.cell.ensures.inside in
    subst (λ (r : Run). ActorHasElement r a b c.args.next.now c.args.slice c.args.index c.cell.result) c.run.view_is
    (is_inside _ a c.args.next.now before c.args.slice c.args.index c.word-pointer.result c.requires.at c.word-pointer.ensures
    c.if-pointer-eq0.false b c.cell-first.result c.measure-elements.result c.measure-elements.ensures.own.0 refl refl
    c.measure-elements.ensures.possible c.measure-elements.ensures.leaves c.word-index.result c.word-index.ensures c.if-index-elements.false
    whole c.cell.result at inside)

pub locate-requires-clause-before : goal.locate-requires-clause-before
locate-requires-clause-before g c =
    let a = c.args.actor.now in
    let b = record a { seat = c.measure-elements.new.seat; behind = 0 } in
    let before = subst (λ (r : Run). ActorIsBefore r a c.args.next.now) (sym c.run.view_is) c.requires.before in
    subst (λ (r : Run). ActorIsBefore r b c.args.next.now) c.run.view_is
    (has_measured _ a c.args.next.now before c.args.slice c.args.index c.word-pointer.result c.requires.at c.word-pointer.ensures
    c.if-pointer-eq0.false b c.cell-first.result c.measure-elements.result c.measure-elements.ensures.own.0 refl refl
    c.measure-elements.ensures.possible c.measure-elements.ensures.leaves).before

pub locate-requires-clause-spread : goal.locate-requires-clause-spread
locate-requires-clause-spread g c =
    let a = c.args.actor.now in
    let b = record a { seat = c.measure-elements.new.seat; behind = 0 } in
    let before = subst (λ (r : Run). ActorIsBefore r a c.args.next.now) (sym c.run.view_is) c.requires.before in
    let same = c.page_words-page_words.ensures in
    let many = c.if-elements-page_words.false in
    let spread = subst (λ (r : Run). r.setup.sizes.page_words ≤ c.measure-elements.result) (sym c.run.view_is) (omega (arith, same, many)) in
    subst (λ (r : Run). IsAtSpread r.setup (now r.setup b) (c.word-pointer.result - 1) 1 c.word-index.result) c.run.view_is
    (at_spread _ a c.args.next.now before c.args.slice c.args.index c.word-pointer.result c.requires.at c.word-pointer.ensures
    c.if-pointer-eq0.false b c.cell-first.result c.measure-elements.result c.measure-elements.ensures.own.0 refl refl
    c.measure-elements.ensures.possible c.measure-elements.ensures.leaves c.word-index.result c.word-index.ensures c.if-index-elements.false
    spread)

pub returns : goal.returns
returns g c =
    let a = c.args.actor.now in
    let b = record a { seat = c.measure-elements.new.seat; behind = 0 } in
    let before = subst (λ (r : Run). ActorIsBefore r a c.args.next.now) (sym c.run.view_is) c.requires.before in
    let has = subst (λ (r : Run). HasLocated r b c.locate.new.actor c.args.next.now (c.word-pointer.result - 1) c.word-index.result c.locate.result)
    (sym c.run.view_is) c.locate.ensures in
    subst (λ (r : Run). ActorHasElement r a c.locate.new.actor c.args.next.now c.args.slice c.args.index c.locate.result) c.run.view_is
    (is_located _ a c.args.next.now before c.args.slice c.args.index c.word-pointer.result c.requires.at c.word-pointer.ensures
    c.if-pointer-eq0.false b c.cell-first.result c.measure-elements.result c.measure-elements.ensures.own.0 refl refl
    c.measure-elements.ensures.possible c.measure-elements.ensures.leaves c.word-index.result c.word-index.ensures c.if-index-elements.false
    c.locate.new.actor c.locate.result has)
