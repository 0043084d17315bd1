use Rattle.std.proofs.Common.{◌≡◌, ◌+◌, ◌-◌, ◌/◌, ◌^◌, ◌<◌, ◌≤◌, ◌∙◌, ◌++◌, [], ap, arith, length, refl, subst, sym}
use Rattle.rgo_core.specs.Memory.Words.{all_words}
use Rattle.rgo_core.specs.Memory.declared.layout.TableSizes.{TableSizes}
use Rattle.rgo_core.specs.Core.{layout}
use Rattle.rgo_core.specs.runs.Opening.{first_of}
use Rattle.rgo_core.specs.runs.Plans.{setup_of}
use Rattle.rgo_core.specs.Records.{accesses}
use Rattle.rgo_core_facts.specs.MemoryObjects.{data_pages_of, spot_of}
use Rattle.rgo_core_steps.specs.Making.{IsIndex, IsNewWordApart}
use Rattle.rgo_core_steps.specs.Seats.{settled}
use Rattle.rgo_core_steps.proofs.accesses.Growing.{grew_none, grew_then}
use Rattle.rgo_acts.proofs.new_objects.Apart.{cell_page, new_word, none_apart, one_grew, one_so_far, spot_low, still_rests, word_at, word_inside, word_is, words_fit}
use Rattle.rgo_acts.proofs.objects.store_words_apart.Goals as goal

pub loop-i-init : goal.loop-i-init
loop-i-init g c =
    let T = setup_of c.args.table.now.shared.key in
    let m = c.args.seat.now.me in
    record {
      own = refl;
      alone = c.requires.alone;
      settles = c.requires.settles;
      so_far = λ p. none_apart T (settled T c.args.behind m) c.args.pages.now c.args.new p;
      grew = ([], grew_none accesses (first_of T.code) m c.requires.alone);
      possible = λ none. absurd (omega (arith, none));
      left = λ none. absurd (omega (arith, none));
      counted = omega arith;
    }

pub overflow_add-i-end : goal.overflow_add-i-end
overflow_add-i-end g c =
    let T = setup_of c.args.table.now.shared.key in
    let p = c.requires.placed in
    let fits : all_words (layout T) ≤ 2 ^ 32 =
    subst (λ (z : TableSizes). all_words z ≤ 2 ^ 32) c.requires.layout.sizes c.requires.layout.fits in
    let few = words_fit T (settled T c.args.behind c.args.seat.now.me) c.args.pages.now c.args.new p fits in
    let all = p.all in
    omega (arith, few, all)

pub spot-place-requires-clause-within : goal.spot-place-requires-clause-within
spot-place-requires-clause-within g c =
    let T = setup_of c.args.table.now.shared.key in
    let i = c.loop-i.i in
    λ low. subst (λ (z : TableSizes). (i - c.args.new.before) / z.page_words + 1 < length c.args.pages.now) (sym c.requires.layout.sizes)
    (cell_page T (settled T c.args.behind c.args.seat.now.me) c.args.pages.now c.args.new c.requires.placed i low)

pub cell_at-word-requires-clause-page : goal.cell_at-word-requires-clause-page
cell_at-word-requires-clause-page g c =
    let T = setup_of c.args.table.now.shared.key in
    let p = c.requires.placed in
    let i = c.loop-i.i in
    let test = c.loop-i-test.true in
    let all = p.all in
    let low = spot_low T (settled T c.args.behind c.args.seat.now.me) c.args.pages.now c.args.new p i (omega (arith, test, all)) in
    let there = subst (λ (z : TableSizes). (spot_of z.page_words c.args.new.words c.args.new.before c.args.pages.now i).page < z.pages)
    (sym c.requires.layout.sizes) low.0 in
    subst (λ k. k < c.args.sizes.now.pages) (sym c.spot-place.ensures.page) there

pub cell_at-word-requires-clause-offset : goal.cell_at-word-requires-clause-offset
cell_at-word-requires-clause-offset g c =
    let T = setup_of c.args.table.now.shared.key in
    let p = c.requires.placed in
    let i = c.loop-i.i in
    let test = c.loop-i-test.true in
    let all = p.all in
    let low = spot_low T (settled T c.args.behind c.args.seat.now.me) c.args.pages.now c.args.new p i (omega (arith, test, all)) in
    let there = subst (λ (z : TableSizes). (spot_of z.page_words c.args.new.words c.args.new.before c.args.pages.now i).offset < z.page_words)
    (sym c.requires.layout.sizes) low.1 in
    subst (λ k. k < c.args.sizes.now.page_words) (sym c.spot-place.ensures.offset) there

pub store_apart-requires-clause-own : goal.store_apart-requires-clause-own
store_apart-requires-clause-own g c =
    let T = setup_of c.args.table.now.shared.key in
    let p = c.requires.placed in
    let i = c.loop-i.i in
    let test = c.loop-i-test.true in
    let all = p.all in
    let low = spot_low T (settled T c.args.behind c.args.seat.now.me) c.args.pages.now c.args.new p i (omega (arith, test, all)) in
    let inside = word_inside T c.args.sizes.now c.args.table.now.shared.table_id c.requires.layout c.args.new.words c.args.new.before
    c.args.pages.now i c.spot-place.result.0 c.spot-place.result.1 c.cell_at-word.result c.spot-place.ensures.page c.spot-place.ensures.offset
    c.cell_at-word.ensures low in
    (c.loop-i.invariant.own ∙ c.requires.own, inside)

pub store_apart-requires-clause-rests : goal.store_apart-requires-clause-rests
store_apart-requires-clause-rests g c =
    let T = setup_of c.args.table.now.shared.key in
    let p = c.requires.placed in
    let test = c.loop-i-test.true in
    let all = p.all in
    still_rests T (settled T c.args.behind c.args.seat.now.me) c.args.pages.now c.args.new p c.loop-i.i (omega (arith, test, all))
    c.loop-i.left c.loop-i.seat.me c.loop-i.invariant.settles (c.loop-i.invariant.so_far p)

pub store_apart-requires-clause-new : goal.store_apart-requires-clause-new
store_apart-requires-clause-new g c =
    let T = setup_of c.args.table.now.shared.key in
    let p = c.requires.placed in
    let i = c.loop-i.i in
    let test = c.loop-i-test.true in
    let all = p.all in
    let now = settled T c.loop-i.left c.loop-i.seat.me in
    let at = word_is T c.args.sizes.now c.args.table.now.shared.table_id c.requires.layout c.args.new.words c.args.new.before c.args.pages.now i
    c.spot-place.result.0 c.spot-place.result.1 c.cell_at-word.result c.spot-place.ensures.page c.spot-place.ensures.offset
    c.cell_at-word.ensures in
    let new = new_word T (settled T c.args.behind c.args.seat.now.me) c.args.pages.now c.args.new p i (omega (arith, test, all))
    c.loop-i.left c.loop-i.seat.me c.loop-i.invariant.settles (c.loop-i.invariant.so_far p) in
    subst (λ n. (w : IsNewWordApart T now i n c.first_value-value.result) × (c.args.new.words ≤ i → IsIndex w)) (sym at)
    (subst (λ n. (w : IsNewWordApart T now i (word_at T c.args.new.words c.args.new.before c.args.pages.now i) n) × (c.args.new.words ≤ i → IsIndex w))
    (sym c.first_value-value.ensures) new)

pub loop-i-preserved : goal.loop-i-preserved
loop-i-preserved g c =
    let T = setup_of c.args.table.now.shared.key in
    let placed = c.requires.placed in
    let i = c.loop-i.i in
    let l = c.loop-i.invariant in
    let first = settled T c.args.behind c.args.seat.now.me in
    let w = c.store_apart.new.seat.me in
    let test = c.loop-i-test.true in
    let all = placed.all in
    let low : i < c.args.new.words + data_pages_of T.sizes.page_words c.args.new.words c.args.new.before = omega (arith, test, all) in
    let leaves = c.store_apart.ensures.leaves in
    let grew = one_grew T first c.args.pages.now c.args.new placed i low c.loop-i.left c.loop-i.seat.me l.settles (l.so_far placed)
    leaves.0 c.cell_at-word.result c.first_value-value.result w leaves.1 in
    record {
      own = c.store_apart.ensures.own ∙ l.own;
      alone = grew.alone;
      settles = tt;
      so_far = λ p.
          one_so_far T first c.args.pages.now c.args.new p i low c.loop-i.left c.loop-i.seat.me l.settles (l.so_far p)
          leaves.0 c.cell_at-word.result c.first_value-value.result w leaves.1;
      grew = (
        l.grew.0 ++ _,
        grew_then accesses (first_of T.code) c.args.seat.now.me c.loop-i.seat.me w l.grew.0 _ l.grew.1 grew,
      );
      possible = λ more. c.store_apart.ensures.possible;
      left = λ more. refl;
      counted = let cost = c.store_apart.ensures.cost in let so_far = l.counted in omega (arith, cost, so_far);
    }

pub returns : goal.returns
returns g c =
    let T = setup_of c.args.table.now.shared.key in
    let l = c.loop-i.invariant in
    let me = c.loop-i.seat.me in
    let p = c.requires.placed in
    let all = p.all in
    let most = c.loop-i.auto.i-end in
    let least = c.loop-i-test.false in
    let spread = p.spread in
    let end : c.loop-i.i ≡ c.args.new.words + data_pages_of T.sizes.page_words c.args.new.words c.args.new.before =
    omega (arith, most, least, all) in
    let positive : 0 < c.loop-i.i = omega (arith, end, spread) in
    let at_once = ap (λ q. settled T q me) (l.left positive) in
    record {
      own = l.own;
      grew = l.grew;
      stored = λ p. sym at_once ∙ (l.so_far p).all end;
      possible = l.possible positive;
      cost = let counted = l.counted in omega (arith, counted, end);
    }
