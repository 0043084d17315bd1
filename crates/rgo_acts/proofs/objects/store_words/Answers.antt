use Rattle.std.proofs.Common.{◌≡◌, ◌+◌, ◌<◌, ◌∙◌, ◌++◌, [], ap, arith, refl, subst, sym}
use Rattle.rgo_core.specs.Memory.Words.{cell_at}
use Rattle.rgo_core.specs.Memory.declared.layout.TableSizes.{TableSizes}
use Rattle.rgo_core.specs.Core.{layout}
use Rattle.rgo_core.specs.runs.Opening.{first_of}
use Rattle.rgo_core.specs.runs.Plans.{setup_of}
use Rattle.rgo_core.specs.Records.{accesses}
use Rattle.rgo_core_steps.specs.Making.{IsNewWord}
use Rattle.rgo_core_steps.specs.Seats.{settled}
use Rattle.rgo_core_steps.proofs.accesses.Growing.{grew_none, grew_then}
use Rattle.rgo_acts.proofs.new_objects.Stores.{new_word, none_so_far, one_grew, one_so_far, still_rests}
use Rattle.rgo_acts.proofs.objects.store_words.Goals as goal

pub loop-i-init : goal.loop-i-init
loop-i-init g c =
    let T = setup_of c.args.table.now.shared.key in
    let m = c.args.seat.now.me in
    record {
      own = refl;
      alone = c.requires.alone;
      settles = c.requires.settles;
      so_far = λ slot p. none_so_far T (settled T c.args.behind m) slot c.args.page c.args.new p;
      grew = ([], grew_none accesses (first_of T.code) m c.requires.alone);
      possible = λ none. absurd (omega (arith, none));
      left = λ none. absurd (omega (arith, none));
      counted = omega arith;
    }

pub zero-requires-clause-rests : goal.zero-requires-clause-rests
zero-requires-clause-rests g c =
    let T = setup_of c.args.table.now.shared.key in
    let placed = c.requires.placed in
    still_rests T (settled T c.args.behind c.args.seat.now.me) placed.0 c.args.page c.args.new placed.1 c.loop-i.i c.loop-i-test.true
    c.loop-i.left c.loop-i.seat.me c.loop-i.invariant.settles (c.loop-i.invariant.so_far placed.0 placed.1)

pub zero-requires-clause-new : goal.zero-requires-clause-new
zero-requires-clause-new g c =
    let T = setup_of c.args.table.now.shared.key in
    let placed = c.requires.placed in
    let i = c.loop-i.i in
    let page = c.args.page in
    let now = settled T c.loop-i.left c.loop-i.seat.me in
    let word = new_word T (settled T c.args.behind c.args.seat.now.me) placed.0 page c.args.new placed.1 i c.loop-i-test.true
    c.loop-i.left c.loop-i.seat.me c.loop-i.invariant.settles (c.loop-i.invariant.so_far placed.0 placed.1) in
    let at = c.cell_at-word.ensures ∙ ap (λ (z : TableSizes). cell_at z page.page (page.fill + i)) c.requires.layout.sizes in
    subst (λ n. IsNewWord T now i n c.opening.result) (sym at)
    (subst (λ n. IsNewWord T now i (cell_at (layout T) page.page (page.fill + i)) n) (sym c.opening.ensures) word)

pub loop-i-preserved : goal.loop-i-preserved
loop-i-preserved g c =
    let T = setup_of c.args.table.now.shared.key in
    let placed = c.requires.placed in
    let i = c.loop-i.i in
    let l = c.loop-i.invariant in
    let first = settled T c.args.behind c.args.seat.now.me in
    let w = c.zero.new.seat.me in
    let grew = one_grew T first placed.0 c.args.page c.args.new placed.1 i c.loop-i-test.true c.loop-i.left c.loop-i.seat.me l.settles
    (l.so_far placed.0 placed.1) c.cell_at-word.result c.opening.result w c.zero.ensures.leaves in
    record {
      own = c.zero.ensures.own.0 ∙ l.own;
      alone = grew.alone;
      settles = tt;
      so_far = λ slot p.
          one_so_far T first slot c.args.page c.args.new p i c.loop-i-test.true c.loop-i.left c.loop-i.seat.me l.settles (l.so_far slot p)
          c.cell_at-word.result c.opening.result w c.zero.ensures.leaves;
      grew = (
        l.grew.0 ++ _,
        grew_then accesses (first_of T.code) c.args.seat.now.me c.loop-i.seat.me w l.grew.0 _ l.grew.1 grew,
      );
      possible = λ more. c.zero.ensures.possible;
      left = λ more. refl;
      counted = let cost = c.zero.ensures.cost in let so_far = l.counted in omega (arith, cost, so_far);
    }

pub returns : goal.returns
returns g c =
    let T = setup_of c.args.table.now.shared.key in
    let l = c.loop-i.invariant in
    let me = c.loop-i.seat.me in
    let some = c.requires.placed.1.some in
    let most = c.loop-i.auto.i-end in
    let least = c.loop-i-test.false in
    let end : c.loop-i.i ≡ c.args.new.words = omega (arith, most, least) in
    let positive : 0 < c.loop-i.i = omega (arith, some, end) in
    let at_once = ap (λ q. settled T q me) (l.left positive) in
    record {
      own = l.own;
      grew = l.grew;
      stored = λ slot p. sym at_once ∙ (l.so_far slot p).all end;
      possible = l.possible positive;
      cost = let counted = l.counted in omega (arith, counted, end);
    }
