use Rattle.std.proofs.Common.{◌≡◌, ◌+◌, ◌-◌, rules, ap, subst, sym, ◌∙◌, arith}
use Rattle.rgo_core.specs.Memory.Records.{Giving}
use Rattle.rgo_core.specs.runs.Plans.{setup_of}
use Rattle.rgo_core.specs.Records.{Record}
use Rattle.rgo_core_steps.specs.Seats.{mine}
use Rattle.rgo_pages.specs.Releasing.{ChainGiven}
use Rattle.rgo_pages.proofs.Chaining.{all_freed, chain_begun, chain_ended, chain_more, still_owes}
use Rattle.rgo_pages.proofs.releasing.release.Goals as goal

pub loop-cursor-init : goal.loop-cursor-init
loop-cursor-init g c =
    record {
      own = search rules;
      cost = omega arith;
      within = c.head-cursor.ensures.within;
      chain = chain_begun (setup_of c.args.table.now.shared.key) c.args.sizes.now c.args.slot c.args.seat.now.me c.head-cursor.new.seat.me
          c.head-cursor.result c.head-cursor.ensures.leaves;
      possible = c.head-cursor.ensures.possible;
    }

pub free_page-cursor-requires-clause-gives : goal.free_page-cursor-requires-clause-gives
free_page-cursor-requires-clause-gives g c =
    let k = c.loop-cursor.invariant.chain in
    let s = c.args.slot in
    let some : c.loop-cursor.cursor - 1 + 1 ≡ c.loop-cursor.cursor = omega (arith, c.loop-cursor-test.true) in
    ap (λ (d : Record). d.memory.give) k.made.after ∙ ap (Giving s) (sym some)

pub loop-cursor-preserved : goal.loop-cursor-preserved
loop-cursor-preserved g c =
    let T = setup_of c.args.table.now.shared.key in
    let z = c.args.sizes.now in
    let s = c.args.slot in
    let m = c.args.seat.now.me in
    let v = c.loop-cursor.seat.me in
    let w = c.free_page-cursor.new.seat.me in
    let n = c.loop-cursor.freed in
    let p = c.loop-cursor.cursor - 1 in
    let some : c.loop-cursor.cursor ≡ p + 1 = omega (arith, c.loop-cursor-test.true) in
    let k = subst (λ j. ChainGiven T z s (mine T m) n j m v) some c.loop-cursor.invariant.chain in
    record {
      own = search rules;
      cost = omega (arith, c.loop-cursor.invariant.cost, c.free_page-cursor.ensures.cost);
      within = c.free_page-cursor.ensures.within;
      chain = chain_more T z s (mine T m) n p c.free_page-cursor.result m v w k c.free_page-cursor.ensures.owed c.free_page-cursor.ensures.freed;
      possible = c.free_page-cursor.ensures.possible;
    }

pub loop-cursor-smaller : goal.loop-cursor-smaller
loop-cursor-smaller g c =
    let T = setup_of c.args.table.now.shared.key in
    let z = c.args.sizes.now in
    let s = c.args.slot in
    let m = c.args.seat.now.me in
    let v = c.loop-cursor.seat.me in
    let n = c.loop-cursor.freed in
    let p = c.loop-cursor.cursor - 1 in
    let some : c.loop-cursor.cursor ≡ p + 1 = omega (arith, c.loop-cursor-test.true) in
    let k = subst (λ j. ChainGiven T z s (mine T m) n j m v) some c.loop-cursor.invariant.chain in
    let low = still_owes T z s (mine T m) n p m v k c.free_page-cursor.ensures.owed in
    omega (arith, low)

pub clear-requires-clause-given : goal.clear-requires-clause-given
clear-requires-clause-given g c =
    ap (λ (d : Record). d.memory.give) c.loop-cursor.invariant.chain.made.after
    ∙ ap (Giving c.args.slot) c.loop-cursor-test.false

pub returns-clause-count : goal.returns-clause-count
returns-clause-count g c =
    let T = setup_of c.args.table.now.shared.key in
    let z = c.args.sizes.now in
    let s = c.args.slot in
    let m = c.args.seat.now.me in
    let v = c.loop-cursor.seat.me in
    let n = c.loop-cursor.freed in
    let k = subst (λ j. ChainGiven T z s (mine T m) n j m v) c.loop-cursor-test.false c.loop-cursor.invariant.chain in
    all_freed T z s (mine T m) n m v k c.clear.ensures.owed

pub returns-clause-given : goal.returns-clause-given
returns-clause-given g c =
    let T = setup_of c.args.table.now.shared.key in
    let z = c.args.sizes.now in
    let s = c.args.slot in
    let m = c.args.seat.now.me in
    let v = c.loop-cursor.seat.me in
    let n = c.loop-cursor.freed in
    let k = subst (λ j. ChainGiven T z s (mine T m) n j m v) c.loop-cursor-test.false c.loop-cursor.invariant.chain in
    chain_ended T z s (mine T m) n m v c.clear.new.seat.me k c.clear.ensures.owed c.clear.ensures.leaves
