use Rattle.std.proofs.Common.{◌+◌, ◌<◌, ◌≤◌, rules, subst, sym, arith}
use Rattle.rgo_core.specs.Rule.declared.accesses.Kind.TheVariants.{ClaimPage}
use Rattle.rgo_core.specs.Memory.Words.{state_at}
use Rattle.rgo_core.specs.runs.Opening.{first_of}
use Rattle.rgo_core.specs.runs.Plans.{setup_of}
use Rattle.rgo_core.specs.Records.{Record, accesses}
use Rattle.rgo_core_steps.specs.Making.{IsCalm, NeedsPage}
use Rattle.rgo_core_steps.specs.Pages.{claims_or_reserves, tried_page}
use Rattle.rgo_core_steps.specs.Seats.{mine}
use Rattle.rgo_core_steps.proofs.searching.Exchanges.{took_here, tried_begin, tried_next}
use Rattle.rgo_pages.proofs.Trying.{missing_calm, missing_needs, page_taken, page_tried}
use Rattle.rgo_pages.proofs.claiming.try_pages.Goals as goal

pub claim-requires-clause-calm : goal.claim-requires-clause-calm
claim-requires-clause-calm g c =
    let t = c.loop-page.invariant.tried in
    subst IsCalm (sym t.made.after) (missing_calm t.tries (mine (setup_of c.args.table.now.shared.key) c.args.seat.now.me) c.requires.calm)

pub claim-requires-clause-needs : goal.claim-requires-clause-needs
claim-requires-clause-needs g c =
    let T = setup_of c.args.table.now.shared.key in
    let t = c.loop-page.invariant.tried in
    subst (λ (d : Record). NeedsPage T d c.args.slot) (sym t.made.after)
    (missing_needs T c.args.slot t.tries (mine T c.args.seat.now.me) c.requires.needs)

pub returns-then-claim-eq0-clause-tried : goal.returns-then-claim-eq0-clause-tried
returns-then-claim-eq0-clause-tried g c =
    let T = setup_of c.args.table.now.shared.key in
    let z = c.args.sizes.now in
    let m = c.args.seat.now.me in
    let v = c.loop-page.seat.me in
    let w = c.claim.new.seat.me in
    let p = c.loop-page.page in
    let s = c.args.slot in
    let above : c.args.first ≤ p = search rules in
    let below : p < c.args.end = search rules in (
      above,
      below,
      took_here accesses (first_of T.code) ClaimPage (state_at z) tried_page (mine T m) c.args.first p c.args.end (s + 1) above m v w
          c.loop-page.invariant.tried (λ d. claims_or_reserves T d p s)
          (page_taken T z s 0 v p c.claim.result w tt c.claim.ensures.leaves c.if-claim-eq0.true),
    )

pub loop-page-preserved : goal.loop-page-preserved
loop-page-preserved g c =
    let T = setup_of c.args.table.now.shared.key in
    let z = c.args.sizes.now in
    let m = c.args.seat.now.me in
    let v = c.loop-page.seat.me in
    let w = c.claim.new.seat.me in
    let p = c.loop-page.page in
    let s = c.args.slot in
    let above : c.args.first ≤ p = search rules in
    record {
      own = search rules;
      cost = omega (arith, c.loop-page.invariant.cost, above);
      tried = tried_next accesses (first_of T.code) ClaimPage (state_at z) tried_page (mine T m) c.args.first p c.args.end (s + 1) above m v w
          c.loop-page.invariant.tried
          (page_tried T z s 0 v p c.claim.result w tt c.claim.ensures.leaves c.if-claim-eq0.false);
      possible = c.claim.ensures.possible;
    }

pub loop-page-init : goal.loop-page-init
loop-page-init g c =
    let T = setup_of c.args.table.now.shared.key in
    let m = c.args.seat.now.me in
    record {
      own = search rules;
      cost = omega arith;
      tried = tried_begin accesses (first_of T.code) ClaimPage (state_at c.args.sizes.now) tried_page c.args.first m c.requires.alone;
      possible = c.requires.possible;
    }
