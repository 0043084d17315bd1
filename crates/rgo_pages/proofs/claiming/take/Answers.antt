use Rattle.std.proofs.Common.{◌+◌, subst, sym}
use Rattle.rgo_core.specs.Rule.declared.accesses.Kind.TheVariants.{ClaimPage}
use Rattle.rgo_core.specs.Memory.Words.{state_at}
use Rattle.rgo_core.specs.runs.Opening.{first_of}
use Rattle.rgo_core.specs.runs.Plans.{setup_of}
use Rattle.rgo_core.specs.Records.{Record, accesses}
use Rattle.rgo_core_steps.specs.Making.{IsCalm, NeedsPage}
use Rattle.rgo_core_steps.specs.Pages.{claims_or_reserves, tried_page}
use Rattle.rgo_core_steps.specs.Seats.{mine, settled}
use Rattle.rgo_core_steps.proofs.searching.Exchanges.{took_start}
use Rattle.rgo_pages.proofs.Trying.{missing_calm, missing_needs, page_taken, page_tried, then_above, then_below}
use Rattle.rgo_pages.proofs.claiming.take.Goals as goal

pub returns-then-claim-eq0-clause-taken : goal.returns-then-claim-eq0-clause-taken
returns-then-claim-eq0-clause-taken g c =
    let T = setup_of c.args.table.now.shared.key in
    let z = c.args.sizes.now in
    let m = c.args.seat.now.me in
    let q = c.args.behind in
    let s = c.args.slot in
    let p = c.beginning-start.result in
    let low = c.beginning-start.ensures.inside in
    let w = c.claim.new.seat.me in (
      low,
      took_start accesses (first_of T.code) ClaimPage (state_at z) tried_page (settled T q m) z.pages p low (s + 1) (λ d. claims_or_reserves T d p s) m w
          (page_taken T z s q m p c.claim.result w c.requires.settles c.claim.ensures.leaves c.if-claim-eq0.true),
    )

pub try_pages-requires-clause-alone : goal.try_pages-requires-clause-alone
try_pages-requires-clause-alone g c =
    let T = setup_of c.args.table.now.shared.key in
    (page_tried T c.args.sizes.now c.args.slot c.args.behind c.args.seat.now.me c.beginning-start.result c.claim.result c.claim.new.seat.me
    c.requires.settles c.claim.ensures.leaves c.if-claim-eq0.false).made.grew.alone

pub try_pages-requires-clause-calm : goal.try_pages-requires-clause-calm
try_pages-requires-clause-calm g c =
    let T = setup_of c.args.table.now.shared.key in
    let t = page_tried T c.args.sizes.now c.args.slot c.args.behind c.args.seat.now.me c.beginning-start.result c.claim.result
    c.claim.new.seat.me c.requires.settles c.claim.ensures.leaves c.if-claim-eq0.false in
    subst IsCalm (sym t.made.after) (missing_calm t.tries (settled T c.args.behind c.args.seat.now.me) c.requires.calm)

pub try_pages-requires-clause-needs : goal.try_pages-requires-clause-needs
try_pages-requires-clause-needs g c =
    let T = setup_of c.args.table.now.shared.key in
    let s = c.args.slot in
    let t = page_tried T c.args.sizes.now s c.args.behind c.args.seat.now.me c.beginning-start.result c.claim.result
    c.claim.new.seat.me c.requires.settles c.claim.ensures.leaves c.if-claim-eq0.false in
    subst (λ (d : Record). NeedsPage T d s) (sym t.made.after)
    (missing_needs T s t.tries (settled T c.args.behind c.args.seat.now.me) c.requires.needs)

pub returns-in-Some-clause-taken : goal.returns-in-Some-clause-taken
returns-in-Some-clause-taken g c =
    let T = setup_of c.args.table.now.shared.key in
    let z = c.args.sizes.now in
    let m = c.args.seat.now.me in
    let q = c.args.behind in
    let p = c.beginning-start.result in
    let v = c.claim.new.seat.me in
    then_above T z c.args.slot (settled T q m) p c.beginning-start.ensures.inside m v
    (page_tried T z c.args.slot q m p c.claim.result v c.requires.settles c.claim.ensures.leaves c.if-claim-eq0.false)
    c.in-Some.page c.try_pages.new.seat.me c.in-Some.ensures.tried

pub try_pages-requires-in-None-clause-calm : goal.try_pages-requires-in-None-clause-calm
try_pages-requires-in-None-clause-calm g c =
    let T = setup_of c.args.table.now.shared.key in
    let t = page_tried T c.args.sizes.now c.args.slot c.args.behind c.args.seat.now.me c.beginning-start.result c.claim.result
    c.claim.new.seat.me c.requires.settles c.claim.ensures.leaves c.if-claim-eq0.false in
    let u = c.in-None.ensures.tried in
    subst IsCalm (sym u.made.after) (missing_calm u.tries (mine T c.claim.new.seat.me)
    (subst IsCalm (sym t.made.after) (missing_calm t.tries (settled T c.args.behind c.args.seat.now.me) c.requires.calm)))

pub try_pages-requires-in-None-clause-needs : goal.try_pages-requires-in-None-clause-needs
try_pages-requires-in-None-clause-needs g c =
    let T = setup_of c.args.table.now.shared.key in
    let s = c.args.slot in
    let t = page_tried T c.args.sizes.now s c.args.behind c.args.seat.now.me c.beginning-start.result c.claim.result
    c.claim.new.seat.me c.requires.settles c.claim.ensures.leaves c.if-claim-eq0.false in
    let u = c.in-None.ensures.tried in
    subst (λ (d : Record). NeedsPage T d s) (sym u.made.after) (missing_needs T s u.tries (mine T c.claim.new.seat.me)
    (subst (λ (d : Record). NeedsPage T d s) (sym t.made.after)
    (missing_needs T s t.tries (settled T c.args.behind c.args.seat.now.me) c.requires.needs)))

pub returns-in-None-clause-taken : goal.returns-in-None-clause-taken
returns-in-None-clause-taken g c =
    let T = setup_of c.args.table.now.shared.key in
    let z = c.args.sizes.now in
    let m = c.args.seat.now.me in
    let q = c.args.behind in
    let p = c.beginning-start.result in
    let v = c.claim.new.seat.me in
    then_below T z c.args.slot (settled T q m) p c.beginning-start.ensures.inside m v
    (page_tried T z c.args.slot q m p c.claim.result v c.requires.settles c.claim.ensures.leaves c.if-claim-eq0.false)
    c.try_pages.new.seat.me c.in-None.ensures.tried c.try_pages-in-None.result c.try_pages-in-None.new.seat.me
    c.try_pages-in-None.ensures.tried
