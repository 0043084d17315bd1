use Rattle.std.proofs.Common.{◌≡◌, subst, sym}
use Rattle.std.proofs.lemmas.Option.{IfSome_then}
use Rattle.rgo_core.specs.Channels.Records.{at_rest}
use Rattle.rgo_core.specs.Rule.declared.accesses.Kind.TheVariants.{CreateRegion}
use Rattle.rgo_core.specs.Memory.Words.{count_at}
use Rattle.rgo_core.specs.runs.Opening.{first_of}
use Rattle.rgo_core.specs.runs.Plans.{setup_of}
use Rattle.rgo_core.specs.Records.{Record, accesses}
use Rattle.rgo_core_steps.specs.Counts.{IsCreating, created_in_slot, tried_slot}
use Rattle.rgo_core_steps.specs.Seats.{mine, settled}
use Rattle.rgo_core_steps.proofs.searching.Exchanges.{took_start}
use Rattle.rgo_counts.proofs.Trying.{missing_creates, missing_side, slot_taken, slot_tried, still_fresh, then_above, then_below}
use Rattle.rgo_counts.proofs.creation.take.Goals as goal

pub returns-then-create-eq0-clause-taken : goal.returns-then-create-eq0-clause-taken
returns-then-create-eq0-clause-taken g c =
    let T = setup_of c.args.table.now.shared.key in
    let z = c.args.sizes.now in
    let m = c.args.seat.now.me in
    let q = c.args.behind in
    let s = c.beginning-start.result in
    let low = c.beginning-start.ensures.inside in
    let w = c.create.new.seat.me in (
      low,
      took_start accesses (first_of T.code) CreateRegion (count_at z) tried_slot (settled T q m) z.slots s low 2 (λ d. created_in_slot d s) m w
          (slot_taken T z q m s c.create.result w c.requires.settles c.create.ensures.leaves c.if-create-eq0.true c.requires.creates),
    )

pub try_slots-requires-clause-alone : goal.try_slots-requires-clause-alone
try_slots-requires-clause-alone g c =
    let T = setup_of c.args.table.now.shared.key in
    (slot_tried T c.args.sizes.now c.args.behind c.args.seat.now.me c.beginning-start.result c.create.result c.create.new.seat.me
    c.requires.settles c.create.ensures.leaves c.if-create-eq0.false).made.grew.alone

pub try_slots-requires-clause-rests : goal.try_slots-requires-clause-rests
try_slots-requires-clause-rests g c =
    let T = setup_of c.args.table.now.shared.key in
    let t = slot_tried T c.args.sizes.now c.args.behind c.args.seat.now.me c.beginning-start.result c.create.result c.create.new.seat.me
    c.requires.settles c.create.ensures.leaves c.if-create-eq0.false in
    subst (λ (d : Record). d.side ≡ at_rest) (sym t.made.after)
    (missing_side t.tries (settled T c.args.behind c.args.seat.now.me) c.requires.rests)

pub try_slots-requires-clause-creates : goal.try_slots-requires-clause-creates
try_slots-requires-clause-creates g c =
    let T = setup_of c.args.table.now.shared.key in
    let t = slot_tried T c.args.sizes.now c.args.behind c.args.seat.now.me c.beginning-start.result c.create.result c.create.new.seat.me
    c.requires.settles c.create.ensures.leaves c.if-create-eq0.false in
    subst IsCreating (sym t.made.after) (missing_creates t.tries (settled T c.args.behind c.args.seat.now.me) c.requires.creates)

pub returns-in-Some-clause-taken : goal.returns-in-Some-clause-taken
returns-in-Some-clause-taken g c =
    let T = setup_of c.args.table.now.shared.key in
    let z = c.args.sizes.now in
    let m = c.args.seat.now.me in
    let q = c.args.behind in
    let s = c.beginning-start.result in
    let v = c.create.new.seat.me in
    then_above T z (settled T q m) s c.beginning-start.ensures.inside m v
    (slot_tried T z q m s c.create.result v c.requires.settles c.create.ensures.leaves c.if-create-eq0.false)
    c.in-Some.slot c.try_slots.new.seat.me c.in-Some.ensures.tried

pub try_slots-requires-in-None-clause-rests : goal.try_slots-requires-in-None-clause-rests
try_slots-requires-in-None-clause-rests g c =
    let T = setup_of c.args.table.now.shared.key in
    let t = slot_tried T c.args.sizes.now c.args.behind c.args.seat.now.me c.beginning-start.result c.create.result c.create.new.seat.me
    c.requires.settles c.create.ensures.leaves c.if-create-eq0.false in
    let u = c.in-None.ensures.tried in
    subst (λ (d : Record). d.side ≡ at_rest) (sym u.made.after) (missing_side u.tries (mine T c.create.new.seat.me)
    (subst (λ (d : Record). d.side ≡ at_rest) (sym t.made.after)
    (missing_side t.tries (settled T c.args.behind c.args.seat.now.me) c.requires.rests)))

pub try_slots-requires-in-None-clause-creates : goal.try_slots-requires-in-None-clause-creates
try_slots-requires-in-None-clause-creates g c =
    let T = setup_of c.args.table.now.shared.key in
    let t = slot_tried T c.args.sizes.now c.args.behind c.args.seat.now.me c.beginning-start.result c.create.result c.create.new.seat.me
    c.requires.settles c.create.ensures.leaves c.if-create-eq0.false in
    let u = c.in-None.ensures.tried in
    subst IsCreating (sym u.made.after) (missing_creates u.tries (mine T c.create.new.seat.me)
    (subst IsCreating (sym t.made.after) (missing_creates t.tries (settled T c.args.behind c.args.seat.now.me) c.requires.creates)))

pub returns-in-None-clause-taken : goal.returns-in-None-clause-taken
returns-in-None-clause-taken g c =
    let T = setup_of c.args.table.now.shared.key in
    let z = c.args.sizes.now in
    let m = c.args.seat.now.me in
    let q = c.args.behind in
    let s = c.beginning-start.result in
    let v = c.create.new.seat.me in
    then_below T z (settled T q m) s c.beginning-start.ensures.inside m v
    (slot_tried T z q m s c.create.result v c.requires.settles c.create.ensures.leaves c.if-create-eq0.false)
    c.try_slots.new.seat.me c.in-None.ensures.tried c.try_slots-in-None.result c.try_slots-in-None.new.seat.me
    c.try_slots-in-None.ensures.tried

pub returns-then-create-eq0-clause-fresh : goal.returns-then-create-eq0-clause-fresh
returns-then-create-eq0-clause-fresh g c = c.create.ensures.fresh c.if-create-eq0.true

pub returns-in-Some-clause-fresh : goal.returns-in-Some-clause-fresh
returns-in-Some-clause-fresh g c =
    let T = setup_of c.args.table.now.shared.key in
    let me = c.args.seat.now.me in
    let first = settled T c.args.behind me in
    let t = slot_tried T c.args.sizes.now c.args.behind me c.beginning-start.result c.create.result c.create.new.seat.me
    c.requires.settles c.create.ensures.leaves c.if-create-eq0.false in
    still_fresh t.tries first (mine T c.create.new.seat.me) c.in-Some.slot t.made.after c.in-Some.ensures.fresh

pub returns-in-None-clause-fresh : goal.returns-in-None-clause-fresh
returns-in-None-clause-fresh g c =
    let T = setup_of c.args.table.now.shared.key in
    let me = c.args.seat.now.me in
    let first = settled T c.args.behind me in
    let t = slot_tried T c.args.sizes.now c.args.behind me c.beginning-start.result c.create.result c.create.new.seat.me
    c.requires.settles c.create.ensures.leaves c.if-create-eq0.false in
    let u = c.in-None.ensures.tried in
    IfSome_then c.try_slots-in-None.result c.try_slots-in-None.ensures.fresh
    (λ s f. still_fresh t.tries first (mine T c.create.new.seat.me) s t.made.after
    (still_fresh u.tries (mine T c.create.new.seat.me) (mine T c.try_slots.new.seat.me) s u.made.after f))
