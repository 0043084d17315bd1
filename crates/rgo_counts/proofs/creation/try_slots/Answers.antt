use Rattle.std.proofs.Common.{◌≡◌, ◌<◌, ◌≤◌, rules, subst, sym, arith}
use Rattle.rgo_core.specs.Channels.Records.{at_rest}
use Rattle.rgo_core.specs.Rule.declared.accesses.Kind.TheVariants.{CreateRegion}
use Rattle.rgo_core.specs.Memory.Words.{count_at}
use Rattle.rgo_core.specs.runs.Opening.{first_of}
use Rattle.rgo_core.specs.runs.Plans.{setup_of}
use Rattle.rgo_core.specs.Records.{Record, accesses}
use Rattle.rgo_core_steps.specs.Counts.{IsCreating, created_in_slot, tried_slot}
use Rattle.rgo_core_steps.specs.Seats.{mine}
use Rattle.rgo_core_steps.proofs.searching.Exchanges.{took_here, tried_begin, tried_next}
use Rattle.rgo_counts.proofs.Trying.{missing_creates, missing_side, slot_taken, slot_tried, still_fresh}
use Rattle.rgo_counts.proofs.creation.try_slots.Goals as goal

pub create-requires-clause-rests : goal.create-requires-clause-rests
create-requires-clause-rests g c =
    let t = c.loop-slot.invariant.tried in
    subst (λ (d : Record). d.side ≡ at_rest) (sym t.made.after)
    (missing_side t.tries (mine (setup_of c.args.table.now.shared.key) c.args.seat.now.me) c.requires.rests)

pub create-requires-clause-creates : goal.create-requires-clause-creates
create-requires-clause-creates g c =
    let t = c.loop-slot.invariant.tried in
    subst IsCreating (sym t.made.after)
    (missing_creates t.tries (mine (setup_of c.args.table.now.shared.key) c.args.seat.now.me) c.requires.creates)

pub returns-then-create-eq0-clause-tried : goal.returns-then-create-eq0-clause-tried
returns-then-create-eq0-clause-tried g c =
    let T = setup_of c.args.table.now.shared.key in
    let z = c.args.sizes.now in
    let m = c.args.seat.now.me in
    let v = c.loop-slot.seat.me in
    let w = c.create.new.seat.me in
    let s = c.loop-slot.slot in
    let t = c.loop-slot.invariant.tried in
    let above : c.args.first ≤ s = search rules in
    let below : s < c.args.end = search rules in (
      above,
      below,
      took_here accesses (first_of T.code) CreateRegion (count_at z) tried_slot (mine T m) c.args.first s c.args.end 2 above m v w t
          (λ d. created_in_slot d s)
          (slot_taken T z 0 v s c.create.result w tt c.create.ensures.leaves c.if-create-eq0.true
          (subst IsCreating (sym t.made.after) (missing_creates t.tries (mine T m) c.requires.creates))),
    )

pub returns-then-create-eq0-clause-fresh : goal.returns-then-create-eq0-clause-fresh
returns-then-create-eq0-clause-fresh g c =
    let T = setup_of c.args.table.now.shared.key in
    let t = c.loop-slot.invariant.tried in
    still_fresh t.tries (mine T c.args.seat.now.me) (mine T c.loop-slot.seat.me) c.loop-slot.slot t.made.after
    (c.create.ensures.fresh c.if-create-eq0.true)

pub loop-slot-preserved : goal.loop-slot-preserved
loop-slot-preserved g c =
    let T = setup_of c.args.table.now.shared.key in
    let z = c.args.sizes.now in
    let m = c.args.seat.now.me in
    let v = c.loop-slot.seat.me in
    let w = c.create.new.seat.me in
    let s = c.loop-slot.slot in
    let above : c.args.first ≤ s = search rules in
    record {
      own = search rules;
      cost = omega (arith, c.loop-slot.invariant.cost, above);
      tried = tried_next accesses (first_of T.code) CreateRegion (count_at z) tried_slot (mine T m) c.args.first s c.args.end 2 above m v w
          c.loop-slot.invariant.tried
          (slot_tried T z 0 v s c.create.result w tt c.create.ensures.leaves c.if-create-eq0.false);
      possible = c.create.ensures.possible;
    }

pub loop-slot-init : goal.loop-slot-init
loop-slot-init g c =
    let T = setup_of c.args.table.now.shared.key in
    let m = c.args.seat.now.me in
    record {
      own = search rules;
      cost = omega arith;
      tried = tried_begin accesses (first_of T.code) CreateRegion (count_at c.args.sizes.now) tried_slot c.args.first m c.requires.alone;
      possible = c.requires.possible;
    }
