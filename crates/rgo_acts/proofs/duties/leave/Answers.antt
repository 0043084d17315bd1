use Rattle.std.proofs.Common.{◌≡◌, ◌∙◌, refl, subst, sym}
use Rattle.rgo_body.specs.Duties.{LeavesIn}
use Rattle.rgo_acts.specs.Attending.{HasAttended, IsAtDuty}
use Rattle.rgo_acts.specs.Runs.{Run}
use Rattle.rgo_acts.proofs.attending.Counts.{all_gone, done_more, leave_slot, others_stay, returned_fits}
use Rattle.rgo_counts.specs.declared.stakes.Left.TheVariants.{Last, Others}
use Rattle.rgo_acts.proofs.duties.leave.Goals as goal

pub leave-left-requires-clause-slot : goal.leave-left-requires-clause-slot
leave-left-requires-clause-slot g c =
    let a = c.args.actor.now in
    let before = subst (λ (r : Run). IsAtDuty r a c.requires.first.0) (sym c.run.view_is) c.requires.first.1 in
    let leaves = subst (λ (r : Run). LeavesIn r.program a.body c.args.key) (sym c.run.view_is) c.requires.leaves in
    (leave_slot _ a c.requires.first.0 before c.run.invariant.layout.sizes c.args.key leaves c.slot-slot.result c.slot-slot.ensures).0

pub leave-left-requires-clause-leaves : goal.leave-left-requires-clause-leaves
leave-left-requires-clause-leaves g c =
    let a = c.args.actor.now in
    let before = subst (λ (r : Run). IsAtDuty r a c.requires.first.0) (sym c.run.view_is) c.requires.first.1 in
    let leaves = subst (λ (r : Run). LeavesIn r.program a.body c.args.key) (sym c.run.view_is) c.requires.leaves in
    (leave_slot _ a c.requires.first.0 before c.run.invariant.layout.sizes c.args.key leaves c.slot-slot.result c.slot-slot.ensures).1

pub release-pages-requires-clause-slot : goal.release-pages-requires-clause-slot
release-pages-requires-clause-slot g c =
    let a = c.args.actor.now in
    let before = subst (λ (r : Run). IsAtDuty r a c.requires.first.0) (sym c.run.view_is) c.requires.first.1 in
    let leaves = subst (λ (r : Run). LeavesIn r.program a.body c.args.key) (sym c.run.view_is) c.requires.leaves in
    (leave_slot _ a c.requires.first.0 before c.run.invariant.layout.sizes c.args.key leaves c.slot-slot.result c.slot-slot.ensures).0

pub free_slot-requires-clause-slot : goal.free_slot-requires-clause-slot
free_slot-requires-clause-slot g c =
    let a = c.args.actor.now in
    let before = subst (λ (r : Run). IsAtDuty r a c.requires.first.0) (sym c.run.view_is) c.requires.first.1 in
    let leaves = subst (λ (r : Run). LeavesIn r.program a.body c.args.key) (sym c.run.view_is) c.requires.leaves in
    (leave_slot _ a c.requires.first.0 before c.run.invariant.layout.sizes c.args.key leaves c.slot-slot.result c.slot-slot.ensures).0

pub gave_back-requires-clause-returned : goal.gave_back-requires-clause-returned
gave_back-requires-clause-returned g c =
    let a = c.args.actor.now in
    let before = subst (λ (r : Run). IsAtDuty r a c.requires.first.0) (sym c.run.view_is) c.requires.first.1 in
    let left = c.leave-left.ensures.leaves in
    returned_fits _ a c.requires.first.0 before c.run.invariant.layout.sizes c.slot-slot.result _ left.0 _ c.leave-left.new.seat.me left.2
    c.leave-left.ensures.possible (left.1.0 c.in-Last.is) c.release-pages.result c.release-pages.ensures.count c.left.new.self.counts
    c.left.ensures.counts

pub returns-in-Others : goal.returns-in-Others
returns-in-Others g c =
    let a = c.args.actor.now in
    let b = record a { seat = c.leave-left.new.seat; behind = 0; body = c.left.new.self } in
    let before = subst (λ (r : Run). IsAtDuty r a c.requires.first.0) (sym c.run.view_is) c.requires.first.1 in
    let left = c.leave-left.ensures.leaves in
    subst (λ (r : Run). HasAttended r a b) c.run.view_is
    (others_stay _ a c.requires.first.0 before b c.leave-left.ensures.own.0 refl c.leave-left.ensures.possible c.left.ensures.done
    c.left.ensures.shows c.slot-slot.result _ left.0 _ left.2 (λ two. others_last (sym c.in-Others.is ∙ left.1.1 two)))
  where
    others_last : Others ≡ Last → ⊥
    others_last e = cc

pub returns-in-Last : goal.returns-in-Last
returns-in-Last g c =
    let a = c.args.actor.now in
    let b = record a { seat = c.free_slot.new.seat; behind = 0; searches = c.freed.new.self; body = c.gave_back.new.self } in
    let before = subst (λ (r : Run). IsAtDuty r a c.requires.first.0) (sym c.run.view_is) c.requires.first.1 in
    let left = c.leave-left.ensures.leaves in
    subst (λ (r : Run). HasAttended r a b) c.run.view_is
    (all_gone _ a c.requires.first.0 before c.slot-slot.result _ left.0 _ c.leave-left.new.seat.me left.2 b c.left.new.self
    (c.free_slot.ensures.own.0 ∙ c.release-pages.ensures.own.0 ∙ c.leave-left.ensures.own.0) refl c.free_slot.ensures.possible
    c.release-pages.new.seat.me c.leave-left.ensures.possible
    (done_more a.body c.left.new.self c.gave_back.new.self c.left.ensures.done c.gave_back.ensures.same) c.left.ensures.shows
    c.release-pages.result c.gave_back.ensures.shows (left.1.0 c.in-Last.is) _ c.release-pages.ensures.given c.release-pages.ensures.count
    _ c.free_slot.ensures.leaves)
