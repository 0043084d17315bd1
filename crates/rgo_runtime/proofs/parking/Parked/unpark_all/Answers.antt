-- Room for all was reserved, and each of the three takes leaves room for the rest.
use Rattle.std.proofs.Common.{◌≡◌, ◌∙◌, ◌+◌, ◌≤◌, ◌-◌, arith, length, subst, vec_capacity, vec_len}
use Rattle.rgo_runtime.specs.Parking.{TakesAll, all_parked}
use Rattle.rgo_runtime.proofs.lists.Queues.{all_three, length_taken}
use Rattle.rgo_runtime.proofs.parking.Parked.unpark_all.Goals as goal

pub take_all-requires-in-Ok : goal.take_all-requires-in-Ok
take_all-requires-in-Ok g c =
    let first = length_taken c.self.inside.senders c.reserve.new.self.items c.take_all.new.into.items c.take_all.ensures.moved in
    omega (
      arith,
      first,
      c.take_all.ensures.room,
      c.in-Ok.ensures.ok,
      c.len.ensures,
      c.len-2.ensures,
      c.len-3.ensures,
      c.saturating_add.ensures,
      c.saturating_add-parked.ensures,
      c.reserve.new.self.ok.0,
      c.reserve.new.self.ok.1,
      c.take_all.new.into.ok.0,
      c.take_all.new.into.ok.1,
    )

pub take_all-requires-in-Ok-2 : goal.take_all-requires-in-Ok-2
take_all-requires-in-Ok-2 g c =
    let first = length_taken c.self.inside.senders c.reserve.new.self.items c.take_all.new.into.items c.take_all.ensures.moved in
    let second = length_taken c.self.inside.receivers c.take_all.new.into.items c.take_all-in-Ok.new.into.items c.take_all-in-Ok.ensures.moved in
    omega (
      arith,
      first,
      second,
      c.take_all.ensures.room,
      c.take_all-in-Ok.ensures.room,
      c.in-Ok.ensures.ok,
      c.len.ensures,
      c.len-2.ensures,
      c.len-3.ensures,
      c.saturating_add.ensures,
      c.saturating_add-parked.ensures,
      c.reserve.new.self.ok.0,
      c.reserve.new.self.ok.1,
      c.take_all.new.into.ok.0,
      c.take_all-in-Ok.new.into.ok.0,
      c.take_all-in-Ok.new.into.ok.1,
    )

pub returns-in-Ok-clause-woken : goal.returns-in-Ok-clause-woken
returns-in-Ok-clause-woken g c =
    subst (λ p. TakesAll (all_parked p) c.args.into.now.items c.take_all-in-Ok-2.new.into.items) c.self.view_is
    (subst (λ l. TakesAll (all_parked (record {
      senders = c.self.inside.senders;
      receivers = c.self.inside.receivers;
      offerers = c.self.inside.offerers;
    })) l c.take_all-in-Ok-2.new.into.items) c.reserve.ensures.items
    (all_three c.self.inside.senders c.self.inside.receivers c.self.inside.offerers c.reserve.new.self.items c.take_all.new.into.items
    c.take_all-in-Ok.new.into.items c.take_all-in-Ok-2.new.into.items c.take_all.ensures.moved c.take_all-in-Ok.ensures.moved
    c.take_all-in-Ok-2.ensures.moved))
