-- One goroutine more has given what it had (`one_changes`), whether or not the call succeeded: an error leaves the loop with the same
-- clause.
use Rattle.std.proofs.Common.{◌<◌, ap, arith, length}
use Rattle.rgo_runtime.proofs.crews.Steps.{one_changes}
use Rattle.rgo_runtime.proofs.crew.Crew.collect_all.Goals as goal

pub returns-in_err-collect-clause-kept : goal.returns-in_err-collect-clause-kept
returns-in_err-collect-clause-kept c =
    let ready = c.loop-i.self-inside.ready.items in
    let x = c.index_mut.result.now in
    let y = c.collect.new.self in
    let changes = c.loop-i.invariant.changes in
    let within : c.loop-i.i < length ready = omega (arith, c.loop-i-test.true, c.loop-i.invariant.end, changes.len) in
    let its = c.collect.ensures in
    (one_changes _ _ c.loop-i.i x changes within c.index_mut.ensures.value y (ap (λ t. t.run) its.same) its.number (ap (λ t. t.turned) its.same) its.actor c.collect.new.born.items
    c.collect.new.queue.waiting its.born its.kept).kept

pub loop-i-preserved : goal.loop-i-preserved
loop-i-preserved c =
    let ready = c.loop-i.self-inside.ready.items in
    let x = c.index_mut.result.now in
    let y = c.collect.new.self in
    let changes = c.loop-i.invariant.changes in
    let within : c.loop-i.i < length ready = omega (arith, c.loop-i-test.true, c.loop-i.invariant.end, changes.len) in
    let its = c.collect.ensures in
    rw its.next
    (record {
      end = c.loop-i.invariant.end;
      changes = one_changes _ _ c.loop-i.i x changes within c.index_mut.ensures.value y (ap (λ t. t.run) its.same) its.number (ap (λ t. t.turned) its.same) its.actor c.collect.new.born.items
          c.collect.new.queue.waiting its.born its.kept;
    })
