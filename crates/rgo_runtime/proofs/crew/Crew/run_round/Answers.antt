-- Each part keeps the crew, and `kept_then` joins two of them. An error may come after any part, so each way out has as many parts as were
-- done.
use Rattle.rgo_runtime.proofs.crews.Moving.{kept_then}
use Rattle.rgo_runtime.proofs.crew.Crew.run_round.Goals as goal

pub returns-in_err-moved-clause-kept : goal.returns-in_err-moved-clause-kept
returns-in_err-moved-clause-kept g c =
    let old = c.args.self.now in
    kept_then old c.set_time_slices.new.self c.turn_all.new.self c.set_time_slices.ensures.kept c.turn_all.ensures.kept

pub returns-in_err-collect_all-clause-kept : goal.returns-in_err-collect_all-clause-kept
returns-in_err-collect_all-clause-kept g c =
    let old = c.args.self.now in
    let turned = kept_then old c.set_time_slices.new.self c.turn_all.new.self c.set_time_slices.ensures.kept c.turn_all.ensures.kept in
    kept_then old c.turn_all.new.self c.collect_all.new.self turned c.collect_all.ensures.kept

pub returns-in_err-summary-clause-kept : goal.returns-in_err-summary-clause-kept
returns-in_err-summary-clause-kept g c =
    let old = c.args.self.now in
    let turned = kept_then old c.set_time_slices.new.self c.turn_all.new.self c.set_time_slices.ensures.kept c.turn_all.ensures.kept in
    kept_then old c.turn_all.new.self c.collect_all.new.self turned c.collect_all.ensures.kept

pub returns-in_err-wake_each-clause-kept : goal.returns-in_err-wake_each-clause-kept
returns-in_err-wake_each-clause-kept g c =
    let old = c.args.self.now in
    let turned = kept_then old c.set_time_slices.new.self c.turn_all.new.self c.set_time_slices.ensures.kept c.turn_all.ensures.kept in
    let collected = kept_then old c.turn_all.new.self c.collect_all.new.self turned c.collect_all.ensures.kept in
    let sorted = kept_then old c.collect_all.new.self c.park_and_retire.new.self collected c.park_and_retire.ensures.kept in
    kept_then old c.park_and_retire.new.self c.wake_each.new.self sorted c.wake_each.ensures.kept

pub returns-in_err-enqueue_newborns-clause-kept : goal.returns-in_err-enqueue_newborns-clause-kept
returns-in_err-enqueue_newborns-clause-kept g c =
    let old = c.args.self.now in
    let turned = kept_then old c.set_time_slices.new.self c.turn_all.new.self c.set_time_slices.ensures.kept c.turn_all.ensures.kept in
    let collected = kept_then old c.turn_all.new.self c.collect_all.new.self turned c.collect_all.ensures.kept in
    let sorted = kept_then old c.collect_all.new.self c.park_and_retire.new.self collected c.park_and_retire.ensures.kept in
    let woken = kept_then old c.park_and_retire.new.self c.wake_each.new.self sorted c.wake_each.ensures.kept in
    kept_then old c.wake_each.new.self c.enqueue_newborns.new.self woken c.enqueue_newborns.ensures.kept

pub returns-clause-kept : goal.returns-clause-kept
returns-clause-kept g c =
    let old = c.args.self.now in
    let turned = kept_then old c.set_time_slices.new.self c.turn_all.new.self c.set_time_slices.ensures.kept c.turn_all.ensures.kept in
    let collected = kept_then old c.turn_all.new.self c.collect_all.new.self turned c.collect_all.ensures.kept in
    let sorted = kept_then old c.collect_all.new.self c.park_and_retire.new.self collected c.park_and_retire.ensures.kept in
    let woken = kept_then old c.park_and_retire.new.self c.wake_each.new.self sorted c.wake_each.ensures.kept in
    kept_then old c.wake_each.new.self c.enqueue_newborns.new.self woken c.enqueue_newborns.ensures.kept
