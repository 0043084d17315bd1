use Rattle.std.proofs.lemmas.Result.{on_ok_weaker}
use Rattle.rgo_classes.proofs.Standing.{call_with, call_without, holding_none}
use Rattle.rgo_classes.proofs.calls.join_call.Goals as goal

pub returns-in-Some-clause-joined : goal.returns-in-Some-clause-joined
returns-in-Some-clause-joined c =
    let empty = holding_none c.args.function.now c.args.labels.now c.new-holders.result c.new-holders.ensures.empty in
    let listed = rw c.items.ensures at (c.in_ok-hold_arguments.ensures.joined c.args.labels.now empty) in
    rw c.in-Some.is (on_ok_weaker c.hold.result
    (λ more. call_with c.args.function.now c.args.labels.now c.args.summary.now c.args.from.now
    c.hold_arguments.new.labels c.hold_arguments.new.holders listed c.in-Some.variable c.hold.new.labels
    c.hold.new.holders more)
    c.hold.ensures.joined)

pub returns-clause-joined : goal.returns-clause-joined
returns-clause-joined c =
    let empty = holding_none c.args.function.now c.args.labels.now c.new-holders.result c.new-holders.ensures.empty in
    let listed = rw c.items.ensures at (c.in_ok-hold_arguments.ensures.joined c.args.labels.now empty) in
    rw c.in-None.is (call_without c.args.function.now c.args.labels.now c.args.summary.now c.args.from.now
    c.hold_arguments.new.labels c.hold_arguments.new.holders listed)
