use Rattle.std.proofs.Common.{◌≤◌, length, sym}
use Rattle.std.proofs.lemmas.Bool.{ltb-false}
use Rattle.std.proofs.lemmas.Option.{slice_get_past}
use Rattle.rgo_classes.proofs.Standing.{call_of_none}
use Rattle.rgo_classes.proofs.instructions.join_called.Goals as goal

pub returns-in-None-clause-joined : goal.returns-in-None-clause-joined
returns-in-None-clause-joined c =
    let functions = c.args.summaries.now.functions in
    let past : length functions ≤ c.args.callee =
    rw c.items.ensures at (ltb-false c.args.callee (length c.items.result.now) (sym c.in-None.ensures.lookup.0)) in
    rw (slice_get_past functions c.args.callee past)
    (call_of_none c.args.function.now c.args.labels.now c.args.to c.args.from.now)
