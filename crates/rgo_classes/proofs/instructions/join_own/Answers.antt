use Rattle.std.proofs.Common.{◌∙◌, sym}
use Rattle.std.proofs.lemmas.Option.{none-some}
use Rattle.std.proofs.lemmas.Result.{on_ok_weaker}
use Rattle.rgo_tac.specs.Ops.{operation_of}
use Rattle.rgo_classes.specs.Labels.{Pair}
use Rattle.rgo_classes.specs.Made.{OwnJoins}
use Rattle.rgo_classes.proofs.Joining.{joins_equal, joins_none}
use Rattle.rgo_classes.proofs.Labelled.{has_label}
use Rattle.rgo_classes.proofs.Own.{own_is, own_pair}
use Rattle.rgo_classes.proofs.instructions.join_own.Goals as goal

pub join-requires-clause-a : goal.join-requires-clause-a
join-requires-clause-a c =
    let own = (own_is c.args.function.now (operation_of c.args.op) c.in-Some.a c.in-Some.b).0
    (sym c.joins.ensures ∙ c.in-Some.is) in
    has_label c.args.function.now c.args.labels.now c.in-Some.a c.requires.fits own.1

pub join-requires-clause-b : goal.join-requires-clause-b
join-requires-clause-b c =
    let own = (own_is c.args.function.now (operation_of c.args.op) c.in-Some.a c.in-Some.b).0
    (sym c.joins.ensures ∙ c.in-Some.is) in
    has_label c.args.function.now c.args.labels.now c.in-Some.b c.requires.fits own.2

pub returns-in-Some-clause-joined : goal.returns-in-Some-clause-joined
returns-in-Some-clause-joined c =
    let op = operation_of c.args.op in
    on_ok_weaker c.join.result
    (λ j. joins_equal c.args.labels.now c.join.new.self (Pair c.in-Some.a c.in-Some.b) (OwnJoins c.args.function.now op)
    (own_pair c.args.function.now op c.in-Some.a c.in-Some.b (sym c.joins.ensures ∙ c.in-Some.is)) j)
    c.join.ensures.joined

pub returns-in-None-clause-joined : goal.returns-in-None-clause-joined
returns-in-None-clause-joined c =
    joins_none c.args.labels.now (OwnJoins c.args.function.now (operation_of c.args.op))
    (λ a b own. none-some (a, b) (sym c.in-None.is ∙ c.joins.ensures ∙ own))
