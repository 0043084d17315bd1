use Rattle.std.proofs.Common.{⊎_elim}
use Rattle.std.proofs.lemmas.Result.{on_ok_weaker}
use Rattle.rgo_tac.specs.Ops.{operation_of}
use Rattle.rgo_classes.specs.Made.{JoinsOf, OwnJoins}
use Rattle.rgo_classes.proofs.Joining.{joins_equal}
use Rattle.rgo_classes.proofs.Own.{IsNoCall, no_call_joins}
use Rattle.rgo_classes.proofs.instructions.join_op.Goals as goal

pub returns-in-Call-clause-joined : goal.returns-in-Call-clause-joined
returns-in-Call-clause-joined c = rw c.in-Call.is c.join_called.ensures.joined

pub returns-in-Go-clause-joined : goal.returns-in-Go-clause-joined
returns-in-Go-clause-joined c = rw c.in-Go.is c.join_called-in-Go.ensures.joined

pub returns-in-Do : goal.returns-in-Do
returns-in-Do c =
    let f = c.args.function.now in
    let op = operation_of c.args.op in
    let plain : IsNoCall op = ⊎_elim (λ e. rw e.3 tt) (λ r. ⊎_elim (λ e. rw e.2 tt) (λ r. ⊎_elim (λ e. rw e.1 tt)
    (λ r. ⊎_elim (λ e. rw e.3 tt) (λ e. rw e.1 tt) r) r) r) c.in-Do.is in
    record {
      len = c.join_own.ensures.len;
      joined = on_ok_weaker c.join_own.result
          (λ j. joins_equal c.args.labels.now c.join_own.new.labels (OwnJoins f op)
          (JoinsOf c.args.summaries.now.functions f op) (no_call_joins c.args.summaries.now.functions f op plain) j)
          c.join_own.ensures.joined;
    }
