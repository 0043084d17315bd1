use Rattle.std.proofs.Common.{sym, ◌∙◌}
use Rattle.std.proofs.lemmas.Result.{IfOk-weaker}
use Rattle.rgo_summaries.proofs.Joining.{went_is, went_joins, joins_same, joins_turned}
use Rattle.rgo_summaries.proofs.nodes.join.Goals as goal

pub returns-then-from-to-clause-joined : goal.returns-then-from-to-clause-joined
returns-then-from-to-clause-joined c =
    joins_same c.args.nodes.now c.args.one c.args.other (
      c.requires.one,
      c.requires.other,
      sym c.label_of-from.ensures.label ∙ c.if-from-to.true
          ∙ c.label_of-to.ensures.label,
    )

pub returns-then-len-clause-is : goal.returns-then-len-clause-is
returns-then-len-clause-is c =
    IfOk-weaker c.go_over.result _ _
    (λ news g. went_is c.args.nodes.now c.go_over.new.nodes c.args.one c.args.other c.requires.is c.requires.one
    c.requires.other c.label_of-from.result c.label_of-to.result c.label_of-from.ensures.label
    c.label_of-to.ensures.label c.if-from-to.false news g)
    c.go_over.ensures

pub returns-then-len-clause-joined : goal.returns-then-len-clause-joined
returns-then-len-clause-joined c =
    IfOk-weaker c.go_over.result _ _
    (λ news g. went_joins c.args.nodes.now c.go_over.new.nodes c.args.one c.args.other c.requires.is c.requires.one
    c.requires.other c.label_of-from.result c.label_of-to.result c.label_of-from.ensures.label
    c.label_of-to.ensures.label c.if-from-to.false news g)
    c.go_over.ensures

pub returns-else-len-clause-is : goal.returns-else-len-clause-is
returns-else-len-clause-is c =
    IfOk-weaker c.go_over-else-len.result _ _
    (λ news g. went_is c.args.nodes.now c.go_over-else-len.new.nodes c.args.other c.args.one c.requires.is
    c.requires.other c.requires.one c.label_of-to.result c.label_of-from.result c.label_of-to.ensures.label
    c.label_of-from.ensures.label (λ e. c.if-from-to.false (sym e)) news g)
    c.go_over-else-len.ensures

pub returns-else-len-clause-joined : goal.returns-else-len-clause-joined
returns-else-len-clause-joined c =
    IfOk-weaker c.go_over-else-len.result _ _
    (λ news g. joins_turned c.args.nodes.now c.go_over-else-len.new.nodes c.args.one c.args.other news
    (went_joins c.args.nodes.now c.go_over-else-len.new.nodes c.args.other c.args.one c.requires.is
    c.requires.other c.requires.one c.label_of-to.result c.label_of-from.result c.label_of-to.ensures.label
    c.label_of-from.ensures.label (λ e. c.if-from-to.false (sym e)) news g))
    c.go_over-else-len.ensures
