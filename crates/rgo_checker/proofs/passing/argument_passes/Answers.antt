use Rattle.std.proofs.Common.{◌≡◌, ◌<◌, ◌∙◌, ap, arith}
use Rattle.rgo_checker.proofs.Deciding.{always}
use Rattle.rgo_checker.proofs.decides.PassingLaws.{argument_decided}
use Rattle.rgo_checker.proofs.passing.argument_passes.Goals as goal

pub returns-then-i-params : goal.returns-then-i-params
returns-then-i-params c =
    let e : c.params-params.result ≡ c.args.callee.now.params =
    c.params-params.ensures ∙ ap (λ x. x.params) c.tac.ensures in
    always (λ l. absurd (omega (arith, l, e, c.if-i-params.true)))

pub returns : goal.returns
returns c =
    let e : c.params-params.result ≡ c.args.callee.now.params =
    c.params-params.ensures ∙ ap (λ x. x.params) c.tac.ensures in
    let inside : c.args.i < c.args.callee.now.params = omega (arith, e, c.if-i-params.false) in
    argument_decided c.args.f.now c.args.callee.now c.args.parameters.now.classes.items c.args.passes.now
    c.class_at-parameter.result c.class_of-argument.result c.is_passed_for.result c.is_passed_for.ensures c.args.i
    c.args.v c.class_at-parameter.ensures c.class_of-argument.ensures inside
