use Rattle.std.proofs.Common.{◌&&◌, ◌∙◌, length, nat_eq, sym, ap, subst}
use Rattle.std.specs.Bool.{Decides}
use Rattle.rgo_code.specs.ClassRules.{PassesClasses}
use Rattle.rgo_checker.proofs.decides.PassingLaws.{passes_decided}
use Rattle.rgo_checker.proofs.passing.passes_right.Goals as goal

pub returns : goal.returns
returns c =
    let classes = c.in_ok-parameters.parameters.classes.items in
    let arguments = c.arguments_pass-arguments.result in
    let target = c.target_passes-target.result in
    subst (λ b. Decides b (PassesClasses c.args.f.now c.args.callee.now c.args.to c.args.from.now c.args.passes.now))
    (sym (c.all_three.ensures ∙ ap (λ b. b && (arguments && target))
    (c.same_len.ensures ∙ ap (λ cs. nat_eq (length c.args.passes.now) (length cs)) c.deref.ensures.value)))
    (passes_decided c.args.f.now c.args.callee.now c.args.to c.args.from.now classes c.args.passes.now
    c.in_ok-parameters.ensures arguments target c.arguments_pass-arguments.ensures c.target_passes-target.ensures)
