use Rattle.std.proofs.Common.{◌∙◌, get_or, sym, arith}
use Rattle.std.proofs.lemmas.Bool.{false≢true}
use Rattle.std.proofs.lemmas.Option.{slice_get-get_or, slice_get_within}
use Rattle.rgo_checker.specs.ClassTests.{ArgumentPasses}
use Rattle.rgo_checker.proofs.Deciding.{always, never}
use Rattle.rgo_checker.proofs.decides.PassingLaws.{more_pass}
use Rattle.rgo_checker.proofs.passing.arguments_pass.Goals as goal

pub returns-then-not-passed : goal.returns-then-not-passed
returns-then-not-passed c =
    let i = c.loop-i.i in
    let v = get_or c.args.from.now i 0 in
    never (λ h. false≢true (sym c.if-not-passed.true
    ∙ c.argument_passes-passed.ensures.1 (λ l. h i v l (slice_get-get_or c.args.from.now i 0 (omega arith)))))

pub loop-i-preserved : goal.loop-i-preserved
loop-i-preserved c =
    let i = c.loop-i.i in
    more_pass
    (λ j v. ArgumentPasses c.args.f.now c.args.callee.now c.args.parameters.now.classes.items c.args.passes.now j v)
    c.args.from.now i (get_or c.args.from.now i 0) c.loop-i.invariant
    (slice_get-get_or c.args.from.now i 0 (omega arith))
    (c.argument_passes-passed.ensures.0 c.if-not-passed.false)

pub returns : goal.returns
returns c =
    always (λ j v l here. c.loop-i.invariant j v
    (let w = slice_get_within c.args.from.now j v here in omega (arith, w)) here l)
