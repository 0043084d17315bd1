use Rattle.std.proofs.Common.{◌∙◌, sym, arith}
use Rattle.std.proofs.lemmas.Bool.{false≢true}
use Rattle.rgo_checker.specs.Instrs.{InstrKept}
use Rattle.rgo_checker.proofs.outcomes.RuleOrder.{more_kept, broken_here, none_broken, all_kept}
use Rattle.rgo_checker.proofs.instructions.least_broken_by.Goals as goal

pub returns-then-number-limit : goal.returns-then-number-limit
returns-then-number-limit c =
    none_broken
    (InstrKept c.args.site.now.code.now c.args.site.now.f.now c.args.site.now.at) c.loop-number.number
    c.loop-number.invariant c.args.limit (omega arith)

pub keeps-requires-clause-before : goal.keeps-requires-clause-before
keeps-requires-clause-before c =
    λ lesser low high. c.loop-number.invariant lesser low (omega (arith, high, c.rule_of-rule.ensures))

pub returns-then-not-kept : goal.returns-then-not-kept
returns-then-not-kept c =
    broken_here (InstrKept c.args.site.now.code.now c.args.site.now.f.now c.args.site.now.at) c.loop-number.number
    c.loop-number.invariant c.rule_of-rule.result c.args.limit c.rule_of-rule.ensures (omega arith)
    (omega (arith, c.if-number-limit.false)) (λ k. false≢true (sym c.if-not-kept.true ∙ c.in_ok-kept.ensures.1 k))

pub loop-number-preserved : goal.loop-number-preserved
loop-number-preserved c =
    more_kept (InstrKept c.args.site.now.code.now c.args.site.now.f.now c.args.site.now.at) c.loop-number.number
    c.loop-number.invariant c.rule_of-rule.result c.rule_of-rule.ensures (c.in_ok-kept.ensures.0 c.if-not-kept.false)

pub returns : goal.returns
returns c =
    all_kept (InstrKept c.args.site.now.code.now c.args.site.now.f.now c.args.site.now.at) c.loop-number.number
    c.loop-number.invariant c.args.limit (omega arith)
