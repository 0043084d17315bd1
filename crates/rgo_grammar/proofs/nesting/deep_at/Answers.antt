use Rattle.std.proofs.Common.{◌≤◌, ◌∙◌, sym, ap, arith}
use Rattle.rgo_grammar.proofs.DeepLemmas.{deep_here, deep_later, deep_never}
use Rattle.rgo_grammar.proofs.nesting.deep_at.Goals as goal

pub returns-then-nesting-limit : goal.returns-then-nesting-limit
returns-then-nesting-limit c =
    sym (c.loop-at.invariant.0
    ∙ deep_here c.args.limit c.loop-at.before c.lexeme.inside.terminal c.loop-at.nesting.levels.items c.pass.new.self.levels.items c.loop-at.at c.args.lexemes.now c.loop-at.at c.index-lexemes-at.result
    c.loop-at-test.true (ap (λ x. x.terminal) (sym c.index-lexemes-at.is ∙ sym c.lexeme.view_is)) c.in_ok-pass.ensures (omega (arith, c.if-nesting-limit.true, c.pass.new.self.sum)))

pub loop-at-preserved : goal.loop-at-preserved
loop-at-preserved c =
    let within : c.pass.new.self.total ≤ c.args.limit = omega arith in (
      c.loop-at.invariant.0
          ∙ deep_later c.args.limit c.loop-at.before c.lexeme.inside.terminal c.loop-at.nesting.levels.items c.pass.new.self.levels.items c.loop-at.at c.args.lexemes.now c.loop-at.at c.index-lexemes-at.result
          c.loop-at-test.true (ap (λ x. x.terminal) (sym c.index-lexemes-at.is ∙ sym c.lexeme.view_is)) c.in_ok-pass.ensures (omega (arith, within, c.pass.new.self.sum)),
      within,
    )

pub returns : goal.returns
returns c =
    sym (c.loop-at.invariant.0
    ∙ deep_never c.args.limit c.loop-at.before c.loop-at.nesting.levels.items c.loop-at.at c.args.lexemes.now c.loop-at.at
    c.loop-at-test.false)
