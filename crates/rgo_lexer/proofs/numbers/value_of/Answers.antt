use Rattle.std.proofs.Common.{◌∙◌, sym, arith}
use Rattle.rgo_lexer.proofs.NumberLemmas.{value_after-too_large}
use Rattle.rgo_lexer.proofs.numbers.value_of.Goals as goal

pub returns-in_err-number : goal.returns-in_err-number
returns-in_err-number c =
    c.from_residual.ensures
    ∙ value_after-too_large c.args.base c.loop-b.number c.args.digits.now c.loop-b.b-index _
    (omega arith) c.loop-b-test.true
    (sym c.in_err-number.was ∙ c.with_byte.ensures) c.loop-b.invariant.rest
