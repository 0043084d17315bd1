use Rattle.std.proofs.Common.{◌∙◌, sym}
use Rattle.rgo_lexer.proofs.OperatorLemmas.{found_at}
use Rattle.rgo_lexer.proofs.operators.longest_front.Goals as goal

pub returns-then-starts_with : goal.returns-then-starts_with
returns-then-starts_with c =
    let table = c.args.table.now in
    let begins = sym c.starts_with.ensures.value ∙ c.if-starts_with.true in
    sym (found_at (λ e. (e.0.now, e.1)) table c.loop-entry.entry-index _ c.args.text.now
    c.loop-entry-test.true c.loop-entry.invariant.order begins)
    ∙ c.loop-entry.invariant.rest
