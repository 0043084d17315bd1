use Rattle.std.proofs.Common.{sym, ◌∙◌}
use Rattle.rgo_code_words.proofs.PieceFronts.{variable_fronts, variable_none}
use Rattle.rgo_code_words.proofs.printed.variable_first.Goals as goal

pub returns-in_err-v : goal.returns-in_err-v
returns-in_err-v c =
    rw c.from_residual.ensures
    (variable_none c.args.bytes.now c.len_to-len.result c.len_to-len.ensures.len c.len_to-len.ensures.within c.requires
    (sym c.variable.ensures ∙ c.in_err-v.was))

pub returns : goal.returns
returns c =
    variable_fronts c.args.bytes.now c.len_to-len.result c.len_to-len.ensures.len c.len_to-len.ensures.within c.in_ok-v.v
    (sym c.variable.ensures ∙ c.in_ok-v.was)
