use Rattle.std.proofs.Common.{rules, sym, subst}
use Rattle.std.specs.Str.Parse.{ParsesUnsigned}
use Rattle.rgo_command_line.proofs.NumberLemmas.{too_large}
use Rattle.rgo_command_line.proofs.numbers.number_within.Goals as goal

pub returns-in-Err-clause-value : goal.returns-in-Err-clause-value
returns-in-Err-clause-value c =
    sym (too_large c.args.least c.args.most c.args.text.now c.in-Err.field-0
    (subst (ParsesUnsigned 64 10 c.args.text.now) c.in-Err.is c.parse.ensures.value.0)
    (search rules) (search rules))
