use Rattle.std.proofs.Common.{arith}
use Rattle.rgo_code_text.proofs.code_of_lines.Few.{number_within}
use Rattle.rgo_code_text.proofs.numbered.small_number.Goals as goal

pub overflow_cast-result : goal.overflow_cast-result
overflow_cast-result c =
    omega (arith, c.requires, c.number.ensures, number_within c.args.numbers.now c.args.name.now)
