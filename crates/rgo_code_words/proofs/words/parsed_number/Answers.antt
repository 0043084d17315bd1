use Rattle.std.proofs.Common.{arith}
use Rattle.std.proofs.lemmas.Fmt.{parse-decimal}
use Rattle.rgo_code_words.proofs.words.parsed_number.Goals as goal

pub returns-in-Ok : goal.returns-in-Ok
returns-in-Ok c k l e =
    let is = parse-decimal 32 k c.args.text.now c.parse.result l (omega (arith, l)) e c.parse.ensures.value.0 in
    cc (is, c.in-Ok.is)

pub returns-in-Err : goal.returns-in-Err
returns-in-Err c k l e =
    let is = parse-decimal 32 k c.args.text.now c.parse.result l (omega (arith, l)) e c.parse.ensures.value.0 in
    cc (is, c.in-Err.is)
