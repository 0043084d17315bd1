use Rattle.std.proofs.Common.{Some, ap, ◌∙◌, rules, FitsSigned, w64}
use Rattle.std.proofs.lemmas.Int.{to_z-of_z}
use Rattle.rgo_code_words.proofs.Integers.{int_parsed}
use Rattle.rgo_code_words.proofs.words.parsed_int.Goals as goal

pub returns-in-Ok : goal.returns-in-Ok
returns-in-Ok c k f e =
    let is = int_parsed k c.args.text.now c.parse.result c.parse.ensures.value.0 f e in
    let g : FitsSigned w64 c.in-Ok.n = search rules in
    ap Some (to_z-of_z w64 c.in-Ok.n g) ∙ cc (is, c.in-Ok.is)

pub returns-in-Err : goal.returns-in-Err
returns-in-Err c k f e =
    let is = int_parsed k c.args.text.now c.parse.result c.parse.ensures.value.0 f e in
    cc (is, c.in-Err.is)
