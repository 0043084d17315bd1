use Rattle.std.proofs.lemmas.Result.{IfOk-weaker}
use Rattle.rgo_command_line.proofs.ParserLemmas.{still_local, with_arg}
use Rattle.rgo_command_line.proofs.parser.big_parser.Goals as goal

pub returns-clause-app : goal.returns-clause-app
returns-clause-app c =
    IfOk-weaker c.arg.result _ _
    (λ r adds. with_arg _ _ _ _ _ adds c.required_word.ensures.local c.new.ensures.app c.required_word.ensures.rule)
    c.arg.ensures

pub returns-clause-local : goal.returns-clause-local
returns-clause-local c =
    IfOk-weaker c.arg.result _ _
    (λ r adds. still_local _ _ _ adds c.required_word.ensures.local c.new.ensures.local) c.arg.ensures
