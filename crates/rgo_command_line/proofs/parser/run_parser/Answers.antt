use Rattle.std.proofs.lemmas.Result.{IfOk-weaker}
use Rattle.rgo_command_line.proofs.ParserLemmas.{still_local, with_arg}
use Rattle.rgo_command_line.proofs.parser.run_parser.Goals as goal

pub returns-clause-app : goal.returns-clause-app
returns-clause-app c =
    let steps = with_arg _ _ _ _ _ c.in_ok-arg.ensures c.number_option.ensures.local
    c.new.ensures.app c.number_option.ensures.rule in
    let goroutines = with_arg _ _ _ _ _ c.in_ok-arg-2.ensures c.number_option-2.ensures.local
    steps c.number_option-2.ensures.rule in
    let pages = with_arg _ _ _ _ _ c.in_ok-arg-3.ensures c.number_option-3.ensures.local
    goroutines c.number_option-3.ensures.rule in
    let page_words = with_arg _ _ _ _ _ c.in_ok-arg-4.ensures c.number_option-4.ensures.local
    pages c.number_option-4.ensures.rule in
    let regions = with_arg _ _ _ _ _ c.in_ok-arg-5.ensures c.number_option-5.ensures.local
    page_words c.number_option-5.ensures.rule in
    let workers = with_arg _ _ _ _ _ c.in_ok-arg-6.ensures c.number_option-6.ensures.local
    regions c.number_option-6.ensures.rule in
    IfOk-weaker c.arg-7.result _ _
    (λ r adds. with_arg _ _ _ _ _ adds c.flag_option.ensures.local workers c.flag_option.ensures.rule)
    c.arg-7.ensures

pub returns-clause-local : goal.returns-clause-local
returns-clause-local c =
    let steps = still_local _ _ _ c.in_ok-arg.ensures c.number_option.ensures.local c.new.ensures.local in
    let goroutines = still_local _ _ _ c.in_ok-arg-2.ensures c.number_option-2.ensures.local steps in
    let pages = still_local _ _ _ c.in_ok-arg-3.ensures c.number_option-3.ensures.local goroutines in
    let page_words = still_local _ _ _ c.in_ok-arg-4.ensures c.number_option-4.ensures.local pages in
    let regions = still_local _ _ _ c.in_ok-arg-5.ensures c.number_option-5.ensures.local page_words in
    let workers = still_local _ _ _ c.in_ok-arg-6.ensures c.number_option-6.ensures.local regions in
    IfOk-weaker c.arg-7.result _ _
    (λ r adds. still_local _ _ _ adds c.flag_option.ensures.local workers) c.arg-7.ensures
