use Rattle.std.proofs.Common.{ap}
use Rattle.std.proofs.lemmas.Result.{IfOk-weaker}
use Rattle.clap.specs.Words.{App}
use Rattle.rgo_command_line.proofs.ParserLemmas.{with_command, with_settings}
use Rattle.rgo_command_line.proofs.parser.parser.Goals as goal

pub returns : goal.returns
returns c =
    let top = with_settings _ _ _ _ c.disable_help_flag.ensures c.disable_version_flag.ensures
    c.disable_help_subcommand.ensures c.new.ensures.app in
    let run = with_command _ _ _ _ _ c.in_ok-subcommand.ensures c.in_ok-run.ensures.local top
    (ap (λ (a : App). a.top) c.in_ok-run.ensures.app) in
    let check = with_command _ _ _ _ _ c.in_ok-subcommand-2.ensures c.new-2.ensures.local run
    (ap (λ (a : App). a.top) c.new-2.ensures.app) in
    let emit = with_command _ _ _ _ _ c.in_ok-subcommand-3.ensures c.new-3.ensures.local check
    (ap (λ (a : App). a.top) c.new-3.ensures.app) in
    let code = with_command _ _ _ _ _ c.in_ok-subcommand-4.ensures c.new-4.ensures.local emit
    (ap (λ (a : App). a.top) c.new-4.ensures.app) in
    let big = with_command _ _ _ _ _ c.in_ok-subcommand-5.ensures c.in_ok-big.ensures.local code
    (ap (λ (a : App). a.top) c.in_ok-big.ensures.app) in
    let recorded = with_command _ _ _ _ _ c.in_ok-subcommand-6.ensures c.in_ok-record.ensures.local big
    (ap (λ (a : App). a.top) c.in_ok-record.ensures.app) in
    let replay = with_command _ _ _ _ _ c.in_ok-subcommand-7.ensures c.new-5.ensures.local recorded
    (ap (λ (a : App). a.top) c.new-5.ensures.app) in
    IfOk-weaker c.subcommand-8.result _ _
    (λ r adds. with_command _ _ _ _ _ adds c.in_ok-run_code.ensures.local replay
    (ap (λ (a : App). a.top) c.in_ok-run_code.ensures.app)) c.subcommand-8.ensures
