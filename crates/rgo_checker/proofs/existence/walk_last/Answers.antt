use Rattle.std.proofs.Common.{◌∙◌, ap}
use Rattle.rgo_checker.specs.Tests.{declares_main}
use Rattle.rgo_checker.proofs.walks.ExistenceWalk.{last_walked}
use Rattle.rgo_checker.proofs.existence.walk_last.Goals as goal

pub returns : goal.returns
returns c =
    last_walked c.args.code.now c.args.scan.now c.pass_existence.new.scan c.has_main.result
    (c.has_main.ensures ∙ ap declares_main c.tac.ensures) c.pass_existence.ensures
