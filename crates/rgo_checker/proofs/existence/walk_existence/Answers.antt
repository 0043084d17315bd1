use Rattle.rgo_checker.proofs.outcomes.Outcome.{existence}
use Rattle.rgo_checker.proofs.existence.walk_existence.Goals as goal

pub returns : goal.returns
returns c =
    existence c.args.code.now c.walk_structs.new.scan c.walk_variables.new.scan c.walk_functions.new.scan
    c.walk_last.new.scan c.requires c.in_ok-walk_structs.ensures c.in_ok-walk_variables.ensures
    c.in_ok-walk_functions.ensures c.walk_last.ensures
