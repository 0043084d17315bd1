use Rattle.rgo_checker.proofs.walks.ExistenceWalk.{end_walked}
use Rattle.rgo_checker.proofs.existence.walk_end.Goals as goal

pub returns : goal.returns
returns c = λ n here.
    end_walked c.args.code.now c.args.scan.now c.pass_existence.new.scan n c.args.f.now here c.has_body-kept.result
    c.has_body-kept.ensures c.pass_existence.ensures
