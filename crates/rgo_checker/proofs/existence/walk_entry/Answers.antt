use Rattle.rgo_checker.proofs.walks.ExistenceWalk.{entry_walked}
use Rattle.rgo_checker.proofs.existence.walk_entry.Goals as goal

pub returns : goal.returns
returns c = λ n. entry_walked c.args.code.now c.args.scan.now c.pass.new.scan n c.pass.ensures
