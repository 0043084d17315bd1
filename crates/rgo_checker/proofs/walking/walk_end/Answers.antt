use Rattle.rgo_checker.proofs.walks.WalkLaws.{end_walked}
use Rattle.rgo_checker.proofs.walking.walk_end.Goals as goal

pub returns : goal.returns
returns c = λ n. end_walked c.args.code.now n c.args.scan.now c.pass.new.scan c.pass.ensures
