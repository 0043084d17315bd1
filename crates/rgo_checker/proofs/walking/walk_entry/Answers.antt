use Rattle.rgo_checker.proofs.walks.WalkLaws.{entry_walked}
use Rattle.rgo_checker.proofs.walking.walk_entry.Goals as goal

pub returns : goal.returns
returns c = λ n here.
    entry_walked c.args.code.now n c.args.f.now here c.args.scan.now c.pass.new.scan c.in_ok-broken.broken
    c.in_ok-broken.ensures c.pass.ensures
