use Rattle.std.proofs.Common.{◌≡◌, ◌+◌, ◌*◌, ◌≤◌, length, rules, subst, sym}
use Rattle.rgo_big.specs.Big.{big_text}
use Rattle.rgo_big.proofs.Lengths.{big_length}
use Rattle.rgo_big.proofs.texts.big_source.Goals as goal

pub returns-clause-length : goal.returns-clause-length
returns-clause-length c =
    let is : c.write_main.new.text.items ≡ big_text c.args.n = search rules in
    subst (λ items. length items ≤ 71 * c.args.n + 364) (sym is) (big_length c.args.n c.ranges.n.fits)
