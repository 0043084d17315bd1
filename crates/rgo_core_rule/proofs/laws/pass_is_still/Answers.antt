use Rattle.rgo_core_rule.proofs.Settled.{words_stay, all_still, found_stays}
use Rattle.rgo_core_rule.proofs.laws.pass_is_still.Goals as goal

pub returns : goal.returns
returns g c key words v end before since is looked =
    let k = g.X.Explanation.explains key in
    let o = g.X.Explanation.opening key in
    (words_stay g.X.Explanation.accesses k o words v end before since is looked, all_still g.X.Explanation.accesses k o words v end before since is looked, found_stays g.X.Explanation.accesses k o words v end before since is looked)
