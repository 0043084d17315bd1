use Rattle.rgo_core_rule.proofs.Meetings.{opens}
use Rattle.rgo_core_rule.proofs.seats.open.Goals as goal

pub of_words-requires : goal.of_words-requires
of_words-requires g c =
    let key = c.args.about.now in
    rw c.requires.words (opens g.X.Explanation.accesses (g.X.Explanation.explains key) (g.X.Explanation.opening key) (g.X.Explanation.first key) c.requires.new c.requires.explains)
