use Rattle.rgo_body.proofs.Showing.{like_shown}
use Rattle.rgo_body.proofs.laws.like_shown.Goals as goal

pub returns : goal.returns
returns c = like_shown
