use Rattle.std.proofs.Common.{refl}
use Rattle.rgo_goroutine.proofs.Handing.{gathered_of}
use Rattle.rgo_goroutine.proofs.goroutine.Goroutine.gather.Goals as goal

pub returns-in-Ok-clause-of : goal.returns-in-Ok-clause-of
returns-in-Ok-clause-of c = λ r of.
    let go = c.args.self.now in
    gathered_of r go (record go { prints = c.move_valid.new.prints }) of refl c.move_valid.ensures.none
