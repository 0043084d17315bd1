use Rattle.std.proofs.Common.{arith}
use Rattle.rgo_goroutine.proofs.Looking.{near_by, near_same}
use Rattle.rgo_goroutine.proofs.goroutine.Goroutine.come_near.Goals as goal

pub returns-then-self : goal.returns-then-self
returns-then-self c left goes = near_by c.args.run.now c.args.self.now c.catch_up.new.self left (c.catch_up.ensures left goes)

pub returns-else-self : goal.returns-else-self
returns-else-self c left goes = near_same c.args.run.now c.args.self.now left goes (omega (arith, c.if-self.false))
