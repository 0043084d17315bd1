use Rattle.rgo_body.proofs.Placing.{can_jump}
use Rattle.rgo_body.proofs.Transfers.{jumps, on_ok}
use Rattle.rgo_body.proofs.bodies.Body.jump.Goals as goal

pub go_to-requires-clause-can : goal.go_to-requires-clause-can
go_to-requires-clause-can c =
    can_jump c.args.program.now c.args.self.now c.args.next.now c.requires.possible c.fits.ensures c.requires.ready.is_next c.args.target
    c.requires.jumps

pub returns-clause-done : goal.returns-clause-done
returns-clause-done c =
    on_ok c.go_to.result c.go_to.ensures.went (λ went T g r here s.
    jumps T c.args.program.now c.args.self.now c.go_to.new.self g r c.args.next.now s c.requires.ready c.requires.rests c.args.target
    c.removes.result.now went c.requires.jumps c.removes.ensures)
