use Rattle.std.proofs.Common.{sym, subst}
use Rattle.rgo_body.proofs.Placing.{can_advance}
use Rattle.rgo_stack.specs.Places.{CanAdvance}
use Rattle.rgo_body.specs.Bodies.{frames_of_body}
use Rattle.rgo_body.proofs.bodies.Body.go_on.Goals as goal

pub advance-requires-clause-can : goal.advance-requires-clause-can
advance-requires-clause-can c =
    subst (λ fs. CanAdvance fs c.target.result (frames_of_body c.args.self.now)) (sym c.compact.ensures.compact)
    (subst (λ to. CanAdvance c.args.program.now.compact to (frames_of_body c.args.self.now)) (sym c.target.ensures)
    (can_advance c.args.program.now c.args.self.now c.args.next.now c.requires.possible c.compact.ensures.program
    c.requires.ready.is_next c.requires.follows))
