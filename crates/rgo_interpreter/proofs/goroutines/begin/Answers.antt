use Rattle.std.proofs.Common.{◌∙◌, ◌∷◌, [], ◌++◌, reverse, refl, ap}
use Rattle.rgo_interpreter.proofs.Frames.{not_begun, begun, none_begun}
use Rattle.rgo_interpreter.proofs.goroutines.begin.Goals as goal
use Rattle.rgo_interpreter.proofs.goroutines.begin.Goals.{in-Some, in-None}

pub returns-in_err-frames : goal.returns-in_err-frames
returns-in_err-frames g c =
    not_begun (g.M.Machine.machine c.args.machine.now) c.from_residual.result _ _ c.from_residual.ensures.0 refl

pub returns-in_err-child : goal.returns-in_err-child
returns-in_err-child g c =
    not_begun (g.M.Machine.machine c.args.machine.now) c.from_residual-in_err-child.result c.args.goroutine.now _
    c.from_residual-in_err-child.ensures.0 (c.in_err-child.ensures.enters ∙ c.goroutine.view_is)

pub returns : goal.returns
returns g c =
    let entered = c.in_ok-child.ensures.enters in
    let machine = g.M.Machine.machine c.args.machine.now in
    let frames = c.goroutine.inside.frames.items in
    let goroutine = c.args.goroutine.now in
    elim c.match-branch-3.branch [
      | in-Some w ↦
          rw w.result-is
          (begun machine frames goroutine (reverse c.enter.new.frames.items) w.in-Some.child
          w.push_reserved.new.self.items
          c.goroutine.view_is (rw w.in-Some.is at entered)
          (w.push_reserved.ensures.items ∙ ap (λ l. l ++ w.in-Some.child ∷ []) c.in_ok-frames.ensures.items))
      | in-None w ↦
          rw w.result-is
          (none_begun machine frames goroutine (reverse c.enter.new.frames.items) c.goroutine.view_is
          (rw w.in-None.is at entered))
    ]
