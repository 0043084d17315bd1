use Rattle.std.proofs.Common.{◌-◌, ◌≡◌, ◌∙◌, ap, reverse, drop, arith}
use Rattle.std.specs.Vec.{vec_len}
use Rattle.rgo_interpreter.proofs.Frames.{left_last, left_to_caller}
use Rattle.rgo_interpreter.proofs.Newest.{popped}
use Rattle.rgo_interpreter.proofs.goroutines.leave.Goals as goal
use Rattle.rgo_interpreter.proofs.goroutines.leave.Goals.{then-depth-ge2+in_ok-resume, else-depth-ge2}

pub returns-clause-leaves : goal.returns-clause-leaves
returns-clause-leaves g c =
    let machine = g.M.Machine.machine c.args.machine.now in
    let v = c.goroutine.inside.frames in
    let w' = c.if-depth-ge2.goroutine-inside.frames in
    let first : reverse c.pop.new.self.items ≡ drop 1 (reverse w'.items) =
    popped w'.items c.pop.new.self.items c.pop.result (vec_len w') (vec_len c.pop.new.self) w'.ok.0
    c.pop.ensures.items c.pop.ensures.cases in
    elim c.if-depth-ge2.branch [
      | then-depth-ge2+in_ok-resume w ↦
          first ∙ ap (λ i. drop 1 (reverse i.frames.items)) w.goroutine-inside-is
          ∙ left_to_caller machine v.items c.args.goroutine.now c.goroutine.view_is w.index_mut.result.now
          w.resume.new.frame
          c.args.value (c.len-depth.result - 2) (omega (arith, w.if-depth-ge2.true, c.len-depth.ensures, v.ok.0))
          w.index_mut.ensures.value w.in_ok-resume.ensures.resumes
      | else-depth-ge2 w ↦
          first ∙ ap (λ i. drop 1 (reverse i.frames.items)) w.goroutine-inside-is
          ∙ left_last machine v.items c.args.goroutine.now c.goroutine.view_is c.args.value
          (omega (arith, w.if-depth-ge2.false, c.len-depth.ensures, v.ok.0))
    ]
