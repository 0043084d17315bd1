use Rattle.std.proofs.Common.{◌-◌, ◌≡◌, ◌∙◌, ap, reverse, length, arith}
use Rattle.std.specs.Vec.{vec_len}
use Rattle.rgo_interpreter.proofs.Frames.{passed_to, passed_none}
use Rattle.rgo_interpreter.proofs.goroutines.pass.Goals as goal
use Rattle.rgo_interpreter.proofs.goroutines.pass.Goals.{in-Some, in_default}

pub returns : goal.returns
returns g c =
    let machine = g.M.Machine.machine c.args.machine.now in
    let v = c.goroutine.inside.frames in
    elim c.match-last_mut.branch [
      | in-Some w ↦
          let item = w.in-Some.ensures.item in
          ap (λ i. reverse i.frames.items) w.goroutine-inside-is
          ∙ passed_to machine v.items c.args.goroutine.now c.goroutine.view_is w.in-Some.frame.now w.pass.new.frame
          c.args.value (vec_len v - 1) (omega (arith, item.3.0, v.ok.0)) item.1 w.pass.ensures
      | in_default w ↦
          let none : length v.items ≡ 0 = omega (arith, w.in_default.ensures.item.3) in
          ap (λ i. reverse i.frames.items) w.goroutine-inside-is
          ∙ passed_none machine v.items c.args.goroutine.now c.goroutine.view_is c.args.value none
    ]
