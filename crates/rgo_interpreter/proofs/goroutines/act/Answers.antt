use Rattle.std.proofs.Common.{◌-◌, arith}
use Rattle.std.specs.Vec.{vec_len}
use Rattle.rgo_interpreter.specs.Views.{memory_view}
use Rattle.rgo_interpreter.proofs.Going.{act_moves, act_prints, act_traps}
use Rattle.rgo_interpreter.proofs.goroutines.act.Goals as goal

pub returns-in-Moves-clause-happens : goal.returns-in-Moves-clause-happens
returns-in-Moves-clause-happens g c =
    let item = c.in-Some.ensures.item in
    let v = c.goroutine.inside.frames in
    let did = rw c.in-Moves.is at c.in_ok-act.ensures.acts in
    act_moves (g.M.Machine.machine c.args.machine.now) c.args.g (memory_view c.args.memory.now)
    (memory_view c.act.new.memory)
    v.items c.args.goroutine.now c.goroutine.view_is c.in-Some.frame.now c.act.new.frame (vec_len v - 1)
    (omega (arith, item.3.0, v.ok.0)) item.1 c.args.printed.now.items c.act.new.out.items c.requires did

pub returns-in-Prints-clause-happens : goal.returns-in-Prints-clause-happens
returns-in-Prints-clause-happens g c =
    let item = c.in-Some.ensures.item in
    let v = c.goroutine.inside.frames in
    let did = rw c.in-Prints.is at c.in_ok-act.ensures.acts in
    act_prints (g.M.Machine.machine c.args.machine.now) c.args.g (memory_view c.args.memory.now)
    (memory_view c.act.new.memory)
    v.items c.args.goroutine.now c.goroutine.view_is c.in-Some.frame.now c.act.new.frame (vec_len v - 1)
    (omega (arith, item.3.0, v.ok.0)) item.1 c.args.printed.now.items c.act.new.out.items c.requires did

pub returns-in-Traps-clause-happens : goal.returns-in-Traps-clause-happens
returns-in-Traps-clause-happens g c =
    let item = c.in-Some.ensures.item in
    let v = c.goroutine.inside.frames in
    let did = rw c.in-Traps.is at c.in_ok-act.ensures.acts in
    act_traps (g.M.Machine.machine c.args.machine.now) c.args.g (memory_view c.args.memory.now)
    (memory_view c.act.new.memory)
    v.items c.args.goroutine.now c.goroutine.view_is c.in-Some.frame.now c.act.new.frame (vec_len v - 1)
    (omega (arith, item.3.0, v.ok.0)) item.1 c.args.printed.now.items c.act.new.out.items c.requires _ _ did
