use Rattle.std.proofs.Common.{◌∙◌, ap, Ok}
use Rattle.rgo_interpreter.specs.Views.{memory_view}
use Rattle.rgo_machine.specs.Machines.{State}
use Rattle.rgo_interpreter.proofs.Stepping.{there, continues, seen, changes_seen, print_seen}
use Rattle.rgo_interpreter.proofs.steps.step_alone.Goals as goal

pub returns-in_default-happened : goal.returns-in_default-happened
returns-in_default-happened g c =
    let state = c.state.inside in
    let item = c.in-Some.ensures.item in
    let before : State g.row.M-Frame.Denot = record {
      memory = memory_view state.memory;
      goroutines = state.goroutines.items;
      printed = state.printed.items;
      ended = state.ended;
    } in
    record {
      steps = seen (g.M.Machine.machine c.args.machine.now) before c.args.state.now c.state.view_is c.args.g
          c.in_ok-happened.happened _
          (continues (g.M.Machine.machine c.args.machine.now) before c.args.g c.in-Some.goroutine.now c.go.new.goroutine
          (memory_view c.go.new.memory) c.go.new.printed.items (ap (λ s. s.ended) c.state.view_is ∙ c.requires.running)
          (there state.goroutines.items c.args.g c.in-Some.goroutine.now item.3.0 item.1) c.in_ok-happened.happened
          c.in_default-happened.not-Ends c.in_ok-happened.ensures.happens);
      channels = changes_seen before c.args.state.now c.state.view_is (Ok c.in_ok-happened.happened)
          (memory_view c.go.new.memory)
          c.in_ok-happened.ensures.channels;
      print = print_seen before c.args.state.now c.state.view_is (Ok c.in_ok-happened.happened) c.go.new.printed.items
          c.in_ok-happened.ensures.print;
    }
