use Rattle.std.proofs.Common.{◌∙◌, sym, ap}
use Rattle.rgo_interpreter.specs.Views.{memory_view}
use Rattle.rgo_interpreter.specs.Alone as alone
use Rattle.rgo_interpreter.proofs.Meeting.{met_so}
use Rattle.rgo_interpreter.proofs.steps.meet.Goals as goal

pub returns : goal.returns
returns g c =
    let state = c.state.inside in (
      met_so (g.M.Machine.machine c.args.machine.now) c.args.state.now
          (record {
            memory = memory_view state.memory;
            goroutines = state.goroutines.items;
            printed = state.printed.items;
            ended = state.ended;
          })
          c.state.view_is c.args.receiver c.args.sender c.in-Some.channel c.in-Some-sends_at.other
          c.in-Some-sends_at.value
          c.if-receiver-sender.false (sym c.meets_at.ensures ∙ c.if-not-meets_at.false)
          (ap alone.receives_at (sym c.standing.ensures) ∙ sym c.receives_at.ensures ∙ c.in-Some.is)
          (ap alone.sends_at (sym c.standing-2.ensures) ∙ sym c.sends_at.ensures ∙ c.in-Some-sends_at.is)
          c.pass_at.new.goroutines.items c.pass_at-2.new.goroutines.items c.pass_at.ensures c.pass_at-2.ensures,
      ap (λ s. s.ended) c.state.view_is ∙ c.requires,
    )
