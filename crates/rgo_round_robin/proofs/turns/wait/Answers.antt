use Rattle.std.proofs.Common.{◌++◌, ◌∷◌, [], Ok, true, false, ap, append-nil, refl, subst, sym, ◌∙◌}
use Rattle.rgo_round_robin.specs.Probing.{MeetingTried}
use Rattle.rgo_round_robin.proofs.Left.{left_over_of}
use Rattle.rgo_round_robin.proofs.Taken.{joins, meets_last, stops_here, stops_meeting}
use Rattle.rgo_round_robin.proofs.turns.wait.Goals as goal

pub returns-in-Ok-clause-waits : goal.returns-in-Ok-clause-waits
returns-in-Ok-clause-waits g c = λ machine given s at on still waits.
    let taken = c.take_list-list.ensures in
    joins (g.R.Running.view c.args.run.now) machine c.args.limits c.args.g given s c.args.driver.now _ c.args.channel at
    on still waits refl refl
    (c.in-Ok.ensures.joined
    ∙ ap (λ l. l ++ c.args.g ∷ []) (sym (append-nil _) ∙ sym c.in_default.ensures.items ∙ taken.taken))
    (λ n other. c.in-Ok.ensures.others n other ∙ taken.others n other)

pub returns-in-Err-clause-waits : goal.returns-in-Err-clause-waits
returns-in-Err-clause-waits g c = λ machine given s at on still waits.
    let run = g.R.Running.view c.args.run.now in
    stops_here run machine c.args.limits c.args.g given s 1
    (left_over_of run machine given s
    (record {
      prints = g.met.R.Running.shown_prints c.args.run.now;
      leaves = g.met.R.Running.shown_leaves c.args.run.now;
    })
    at)

pub returns-in-Ok-come_back-clause-waits : goal.returns-in-Ok-come_back-clause-waits
returns-in-Ok-come_back-clause-waits g c = λ machine given s at on still waits.
    let run = g.R.Running.view c.meet.new.run in
    let d = c.args.driver.now in
    let taken = c.take_list-list.ensures in
    let back = c.in-Ok-come_back.ensures in
    let met : MeetingTried run machine given s c.meeting-met.result d.steps c.meet.new.steps (Ok true) =
    subst (λ b. MeetingTried run machine given s c.meeting-met.result d.steps c.meet.new.steps (Ok b))
    c.in-Ok-true.field-0-test (c.in-Ok-true.ensures.tries machine given s at on.running) in
    meets_last run machine c.args.limits c.args.g given s d c.come_back.new.driver c.in-Some.partner c.args.channel
    c.meet.new.steps c.meeting-met.result c.pop.new.self.items on c.meeting-met.ensures met back.steps back.ready
    (sym taken.taken ∙ c.in-Some.ensures.items) back.rest
    (λ n other. back.others n other ∙ taken.others n other)

pub returns-in-Err-come_back-clause-waits : goal.returns-in-Err-come_back-clause-waits
returns-in-Err-come_back-clause-waits g c = λ machine given s at on still waits.
    let after = c.meet.new.run in
    let run = g.R.Running.view after in
    let d = c.args.driver.now in
    let met : MeetingTried run machine given s c.meeting-met.result d.steps c.meet.new.steps (Ok true) =
    subst (λ b. MeetingTried run machine given s c.meeting-met.result d.steps c.meet.new.steps (Ok b))
    c.in-Ok-true.field-0-test (c.in-Ok-true.ensures.tries machine given s at on.running) in
    stops_meeting run machine c.args.limits c.args.g given s c.in-Some.partner d.steps c.meet.new.steps
    c.meeting-met.result on c.meeting-met.ensures met
    (left_over_of run machine given met.state
    (record { prints = g.met.R.Running.shown_prints after; leaves = g.met.R.Running.shown_leaves after }) met.at)

pub returns-in-Ok-join_both-clause-waits : goal.returns-in-Ok-join_both-clause-waits
returns-in-Ok-join_both-clause-waits g c = λ machine given s at on still waits.
    let run = g.R.Running.view c.meet.new.run in
    let d = c.args.driver.now in
    let taken = c.take_list-list.ensures in
    let both = c.in-Ok-join_both.ensures in
    let apart : MeetingTried run machine given s c.meeting-met.result d.steps c.meet.new.steps (Ok false) =
    subst (λ b. MeetingTried run machine given s c.meeting-met.result d.steps c.meet.new.steps (Ok b))
    c.in-Ok-false.field-0-test (c.in-Ok-false.ensures.tries machine given s at on.running) in
    joins run machine c.args.limits c.args.g given s d _ c.args.channel apart.1 on still waits apart.2 refl
    (both.joined ∙ ap (λ l. l ++ c.args.g ∷ []) (sym (sym taken.taken ∙ c.in-Some.ensures.items)))
    (λ n other. both.others n other ∙ taken.others n other)

pub returns-in-Err-join_both-clause-waits : goal.returns-in-Err-join_both-clause-waits
returns-in-Err-join_both-clause-waits g c = λ machine given s at on still waits.
    let after = c.meet.new.run in
    let run = g.R.Running.view after in
    let d = c.args.driver.now in
    let apart : MeetingTried run machine given s c.meeting-met.result d.steps c.meet.new.steps (Ok false) =
    subst (λ b. MeetingTried run machine given s c.meeting-met.result d.steps c.meet.new.steps (Ok b))
    c.in-Ok-false.field-0-test (c.in-Ok-false.ensures.tries machine given s at on.running) in
    stops_here run machine c.args.limits c.args.g given s 1
    (left_over_of run machine given s
    (record { prints = g.met.R.Running.shown_prints after; leaves = g.met.R.Running.shown_leaves after }) apart.1)

pub returns-in-Err-meet-clause-waits : goal.returns-in-Err-meet-clause-waits
returns-in-Err-meet-clause-waits g c = λ machine given s at on still waits.
    stops_here (g.R.Running.view c.meet.new.run) machine c.args.limits c.args.g given s 1
    (c.in-Err-meet.ensures.tries machine given s at on.running)
