use Rattle.std.proofs.Common.{inl, inr, refl, subst}
use Rattle.rgo_interpreter.specs.Meetings.{FindsMeeting}
use Rattle.rgo_round_robin.proofs.Found.{finds_at, meets_two, meets_not, meets_late}
use Rattle.rgo_round_robin.proofs.Left.{left_over_of}
use Rattle.rgo_round_robin.proofs.meetings.meet_any.Goals as goal

pub returns-in_default-clause-meets : goal.returns-in_default-clause-meets
returns-in_default-clause-meets g c = λ machine given s at running.
    let before = c.args.run.now in
    let run = g.R.Running.view before in
    inr (meets_not run machine given s (left_over_of run machine given s
    (record { prints = g.met.R.Running.shown_prints before; leaves = g.met.R.Running.shown_leaves before }) at))

pub returns-in_default-found-clause-meets : goal.returns-in_default-found-clause-meets
returns-in_default-found-clause-meets g c = λ machine given s at running.
    let found = finds_at (g.R.Running.view c.args.run.now) machine given s c.in-Ok.found at
    (c.in-Ok.ensures given s at.shown running) in
    inl (record {
      is = refl;
      at = at;
      unmet = subst (FindsMeeting machine s) c.in_default-found.is found;
    })

pub returns-in-Err-clause-meets : goal.returns-in-Err-clause-meets
returns-in-Err-clause-meets g c = λ machine given s at running.
    let found = finds_at (g.R.Running.view c.args.run.now) machine given s c.in-Ok.found at
    (c.in-Ok.ensures given s at.shown running) in
    let can = subst (FindsMeeting machine s) c.in-Some.is found in
    inr (meets_not (g.R.Running.view c.meet_found.new.run) machine given s
    (c.in-Err.ensures.meets machine given s at running can))

pub returns-in-Err-admit_both-clause-meets : goal.returns-in-Err-admit_both-clause-meets
returns-in-Err-admit_both-clause-meets g c = λ machine given s at running.
    let after = c.meet_found.new.run in
    let found = finds_at (g.R.Running.view c.args.run.now) machine given s c.in-Ok.found at
    (c.in-Ok.ensures given s at.shown running) in
    let can = subst (FindsMeeting machine s) c.in-Some.is found in
    inr (meets_late (g.R.Running.view after) machine given s c.in-Some.met c.args.driver.now.steps
    c.meet_found.new.steps
    (record { prints = g.met.R.Running.shown_prints after; leaves = g.met.R.Running.shown_leaves after })
    (c.in-Ok-meet_found.ensures.meets machine given s at running can))

pub returns-in-Ok-admit_both-clause-meets : goal.returns-in-Ok-admit_both-clause-meets
returns-in-Ok-admit_both-clause-meets g c = λ machine given s at running.
    let found = finds_at (g.R.Running.view c.args.run.now) machine given s c.in-Ok.found at
    (c.in-Ok.ensures given s at.shown running) in
    let can = subst (FindsMeeting machine s) c.in-Some.is found in
    meets_two (g.R.Running.view c.meet_found.new.run) machine given s c.args.driver.now _ c.in-Some.met running
    (c.in-Ok-meet_found.ensures.meets machine given s at running can) c.in-Ok-admit_both.ensures refl
