use Rattle.std.proofs.Common.{inl, inr, refl, sym, ap, ◌∙◌}
use Rattle.rgo_machine.specs.declared.picks.Pick.TheVariants.{Meet}
use Rattle.rgo_tac.specs.Tac.{tac_step}
use Rattle.rgo_region_interpreter.proofs.stepping.Meeting.{did_nothing, did_step, meets, no_meeting, not_enabled}
use Rattle.rgo_region_interpreter.proofs.worlds.World.meet_both.Goals as goal

pub returns-in_default : goal.returns-in_default
returns-in_default c = record {
  meets = (
    refl,
    λ s between. no_meeting c.args.self.now s c.args.receiver c.args.sender between (inl c.in_default.ensures),
  );
}

pub returns-in_default-next : goal.returns-in_default-next
returns-in_default-next c = record {
  meets = (
    refl,
    λ s between. no_meeting c.args.self.now s c.args.receiver c.args.sender between (inr c.in_default-next.ensures),
  );
}

pub returns-in-NotEnabled : goal.returns-in-NotEnabled
returns-in-NotEnabled c =
    let w = c.args.self.now in
    let pick = Meet c.args.receiver c.args.sender in
    let x = did_nothing c.in_ok-step.field-0 w.state c.step.new.state
    (tac_step c.machine-machine.result.code.now w.state pick) c.in-NotEnabled.is c.in_ok-step.ensures in
    record {
      meets = (
        (λ i. record w { state = x.1 i }),
        λ s between. not_enabled w s c.args.receiver c.args.sender between
            (ap (λ code. tac_step code w.state pick) (sym c.machine-machine.ensures) ∙ x.0),
      );
    }

pub returns-in-Advanced : goal.returns-in-Advanced
returns-in-Advanced c =
    let w = c.args.self.now in
    let pick = Meet c.args.receiver c.args.sender in
    let x = did_step c.in_ok-step.field-0 w.state c.step.new.state
    (tac_step c.machine-machine.result.code.now w.state pick) c.in-Advanced.is c.in_ok-step.ensures in
    record {
      meets = λ s between. meets w (record w { state = c.step.new.state }) s
          c.args.receiver c.args.sender between
          (ap (λ code. tac_step code w.state pick) (sym c.machine-machine.ensures) ∙ x) refl c.in-Some.receives c.in-Some-next.sends c.in-Some.ensures c.in-Some-next.ensures
          c.removes-received.result.now c.removes-sent.result.now c.removes-received.ensures c.removes-sent.ensures
          c.settle_both.new.self c.settle_both.ensures.settled;
    }
