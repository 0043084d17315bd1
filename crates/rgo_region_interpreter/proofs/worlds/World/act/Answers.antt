use Rattle.std.proofs.Common.{ap, sym, subst, ◌∙◌}
use Rattle.rgo_region_interpreter.specs.Works.{TakesStep}
use Rattle.rgo_region_interpreter.proofs.acts.Parts.{made_next, makes_then, making_then, never_newest, ready_then, removes_next, removes_then, turn_halted}
use Rattle.rgo_region_interpreter.proofs.worlds.World.act.Goals as goal

pub act_only-requires-clause-makes : goal.act_only-requires-clause-makes
act_only-requires-clause-makes c = record {
  at = c.requires.next;
  is = made_next c.args.self.now c.args.g c.args.next.now c.requires.next c.in-Some.frame.now c.structs.result.now
      c.next_object.result c.in-Some.ensures (c.structs.ensures ∙ ap (λ (t : _). t.structs) c.tac.ensures)
      c.next_object.ensures ∙ c.in_default-next_object.is;
}

pub act_only-requires-clause-removes : goal.act_only-requires-clause-removes
act_only-requires-clause-removes c = removes_next c.args.self.now c.args.g c.args.next.now c.in-Some.frame.now
    c.removes_behind-removes.result.now c.in-Some.ensures c.removes_behind-removes.ensures

pub make_room-requires : goal.make_room-requires
make_room-requires c = record {
  at = c.requires.next;
  is = made_next c.args.self.now c.args.g c.args.next.now c.requires.next c.in-Some.frame.now c.structs.result.now
      c.next_object.result c.in-Some.ensures (c.structs.ensures ∙ ap (λ (t : _). t.structs) c.tac.ensures)
      c.next_object.ensures ∙ c.in-Some-next_object.is;
}

pub act_making-requires-clause-makes : goal.act_making-requires-clause-makes
act_making-requires-clause-makes c = makes_then c.args.self.now c.make_room.new.self c.args.limits c.args.g
    c.args.next.now c.in-Some-next_object.making c.in-Ok.ensures c.requires.ready

pub act_making-requires-clause-removes : goal.act_making-requires-clause-removes
act_making-requires-clause-removes c = removes_then c.args.self.now c.make_room.new.self c.args.limits c.args.g
    c.args.next.now c.in-Some-next_object.making c.in-Ok.ensures c.requires.ready c.in-Some.frame.now
    c.removes_behind-removes.result.now c.in-Some.ensures c.removes_behind-removes.ensures

pub returns-in-Ok : goal.returns-in-Ok
returns-in-Ok c = record {
  takes = making_then c.args.self.now c.make_room.new.self c.args.limits c.args.g c.args.next.now
      c.in-Some-next_object.making c.in-Ok.ensures c.act_making.new.self c.act_making.result c.act_making.ensures.takes;
}

pub returns-in-Err : goal.returns-in-Err
returns-in-Err c = record {
  takes = λ s ready within.
      subst (λ turned. TakesStep c.args.self.now c.make_room.new.self c.args.limits s c.args.g 1 turned)
      (sym c.turned.ensures)
      (turn_halted c.in-Err.halt c.args.self.now c.make_room.new.self s c.args.limits c.args.g ready c.in-Err.ensures);
}

pub returns-in_default : goal.returns-in_default
returns-in_default c = record {
  takes = λ s ready within. absurd (never_newest c.args.self.now c.args.g c.args.next.now c.requires.next c.in_default.ensures);
}

pub act_only-requires-clause-kind : goal.act_only-requires-clause-kind
act_only-requires-clause-kind c = c.requires.kind

pub act_only-requires-clause-ready : goal.act_only-requires-clause-ready
act_only-requires-clause-ready c = c.requires.ready

pub returns-in_default-next_object : goal.returns-in_default-next_object
returns-in_default-next_object c = record { takes = c.act_only.ensures.takes }

pub act_making-requires-clause-kind : goal.act_making-requires-clause-kind
act_making-requires-clause-kind c = c.requires.kind

pub act_making-requires-clause-ready : goal.act_making-requires-clause-ready
act_making-requires-clause-ready c = ready_then c.args.self.now c.make_room.new.self c.args.limits c.args.g
    c.args.next.now c.in-Some-next_object.making c.in-Ok.ensures c.requires.ready
