use Rattle.std.proofs.Common.{ap, ⊎_elim}
use Rattle.rgo_tac.specs.Ops.{operation_of}
use Rattle.rgo_region_interpreter.proofs.worlds.World.perform.Goals as goal

pub call-requires : goal.call-requires
call-requires c = record {
  next = c.requires.next;
  calls = (c.in-Call.to, c.in-Call.from.now, ap operation_of c.in-Call.is);
  ready = c.requires.ready;
}

pub start-requires : goal.start-requires
start-requires c = record {
  next = c.requires.next;
  starts = (c.in-Go.from.now, ap operation_of c.in-Go.is);
  ready = c.requires.ready;
}

pub act-requires : goal.act-requires
act-requires c = record {
  next = c.requires.next;
  kind = ⊎_elim (λ e. rw e.3 tt) (λ r. ⊎_elim (λ e. rw e.2 tt) (λ r. ⊎_elim (λ e. rw e.1 tt) (λ e. rw e.3 tt) r) r)
      c.in-Do.is;
  ready = c.requires.ready;
}

pub give_back-requires : goal.give_back-requires
give_back-requires c = record {
  next = (c.args.next.now, c.requires.next, c.in-Return.field-0, ap operation_of c.in-Return.is);
  ready = c.requires.ready;
}

pub returns-in-Call : goal.returns-in-Call
returns-in-Call c = record { takes = c.call.ensures.takes }

pub returns-in-Go : goal.returns-in-Go
returns-in-Go c = record { takes = c.start.ensures.takes }

pub returns-in-Return : goal.returns-in-Return
returns-in-Return c = record { takes = c.give_back.ensures.takes }

pub returns-in-Do : goal.returns-in-Do
returns-in-Do c = record { takes = c.act.ensures.takes }
