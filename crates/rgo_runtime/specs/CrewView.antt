-- The view of a `Crew`, as a function of its fields. It is apart from `specs/Crew.antt`, since it needs the fields of the Rust type, and
-- loop invariants, which speak of fields, use it to say the same as the clauses.
use Rattle.rgo_runtime.specs.Crew.{Crew}
use Rattle.rgo_runtime.specs.Parking.{all_parked}
use Rattle.rgo_runtime.specs.declared.crew.Crew.TheInside.{Inside}

abbrev pub crew_view : Inside → Crew
crew_view c = record {
  run = c.run.now;
  table = c.seat.table_id;
  me = c.seat.me;
  ready = c.ready.items;
  parked = all_parked c.parked;
  born = c.born.items;
  waiting = c.prints.waiting;
  next = c.prints.next;
  shares = c.shares;
  first = c.first;
}
