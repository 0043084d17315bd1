use Rattle.std.proofs.Common.{ap, arith, sym, ◌∙◌}
use Rattle.rgo_sound.specs.Machine.declared.limits.Shortage.TheVariants.{Regions}
use Rattle.rgo_acts.specs.Body.declared.bodies.Body.{Body}
use Rattle.rgo_goroutine.specs.declared.turning.TableTurnEnd.TheVariants as stop
use Rattle.rgo_goroutine.proofs.Concluding.{only_told, told_as}
use Rattle.rgo_goroutine.proofs.Dispatching.{near_goes_on, near_halts, near_rests, near_stops}
use Rattle.rgo_goroutine.proofs.goroutine.Goroutine.attend.Goals as goal

pub returns-then-not-can_count-clause-acts : goal.returns-then-not-can_count-clause-acts
returns-then-not-can_count-clause-acts g c =
    (near_halts c.args.run.now c.args.self.now c.come_near.new.self c.args.turning.now
    (c.come_near.ensures c.args.turning.now.left c.requires.goes) c.requires.noted).acts

pub attend-requires : goal.attend-requires
attend-requires g c =
    let near = c.come_near.ensures c.args.turning.now.left c.requires.goes in
    let can = c.can_count.ensures.0 c.if-not-can_count.false in
    record {
      first = (
        c.requires.first.0,
        record {
          stands = near.goes.stands;
          others = c.requires.first.1;
          owes = ap (λ (b : Body). b.queue.duties) near.body ∙ c.requires.first.2;
          rests = ap (λ (b : Body). b.side) near.body ∙ c.requires.rests;
          can = can.can;
          returned = can.returned;
          behind = (let n = near.near in omega (arith, n));
        },
      );
    }

pub returns-in-Done-clause-acts : goal.returns-in-Done-clause-acts
returns-in-Done-clause-acts g c =
    near_goes_on c.args.run.now c.args.self.now c.come_near.new.self c.attend.new.actor c.args.turning.now c.move_on.new.self
    (c.come_near.ensures c.args.turning.now.left c.requires.goes) c.requires.noted c.in-Done.ensures.acted
    (only_told c.args.turning.now c.move_on.new.self c.move_on.ensures)

pub returns-in-Done-clause-same : goal.returns-in-Done-clause-same
returns-in-Done-clause-same g c = told_as c.args.turning.now c.move_on.new.self c.move_on.ensures

pub returns-in-Done-clause-done : goal.returns-in-Done-clause-done
returns-in-Done-clause-done g c e =
    let near = c.come_near.ensures c.args.turning.now.left c.requires.goes in
    let done = c.in-Done.ensures.done in
    record {
      first = done.first;
      queue = sym (ap (λ (b : Body). b.queue.duties) near.body) ∙ done.queue;
      expanded = ap (λ (b : Body). b.is_expanded) done.rest ∙ ap (λ (b : Body). b.is_expanded) near.body;
      rests = ap (λ (b : Body). b.side) done.rest ∙ (ap (λ (b : Body). b.side) near.body ∙ c.requires.rests);
    }

pub returns-in-Short-clause-acts : goal.returns-in-Short-clause-acts
returns-in-Short-clause-acts g c =
    let short = c.in-Short.ensures in
    near_rests c.args.run.now c.args.self.now c.come_near.new.self c.attend.new.actor c.args.turning.now
    (c.come_near.ensures c.args.turning.now.left c.requires.goes) c.requires.noted (stop.Short Regions) short.waited.acted short.unmoved
    (short.waited.acted.went.first, short.lacks)

pub returns-in-NoMemory-clause-acts : goal.returns-in-NoMemory-clause-acts
returns-in-NoMemory-clause-acts g c =
    let acted = c.in-NoMemory.ensures.acted in
    near_stops c.args.run.now c.args.self.now c.come_near.new.self c.attend.new.actor c.args.turning.now c.move_on-in-NoMemory.new.self
    (c.come_near.ensures c.args.turning.now.left c.requires.goes) c.requires.noted stop.NoMemory acted
    (only_told c.args.turning.now c.move_on-in-NoMemory.new.self c.move_on-in-NoMemory.ensures) acted.went.first

pub returns-in-NoMemory-clause-same : goal.returns-in-NoMemory-clause-same
returns-in-NoMemory-clause-same g c = told_as c.args.turning.now c.move_on-in-NoMemory.new.self c.move_on-in-NoMemory.ensures
