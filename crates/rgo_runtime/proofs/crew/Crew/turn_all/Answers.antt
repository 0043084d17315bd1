use Rattle.rgo_runtime.proofs.crews.Steps.{round_crew, round_ends, round_kept}
use Rattle.rgo_runtime.proofs.crew.Crew.turn_all.Goals as goal

pub invariant_of-self : goal.invariant_of-self
invariant_of-self g c =
    let turned = round_ends c.self.inside.ready c.round.new.tasks c.round.result c.round.ensures.ok c.round.ensures.err in
    record {
      seat = c.self.invariant.seat;
      pages = c.self.invariant.pages;
      ready = round_crew _ _ _ _ turned c.self.invariant.ready;
      parked = c.self.invariant.parked;
      born = c.self.invariant.born;
      retired = c.self.invariant.retired;
      over = c.self.invariant.over;
    }

pub returns-clause-kept : goal.returns-clause-kept
returns-clause-kept g c =
    let turned = round_ends c.self.inside.ready c.round.new.tasks c.round.result c.round.ensures.ok c.round.ensures.err in
    round_kept _ _ _ c.self.view_is turned
