use Rattle.std.proofs.Common.{ap, arith, sym, ◌∙◌}
use Rattle.rgo_goroutine.specs.declared.turning.Turning.{Turning}
use Rattle.rgo_goroutine.proofs.Attending.{at_rest_offers}
use Rattle.rgo_goroutine.proofs.Executing.{executed, few_behind, few_more, free_of, told, told_goes}
use Rattle.rgo_goroutine.proofs.goroutine.Goroutine.execute.Goals as goal

pub returns-in-Tried : goal.returns-in-Tried
returns-in-Tried c = record {
  acts = told c.args.run.now c.args.self.now c.args.turning.now c.move_on.new.self c.move_on.ensures c.requires.goes c.requires.noted;
  none = c.requires.none;
  noted = ap (λ (t : Turning). t.changed) c.move_on.ensures;
  fewer = let e = ap (λ (t : Turning). t.left) c.move_on.ensures in omega (arith, e);
}

pub execute-done-requires-clause-stands : goal.execute-done-requires-clause-stands
execute-done-requires-clause-stands c =
    let goes =
    told_goes c.args.run.now c.args.self.now c.args.turning.now c.move_on.new.self c.move_on.ensures c.requires.goes c.requires.noted in
    (c.come_near.ensures c.move_on.new.self.left goes).goes.stands

pub execute-done-requires-clause-free : goal.execute-done-requires-clause-free
execute-done-requires-clause-free c =
    let goes =
    told_goes c.args.run.now c.args.self.now c.args.turning.now c.move_on.new.self c.move_on.ensures c.requires.goes c.requires.noted in
    free_of c.args.self.now.actor.body c.come_near.new.self.actor.body (c.come_near.ensures c.move_on.new.self.left goes).body
    (record { empty = c.requires.empty; not_yet = c.requires.not_yet; none = c.requires.none }) (sym c.side.ensures ∙ c.in-AtRest.is)

pub execute-done-requires-clause-count : goal.execute-done-requires-clause-count
execute-done-requires-clause-count c =
    let goes =
    told_goes c.args.run.now c.args.self.now c.args.turning.now c.move_on.new.self c.move_on.ensures c.requires.goes c.requires.noted in
    few_more c.args.run.now c.come_near.new.self c.move_on.new.self.left (c.come_near.ensures c.move_on.new.self.left goes).goes

pub execute-done-requires-clause-behind : goal.execute-done-requires-clause-behind
execute-done-requires-clause-behind c =
    let goes =
    told_goes c.args.run.now c.args.self.now c.args.turning.now c.move_on.new.self c.move_on.ensures c.requires.goes c.requires.noted in
    few_behind c.args.run.now c.args.self.now c.come_near.new.self c.move_on.new.self.left
    (c.come_near.ensures c.move_on.new.self.left goes)

pub returns-clause-acts : goal.returns-clause-acts
returns-clause-acts c =
    let goes =
    told_goes c.args.run.now c.args.self.now c.args.turning.now c.move_on.new.self c.move_on.ensures c.requires.goes c.requires.noted in
    executed c.args.run.now c.args.self.now c.args.turning.now c.move_on.new.self c.move_on.ensures c.requires.goes c.requires.noted
    c.come_near.new.self c.execute-done.new.actor c.count.new.self c.execute-done.result
    (c.come_near.ensures c.move_on.new.self.left goes) c.execute-done.ensures.acted c.execute-done.ensures.within c.count.ensures

pub returns-clause-none : goal.returns-clause-none
returns-clause-none c = at_rest_offers c.execute-done.new.actor.body.side c.execute-done.ensures.rests
