use Rattle.std.proofs.Common.{ap, arith, sym, ◌∙◌}
use Rattle.rgo_acts.specs.Body.declared.bodies.Side.TheVariants.{AtRest}
use Rattle.rgo_acts.specs.declared.actors.Actor.{Actor}
use Rattle.rgo_goroutine.proofs.Joining.{acts_then}
use Rattle.rgo_goroutine.proofs.Resting.{put_goes, put_on, put_same, put_with}
use Rattle.rgo_goroutine.proofs.goroutine.Goroutine.attend_all.Goals as goal

pub returns-then-tries_again-clause-acts : goal.returns-then-tries_again-clause-acts
returns-then-tries_again-clause-acts g c =
    let again = c.tries_again.ensures.yes c.if-tries_again.true in
    put_on c.args.run.now c.args.self.now c.tries_again.new.actor c.args.turning.now c.requires.goes
    (put_same c.args.run.now c.args.self.now.actor c.tries_again.new.actor again.1 c.requires.goes.stands) (omega (arith, c.requires.noted))

pub returns-then-tries_again-clause-done : goal.returns-then-tries_again-clause-done
returns-then-tries_again-clause-done g c e =
    let again = c.tries_again.ensures.yes c.if-tries_again.true in
    record {
      empty = again.0.queue;
      expanded = ap (λ (a : Actor). a.body.is_expanded) again.1;
      none = λ at offers. c.requires.none at (sym (ap (λ (a : Actor). a.body.side) again.1) ∙ offers);
    }

pub attend_each-requires-clause-goes : goal.attend_each-requires-clause-goes
attend_each-requires-clause-goes g c =
    let a = c.args.self.now.actor in
    put_goes c.args.run.now c.args.self.now c.tries_again.new.actor c.args.turning.now c.requires.goes
    (put_with c.args.run.now a c.tries_again.new.actor (record a.body { side = AtRest })
    (c.tries_again.ensures.no c.if-tries_again.false) c.tries_again.ensures.acted.stands)

pub attend_each-requires-clause-rests : goal.attend_each-requires-clause-rests
attend_each-requires-clause-rests g c = ap (λ (a : Actor). a.body.side) (c.tries_again.ensures.no c.if-tries_again.false)

pub returns-clause-acts : goal.returns-clause-acts
returns-clause-acts g c =
    let go = c.args.self.now in
    let a = go.actor in
    let mid = record go { actor = c.tries_again.new.actor } in
    acts_then c.args.run.now go mid c.attend_each.new.self c.args.turning.now c.args.turning.now c.attend_each.new.turning
    c.attend_each.result
    (put_on c.args.run.now go c.tries_again.new.actor c.args.turning.now c.requires.goes
    (put_with c.args.run.now a c.tries_again.new.actor (record a.body { side = AtRest })
    (c.tries_again.ensures.no c.if-tries_again.false) c.tries_again.ensures.acted.stands) (omega (arith, c.requires.noted)))
    c.attend_each.ensures.acts

pub returns-clause-done : goal.returns-clause-done
returns-clause-done g c e =
    let all = c.attend_each.ensures.done e in
    record {
      empty = all.empty;
      expanded = all.expanded ∙ ap (λ (a : Actor). a.body.is_expanded) (c.tries_again.ensures.no c.if-tries_again.false);
      none = all.none;
    }
