use Rattle.std.proofs.Common.{◌≡◌, ◌∷◌, List, [], Option, refl, subst, MatchOption}
use Rattle.rgo_sound.specs.RegionMachine.States.{Duty}
use Rattle.rgo_body.specs.Queues.{duty_of}
use Rattle.rgo_body.specs.declared.queues.Duty.{Duty as DutyOf}
use Rattle.rgo_body.proofs.Attending.{has_done}
use Rattle.rgo_body.proofs.Removing.{leaves_after, no_duty}
use Rattle.rgo_body.proofs.bodies.Body.left.Goals as goal

pub returns-clause-shows : goal.returns-clause-shows
returns-clause-shows c = leaves_after c.args.program.now c.args.self.now _ c.args.key c.requires.leaves c.requires.first.0 c.requires.first.1.0 _
    c.requires.first.1.1 (c.pop.ensures _ _ c.requires.first.1.1) refl refl c.in-Some.duty
    (subst (λ (o : Option DutyOf). MatchOption o (c.args.self.now.queue.duties ≡ [])
    (λ f. (others : List Duty) × (c.args.self.now.queue.duties ≡ duty_of f ∷ others))) c.in-Some.is c.first.ensures)
    c.forget.ensures.forgets c.forget.ensures.regions c.leave.ensures

pub returns-clause-done : goal.returns-clause-done
returns-clause-done c = has_done c.args.program.now c.args.self.now _ c.requires.first.0 c.requires.first.1.0 c.requires.first.1.1
    (c.pop.ensures _ _ c.requires.first.1.1) refl

pub returns-in_default-clause-shows : goal.returns-in_default-clause-shows
returns-in_default-clause-shows c = absurd (no_duty c.args.self.now c.requires.first.0 c.requires.first.1.0 c.requires.first.1.1
    (subst (λ (o : Option DutyOf). MatchOption o (c.args.self.now.queue.duties ≡ [])
    (λ f. (others : List Duty) × (c.args.self.now.queue.duties ≡ duty_of f ∷ others))) c.in_default.is c.first.ensures))

pub returns-in_default-clause-done : goal.returns-in_default-clause-done
returns-in_default-clause-done c = absurd (no_duty c.args.self.now c.requires.first.0 c.requires.first.1.0 c.requires.first.1.1
    (subst (λ (o : Option DutyOf). MatchOption o (c.args.self.now.queue.duties ≡ [])
    (λ f. (others : List Duty) × (c.args.self.now.queue.duties ≡ duty_of f ∷ others))) c.in_default.is c.first.ensures))

pub returns-in_default-clause-counts : goal.returns-in_default-clause-counts
returns-in_default-clause-counts c = absurd (no_duty c.args.self.now c.requires.first.0 c.requires.first.1.0 c.requires.first.1.1
    (subst (λ (o : Option DutyOf). MatchOption o (c.args.self.now.queue.duties ≡ [])
    (λ f. (others : List Duty) × (c.args.self.now.queue.duties ≡ duty_of f ∷ others))) c.in_default.is c.first.ensures))
