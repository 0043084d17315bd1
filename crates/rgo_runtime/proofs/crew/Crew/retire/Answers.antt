-- By `one_out` the queue is, in some order, the goroutine at `place` and those that are left. What the caller requires of it is moved along
-- the equation of the view.
use Rattle.std.proofs.Common.{◌∙◌, ap, arith, length, slice_index_or}
use Rattle.rgo_runtime.proofs.crews.Moving.{crew_retired, one_out, retired_kept}
use Rattle.rgo_runtime.proofs.crew.Crew.retire.Goals as goal

pub retire-requires-clause-gathered : goal.retire-requires-clause-gathered
retire-requires-clause-gathered c =
    let t = c.swap_remove-turn.result in
    let at = c.swap_remove-turn.ensures.value ∙ ap (λ x. slice_index_or x.ready c.args.place t) c.self.view_is in
    ap (λ go. go.prints.items) c.into_goroutine-goroutine.ensures.same ∙ (c.requires.empty t at).0

pub retire-requires-clause-adopted : goal.retire-requires-clause-adopted
retire-requires-clause-adopted c =
    let t = c.swap_remove-turn.result in
    let at = c.swap_remove-turn.ensures.value ∙ ap (λ x. slice_index_or x.ready c.args.place t) c.self.view_is in
    ap (λ go. go.children.items) c.into_goroutine-goroutine.ensures.same ∙ (c.requires.empty t at).1

pub invariant_of-self : goal.invariant_of-self
invariant_of-self c =
    let taken = one_out c.self.inside.ready.items c.swap_remove-turn.new.self.items c.args.place c.swap_remove-turn.result
    (omega (arith, c.requires.place, ap (λ x. length x.ready) c.self.view_is)) c.swap_remove-turn.ensures.value c.swap_remove-turn.ensures.items in
    let t = c.swap_remove-turn.result in
    let at = c.swap_remove-turn.ensures.value ∙ ap (λ x. slice_index_or x.ready c.args.place t) c.self.view_is in
    crew_retired _ c.swap_remove-turn.new.self.items c.swap_remove-turn.result c.retire.new.seat.table_id c.retire.new.seat.me
    c.retire.new.shares c.retire.new.first taken c.self.invariant c.retire.ensures.own.0 c.retire.ensures.places c.retire.ensures.retired c.into_goroutine-goroutine.result
    c.into_goroutine-goroutine.ensures.same (c.requires.ended t at) c.retire.ensures.records

pub returns-clause-kept : goal.returns-clause-kept
returns-clause-kept c =
    let taken = one_out c.self.inside.ready.items c.swap_remove-turn.new.self.items c.args.place c.swap_remove-turn.result
    (omega (arith, c.requires.place, ap (λ x. length x.ready) c.self.view_is)) c.swap_remove-turn.ensures.value c.swap_remove-turn.ensures.items in
    retired_kept _ c.swap_remove-turn.new.self.items c.swap_remove-turn.result c.retire.new.seat.table_id c.retire.new.seat.me
    c.retire.new.shares c.retire.new.first taken c.self.invariant c.args.self.now c.self.view_is c.into_goroutine-goroutine.result
    c.into_goroutine-goroutine.ensures.same c.retire.ensures.kept
