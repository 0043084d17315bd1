use Rattle.std.proofs.Common.{length, sym, subst}
use Rattle.rgo_lower.specs.Lowered.{closing_op}
use Rattle.rgo_lower.specs.Emitted.{made_of, always, OpIsAdded}
use Rattle.rgo_lower.proofs.Growing.{ok_map}
use Rattle.rgo_lower.proofs.Labels.{fresh}
use Rattle.rgo_lower.proofs.Finished.{loop_closed}
use Rattle.rgo_lower.proofs.functions.close.Goals as goal

pub returns-in_ok-place-in-Some : goal.returns-in_ok-place-in-Some
returns-in_ok-place-in-Some c =
    let a = made_of c.args.b.now in
    let b = made_of c.label.new.self in
    let d = made_of c.place.new.self in
    let e = made_of c.line.new.self in
    let here = c.in_ok-here-in-Some.here in
    let label = fresh a b here c.in_ok-here-in-Some.ensures.0 c.in_ok-here-in-Some.ensures.1 in
    ok_map c.line.result _ _
    (λ h. subst (λ z. OpIsAdded a (always (closing_op z (length a.lines))) c.args.end e) (sym c.in-Some.is)
    (loop_closed a b d e here c.args.end label c.in_ok-place-in-Some.ensures h)) c.line.ensures
