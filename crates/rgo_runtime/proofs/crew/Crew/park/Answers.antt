-- Without memory the goroutine comes back to the queue, so that both ways are permutations of the run queue and the parked ones together;
-- the rest follows from that (`crew_turns`, `turns_kept`).
use Rattle.std.proofs.Common.{◌++◌, ◌∙◌, ◌∷◌, [], ap, arith, length, subst, IsPermutation}
use Rattle.rgo_runtime.specs.Parking.{all_parked, parked_values}
use Rattle.rgo_runtime.proofs.crews.Moving.{crew_turns, one_back, one_out, one_parked, turns_kept}
use Rattle.rgo_runtime.proofs.crews.Parked.{parks_one}
use Rattle.rgo_runtime.proofs.crew.Crew.park.Goals as goal

pub invariant_of-self : goal.invariant_of-self
invariant_of-self c =
    let taken = one_out c.self.inside.ready.items c.swap_remove-turn.new.self.items c.args.place c.swap_remove-turn.result
    (omega (arith, c.requires, ap (λ x. length x.ready) c.self.view_is)) c.swap_remove-turn.ensures.value c.swap_remove-turn.ensures.items in
    let turn = c.swap_remove-turn.result in
    let all = all_parked c.self.inside.parked in
    let parked = subst (λ t. IsPermutation (parked_values (all_parked c.park.new.self)) (t ∷ parked_values all)) c.begin_waiting-is_oldest.ensures
    (parks_one c.args.at c.args.operation c.begin_waiting-is_oldest.result c.begin_waiting-is_oldest.new.self c.self.inside.parked c.park.new.self
    c.in-Ok.ensures.parked) in
    let same = one_parked c.self.inside.ready.items c.swap_remove-turn.new.self.items all (all_parked c.park.new.self) turn taken parked in
    crew_turns _ c.swap_remove-turn.new.self.items (all_parked c.park.new.self) same c.self.invariant

pub invariant_of-self-in-Err : goal.invariant_of-self-in-Err
invariant_of-self-in-Err c =
    let left = c.swap_remove-turn.new.self.items in
    let turn = c.swap_remove-turn.result in
    let taken = one_out c.self.inside.ready.items left c.args.place turn
    (omega (arith, c.requires, ap (λ x. length x.ready) c.self.view_is)) c.swap_remove-turn.ensures.value c.swap_remove-turn.ensures.items in
    let back = c.push_reserved.ensures.items ∙ ap (λ t. left ++ t ∷ []) (c.in-Err.ensures.back ∙ c.begin_waiting-is_oldest.ensures) in
    let same = one_back c.self.inside.ready.items c.push_reserved.new.self.items (all_parked c.self.inside.parked) (all_parked c.park.new.self)
    turn left taken back (ap all_parked c.in-Err.ensures.same) in
    crew_turns _ c.push_reserved.new.self.items (all_parked c.park.new.self) same c.self.invariant

pub returns-in-Ok-clause-kept : goal.returns-in-Ok-clause-kept
returns-in-Ok-clause-kept c =
    let taken = one_out c.self.inside.ready.items c.swap_remove-turn.new.self.items c.args.place c.swap_remove-turn.result
    (omega (arith, c.requires, ap (λ x. length x.ready) c.self.view_is)) c.swap_remove-turn.ensures.value c.swap_remove-turn.ensures.items in
    let turn = c.swap_remove-turn.result in
    let all = all_parked c.self.inside.parked in
    let parked = subst (λ t. IsPermutation (parked_values (all_parked c.park.new.self)) (t ∷ parked_values all)) c.begin_waiting-is_oldest.ensures
    (parks_one c.args.at c.args.operation c.begin_waiting-is_oldest.result c.begin_waiting-is_oldest.new.self c.self.inside.parked c.park.new.self
    c.in-Ok.ensures.parked) in
    let same = one_parked c.self.inside.ready.items c.swap_remove-turn.new.self.items all (all_parked c.park.new.self) turn taken parked in
    turns_kept _ c.swap_remove-turn.new.self.items (all_parked c.park.new.self) same c.args.self.now c.self.view_is

pub returns-in-Err-clause-kept : goal.returns-in-Err-clause-kept
returns-in-Err-clause-kept c =
    let left = c.swap_remove-turn.new.self.items in
    let turn = c.swap_remove-turn.result in
    let taken = one_out c.self.inside.ready.items left c.args.place turn
    (omega (arith, c.requires, ap (λ x. length x.ready) c.self.view_is)) c.swap_remove-turn.ensures.value c.swap_remove-turn.ensures.items in
    let back = c.push_reserved.ensures.items ∙ ap (λ t. left ++ t ∷ []) (c.in-Err.ensures.back ∙ c.begin_waiting-is_oldest.ensures) in
    let same = one_back c.self.inside.ready.items c.push_reserved.new.self.items (all_parked c.self.inside.parked) (all_parked c.park.new.self)
    turn left taken back (ap all_parked c.in-Err.ensures.same) in
    turns_kept _ c.push_reserved.new.self.items (all_parked c.park.new.self) same c.args.self.now c.self.view_is
