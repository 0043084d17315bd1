use Rattle.std.proofs.Common.{◌≡◌, Contains, ap, subst, sym, ◌∙◌}
use Rattle.std.proofs.lemmas.List.Elements.{Contains-append_left, Contains-append_right}
use Rattle.rgo_round_robin.specs.Points.{listed_at_channel}
use Rattle.rgo_round_robin.specs.Turning.{operated_channel}
use Rattle.std.proofs.lemmas.Option.{same_Some}
use Rattle.rgo_round_robin.proofs.turns.wake.Goals as goal

pub returns-in_ok-extend_from_slice-clause-stay : goal.returns-in_ok-extend_from_slice-clause-stay
returns-in_ok-extend_from_slice-clause-stay c = λ h m.
    subst (λ l. Contains l h) (sym c.in_ok-extend_from_slice.ensures.items)
    (Contains-append_left _ _ h (c.in_ok-admit.ensures.stay h m))

pub returns-in_ok-extend_from_slice-clause-fresh : goal.returns-in_ok-extend_from_slice-clause-fresh
returns-in_ok-extend_from_slice-clause-fresh c = λ h past lt.
    subst (λ l. Contains l h) (sym c.in_ok-extend_from_slice.ensures.items)
    (Contains-append_left _ _ h (c.in_ok-admit.ensures.fresh h past lt))

pub returns-in_ok-extend_from_slice-clause-woken : goal.returns-in_ok-extend_from_slice-clause-woken
returns-in_ok-extend_from_slice-clause-woken c = λ n h is m.
    let here : c.in-Operated.channel ≡ n =
    same_Some c.in-Operated.channel n (ap operated_channel (sym c.in-Operated.is) ∙ is) in
    subst (λ l. Contains l h) (sym c.in_ok-extend_from_slice.ensures.items)
    (Contains-append_right _ _ h
    (subst (λ l. Contains l h) (sym (c.deref.ensures.value ∙ c.take_list-list.ensures.taken
    ∙ ap (listed_at_channel c.args.driver.now.waiting) here)) m))
