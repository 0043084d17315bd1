-- A turn that takes one step after another.
use Rattle.std.proofs.Common.{◌≡◌, ◌+◌, ◌<◌, ℕ, ap, arith, subst}
use Rattle.rgo_machine.specs.declared.limits.Limits.{Limits}
use Rattle.rgo_interpreter.specs.declared.turns.TurnEnd.TheVariants as stop
use Rattle.rgo_interpreter.specs.declared.turns.Turned.{Turned}
use Rattle.rgo_machine.specs.Machines.{Machine, State}
use Rattle.rgo_interpreter.specs.Turns.{IsOver, Turns}
use Rattle.rgo_interpreter.proofs.Advancing.{and_then}

-- k steps, and then a turn of at most one
module _ {F : Type 0} (machine : Machine F) (limits : Limits) (s t u : State F) (g k : ℕ)
    (first : Turns machine limits s t g k (record { steps = k; stop = stop.Spent })) (done : Turned)
    (second : Turns machine limits t u g 1 done) where
  one_step : done.stop ≡ stop.Spent → done.steps ≡ 1
  one_step spent = (subst (λ why. IsOver machine limits u g 1 done.steps why) spent second.over).1

  -- it is over for lack of steps, too
  pub goes_on : done.stop ≡ stop.Spent
      → Turns machine limits s u g (k + 1) (record { steps = k + 1; stop = stop.Spent })
  goes_on spent =
      let more : k + done.steps ≡ k + 1 = ap (λ n. k + n) (one_step spent) in
      subst (λ turned. Turns machine limits s u g (k + 1) turned) (λ i. record { steps = more i; stop = spent i })
      (and_then machine limits s t u g k first 1 done second (k + 1) (omega (arith, more)) (λ e. more))

  -- it is over for another reason
  pub is_over : (at_most : ℕ) → k < at_most → (done.stop ≡ stop.Spent → ⊥)
      → Turns machine limits s u g at_most (record { steps = k + done.steps; stop = done.stop })
  is_over at_most left why =
      let within = second.within in
      and_then machine limits s t u g k first 1 done second at_most (omega (arith, left, within))
      (λ spent. absurd (why spent))
