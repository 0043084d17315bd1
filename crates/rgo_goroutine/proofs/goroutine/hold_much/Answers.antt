use Rattle.std.proofs.Common.{◌≡◌, List, [], ◌∷◌, ap, arith, length, refl}
use Rattle.rgo_acts.specs.declared.prints.Print.{Print}
use Rattle.rgo_goroutine.specs.Goroutines.{printed_byte_count}
use Rattle.rgo_goroutine.proofs.goroutine.hold_much.Goals as goal

none_in : (ps : List Print) → length ps ≡ 0 → printed_byte_count ps ≡ 0
none_in [] none = refl
none_in (p ∷ ps) none = absurd (omega (arith, none))

pub loop-first-init : goal.loop-first-init
loop-first-init c = record { some = omega arith; rest = omega arith }

pub loop-first-preserved : goal.loop-first-preserved
loop-first-preserved c =
    let rest = c.loop-first.invariant.rest in
    let split = ap printed_byte_count c.in-Some.ensures.cases.0 in
    let bytes = c.len-bytes.ensures in
    let less = c.if-bytes-left.false in
    record {
      some = omega (arith, less);
      rest = omega (arith, rest, split, bytes, less);
    }

pub returns-then-bytes-left : goal.returns-then-bytes-left
returns-then-bytes-left c =
    let rest = c.loop-first.invariant.rest in
    let split = ap printed_byte_count c.in-Some.ensures.cases.0 in
    let bytes = c.len-bytes.ensures in
    let more = c.if-bytes-left.true in
    (λ yes. omega (arith, rest, split, bytes, more), λ much. refl)

pub returns : goal.returns
returns c =
    let rest = c.loop-first.invariant.rest in
    let some = c.loop-first.invariant.some in
    let none = none_in c.loop-first.rest.now c.in_default.ensures.cases in
    (λ yes. absurd cc, λ much. absurd (omega (arith, rest, some, none, much)))
