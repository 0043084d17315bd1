use Rattle.std.proofs.Common.{◌∙◌, ◌<◌, ◌+◌, Option, Vec, ap, arith, drop, length, refl, sym}
use Rattle.rgo_holding.specs.declared.keys.Key.{Key}
use Rattle.rgo_holding.specs.Passing.{key_for, or_else}
use Rattle.rgo_holding.specs.Tables.{key_in}
use Rattle.rgo_holding.proofs.Passages.{for_end, not_named, or_none_same, step_first, step_other}
use Rattle.rgo_holding.proofs.calls.pass.Goals as goal
use Rattle.rgo_holding.proofs.calls.pass.Goals.{in-Name+in_ok-bind_first-in-Name, in-NoClass}

pub loop-i-preserved : goal.loop-i-preserved
loop-i-preserved c = λ k.
    let fs = c.args.formals.now in
    let ks = c.args.passed.now in
    let i = c.loop-i.i in
    let keys = c.loop-i.keys.items in
    let a : i < length fs = omega (arith, c.loop-i-test.true, c.min-i-end.ensures) in
    let b : i < length ks = omega (arith, c.loop-i-test.true, c.min-i-end.ensures) in
    let kept = λ (v : Vec (Option Key) _). or_else (key_in v.items k) (key_for (drop (i + 1) fs) (drop (i + 1) ks) k) in
    elim c.match-formals-i.branch [
      | in-Name+in_ok-bind_first-in-Name w ↦
          ap kept w.keys-is
          ∙ step_first fs ks i w.in-Name.name k keys w.bind_first.new.keys.items _ a b w.in-Name.is refl
          (w.in_ok-bind_first-in-Name.ensures k)
          ∙ c.loop-i.invariant k
      | in-NoClass w ↦
          ap kept w.keys-is ∙ ap (or_else (key_in keys k)) (step_other fs ks i k a b (not_named _ w.in-NoClass.is)) ∙ c.loop-i.invariant k
    ]

pub returns : goal.returns
returns c = λ k.
    let fs = c.args.formals.now in
    let ks = c.args.passed.now in
    let keys = c.loop-i.keys.items in
    sym (or_none_same (key_in keys k))
    ∙ ap (or_else (key_in keys k))
    (sym (for_end fs ks c.loop-i.i k (λ a b. omega (arith, a, b, c.loop-i-test.false, c.min-i-end.ensures))))
    ∙ c.loop-i.invariant k
