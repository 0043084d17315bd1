-- Examples of turns that are as their definitions say, and of some that are not.
use Rattle.std.proofs.Common.{◌≡◌, Some, None, refl, ap, sym, ◌∙◌, arith}
use Rattle.rgo_runtime.specs.Turns.{Turn, TurningExamples}

pub turning : TurningExamples
turning = record {
  has_turned = λ before go turned has number. record { turned = turned; rest = refl; has = has; number = number; says = refl };
  silent = λ before after went none k. absurd (let e : None ≡ Some k.turned = sym none ∙ ap (λ (t : Turn). t.turned) k.rest in cc e);
  renumbered = λ before after went one two k. absurd (let e = k.number in omega (arith, e, one, two));
  goes_on = λ before after went one k. absurd (let e : after.slice ≡ 0 = ap (λ (t : Turn). t.slice) k.rest in omega (arith, e, one));
  too_many = λ t many k. absurd (let l = k.few in omega (arith, l, many));
}
