-- Where words of a type may point.
use Rattle.std.proofs.Common.{refl, sym, arith, true≢false}
use Rattle.rgo_core.specs.examples.Bounds.{BoundExamples}

pub examples : BoundExamples
examples = record {
  pointer = refl;
  no_fields = refl;
  slice = refl;
  channel = refl;
  number = refl;
  spread_struct = refl;
  whole_struct = refl;
  spread_slice = λ limits. refl;
  whole_slice = λ limits. refl;
  spread_channel = refl;
  all = λ limits. omega arith;
  too_many = λ limits l. omega (arith, l);
  last = λ limits at like e. omega (arith, e);
  beyond = λ limits p. let l = p 7 refl refl in omega (arith, l);
  nil = λ T ty at like e. absurd (omega (arith, e));
  int = λ T word at like e. absurd (true≢false (sym like));
}
