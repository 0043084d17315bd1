-- The examples, by computation of two local steps.
use Rattle.std.proofs.Common.{◌≡◌, ◌∙◌, ℕ, zero, suc, [], ◌∷◌, Some, None, ap, arith, refl, sym}
use Rattle.rgo_sound.specs.Machine.Limits.{deepest}
use Rattle.rgo_sound.specs.Machine.declared.limits.Limits.{Limits}
use Rattle.rgo_sound.specs.Machine.declared.limits.Sizes.{Sizes}
use Rattle.rgo_core.specs.Frames.steps.Quiet.{quiet}
use Rattle.rgo_core.specs.Frames.Records.{FramesRec as FrameRec}
use Rattle.rgo_core.specs.Records.{Record}
use Rattle.rgo_compact.specs.Examples.{adding_code}
use Rattle.rgo_compact.specs.Paths.{Path}
use Rattle.rgo_compact.specs.RunExamples.{adding_at}
use Rattle.rgo_settling.specs.Examples.{SettlingExamples, adding_record, small_setup}
use Rattle.rgo_settling.specs.Settling.{SettlesTo, advanced_record}
use Rattle.rgo_settling.proofs.Steps.{path_law}

first : (g : ℕ) → quiet adding_code g (adding_at 0 (7 ∷ 0 ∷ 0 ∷ [])) ≡ Some (adding_at 1 (7 ∷ 5 ∷ 0 ∷ []))
first zero = refl
first (suc g) = refl

second : (g : ℕ) → quiet adding_code g (adding_at 1 (7 ∷ 5 ∷ 0 ∷ [])) ≡ Some (adding_at 2 (7 ∷ 5 ∷ 12 ∷ []))
second zero = refl
second (suc g) = refl

both : Path adding_code deepest 2 (adding_at 0 (7 ∷ 0 ∷ 0 ∷ [])) (adding_at 2 (7 ∷ 5 ∷ 12 ∷ []))
both = (
  adding_at 1 (7 ∷ 5 ∷ 0 ∷ []),
  record { owes_none = refl; is = first; shallow = omega arith },
  (adding_at 2 (7 ∷ 5 ∷ 12 ∷ []), record { owes_none = refl; is = second; shallow = omega arith }, refl),
)

two : (sizes : Sizes) (limits : Limits) (g : ℕ)
    → SettlesTo (small_setup sizes limits) g 2 (adding_record 0 (7 ∷ 0 ∷ 0 ∷ []))
    (advanced_record (adding_record 0 (7 ∷ 0 ∷ 0 ∷ [])) 2 (adding_at 2 (7 ∷ 5 ∷ 12 ∷ [])))
two sizes limits g =
    path_law (small_setup sizes limits) g 2 (adding_record 0 (7 ∷ 0 ∷ 0 ∷ [])) (adding_at 2 (7 ∷ 5 ∷ 12 ∷ [])) refl both

counted : (sizes : Sizes) (limits : Limits)
    → SettlesTo (small_setup sizes limits) 0 2 (adding_record 0 (7 ∷ 0 ∷ 0 ∷ [])) (adding_record 2 (7 ∷ 5 ∷ 12 ∷ [])) → ⊥
counted sizes limits to =
    let good = two sizes limits 0 in
    let steps : 2 ≡ 0 = ap (λ (c : Record). c.clock.share.steps) (sym good.is ∙ to.is) in
    absurd (omega (arith, steps))

none_some : (e : FrameRec) → None ≡ Some e → ⊥
none_some e is = cc

pub examples : SettlingExamples
examples = record {
  counts = λ c. refl;
  alone = refl;
  two = two;
  uncounted = counted;
  main = λ sizes limits s. none_some s.0.next s.0.is;
}
