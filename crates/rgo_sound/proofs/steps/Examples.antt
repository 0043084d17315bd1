-- The examples for Leaving, Owners and Running, by computation.
use Rattle.std.proofs.Common.{◌≡◌, ℕ, zero, suc, inr, [], Some, slice_get, refl, arith}
use Rattle.rgo_code.specs.Code.{Code}
use Rattle.rgo_region_machine.specs.Machine.{region_start}
use Rattle.rgo_region_machine.specs.States.{Holder}
use Rattle.rgo_sound.specs.Examples.{StepExamples, without_holder}

module _ (code : Code) where
  nothing : (j : ℕ) (h : Holder) → slice_get [] j ≡ Some h → ⊥
  nothing j h e = cc

  -- there is one goroutine
  only_first : (j : ℕ) (h : Holder) → (j ≡ 0 → ⊥) → slice_get (region_start code).holders j ≡ Some h
      → slice_get (without_holder code).holders j ≡ Some h
  only_first zero h out e = absurd (out refl)
  only_first (suc j) h out e = cc

  pub examples : StepExamples code
  examples = record {
    meets = inr refl;
    apart = λ e. let n : 2 ≡ 3 = e in absurd (omega (arith, n));
    nobody = λ j e. e;
    alone = refl;
    together = λ e. e;
    changes = record { frames = λ j fs out e. e; holders = only_first };
    loses = λ l. nothing 0 _ (l.holders 0 _ (λ e. let n : 0 ≡ 5 = e in absurd (omega (arith, n))) refl);
    made = λ o r e. cc;
    unmade = λ made. let n = made 0 0 refl in absurd (omega (arith, n));
    running = refl;
    ended = λ e. cc;
  }
