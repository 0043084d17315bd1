-- The examples of typed code, by computation.
use Rattle.std.proofs.Common.{◌≡◌, ℕ, zero, suc, Bool, true, false, [], ◌∷◌, Some, slice_get}
use Rattle.std.proofs.Common.{is_some, codes, bytes_eq, refl, sym, ap, ◌∙◌, inr, true≢false, zero-lt-suc, arith}
use Rattle.rgo_typed.specs.declared.types.Base.{Base}
use Rattle.rgo_typed.specs.declared.types.Base.TheVariants as base
use Rattle.rgo_typed.specs.declared.types.Type.{«Type»}
use Rattle.rgo_wellformed.specs.TypeRules.{int, bool}
use Rattle.rgo_wellformed.proofs.ExampleProofs.{programs}
use Rattle.rgo_tac.specs.Code.{TacFn}
use Rattle.rgo_lower.specs.Lowered.{IsLowered}
use Rattle.rgo_lowering_laws.specs.Examples.{prints_seven, prints_code, TypedExamples}
use Rattle.rgo_lowering_laws.proofs.Lists.{some_is}
use Rattle.rgo_lowering_laws.proofs.Programs.{lowered_is_typed}

abbrev is_int_base : Base → Bool
is_int_base base.Int = true
is_int_base _ = false

no_bool : int ≡ bool → ⊥
no_bool e = true≢false (ap (λ (t : «Type»). is_int_base t.base) e)

alone : (f : TacFn) (n : ℕ) (main : TacFn) → slice_get (f ∷ []) n ≡ Some main → f ≡ main
alone f zero main h = some_is f main h
alone f (suc n) main h = absurd (true≢false (sym (ap is_some h)))

is_lowered : IsLowered prints_seven prints_code
is_lowered = record {
  structs = refl;
  variables = refl;
  functions = (
    record {
      name = refl;
      params = refl;
      result_type = refl;
      param_types = refl;
      scope = (0, 1) ∷ [];
      last = record { instr = 3; variable = 2 };
      body = (
        (0, 1) ∷ [],
        record { instr = 2; variable = 2 },
        (
          0,
          record { instr = 1; variable = 1 },
          (
            [],
            record { instr = 0; variable = 0 },
            (refl, refl),
            record { instr = refl; variable = refl },
            refl,
            refl,
          ),
          record { instr = refl; variable = refl },
          refl,
          refl,
          refl,
        ),
        (
          (0, 1) ∷ [],
          record { instr = 3; variable = 2 },
          (
            1 ∷ [],
            record { instr = 2; variable = 2 },
            (1, [], record { instr = 2; variable = 2 }, (refl, refl), (refl, refl), refl),
            refl,
            refl,
            refl,
          ),
          (refl, refl),
        ),
      );
      closing = refl;
      instrs = refl;
      variables = refl;
    },
    tt,
  );
}

pub typed_examples : TypedExamples
typed_examples = record {
  is_lowered = is_lowered;
  typed = lowered_is_typed prints_seven prints_code programs.prints is_lowered;
  no_main =
      λ t. true≢false (sym (ap (λ f. bytes_eq f.name (codes "main")) (alone _ t.has_main.number t.has_main.main
      t.has_main.declared) ∙ ap (λ n. bytes_eq n (codes "main")) t.has_main.named));
  no_instr = λ t. let f = t.functions 0 _ refl in f.has_instr refl;
  no_end = λ t. let f = t.functions 0 _ refl in let i = f.instrs 0 _ refl in true≢false (sym (i.exists.last refl));
  no_target =
      λ t. let f = t.functions 0 _ refl in let i = f.instrs 0 _ refl in
      let lt = i.exists.exists in absurd (omega (arith, lt));
  no_variable =
      λ t. let f = t.functions 0 _ refl in let i = f.instrs 0 _ refl in
      let lt = i.exists.variables 1 (inr refl) in absurd (omega (arith, lt));
  unwritten =
      λ t. let f = t.functions 0 _ refl in
      let lt = f.writes_first 0 (0, (0, zero-lt-suc 0, refl)) in absurd (omega (arith, lt));
  other_type =
      λ t. let f = t.functions 0 _ refl in let i = f.instrs 0 _ refl in
      no_bool (some_is int i.fits.2.0 i.fits.2.1 ∙ i.fits.2.2.1);
  no_call_target =
      λ t. let f = t.functions 0 _ refl in let i = f.instrs 0 _ refl in
      let c = i.exists.exists in
      true≢false (ap (λ (g : TacFn). is_some g.result_type) (some_is _ c.callee c.declared) ∙ sym c.target);
  started =
      λ t. let f = t.functions 0 _ refl in let i = f.instrs 0 _ refl in
      true≢false (ap is_some (i.start _ refl));
}
