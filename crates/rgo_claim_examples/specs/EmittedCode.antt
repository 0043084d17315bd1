-- The code text of `one_object`, which `code` accepts; a text that is not its code text; the greatest place that a code text can
-- express, and the next one, which it cannot.
use Rattle.std.specs.Prelude.{ℕ, ◌^◌, ◌-◌, [], ◌∷◌, None}
use Rattle.rgo_code.specs.Code.{Code, Return}
use Rattle.rgo_code.specs.Erasure.{erased}
use Rattle.rgo_code_printing.specs.Text.{text_of}
use Rattle.rgo_region_machine.specs.Examples.{small_code, main_of}
use Rattle.rgo_run.specs.CodeVerdicts.{CodePasses}
use Rattle.rgo_run.specs.Compiled.{IsCodeText}
use Rattle.rgo_run.specs.Constants.{TacConstantsFit}
use Rattle.rgo_claim_examples.specs.CompiledCode.{at, code_with}
use Rattle.rgo_claim_examples.specs.Texts.{object_text}

-- code of one instruction at this place
abbrev pub placed_at : ℕ → Code
placed_at place = small_code [] (main_of [] (at place [] (Return None) ∷ []) ∷ [])

pub record EmittedExamples : Type 0 where
  pub printed : IsCodeText object_text (text_of (code_with (0 ∷ [])))
  pub passes : CodePasses (text_of (code_with (0 ∷ [])))
  pub other : IsCodeText object_text (text_of (code_with [])) → ⊥
  pub small : TacConstantsFit (erased (placed_at (2 ^ 32 - 1)))
  pub large : TacConstantsFit (erased (placed_at (2 ^ 32))) → ⊥
