-- The examples of code texts that are printed.
use Rattle.std.proofs.Common.{◌≡◌, ◌≤◌, ◌^◌, ◌-◌, ℕ, List, [], ◌∷◌, length, nat_eq, refl, ap, ◌∙◌, subst, arith}
use Rattle.std.specs.Fmt.{digits}
use Rattle.std.proofs.lemmas.Bool.{leb-true, false≢true}
use Rattle.std.proofs.lemmas.List.Elements.{All-from_recursion, All-cons, All-head, All-nil}
use Rattle.rgo_typed.specs.declared.statements.Piece.TheVariants.{Value}
use Rattle.rgo_code.specs.Code.{Code}
use Rattle.rgo_code.specs.Erasure.{erased, erased_fn}
use Rattle.rgo_code_printing.specs.Text.{text_of}
use Rattle.rgo_run.specs.CodeVerdicts.{code_limit}
use Rattle.rgo_run.specs.Compiled.{IsCodeText, IsCompiled, IsCompiledFrom}
use Rattle.rgo_run.specs.Constants.{TacConstantsFit, TacFnFits, TacInstrFits}
use Rattle.rgo_run.proofs.Accepting.{emitted_passes}
use Rattle.rgo_run.proofs.OneCompiled.{one_compiled}
use Rattle.rgo_run.proofs.VerdictLemmas.{one_program}
use Rattle.rgo_code_words.specs.Worded.{PieceFits}
use Rattle.rgo_claim_examples.specs.CompiledCode.{code_with, main_with}
use Rattle.rgo_claim_examples.specs.EmittedCode.{EmittedExamples, placed_at}
use Rattle.rgo_claim_examples.specs.Programs.{one_object}
use Rattle.rgo_claim_examples.specs.Texts.{object_text}
use Rattle.rgo_claim_examples.proofs.Compiled.{compiled}
use Rattle.rgo_claim_examples.proofs.ProgramTexts.{object_is_program}

abbrev made : Code
made = code_with (0 ∷ [])

is_compiled : IsCompiled object_text made
is_compiled = record { program = one_object; is_program = object_is_program; from = compiled }

instrs_fit : TacFnFits (erased_fn (main_with (0 ∷ [])))
instrs_fit =
    All-from_recursion TacInstrFits (erased_fn (main_with (0 ∷ []))).body (
      (omega arith, tt),
      (
        (omega arith, tt),
        (
          (omega arith, tt),
          ((omega arith, All-from_recursion PieceFits (Value ∷ []) (tt, tt)), ((omega arith, tt), tt)),
        ),
      ),
    )

fit : TacConstantsFit (erased made)
fit = All-from_recursion TacFnFits (erased made).functions (instrs_fit, tt)

small : TacConstantsFit (erased (placed_at (2 ^ 32 - 1)))
small = All-cons TacFnFits _ [] (All-cons TacInstrFits _ [] (omega arith, tt) (All-nil TacInstrFits)) (All-nil TacFnFits)

short : length (text_of made) ≤ code_limit
unfolding text_of digits
short = leb-true (length (text_of made)) code_limit refl

texts_differ : text_of (code_with []) ≡ text_of made → ⊥
unfolding text_of digits
texts_differ e = false≢true (ap (λ (text : List ℕ). nat_eq (length text) (length (text_of made))) e)

other : IsCodeText object_text (text_of (code_with [])) → ⊥
other is =
    let program = one_program object_text is.compiled.program one_object is.compiled.is_program object_is_program in
    let from = subst (λ p. IsCompiledFrom p is.code) program is.compiled.from in
    texts_differ (is.is_text ∙ ap text_of (one_compiled one_object is.code made from compiled))

pub emitted_examples : EmittedExamples
emitted_examples = record {
  printed = record {
    code = made;
    compiled = is_compiled;
    is_text = refl;
    accepted = emitted_passes object_text made is_compiled fit;
  };
  passes = emitted_passes object_text made is_compiled fit short;
  other = other;
  small = small;
  large = λ h.
      let first = All-head TacInstrFits _ [] (All-head TacFnFits _ [] h) in omega (arith, first.0);
}
