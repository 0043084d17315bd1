-- Each code text is the text of at most one code, and passes or has one refusal. Refusals exclude each other in a fixed order: the
-- length, then the first line that does not match the grammar, then the least rule that is broken.
use Rattle.std.proofs.Common.{◌≡◌, ◌<◌, ◌≤◌, ◌⊎◌, inl, inr, refl, sym, ◌∙◌, ap, ap₂, subst, ℕ, List, length, arith}
use Rattle.std.proofs.lemmas.Bool.{cases_lt}
use Rattle.rgo_code.specs.Checked.{IsChecked, IsFirstBroken}
use Rattle.rgo_code.specs.Code.{Code}
use Rattle.rgo_code.specs.declared.rules.CodeRefusal.{CodeRefusal}
use Rattle.rgo_code.specs.declared.rules.Rule.{Rule}
use Rattle.rgo_code_text.specs.Forms.{IsText, IsFirstWithoutForm}
use Rattle.rgo_code_text.proofs.readings.EachText.{one_of_both as text_or_line}
use Rattle.rgo_code_text.proofs.readings.OneRefusal.{one_refusal as forms}
use Rattle.rgo_code_text.proofs.readings.Refusing.{no_two}
use Rattle.rgo_checker.proofs.outcomes.OneOutcome.{one_outcome}
use Rattle.rgo_checker.proofs.outcomes.SomeOutcome.{some_outcome}
use Rattle.rgo_run.specs.declared.refusals.CodeTextRefusal.{CodeTextRefusal}
use Rattle.rgo_run.specs.declared.refusals.CodeTextRefusal.TheVariants.{TooLong, NoForm, Breaks}
use Rattle.rgo_run.specs.CodeVerdicts.{code_limit, IsTextOfCode, CodePasses, CodeBreaks, CodeRefused, OneCodeVerdict}

pub one_code : (text : List ℕ) (a b : Code) → IsTextOfCode text a → IsTextOfCode text b → a ≡ b
one_code text a b is also = no_two a b is.written also.written (sym is.text_is ∙ also.text_is)

-- every line of the text of code matches the grammar
has_form : (text : List ℕ) (code : Code) (n : ℕ) → IsTextOfCode text code → IsFirstWithoutForm text n → ⊥
has_form text code n is first =
    forms.not_both code n is.written (subst (λ t. IsFirstWithoutForm t n) is.text_is first)

same_refusal : (p q : CodeRefusal) → p.rule ≡ q.rule → p.line ≡ q.line → Breaks p ≡ Breaks q
same_refusal p q rule line = ap₂ (λ r n. Breaks (record { rule = r; line = n })) rule line

same_break : (text : List ℕ) (p q : CodeRefusal) → CodeBreaks text p → CodeBreaks text q → Breaks p ≡ Breaks q
same_break text p q a b =
    let code = one_code text a.code b.code a.is_text b.is_text in
    let both = one_outcome.one b.code p.rule q.rule p.line q.line
    (subst (λ c. IsFirstBroken c p.rule p.line) code a.broken) b.broken in
    same_refusal p q both.0 both.1

pub one_refusal : (text : List ℕ) (a b : CodeTextRefusal) → CodeRefused text a → CodeRefused text b → a ≡ b
one_refusal text TooLong TooLong r s = refl
one_refusal text TooLong (NoForm n) r s = absurd (omega (arith, s.0))
one_refusal text TooLong (Breaks q) r s = absurd (omega (arith, s.is_text.within))
one_refusal text (NoForm m) TooLong r s = absurd (omega (arith, r.0))
one_refusal text (NoForm m) (NoForm n) r s = ap NoForm (forms.one text m n r.1 s.1)
one_refusal text (NoForm m) (Breaks q) r s = absurd (has_form text s.code m s.is_text r.1)
one_refusal text (Breaks p) TooLong r s = absurd (omega (arith, r.is_text.within))
one_refusal text (Breaks p) (NoForm n) r s = absurd (has_form text r.code n r.is_text s.1)
one_refusal text (Breaks p) (Breaks q) r s = same_break text p q r s

pub never_both : (text : List ℕ) (a : CodeTextRefusal) → CodePasses text → CodeRefused text a → ⊥
never_both text TooLong p r = omega (arith, p.is_text.within)
never_both text (NoForm n) p r = has_form text p.code n p.is_text r.1
never_both text (Breaks q) p r =
    one_outcome.not_both r.code q.rule q.line
    (subst (λ c. IsChecked c) (one_code text p.code r.code p.is_text r.is_text) p.checked) r.broken

abbrev Verdict : List ℕ → Type 0
Verdict text = CodePasses text ⊎ ((why : CodeTextRefusal) × CodeRefused text why)

module _ (text : List ℕ) where
  -- the text of code passes, or breaks a rule
  of_code : (code : Code) → IsTextOfCode text code
      → IsChecked code ⊎ ((rule : Rule) × (line : ℕ) × IsFirstBroken code rule line) → Verdict text
  of_code code is (inl checked) = inl (record { code = code; is_text = is; checked = checked })
  of_code code is (inr broken) =
      inr (Breaks (record { rule = broken.0; line = broken.1 }), record { code = code; is_text = is; broken = broken.2 })

  within : length text ≤ code_limit → IsText text ⊎ ((n : ℕ) × IsFirstWithoutForm text n) → Verdict text
  within short (inl t) =
      of_code t.code (record { within = short; written = t.written; text_is = sym t.text }) (some_outcome t.code)
  within short (inr line) = inr (NoForm line.0, (short, line.1))

  by_length : (code_limit < length text) ⊎ (length text ≤ code_limit) → Verdict text
  by_length (inl long) = inr (TooLong, long)
  by_length (inr short) = within short (text_or_line text)

pub one_code_verdict : OneCodeVerdict
one_code_verdict = record {
  one_code = one_code;
  one_refusal = one_refusal;
  never_both = never_both;
  one_of_both = λ text. by_length text (cases_lt code_limit (length text));
}
