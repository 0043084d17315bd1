use Rattle.std.proofs.Common.{rules, sym, ◌∙◌, FitsSigned, w64}
use Rattle.std.proofs.lemmas.Int.{to_z-of_z}
use Rattle.rgo_code_words.proofs.Integers.{int_here, int_elsewhere, int_nowhere, fits_int}
use Rattle.rgo_code_words.proofs.words.checked_int.Goals as goal

pub returns-then-is_int : goal.returns-then-is_int
returns-then-is_int c =
    let f : FitsSigned w64 c.in-Some.n = search rules in
    rw (to_z-of_z w64 c.in-Some.n f) (int_here c.args.word.now c.in-Some.n (fits_int c.in-Some.n f)
    (sym (rw (to_z-of_z w64 c.in-Some.n f) at c.is_int.ensures) ∙ c.if-is_int.true))

pub returns-else-is_int : goal.returns-else-is_int
returns-else-is_int c =
    let f : FitsSigned w64 c.in-Some.n = search rules in
    int_elsewhere c.args.word.now c.in-Some.n (λ k l e. sym c.in-Some.is ∙ c.requires k l e)
    (sym (rw (to_z-of_z w64 c.in-Some.n f) at c.is_int.ensures) ∙ c.if-is_int.false)

pub returns-in-None : goal.returns-in-None
returns-in-None c = int_nowhere c.args.word.now (λ k l e. sym c.in-None.is ∙ c.requires k l e)
