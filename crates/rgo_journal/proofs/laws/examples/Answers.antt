use Rattle.std.proofs.Common.{inl, inr, ◌≡◌, ◌∷◌, ◌++◌, [], length, get_or, refl, ap, sym, arith, codes}
use Rattle.std.specs.Fmt.{digits}
use Rattle.std.specs.Prelude.{All}
use Rattle.std.proofs.lemmas.List.Elements.{All-cons, All-nil}
use Rattle.rgo_journal.specs.declared.picks.TacPick.TheVariants.{One}
use Rattle.rgo_journal.specs.Forms.{IsFirstBadJournalLine}
use Rattle.rgo_journal.specs.Text.{PickFits, first_line}
use Rattle.rgo_journal.proofs.Walking.{no_more}
use Rattle.rgo_journal.proofs.laws.examples.Goals as goal

one_fits : All PickFits (One 0 ∷ [])
one_fits = All-cons PickFits (One 0) [] (omega arith) (All-nil PickFits)

not_first : IsFirstBadJournalLine (codes "rgo picks 1\none 00\ntext\n") 1 → ⊥
not_first (inl none) = none.1 (codes "one 00\ntext\n", refl)
not_first (inr s) = omega (arith, s.number)

pub returns : goal.returns
unfolding digits
returns c = record {
  empty = refl;
  all = refl;
  read = record { fit = one_fits; within = omega arith; text_is = refl };
  open_end = λ j. let short : 22 ≡ 23 = ap length j.text_is in omega (arith, short);
  large = λ f. omega (arith, f);
  no_first = inl (refl, λ s. let digit : 50 ≡ 49 = ap (λ l. get_or l 10 0) s.1 in omega (arith, digit));
  nothing = inl (refl, λ s. let none : 0 ≡ length (first_line ++ s.0) = ap length s.1 in omega (arith, none));
  early = inr (record {
    before = One 0 ∷ [];
    tail = [];
    fit = one_fits;
    cut = refl;
    number = refl;
    no_pick = λ p f s. no_more p s.0 (sym s.1);
    no_last = λ s. let none : 0 ≡ length (codes "text\n" ++ s.0) = ap length s.1 in omega (arith, none);
  });
  later = not_first;
}
