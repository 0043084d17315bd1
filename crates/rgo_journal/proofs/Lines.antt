-- The line of a pick is read back, and nothing else is read.
use Rattle.std.proofs.Common.{◌≡◌, ℕ, List, [], ◌∷◌, ◌++◌, Option, Some, None, refl, sym, ap, ◌∙◌, subst, arith, codes, decimal, append_assoc}
use Rattle.std.specs.Option.{option_map}
use Rattle.rgo_code_words.proofs.Options.{not_none, mapped}
use Rattle.rgo_journal.specs.declared.picks.TacPick.{TacPick}
use Rattle.rgo_journal.specs.declared.picks.TacPick.TheVariants.{One, Meet, Case, CaseMeet}
use Rattle.rgo_journal.specs.Reading.{after_front, number_to, two_numbers, three_numbers, read_after_front, read_one, read_meet, read_case, read_case_meet, read_pick}
use Rattle.rgo_journal.specs.Text.{PickFits, pick_line}
use Rattle.rgo_journal.proofs.Fronts.{after_sound, number_to_back, number_to_sound, two_back, two_sound, three_back, three_sound}

-- ---- numbers with a newline, and what follows

one_and : (a : ℕ) (rest : List ℕ) → (decimal a ++ 10 ∷ []) ++ rest ≡ decimal a ++ 10 ∷ rest
one_and a rest = append_assoc (decimal a) (10 ∷ []) rest

two_and : (a b : ℕ) (rest : List ℕ)
    → (decimal a ++ 32 ∷ (decimal b ++ 10 ∷ [])) ++ rest ≡ decimal a ++ 32 ∷ (decimal b ++ 10 ∷ rest)
two_and a b rest =
    append_assoc (decimal a) (32 ∷ (decimal b ++ 10 ∷ [])) rest ∙ ap (λ t. decimal a ++ 32 ∷ t) (one_and b rest)

three_and : (a b c : ℕ) (rest : List ℕ)
    → (decimal a ++ 32 ∷ (decimal b ++ 32 ∷ (decimal c ++ 10 ∷ []))) ++ rest
    ≡ decimal a ++ 32 ∷ (decimal b ++ 32 ∷ (decimal c ++ 10 ∷ rest))
three_and a b c rest =
    append_assoc (decimal a) (32 ∷ (decimal b ++ 32 ∷ (decimal c ++ 10 ∷ []))) rest
    ∙ ap (λ t. decimal a ++ 32 ∷ t) (two_and b c rest)

-- ---- read back

pub pick_back : (p : TacPick) (rest : List ℕ) → PickFits p → read_pick (pick_line p ++ rest) ≡ Some (p, rest)
pick_back (One g) rest f =
    ap read_one (one_and g rest) ∙ ap (option_map (λ a. (One a.0, a.1))) (number_to_back 10 g rest (omega arith) f)
pick_back (Meet r s) rest f =
    ap read_meet (two_and r s rest) ∙ ap (option_map (λ a. (Meet a.0 a.1, a.2))) (two_back r s rest f.0 f.1)
pick_back (Case g k) rest f =
    ap read_case (two_and g k rest) ∙ ap (option_map (λ a. (Case a.0 a.1, a.2))) (two_back g k rest f.0 f.1)
pick_back (CaseMeet g k s) rest f =
    ap read_case_meet (three_and g k s rest)
    ∙ ap (option_map (λ a. (CaseMeet a.0 a.1 a.2, a.3))) (three_back g k s rest f.0 f.1 f.2)

-- ---- nothing else

pub record PickIs (bytes : List ℕ) (p : TacPick) (rest : List ℕ) : Type 0 where
  pub cut : bytes ≡ pick_line p ++ rest
  pub fits : PickFits p

one_sound : (bytes tail : List ℕ) (p : TacPick) (rest : List ℕ) → bytes ≡ codes "one " ++ tail → read_one tail ≡ Some (p, rest)
    → PickIs bytes p rest
one_sound bytes tail p rest e q =
    let m = mapped (λ a. (One a.0, a.1)) (number_to 10 tail) (p, rest) q in
    let n = number_to_sound 10 tail m.value.0 m.value.1 m.was in
    subst (λ x. PickIs bytes x.0 x.1) m.is (record {
      cut = e ∙ ap (λ t. codes "one " ++ t) (n.cut ∙ sym (one_and m.value.0 m.value.1));
      fits = n.small;
    })

meet_sound : (bytes tail : List ℕ) (p : TacPick) (rest : List ℕ) → bytes ≡ codes "meet " ++ tail → read_meet tail ≡ Some (p, rest)
    → PickIs bytes p rest
meet_sound bytes tail p rest e q =
    let m = mapped (λ a. (Meet a.0 a.1, a.2)) (two_numbers tail) (p, rest) q in
    let n = two_sound tail m.value.0 m.value.1 m.value.2 m.was in
    subst (λ x. PickIs bytes x.0 x.1) m.is (record {
      cut = e ∙ ap (λ t. codes "meet " ++ t) (n.cut ∙ sym (two_and m.value.0 m.value.1 m.value.2));
      fits = (n.first, n.second);
    })

case_sound : (bytes tail : List ℕ) (p : TacPick) (rest : List ℕ) → bytes ≡ codes "case " ++ tail → read_case tail ≡ Some (p, rest)
    → PickIs bytes p rest
case_sound bytes tail p rest e q =
    let m = mapped (λ a. (Case a.0 a.1, a.2)) (two_numbers tail) (p, rest) q in
    let n = two_sound tail m.value.0 m.value.1 m.value.2 m.was in
    subst (λ x. PickIs bytes x.0 x.1) m.is (record {
      cut = e ∙ ap (λ t. codes "case " ++ t) (n.cut ∙ sym (two_and m.value.0 m.value.1 m.value.2));
      fits = (n.first, n.second);
    })

case_meet_sound : (bytes tail : List ℕ) (p : TacPick) (rest : List ℕ) → bytes ≡ codes "casemeet " ++ tail
    → read_case_meet tail ≡ Some (p, rest) → PickIs bytes p rest
case_meet_sound bytes tail p rest e q =
    let m = mapped (λ a. (CaseMeet a.0 a.1 a.2, a.3)) (three_numbers tail) (p, rest) q in
    let n = three_sound tail m.value.0 m.value.1 m.value.2 m.value.3 m.was in
    subst (λ x. PickIs bytes x.0 x.1) m.is (record {
      cut = e ∙ ap (λ t. codes "casemeet " ++ t) (n.cut ∙ sym (three_and m.value.0 m.value.1 m.value.2 m.value.3));
      fits = (n.first, n.second, n.third);
    })

-- what is read after a front, or without it
else_sound : (front bytes : List ℕ) (p : TacPick) (rest : List ℕ) (read : List ℕ → Option (TacPick × List ℕ))
    (other : Option (TacPick × List ℕ))
    → ((tail : List ℕ) → bytes ≡ front ++ tail → read tail ≡ Some (p, rest) → PickIs bytes p rest)
    → (other ≡ Some (p, rest) → PickIs bytes p rest)
    → read_after_front (after_front front bytes) read other ≡ Some (p, rest) → PickIs bytes p rest
else_sound front bytes p rest read other here there e = by (after_front front bytes) refl e
  where
    by : (o : Option (List ℕ)) → after_front front bytes ≡ o → read_after_front o read other ≡ Some (p, rest) → PickIs bytes p rest
    by None q r = there r
    by (Some tail) q r = here tail (after_sound front bytes tail q) r

pub pick_sound : (bytes : List ℕ) (p : TacPick) (rest : List ℕ) → read_pick bytes ≡ Some (p, rest) → PickIs bytes p rest
pick_sound bytes p rest e =
    else_sound (codes "one ") bytes p rest read_one
    (read_after_front (after_front (codes "meet ") bytes) read_meet
    (read_after_front (after_front (codes "case ") bytes) read_case
    (read_after_front (after_front (codes "casemeet ") bytes) read_case_meet None)))
    (λ tail. one_sound bytes tail p rest)
    (else_sound (codes "meet ") bytes p rest read_meet
    (read_after_front (after_front (codes "case ") bytes) read_case
    (read_after_front (after_front (codes "casemeet ") bytes) read_case_meet None))
    (λ tail. meet_sound bytes tail p rest)
    (else_sound (codes "case ") bytes p rest read_case
    (read_after_front (after_front (codes "casemeet ") bytes) read_case_meet None)
    (λ tail. case_sound bytes tail p rest)
    (else_sound (codes "casemeet ") bytes p rest read_case_meet None
    (λ tail. case_meet_sound bytes tail p rest)
    (λ q. absurd (not_none (p, rest) q))))) e
