-- Where the definitions of a closed run hold and where they do not.
use Rattle.std.proofs.Common.{inr, ◌≡◌, ◌⊎◌, inl, ⊎_elim, ℕ, zero, suc, ◌<◌, ◌≤◌, max, true, false, List, [], ◌∷◌, map, take, Some, None, slice_get, refl, ap, sym, subst, arith}
use Rattle.std.proofs.lemmas.Option.{same_Some}
use mathlib.Core.Option.{some, some-injective, some-ne-none}
use lib.ListN.{get_elem?}
use Rattle.rgo_core.proofs.Lists.{elem_of}
use Rattle.rgo_core.proofs.runs.Opening.{opening_law}
use Rattle.rgo_core.specs.Core.{Core, Setup}
use Rattle.rgo_core.specs.runs.Opening.{first_of, opening_table}
use Rattle.rgo_core.specs.Records.{Drawn, Record, accesses, blank, drawn_at, fresh, with_end, with_print}
use Rattle.rgo_core.specs.Frames.shown.Constants.{ConstantsFit}
use Rattle.rgo_core.specs.Memory.Records.{Calm}
use Rattle.rgo_core.specs.Rule.Histories.{replay}
use Rattle.rgo_core.specs.Rule.Lists.{flattened}
use Rattle.rgo_core.specs.Rule.Views.{HasRow, view}
use Rattle.rgo_sound.specs.Code.Checked.{IsChecked}
use Rattle.rgo_sound.specs.Code.NameRules.{Ascends}
use Rattle.rgo_core_steps.specs.Outcomes.{ClosesTable}
use Rattle.rgo_sound.specs.Machine.declared.ends.RunEnd.TheVariants.{NoMemory}
use Rattle.rgo_sound.specs.Machine.Limits.{most_goroutines}
use Rattle.rgo_sound.specs.Machine.declared.picks.End.TheVariants.{Exit}
use Rattle.rgo_sound.specs.RegionMachine.Counts.{Counts}
use Rattle.rgo_sound.specs.RegionMachine.States.{Ended, Mark, Stopped}
use Rattle.rgo_sound.specs.Tally.{no_share}
use Rattle.rgo_sound.specs.RegionMachine.declared.limits.Limit.TheVariants.{Memory}
use Rattle.rgo_table_runs.specs.closing.Examples.{TableClosingExamples, family, row_of_main, parent_record, printers, with_clock}
use Rattle.rgo_table_runs.specs.closing.Gathering.{IsDrawnIn}
use Rattle.rgo_table_runs.specs.closing.Laws.{HasClosed}
use Rattle.rgo_table_runs.specs.closing.Members.{SomeHasNumber, HasPrinted, ListHasNumber, IsOneOf, Member, retired}
use Rattle.rgo_table_runs.specs.closing.Prints.{AllGiven, SomePrinted}
use Rattle.rgo_table_runs.specs.closing.Rows.{AreAll}

-- ---- rows of two goroutines, and of one

module _ (a b : Record) (P : ℕ → Record → Type 0) (p : P 0 a) (q : P 1 b) where
  each_of_two : (g : ℕ) (c : Record) → HasRow ((0, a) ∷ (1, b) ∷ []) g c → P g c
  each_of_two g c (zero, e) = subst (λ (r : ℕ × Record). P r.0 r.1) (some-injective (0, a) (g, c) e) p
  each_of_two g c (suc zero, e) = subst (λ (r : ℕ × Record). P r.0 r.1) (some-injective (1, b) (g, c) e) q
  each_of_two g c (suc (suc k), e) = absurd (some-ne-none (g, c) (sym e))

module _ (a : Record) (P : ℕ → Record → Type 0) (p : P 0 a) where
  each_of_one : (g : ℕ) (c : Record) → HasRow ((0, a) ∷ []) g c → P g c
  each_of_one g c (zero, e) = subst (λ (r : ℕ × Record). P r.0 r.1) (some-injective (0, a) (g, c) e) p
  each_of_one g c (suc k, e) = absurd (some-ne-none (g, c) (sym e))

-- a list of one, and of two
module _ {A : Type 0} where
  one_only : (a : A) (P : ℕ → A → Type 0) → P 0 a → (i : ℕ) (d : A) → get_elem? (a ∷ []) i ≡ some d → P i d
  one_only a P p zero d e = subst (P 0) (some-injective a d e) p
  one_only a P p (suc i) d e = absurd (some-ne-none d (sym e))

  two_only : (a b : A) (P : ℕ → A → Type 0) → P 0 a → P 1 b → (i : ℕ) (d : A) → get_elem? (a ∷ b ∷ []) i ≡ some d → P i d
  two_only a b P p q zero d e = subst (P 0) (some-injective a d e) p
  two_only a b P p q (suc i) d e = one_only b (λ j d. P (suc j) d) q i d e

its_child : (i h : ℕ) → slice_get (1 ∷ []) i ≡ Some h → h ≡ 1
its_child zero h e = sym (same_Some 1 h e)
its_child (suc i) h e = let z : None ≡ Some h = e in cc z

no_child : (i h : ℕ) → None ≡ Some h → ⊥
no_child i h e = cc e

family_all : AreAll (view family []) family
family_all = record {
  here = λ g c has. has;
  family = record {
    main = (parent_record, (0, refl));
    children = λ g h i c has at. each_of_two parent_record (with_clock blank) (λ g c. slice_get c.clock.children i ≡ Some h → (d : Record) × HasRow family h d)
        (λ e. subst (λ (k : ℕ). (d : Record) × HasRow family k d) (sym (its_child i h e)) (with_clock blank, (1, refl))) (λ e. absurd (no_child i h e)) g c has at;
  };
  ascending = ascending;
  calm = each_of_two parent_record (with_clock blank) (λ g c. c.memory.give ≡ Calm) refl refl;
}
  where
    ascending : (i : ℕ) (r q : ℕ × Record) → get_elem? family i ≡ some r → get_elem? family (suc i) ≡ some q → r.0 < q.0
    ascending zero r q e f =
        let a : 0 ≡ r.0 = ap (λ (x : ℕ × Record). x.0) (some-injective (0, parent_record) r e) in
        let b : 1 ≡ q.0 = ap (λ (x : ℕ × Record). x.0) (some-injective (1, with_clock blank) q f) in
        omega (arith, a, b)
    ascending (suc zero) r q e f = absurd (some-ne-none q (sym f))
    ascending (suc (suc i)) r q e f = absurd (some-ne-none q (sym f))

one_row : (k : ℕ) (c d : Record) → HasRow ((0, c) ∷ []) (suc k) d → ⊥
one_row k c d (zero, e) = let z : 0 ≡ suc k = ap (λ (x : ℕ × Record). x.0) (some-injective (0, c) (suc k, d) e) in omega (arith, z)
one_row k c d (suc i, e) = some-ne-none (suc k, d) (sym e)

first_print : SomePrinted printers (drawn_at 0 (9 ∷ []))
first_print = record { goroutine = 1; its = with_clock (with_print blank 0 (9 ∷ [])); has = (1, refl); place = 0; there = refl }

second_print : SomePrinted printers (drawn_at 1 (7 ∷ 8 ∷ []))
second_print = record { goroutine = 0; its = with_clock (with_print fresh 1 (7 ∷ 8 ∷ [])); has = (0, refl); place = 0; there = refl }

both_given : AllGiven printers (drawn_at 0 (9 ∷ []) ∷ drawn_at 1 (7 ∷ 8 ∷ []) ∷ [])
both_given d p valid = each_of_two (with_clock (with_print fresh 1 (7 ∷ 8 ∷ []))) (with_clock (with_print blank 0 (9 ∷ [])))
    (λ g c. (i : ℕ) → get_elem? c.clock.prints i ≡ some d → d.ticket < 2)
    (λ i e. one_only (drawn_at 1 (7 ∷ 8 ∷ [])) (λ j d. d.ticket < 2) (omega arith) i d e)
    (λ i e. one_only (drawn_at 0 (9 ∷ [])) (λ j d. d.ticket < 2) (omega arith) i d e)
    p.goroutine p.its p.has p.place p.there

not_both : (a b : Mark) → (a ≡ b → ⊥) → Some a ≡ Some b → ⊥
not_both a b ne e = ne (same_Some a b e)

another_end : Ended Exit ≡ Stopped Memory → ⊥
another_end e = cc e

none_printed : (d : Drawn) → SomePrinted row_of_main d → ⊥
none_printed d p = each_of_one (with_clock fresh) (λ g c. get_elem? c.clock.prints p.place ≡ some d → ⊥) (λ e. some-ne-none d (sym e)) p.goroutine p.its p.has p.there

spent_all : (steps : ℕ) → steps ≡ 5 → (steps ≤ 5) × (3 ≤ 5) × (3 < max 1 steps)
spent_all steps e = (omega (arith, e), omega arith, subst (λ (n : ℕ). 3 < max 1 n) (sym e) (omega arith))

-- a table that was just opened
module _ (T : Setup) (checked : IsChecked T.code) (ascends : Ascends T.code) (constants : ConstantsFit T.code)
    (few : most_goroutines T.limits ≤ 1000000) where
  abbrev main : Record
  main = first_of T.code

  opened : ClosesTable T (opening_table T) (view ((0, main) ∷ []) [])
  opened = record {
    recs = main ∷ [];
    history = [];
    account = record {
      gains = [];
      paired = refl;
      explains = opening_law T checked ascends constants few;
      moments = moments;
      replayed = refl;
      sound = tt;
      counted = one_only main (λ g c. accesses c ≡ 0) refl;
      makers = λ i a g e q. absurd (some-ne-none a (sym e));
      glances = λ i a e q. absurd (some-ne-none a (sym e));
    };
    seen = ([], refl);
    here = each_of_one main (λ g c. (get_elem? (main ∷ []) g ≡ some c) × (accesses c ≡ 0)) (refl, refl);
  }
    where
      moments : (k : ℕ) → k ≤ 0 → (then : List Record) × Core T (replay (opening_table T) (take k [])) then (flattened (take k []))
      moments zero l = (main ∷ [], opening_law T checked ascends constants few)
      moments (suc k) l = absurd (omega arith)

  pub closed_at_once : (e : ClosesTable T (opening_table T) (view ((0, main) ∷ []) []))
      × HasClosed T (opening_table T) (view ((0, main) ∷ []) []) e ((0, main) ∷ []) [] None 0 NoMemory None None
  closed_at_once = (
    opened,
    record {
      all = record {
        here = λ g c has. has;
        family = record {
          main = (main, (0, refl));
          children = λ g h i c has at. each_of_one main (λ g c. slice_get c.clock.children i ≡ Some h → (d : Record) × HasRow ((0, main) ∷ []) h d)
              (λ e. absurd (no_child i h e)) g c has at;
        };
        ascending = λ i r q e f. absurd (some-ne-none q (sym f));
        calm = each_of_one main (λ g c. c.memory.give ≡ Calm) refl;
      };
      order = record {
        are = λ i d e. absurd (some-ne-none d (sym e));
        next = λ i d e. absurd (some-ne-none d (sym e));
        valid = λ i d e. absurd (some-ne-none d (sym e));
      };
      is_first = each_of_one main (λ g c. c.clock.first ≡ None) refl;
      ends = tt;
      gave = tt;
    },
  )

no_drawn : (i : ℕ) (d : Drawn) → None ≡ Some d → ⊥
no_drawn i d e = cc e

abbrev first_printer : Record
first_printer = with_clock (with_print fresh 1 (7 ∷ 8 ∷ []))

abbrev second_printer : Record
second_printer = with_clock (with_print blank 0 (9 ∷ []))

abbrev both : List Drawn
both = drawn_at 0 (9 ∷ []) ∷ drawn_at 1 (7 ∷ 8 ∷ []) ∷ []

their_own : (g : ℕ) (share : Counts) → slice_get (parent_record.clock.share ∷ []) g ≡ Some share
    → ((c : Record) × HasRow family g c) ⊎ (share ≡ no_share)
their_own zero share e = inl (parent_record, (0, refl))
their_own (suc g) share e = let z : None ≡ Some share = e in absurd (cc z)

pub closing_examples : TableClosingExamples
closing_examples = record {
  all = family_all;
  fewer = λ k. let d = k.family.children 0 1 0 parent_record (0, refl) refl in one_row 0 parent_record d.0 d.1;
  swapped = λ k. let l = k.ascending 0 (1, with_clock blank) (0, parent_record) refl refl in omega arith;
  unknown = λ k. let h = k.here 0 (with_clock fresh) (0, refl) in some-ne-none (0, with_clock fresh) (sym h.1);
  shares = refl;
  by_number = refl;
  shared = record {
    its = each_of_two parent_record (with_clock blank)
        (λ g c. (slice_get (parent_record.clock.share ∷ []) g ≡ Some c.clock.share) ⊎ ((1 ≤ g) × (c.clock.share ≡ no_share)))
        (inl refl) (inr (omega arith, refl));
    others = their_own;
  };
  unshared = λ k. ⊎_elim
      (λ (e : None ≡ Some parent_record.clock.share). cc e)
      (λ (t : (0 ≤ 0) × (parent_record.clock.share ≡ no_share)). let z = ap (λ (c : Counts). c.steps) t.1 in omega (arith, z))
      (k.its 0 parent_record (0, refl));
  nobodys = λ k. ⊎_elim
      (λ (t : (c : Record) × HasRow row_of_main 1 c). one_row 0 (with_clock fresh) t.0 t.1)
      (λ (none : record no_share { steps = 1 } ≡ no_share). let z = ap (λ (c : Counts). c.steps) none in omega (arith, z))
      (k.others 1 (record no_share { steps = 1 }) refl);
  sum = refl;
  gathered = record {
    each = λ d p valid. each_of_two (with_clock (with_print fresh 1 (7 ∷ 8 ∷ []))) (with_clock (with_print blank 0 (9 ∷ [])))
        (λ g c. (i : ℕ) → get_elem? c.clock.prints i ≡ some d → IsDrawnIn both d ⊎ IsDrawnIn [] d)
        (λ i e. one_only (drawn_at 1 (7 ∷ 8 ∷ [])) (λ j d. IsDrawnIn both d ⊎ IsDrawnIn [] d) (inl (1, refl)) i d e)
        (λ i e. one_only (drawn_at 0 (9 ∷ [])) (λ j d. IsDrawnIn both d ⊎ IsDrawnIn [] d) (inl (0, refl)) i d e)
        p.goroutine p.its p.has p.place p.there;
    next = λ d t. absurd (some-ne-none d (sym t.1));
  };
  withheld = λ k. k.next (drawn_at 1 (7 ∷ 8 ∷ [])) (0, refl) refl;
  ungathered = λ k. ⊎_elim
      (λ (t : IsDrawnIn (drawn_at 0 (9 ∷ []) ∷ []) (drawn_at 1 (7 ∷ 8 ∷ []))).
      let z = one_only (drawn_at 0 (9 ∷ [])) (λ j d. d.ticket ≡ 0) refl t.0 (drawn_at 1 (7 ∷ 8 ∷ [])) t.1 in omega (arith, z))
      (λ (t : IsDrawnIn [] (drawn_at 1 (7 ∷ 8 ∷ []))). some-ne-none (drawn_at 1 (7 ∷ 8 ∷ [])) (sym t.1))
      (k.each (drawn_at 1 (7 ∷ 8 ∷ [])) second_print refl);
  in_order = record {
    are = two_only (drawn_at 0 (9 ∷ [])) (drawn_at 1 (7 ∷ 8 ∷ [])) (λ i d. SomePrinted printers d) first_print second_print;
    next = two_only (drawn_at 0 (9 ∷ [])) (drawn_at 1 (7 ∷ 8 ∷ [])) (λ i d. d.ticket ≡ i) refl refl;
    valid = two_only (drawn_at 0 (9 ∷ [])) (drawn_at 1 (7 ∷ 8 ∷ [])) (λ i d. d.is_void ≡ false) refl refl;
  };
  by_place = λ k. let e : 1 ≡ 0 = k.next 0 (drawn_at 1 (7 ∷ 8 ∷ [])) refl in omega (arith, e);
  void = λ rows k. let e : true ≡ false = k.valid 0 (drawn_at 9223372036854775808 (9 ∷ [])) refl in cc e;
  none_left = λ d p v. absurd (none_printed d p);
  one_left = λ k. let l : 1 < 1 = k (drawn_at 1 (7 ∷ 8 ∷ [])) second_print refl in omega (arith, l);
  bytes = refl;
  none_lost = record {
    main = (retired (0, first_printer), (0, refl), refl);
    children = λ m h one t. absurd (two_only (retired (0, first_printer)) (retired (1, second_printer)) (λ i m. ListHasNumber m.its.clock.children h → ⊥)
        (λ t. no_child t.0 h t.1) (λ t. no_child t.0 h t.1) one.0 m one.1 t);
    prints = λ m d one t valid. inl (two_only (retired (0, first_printer)) (retired (1, second_printer)) (λ i m. HasPrinted m.its d → IsDrawnIn both d)
        (λ t. one_only (drawn_at 1 (7 ∷ 8 ∷ [])) (λ i d. IsDrawnIn both d) (1, refl) t.0 d (elem_of (drawn_at 1 (7 ∷ 8 ∷ []) ∷ []) t.0 d t.1))
        (λ t. one_only (drawn_at 0 (9 ∷ [])) (λ i d. IsDrawnIn both d) (0, refl) t.0 d (elem_of (drawn_at 0 (9 ∷ []) ∷ []) t.0 d t.1))
        one.0 m one.1 t);
    are = λ d t. two_only (drawn_at 0 (9 ∷ [])) (drawn_at 1 (7 ∷ 8 ∷ []))
        (λ i d. (d.is_void ≡ false) × (m : Member) × IsOneOf (map retired printers) m × HasPrinted m.its d)
        (refl, retired (1, second_printer), (1, refl), (0, refl)) (refl, retired (0, first_printer), (0, refl), (0, refl)) t.0 d t.1;
  };
  lost_print = λ k. ⊎_elim
      (λ (t : IsDrawnIn (drawn_at 0 (9 ∷ []) ∷ []) (drawn_at 1 (7 ∷ 8 ∷ []))).
      let z = one_only (drawn_at 0 (9 ∷ [])) (λ j d. d.ticket ≡ 0) refl t.0 (drawn_at 1 (7 ∷ 8 ∷ [])) t.1 in omega (arith, z))
      (λ (t : IsDrawnIn [] (drawn_at 1 (7 ∷ 8 ∷ []))). some-ne-none (drawn_at 1 (7 ∷ 8 ∷ [])) (sym t.1))
      (k.prints (retired (0, first_printer)) (drawn_at 1 (7 ∷ 8 ∷ [])) (0, refl) (0, refl) refl);
  lost_child = λ k. ⊎_elim
      (λ (t : SomeHasNumber (map retired ((0, parent_record) ∷ [])) 1).
      let z = one_only (retired (0, parent_record)) (λ j m. m.number ≡ 0) refl t.1.0 t.0 t.1.1 in let n = t.2 in omega (arith, z, n))
      (λ (t : ListHasNumber [] 1). no_child t.0 1 t.1)
      (k.children (retired (0, parent_record)) 1 (0, refl) (0, refl));
  made_up = λ k.
      let a = k.are (drawn_at 0 (9 ∷ [])) (0, refl) in
      one_only (retired (0, with_clock fresh)) (λ j m. HasPrinted m.its (drawn_at 0 (9 ∷ [])) → ⊥) (λ t. no_drawn t.0 (drawn_at 0 (9 ∷ [])) t.1) a.2.0 a.1 a.2.1 a.3;
  set = (0, with_clock (with_end fresh 0 (Ended Exit)), (0, refl), refl);
  not_set = λ k. let e : Some (Ended Exit) ≡ None = k 0 (with_clock (with_end fresh 0 (Ended Exit))) (0, refl) in cc e;
  another = λ k. each_of_one (with_clock (with_end fresh 0 (Ended Exit))) (λ g c. c.clock.first ≡ Some (Stopped Memory) → ⊥)
      (not_both (Ended Exit) (Stopped Memory) another_end) k.0 k.1 k.2 k.3;
  too_deep = refl;
  spent = λ code sizes limits s e. spent_all limits.steps e;
  unspent = λ code sizes limits s e k. let l = k.0 in omega (arith, e, l);
  unended = λ code sizes limits s k. k;
  ended = λ code sizes limits s. refl;
  gave = (both_given, refl);
  gave_one = refl;
  kept_one = λ k. let l : 1 < 1 = k.0 (drawn_at 1 (7 ∷ 8 ∷ [])) second_print refl in omega (arith, l);
  gave_some = (2, refl);
  closed = λ T checked ascends constants few. closed_at_once T checked ascends constants few;
  nobody = λ T words e rows k. let h = k.all.here 0 k.all.family.main.0 k.all.family.main.1 in some-ne-none (0, k.all.family.main.0) (sym h.1);
}
