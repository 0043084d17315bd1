-- What a driver has gathered is all that there is. For the prints: tickets have no gap, so if none waits and the next is not there, no
-- later one is.
use Rattle.std.proofs.Common.{◌⊎◌, inl, inr, ◌≡◌, ℕ, zero, suc, ◌+◌, ◌<◌, ◌≤◌, nat_le, Bool, true, false, List, [], ◌∷◌, Some, None, length, map, slice_get, refl, ap, sym, subst, ◌∙◌, ⊎_elim, arith}
use Rattle.std.proofs.lemmas.Bool.Decides.{nat_tests}
use Rattle.std.proofs.lemmas.Option.{same_Some}
use mathlib.Core.Option.{some, some-injective, some-ne-none}
use lib.ListN.{get_elem?}
use Rattle.rgo_core.proofs.Lists.{elem_of, get_of}
use Rattle.rgo_core.specs.Core.{Setup}
use Rattle.rgo_core.specs.Records.{Drawn, Record}
use Rattle.rgo_core.specs.Rule.Views.{HasRow, Rows}
use Rattle.rgo_core.specs.Rule.declared.accesses.View.{View}
use Rattle.rgo_core_steps.proofs.tables.Outcomes.{family_law, outcome_law}
use Rattle.rgo_core_steps.specs.Outcomes.{ClosesTable, HasDrawnAt, TableOutcome}
use Rattle.rgo_sound.specs.RegionMachine.Counts.{Counts}
use Rattle.rgo_sound.specs.Tally.{counts_plus, no_share}
use Rattle.rgo_table_runs.specs.closing.Gathering.{AreGathered, FamilyIsAll, GatheredAreGiven, IsDrawnIn, SharesAreAll, numbered_rows, numbered_from, sum_of}
use Rattle.rgo_table_runs.specs.closing.Prints.{TicketsInOrder, SomePrinted}
use Rattle.rgo_table_runs.specs.closing.Rows.{AreAll, all_shares}
use Rattle.rgo_table_runs.proofs.closing.Closed.{has_row, is_there}
use Rattle.rgo_table_runs.proofs.closing.Rows.{all_rows, low, record_in}

-- ---- rows by number

numbered_at : (n : ℕ) (recs : List Record) (i : ℕ) (r : ℕ × Record) → get_elem? (numbered_from n recs) i ≡ some r
    → (r.0 ≡ n + i) × (get_elem? recs i ≡ some r.1)
numbered_at n [] i r e = absurd (some-ne-none r (sym e))
numbered_at n (c ∷ cs) zero r e =
    let q = some-injective (n, c) r e in
    ((let z : n ≡ r.0 = ap (λ (x : ℕ × Record). x.0) q in omega (arith, z)), ap (λ (x : ℕ × Record). some x.1) q)
numbered_at n (c ∷ cs) (suc i) r e = let t = numbered_at (suc n) cs i r e in ((let z = t.0 in omega (arith, z)), t.1)

at_number : (n : ℕ) (recs : List Record) (i : ℕ) (c : Record) → get_elem? recs i ≡ some c → get_elem? (numbered_from n recs) i ≡ some (n + i, c)
at_number n [] i c e = absurd (some-ne-none c (sym e))
at_number n (d ∷ ds) zero c e =
    let same : d ≡ c = some-injective d c e in
    let z : n ≡ n + 0 = omega arith in
    λ j. some (z j, same j)
at_number n (d ∷ ds) (suc i) c e =
    let z : suc n + i ≡ n + suc i = omega arith in
    at_number (suc n) ds i c e ∙ (λ j. some (z j, c))

module _ (recs : List Record) where
  numbered_row : (g : ℕ) (c : Record) → HasRow (numbered_rows recs) g c → get_elem? recs g ≡ some c
  numbered_row g c (k, e) =
      let t = numbered_at 0 recs k (g, c) e in
      subst (λ (n : ℕ). get_elem? recs n ≡ some c) (let z = t.0 in omega (arith, z)) t.1

  has_number : (g : ℕ) (c : Record) → get_elem? recs g ≡ some c → HasRow (numbered_rows recs) g c
  has_number g c at =
      let z : 0 + g ≡ g = omega arith in
      (g, subst (λ (n : ℕ). get_elem? (numbered_rows recs) g ≡ some (n, c)) z (at_number 0 recs g c at))

pub family_is_all : FamilyIsAll
family_is_all T words v e family calm = record {
  here = here;
  family = record {
    main = (family.main.0, row 0 family.main.0 family.main.1);
    children = λ g h i c has at. let d = family.children g h i c (here g c has) at in (d.0, row h d.0 d.1);
  };
  ascending = λ i r q a b.
      let x = (numbered_at 0 e.recs i r a).0 in
      let y = (numbered_at 0 e.recs (suc i) q b).0 in
      omega (arith, x, y);
  calm = λ g c has. calm g c (here g c has);
}
  where
    here : (g : ℕ) (c : Record) → HasRow (numbered_rows e.recs) g c → HasRow v.records g c
    here g c has = family_law T words v e family g c (get_of e.recs g c (numbered_row e.recs g c has))

    row : (g : ℕ) (c : Record) → HasRow v.records g c → HasRow (numbered_rows e.recs) g c
    row g c has = has_number e.recs g c (e.here g c has).0

-- ---- what they have counted

abbrev shares_in : List Record → Counts
shares_in [] = no_share
shares_in (c ∷ cs) = counts_plus c.clock.share (shares_in cs)

shares_of_rows : (rows : Rows Record) → shares_in (map record_in rows) ≡ all_shares rows
shares_of_rows [] = refl
shares_of_rows (r ∷ rows) = ap (counts_plus r.1.clock.share) (shares_of_rows rows)

sum_is : (recs : List Record) (shares : List Counts)
    → ((g : ℕ) (c : Record) → get_elem? recs g ≡ some c
    → (slice_get shares g ≡ Some c.clock.share) ⊎ ((length shares ≤ g) × (c.clock.share ≡ no_share)))
    → ((g : ℕ) (share : Counts) → slice_get shares g ≡ Some share → length recs ≤ g → share ≡ no_share)
    → sum_of shares ≡ shares_in recs
sum_is [] [] its others = refl
sum_is [] (s ∷ ss) its others =
    let a = others 0 s refl (omega arith) in
    let b = sum_is [] ss (λ g c e. absurd (some-ne-none c (sym e))) (λ g x e l. others (suc g) x e (omega arith)) in
    λ j. counts_plus (a j) (b j)
sum_is (c ∷ cs) [] its others =
    let a = ⊎_elim
    (λ (e : None ≡ Some c.clock.share). absurd (cc e))
    (λ (t : (0 ≤ 0) × (c.clock.share ≡ no_share)). sym t.1)
    (its 0 c refl) in
    let b = sum_is cs [] (λ g d e. later g d (its (suc g) d e)) (λ g x e l. absurd (cc e)) in
    λ j. counts_plus (a j) (b j)
  where
    later : (g : ℕ) (d : Record) → (None ≡ Some d.clock.share) ⊎ ((0 ≤ suc g) × (d.clock.share ≡ no_share))
        → (None ≡ Some d.clock.share) ⊎ ((0 ≤ g) × (d.clock.share ≡ no_share))
    later g d t = ⊎_elim
        (λ (e : None ≡ Some d.clock.share). inl e)
        (λ (n : (0 ≤ suc g) × (d.clock.share ≡ no_share)). inr (omega arith, n.1))
        t
sum_is (c ∷ cs) (s ∷ ss) its others =
    let a = ⊎_elim
    (λ (e : Some s ≡ Some c.clock.share). same_Some s c.clock.share e)
    (λ (t : (suc (length ss) ≤ 0) × (c.clock.share ≡ no_share)). absurd (let l = t.0 in omega (arith, l)))
    (its 0 c refl) in
    let b = sum_is cs ss (λ g d e. ⊎_elim
    (λ (q : slice_get ss g ≡ Some d.clock.share). inl q)
    (λ (n : (suc (length ss) ≤ suc g) × (d.clock.share ≡ no_share)). inr (let l = n.0 in omega (arith, l), n.1))
    (its (suc g) d e)) (λ g x e l. others (suc g) x e (omega arith)) in
    λ j. counts_plus (a j) (b j)

pub shares_are_all : SharesAreAll
shares_are_all T words v e rows shares all has =
    sum_is e.recs shares
    (λ g c at. has.its g c (all.here g c (has_row e rows all g c (get_of e.recs g c at))))
    (λ g share at l. ⊎_elim
    (λ (t : (c : Record) × HasRow v.records g c). absurd (let z = low e.recs g t.0 (e.here g t.0 t.1).0 in omega (arith, z, l)))
    (λ (none : share ≡ no_share). none)
    (has.others g share at))
    ∙ (ap shares_in (all_rows T words v e rows all) ∙ shares_of_rows rows)

-- ---- what they have printed

earlier : {A : Type 0} (xs : List A) (m n : ℕ) (x : A) → slice_get xs n ≡ Some x → m ≤ n → (y : A) × (slice_get xs m ≡ Some y)
earlier [] m n x e l = absurd (let z : None ≡ Some x = e in cc z)
earlier (y ∷ ys) zero n x e l = (y, refl)
earlier (y ∷ ys) (suc m) zero x e l = absurd (omega arith)
earlier (y ∷ ys) (suc m) (suc n) x e l = earlier ys m n x e (omega arith)

at_most : (a t : ℕ) → nat_le a t ≡ true → a ≤ t
at_most a t h = grind (arith, nat_tests)

fewer : (a t : ℕ) → nat_le a t ≡ false → t < a
fewer a t h = grind (arith, nat_tests)

module _ (T : Setup) (words : List ℕ) (v : View Record) (e : ClosesTable T words v) (rows : Rows Record) (given waiting : List Drawn)
    (all : AreAll v rows) (order : TicketsInOrder rows given) (k : AreGathered rows given waiting) where
  abbrev outcome : TableOutcome T words e.recs
  outcome = outcome_law T words v e

  print_at : (g i : ℕ) (d : Drawn) → HasDrawnAt e.recs g i d → SomePrinted rows d
  print_at g i d (c, at, there) = record {
    goroutine = g;
    its = c;
    has = has_row e rows all g c at;
    place = i;
    there = elem_of c.clock.prints i d there;
  }

  drawn_by : (d : Drawn) (p : SomePrinted rows d) → HasDrawnAt e.recs p.goroutine p.place d
  drawn_by d p = (p.its, is_there e rows all p.goroutine p.its p.has, get_of p.its.clock.prints p.place d p.there)

  -- the next one would be there, if a later one is
  none_beyond : (d : Drawn) → SomePrinted rows d → d.is_void ≡ false → length given ≤ d.ticket → ⊥
  none_beyond d p valid l =
      let piece = outcome.print.kept p.goroutine p.place d (drawn_by d p) valid in
      let next = earlier outcome.print.pieces (length given) d.ticket d.bytes piece l in
      let drawn = outcome.print.drawn (length given) next.0 next.1 in
      let it : Drawn = record { ticket = length given; bytes = next.0; is_void = false } in
      ⊎_elim
      (λ (t : IsDrawnIn given it). let a = order.next t.0 it t.1 in let b = low given t.0 it t.1 in omega (arith, a, b))
      (λ (t : IsDrawnIn waiting it). k.next it t refl)
      (k.each it (print_at drawn.0 drawn.1 it drawn.2) refl)

  by : (d : Drawn) → SomePrinted rows d → d.is_void ≡ false → (b : Bool) → nat_le (length given) d.ticket ≡ b → d.ticket < length given
  by d p valid true q = absurd (none_beyond d p valid (at_most (length given) d.ticket q))
  by d p valid false q = fewer (length given) d.ticket q

  pub all_given : (d : Drawn) → SomePrinted rows d → d.is_void ≡ false → d.ticket < length given
  all_given d p valid = by d p valid (nat_le (length given) d.ticket) refl

pub gathered_are_given : GatheredAreGiven
gathered_are_given T words v e rows given waiting all order k d p valid = all_given T words v e rows given waiting all order k d p valid
