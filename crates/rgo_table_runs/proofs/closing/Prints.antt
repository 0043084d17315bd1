-- What a driver has given out is a beginning of the print, or all of it. Each print is at the place of its ticket in both lists, which is
-- all that the comparison needs.
use Rattle.std.proofs.Common.{◌≡◌, ℕ, zero, suc, ◌<◌, ◌≤◌, ◌==◌, nat_le, false, List, [], ◌∷◌, ◌++◌, Option, Some, None, length, map, take, slice_get, count_by, refl, ap, sym, subst, ◌∙◌, arith, length-append, append_assoc}
use Rattle.std.proofs.lemmas.Bool.Decides.{nat_tests}
use mathlib.Core.Logic.{dite}
use native.Mathlib.Decide.{ℕ_discrete}
use mathlib.Core.Option.{some, some-injective, some-ne-none}
use lib.ListN.{get_elem?}
use Rattle.rgo_core.proofs.Lists.{cond_other, count_first, elem_of, get_of}
use Rattle.rgo_core.specs.ties.Clock.{Clock, has_ticket}
use Rattle.rgo_core.specs.Records.{ClockRec, Drawn, Record}
use Rattle.rgo_core.specs.Rule.Lists.{flattened}
use Rattle.rgo_core.specs.Rule.Views.{HasRow, Rows}
use Rattle.rgo_sound.specs.RegionMachine.States.{Mark, RegionState}
use Rattle.rgo_table_runs.specs.closing.Ends.{IsFirst}
use Rattle.rgo_table_runs.specs.closing.Prints.{AllGiven, TicketsInOrder, SomePrinted, drawn_bytes, bytes_of}
use Rattle.rgo_table_runs.proofs.closing.Rows.{some_part}

-- ---- lists

-- a list whose elements are at the same places of another one is its beginning
begins : {A : Type 0} (xs ys : List A) → ((i : ℕ) (x : A) → get_elem? xs i ≡ some x → get_elem? ys i ≡ some x)
    → (length xs ≤ length ys) × (xs ≡ take (length xs) ys)
begins [] ys h = (omega arith, refl)
begins (x ∷ xs) [] h = absurd (some-ne-none x (sym (h 0 x refl)))
begins (x ∷ xs) (y ∷ ys) h =
    let r = begins xs ys (λ i z e. h (suc i) z e) in
    let same : y ≡ x = some-injective y x (h 0 x refl) in
    ((let a = r.0 in omega arith), (λ i. sym same i ∷ r.1 i))

map_at : (ds : List Drawn) (i : ℕ) (b : List ℕ) → get_elem? (map drawn_bytes ds) i ≡ some b
    → (d : Drawn) × (get_elem? ds i ≡ some d) × (d.bytes ≡ b)
map_at [] i b e = absurd (some-ne-none b (sym e))
map_at (d ∷ ds) zero b e = (d, refl, some-injective d.bytes b e)
map_at (d ∷ ds) (suc i) b e = map_at ds i b e

front : {A : Type 0} (xs ys : List A) (i : ℕ) (x : A) → i < length xs → get_elem? (xs ++ ys) i ≡ some x → get_elem? xs i ≡ some x
front [] ys i x h e = absurd (omega arith)
front (z ∷ xs) ys zero x h e = e
front (z ∷ xs) ys (suc i) x h e = front xs ys i x (omega arith) e

-- some of a beginning is some of the whole
pub take_front : (xs ys : List ℕ) (n : ℕ) → (m : ℕ) × (take n xs ≡ take m (xs ++ ys))
take_front [] ys zero = (0, refl)
take_front [] ys (suc n) = (0, refl)
take_front (x ∷ xs) ys zero = (0, refl)
take_front (x ∷ xs) ys (suc n) = let r = take_front xs ys n in (suc r.0, ap (λ (l : List ℕ). x ∷ l) r.1)

pub flattened_front : (xss : List (List ℕ)) (k : ℕ) → (rest : List ℕ) × (flattened xss ≡ flattened (take k xss) ++ rest)
flattened_front xss zero = (flattened xss, refl)
flattened_front [] (suc k) = ([], refl)
flattened_front (xs ∷ xss) (suc k) =
    let r = flattened_front xss k in
    (r.0, ap (λ (l : List ℕ). xs ++ l) r.1 ∙ sym (append_assoc xs (flattened (take k xss)) r.0))

long_map : (ds : List Drawn) → length (map drawn_bytes ds) ≡ length ds
long_map [] = refl
long_map (d ∷ ds) = ap suc (long_map ds)

take_whole : (xs : List (List ℕ)) (n : ℕ) → length xs ≤ n → take n xs ≡ xs
take_whole [] zero h = refl
take_whole [] (suc n) h = refl
take_whole (x ∷ xs) zero h = absurd (omega arith)
take_whole (x ∷ xs) (suc n) h = ap (λ (l : List (List ℕ)). x ∷ l) (take_whole xs n (omega arith))

not_void : (a t : ℕ) → t < a → nat_le a t ≡ false
not_void a t h = grind (arith, nat_tests)

before_end : (a t : ℕ) → nat_le a t ≡ false → t < a
before_end a t h = grind (arith, nat_tests)

-- a ticket that was drawn has a print
some_drawn : (t : ℕ) (ds : List Drawn) → 0 < count_by (λ (d : Drawn). d.ticket == t) ds
    → (i : ℕ) × (d : Drawn) × (get_elem? ds i ≡ some d) × (d.ticket ≡ t)
some_drawn t [] h = absurd (omega arith)
some_drawn t (d ∷ ds) h = dite (ℕ_discrete d.ticket t)
    (λ e. (0, d, refl, e))
    (λ ne.
    let a = count_first (λ (x : Drawn). x.ticket == t) d ds in
    let b = cond_other d.ticket t ne in
    let r = some_drawn t ds (omega arith) in
    (suc r.0, r.1, r.2, r.3))

-- ---- the clock and what was given out

module _ (words : List ℕ) (recs : List ClockRec) (s : RegionState) (before late : List (List ℕ)) (k : Clock words recs s before late)
    (rows : Rows Record) (here : (g : ℕ) (c : Record) → HasRow rows g c → slice_get recs g ≡ Some c.clock)
    (row_of : (g : ℕ) (c : ClockRec) → slice_get recs g ≡ Some c → (d : Record) × HasRow rows g d × (d.clock ≡ c)) where
  pieces : (d : Drawn) → SomePrinted rows d → (slice_get (before ++ late) d.ticket ≡ Some d.bytes) × (d.is_void ≡ nat_le (length before) d.ticket)
  pieces d p = k.pieces p.goroutine p.place p.its.clock d (here p.goroutine p.its p.has) (get_of p.its.clock.prints p.place d p.there)

  valid_before : (d : Drawn) → SomePrinted rows d → d.ticket < length before → d.is_void ≡ false
  valid_before d p l = (pieces d p).1 ∙ not_void (length before) d.ticket l

  print_of : (g : ℕ) (c : ClockRec) (own : Record) → HasRow rows g own → own.clock ≡ c → (i : ℕ) (d : Drawn) → get_elem? c.prints i ≡ some d
      → SomePrinted rows d
  print_of g c own has is i d at = record {
    goroutine = g;
    its = own;
    has = has;
    place = i;
    there = subst (λ (x : ClockRec). get_elem? x.prints i ≡ some d) (sym is) at;
  }

  module _ (given : List Drawn) (order : TicketsInOrder rows given) where
    -- what went out is a beginning of the pieces
    pub first_pieces : (length given ≤ length before) × (bytes_of given ≡ flattened (take (length given) before))
    first_pieces =
        let l = long_map given in
        let r = begins (map drawn_bytes given) before each in
        (omega (arith, r.0, l), ap flattened r.1 ∙ ap (λ (n : ℕ). flattened (take n before)) l)
      where
        each : (i : ℕ) (b : List ℕ) → get_elem? (map drawn_bytes given) i ≡ some b → get_elem? before i ≡ some b
        each i b e =
            let m = map_at given i b e in
            let v = pieces m.0 (order.are i m.0 m.1) in
            let t = order.next i m.0 m.1 in
            let small = before_end (length before) m.0.ticket (sym v.1 ∙ order.valid i m.0 m.1) in
            let at : get_elem? (before ++ late) i ≡ some b = subst (λ (n : ℕ). get_elem? (before ++ late) n ≡ some b) t
            (elem_of (before ++ late) m.0.ticket b (v.0 ∙ ap (λ (x : List ℕ). Some x) m.2)) in
            front before late i b (omega (arith, small, t)) at

    -- it is all of them where no other print is left
    pub all_pieces : AllGiven rows given → bytes_of given ≡ flattened before
    all_pieces all =
        let f = first_pieces in
        f.1 ∙ ap flattened (take_whole before (length given) (dite (ℕ_discrete (length given) (length before)) (λ e. omega arith) missing))
      where
        missing : (length given ≡ length before → ⊥) → length before ≤ length given
        missing ne =
            let f = first_pieces in
            let l = length-append before late in
            let one = k.once (length given) (omega (arith, f.0, ne, l)) in
            let r = some_part (has_ticket (length given)) recs (omega arith) in
            let d = some_drawn (length given) r.1.prints r.3 in
            let own = row_of r.0 r.1 r.2 in
            let p = print_of r.0 r.1 own.0 own.1 own.2 d.0 d.1 d.2 in
            let t = d.3 in
            let v = valid_before d.1 p (omega (arith, f.0, ne, t)) in
            absurd (let z = all d.1 p v in omega (arith, z, t))

  -- it is known from the record that has set the mark
  pub no_mark : IsFirst rows None → s.mark ≡ None
  no_mark none = go s.mark refl
    where
      go : (m : Option Mark) → s.mark ≡ m → s.mark ≡ None
      go None e = e
      go (Some mark) e =
          let t = k.setter mark e in
          let own = row_of t.0 t.1 t.2 in
          let q : None ≡ Some mark = sym (none t.0 own.0 own.1) ∙ (ap (λ (c : ClockRec). c.first) own.2 ∙ t.3) in
          absurd (cc q)

  pub its_mark : (mark : Mark) → IsFirst rows (Some mark) → s.mark ≡ Some mark
  its_mark mark f = k.first f.0 f.1.clock mark (here f.0 f.1 f.2) f.3
