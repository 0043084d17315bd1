-- The clock after a print, after an end, and after any other step. Sums over all records change by the one that acts. After a print the
-- hard field is `pieces`: an old ticket is below the new one.
use Rattle.std.proofs.Common.{◌≡◌, ◌≢◌, ℕ, ◌+◌, ◌*◌, ◌%◌, ◌^◌, ◌<◌, ◌≤◌, ◌==◌, nat_le, Bool, true, false, List, [], ◌∷◌, ◌++◌, Option, Some, None, length, slice_get, slice_set, slice_index, if◌then◌else◌, sum_by, bit_or, refl, ap, sym, subst, ◌∙◌, ⊎_elim, arith, append_assoc, length-append}
use Rattle.std.proofs.lemmas.Bool.Decides.{nat_tests}
use Rattle.std.proofs.lemmas.List.{append-nil}
use Rattle.std.proofs.lemmas.List.Sums.{sum_by_push}
use Rattle.std.proofs.lemmas.Nat.{or_block}
use Rattle.std.proofs.lemmas.Option.{same_Some}
use Rattle.std.specs.Int.Bits.{or_zero_r}
use Rattle.std.specs.Option.{option_len}
use mathlib.Core.Logic.{dite}
use native.Mathlib.Decide.{ℕ_discrete}
use Rattle.rgo_core_memory.proofs.Rows.{at_set, below, set_else, set_here}
use Rattle.rgo_core_rule.specs.Lists.{flattened}
use Rattle.rgo_sound.specs.RegionMachine.Instructions.{printed_if}
use Rattle.rgo_sound.specs.RegionMachine.States.{Mark, RegionState}
use Rattle.rgo_sound.proofs.Places.{get_append_last, get_snoc, get_front}
use Rattle.rgo_core.specs.ties.Clock.{Clock, has_set, has_ticket, prints_in}
use Rattle.rgo_core.specs.moves.Clock.{first_mark, first_set}
use Rattle.rgo_core.specs.Records.{ClockRec, Drawn, drawn_at, end_bit, has_ended}
use Rattle.rgo_core.proofs.Lists.{cond_other, cond_same, count_push, flattened_snoc, one_if, sum_most, sum_same, sum_set, word_new}

yes_le : (a b : ℕ) → a ≤ b → nat_le a b ≡ true
yes_le a b h = grind (arith, nat_tests)

pub no_le : (a b : ℕ) → b < a → nat_le a b ≡ false
no_le a b h = grind (arith, nat_tests)

at_most_one : {A : Type 0} (o : Option A) → option_len o ≤ 1
at_most_one None = omega arith
at_most_one (Some x) = omega arith

none_set : (o : Option Mark) → ((m : Mark) → o ≡ Some m → ⊥) → option_len o ≤ 0
none_set None h = omega arith
none_set (Some m) h = absurd (h m refl)

-- the clock has room for one ticket more
pub room : (words : List ℕ) (recs : List ClockRec) (s : RegionState) (before late : List (List ℕ)) → Clock words recs s before late
    → length recs ≤ 1000000 → length (before ++ late) < 9223372036854775807
room words recs s before late k few =
    let most = sum_most prints_in recs (2 ^ 43) k.bound in
    let amount = k.amount in
    let m : length recs * 2 ^ 43 ≤ 1000000 * 2 ^ 43 = omega arith in
    omega arith

-- ---- a record that has printed nothing more

module _ (words : List ℕ) (recs : List ClockRec) (s : RegionState) (before late : List (List ℕ)) (g : ℕ) (c d : ClockRec)
    (k : Clock words recs s before late) (at : slice_get recs g ≡ Some c) (same : d.prints ≡ c.prints) where
  abbrev recs' : List ClockRec
  recs' = slice_set recs g d

  abbrev tape : List (List ℕ)
  tape = before ++ late

  once_same : (t : ℕ) → sum_by (has_ticket t) recs' ≡ sum_by (has_ticket t) recs
  once_same t = sum_same (has_ticket t) recs g c d at (ap (Rattle.std.specs.Prelude.count_by (λ (d : Drawn). d.ticket == t)) same)

  pieces_same : (h i : ℕ) (y : ClockRec) (z : Drawn) → slice_get recs' h ≡ Some y → slice_get y.prints i ≡ Some z
      → (slice_get tape z.ticket ≡ Some z.bytes) × (z.is_void ≡ nat_le (length before) z.ticket)
  pieces_same h i y z e e' = ⊎_elim
      (λ (t : (h ≡ g) × (d ≡ y)). k.pieces g i c z at (ap (λ (l : List Drawn). slice_get l i) (sym same ∙ ap (λ (u : ClockRec). u.prints) t.1) ∙ e'))
      (λ (t : (h ≢ g) × (slice_get recs h ≡ Some y)). k.pieces h i y z t.1 e')
      (at_set recs g h d y e)

  amount_same : sum_by prints_in recs' ≡ length tape
  amount_same = sum_same prints_in recs g c d at (ap length same) ∙ k.amount

  bound_same : (h : ℕ) (y : ClockRec) → slice_get recs' h ≡ Some y → length y.prints ≤ 2 ^ 43
  bound_same h y e = ⊎_elim
      (λ (t : (h ≡ g) × (d ≡ y)). subst (λ (l : List Drawn). length l ≤ 2 ^ 43) (sym same ∙ ap (λ (u : ClockRec). u.prints) t.1) (k.bound g c at))
      (λ (t : (h ≢ g) × (slice_get recs h ≡ Some y)). k.bound h y t.1)
      (at_set recs g h d y e)

  -- the record that has set the mark has still set it
  setter_same : d.first ≡ c.first → (mark : Mark) → (h : ℕ) × (y : ClockRec) × (slice_get recs h ≡ Some y) × (y.first ≡ Some mark)
      → (h : ℕ) × (y : ClockRec) × (slice_get recs' h ≡ Some y) × (y.first ≡ Some mark)
  setter_same first mark (h, y, e, f) = dite (ℕ_discrete h g)
      (λ q. (g, d, set_here recs g d c at, first ∙ (ap (λ (u : ClockRec). u.first) (same_Some c y (sym at ∙ (ap (λ z. slice_get recs z) (sym q) ∙ e))) ∙ f)))
      (λ ne. (h, y, set_else recs g h d ne ∙ e, f))

  sole_same : d.first ≡ c.first → sum_by has_set recs' ≤ 1
  sole_same first = let s = sum_same has_set recs g c d at (ap option_len first) in let o = k.sole in omega arith

  -- a step that neither prints nor ends the run
  pub clock_same : (more : List ℕ) (next : RegionState) → d.first ≡ c.first → slice_index more 0 ≡ slice_index words 0 → next.mark ≡ s.mark
      → next.plain.printed ≡ s.plain.printed → Clock more recs' next before late
  clock_same more next first word mark print = record {
    shows = word ∙ (k.shows ∙ ap (λ (m : Option Mark). length tape + end_bit m) (sym mark));
    print = print ∙ k.print;
    void = λ e. k.void (sym mark ∙ e);
    once = λ t h. once_same t ∙ k.once t h;
    none_later = λ t h. once_same t ∙ k.none_later t h;
    pieces = pieces_same;
    amount = amount_same;
    bound = bound_same;
    first = λ h y m e f. mark ∙ ⊎_elim
        (λ (t : (h ≡ g) × (d ≡ y)). k.first g c m at (sym first ∙ (ap (λ (u : ClockRec). u.first) t.1 ∙ f)))
        (λ (t : (h ≢ g) × (slice_get recs h ≡ Some y)). k.first h y m t.1 f)
        (at_set recs g h d y e);
    setter = λ m e. setter_same first m (k.setter m (sym mark ∙ e));
    sole = sole_same first;
  }

  -- ---- an end

  module _ (next : RegionState) (mark : Mark) (wide : 0 < length words) (low : length tape < 9223372036854775807)
      (first : d.first ≡ first_set (slice_index words 0) c.first mark) (marked : next.mark ≡ first_mark s.mark mark)
      (print : next.plain.printed ≡ s.plain.printed) where
    abbrev word : ℕ
    word = slice_index words 0

    -- if the run had not ended, the record has set the mark; otherwise it keeps what it had
    pub is_first : s.mark ≡ None → (d.first ≡ Some mark) × (next.mark ≡ Some mark)
    is_first e = let h = k.shows in let z = ap end_bit e in (
      first ∙ ap (λ (b : Bool). if b then c.first else Some mark) (no_le 9223372036854775808 word (omega arith)),
      marked ∙ ap (λ (o : Option Mark). first_mark o mark) e,
    )

    pub is_later : (m : Mark) → s.mark ≡ Some m → (d.first ≡ c.first) × (next.mark ≡ Some m)
    is_later m e = let h = k.shows in let z = ap end_bit e in (
      first ∙ ap (λ (b : Bool). if b then c.first else Some mark) (yes_le 9223372036854775808 word (omega arith)),
      marked ∙ ap (λ (o : Option Mark). first_mark o mark) e,
    )

    sets_end : (a : ℕ) → bit_or a 1 ≡ 1 → bit_or (a * 2 ^ 63 + length tape) 9223372036854775808 ≡ length tape + 9223372036854775808
    sets_end a one =
        let b = or_block 63 a 1 (length tape) 0 (omega arith) (omega arith) in
        let z = or_zero_r (length tape) in
        let j : bit_or (a * 2 ^ 63 + length tape) (1 * 2 ^ 63 + 0) ≡ 1 * 2 ^ 63 + length tape = b ∙ (λ i. one i * 2 ^ 63 + z i) in
        j ∙ omega arith

    ended_word : bit_or word 9223372036854775808 ≡ length tape + 9223372036854775808
    ended_word = go s.mark refl
      where
        go : (m : Option Mark) → s.mark ≡ m → bit_or word 9223372036854775808 ≡ length tape + 9223372036854775808
        go (Some m) e = let h : word ≡ 1 * 2 ^ 63 + length tape = omega (arith, k.shows, ap end_bit e) in rw h (sets_end 1 refl)
        go None e = let h : word ≡ 0 * 2 ^ 63 + length tape = omega (arith, k.shows, ap end_bit e) in rw h (sets_end 0 refl)

    some_mark : end_bit next.mark ≡ 9223372036854775808
    some_mark = go s.mark marked
      where
        go : (m : Option Mark) → next.mark ≡ first_mark m mark → end_bit next.mark ≡ 9223372036854775808
        go None q = rw q refl
        go (Some m) q = rw q refl

    says : (w : Mark) → d.first ≡ Some w → next.mark ≡ Some w
    says w q = go s.mark refl
      where
        go : (m : Option Mark) → s.mark ≡ m → next.mark ≡ Some w
        go None e = let z = is_first e in z.1 ∙ (sym z.0 ∙ q)
        go (Some m) e = let z = is_later m e in z.1 ∙ (sym e ∙ k.first g c w at (sym z.0 ∙ q))

    others_say : (h : ℕ) (y : ClockRec) (w : Mark) → slice_get recs h ≡ Some y → y.first ≡ Some w → next.mark ≡ Some w
    others_say h y w q f = (is_later w (k.first h y w q f)).1

    who_set : (w : Mark) → next.mark ≡ Some w → (h : ℕ) × (y : ClockRec) × (slice_get recs' h ≡ Some y) × (y.first ≡ Some w)
    who_set w q = go s.mark refl
      where
        go : (m : Option Mark) → s.mark ≡ m → (h : ℕ) × (y : ClockRec) × (slice_get recs' h ≡ Some y) × (y.first ≡ Some w)
        go None e = let z = is_first e in (g, d, set_here recs g d c at, z.0 ∙ (sym z.1 ∙ q))
        go (Some m) e = let z = is_later m e in setter_same z.0 w (k.setter w (e ∙ (sym z.1 ∙ q)))

    -- no record has set the mark while the run has none
    sole_now : sum_by has_set recs' ≤ 1
    sole_now = go s.mark refl
      where
        nobody : s.mark ≡ None → (h : ℕ) (y : ClockRec) → slice_get recs h ≡ Some y → has_set y ≤ 0
        nobody e h y q = none_set y.first (λ m f. let z : None ≡ Some m = sym e ∙ k.first h y m q f in cc z)

        go : (m : Option Mark) → s.mark ≡ m → sum_by has_set recs' ≤ 1
        go (Some m) e = sole_same (is_later m e).0
        go None e =
            let z = sum_most has_set recs 0 (nobody e) in
            let t = sum_set has_set recs g c d at in
            let o = at_most_one d.first in
            omega arith

    pub clock_end : Clock (slice_set words 0 (bit_or word 9223372036854775808)) recs' next before late
    clock_end = record {
      shows = word_new words 0 _ wide ∙ (let z = ended_word in let m = some_mark in omega arith);
      print = print ∙ k.print;
      void = λ q. let z = ap end_bit q in let m = some_mark in absurd (omega arith);
      once = λ t h. once_same t ∙ k.once t h;
      none_later = λ t h. once_same t ∙ k.none_later t h;
      pieces = pieces_same;
      amount = amount_same;
      bound = bound_same;
      first = λ h y w e f. ⊎_elim
          (λ (t : (h ≡ g) × (d ≡ y)). says w (ap (λ (u : ClockRec). u.first) t.1 ∙ f))
          (λ (t : (h ≢ g) × (slice_get recs h ≡ Some y)). others_say h y w t.1 f)
          (at_set recs g h d y e);
      setter = who_set;
      sole = sole_now;
    }

-- ---- a print

abbrev pub before_after : Option Mark → List (List ℕ) → List ℕ → List (List ℕ)
before_after None before b = before ++ b ∷ []
before_after (Some mark) before b = before

abbrev pub late_after : Option Mark → List (List ℕ) → List ℕ → List (List ℕ)
late_after None late b = late
late_after (Some mark) late b = late ++ b ∷ []

module _ (words : List ℕ) (recs : List ClockRec) (s next : RegionState) (before late : List (List ℕ)) (g : ℕ) (c d : ClockRec) (b : List ℕ)
    (k : Clock words recs s before late) (at : slice_get recs g ≡ Some c) (few : length c.prints < 2 ^ 43)
    (low : length (before ++ late) < 9223372036854775807) (wide : 0 < length words)
    (more_prints : d.prints ≡ c.prints ++ drawn_at (slice_index words 0) b ∷ []) (same_first : d.first ≡ c.first)
    (marked : next.mark ≡ s.mark) (prints : next.plain.printed ≡ printed_if s.mark s.plain.printed (s.plain.printed ++ b)) where
  abbrev n : ℕ
  n = slice_index words 0

  abbrev new : Drawn
  new = drawn_at n b

  abbrev sofar : List (List ℕ)
  sofar = before ++ late

  abbrev more : List (List ℕ)
  more = before_after s.mark before b ++ late_after s.mark late b

  grown : more ≡ sofar ++ b ∷ []
  grown = go s.mark refl
    where
      go : (m : Option Mark) → s.mark ≡ m → before_after m before b ++ late_after m late b ≡ sofar ++ b ∷ []
      go None e = let none = k.void e in rw none (append-nil (before ++ b ∷ []) ∙ ap (λ (z : List (List ℕ)). z ++ b ∷ []) (sym (append-nil before)))
      go (Some m) e = sym (append_assoc before late (b ∷ []))

  number : n % 9223372036854775808 ≡ length sofar
  number = go s.mark refl
    where
      go : (e : Option Mark) → s.mark ≡ e → n % 9223372036854775808 ≡ length sofar
      go (Some m) e = let h = k.shows in let z = ap end_bit e in omega arith
      go None e = let h = k.shows in let z = ap end_bit e in omega arith

  small : n + 1 < 18446744073709551616
  small = go s.mark refl
    where
      go : (e : Option Mark) → s.mark ≡ e → n + 1 < 18446744073709551616
      go (Some m) e = let h = k.shows in let z = ap end_bit e in omega arith
      go None e = let h = k.shows in let z = ap end_bit e in omega arith

  once_more : (t : ℕ) → sum_by (has_ticket t) (slice_set recs g d) ≡ sum_by (has_ticket t) recs + one_if (length sofar == t)
  once_more t =
      let s = sum_set (has_ticket t) recs g c d at in
      let a : has_ticket t d ≡ has_ticket t c + one_if (n % 9223372036854775808 == t) =
      ap (Rattle.std.specs.Prelude.count_by (λ (d : Drawn). d.ticket == t)) more_prints ∙ count_push (λ (d : Drawn). d.ticket == t) c.prints new in
      let z : one_if (n % 9223372036854775808 == t) ≡ one_if (length sofar == t) = ap (λ (x : ℕ). one_if (x == t)) number in
      omega arith

  printed : next.plain.printed ≡ flattened (before_after s.mark before b)
  printed = prints ∙ go s.mark
    where
      go : (m : Option Mark) → printed_if m s.plain.printed (s.plain.printed ++ b) ≡ flattened (before_after m before b)
      go None = ap (λ (z : List ℕ). z ++ b) k.print ∙ sym (flattened_snoc before b)
      go (Some m) = k.print

  all_before : s.mark ≡ None → length sofar ≡ length before
  all_before e = ap (λ (z : List (List ℕ)). length (before ++ z)) (k.void e) ∙ ap length (append-nil before)

  new_void : has_ended n ≡ nat_le (length (before_after s.mark before b)) (n % 9223372036854775808)
  new_void = go s.mark refl
    where
      go : (m : Option Mark) → s.mark ≡ m → has_ended n ≡ nat_le (length (before_after m before b)) (n % 9223372036854775808)
      go None e =
          let h = k.shows in let z = ap end_bit e in let l = length-append before (b ∷ []) in let m = number in let tl = all_before e in
          no_le 9223372036854775808 n (omega arith) ∙ sym (no_le (length (before ++ b ∷ [])) (n % 9223372036854775808) (omega arith))
      go (Some m) e =
          let h = k.shows in let z = ap end_bit e in let l = length-append before late in let q = number in
          yes_le 9223372036854775808 n (omega arith) ∙ sym (yes_le (length before) (n % 9223372036854775808) (omega arith))

  old_void : (t : ℕ) → t < length sofar → nat_le (length before) t ≡ nat_le (length (before_after s.mark before b)) t
  old_void t h = go s.mark refl
    where
      go : (m : Option Mark) → s.mark ≡ m → nat_le (length before) t ≡ nat_le (length (before_after m before b)) t
      go None e =
          let tl = all_before e in let l = length-append before (b ∷ []) in
          no_le (length before) t (omega arith) ∙ sym (no_le (length (before ++ b ∷ [])) t (omega arith))
      go (Some m) e = refl

  none_late : next.mark ≡ None → late_after s.mark late b ≡ []
  none_late e = go s.mark refl
    where
      go : (m : Option Mark) → s.mark ≡ m → late_after m late b ≡ []
      go None q = k.void q
      go (Some m) q = let z : Some m ≡ None = sym q ∙ (sym marked ∙ e) in absurd (cc z)

  -- an old piece, and the new one
  old_piece : (h i : ℕ) (y : ClockRec) (z : Drawn) → slice_get recs h ≡ Some y → slice_get y.prints i ≡ Some z
      → (slice_get more z.ticket ≡ Some z.bytes) × (z.is_void ≡ nat_le (length (before_after s.mark before b)) z.ticket)
  old_piece h i y z e e' = let p = k.pieces h i y z e e' in (
    ap (λ (l : List (List ℕ)). slice_get l z.ticket) grown ∙ get_front sofar (b ∷ []) z.ticket z.bytes p.0,
    p.1 ∙ old_void z.ticket (below sofar z.ticket z.bytes p.0),
  )

  new_piece : (z : Drawn) → z ≡ new → (slice_get more z.ticket ≡ Some z.bytes) × (z.is_void ≡ nat_le (length (before_after s.mark before b)) z.ticket)
  new_piece z q = rw q (ap (λ (l : List (List ℕ)). slice_get l (n % 9223372036854775808)) grown ∙ get_append_last sofar b (n % 9223372036854775808) number, new_void)

  pub clock_print : Clock (slice_set words 0 ((n + 1) % 18446744073709551616)) (slice_set recs g d) next (before_after s.mark before b) (late_after s.mark late b)
  clock_print = record {
    shows = word_new words 0 _ wide
        ∙ (let h = k.shows in let l = length-append sofar (b ∷ []) in let s = small in let g' = ap length grown in let m = ap end_bit marked in omega arith);
    print = printed;
    void = none_late;
    once = λ t h. let gl = ap length grown in let l = length-append sofar (b ∷ []) in let m = once_more t in dite (ℕ_discrete (length sofar) t)
        (λ e. let z = cond_same (length sofar) t e in let o = k.none_later t (omega arith) in omega arith)
        (λ ne. let z = cond_other (length sofar) t ne in let o = k.once t (omega arith) in omega arith);
    none_later = λ t h.
        let gl = ap length grown in let l = length-append sofar (b ∷ []) in let m = once_more t in
        let z = cond_other (length sofar) t (λ e. omega arith) in let o = k.none_later t (omega arith) in omega arith;
    pieces = λ h i y z e e'. ⊎_elim
        (λ (t : (h ≡ g) × (d ≡ y)). ⊎_elim
        (λ (q : slice_get c.prints i ≡ Some z). old_piece g i c z at q)
        (λ (q : (i ≡ length c.prints) × (z ≡ new)). new_piece z q.1)
        (get_snoc c.prints new i z (ap (λ (l : List Drawn). slice_get l i) (sym more_prints ∙ ap (λ (u : ClockRec). u.prints) t.1) ∙ e')))
        (λ (t : (h ≢ g) × (slice_get recs h ≡ Some y)). old_piece h i y z t.1 e')
        (at_set recs g h d y e);
    amount =
        let s = sum_set prints_in recs g c d at in let l = length-append c.prints (new ∷ []) in let p = ap length more_prints in
        let m = length-append sofar (b ∷ []) in let gl = ap length grown in let a = k.amount in omega arith;
    bound = λ h y e. ⊎_elim
        (λ (t : (h ≡ g) × (d ≡ y)). let l = length-append c.prints (new ∷ []) in let p = ap length more_prints in
        subst (λ (u : ClockRec). length u.prints ≤ 2 ^ 43) t.1 (omega arith))
        (λ (t : (h ≢ g) × (slice_get recs h ≡ Some y)). k.bound h y t.1)
        (at_set recs g h d y e);
    first = λ h y m e f. marked ∙ ⊎_elim
        (λ (t : (h ≡ g) × (d ≡ y)). k.first g c m at (sym same_first ∙ (ap (λ (u : ClockRec). u.first) t.1 ∙ f)))
        (λ (t : (h ≢ g) × (slice_get recs h ≡ Some y)). k.first h y m t.1 f)
        (at_set recs g h d y e);
    setter = λ m e. setter_after m (k.setter m (sym marked ∙ e));
    sole = let s = sum_same has_set recs g c d at (ap option_len same_first) in let o = k.sole in omega arith;
  }
    where
      setter_after : (m : Mark) → (h : ℕ) × (y : ClockRec) × (slice_get recs h ≡ Some y) × (y.first ≡ Some m)
          → (h : ℕ) × (y : ClockRec) × (slice_get (slice_set recs g d) h ≡ Some y) × (y.first ≡ Some m)
      setter_after m (h, y, e, f) = dite (ℕ_discrete h g)
          (λ q. (g, d, set_here recs g d c at, same_first ∙ (ap (λ (u : ClockRec). u.first) (same_Some c y (sym at ∙ (ap (λ z. slice_get recs z) (sym q) ∙ e))) ∙ f)))
          (λ ne. (h, y, set_else recs g h d ne ∙ e, f))

-- a goroutine that has done nothing does not change the clock
pub clock_child : (words : List ℕ) (recs : List ClockRec) (s : RegionState) (before late : List (List ℕ)) (child : ClockRec)
    → child.prints ≡ [] → child.first ≡ None → Clock words recs s before late → Clock words (recs ++ child ∷ []) s before late
clock_child words recs s before late child no_prints no_first k = record {
  shows = k.shows;
  print = k.print;
  void = k.void;
  once = λ t h. none_more (has_ticket t) (ap (Rattle.std.specs.Prelude.count_by (λ (d : Drawn). d.ticket == t)) no_prints) ∙ k.once t h;
  none_later = λ t h. none_more (has_ticket t) (ap (Rattle.std.specs.Prelude.count_by (λ (d : Drawn). d.ticket == t)) no_prints) ∙ k.none_later t h;
  pieces = λ g i c d e e'. ⊎_elim (λ t. k.pieces g i c d t e')
      (λ (t : (g ≡ length recs) × (c ≡ child)). absurd (no_piece i d (ap (λ (l : List Drawn). slice_get l i) (sym no_prints ∙ ap (λ (y : ClockRec). y.prints) (sym t.1)) ∙ e')))
      (get_snoc recs child g c e);
  amount = none_more prints_in (ap length no_prints) ∙ k.amount;
  bound = λ g c e. ⊎_elim (λ t. k.bound g c t)
      (λ (t : (g ≡ length recs) × (c ≡ child)). let z = ap length (ap (λ (y : ClockRec). y.prints) t.1 ∙ no_prints) in omega arith)
      (get_snoc recs child g c e);
  first = λ g c m e f. ⊎_elim (λ t. k.first g c m t f)
      (λ (t : (g ≡ length recs) × (c ≡ child)). absurd (not_first m (sym no_first ∙ (ap (λ (y : ClockRec). y.first) (sym t.1) ∙ f))))
      (get_snoc recs child g c e);
  setter = λ m e. let s = k.setter m e in (s.0, s.1, get_front recs (child ∷ []) s.0 s.1 s.2, s.3);
  sole = let s = none_more has_set (ap option_len no_first) in let o = k.sole in omega arith;
}
  where
    none_more : (f : ClockRec → ℕ) → f child ≡ 0 → sum_by f (recs ++ child ∷ []) ≡ sum_by f recs
    none_more f z = let t = sum_by_push f recs child in omega arith

    no_piece : (i : ℕ) (d : Drawn) → slice_get [] i ≡ Some d → ⊥
    no_piece i d e = let z : None ≡ Some d = e in cc z

    not_first : (m : Mark) → None ≡ Some m → ⊥
    not_first m e = cc e
