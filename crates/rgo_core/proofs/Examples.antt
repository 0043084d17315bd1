-- The examples: small clocks, numbers and tables, each computed or refuted by one field.
use Rattle.std.proofs.Common.{◌≡◌, ℕ, zero, suc, ◌+◌, ◌<◌, ◌≤◌, ◌==◌, nat_le, nat_lt, true, false, List, [], ◌∷◌, ◌++◌, Option, Some, None, length, slice_get, slice_set, slice_index, sum_by, refl, ap, sym, subst, ◌∙◌, arith}
use Rattle.std.proofs.lemmas.Bool.Decides.{nat_tests}
use Rattle.std.proofs.lemmas.List.{append-nil}
use Rattle.std.proofs.lemmas.Option.{same_Some}
use Rattle.rgo_sound.specs.Code.Code.{Code}
use Rattle.rgo_sound.specs.RegionMachine.States.{Ended, Holder, Mark, RegionState}
use Rattle.rgo_sound.specs.Machine.declared.picks.End.TheVariants.{Exit}
use Rattle.rgo_core.specs.ties.Clock.{Clock, has_ticket}
use Rattle.rgo_core.specs.examples.Core.{CauseExamples, ClockExamples, CoreExamples, NumberExamples, TableRoomExamples, both_have_set, ended_then_printed, having_printed, late_mark, parent_and_child, second_then_first}
use Rattle.rgo_core.specs.ties.Numbers.{Numbers, has_child}
use Rattle.rgo_core.proofs.Lists.{cond_other, one_if, word_new}
use Rattle.rgo_core.proofs.runs.Opening.{at_least_one, first_story, made_word}
use Rattle.rgo_core.specs.Core.{layout}
use Rattle.rgo_core.specs.runs.Opening.{opening_table}
use Rattle.rgo_sound.specs.Machine.Limits.{most_goroutines}
use Rattle.rgo_sound.specs.RegionMachine.Machine.{Event}
use Rattle.rgo_sound.specs.RegionMachine.Room.{has_room, pages_in_use, roomy_run}
use Rattle.rgo_sound.proofs.Places.{length_set}
use Rattle.rgo_sound.proofs.counts.Room.{room_is_kept}
use Rattle.rgo_core.specs.Records.{ClockRec, Drawn, blank, drawn_at, end_bit, fresh, with_child, with_end, with_print, with_refusal}

-- what holds of both goroutines
each_of_two : (a b : ClockRec) (P : ℕ → ClockRec → Type 0) → P 0 a → P 1 b → (g : ℕ) (c : ClockRec) → slice_get (a ∷ b ∷ []) g ≡ Some c → P g c
each_of_two a b P p q zero c e = subst (P 0) (same_Some a c e) p
each_of_two a b P p q (suc zero) c e = subst (P 1) (same_Some b c e) q
each_of_two a b P p q (suc (suc g)) c e = let z : None ≡ Some c = e in cc z

each_of_one : (a : ClockRec) (P : ℕ → ClockRec → Type 0) → P 0 a → (g : ℕ) (c : ClockRec) → slice_get (a ∷ []) g ≡ Some c → P g c
each_of_one a P p zero c e = subst (P 0) (same_Some a c e) p
each_of_one a P p (suc g) c e = let z : None ≡ Some c = e in cc z

-- the only piece of a record
one_piece : (a : Drawn) (P : Drawn → Type 0) → P a → (i : ℕ) (d : Drawn) → slice_get (a ∷ []) i ≡ Some d → P d
one_piece a P p zero d e = subst P (same_Some a d e) p
one_piece a P p (suc i) d e = let z : None ≡ Some d = e in cc z

not_some : (m : Mark) → None ≡ Some m → ⊥
not_some m e = cc e

abbrev both : List (List ℕ)
both = (9 ∷ []) ∷ (7 ∷ 8 ∷ []) ∷ []

in_order_here : (code : Code) → Clock (2 ∷ []) second_then_first (having_printed code (9 ∷ 7 ∷ 8 ∷ []) None) both []
in_order_here code = record {
  shows = refl;
  print = refl;
  void = λ e. refl;
  once = once;
  none_later = later;
  pieces = λ g i c d e f. each_of_two (with_print fresh 1 (7 ∷ 8 ∷ [])) (with_print blank 0 (9 ∷ []))
      (λ g c. (i : ℕ) (d : Drawn) → slice_get c.prints i ≡ Some d → (slice_get both d.ticket ≡ Some d.bytes) × (d.is_void ≡ nat_le 2 d.ticket))
      (one_piece (drawn_at 1 (7 ∷ 8 ∷ [])) (λ d. (slice_get both d.ticket ≡ Some d.bytes) × (d.is_void ≡ nat_le 2 d.ticket)) (refl, refl))
      (one_piece (drawn_at 0 (9 ∷ [])) (λ d. (slice_get both d.ticket ≡ Some d.bytes) × (d.is_void ≡ nat_le 2 d.ticket)) (refl, refl)) g c e i d f;
  amount = refl;
  bound = each_of_two (with_print fresh 1 (7 ∷ 8 ∷ [])) (with_print blank 0 (9 ∷ [])) (λ g c. length c.prints ≤ 8796093022208) (omega arith) (omega arith);
  first = λ g c m e f. absurd (each_of_two (with_print fresh 1 (7 ∷ 8 ∷ [])) (with_print blank 0 (9 ∷ [])) (λ g c. c.first ≡ Some m → ⊥) (not_some m) (not_some m) g c e f);
  setter = λ m e. absurd (not_some m e);
  sole = omega arith;
}
  where
    once : (t : ℕ) → t < 2 → sum_by (has_ticket t) second_then_first ≡ 1
    once zero h = refl
    once (suc zero) h = refl
    once (suc (suc t)) h = absurd (omega arith)

    later : (t : ℕ) → 2 ≤ t → sum_by (has_ticket t) second_then_first ≡ 0
    later zero h = absurd (omega arith)
    later (suc zero) h = absurd (omega arith)
    later (suc (suc t)) h =
        let e : sum_by (has_ticket (suc (suc t))) second_then_first ≡ 0 + (0 + one_if (1 == suc (suc t))) + (0 + one_if (0 == suc (suc t))) = refl in
        let a = cond_other 1 (suc (suc t)) (λ q. omega arith) in
        let b = cond_other 0 (suc (suc t)) (λ q. omega arith) in
        omega arith

late_here : (code : Code) → Clock (9223372036854775809 ∷ []) ended_then_printed (having_printed code [] late_mark) [] ((9 ∷ []) ∷ [])
late_here code = record {
  shows = refl;
  print = refl;
  void = λ e. absurd (not_some (Ended Exit) (sym e));
  once = once;
  none_later = later;
  pieces = λ g i c d e f. each_of_two (with_end fresh 0 (Ended Exit)) (with_print blank 9223372036854775808 (9 ∷ []))
      (λ g c. (i : ℕ) (d : Drawn) → slice_get c.prints i ≡ Some d → (slice_get ((9 ∷ []) ∷ []) d.ticket ≡ Some d.bytes) × (d.is_void ≡ nat_le 0 d.ticket))
      (λ i d f. let z : None ≡ Some d = f in absurd (cc z))
      (one_piece (drawn_at 9223372036854775808 (9 ∷ [])) (λ d. (slice_get ((9 ∷ []) ∷ []) d.ticket ≡ Some d.bytes) × (d.is_void ≡ nat_le 0 d.ticket)) (refl, refl)) g c e i d f;
  amount = refl;
  bound = each_of_two (with_end fresh 0 (Ended Exit)) (with_print blank 9223372036854775808 (9 ∷ [])) (λ g c. length c.prints ≤ 8796093022208) (omega arith) (omega arith);
  first = λ g c m e f. each_of_two (with_end fresh 0 (Ended Exit)) (with_print blank 9223372036854775808 (9 ∷ [])) (λ g c. c.first ≡ Some m → late_mark ≡ Some m)
      (λ q. q) (λ q. absurd (not_some m q)) g c e f;
  setter = λ m e. (0, with_end fresh 0 (Ended Exit), refl, e);
  sole = omega arith;
}
  where
    once : (t : ℕ) → t < 1 → sum_by (has_ticket t) ended_then_printed ≡ 1
    once zero h = refl
    once (suc t) h = absurd (omega arith)

    later : (t : ℕ) → 1 ≤ t → sum_by (has_ticket t) ended_then_printed ≡ 0
    later zero h = absurd (omega arith)
    later (suc t) h =
        let e : sum_by (has_ticket (suc t)) ended_then_printed ≡ 0 + (0 + one_if (0 == suc t)) = refl in
        let a = cond_other 0 (suc t) (λ q. omega arith) in
        omega arith

differ : (a b : ℕ) (l m : List ℕ) → (a ≡ b → ⊥) → a ∷ l ≡ b ∷ m → ⊥
differ a b l m ne e = ne (ap (λ (z : List ℕ). slice_index z 0) e)

never_le : (n : ℕ) → true ≡ nat_le (suc n) 0 → ⊥
never_le n e =
    let z : nat_le (suc n) 0 ≡ false = grind (arith, nat_tests) in
    let q : true ≡ false = e ∙ z in
    cc q

pub clock_examples : ClockExamples
clock_examples = record {
  in_order = in_order_here;
  out_of_order = λ code k. let p = k.pieces 0 0 (with_print fresh 1 (7 ∷ 8 ∷ [])) (drawn_at 1 (7 ∷ 8 ∷ [])) refl refl in
      differ 9 7 [] (8 ∷ []) (λ e. omega arith) (same_Some (9 ∷ []) (7 ∷ 8 ∷ []) p.0);
  unshown = λ code before late k. let s = k.shows in let a = k.amount in let z : sum_by Rattle.rgo_core.specs.ties.Clock.prints_in second_then_first ≡ 2 = refl in omega arith;
  late = late_here;
  not_late = λ code before late k.
      let p = k.pieces 1 0 (with_print blank 9223372036854775808 (9 ∷ [])) (drawn_at 9223372036854775808 (9 ∷ [])) refl refl in
      none_before before late p.1 k.print;
  unset = λ code before late k. let s = k.setter (Ended Exit) refl in
      each_of_one fresh (λ g c. c.first ≡ Some (Ended Exit) → ⊥) (not_some (Ended Exit)) s.0 s.1 s.2 s.3;
  set_twice = λ code before late k.
      let z : sum_by Rattle.rgo_core.specs.ties.Clock.has_set both_have_set ≡ 2 = refl in let s = k.sole in omega arith;
  ticket = refl;
  first_kept = refl;
  mark_kept = refl;
}
  where
    none_before : (before late : List (List ℕ)) → true ≡ nat_le (length before) 0 → 9 ∷ [] ≡ Rattle.rgo_core_rule.specs.Lists.flattened before → ⊥
    none_before [] late v p = cc
    none_before (b ∷ before) late v p = absurd (never_le (length before) v)

numbers_here : Numbers 3 2 parent_and_child
numbers_here = record {
  low = λ h. refl;
  high = λ h. omega arith;
  draws = omega arith;
  full = λ g c e r. absurd (each_of_two (with_child fresh 1) blank (λ g c. c.refused ≡ true → ⊥) not_true not_true g c e r);
  none = none;
  first = refl;
  one = one;
  smaller = λ g h c e p. each_of_two (with_child fresh 1) blank (λ g c. 0 < has_child h c → g < h) (mother h) (λ q. absurd (omega arith)) g c e p;
}
  where
    not_true : false ≡ true → ⊥
    not_true e = cc e

    none : (h : ℕ) → 2 ≤ h → sum_by (has_child h) parent_and_child ≡ 0
    none zero le = absurd (omega arith)
    none (suc zero) le = absurd (omega arith)
    none (suc (suc h)) le =
        let e : sum_by (has_child (suc (suc h))) parent_and_child ≡ 0 + (0 + one_if (1 == suc (suc h))) + 0 = refl in
        let a = cond_other 1 (suc (suc h)) (λ q. omega arith) in
        omega arith

    one : (h : ℕ) → 0 < h → h < 2 → sum_by (has_child h) parent_and_child ≡ 1
    one zero p q = absurd (omega arith)
    one (suc zero) p q = refl
    one (suc (suc h)) p q = absurd (omega arith)

    mother : (h : ℕ) → 0 < has_child h (with_child fresh 1) → 0 < h
    mother zero p = absurd (let z : has_child 0 (with_child fresh 1) ≡ 0 = refl in omega arith)
    mother (suc h) p = omega arith

refused_here : Numbers 1 2 (with_refusal fresh ∷ [])
refused_here = record {
  low = λ h. absurd (omega arith);
  high = λ h. refl;
  draws = omega arith;
  full = λ g c e r. omega arith;
  none = λ h le. refl;
  first = refl;
  one = λ h p q. absurd (omega arith);
  smaller = λ g h c e p. absurd (each_of_one (with_refusal fresh) (λ g c. 0 < has_child h c → ⊥) (λ q. omega arith) g c e p);
}

pub number_examples : NumberExamples
number_examples = record {
  numbers = numbers_here;
  uncounted = λ k. let l = k.low (omega arith) in omega arith;
  foundling = λ k. let o = k.one 1 (omega arith) (omega arith) in let z : sum_by (has_child 1) (fresh ∷ blank ∷ []) ≡ 0 = refl in omega arith;
  refused = refused_here;
  refused_early = λ k. let f = k.full 0 (with_refusal fresh) refl refl in omega arith;
  sum = refl;
  owes = refl;
}

pub cause_examples : CauseExamples
cause_examples = record {
  memory = λ code sizes limits s. tt;
  regions = λ code sizes limits s none w. nobody s none w.0 w.2 w.4;
}
  where
    nobody : (s : RegionState) → s.holders ≡ [] → (g : ℕ) (h : Holder) → slice_get s.holders g ≡ Some h → ⊥
    nobody s none g h e = let z : None ≡ Some h = sym (ap (λ (l : List Holder). slice_get l g) none) ∙ e in cc z

pub core_examples : CoreExamples
core_examples = record {
  nobody = λ T events k.
      let l = k.1.story.numbers.low in
      let h = k.1.story.numbers.high in
      let m = made_word (layout T) in
      let p = at_least_one T.limits.goroutines in
      no_numbers (most_goroutines T.limits) (slice_index (opening_table T) 16) m p l h;
  drawn = λ T events k.
      let a : 0 ≡ length (k.1.story.before ++ k.1.story.late) = k.1.story.clock.amount in
      let w = k.1.image.memory.shows.wide in
      let n = length_set (opening_table T) 0 1 in
      let one : slice_index (slice_set (opening_table T) 0 1) 0 ≡ 1 = word_new (opening_table T) 0 1 (omega arith) in
      no_bit k.0.mark (length (k.1.story.before ++ k.1.story.late)) (sym a) (sym one ∙ k.1.story.clock.shows);
}
  where
    no_numbers : (limit drawn : ℕ) → drawn ≡ 1 → 0 < limit → (drawn ≤ limit → 0 ≡ drawn) → (limit ≤ drawn → 0 ≡ limit) → ⊥
    no_numbers limit drawn is some low high = let z = low (omega arith) in omega arith

    no_bit : (m : Option Mark) (n : ℕ) → n ≡ 0 → 1 ≡ n + end_bit m → ⊥
    no_bit None n z e = omega arith
    no_bit (Some m) n z e = omega arith

pub room_examples : TableRoomExamples
room_examples = record {
  none_yet = first_story;
  crowded = λ T words recs events k no.
      no (room_is_kept.fits T.code T.sizes events [] k.0 k.0
      (ap (roomy_run T.code T.sizes) (append-nil events) ∙ k.1.story.room) (room_is_kept.is_run T.code T.sizes events k.0 k.1.story.room));
  none_left = λ T g c d x words recs p takes none.
      full (pages_in_use x.s) T.sizes.pages (ap (λ (e : Event). has_room T.sizes x.s e) (sym takes) ∙ p.room) none;
}
  where
    full : (n m : ℕ) → nat_lt n m ≡ true → m ≤ n → ⊥
    full n m e l = let h : n < m = grind (arith, nat_tests) in omega (arith, h, l)
