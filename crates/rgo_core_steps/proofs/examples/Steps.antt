-- The examples, by computation.
use Rattle.std.proofs.Common.{◌≡◌, ◌≢◌, ℕ, zero, suc, ◌+◌, ◌<◌, ◌≤◌, ◌^◌, true, false, List, [], ◌∷◌, ◌++◌, Some, None, length, slice_get, slice_index, refl, ap, sym, subst, ◌∙◌, arith}
use Rattle.std.proofs.lemmas.Option.{same_Some}
use mathlib.Core.Option.{some, some-injective, some-ne-none}
use lib.ListN.{get_elem?}
use Rattle.rgo_core.specs.Rule.Lists.{flattened}
use Rattle.rgo_core.specs.Rule.Views.{HasRow, Rows}
use Rattle.rgo_sound.specs.Machine.declared.picks.End.TheVariants as the_end
use Rattle.rgo_sound.specs.Memory.declared.traps.Trap.{Trap}
use Rattle.rgo_sound.specs.RegionMachine.States.{Ended, Mark, RegionState, Stopped}
use Rattle.rgo_sound.specs.RegionMachine.declared.limits.Limit.TheVariants.{Memory}
use Rattle.rgo_core.specs.Core.{Setup}
use Rattle.rgo_core.specs.runs.Opening.{opening_table}
use Rattle.rgo_core.specs.Records.{ClockRec, Drawn, Record, drawn_at}
use Rattle.rgo_core.proofs.Lists.{word_new}
use Rattle.rgo_core_steps.specs.Ends.{Closes, ClosesNil, Divides, GoroutineEndsRun, Exits, HasBadSize, IsFull, IsTooDeep, Loads, LoadsNil, Meets, Offers, Sends, Stores, StoresNil, Trapped, InstrTraps, WantsMemory}
use Rattle.rgo_core_steps.specs.Examples.{AfterExamples, RunEndExamples, OutcomeExamples, SeatExamples, StartExamples, idle, parent, printed_first, printed_late, printed_second, setter}
use Rattle.rgo_core_steps.specs.Outcomes.{EndsOnce, HasDrawnAt, HasSet, PrintsInOrder}
use Rattle.rgo_core_steps.proofs.tables.Outcomes.{long_enough}

no_rows : {A : Type 0} (x : A) (xs : List A) → [] ≡ x ∷ xs → ⊥
no_rows x xs e = cc e

pub seat_examples : SeatExamples
seat_examples = record {
  one = λ T c. (refl, refl);
  its = λ T c. refl;
  none = λ T h. no_rows _ [] h.0;
  more = λ T c d h. not_one (5, d) (4, c) h.0;
  two = λ T c d. record { records = refl; slots = refl; later = omega arith };
  second = λ T c d. refl;
  earlier = λ T c d h. let l : 4 < 3 = h.later in omega arith;
  at_once = λ T m. refl;
  stuck = λ T g. refl;
  not_quiet = λ T g q. nothing q.next q.is;
  local = λ c. record { memory = refl; side = refl; clock = refl };
  not_local = λ c k. let e : suc c.clock.accesses ≡ c.clock.accesses = ap (λ (x : ClockRec). x.accesses) k.clock in omega arith;
}
  where
    not_one : (y x : ℕ × Record) → x ∷ y ∷ [] ≡ x ∷ [] → ⊥
    not_one y x e = let l : ◌≡◌ {A = ℕ} 2 1 = ap length e in omega arith

    nothing : {A : Type 0} (x : A) → None ≡ Some x → ⊥
    nothing x e = cc e

pub after_examples : AfterExamples
after_examples = record {
  to = λ action. refl;
  nowhere = refl;
  stays = λ code word. refl;
  silent = λ code. refl;
  no_print = λ T p. no_rows p.here.w p.here.ws p.here.frames;
  no_start = λ T p. no_rows p.here.w p.here.ws p.here.frames;
}

no_trap : (T : Setup) (trap : Trap) → InstrTraps T idle trap → ⊥
no_trap T trap (Sends to sent at a saw is) = no_rows a.here.w a.here.ws a.here.frames
no_trap T trap (Offers at a saw is) = no_rows a.w a.ws a.frames
no_trap T trap (Closes to at a saw is) = no_rows a.here.w a.here.ws a.here.frames
no_trap T trap (ClosesNil to channel removes a nil is) = no_rows a.w a.ws a.frames
no_trap T trap (Loads d p q removes a rests none is) = no_rows a.w a.ws a.frames
no_trap T trap (Stores p q r removes a rests none is) = no_rows a.w a.ws a.frames
no_trap T trap (LoadsNil d k p removes a rests nil is) = no_rows a.w a.ws a.frames
no_trap T trap (StoresNil k p q removes a rests nil is) = no_rows a.w a.ws a.frames
no_trap T trap (Divides op d p q removes a divides rests none is) = no_rows a.w a.ws a.frames
no_trap T trap (HasBadSize act d p removes a makes rests big is) = no_rows a.w a.ws a.frames

no_exit : (T : Setup) (g : ℕ) → GoroutineEndsRun T g idle (Ended the_end.Exit) → ⊥
no_exit T g (Exits e rests none loc exits is) = let z : None ≡ Some e = loc in cc z
no_exit T g (Trapped trap traps is) = no_trap T trap traps
no_exit T g (IsTooDeep to f callee from passes protects removes a calls deep is) = no_rows a.w a.ws a.frames
no_exit T g (IsFull f callee from passes removes a calls refused is) = no_rows a.w a.ws a.frames
no_exit T g (WantsMemory is) = cc is
no_exit T g (Meets why stops is) = cc is

pub end_examples : RunEndExamples
end_examples = record {
  mark = refl;
  memory = λ T g c. WantsMemory refl;
  no_trap = no_trap;
  no_exit = no_exit;
  counted = λ code c n place. refl;
  uncounted = λ code c n. refl;
  first = λ code c. refl;
  later = λ code c. refl;
}

pub start_examples : StartExamples
start_examples = record {
  next = refl;
  wraps = refl;
  refused = λ c. refl;
  alone = λ T q n m w one has. let l = has.0 in omega arith;
}

-- ---- outcomes

-- what holds of each record of a list of two
each_of_two : (a b : Record) (P : ℕ → Record → Type 0) → P 0 a → P 1 b → (g : ℕ) (c : Record) → slice_get (a ∷ b ∷ []) g ≡ Some c → P g c
each_of_two a b P p q zero c e = subst (P 0) (same_Some a c e) p
each_of_two a b P p q (suc zero) c e = subst (P 1) (same_Some b c e) q
each_of_two a b P p q (suc (suc g)) c e = let z : None ≡ Some c = e in cc z

one_of_one : {A : Type 0} (a b : A) (i : ℕ) → slice_get (a ∷ []) i ≡ Some b → (i ≡ 0) × (a ≡ b)
one_of_one a b zero e = (refl, same_Some a b e)
one_of_one a b (suc i) e = let z : None ≡ Some b = e in absurd (cc z)

not_none : (mark : Mark) → None ≡ Some mark → ⊥
not_none mark e = cc e

set_by : (g : ℕ) (mark : Mark) → HasSet (idle ∷ setter ∷ []) g mark → (g ≡ 1) × (Ended the_end.Exit ≡ mark)
set_by g mark (c, at, first) = each_of_two idle setter (λ g c. c.clock.first ≡ Some mark → (g ≡ 1) × (Ended the_end.Exit ≡ mark))
    (λ e. absurd (not_none mark e)) (λ e. (refl, same_Some (Ended the_end.Exit) mark e)) g c at first

one_end : (s : RegionState) → s.mark ≡ Some (Ended the_end.Exit) → EndsOnce (2 ^ 63 + 4) (idle ∷ setter ∷ []) s
one_end s is = record {
  shown = ((λ h. (1, Ended the_end.Exit, (setter, refl, refl))), (λ t. omega arith));
  one = λ g h mark other p q. let a = set_by g mark p in let b = set_by h other q in (a.0 ∙ sym b.0, sym a.1 ∙ b.1);
  its = λ g mark p. is ∙ ap Some (set_by g mark p).1;
}

first_piece : Drawn
first_piece = drawn_at 0 (9 ∷ [])

abbrev pieces : List (List ℕ)
pieces = (9 ∷ []) ∷ (7 ∷ 8 ∷ []) ∷ []

in_order : PrintsInOrder (printed_second ∷ printed_first ∷ []) (9 ∷ 7 ∷ 8 ∷ [])
in_order = record {
  pieces = pieces;
  is = refl;
  drawn = drawn;
  kept = λ g i d has valid. (which g i d has).2;
  one = λ g h i j d e p q same.
      let a = which g i d p in let b = which h j e q in
      (let x = a.1 in let y = b.1 in omega arith, a.0 ∙ sym b.0);
}
  where
    drawn : (t : ℕ) (bytes : List ℕ) → slice_get pieces t ≡ Some bytes
        → (g i : ℕ) × HasDrawnAt (printed_second ∷ printed_first ∷ []) g i (record { ticket = t; bytes = bytes; is_void = false })
    drawn zero bytes e =
        (1, 0, (printed_first, refl, ap (λ (b : List ℕ). Some (record { ticket = 0; bytes = b; is_void = false })) (same_Some (9 ∷ []) bytes e)))
    drawn (suc zero) bytes e =
        (0, 0, (printed_second, refl, ap (λ (b : List ℕ). Some (record { ticket = 1; bytes = b; is_void = false })) (same_Some (7 ∷ 8 ∷ []) bytes e)))
    drawn (suc (suc t)) bytes e = let z : None ≡ Some bytes = e in absurd (cc z)

    -- where a piece was drawn, with which ticket, and what it is
    which : (g i : ℕ) (d : Drawn) → HasDrawnAt (printed_second ∷ printed_first ∷ []) g i d
        → (i ≡ 0) × (g + d.ticket ≡ 1) × (slice_get pieces d.ticket ≡ Some d.bytes)
    which g i d (c, at, there) = each_of_two printed_second printed_first
        (λ g c. slice_get c.clock.prints i ≡ Some d → (i ≡ 0) × (g + d.ticket ≡ 1) × (slice_get pieces d.ticket ≡ Some d.bytes))
        (λ e. let r = one_of_one (drawn_at 1 (7 ∷ 8 ∷ [])) d i e in
        (r.0, let z = ap (λ (x : Drawn). x.ticket) r.1 in omega arith, subst (λ (x : Drawn). slice_get pieces x.ticket ≡ Some x.bytes) r.1 refl))
        (λ e. let r = one_of_one (drawn_at 0 (9 ∷ [])) d i e in
        (r.0, let z = ap (λ (x : Drawn). x.ticket) r.1 in omega arith, subst (λ (x : Drawn). slice_get pieces x.ticket ≡ Some x.bytes) r.1 refl))
        g c at there

-- the pieces of the two records
both_there : (printed : List ℕ) (p : PrintsInOrder (printed_second ∷ printed_first ∷ []) printed)
    → (slice_get p.pieces 0 ≡ Some (9 ∷ [])) × (slice_get p.pieces 1 ≡ Some (7 ∷ 8 ∷ []))
both_there printed p = (
  p.kept 1 0 (drawn_at 0 (9 ∷ [])) (printed_first, refl, refl) refl,
  p.kept 0 0 (drawn_at 1 (7 ∷ 8 ∷ [])) (printed_second, refl, refl) refl,
)

-- the print begins with the first piece, and then has the second
starts_with : (xss : List (List ℕ)) → slice_get xss 0 ≡ Some (9 ∷ []) → slice_get xss 1 ≡ Some (7 ∷ 8 ∷ [])
    → (rest : List ℕ) × (flattened xss ≡ 9 ∷ 7 ∷ 8 ∷ rest)
starts_with [] e f = cc
starts_with (x ∷ []) e f = cc
starts_with (x ∷ y ∷ xss) e f =
    (flattened xss, λ j. same_Some x (9 ∷ []) e j ++ (same_Some y (7 ∷ 8 ∷ []) f j ++ flattened xss))

out_of_order : PrintsInOrder (printed_second ∷ printed_first ∷ []) (7 ∷ 8 ∷ 9 ∷ []) → ⊥
out_of_order p =
    let b = both_there (7 ∷ 8 ∷ 9 ∷ []) p in
    let s = starts_with p.pieces b.0 b.1 in
    let first : ◌≡◌ {A = ℕ} 7 9 = ap (λ (l : List ℕ). slice_index l 0) (p.is ∙ s.1) in
    omega arith

lost : PrintsInOrder (printed_second ∷ printed_first ∷ []) (9 ∷ []) → ⊥
lost p =
    let b = both_there (9 ∷ []) p in
    let s = starts_with p.pieces b.0 b.1 in
    let long : 1 ≡ suc (suc (suc (length s.0))) = ap length (p.is ∙ s.1) in
    omega arith

-- a void piece
void_there : (g i : ℕ) (d : Drawn) → HasDrawnAt (printed_late ∷ []) g i d → d.is_void ≡ true
void_there g i d (c, at, there) =
    let a = one_of_one printed_late c g at in
    let there' : slice_get (drawn_at 9223372036854775808 (9 ∷ []) ∷ []) i ≡ Some d =
    ap (λ (y : Record). slice_get y.clock.prints i) a.1 ∙ there in
    sym (ap (λ (x : Drawn). x.is_void) (one_of_one (drawn_at 9223372036854775808 (9 ∷ [])) d i there').1)

not_both : true ≡ false → ⊥
not_both e = cc e

late : PrintsInOrder (printed_late ∷ []) []
late = record {
  pieces = [];
  is = refl;
  drawn = λ t bytes e. let z : None ≡ Some bytes = e in absurd (cc z);
  kept = λ g i d has valid. absurd (not_both (sym (void_there g i d has) ∙ valid));
  one = λ g h i j d e p q same. (place g i d p ∙ sym (place h j e q), nth g i d p ∙ sym (nth h j e q));
}
  where
    place : (g i : ℕ) (d : Drawn) → HasDrawnAt (printed_late ∷ []) g i d → g ≡ 0
    place g i d (c, at, there) = (one_of_one printed_late c g at).0

    nth : (g i : ℕ) (d : Drawn) → HasDrawnAt (printed_late ∷ []) g i d → i ≡ 0
    nth g i d (c, at, there) =
        (one_of_one (drawn_at 9223372036854775808 (9 ∷ [])) d i
        (ap (λ (y : Record). slice_get y.clock.prints i) (one_of_one printed_late c g at).1 ∙ there)).0

not_late : PrintsInOrder (printed_late ∷ []) (9 ∷ []) → ⊥
not_late p = go p.pieces refl
  where
    go : (xss : List (List ℕ)) → p.pieces ≡ xss → ⊥
    go [] e = let l : ◌≡◌ {A = ℕ} 1 0 = ap length (p.is ∙ ap flattened e) in omega arith
    go (x ∷ xss) e =
        let d = p.drawn 0 x (ap (λ (l : List (List ℕ)). slice_get l 0) e) in
        not_both (sym (void_there d.0 d.1 _ d.2))

-- ---- families

abbrev rows : Rows Record
rows = (0, parent) ∷ (1, idle) ∷ []

-- the only row
row_of_one : (a b : ℕ × Record) (k : ℕ) → get_elem? (a ∷ []) k ≡ some b → a ≡ b
row_of_one a b zero e = some-injective a b e
row_of_one a b (suc k) e = absurd (some-ne-none b (sym e))

family_child : (g h i : ℕ) (c : Record) (k : ℕ) → get_elem? rows k ≡ some (g, c) → slice_get c.clock.children i ≡ Some h
    → (d : Record) × HasRow rows h d
family_child g h i c zero e f =
    let is : parent ≡ c = ap (λ (r : ℕ × Record). r.1) (some-injective (0, parent) (g, c) e) in
    let r = one_of_one 1 h i (ap (λ (y : Record). slice_get y.clock.children i) is ∙ f) in
    (idle, (1, ap (λ (n : ℕ). some (n, idle)) r.1))
family_child g h i c (suc zero) e f =
    let is : idle ≡ c = ap (λ (r : ℕ × Record). r.1) (some-injective (1, idle) (g, c) e) in
    let z : None ≡ Some h = ap (λ (y : Record). slice_get y.clock.children i) is ∙ f in
    absurd (cc z)
family_child g h i c (suc (suc k)) e f = absurd (some-ne-none (g, c) (sym e))

other_number : (a b : ℕ) (c d : Record) → a ≢ b → ◌≡◌ {A = ℕ × Record} (a, c) (b, d) → ⊥
other_number a b c d ne e = ne (ap (λ (r : ℕ × Record). r.0) e)

some_words : (T : Setup) → 0 < length (opening_table T)
some_words T = let l = long_enough T in omega arith

pub outcome_examples : OutcomeExamples
outcome_examples = record {
  one_end = one_end;
  two_ends = λ s n k.
      let z = k.one 0 1 (Ended the_end.Exit) (Ended the_end.Exit) (setter, refl, refl) (setter, refl, refl) in
      let e : ◌≡◌ {A = ℕ} 0 1 = z.0 in omega arith;
  hidden = λ s k. let z : 2 ^ 63 ≤ 4 = k.shown.1 (0, Ended the_end.Exit, (setter, refl, refl)) in omega arith;
  other_mark = λ s n is k. marks_differ (sym is ∙ k.its 0 (Ended the_end.Exit) (setter, refl, refl));
  in_order = in_order;
  out_of_order = out_of_order;
  lost = lost;
  late = late;
  not_late = not_late;
  family = record { main = (parent, (0, refl)); children = λ g h i c has f. family_child g h i c has.0 has.1 f };
  no_child = λ f.
      let d = f.children 0 1 0 parent (0, refl) refl in
      other_number 0 1 parent d.0 (λ e. omega arith) (row_of_one (0, parent) (1, d.0) d.1.0 d.1.1);
  no_main = λ f. let c = f.main in
      other_number 1 0 idle c.0 (λ e. omega arith) (row_of_one (1, idle) (0, c.0) c.1.0 c.1.1);
  ticketed = λ T k. let z = k.clock in let w = word_new (opening_table T) 0 1 (some_words T) in omega arith;
}
  where
    marks_differ : Some (Stopped Memory) ≡ Some (Ended the_end.Exit) → ⊥
    marks_differ e = cc e
