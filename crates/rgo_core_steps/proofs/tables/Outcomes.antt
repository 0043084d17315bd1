-- What a table shows of its run, and what it opens with. All of it is in the core of the closed table (`Clock`, `Numbers`). That a view
-- with the family has all records goes by induction on numbers: a parent's is smaller.
use Rattle.std.proofs.Common.{◌≡◌, ◌≢◌, ℕ, zero, suc, ◌<◌, ◌≤◌, ◌==◌, ◌^◌, nat_le, false, List, [], ◌∷◌, ◌++◌, Option, Some, None, option_map, length, map, replicate, slice_get, slice_set, slice_index, sum_by, refl, ap, sym, subst, ◌∙◌, arith, length-append}
use Rattle.std.proofs.lemmas.Bool.Decides.{nat_tests}
use Rattle.std.proofs.lemmas.List.{get_or-replicate, length-map, length-replicate}
use Rattle.std.proofs.lemmas.Option.{same_Some, slice_get-map}
use Rattle.std.specs.Option.{option_len}
use mathlib.Core.Logic.{dite}
use native.Mathlib.Decide.{ℕ_discrete}
use Rattle.rgo_core.specs.Memory.Words.{all_words, clock_at, count_at, head_at, made_at, next_at, state_at}
use Rattle.rgo_core.specs.Memory.declared.layout.TableSizes.{TableSizes}
use Rattle.rgo_core.proofs.Memory.Rows.{below}
use Rattle.rgo_core.specs.Rule.Lists.{flattened}
use Rattle.rgo_core.specs.Rule.Rule.{Closing}
use Rattle.rgo_core.specs.Rule.Views.{HasRow}
use Rattle.rgo_core.specs.Rule.declared.accesses.View.{View}
use Rattle.rgo_sound.specs.Machine.Limits.{most_goroutines}
use Rattle.rgo_sound.specs.RegionMachine.Machine.{region_start}
use Rattle.rgo_sound.specs.RegionMachine.States.{Mark, RegionState}
use Rattle.rgo_sound.proofs.Places.{get_front, length_set}
use Rattle.rgo_core.specs.ties.Clock.{Clock, has_set, has_ticket}
use Rattle.rgo_core.specs.Core.{Core, CoreAt, Setup, layout}
use Rattle.rgo_core.specs.ties.Numbers.{Numbers, has_child}
use Rattle.rgo_core.specs.runs.Opening.{first_of, opening_table}
use Rattle.rgo_core.specs.Records.{ClockRec, Drawn, Record, accesses, clock_of, end_bit}
use Rattle.rgo_core.specs.runs.Causes.{IsCause}
use Rattle.rgo_core.specs.runs.Runs.{Marked}
use Rattle.rgo_core.proofs.clock.Clocks.{no_le, room}
use Rattle.rgo_core.proofs.Lists.{cond_same, get_of, one_if, word_new, word_same}
use Rattle.rgo_core.proofs.runs.Opening.{made_word, opening_law}
use Rattle.rgo_core.proofs.runs.Stories.{few}
use Rattle.rgo_core_steps.specs.Outcomes.{EndsOnce, FamilyLaw, FirstLaw, HasDrawnAt, HasFamily, HasSet, OpensWith, OutcomeLaw, PrintsInOrder}
use Rattle.rgo_core_steps.proofs.tables.Sums.{counts_it, part_of, parts_of, who_of}

-- ---- records and their parts for the clock

module _ (recs : List Record) where
  clock_here : (g : ℕ) (c : Record) → slice_get recs g ≡ Some c → slice_get (map clock_of recs) g ≡ Some c.clock
  clock_here g c e = slice_get-map clock_of recs g ∙ ap (option_map clock_of) e

  record_here : (g : ℕ) (y : ClockRec) → slice_get (map clock_of recs) g ≡ Some y → (c : Record) × (slice_get recs g ≡ Some c) × (c.clock ≡ y)
  record_here g y e = go (slice_get recs g) refl
    where
      go : (o : Option Record) → slice_get recs g ≡ o → (c : Record) × (slice_get recs g ≡ Some c) × (c.clock ≡ y)
      go None q = let n : None ≡ Some y = sym (slice_get-map clock_of recs g ∙ ap (option_map clock_of) q) ∙ e in absurd (cc n)
      go (Some c) q = (c, q, same_Some c.clock y (sym (clock_here g c q) ∙ e))

before_end : (xs ys : List (List ℕ)) (t : ℕ) → t < length xs → slice_get (xs ++ ys) t ≡ slice_get xs t
before_end [] ys t h = absurd (omega arith)
before_end (x ∷ xs) ys zero h = refl
before_end (x ∷ xs) ys (suc t) h = before_end xs ys t (omega arith)

less_of : (a b : ℕ) → nat_le a b ≡ false → b < a
less_of a b e = grind (arith, nat_tests)

-- ---- the end

module _ (words : List ℕ) (recs : List Record) (s : RegionState) (before late : List (List ℕ)) (k : Clock words (map clock_of recs) s before late)
    (few_recs : length (map clock_of recs) ≤ 1000000) where
  its : (g : ℕ) (mark : Mark) → HasSet recs g mark → s.mark ≡ Some mark
  its g mark (c, at, first) = k.first g c.clock mark (clock_here recs g c at) first

  set_one : (g : ℕ) (mark : Mark) (c : Record) → c.clock.first ≡ Some mark → has_set c.clock ≡ 1
  set_one g mark c first = ap option_len first

  same_setter : (g h : ℕ) (mark other : Mark) → HasSet recs g mark → HasSet recs h other → g ≡ h
  same_setter g h mark other (c, at, first) (d, there, set) = dite (ℕ_discrete g h)
      (λ e. e)
      (λ ne.
      let p = parts_of has_set (map clock_of recs) g h c.clock d.clock ne (clock_here recs g c at) (clock_here recs h d there) in
      let a = set_one g mark c first in
      let b = set_one h other d set in
      let o = k.sole in
      absurd (omega arith))

  same_mark : (g h : ℕ) (mark other : Mark) → HasSet recs g mark → HasSet recs h other → mark ≡ other
  same_mark g h mark other p q = same_Some mark other (sym (its g mark p) ∙ its h other q)

  who_set : (mark : Mark) → s.mark ≡ Some mark → (g : ℕ) × (mark : Mark) × HasSet recs g mark
  who_set mark e =
      let z = k.setter mark e in
      let r = record_here recs z.0 z.1 z.2 in
      (z.0, mark, (r.0, r.1, ap (λ (y : ClockRec). y.first) r.2 ∙ z.3))

  shows_end : (m : Option Mark) → s.mark ≡ m → 2 ^ 63 ≤ slice_index words 0 → (g : ℕ) × (mark : Mark) × HasSet recs g mark
  shows_end (Some mark) e h = who_set mark e
  shows_end None e h =
      let z = ap end_bit e in
      let w = k.shows in
      let r = room words (map clock_of recs) s before late k few_recs in
      absurd (omega arith)

  set_shows : (g : ℕ) (mark : Mark) → HasSet recs g mark → 2 ^ 63 ≤ slice_index words 0
  set_shows g mark set = let z = ap end_bit (its g mark set) in let w = k.shows in omega arith

  ends_once : EndsOnce (slice_index words 0) recs s
  ends_once = record {
    shown = (shows_end s.mark refl, (λ t. set_shows t.0 t.1 t.2));
    one = λ g h mark other p q. (same_setter g h mark other p q, same_mark g h mark other p q);
    its = its;
  }

  -- ---- the print

  abbrev has_it : ℕ → Drawn → ℕ
  has_it t d = one_if (d.ticket == t)

  its_own : (d : Drawn) → has_it d.ticket d ≡ 1
  its_own d = cond_same d.ticket d.ticket refl

  -- the piece of a ticket, and whether it is void
  piece_here : (g i : ℕ) (d : Drawn) → HasDrawnAt recs g i d
      → (slice_get (before ++ late) d.ticket ≡ Some d.bytes) × (d.is_void ≡ nat_le (length before) d.ticket)
  piece_here g i d (c, at, there) = k.pieces g i c.clock d (clock_here recs g c at) there

  -- the record that has drawn the ticket
  drawn : (t : ℕ) (bytes : List ℕ) → slice_get before t ≡ Some bytes
      → (g i : ℕ) × HasDrawnAt recs g i (record { ticket = t; bytes = bytes; is_void = false })
  drawn t bytes e =
      let low = below before t bytes e in
      let l = length-append before late in
      let sum = k.once t (omega arith) in
      let who = who_of (has_ticket t) (map clock_of recs) (omega arith) in
      let r = record_here recs who.0 who.1 who.2 in
      let which = who_of (has_it t) who.1.prints who.3 in
      let d = which.1 in
      let ticket : d.ticket ≡ t = counts_it d.ticket t which.3 in
      let p = k.pieces who.0 which.0 who.1 d who.2 which.2 in
      let is : d.bytes ≡ bytes =
      same_Some d.bytes bytes (sym p.0 ∙ (ap (λ n. slice_get (before ++ late) n) ticket ∙ get_front before late t bytes e)) in
      let valid : d.is_void ≡ false = p.1 ∙ no_le (length before) d.ticket (omega arith) in
      let whole : d ≡ record { ticket = t; bytes = bytes; is_void = false } = λ j. record { ticket = ticket j; bytes = is j; is_void = valid j } in
      (who.0, which.0, (r.0, r.1, ap (λ (y : ClockRec). slice_get y.prints which.0) r.2 ∙ (which.2 ∙ ap Some whole)))

  kept : (g i : ℕ) (d : Drawn) → HasDrawnAt recs g i d → d.is_void ≡ false → slice_get before d.ticket ≡ Some d.bytes
  kept g i d has valid =
      let p = piece_here g i d has in
      sym (before_end before late d.ticket (less_of (length before) d.ticket (sym p.1 ∙ valid))) ∙ p.0

  ticket_once : (g i : ℕ) (d : Drawn) → HasDrawnAt recs g i d → sum_by (has_ticket d.ticket) (map clock_of recs) ≡ 1
  ticket_once g i d has = k.once d.ticket (below (before ++ late) d.ticket d.bytes (piece_here g i d has).0)

  -- a ticket is drawn once
  same_place : (t g h i j : ℕ) (d e : Drawn) → HasDrawnAt recs g i d → HasDrawnAt recs h j e → d.ticket ≡ t → e.ticket ≡ t → (g ≡ h) × (i ≡ j)
  same_place t g h i j d e (c, at, there) (b, here, its) first second =
      let once : sum_by (has_ticket t) (map clock_of recs) ≡ 1 =
      subst (λ n. sum_by (has_ticket n) (map clock_of recs) ≡ 1) first (ticket_once g i d (c, at, there)) in
      let a : has_it t d ≡ 1 = cond_same d.ticket t first in
      let z : has_it t e ≡ 1 = cond_same e.ticket t second in
      let mine = part_of (has_it t) c.clock.prints i d there in
      let yours = part_of (has_it t) b.clock.prints j e its in
      let all = part_of (has_ticket t) (map clock_of recs) g c.clock (clock_here recs g c at) in
      dite (ℕ_discrete g h)
      (λ q. (
        q,
        dite (ℕ_discrete i j) (λ r. r)
            (λ ne.
            let same : b ≡ c = same_Some b c (sym here ∙ (ap (slice_get recs) (sym q) ∙ at)) in
            let moved : slice_get c.clock.prints j ≡ Some e = ap (λ (y : Record). slice_get y.clock.prints j) (sym same) ∙ its in
            let p = parts_of (has_it t) c.clock.prints i j d e ne there moved in
            absurd (omega arith)),
      ))
      (λ ne.
      let p = parts_of (has_ticket t) (map clock_of recs) g h c.clock b.clock ne (clock_here recs g c at) (clock_here recs h b here) in
      absurd (omega arith))

  prints : PrintsInOrder recs s.plain.printed
  prints = record {
    pieces = before;
    is = k.print;
    drawn = drawn;
    kept = kept;
    one = λ g h i j d e p q same. same_place d.ticket g h i j d e p q refl (sym same);
  }

-- ---- a closed table

pub outcome_law : OutcomeLaw
outcome_law T words v end =
    let core = end.account.explains.1 in
    let s = end.account.explains.0 in
    let story = core.story in
    let f = few (most_goroutines T.limits) (slice_index words made_at) (map clock_of end.recs) story.numbers in
    let capped = core.capped in
    let short : length (map clock_of end.recs) ≤ 1000000 = omega arith in
    record {
      events = flattened end.account.gains;
      s = s;
      leads = story.leads;
      end = ends_once words end.recs s story.before story.late story.clock short;
      cause = λ mark e.
          subst (λ (bytes : List ℕ). Marked T.code T.sizes.page_words T.limits (IsCause T.code T.sizes T.limits) (flattened end.account.gains) mark bytes)
          (sym story.clock.print) (story.over mark e);
      print = prints words end.recs s story.before story.late story.clock short;
      counts = story.shares;
    }

-- ---- all records

module _ (T : Setup) (words : List ℕ) (v : View Record) (end : Closing accesses (Core T) (opening_table T) words v) (family : HasFamily v) where
  numbers : Numbers (most_goroutines T.limits) (slice_index words made_at) (map clock_of end.recs)
  numbers = end.account.explains.1.story.numbers

  -- a record that the view has is the one of the list
  same_record : (g : ℕ) (c d : Record) → HasRow v.records g d → slice_get end.recs g ≡ Some c → HasRow v.records g c
  same_record g c d has e =
      subst (HasRow v.records g) (same_Some d c (sym (get_of end.recs g d (end.here g d has).0) ∙ e)) has

  -- the goroutine that has started goroutine h
  parent : (h : ℕ) (c : Record) → 0 < h → slice_get end.recs h ≡ Some c
      → (g i : ℕ) × (b : Record) × (slice_get end.recs g ≡ Some b) × (slice_get b.clock.children i ≡ Some h) × (g < h)
  parent h c some e =
      let l = length-map end.recs clock_of in
      let low = below end.recs h c e in
      let sum = numbers.one h some (omega arith) in
      let who = who_of (has_child h) (map clock_of end.recs) (omega arith) in
      let r = record_here end.recs who.0 who.1 who.2 in
      let which = who_of (λ (n : ℕ). one_if (n == h)) who.1.children who.3 in (
        who.0,
        which.0,
        r.0,
        r.1,
        ap (λ (y : ClockRec). slice_get y.children which.0) r.2 ∙ (which.2 ∙ ap Some (counts_it which.1 h which.3)),
        numbers.smaller who.0 h who.1 who.2 who.3,
      )

  has_below : (n g : ℕ) (c : Record) → g < n → slice_get end.recs g ≡ Some c → HasRow v.records g c
  has_below zero g c low e = absurd (omega arith)
  has_below (suc n) zero c low e = same_record 0 c family.main.0 family.main.1 e
  has_below (suc n) (suc g) c low e =
      let p = parent (suc g) c (omega arith) e in
      let less = p.5 in
      let child = family.children p.0 (suc g) p.1 p.2 (has_below n p.0 p.2 (omega arith) p.3) p.4 in
      same_record (suc g) c child.0 child.1 e

pub family_law : FamilyLaw
family_law T words v end family g c e = has_below T words v end family (suc g) g c (omega arith) e

-- ---- a new table

module _ (T : Setup) where
  abbrev z : TableSizes
  z = layout T

  abbrev plain : List ℕ
  plain = replicate (all_words z) 0

  zero_word : (i : ℕ) → i < all_words z → i ≢ made_at → i ≢ count_at z z.slots → slice_index (opening_table T) i ≡ 0
  zero_word i inside other apart =
      word_same (slice_set plain made_at 1) (count_at z z.slots) i 2 apart
      ∙ (word_same plain made_at i 1 other ∙ get_or-replicate (all_words z) i 0 0 inside)

  pub long_enough : length (opening_table T) ≡ all_words z
  long_enough =
      length_set (slice_set plain made_at 1) (count_at z z.slots) 2 ∙ (length_set plain made_at 1 ∙ length-replicate (all_words z) 0)

  global_word : slice_index (opening_table T) (count_at z z.slots) ≡ 2
  global_word =
      let a = length_set plain made_at 1 in
      let l : length plain ≡ all_words z = length-replicate (all_words z) 0 in
      word_new (slice_set plain made_at 1) (count_at z z.slots) 2 (omega arith)

  opens_with : OpensWith T (opening_table T)
  opens_with = record {
    clock = zero_word clock_at (omega arith) (λ e. omega arith) (λ e. omega arith);
    made = made_word z;
    states = λ p h. zero_word (state_at z p) (omega arith) (λ e. omega arith) (λ e. omega arith);
    nexts = λ p h. zero_word (next_at z p) (omega arith) (λ e. omega arith) (λ e. omega arith);
    counts = λ r h. zero_word (count_at z r) (omega arith) (λ e. omega arith) (λ e. omega arith);
    global = global_word;
    heads = λ r h. zero_word (head_at z r) (omega arith) (λ e. omega arith) (λ e. omega arith);
  }

pub first_law : FirstLaw
first_law T checked written constants capped =
    let core = opening_law T checked written constants capped in
    let is : region_start T.code ≡ core.0 = same_Some (region_start T.code) core.0 core.1.story.leads in
    (opens_with T, subst (λ (s : RegionState). CoreAt T (opening_table T) (first_of T.code ∷ []) [] s) (sym is) core.1)
