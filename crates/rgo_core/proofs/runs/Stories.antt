-- The run that explains a table's words, after each kind of step. The kinds differ in the clock and the numbers; the run, its room and the
-- counts grow in the same way for all.
use Rattle.std.proofs.Common.{◌≡◌, ℕ, suc, ◌+◌, ◌%◌, ◌^◌, ◌<◌, ◌≤◌, Bool, true, false, List, [], ◌∷◌, ◌++◌, Option, Some, None, length, take, if◌then◌else◌, slice_get, slice_set, slice_index, bit_or, refl, ap, sym, subst, ◌∙◌, arith, length-append}
use Rattle.std.proofs.lemmas.List.{take_all}
use Rattle.std.proofs.lemmas.Option.{same_Some}
use mathlib.Core.Logic.{dite}
use native.Mathlib.Decide.{dec_le, ℕ_discrete}
use Rattle.rgo_sound.specs.Code.Code.{Code}
use Rattle.rgo_core_rule.specs.Lists.{flattened}
use Rattle.rgo_sound.specs.Machine.Limits.{is_within, most_goroutines}
use Rattle.rgo_sound.specs.Machine.declared.limits.Limits.{Limits}
use Rattle.rgo_sound.specs.Machine.declared.limits.Sizes.{Sizes}
use Rattle.rgo_sound.specs.RegionMachine.Counts.{Counts, counts_of}
use Rattle.rgo_sound.specs.RegionMachine.Instructions.{printed_if}
use Rattle.rgo_sound.specs.RegionMachine.Machine.{Event, region_start, region_step}
use Rattle.rgo_sound.specs.RegionMachine.Room.{has_room, roomy_run, roomy_step}
use Rattle.rgo_sound.specs.RegionMachine.States.{Mark, RegionState}
use Rattle.rgo_sound.specs.Tally.{counts_plus, no_share}
use Rattle.rgo_core.specs.runs.Causes.{IsCause}
use Rattle.rgo_core.specs.ties.Clock.{Clock}
use Rattle.rgo_core.specs.moves.Clock.{ClockHasEnded, first_mark}
use Rattle.rgo_core.specs.ties.Numbers.{Numbers}
use Rattle.rgo_core.specs.Records.{ClockRec, all_counted, counted, drawn_at}
use Rattle.rgo_core.specs.runs.Runs.{Marked, Printed, limited_run, step_in_limits}
use Rattle.rgo_core.specs.Steps.{SameClock}
use Rattle.rgo_core.specs.runs.Story.{Story}
use Rattle.rgo_core.proofs.clock.Clocks.{before_after, clock_child, clock_end, clock_print, clock_same, is_first, is_later, late_after, room}
use Rattle.rgo_core.proofs.goroutines.Counting.{counted_child, counted_more, counted_same}
use Rattle.rgo_core.proofs.Lists.{take_before, word_new, word_same}
use Rattle.rgo_core.proofs.goroutines.Numbers.{numbers_child, numbers_refused, numbers_same}
use Rattle.rgo_core.proofs.runs.Runs.{marked_more, marked_now, printed_more, printed_whole, run_then, step_within}

-- there are at most as many records as goroutines may start
pub few : (limit drawn : ℕ) (recs : List ClockRec) → Numbers limit drawn recs → length recs ≤ limit
few limit drawn recs k = dite (dec_le drawn limit) (λ h. let z = k.low h in omega arith) (λ h. let z = k.high (omega arith) in omega arith)

module _ (code : Code) (sizes : Sizes) (limits : Limits) (words : List ℕ) (recs : List ClockRec) (events : List Event) (s : RegionState)
    (k : Story code sizes limits words recs events s) (g : ℕ) (c d : ClockRec) (at : slice_get recs g ≡ Some c) where
  abbrev Cause : Mark → RegionState → Type 0
  Cause = IsCause code sizes limits

  -- the region machine makes no step
  pub story_stays : (more : List ℕ) → counted d ≡ counted c → SameClock c d → slice_index more 0 ≡ slice_index words 0
      → slice_index more 16 ≡ slice_index words 16 → Story code sizes limits more (slice_set recs g d) events s
  story_stays more count same clock made = record {
    leads = k.leads;
    room = k.room;
    within = k.within;
    before = k.before;
    late = k.late;
    clock = clock_same words recs s k.before k.late g c d k.clock at same.prints more s same.first clock refl refl;
    cuts = k.cuts;
    over = k.over;
    numbers = subst (λ n. Numbers (most_goroutines limits) n (slice_set recs g d)) (sym made)
        (numbers_same (most_goroutines limits) (slice_index words 16) recs k.numbers g c d at same.children same.refused);
    shares = k.shares ∙ sym (counted_same recs g c d at count);
  }

  -- a number is refused
  pub story_refused : 16 < length words → most_goroutines limits ≤ slice_index words 16 → c.refused ≡ false → counted d ≡ counted c
      → d.prints ≡ c.prints → d.first ≡ c.first → d.children ≡ c.children → d.refused ≡ true
      → Story code sizes limits (slice_set words 16 (suc (slice_index words 16))) (slice_set recs g d) events s
  story_refused wide full never count prints first children now = record {
    leads = k.leads;
    room = k.room;
    within = k.within;
    before = k.before;
    late = k.late;
    clock = clock_same words recs s k.before k.late g c d k.clock at prints _ s first (word_same words 16 0 _ (λ e. omega arith)) refl refl;
    cuts = k.cuts;
    over = k.over;
    numbers = subst (λ n. Numbers (most_goroutines limits) n (slice_set recs g d)) (sym (word_new words 16 _ wide))
        (numbers_refused (most_goroutines limits) (slice_index words 16) recs k.numbers g c d at full never children now);
    shares = k.shares ∙ sym (counted_same recs g c d at count);
  }

  module _ (e : Event) (next : RegionState) (step : region_step code sizes.page_words s e ≡ Some next) (left : has_room sizes s e ≡ true)
      (within : is_within limits next.plain ≡ true) (gain : Counts) (adds : counts_of next ≡ counts_plus (counts_of s) gain)
      (count : counted d ≡ counts_plus (counted c) gain) where
    abbrev longer : List Event
    longer = events ++ e ∷ []

    limited : step_in_limits code sizes.page_words limits s e ≡ Some next
    limited = step_within code sizes.page_words limits s next e step within

    leads_on : limited_run code sizes.page_words limits longer ≡ Some next
    leads_on = run_then (step_in_limits code sizes.page_words limits) (region_start code) events s next e k.leads limited

    room_on : roomy_run code sizes longer ≡ Some next
    room_on = run_then (roomy_step code sizes) (region_start code) events s next e k.room
        (ap (λ (b : Bool). if b then region_step code sizes.page_words s e else None) left ∙ step)

    shares_on : counts_of next ≡ all_counted (slice_set recs g d)
    shares_on = adds ∙ (ap (λ (x : Counts). counts_plus x gain) k.shares ∙ sym (counted_more recs g c d gain at count))

    cuts_on : (j : ℕ) → j ≤ length k.before → Printed code sizes.page_words limits longer (flattened (take j k.before))
    cuts_on j h = printed_more code sizes.page_words limits events (e ∷ []) (flattened (take j k.before)) (k.cuts j h)

    over_on : (m : Mark) → s.mark ≡ Some m → Marked code sizes.page_words limits Cause longer m (flattened k.before)
    over_on m h = marked_more code sizes.page_words limits Cause events (e ∷ []) m (flattened k.before) (k.over m h)

    -- it neither prints nor ends, and nobody starts
    pub story_does : (more : List ℕ) → SameClock c d → slice_index more 0 ≡ slice_index words 0 → slice_index more 16 ≡ slice_index words 16
        → next.mark ≡ s.mark → next.plain.printed ≡ s.plain.printed → Story code sizes limits more (slice_set recs g d) longer next
    story_does more same clock made mark printed = record {
      leads = leads_on;
      room = room_on;
      within = within;
      before = k.before;
      late = k.late;
      clock = clock_same words recs s k.before k.late g c d k.clock at same.prints more next same.first clock mark printed;
      cuts = cuts_on;
      over = λ m h. over_on m (sym mark ∙ h);
      numbers = subst (λ n. Numbers (most_goroutines limits) n (slice_set recs g d)) (sym made)
          (numbers_same (most_goroutines limits) (slice_index words 16) recs k.numbers g c d at same.children same.refused);
      shares = shares_on;
    }

    -- it prints
    module _ (b : List ℕ) (capped : most_goroutines limits ≤ 1000000) (wide : 16 < length words) (short : length c.prints < 2 ^ 43)
        (prints : d.prints ≡ c.prints ++ drawn_at (slice_index words 0) b ∷ []) (first : d.first ≡ c.first) (children : d.children ≡ c.children)
        (refused : d.refused ≡ c.refused) (mark : next.mark ≡ s.mark)
        (printed : next.plain.printed ≡ printed_if s.mark s.plain.printed (s.plain.printed ++ b)) where
      abbrev before : List (List ℕ)
      before = before_after s.mark k.before b

      low : length (k.before ++ k.late) < 9223372036854775807
      low = room words recs s k.before k.late k.clock (let f = few (most_goroutines limits) (slice_index words 16) recs k.numbers in omega arith)

      clock_on : Clock (slice_set words 0 ((slice_index words 0 + 1) % 18446744073709551616)) (slice_set recs g d) next before (late_after s.mark k.late b)
      clock_on = clock_print words recs s next k.before k.late g c d b k.clock at short low (omega arith) prints first mark printed

      cuts_print : (m : Option Mark) → s.mark ≡ m → (j : ℕ) → j ≤ length (before_after m k.before b)
          → Printed code sizes.page_words limits longer (flattened (take j (before_after m k.before b)))
      cuts_print (Some m) is j h = cuts_on j h
      cuts_print None is j h = dite (ℕ_discrete j (suc (length k.before)))
          (λ q. let l = length-append k.before (b ∷ []) in
          let says : next.plain.printed ≡ flattened (k.before ++ b ∷ []) = clock_on.print ∙ ap (λ (o : Option Mark). flattened (before_after o k.before b)) is in
          subst (λ (z : List ℕ). Printed code sizes.page_words limits longer z) (says ∙ sym (ap flattened (take_all j (k.before ++ b ∷ []) (omega arith))))
          (printed_whole code sizes.page_words limits longer next leads_on (mark ∙ is)))
          (λ ne. let l = length-append k.before (b ∷ []) in
          let less : j ≤ length k.before = omega arith in
          subst (λ (t : List (List ℕ)). Printed code sizes.page_words limits longer (flattened t)) (sym (take_before j k.before (b ∷ []) less)) (cuts_on j less))

      over_print : (m : Option Mark) → s.mark ≡ m → (w : Mark) → m ≡ Some w
          → Marked code sizes.page_words limits Cause longer w (flattened (before_after m k.before b))
      over_print None is w q = cc
      over_print (Some m) is w q = over_on w (is ∙ q)

      pub story_prints : Story code sizes limits (slice_set words 0 ((slice_index words 0 + 1) % 18446744073709551616)) (slice_set recs g d) longer next
      story_prints = record {
        leads = leads_on;
        room = room_on;
        within = within;
        before = before;
        late = late_after s.mark k.late b;
        clock = clock_on;
        cuts = cuts_print s.mark refl;
        over = λ w h. over_print s.mark refl w (sym mark ∙ h);
        numbers = subst (λ n. Numbers (most_goroutines limits) n (slice_set recs g d)) (sym (word_same words 0 16 _ (λ e. omega arith)))
            (numbers_same (most_goroutines limits) (slice_index words 16) recs k.numbers g c d at children refused);
        shares = shares_on;
      }

    -- it ends the run
    module _ (mark : Mark) (capped : most_goroutines limits ≤ 1000000) (wide : 16 < length words)
        (ends : ClockHasEnded c (slice_index words 0) mark d) (marked : next.mark ≡ first_mark s.mark mark)
        (printed : next.plain.printed ≡ s.plain.printed) (cause : s.mark ≡ None → Cause mark s) where
      low_end : length (k.before ++ k.late) < 9223372036854775807
      low_end = room words recs s k.before k.late k.clock (let f = few (most_goroutines limits) (slice_index words 16) recs k.numbers in omega arith)

      over_end : (m : Option Mark) → s.mark ≡ m → (w : Mark) → next.mark ≡ Some w
          → Marked code sizes.page_words limits Cause longer w (flattened k.before)
      over_end None none w q =
          let is = is_first words recs s k.before k.late g c d k.clock at ends.prints next mark (omega arith) low_end ends.first marked printed none in
          let same : mark ≡ w = same_Some mark w (sym is.1 ∙ q) in
          subst (λ (z : List ℕ). Marked code sizes.page_words limits Cause longer w z) k.clock.print
          (marked_now code sizes.page_words limits Cause events e s next w k.leads none limited q printed (subst (λ (m : Mark). Cause m s) same (cause none)))
      over_end (Some m) some w q =
          let is = is_later words recs s k.before k.late g c d k.clock at ends.prints next mark (omega arith) low_end ends.first marked printed m some in
          over_on w (some ∙ (sym is.1 ∙ q))

      pub story_ends : Story code sizes limits (slice_set words 0 (bit_or (slice_index words 0) 9223372036854775808)) (slice_set recs g d) longer next
      story_ends = record {
        leads = leads_on;
        room = room_on;
        within = within;
        before = k.before;
        late = k.late;
        clock = clock_end words recs s k.before k.late g c d k.clock at ends.prints next mark (omega arith) low_end ends.first marked printed;
        cuts = cuts_on;
        over = over_end s.mark refl;
        numbers = subst (λ n. Numbers (most_goroutines limits) n (slice_set recs g d)) (sym (word_same words 0 16 _ (λ e. omega arith)))
            (numbers_same (most_goroutines limits) (slice_index words 16) recs k.numbers g c d at ends.children ends.refused);
        shares = shares_on;
      }

    -- another goroutine starts
    module _ (child : ClockRec) (wide : 16 < length words) (less : slice_index words 16 < most_goroutines limits) (no_prints : child.prints ≡ [])
        (no_first : child.first ≡ None) (no_children : child.children ≡ []) (no_refusal : child.refused ≡ false) (no_counts : counted child ≡ no_share)
        (prints : d.prints ≡ c.prints) (first : d.first ≡ c.first) (children : d.children ≡ slice_index words 16 ∷ c.children)
        (refused : d.refused ≡ c.refused) (mark : next.mark ≡ s.mark) (printed : next.plain.printed ≡ s.plain.printed) where
      numbers_on : (slice_index words 16 ≡ length recs)
          × Numbers (most_goroutines limits) (suc (slice_index words 16)) (slice_set recs g d ++ child ∷ [])
      numbers_on = numbers_child (most_goroutines limits) (slice_index words 16) recs k.numbers g c d at child no_children no_refusal children refused less

      pub story_starts : (slice_index words 16 ≡ length recs)
          × Story code sizes limits (slice_set words 16 (suc (slice_index words 16))) (slice_set recs g d ++ child ∷ []) longer next
      story_starts = (
        numbers_on.0,
        record {
          leads = leads_on;
          room = room_on;
          within = within;
          before = k.before;
          late = k.late;
          clock = clock_child _ (slice_set recs g d) next k.before k.late child no_prints no_first
              (clock_same words recs s k.before k.late g c d k.clock at prints _ next first (word_same words 16 0 _ (λ e. omega arith)) mark printed);
          cuts = cuts_on;
          over = λ m h. over_on m (sym mark ∙ h);
          numbers = subst (λ n. Numbers (most_goroutines limits) n (slice_set recs g d ++ child ∷ [])) (sym (word_new words 16 _ wide)) numbers_on.1;
          shares = shares_on ∙ sym (counted_child (slice_set recs g d) child no_counts);
        },
      )
