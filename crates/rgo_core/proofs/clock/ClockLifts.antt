-- Prints, ends, loads of the clock and draws of numbers, as steps of the rule. The arithmetic of the word is here: tickets stay below 2^63,
-- so an addition never reaches the bit of the end, and an `or` adds it or changes nothing.
use Rattle.std.proofs.Common.{◌≡◌, ◌≢◌, inl, inr, ⊎_elim, ℕ, suc, ◌+◌, ◌%◌, ◌<◌, ◌≤◌, true, false, List, [], ◌∷◌, ◌++◌, Some, length, map, slice_get, slice_set, slice_index, bit_or, refl, ap, sym, subst, ◌∙◌, arith, length-append}
use Rattle.std.proofs.Math.Nat.{mod-eq_of_lt}
use Rattle.std.proofs.lemmas.List.{append-nil, length-map, map-append}
use mathlib.Core.Logic.{dite}
use native.Mathlib.Decide.{dec_le}
use Rattle.rgo_core_frames.proofs.steps.Ints.{ints_stay}
use Rattle.rgo_core_frames.proofs.Sound.{next_sound}
use Rattle.rgo_core_frames.specs.Records.{FramesRec as FrameRec}
use Rattle.rgo_core_frames.specs.States.{IsSound}
use Rattle.rgo_core_memory.proofs.Rows.{at_set}
use Rattle.rgo_core_memory.proofs.image.Stepped.{map_set}
use Rattle.rgo_sound.specs.Machine.Limits.{deepest, is_within, most_goroutines}
use Rattle.rgo_sound.specs.RegionMachine.Machine.{Event}
use Rattle.rgo_sound.proofs.Places.{get_snoc, length_set}
use Rattle.rgo_core.specs.moves.Clock.{RunEndLaw, EndsRunNext, LookLaw, NumberLaw, Prints, StartsGoroutineNext, TicketLaw}
use Rattle.rgo_core.specs.Core.{CoreAt, Situation, Setup, layout}
use Rattle.rgo_core.specs.Records.{ClockRec, Record, blank, clock_of, counted, frame_of, looked, with_child, with_refusal}
use Rattle.rgo_core.specs.runs.Story.{Story}
use Rattle.rgo_core.proofs.steps.Lift.{all_within, clock_at, few_records, shallow_here, stays_core, within_set}
use Rattle.rgo_core.proofs.Lists.{get_of}
use Rattle.rgo_core.proofs.goroutines.Numbers.{drawn_low}
use Rattle.rgo_core.proofs.image.Standing.{image_made, image_same, wide}
use Rattle.rgo_core.proofs.runs.Stories.{story_ends, story_prints, story_refused, story_starts}
use Rattle.rgo_core.proofs.accesses.Links.{Waits, all_kept, links_low, links_same}
use Rattle.rgo_core_channels.proofs.Lists.{set_own}

pub ticket_law : TicketLaw
ticket_law T g c bytes after short is finds words recs run core at fits =
    let n : ℕ = slice_index words 0 in
    let x : Situation T g c = record { words = words; recs = recs; events = run; s = core.0; core = core.1; is_c = get_of recs g c at } in
    let p : Prints x bytes (after n) = finds x fits in
    let d : Record = after n in
    let sound = next_sound T.code T.sizes.page_words x.s p.goes.next p.goes.event x.core.sound p.goes.steps in
    let w = wide x in
    record {
      after = d;
      gain = p.goes.event ∷ [];
      explains = (
        p.goes.next,
        record {
          sound = sound;
          constants = x.core.constants;
          ints = ints_stay.step T.code T.sizes.page_words x.s p.goes.next p.goes.event x.core.constants x.core.ints p.goes.steps;
          capped = x.core.capped;
          story = subst (λ (l : List ClockRec). Story T.code T.sizes T.limits (slice_set words 0 ((n + 1) % 18446744073709551616)) l (run ++ p.goes.event ∷ []) p.goes.next)
              (sym (map_set clock_of recs g d))
              (story_prints T.code T.sizes T.limits words (map clock_of recs) run x.s x.core.story g c.clock d.clock (clock_at x) p.goes.event p.goes.next p.goes.steps p.goes.room
              (within_set x (slice_set words 0 ((n + 1) % 18446744073709551616)) d p.goes.next sound p.goes.image p.goes.shallow) p.goes.gain p.goes.adds p.goes.counted
              bytes x.core.capped (omega arith) short
              (ap (λ (y : ClockRec). y.prints) (is n)) (ap (λ (y : ClockRec). y.first) (is n)) (ap (λ (y : ClockRec). y.children) (is n))
              (ap (λ (y : ClockRec). y.refused) (is n)) p.mark p.printed);
          image = p.goes.image;
          links = p.goes.links;
        },
      );
      counts = ap (λ (y : ClockRec). y.accesses) (is n);
      tells_so = refl;
    }

pub end_law : RunEndLaw
end_law T g c mark after is finds words recs run core at fits =
    let n : ℕ = slice_index words 0 in
    let x : Situation T g c = record { words = words; recs = recs; events = run; s = core.0; core = core.1; is_c = get_of recs g c at } in
    let p : EndsRunNext x mark (after n) = finds x fits in
    let d : Record = after n in
    let sound = next_sound T.code T.sizes.page_words x.s p.goes.next p.goes.event x.core.sound p.goes.steps in
    let w = wide x in
    record {
      after = d;
      gain = p.goes.event ∷ [];
      explains = (
        p.goes.next,
        record {
          sound = sound;
          constants = x.core.constants;
          ints = ints_stay.step T.code T.sizes.page_words x.s p.goes.next p.goes.event x.core.constants x.core.ints p.goes.steps;
          capped = x.core.capped;
          story = subst (λ (l : List ClockRec). Story T.code T.sizes T.limits (slice_set words 0 (bit_or n 9223372036854775808)) l (run ++ p.goes.event ∷ []) p.goes.next)
              (sym (map_set clock_of recs g d))
              (story_ends T.code T.sizes T.limits words (map clock_of recs) run x.s x.core.story g c.clock d.clock (clock_at x) p.goes.event p.goes.next p.goes.steps p.goes.room
              (within_set x (slice_set words 0 (bit_or n 9223372036854775808)) d p.goes.next sound p.goes.image p.goes.shallow) p.goes.gain p.goes.adds p.goes.counted
              mark x.core.capped (omega arith) (is n) p.marked p.printed p.cause);
          image = p.goes.image;
          links = p.goes.links;
        },
      );
      counts = (is n).accesses;
      tells_so = refl;
    }

pub look_law : LookLaw
look_law T g c words recs run core at fits =
    let x : Situation T g c = record { words = words; recs = recs; events = run; s = core.0; core = core.1; is_c = get_of recs g c at } in
    let d : Record = looked c in
    record {
      after = d;
      gain = [];
      explains = (
        core.0,
        subst (λ (l : List Event). CoreAt T (slice_set words 0 (slice_index words 0)) (slice_set recs g d) l core.0) (sym (append-nil run))
            (subst (λ (ws : List ℕ). CoreAt T ws (slice_set recs g d) run core.0) (sym (set_own words 0))
            (stays_core x words d refl refl (record {
              counted = refl;
              same = record { prints = refl; first = refl; children = refl; refused = refl };
              image = image_same T.code (layout T) words recs x.s x.core.image g c d x.is_c refl refl refl;
              links = links_same x d (all_kept refl refl refl refl) (Waits refl refl refl);
            }))),
      );
      counts = refl;
      tells_so = refl;
    }

pub map_more : {A : Type 0} (f : Record → A) (recs : List Record) (g : ℕ) (d child : Record)
    → map f (slice_set recs g d ++ child ∷ []) ≡ slice_set (map f recs) g (f d) ++ f child ∷ []
map_more f recs g d child = map-append f (slice_set recs g d) (child ∷ []) ∙ ap (λ l. l ++ f child ∷ []) (map_set f recs g d)

module _ {T : Setup} {g : ℕ} {c : Record} (x : Situation T g c) where
  abbrev n : ℕ
  n = slice_index x.words 16

  -- the number is far below 2^64
  fits_on : (n + 1) % 18446744073709551616 ≡ suc n
  fits_on =
      let d = drawn_low (most_goroutines T.limits) n (map clock_of x.recs) x.core.story.numbers in
      let l = length-map x.recs clock_of in
      let f = few_records x in
      let cap = x.core.capped in
      mod-eq_of_lt (omega arith) ∙ omega arith

  -- at the limit or above
  refused_core : c.clock.refused ≡ false → most_goroutines T.limits ≤ n
      → CoreAt T (slice_set x.words 16 (suc n)) (slice_set x.recs g (record c { clock = with_refusal c.clock })) x.events x.s
  refused_core never full =
      let d : Record = record c { clock = with_refusal c.clock } in
      let w = wide x in
      record {
        sound = x.core.sound;
        constants = x.core.constants;
        ints = x.core.ints;
        capped = x.core.capped;
        story = subst (λ (l : List ClockRec). Story T.code T.sizes T.limits (slice_set x.words 16 (suc n)) l x.events x.s) (sym (map_set clock_of x.recs g d))
            (story_refused T.code T.sizes T.limits x.words (map clock_of x.recs) x.events x.s x.core.story g c.clock d.clock (clock_at x) (omega arith) full never
            refl refl refl refl refl);
        image = image_made T.code (layout T) x.words (slice_set x.recs g d) x.s (suc n)
            (image_same T.code (layout T) x.words x.recs x.s x.core.image g c d x.is_c refl refl refl);
        links = links_low x 16 (suc n) (omega arith) d (all_kept refl refl refl refl) (Waits refl refl refl);
      }

  -- below it
  module _ (d child : Record) (never : c.clock.refused ≡ false) (is : d.clock ≡ with_child c.clock n) (new : child.clock ≡ blank)
      (less : n < most_goroutines T.limits) (p : StartsGoroutineNext x d child) where
    abbrev recs' : List Record
    recs' = slice_set x.recs g d ++ child ∷ []

    sound : IsSound T.code p.goes.next
    sound = next_sound T.code T.sizes.page_words x.s p.goes.next p.goes.event x.core.sound p.goes.steps

    frames_are : map frame_of recs' ≡ slice_set (map frame_of x.recs) g d.frame ++ child.frame ∷ []
    frames_are = map_more frame_of x.recs g d child

    clocks_are : map clock_of recs' ≡ slice_set (map clock_of x.recs) g d.clock ++ child.clock ∷ []
    clocks_are = map_more clock_of x.recs g d child

    as_many : n ≡ length x.recs
    as_many = let l = length-map x.recs clock_of in let z = x.core.story.numbers.low (omega arith) in omega arith

    within : is_within T.limits p.goes.next.plain ≡ true
    within = all_within T.code _ p.goes.image.addresses T.limits p.goes.next (map frame_of recs') sound p.goes.image.frames
        (let l = length-map recs' frame_of in let m = length_set x.recs g d in let a = length-append (slice_set x.recs g d) (child ∷ []) in
        let q = as_many in omega arith)
        (λ j y e. ⊎_elim
        (λ t. ⊎_elim
        (λ (u : (j ≡ g) × (d.frame ≡ y)). subst (λ (z : FrameRec). length z.frames ≤ deepest) u.1 p.goes.shallow)
        (λ (u : (j ≢ g) × (slice_get (map frame_of x.recs) j ≡ Some y)). shallow_here x j y u.1)
        (at_set (map frame_of x.recs) g j d.frame y t))
        (λ (t : (j ≡ length (slice_set (map frame_of x.recs) g d.frame)) × (y ≡ child.frame)). subst (λ (z : FrameRec). length z.frames ≤ deepest) (sym t.1) p.shallow)
        (get_snoc (slice_set (map frame_of x.recs) g d.frame) child.frame j y (ap (λ (l : List FrameRec). slice_get l j) (sym frames_are) ∙ e)))

    started_core : (n ≡ length x.recs) × CoreAt T (slice_set x.words 16 (suc n)) recs' (x.events ++ p.goes.event ∷ []) p.goes.next
    started_core =
        let w = wide x in
        let q = story_starts T.code T.sizes T.limits x.words (map clock_of x.recs) x.events x.s x.core.story g c.clock d.clock (clock_at x) p.goes.event p.goes.next
        p.goes.steps p.goes.room within p.goes.gain p.goes.adds p.goes.counted child.clock (omega arith) less
        (ap (λ (y : ClockRec). y.prints) new) (ap (λ (y : ClockRec). y.first) new) (ap (λ (y : ClockRec). y.children) new)
        (ap (λ (y : ClockRec). y.refused) new) (ap counted new) (ap (λ (y : ClockRec). y.prints) is) (ap (λ (y : ClockRec). y.first) is)
        (ap (λ (y : ClockRec). y.children) is) (ap (λ (y : ClockRec). y.refused) is) p.mark p.printed in (
          as_many,
          record {
            sound = sound;
            constants = x.core.constants;
            ints = ints_stay.step T.code T.sizes.page_words x.s p.goes.next p.goes.event x.core.constants x.core.ints p.goes.steps;
            capped = x.core.capped;
            story = subst (λ (l : List ClockRec). Story T.code T.sizes T.limits (slice_set x.words 16 (suc n)) l (x.events ++ p.goes.event ∷ []) p.goes.next) (sym clocks_are) q.1;
            image = p.goes.image;
            links = p.goes.links;
          },
        )

pub number_law : NumberLaw
number_law T g c after child never is new starts words recs run core at fits =
    let n : ℕ = slice_index words 16 in
    let x : Situation T g c = record { words = words; recs = recs; events = run; s = core.0; core = core.1; is_c = get_of recs g c at } in
    let on = fits_on x in
    dite (dec_le (most_goroutines T.limits) n)
    (λ full. let d : Record = record c { clock = with_refusal c.clock } in inl (record {
      after = d;
      gain = [];
      explains = (
        core.0,
        subst (λ (l : List Event). CoreAt T (slice_set words 16 ((n + 1) % 18446744073709551616)) (slice_set recs g d) l core.0) (sym (append-nil run))
            (subst (λ (v : ℕ). CoreAt T (slice_set words 16 v) (slice_set recs g d) run core.0) (sym on) (refused_core x never full)),
      );
      counts = refl;
      tells_so = (full, refl);
    }))
    (λ more.
    let less : n < most_goroutines T.limits = omega arith in
    let l = length-map recs clock_of in
    let many : n ≡ length recs = (let z = x.core.story.numbers.low (omega arith) in omega arith) in
    let p : StartsGoroutineNext x (after n) (child n) = starts x (omega arith) in
    let k = started_core x (after n) (child n) never (is n) (new n) less p in
    inr (record {
      after = after n;
      child = child n;
      gain = p.goes.event ∷ [];
      explains = (
        p.goes.next,
        subst (λ (v : ℕ). CoreAt T (slice_set words 16 v) (slice_set recs g (after n) ++ child n ∷ []) (run ++ p.goes.event ∷ []) p.goes.next) (sym on) k.1,
      );
      counts = ap (λ (y : ClockRec). y.accesses) (is n);
      new = ap (λ (y : ClockRec). y.accesses) (new n);
      number = many;
      tells_so = (less, refl, refl);
    }))
