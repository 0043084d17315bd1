-- From a step at a state to a step of the rule. Once for all kinds: the run gets the event, the limits follow from the records, since the
-- machine has as many frames as they have, and the counts from the share of the one that acts.
use Rattle.std.proofs.Common.{◌≡◌, ◌≢◌, ⊎_elim, ℕ, zero, suc, ◌<◌, ◌≤◌, nat_le, ◌&&◌, Bool, true, false, List, [], ◌∷◌, ◌++◌, Some, length, map, slice_get, slice_set, slice_index, refl, ap, sym, subst, ◌∙◌, arith}
use Rattle.std.proofs.lemmas.Bool.Decides.{nat_tests}
use Rattle.std.proofs.lemmas.List.{append-nil, length-map}
use Rattle.std.proofs.lemmas.Option.{same_Some, slice_get_within}
use Rattle.std.specs.List.{list_all}
use Rattle.rgo_sound.specs.Code.Code.{Code}
use Rattle.rgo_core_frames.proofs.steps.Ints.{ints_stay}
use Rattle.rgo_core_frames.proofs.Sound.{next_sound}
use Rattle.rgo_core_frames.specs.Fits.{RecordsFit, IsPast, IsShown}
use Rattle.rgo_core_frames.specs.Records.{FramesRec as FrameRec}
use Rattle.rgo_core_frames.specs.shown.Variables.{CallersShow, FramesShow}
use Rattle.rgo_core_frames.specs.States.{IsSound}
use Rattle.rgo_core_frames.specs.shown.WordFrames.{WordFrame}
use Rattle.rgo_core_memory.proofs.Rows.{at_set}
use Rattle.rgo_core_memory.proofs.image.Stepped.{map_get, map_set}
use Rattle.rgo_sound.specs.Machine.Limits.{deepest, is_within_depth, is_within, most_goroutines}
use Rattle.rgo_sound.specs.Machine.declared.limits.Limits.{Limits}
use Rattle.rgo_sound.specs.RegionMachine.Machine.{Event}
use Rattle.rgo_sound.specs.RegionMachine.States.{RegionState}
use Rattle.rgo_sound.proofs.Places.{get_some, length_set}
use Rattle.rgo_sound.specs.Tac.Frames.{TacFrame}
use Rattle.rgo_core.specs.Core.{CoreAt, Situation, Setup, layout}
use Rattle.rgo_core.specs.Image.{Image}
use Rattle.rgo_core.specs.Records.{ClockRec, Record, accesses, clock_of, frame_of}
use Rattle.rgo_core.specs.Steps.{AccessLaw, MakesQuietStep, FindsWord, Moves, QuietStepLaw, MakesNoStep, Steps}
use Rattle.rgo_core.specs.runs.Story.{Story}
use Rattle.rgo_core.proofs.Lists.{get_of, word_same}
use Rattle.rgo_core.proofs.runs.Stories.{few, story_does, story_stays}

-- ---- the machine has as many frames as the records

module _ (code : Code) (slot_of : ℕ → ℕ) (addresses : List ℕ) where
  callers_long : (frames : List TacFrame) (ws : List WordFrame) → CallersShow code addresses frames ws → length frames ≡ length ws
  callers_long [] [] h = refl
  callers_long [] (w ∷ ws) h = absurd h
  callers_long (f ∷ fs) [] h = absurd h
  callers_long (f ∷ fs) (w ∷ ws) h = ap suc (callers_long fs ws h.1)

  frames_long : (frames : List TacFrame) (ws : List WordFrame) → FramesShow code addresses frames ws → length frames ≡ length ws
  frames_long [] [] h = refl
  frames_long [] (w ∷ ws) h = absurd h
  frames_long (f ∷ fs) [] h = absurd h
  frames_long (f ∷ fs) (w ∷ ws) h = ap suc (callers_long fs ws h.1)

  pub as_long : (s : RegionState) (recs : List FrameRec) → RecordsFit code slot_of addresses s recs → (g : ℕ) (c : FrameRec) (fs : List TacFrame)
      → slice_get recs g ≡ Some c → slice_get s.plain.goroutines g ≡ Some fs → length fs ≡ length c.frames
  as_long s recs all g c fs e at =
      let f = all.each g c e in
      ap length (same_Some fs f.frames (sym at ∙ f.at))
      ∙ ⊎_elim (λ (x : IsShown code slot_of addresses f.frames f.h c). frames_long f.frames c.frames x.shown)
      (λ (x : IsPast code slot_of addresses f.frames f.h c). ap length x.frames_are ∙ frames_long (x.frame ∷ x.callers) c.frames x.shown.shown) f.fits

-- each goroutine has a record
pub many : (code : Code) (slot_of : ℕ → ℕ) (addresses : List ℕ) (s : RegionState) (recs : List FrameRec) → IsSound code s
    → RecordsFit code slot_of addresses s recs → length s.plain.goroutines ≡ length recs
many code slot_of addresses s recs sound all = sym sound.good.good.fine.as_many ∙ sym all.as_many

all_get : {A : Type 0} (P : A → Bool) (l : List A) (i : ℕ) (a : A) → list_all P l ≡ true → slice_get l i ≡ Some a → P a ≡ true
all_get P [] i a h e = cc
all_get P (x ∷ l) zero a h e = ap P (sym (same_Some x a e)) ∙ first (P x) h
  where
    first : (b : Bool) → (b && list_all P l) ≡ true → b ≡ true
    first true h = refl
    first false h = h
all_get P (x ∷ l) (suc i) a h e = all_get P l i a (rest (P x) h) e
  where
    rest : (b : Bool) → (b && list_all P l) ≡ true → list_all P l ≡ true
    rest true h = h
    rest false h = cc

all_of : {A : Type 0} (P : A → Bool) (l : List A) → ((i : ℕ) (a : A) → slice_get l i ≡ Some a → P a ≡ true) → list_all P l ≡ true
all_of P [] h = refl
all_of P (x ∷ l) h = ap (λ b. b && list_all P l) (h 0 x refl) ∙ all_of P l (λ i a e. h (suc i) a e)

and_right : (a b : Bool) → (a && b) ≡ true → b ≡ true
and_right true b e = e
and_right false b e = cc

room_says : (frames : List TacFrame) → is_within_depth frames ≡ true → length frames ≤ 100000
room_says frames e = grind (arith, nat_tests)

says_room : (frames : List TacFrame) → length frames ≤ 100000 → is_within_depth frames ≡ true
says_room frames e = grind (arith, nat_tests)

says_few : (n m : ℕ) → n ≤ m → nat_le n m ≡ true
says_few n m e = grind (arith, nat_tests)

module _ (code : Code) (slot_of : ℕ → ℕ) (addresses : List ℕ) (limits : Limits) (s : RegionState) (recs : List FrameRec)
    (sound : IsSound code s) (all : RecordsFit code slot_of addresses s recs) where
  -- a goroutine has as many frames as it may
  pub shallow_now : is_within limits s.plain ≡ true → (g : ℕ) (c : FrameRec) → slice_get recs g ≡ Some c → length c.frames ≤ deepest
  shallow_now w g c e =
      let f = all.each g c e in
      subst (λ n. n ≤ deepest) (as_long code slot_of addresses s recs all g c f.frames e f.at)
      (room_says f.frames (all_get is_within_depth s.plain.goroutines g f.frames (and_right (nat_le (length s.plain.goroutines) (most_goroutines limits)) _ w) f.at))

  -- and the state is within the limits if all have
  pub all_within : length recs ≤ most_goroutines limits → ((g : ℕ) (c : FrameRec) → slice_get recs g ≡ Some c → length c.frames ≤ deepest)
      → is_within limits s.plain ≡ true
  all_within less shallow =
      let m = many code slot_of addresses s recs sound all in
      ap (λ b. b && list_all is_within_depth s.plain.goroutines) (says_few (length s.plain.goroutines) (most_goroutines limits) (omega arith))
      ∙ all_of is_within_depth s.plain.goroutines (λ g fs e.
      let b = slice_get_within s.plain.goroutines g fs e in
      let c = get_some recs g (omega arith) in
      says_room fs (subst (λ n. n ≤ deepest) (sym (as_long code slot_of addresses s recs all g c.0 fs c.1 e)) (shallow g c.0 c.1)))

-- ---- the core after a step

module _ {T : Setup} {g : ℕ} {c : Record} (x : Situation T g c) where
  abbrev clocks : List ClockRec
  clocks = map clock_of x.recs

  pub clock_at : slice_get clocks g ≡ Some c.clock
  clock_at = map_get clock_of x.recs g c x.is_c

  pub few_records : length x.recs ≤ most_goroutines T.limits
  few_records = let l = length-map x.recs clock_of in let f = few (most_goroutines T.limits) _ clocks x.core.story.numbers in omega arith

  pub shallow_here : (j : ℕ) (y : FrameRec) → slice_get (map frame_of x.recs) j ≡ Some y → length y.frames ≤ deepest
  shallow_here = shallow_now T.code _ x.core.image.addresses T.limits x.s (map frame_of x.recs) x.core.sound x.core.image.frames x.core.story.within

  -- after a step of this goroutine alone
  pub within_set : (words : List ℕ) (d : Record) (next : RegionState) → IsSound T.code next → Image T.code (layout T) words (slice_set x.recs g d) next
      → length d.frame.frames ≤ deepest → is_within T.limits next.plain ≡ true
  within_set words d next sound image shallow =
      all_within T.code _ image.addresses T.limits next (map frame_of (slice_set x.recs g d)) sound image.frames
      (let l = length-map (slice_set x.recs g d) frame_of in let m = length_set x.recs g d in let f = few_records in omega arith)
      (λ j y e. ⊎_elim
      (λ (t : (j ≡ g) × (d.frame ≡ y)). subst (λ (z : FrameRec). length z.frames ≤ deepest) t.1 shallow)
      (λ (t : (j ≢ g) × (slice_get (map frame_of x.recs) j ≡ Some y)). shallow_here j y t.1)
      (at_set (map frame_of x.recs) g j d.frame y (ap (λ (l : List FrameRec). slice_get l j) (sym (map_set frame_of x.recs g d)) ∙ e)))

  pub many_set : (words : List ℕ) (d : Record) (next : RegionState) → IsSound T.code next → Image T.code (layout T) words (slice_set x.recs g d) next
      → length next.plain.goroutines ≡ length x.s.plain.goroutines
  many_set words d next sound image =
      let m = many T.code _ image.addresses next (map frame_of (slice_set x.recs g d)) sound image.frames in
      let n = many T.code _ x.core.image.addresses x.s (map frame_of x.recs) x.core.sound x.core.image.frames in
      let l = length-map (slice_set x.recs g d) frame_of in
      let k = length-map x.recs frame_of in
      let q = length_set x.recs g d in
      omega arith

  module _ (words : List ℕ) (d : Record) (low : slice_index words 0 ≡ slice_index x.words 0) (made : slice_index words 16 ≡ slice_index x.words 16) where
    pub does_core : (p : MakesQuietStep x words d) → CoreAt T words (slice_set x.recs g d) (x.events ++ p.goes.event ∷ []) p.goes.next
    does_core p = record {
      sound = sound;
      constants = x.core.constants;
      ints = ints_stay.step T.code T.sizes.page_words x.s p.goes.next p.goes.event x.core.constants x.core.ints p.goes.steps;
      capped = x.core.capped;
      story = subst (λ (l : List ClockRec). Story T.code T.sizes T.limits words l (x.events ++ p.goes.event ∷ []) p.goes.next) (sym (map_set clock_of x.recs g d))
          (story_does T.code T.sizes T.limits x.words clocks x.events x.s x.core.story g c.clock d.clock clock_at p.goes.event p.goes.next p.goes.steps p.goes.room
          (within_set words d p.goes.next sound p.goes.image p.goes.shallow) p.goes.gain p.goes.adds p.goes.counted words p.same low made p.mark p.printed);
      image = p.goes.image;
      links = p.goes.links;
    }
      where
        sound : IsSound T.code p.goes.next
        sound = next_sound T.code T.sizes.page_words x.s p.goes.next p.goes.event x.core.sound p.goes.steps

    pub stays_core : MakesNoStep x words d → CoreAt T words (slice_set x.recs g d) x.events x.s
    stays_core p = record {
      sound = x.core.sound;
      constants = x.core.constants;
      ints = x.core.ints;
      capped = x.core.capped;
      story = subst (λ (l : List ClockRec). Story T.code T.sizes T.limits words l x.events x.s) (sym (map_set clock_of x.recs g d))
          (story_stays T.code T.sizes T.limits x.words clocks x.events x.s x.core.story g c.clock d.clock clock_at words p.counted p.same low made);
      image = p.image;
      links = p.links;
    }

-- ---- a move of the rule

-- the step of a goroutine that finds a number on a word
pub record Reaches {T : Setup} {g : ℕ} {c : Record} (x : Situation T g c) (i : ℕ) (f : ℕ → ℕ) (tells : ℕ → Record → Type 0) : Type 0 where
  pub after : Record
  pub more : accesses after ≡ suc (accesses c)
  pub steps : Steps x (slice_set x.words i (f (slice_index x.words i))) after
  pub tells_so : tells (slice_index x.words i) after

-- its record afterwards may depend on more than what was found
pub told_law : (T : Setup) (g : ℕ) (c : Record) (i : ℕ) (f : ℕ → ℕ) (tells : ℕ → Record → Type 0)
    → ((x : Situation T g c) → 32 ≤ i) → ((x : Situation T g c) → slice_index x.words i < 18446744073709551616 → Reaches x i f tells) → Moves T g c i f tells
told_law T g c i f tells low finds words recs run core at fits =
    let n : ℕ = slice_index words i in
    let x : Situation T g c = record { words = words; recs = recs; events = run; s = core.0; core = core.1; is_c = get_of recs g c at } in
    let r = finds x fits in
    let clock : slice_index (slice_set words i (f n)) 0 ≡ slice_index words 0 = word_same words i 0 (f n) (λ e. let l = low x in omega (arith, l)) in
    let made : slice_index (slice_set words i (f n)) 16 ≡ slice_index words 16 = word_same words i 16 (f n) (λ e. let l = low x in omega (arith, l)) in
    ⊎_elim
    (λ (p : MakesQuietStep x (slice_set words i (f n)) r.after). record {
      after = r.after;
      gain = p.goes.event ∷ [];
      explains = (p.goes.next, does_core x (slice_set words i (f n)) r.after clock made p);
      counts = r.more;
      tells_so = r.tells_so;
    })
    (λ (p : MakesNoStep x (slice_set words i (f n)) r.after). record {
      after = r.after;
      gain = [];
      explains = (
        core.0,
        subst (λ (l : List Event). CoreAt T (slice_set words i (f n)) (slice_set recs g r.after) l core.0) (sym (append-nil run))
            (stays_core x (slice_set words i (f n)) r.after clock made p),
      );
      counts = r.more;
      tells_so = r.tells_so;
    })
    r.steps

-- the record after it depends on what was found, and more is known of that by the state
pub moves_by : (T : Setup) (g : ℕ) (c : Record) (i : ℕ) (f : ℕ → ℕ) (after : ℕ → Record) (tells : ℕ → Record → Type 0)
    → ((n : ℕ) → accesses (after n) ≡ suc (accesses c)) → ((x : Situation T g c) → 32 ≤ i)
    → FindsWord T g c i (λ x n. Steps x (slice_set x.words i (f n)) (after n))
    → ((x : Situation T g c) → tells (slice_index x.words i) (after (slice_index x.words i)))
    → Moves T g c i f tells
moves_by T g c i f after tells more high finds tell = told_law T g c i f tells high (λ x small. record {
  after = after (slice_index x.words i);
  more = more (slice_index x.words i);
  steps = finds x small;
  tells_so = tell x;
})

pub access_law : AccessLaw
access_law T g c i f after low more finds = moves_by T g c i f after (λ n d. d ≡ after n) more (λ x. low) finds (λ x. refl)

pub quiet_law : QuietStepLaw
quiet_law T g c d does words recs run core at =
    let x : Situation T g c = record { words = words; recs = recs; events = run; s = core.0; core = core.1; is_c = get_of recs g c at } in
    let p = does x in (
      p.goes.event ∷ [],
      (p.goes.next, does_core x words d refl refl p),
    )
