-- The run without a step explains the words of a new table and the record of `main`. Each part opens by the law of its crate, and all of
-- them agree on the first words.
use Rattle.std.proofs.Common.{◌≡◌, ℕ, zero, suc, ◌<◌, ◌≤◌, ◌&&◌, nat_le, Bool, true, false, List, [], ◌∷◌, Some, None, length, map, replicate, take, slice_get, slice_set, slice_index, if◌then◌else◌, bytes_eq, codes, max, refl, ap, sym, subst, ◌∙◌, arith}
use Rattle.std.proofs.lemmas.Bool.Decides.{nat_tests}
use Rattle.std.proofs.lemmas.Grind.{common_steps}
use Rattle.std.proofs.lemmas.Option.{same_Some}
use Rattle.rgo_sound.specs.Code.Checked.{IsChecked}
use Rattle.rgo_sound.specs.Code.Code.{Code, CodeFn}
use Rattle.rgo_sound.specs.Code.Erasure.{erased, erased_fn}
use Rattle.rgo_sound.specs.Code.NameRules.{Ascends}
use Rattle.rgo_core_channels.proofs.Opening.{opens as channels_open}
use Rattle.rgo_core_channels.specs.Channels.{Calm, Places, Unlocked}
use Rattle.rgo_core_frames.proofs.steps.Ints.{ints_stay}
use Rattle.rgo_core_frames.proofs.Opening.{opening_law as frames_open}
use Rattle.rgo_core_frames.proofs.Sound.{sound_stays}
use Rattle.rgo_core_frames.specs.Fits.{RecordsFit}
use Rattle.rgo_core_frames.specs.shown.Constants.{ConstantsFit}
use Rattle.rgo_core_frames.specs.goroutines.Opening.{main_record}
use Rattle.rgo_core_frames.specs.Records.{FramesRec as FrameRec}
use Rattle.rgo_core_frames.specs.shown.WordFrames.{WordFrame, bare_all, word_called}
use Rattle.rgo_core_memory.proofs.Opening.{opens as memory_opens, zeros, many}
use Rattle.rgo_core_memory.specs.Image.{word_of_value}
use Rattle.rgo_core_memory.specs.Opening.{first_words, nowhere}
use Rattle.rgo_core_memory.specs.Words.{all_words, count_at}
use Rattle.rgo_core_memory.specs.declared.layout.TableSizes.{TableSizes}
use Rattle.rgo_core_rule.specs.Lists.{flattened}
use Rattle.rgo_sound.specs.Machine.Limits.{is_within, most_goroutines}
use Rattle.rgo_sound.specs.Machine.declared.limits.Limits.{Limits}
use Rattle.rgo_sound.specs.RegionMachine.Machine.{main_holder, region_start}
use Rattle.rgo_sound.proofs.steps.Each.{Main, main_of}
use Rattle.rgo_sound.specs.Tac.Code.{TacFn}
use Rattle.rgo_sound.specs.Tac.Frames.{TacFrame, new_tac_frame}
use Rattle.rgo_sound.specs.Tac.Tac.{tac_main_frames}
use Rattle.rgo_core.specs.ties.Clock.{Clock}
use Rattle.rgo_core.specs.Core.{Core, Setup, layout}
use Rattle.rgo_core_channels.specs.Positions.{cell_place, place_at}
use Rattle.rgo_core.specs.Image.{Image}
use Rattle.rgo_core.specs.ties.Numbers.{Numbers, has_child}
use Rattle.rgo_core.specs.runs.Opening.{TableOpeningLaw, first_of, main_frame, main_words, opening_table}
use Rattle.rgo_core.specs.Records.{Record, ClockRec, Drawn, fresh}
use Rattle.rgo_core.specs.runs.Runs.{Printed}
use Rattle.rgo_core.specs.runs.Story.{Story}
use Rattle.rgo_core.proofs.Lists.{word_new, word_same}
use Rattle.rgo_core.proofs.runs.Runs.{printed_whole}
use Rattle.rgo_core.specs.ties.Links.{Link, Links}
use Rattle.rgo_core_memory.specs.Records.{Located, Measured}

-- ---- words

module _ (z : TableSizes) where
  abbrev plain : List ℕ
  plain = replicate (all_words z) 0

  clock_word : slice_index (first_words z) 0 ≡ 0
  clock_word = word_same (slice_set plain 16 1) (count_at z z.slots) 0 2 (λ e. omega arith) ∙ (word_same plain 16 0 1 (λ e. omega arith) ∙ zeros (all_words z) 0)

  pub made_word : slice_index (first_words z) 16 ≡ 1
  made_word = word_same (slice_set plain 16 1) (count_at z z.slots) 16 2 (λ e. omega arith) ∙ word_new plain 16 1 (let l = many (all_words z) in omega arith)

-- ---- `main`

-- the first frames of the machine, and of the record
pub record Begins (fns : List CodeFn) (n : ℕ) : Type 0 where
  pub number : ℕ
  pub main : CodeFn
  pub words : main_words fns n ≡ word_called main number [] ∷ []
  pub frames : tac_main_frames (map erased_fn fns) n ≡ new_tac_frame (erased_fn main) number [] ∷ []

begins : (fns : List CodeFn) (n : ℕ) (f : TacFrame) → tac_main_frames (map erased_fn fns) n ≡ f ∷ [] → Begins fns n
begins [] n f e = cc
begins (fn ∷ fns) n f e = go (bytes_eq fn.name (codes "main")) refl e (λ q. begins fns (suc n) f q)
  where
    go : (b : Bool) → bytes_eq fn.name (codes "main") ≡ b
        → (if b then new_tac_frame (erased_fn fn) n [] ∷ [] else tac_main_frames (map erased_fn fns) (suc n)) ≡ f ∷ []
        → (tac_main_frames (map erased_fn fns) (suc n) ≡ f ∷ [] → Begins fns (suc n)) → Begins (fn ∷ fns) n
    go true is e next = record {
      number = n;
      main = fn;
      words = ap (λ (b : Bool). if b then word_called fn n [] ∷ [] else main_words fns (suc n)) is;
      frames = ap (λ (b : Bool). if b then new_tac_frame (erased_fn fn) n [] ∷ [] else tac_main_frames (map erased_fn fns) (suc n)) is;
    }
    go false is e next = let q = next e in record {
      number = q.number;
      main = q.main;
      words = ap (λ (b : Bool). if b then word_called fn n [] ∷ [] else main_words fns (suc n)) is ∙ q.words;
      frames = ap (λ (b : Bool). if b then new_tac_frame (erased_fn fn) n [] ∷ [] else tac_main_frames (map erased_fn fns) (suc n)) is ∙ q.frames;
    }

frames_fit : (code : Code) (slot_of : ℕ → ℕ) → IsChecked code → RecordsFit code slot_of [] (region_start code) (main_frame code ∷ [])
frames_fit code slot_of checked =
    let m : Main code = main_of code checked in
    let b = begins code.functions 0 (new_tac_frame (erased_fn m.main) m.number []) m.begins in
    let is : main_frame code ≡ main_record code b.number b.main =
    ap (λ (ws : List WordFrame). record { frames = ws; holder = main_holder code (bare_all ws) }) b.words in
    subst (λ (c : FrameRec). RecordsFit code slot_of [] (region_start code) (c ∷ [])) (sym is) (frames_open code slot_of b.number b.main b.frames)

-- ---- limits

pub at_least_one : (n : ℕ) → 0 < max 1 n
at_least_one n = grind (arith, nat_tests, common_steps)

-- `main` alone, with one frame at most
main_short : (fns : List TacFn) (n : ℕ) → length (tac_main_frames fns n) ≤ 1
main_short [] n = omega arith
main_short (fn ∷ fns) n = go (bytes_eq fn.name (codes "main")) (main_short fns (suc n))
  where
    go : (b : Bool) → length (tac_main_frames fns (suc n)) ≤ 1
        → length (if b then new_tac_frame fn n [] ∷ [] else tac_main_frames fns (suc n)) ≤ 1
    go true h = omega arith
    go false h = h

start_within : (code : Code) (limits : Limits) → is_within limits (region_start code).plain ≡ true
start_within code limits =
    both _ _ (few (most_goroutines limits) (at_least_one limits.goroutines))
    (both _ true (room (length (tac_main_frames (erased code).functions 0)) (main_short (erased code).functions 0)) refl)
  where
    both : (a b : Bool) → a ≡ true → b ≡ true → (a && b) ≡ true
    both a b p q = rw (p, q) refl

    few : (m : ℕ) → 0 < m → nat_le 1 m ≡ true
    few m h = grind (arith, nat_tests)

    room : (n : ℕ) → n ≤ 1 → nat_le n 100000 ≡ true
    room n h = grind (arith, nat_tests)

-- ---- the clock and the numbers

only : (P : ClockRec → Type 0) → P fresh → (g : ℕ) (c : ClockRec) → slice_get (fresh ∷ []) g ≡ Some c → P c
only P p zero c e = subst P (same_Some fresh c e) p
only P p (suc g) c e = let z : None ≡ Some c = e in cc z

no_piece : (i : ℕ) (d : Drawn) → slice_get [] i ≡ Some d → ⊥
no_piece i d e = let z : None ≡ Some d = e in cc z

first_clock : (code : Code) (z : TableSizes) → Clock (first_words z) (fresh ∷ []) (region_start code) [] []
first_clock code z = record {
  shows = clock_word z;
  print = refl;
  void = λ e. refl;
  once = λ t h. absurd (omega arith);
  none_later = λ t h. refl;
  pieces = λ g i c d e f. absurd (only (λ (y : ClockRec). slice_get y.prints i ≡ Some d → ⊥) (no_piece i d) g c e f);
  amount = refl;
  bound = λ g c e. only (λ (y : ClockRec). length y.prints ≤ 8796093022208) (omega arith) g c e;
  first = λ g c mark e f. absurd (only (λ (y : ClockRec). y.first ≡ Some mark → ⊥) (λ q. let z : None ≡ Some mark = q in cc z) g c e f);
  setter = λ mark e. let z : None ≡ Some mark = e in absurd (cc z);
  sole = omega arith;
}

first_numbers : (limit : ℕ) → 0 < limit → Numbers limit 1 (fresh ∷ [])
first_numbers limit some = record {
  low = λ h. refl;
  high = λ h. omega arith;
  draws = omega arith;
  full = λ g c e r. absurd (only (λ (y : ClockRec). y.refused ≡ true → ⊥) (λ q. let z : false ≡ true = q in cc z) g c e r);
  none = λ h le. refl;
  first = refl;
  one = λ h p q. absurd (omega arith);
  smaller = λ g h c e p. absurd (only (λ (y : ClockRec). 0 < has_child h y → ⊥) (λ q. omega arith) g c e p);
}

at_zero : (code : Code) (page_words : ℕ) (limits : Limits) (k : ℕ) → k ≤ 0 → Printed code page_words limits [] (flattened (take k []))
at_zero code page_words limits zero h = printed_whole code page_words limits [] (region_start code) refl refl
at_zero code page_words limits (suc k) h = absurd (omega arith)

abbrev nobody : Places
nobody = record { head = λ o. 0; lock = λ o. Unlocked; phase = λ o. Calm }

first_image : (T : Setup) → IsChecked T.code → Image T.code (layout T) (opening_table T) (first_of T.code ∷ []) (region_start T.code)
first_image T checked = record {
  places = nowhere;
  at = nobody;
  addresses = [];
  addressed = λ o a e. let z : None ≡ Some a = e in absurd (cc z);
  frames = frames_fit T.code nowhere.slot checked;
  memory = memory_opens T.code (layout T) (omega arith);
  channels = channels_open T.code T.sizes.page_words (word_of_value (layout T) nowhere) (place_at (layout T) nowhere) (cell_place (layout T) nowhere) (opening_table T) nobody;
}

first_links : (T : Setup) → Links T.code (layout T) (opening_table T) (first_of T.code ∷ [])
first_links T g c e = subst (Link T.code (layout T) (opening_table T)) (sole (first_of T.code) c g e)
    (record {
      owed = refl;
      knows = λ m read. absurd (nothing m read);
      finds = λ l read. absurd (nowhere_read l read);
      reserved = λ some. absurd (omega (arith, some));
    })
  where
    sole : (a b : Record) (i : ℕ) → slice_get (a ∷ []) i ≡ Some b → a ≡ b
    sole a b zero e = same_Some a b e
    sole a b (suc i) e = cc

    nothing : (m : Measured) → None ≡ Some m → ⊥
    nothing m read = cc read

    nowhere_read : (l : Located) → None ≡ Some l → ⊥
    nowhere_read l read = cc read

pub first_story : (T : Setup) → Story T.code T.sizes T.limits (opening_table T) (fresh ∷ []) [] (region_start T.code)
first_story T = record {
  leads = refl;
  room = refl;
  within = start_within T.code T.limits;
  before = [];
  late = [];
  clock = first_clock T.code (layout T);
  cuts = λ k h. at_zero T.code T.sizes.page_words T.limits k h;
  over = λ mark e. let z : None ≡ Some mark = e in absurd (cc z);
  numbers = subst (λ n. Numbers (most_goroutines T.limits) n (fresh ∷ [])) (sym (made_word (layout T)))
      (first_numbers (most_goroutines T.limits) (at_least_one T.limits.goroutines));
  shares = refl;
}

pub opening_law : TableOpeningLaw
opening_law T checked written constants capped = (
  region_start T.code,
  record {
    sound = sound_stays.start T.code checked written;
    constants = constants;
    ints = ints_stay.start T.code;
    capped = capped;
    story = first_story T;
    image = first_image T checked;
    links = first_links T;
  },
)

-- the same if the code of the setup is that code
pub opens_by : (T : Setup) (code : Code) → T.code ≡ code → IsChecked code → Ascends code → ConstantsFit code
    → most_goroutines T.limits ≤ 1000000 → Core T (opening_table T) (first_of T.code ∷ []) []
opens_by T code same checked written constants capped =
    opening_law T (subst IsChecked (sym same) checked) (subst Ascends (sym same) written) (subst ConstantsFit (sym same) constants) capped
