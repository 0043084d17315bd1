-- Records fit again after a step of one goroutine. The others' frames and holders are as before, and words that show values still do
-- when an address is appended. So only the record of the goroutine itself, and of one that it has started, needs a proof.
use Rattle.std.proofs.Common.{◌≡◌, ◌⊎◌, ℕ, ◌+◌, ◌<◌, ◌≤◌, true, false, List, [], ◌∷◌, length, Option, Some, None, refl, sym, ap, ◌∙◌, subst, inl, inr}
use Rattle.std.proofs.Common.{slice_get, slice_set, nat_eq, nat_lt, arith}
use Rattle.std.proofs.lemmas.Option.{same_Some}
use Rattle.std.specs.List.{list_any}
use Rattle.rgo_sound.specs.Memory.Memory.{Memory}
use Rattle.rgo_sound.specs.Tac.Frames.{TacFrame}
use Rattle.rgo_sound.specs.Code.Code.{Code}
use Rattle.rgo_sound.specs.RegionMachine.declared.regions.Region.{Region}
use Rattle.rgo_sound.specs.RegionMachine.declared.regions.Region.TheVariants.{Numbered}
use Rattle.rgo_sound.specs.RegionMachine.Regions.{RegionInfo, has_stakes, is_live, same_region}
use Rattle.rgo_sound.specs.RegionMachine.States.{RegionEnvironment, Holder, RegionState, frames_of}
use Rattle.rgo_sound.proofs.duties.Attends.{total_at, staked_live}
use Rattle.rgo_sound.proofs.Places.{get_set_other, get_set_same, get_some, length_set, get_front}
use Rattle.rgo_sound.proofs.Tests.{eq_of, split}
use Rattle.rgo_sound.specs.Core.{AreStaked, RegionsStaked}
use Rattle.rgo_sound.specs.Invariant.{Fine, GoodHolder}
use Rattle.rgo_sound.specs.Stakes.{times_in}
use Rattle.rgo_core_frames.specs.Fits.{RecordsFit, RecordFits, IsPast, IsShown, ObjectsDiffer, SlotsDiffer}
use Rattle.rgo_core_frames.specs.Records.{FramesRec}
use Rattle.rgo_core_frames.specs.shown.Variables.{CallersShow, FramesShow, LiveShow}
use Rattle.rgo_core_frames.specs.shown.WordFrames.{WordFrame, frame_word}
use Rattle.rgo_core_frames.proofs.shown.WordLemmas.{shows_more}
use Rattle.rgo_sound.specs.Values.{call_target}
use Rattle.rgo_sound.specs.Tac.Frames.{value_at}
use Rattle.std.proofs.Common.{◌++◌, append-nil, length-append}
use Rattle.rgo_sound.proofs.Places.{get_append_last, get_snoc}
use Rattle.rgo_core_frames.proofs.regions.SlotLemmas.{ProtectionsLive}

-- ---- more objects

module _ (code : Code) (slot_of : ℕ → ℕ) (addresses more : List ℕ) where
  live_more : (but : Option ℕ) (i : ℕ) (frame : TacFrame) (w : WordFrame) → LiveShow code addresses but i frame w
      → LiveShow code (addresses ++ more) but i frame w
  live_more but i frame w h fn is v b l = shows_more addresses more (value_at frame v) (frame_word w v) (h fn is v b l)

  pub callers_more : (callers : List TacFrame) (ws : List WordFrame) → CallersShow code addresses callers ws
      → CallersShow code (addresses ++ more) callers ws
  callers_more [] [] h = tt
  callers_more [] (w ∷ ws) h = h
  callers_more (caller ∷ callers) [] h = h
  callers_more (caller ∷ callers) (w ∷ ws) h = (
    record {
      alike = h.0.alike;
      shows = λ call cur. live_more (call_target call.op) (caller.next + 1) caller w (h.0.shows call cur);
    },
    callers_more callers ws h.1,
  )

  pub frames_more : (frames : List TacFrame) (ws : List WordFrame) → FramesShow code addresses frames ws
      → FramesShow code (addresses ++ more) frames ws
  frames_more [] [] h = tt
  frames_more [] (w ∷ ws) h = h
  frames_more (frame ∷ callers) [] h = h
  frames_more (frame ∷ callers) (w ∷ ws) h =
      (record { alike = h.0.alike; shows = live_more None frame.next frame w h.0.shows }, callers_more callers ws h.1)

  pub shown_more : (frames : List TacFrame) (h : Holder) (c : FramesRec) → IsShown code slot_of addresses frames h c
      → IsShown code slot_of (addresses ++ more) frames h c
  shown_more frames h c x = record { calm = x.calm; shown = frames_more frames c.frames x.shown; holder = x.holder }

  either_more : (frames : List TacFrame) (h : Holder) (c : FramesRec)
      → IsShown code slot_of addresses frames h c ⊎ IsPast code slot_of addresses frames h c
      → IsShown code slot_of (addresses ++ more) frames h c ⊎ IsPast code slot_of (addresses ++ more) frames h c
  either_more frames h c (inl x) = inl (shown_more frames h c x)
  either_more frames h c (inr x) = inr (record {
    frame = x.frame;
    callers = x.callers;
    before = x.before;
    instr = x.instr;
    at = x.at;
    to = x.to;
    channel = x.channel;
    sent = x.sent;
    removes = x.removes;
    is = x.is;
    offer = x.offer;
    owes_nothing = x.owes_nothing;
    stood = x.stood;
    frames_are = x.frames_are;
    holder_is = x.holder_is;
    shown = shown_more (x.frame ∷ x.callers) x.before c x.shown;
  })

-- ---- another state

-- only goroutine g has other frames and another holder, and others may have been started
pub record Changes
    (s t : RegionState) (g : ℕ) (frames : List TacFrame) (h : Holder) (started : List (List TacFrame)) (children : List Holder)
    : Type 0 where
  pub goroutines : t.plain.goroutines ≡ slice_set s.plain.goroutines g frames ++ started
  pub holders : t.holders ≡ slice_set s.holders g h ++ children

module _ (code : Code) (slot_of : ℕ → ℕ) (addresses more : List ℕ) (s t : RegionState) (g : ℕ) (frames : List TacFrame) (h : Holder)
    (frames' : List TacFrame) (h' : Holder) (started : List (List TacFrame)) (children : List Holder)
    (at : slice_get s.plain.goroutines g ≡ Some frames) (there : slice_get s.holders g ≡ Some h)
    (changes : Changes s t g frames' h' started children) where
  abbrev Stand : List TacFrame → Holder → FramesRec → Type 0
  Stand frames h c = IsShown code slot_of (addresses ++ more) frames h c ⊎ IsPast code slot_of (addresses ++ more) frames h c

  here : (c : FramesRec) → Stand frames' h' c → RecordFits code slot_of (addresses ++ more) t g c
  here c f = record {
    frames = frames';
    at = ap (λ gs. slice_get gs g) changes.goroutines
        ∙ get_front (slice_set s.plain.goroutines g frames') started g frames'
        (get_set_same s.plain.goroutines g frames frames' at);
    h = h';
    there = ap (λ hs. slice_get hs g) changes.holders
        ∙ get_front (slice_set s.holders g h') children g h' (get_set_same s.holders g h h' there);
    fits = f;
  }

  other : (j : ℕ) (c : FramesRec) → nat_eq g j ≡ false → RecordFits code slot_of addresses s j c → RecordFits code slot_of (addresses ++ more) t j c
  other j c n f = record {
    frames = f.frames;
    at = ap (λ gs. slice_get gs j) changes.goroutines
        ∙ get_front (slice_set s.plain.goroutines g frames') started j f.frames
        (get_set_other s.plain.goroutines g j frames' n ∙ f.at);
    h = f.h;
    there = ap (λ hs. slice_get hs j) changes.holders
        ∙ get_front (slice_set s.holders g h') children j f.h (get_set_other s.holders g j h' n ∙ f.there);
    fits = either_more code slot_of addresses more f.frames f.h c f.fits;
  }

  module _ (records : List FramesRec) (c d : FramesRec) (all : RecordsFit code slot_of addresses s records) (e : slice_get records g ≡ Some c)
      (f : Stand frames' h' d) where
    old_fits : (j : ℕ) (x : FramesRec) → slice_get (slice_set records g d) j ≡ Some x → RecordFits code slot_of (addresses ++ more) t j x
    old_fits j x q = split (nat_eq g j)
        (λ y. let gj = eq_of g j y in subst (λ i. RecordFits code slot_of (addresses ++ more) t i x) gj
        (subst (λ z. RecordFits code slot_of (addresses ++ more) t g z)
        (same_Some d x (sym (get_set_same records g c d e) ∙ ap (slice_get (slice_set records g d)) gj ∙ q)) (here d f)))
        (λ n. other j x n (all.each j x (sym (get_set_other records g j d n) ∙ q)))

    -- no goroutine was started
    pub all_fit_after : started ≡ [] → children ≡ [] → length (addresses ++ more) ≡ length t.plain.memory.heap
        → SlotsDiffer slot_of t.regions → ObjectsDiffer (addresses ++ more) t.regions t.owners
        → RecordsFit code slot_of (addresses ++ more) t (slice_set records g d)
    all_fit_after none no_child laid slots places = record {
      as_many = length_set records g d ∙ all.as_many ∙ sym (length_set s.holders g h')
          ∙ sym (ap length (changes.holders ∙ ap (λ ks. slice_set s.holders g h' ++ ks) no_child ∙ append-nil _));
      each = old_fits;
      laid = laid;
      slots_differ = slots;
      addresses_differ = places;
    }

    -- one was started
    pub all_fit_child : (child : List TacFrame) (k : Holder) (r : FramesRec) → started ≡ child ∷ [] → children ≡ k ∷ []
        → length s.plain.goroutines ≡ length s.holders → IsShown code slot_of (addresses ++ more) child k r
        → length (addresses ++ more) ≡ length t.plain.memory.heap → SlotsDiffer slot_of t.regions
        → ObjectsDiffer (addresses ++ more) t.regions t.owners → RecordsFit code slot_of (addresses ++ more) t (slice_set records g d ++ r ∷ [])
    all_fit_child child k r one one_child even shows laid slots places = record {
      as_many =
          let a = length-append (slice_set records g d) (r ∷ []) in
          let b = length-append (slice_set s.holders g h') (k ∷ []) in
          let c : length (slice_set records g d) ≡ length records = length_set records g d in
          let x : length (slice_set s.holders g h') ≡ length s.holders = length_set s.holders g h' in
          let y : length t.holders ≡ length (slice_set s.holders g h' ++ k ∷ []) =
          ap length (changes.holders ∙ ap (λ ks. slice_set s.holders g h' ++ ks) one_child) in
          omega (arith, a, b, c, x, y, all.as_many);
      each = λ j x q. by j x (get_snoc (slice_set records g d) r j x q);
      laid = laid;
      slots_differ = slots;
      addresses_differ = places;
    }
      where
        last : (j : ℕ) → j ≡ length (slice_set records g d) → RecordFits code slot_of (addresses ++ more) t j r
        last j q = record {
          frames = child;
          at = ap (λ gs. slice_get gs j) (changes.goroutines ∙ ap (λ x. slice_set s.plain.goroutines g frames' ++ x) one)
              ∙ get_append_last (slice_set s.plain.goroutines g frames') child j
              (q ∙ length_set records g d ∙ all.as_many ∙ sym even ∙ sym (length_set s.plain.goroutines g frames'));
          h = k;
          there = ap (λ hs. slice_get hs j) (changes.holders ∙ ap (λ x. slice_set s.holders g h' ++ x) one_child)
              ∙ get_append_last (slice_set s.holders g h') k j
              (q ∙ length_set records g d ∙ all.as_many ∙ sym (length_set s.holders g h'));
          fits = inl shows;
        }

        by : (j : ℕ) (x : FramesRec) → (slice_get (slice_set records g d) j ≡ Some x) ⊎ ((j ≡ length (slice_set records g d)) × (x ≡ r))
            → RecordFits code slot_of (addresses ++ more) t j x
        by j x (inl q) = old_fits j x q
        by j x (inr (q, is)) = subst (λ z. RecordFits code slot_of (addresses ++ more) t j z) (sym is) (last j q)

-- the same if only one goroutine has changed
pub all_fit_kept : (code : Code) (slot_of : ℕ → ℕ) (addresses : List ℕ) (s t : RegionState) (g : ℕ) (frames : List TacFrame) (h : Holder)
    (frames' : List TacFrame) (h' : Holder) → slice_get s.plain.goroutines g ≡ Some frames → slice_get s.holders g ≡ Some h
    → Changes s t g frames' h' [] [] → t.plain.memory ≡ s.plain.memory → t.regions ≡ s.regions → t.owners ≡ s.owners
    → (records : List FramesRec) (c d : FramesRec) → RecordsFit code slot_of addresses s records → slice_get records g ≡ Some c
    → IsShown code slot_of addresses frames' h' d ⊎ IsPast code slot_of addresses frames' h' d
    → RecordsFit code slot_of addresses t (slice_set records g d)
all_fit_kept code slot_of addresses s t g frames h frames' h' at there changes memory regions owners records c d all e f =
    subst (λ l. RecordsFit code slot_of l t (slice_set records g d)) (append-nil addresses)
    (all_fit_after code slot_of addresses [] s t g frames h frames' h' [] [] at there changes records c d all e
    (subst (λ l. IsShown code slot_of l frames' h' d ⊎ IsPast code slot_of l frames' h' d) (sym (append-nil addresses)) f)
    refl refl
    (ap length (append-nil addresses) ∙ all.laid ∙ sym (ap (λ (m : Memory). length m.heap) memory))
    (subst (SlotsDiffer slot_of) (sym regions) all.slots_differ)
    (subst (λ l. ObjectsDiffer l t.regions t.owners) (sym (append-nil addresses))
    (subst (λ rs. ObjectsDiffer addresses rs t.owners) (sym regions)
    (subst (ObjectsDiffer addresses s.regions) (sym owners) all.addresses_differ))))

-- ---- the regions of a goroutine are live

module _ (code : Code) (s : RegionState) (fine : Fine code s) (g : ℕ) (h : Holder) (there : slice_get s.holders g ≡ Some h)
  where
    good : GoodHolder code (frames_of s.plain g) h
    good = fine.each g h there

    staked_regions : (rs : List Region) → RegionsStaked h.stakes rs → (r : ℕ)
        → list_any (same_region (Numbered r)) rs ≡ true → is_live s.regions (Numbered r) ≡ true
    staked_regions rs k r e = staked_live code s g h r fine there (k r e)

    pub base_live : (r : ℕ) → list_any (same_region (Numbered r)) h.base ≡ true → is_live s.regions (Numbered r) ≡ true
    base_live = staked_regions h.base good.core.based

    -- a region with a pending stake is live
    pub pending_live : (r : ℕ) → 0 < times_in r h.pending → is_live s.regions (Numbered r) ≡ true
    pending_live r p = go (get_some s.regions r (fine.pended g h r there p))
      where
        positive : (n : ℕ) → 1 ≤ n → nat_lt 0 n ≡ true
        positive n p = grind arith

        go : (info : RegionInfo) × (slice_get s.regions r ≡ Some info) → is_live s.regions (Numbered r) ≡ true
        go (info, q) =
            let c = fine.counted r info q in
            let a = total_at (λ (k : Holder). times_in r k.pending) s.holders g h there in
            ap has_stakes q ∙ positive info.stakes (omega (arith, a, c, p))

    module _ (slot_of : ℕ → ℕ) (differ : (r q : ℕ) → is_live s.regions (Numbered r) ≡ true
        → is_live s.regions (Numbered q) ≡ true → slot_of r ≡ slot_of q → r ≡ q) where
      protections_live_in : (es : List RegionEnvironment) → AreStaked h.stakes es → ProtectionsLive slot_of s.regions differ es
      protections_live_in [] k = tt
      protections_live_in (e ∷ es) k = (staked_regions e.protections k.1, protections_live_in es k.2)

      pub protections_live : ProtectionsLive slot_of s.regions differ h.environments
      protections_live = protections_live_in h.environments good.core.staked
