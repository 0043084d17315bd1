-- Local steps in a row, and what they keep of stakes: by induction over their number, each by `local_law`.
use Rattle.std.proofs.Common.{◌≡◌, ℕ, zero, suc, Bool, true, false, List, [], ◌∷◌, Option, Some, None, refl, sym, ap, ◌∙◌, subst, length}
use Rattle.std.proofs.Common.{slice_set, option_and_then, option_map, unwrap_or, if◌then◌else◌, true≢false}
use Rattle.std.proofs.lemmas.Option.{same_Some}
use Rattle.rgo_sound.specs.Code.Code.{Code}
use Rattle.rgo_sound.specs.Machine.Runs.{run}
use Rattle.rgo_sound.proofs.Machine.Items.{set_twice}
use Rattle.rgo_sound.specs.RegionMachine.Machine.{region_step}
use Rattle.rgo_sound.specs.RegionMachine.States.{RegionState, Duty}
use Rattle.rgo_sound.proofs.Places.{get_set_same}
use Rattle.rgo_core_frames.specs.Fits.{RecordsFit}
use Rattle.rgo_core_frames.specs.steps.Local.{local}
use Rattle.rgo_core_frames.specs.shown.Constants.{ConstantsFit}
use Rattle.rgo_core_frames.specs.steps.LocalLaws.{event_of, end_by_frames, end_of, event_by}
use Rattle.rgo_core_frames.specs.steps.Quiet.{HasQuietRun, QuietLaw, is_exit, quiet, quiet_events, quiets, unless_exit, OnlyOne}
use Rattle.rgo_core_frames.specs.Records.{FramesRec}
use Rattle.rgo_core_frames.specs.steps.Bookkept.{StaysElse, LeavesRest, RegionStepsTo}
use Rattle.rgo_sound.proofs.steps.Acting.{set_same}
use Rattle.rgo_core_frames.proofs.steps.LocalActs.{chained}
use Rattle.rgo_core_frames.proofs.steps.LocalSteps.{local_law}
use Rattle.rgo_sound.specs.Leaving.{ActsAlone, TakesPart}
use Rattle.rgo_core_frames.specs.States.{Here}
use Rattle.rgo_core_frames.specs.shown.WordFrames.{WordFrame}
use Rattle.rgo_core_frames.proofs.Leaving.{mark_stays}
use Rattle.rgo_sound.specs.RegionMachine.Instructions.{mark_with_end}
use Rattle.rgo_core_frames.proofs.Sound.{next_sound}

unless : (g : ℕ) (d e : FramesRec) → unless_exit g d ≡ Some e → (d ≡ e) × (is_exit g d.frames ≡ false)
unless g d e q = go (is_exit g d.frames) refl
  where
    go : (b : Bool) → is_exit g d.frames ≡ b → (d ≡ e) × (is_exit g d.frames ≡ false)
    go true x = let z : None ≡ Some e = ap (λ b. if b then None else Some d) (sym x) ∙ q in cc
    go false x = (same_Some d e (ap (λ b. if b then None else Some d) (sym x) ∙ q), x)

-- a quiet step is a local one, and no exit
quiet_is : (code : Code) (g : ℕ) (c x : FramesRec) → quiet code g c ≡ Some x → (local code c ≡ Some x) × (is_exit g x.frames ≡ false)
quiet_is code g c x e =
    let y = chained (unless_exit g) (local code c) x e in
    let z = unless g y.0 x y.2 in
    (y.1 ∙ ap Some z.0, sym (ap (λ (r : FramesRec). is_exit g r.frames) z.0) ∙ z.1)

-- so it marks no end
pub no_end : (g : ℕ) (ds : List Duty) (ws : List WordFrame) → is_exit g ws ≡ false → end_by_frames g ds ws ≡ None
no_end zero [] [] e = absurd (true≢false e)
no_end zero [] (w ∷ ws) e = refl
no_end zero (d ∷ ds) ws e = refl
no_end (suc g) ds ws e = refl

events_are : (code : Code) (g q : ℕ) (c x : FramesRec) → quiet code g c ≡ Some x
    → event_of g c ∷ quiet_events code g q x ≡ quiet_events code g (suc q) c
events_are code g q c x e = ap (λ (o : Option FramesRec). event_of g c ∷ unwrap_or (option_map (quiet_events code g q) o) []) (sym e)

-- ---- what stays

both_stay : (s t u : RegionState) → StaysElse s t → StaysElse t u → StaysElse s u
both_stay s t u a b = record {
  memory = b.memory ∙ a.memory;
  printed = b.printed ∙ a.printed;
  owners = b.owners ∙ a.owners;
  global_pages = b.global_pages ∙ a.global_pages;
}

-- only the goroutine of the next step takes part in it
only_takes : (g j : ℕ) (ds : List Duty) → (j ≡ g → ⊥) → TakesPart (event_by g ds) j → ⊥
only_takes g j [] n e = n e
only_takes g j (d ∷ ds) n e = n e

pub acts_alone : (g : ℕ) (ds : List Duty) → ActsAlone (event_by g ds) g
acts_alone g [] = refl
acts_alone g (d ∷ ds) = refl

only_one : (g : ℕ) (ds : List Duty) (s t : RegionState) → LeavesRest s t (event_by g ds) → OnlyOne g s t
only_one g ds s t x = record {
  frames = λ j frames n e. x.others.frames j frames (only_takes g j ds n) e;
  holders = λ j h n e. x.others.holders j h (only_takes g j ds n) e;
  offer = λ h e. x.offers g h (acts_alone g ds) e;
}

only_both : (g : ℕ) (s t u : RegionState) → OnlyOne g s t → OnlyOne g t u → OnlyOne g s u
only_both g s t u a b = record {
  frames = λ j frames n e. b.frames j frames n (a.frames j frames n e);
  holders = λ j h n e. b.holders j h n (a.holders j h n e);
  offer = λ h e. let x = a.offer h e in let y = b.offer x.0 x.1 in (y.0, y.1, y.2 ∙ x.2);
}

-- ---- the law

-- one step, and then q
one_more : (x : Here) (q : ℕ) (y d : FramesRec) → quiet x.code x.g x.c ≡ Some y → is_exit x.g y.frames ≡ false
    → (k : RegionStepsTo x (event_of x.g x.c) x.s.regions (mark_with_end x.s.mark (end_of x.g x.c y)) (slice_set x.records x.g y))
    → HasQuietRun x.code x.page_words x.slot_of x.addresses k.state x.g (quiet_events x.code x.g q y)
    (slice_set (slice_set x.records x.g y) x.g d)
    → HasQuietRun x.code x.page_words x.slot_of x.addresses x.s x.g (quiet_events x.code x.g (suc q) x.c)
    (slice_set x.records x.g d)
one_more x q y d e no_exit k more =
    subst (λ es. HasQuietRun x.code x.page_words x.slot_of x.addresses x.s x.g es (slice_set x.records x.g d))
    (events_are x.code x.g q x.c y e) (record {
      state = more.state;
      runs = ap (option_and_then (λ (u : RegionState). run (region_step x.code x.page_words) u (quiet_events x.code x.g q y))) k.steps
          ∙ more.runs;
      sound = more.sound;
      fit = subst (RecordsFit x.code x.slot_of x.addresses more.state) (set_twice x.records x.g y d) more.fit;
      same = both_stay x.s k.state more.state k.same more.same;
      only = only_both x.g x.s k.state more.state (only_one x.g x.c.holder.duties x.s k.state k.rest) more.only;
      regions_are = more.regions_are ∙ k.regions_are;
      mark_is = more.mark_is ∙ k.mark_is
          ∙ ap (mark_with_end x.s.mark) (no_end x.g x.c.holder.duties y.frames no_exit) ∙ mark_stays x.s.mark;
    })

-- the record after one step
abbrev next_here : (x : Here) (y : FramesRec) (k : RegionStepsTo x (event_of x.g x.c) x.s.regions (mark_with_end x.s.mark (end_of x.g x.c y))
    (slice_set x.records x.g y)) → Here
next_here x y k = record {
  code = x.code;
  page_words = x.page_words;
  slot_of = x.slot_of;
  addresses = x.addresses;
  s = k.state;
  records = slice_set x.records x.g y;
  g = x.g;
  c = y;
  sound = next_sound x.code x.page_words x.s k.state (event_of x.g x.c) x.sound k.steps;
  all = k.fit;
  is_c = get_set_same x.records x.g x.c y x.is_c;
}

runs_quiet : (q : ℕ) (x : Here) (d : FramesRec) → ConstantsFit x.code → quiets x.code x.g q x.c ≡ Some d
    → HasQuietRun x.code x.page_words x.slot_of x.addresses x.s x.g (quiet_events x.code x.g q x.c)
    (slice_set x.records x.g d)
runs_quiet zero x d constants e = record {
  state = x.s;
  runs = refl;
  sound = x.sound;
  fit = subst (RecordsFit x.code x.slot_of x.addresses x.s)
      (sym (set_same x.records x.g x.c x.is_c) ∙ ap (slice_set x.records x.g) (same_Some x.c d e)) x.all;
  same = record { memory = refl; printed = refl; owners = refl; global_pages = refl };
  only = record {
    frames = λ j frames n e. e;
    holders = λ j h n e. e;
    offer = λ h e. (h, e, refl);
  };
  regions_are = refl;
  mark_is = refl;
}
runs_quiet (suc q) x d constants e =
    let y = chained (quiets x.code x.g q) (quiet x.code x.g x.c) d e in
    let is = quiet_is x.code x.g x.c y.0 y.1 in
    let k = local_law x y.0 constants is.0 in
    one_more x q y.0 d y.1 is.1 k (runs_quiet q (next_here x y.0 k) d constants y.2)

as_many : (code : Code) (g q : ℕ) (c d : FramesRec) → quiets code g q c ≡ Some d → length (quiet_events code g q c) ≡ q
as_many code g zero c d e = refl
as_many code g (suc q) c d e =
    let y = chained (quiets code g q) (quiet code g c) d e in
    ap length (sym (events_are code g q c y.0 y.1)) ∙ ap suc (as_many code g q y.0 d y.2)

pub quiet_law : QuietLaw
quiet_law x q d constants e = (as_many x.code x.g q x.c d e, runs_quiet q x d constants e)
