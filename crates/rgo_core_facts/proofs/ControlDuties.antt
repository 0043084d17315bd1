-- What the first duty of a goroutine refers to. The invariant of region safety walks through all duties; its first step is this. What it
-- says of regions is carried to slots.
use Rattle.std.proofs.Common.{◌≡◌, ⊎_elim, ◌∙◌, ◌≤◌, ◌+◌, ◌||◌, ℕ, Bool, true, false, List, [], ◌∷◌, map, Some, slice_get, refl, sym, ap, subst, arith}
use Rattle.std.specs.List.{list_any}
use Rattle.rgo_core.proofs.Frames.regions.SlotLemmas.{ends_slot}
use Rattle.rgo_core.proofs.Frames.regions.StakeDuties.{OwesFirst, owes_first, past_owes}
use Rattle.rgo_core.specs.Frames.shown.Variables.{FramesShow}
use Rattle.rgo_core.specs.Frames.regions.Slots.{slotted_region, slot_duties, slot_duty, slot_environment, slot_environments}
use Rattle.rgo_core.specs.Frames.shown.WordFrames.{WordFrame}
use Rattle.rgo_sound.specs.RegionMachine.Regions.{bound, same_region}
use Rattle.rgo_sound.specs.RegionMachine.States.{Create, Duty, EndBase, RegionEnvironment, Holder, Protect, Remove, Share, Unprotect, top_names}
use Rattle.rgo_sound.specs.RegionMachine.declared.regions.Region.{Region}
use Rattle.rgo_sound.proofs.duties.Attends.{same_reflexive}
use Rattle.rgo_sound.specs.Invariant.{FramesFit, IsFree, IsReady, Settled, times}
use Rattle.rgo_sound.specs.Stakes.{one_when}
use Rattle.rgo_sound.specs.Tac.Frames.{TacFrame}
use Rattle.rgo_core.specs.Core.{Situation, Setup}
use Rattle.rgo_core.specs.Records.{Record}
use Rattle.rgo_core.proofs.image.Parts.{I}
use Rattle.rgo_core_facts.specs.ControlDuties.{CanAttend, DutiesAtEnd, DutiesKnown, HasNewest, NameIsBound}
use Rattle.rgo_core_facts.proofs.ControlPending.{some_region}
use Rattle.rgo_core_facts.proofs.ControlRegions.{base_staked, names_staked}
use Rattle.rgo_core_facts.proofs.ControlSlots.{any_slotted, bound_slotted, unbound_slotted}
use Rattle.rgo_core_facts.proofs.ControlUnprotects.{UnprotectsFit, ends_protections, top_protections}
use Rattle.rgo_core_facts.proofs.ControlView.{Past, Shown, fitted, good_holder}

-- what is counted is in the list
times_any : (r : Region) (rs : List Region) → 1 ≤ times r rs → list_any (same_region r) rs ≡ true
times_any r [] l = absurd (omega (arith, l))
times_any r (s ∷ rs) l = go (same_region r s) l (times_any r rs)
  where
    go : (b : Bool) → 1 ≤ one_when b + times r rs → (1 ≤ times r rs → list_any (same_region r) rs ≡ true)
        → (b || list_any (same_region r) rs) ≡ true
    go true l next = refl
    go false l next = next (omega (arith, l))

first_end : (r : Region) (ds : List Duty) (base : List Region) → EndBase r ∷ ds ≡ map EndBase base → list_any (same_region r) base ≡ true
first_end r ds [] e = cc
first_end r ds (q ∷ base) e =
    ap (λ y. same_region r y || list_any (same_region r) base) (same r q ds (map EndBase base) e)
    ∙ ap (λ b. b || list_any (same_region r) base) (same_reflexive r)
  where
    same : (r q : Region) (ds es : List Duty) → EndBase r ∷ ds ≡ EndBase q ∷ es → q ≡ r
    same r q ds es e = cc

no_end : (d : Duty) (ds : List Duty) (base : List Region) → ((r : Region) → d ≡ EndBase r → ⊥) → d ∷ ds ≡ map EndBase base → ⊥
no_end d ds [] other e = cc
no_end d ds (q ∷ base) other e = other q (same d (EndBase q) ds (map EndBase base) e)
  where
    same : (a b : Duty) (more others : List Duty) → a ∷ more ≡ b ∷ others → a ≡ b
    same a b more others e = cc

module _ {T : Setup} {g : ℕ} {c : Record} (x : Situation T g c) (y : Shown x (fitted x).frames (fitted x).h) where
  abbrev s_of : ℕ → ℕ
  s_of = (I x).places.slot

  abbrev h : Holder
  h = (fitted x).h

  environments_are : c.frame.holder.environments ≡ slot_environments s_of h.environments
  environments_are = ap (λ (k : Holder). k.environments) y.holder

  -- ---- duties of a frame

  module _ (e : RegionEnvironment) (es : List RegionEnvironment) (w : WordFrame) (ws : List WordFrame) (there : h.environments ≡ e ∷ es)
      (frames : c.frame.frames ≡ w ∷ ws) where
    newest : HasNewest c (slot_environment s_of e)
    newest = record {
      w = w;
      ws = ws;
      frames = frames;
      es = slot_environments s_of es;
      environments = environments_are ∙ ap (slot_environments s_of) there;
    }

    named_as : (k : ℕ) (q : Region) → bound e.names k ≡ Some q → NameIsBound T c k
    named_as k q b = record {
      e = slot_environment s_of e;
      newest = newest;
      region = slotted_region s_of q;
      bound = bound_slotted s_of e.names k q b;
      staked = names_staked x (slot_environment s_of e) k (slotted_region s_of q) (0, ap (λ l. slice_get l 0) newest.environments)
          (bound_slotted s_of e.names k q b);
    }

    by_frame : (Free : ℕ → Type 0) (Then : _) (d : Duty) (ds : List Duty) → IsReady Free Then (d ∷ ds) e.names e.protections
        → UnprotectsFit (d ∷ ds) e.names e.protections → CanAttend T c (slot_duty s_of d)
    unfolding named_as
    by_frame Free Then (Create k) ds ready ends =
        record { e = slot_environment s_of e; newest = newest; unbound = unbound_slotted s_of e.names k ready.0 }
    by_frame Free Then (Share k) ds ready ends = let q = some_region (bound e.names k) ready.0 in named_as k q.0 q.1
    by_frame Free Then (Protect k) ds ready ends = let q = some_region (bound e.names k) ready.0 in named_as k q.0 q.1
    by_frame Free Then (Unprotect k) ds ready ends =
        let q = some_region (bound e.names k) ready.0 in
        record {
          named = named_as k q.0 q.1;
          protected = any_slotted s_of e.protections q.0 (times_any q.0 e.protections (ends q.0 q.1).0);
        }
    by_frame Free Then (Remove k) ds ready ends =
        let q = some_region (bound e.names k) ready.1 in
        record { named = named_as k q.0 q.1; none = ap (map (slotted_region s_of)) ready.0 }
    by_frame Free Then (EndBase r) ds ready ends = absurd ready

  -- ---- at the end

  at_end : (d : Duty) (ds : List Duty) → c.frame.frames ≡ [] → h.environments ≡ [] → d ∷ ds ≡ map EndBase h.base
      → CanAttend T c (slot_duty s_of d)
  at_end (EndBase r) ds frames there e =
      let b : list_any (same_region (slotted_region s_of r)) c.frame.holder.base ≡ true =
      ap (list_any (same_region (slotted_region s_of r))) (ap (λ (k : Holder). k.base) y.holder)
      ∙ any_slotted s_of h.base r (first_end r ds h.base e) in
      record {
        frames = frames;
        environments = environments_are ∙ ap (slot_environments s_of) there;
        base = b;
        staked = base_staked x (slotted_region s_of r) b;
      }
  at_end (Create k) ds frames there e = absurd (no_end (Create k) ds h.base (λ r q. cc) e)
  at_end (Share k) ds frames there e = absurd (no_end (Share k) ds h.base (λ r q. cc) e)
  at_end (Protect k) ds frames there e = absurd (no_end (Protect k) ds h.base (λ r q. cc) e)
  at_end (Unprotect k) ds frames there e = absurd (no_end (Unprotect k) ds h.base (λ r q. cc) e)
  at_end (Remove k) ds frames there e = absurd (no_end (Remove k) ds h.base (λ r q. cc) e)

  by_frames : (frames : List TacFrame) (es : List RegionEnvironment) (ws : List WordFrame) (d : Duty) (ds : List Duty) → h.environments ≡ es
      → c.frame.frames ≡ ws → FramesShow T.code (I x).addresses frames ws → FramesFit T.code h.base frames es (d ∷ ds)
      → UnprotectsFit (d ∷ ds) (top_names es) (top_protections es) → CanAttend T c (slot_duty s_of d)
  by_frames [] [] [] d ds there is sh fit ends = at_end d ds is there fit
  by_frames [] [] (w ∷ ws) d ds there is sh fit ends = absurd sh
  by_frames [] (e ∷ es) ws d ds there is sh fit ends = absurd fit
  by_frames (frame ∷ callers) [] ws d ds there is sh fit ends = absurd fit
  by_frames (frame ∷ callers) (e ∷ es) [] d ds there is sh fit ends = absurd sh
  by_frames (frame ∷ callers) (e ∷ es) (w ∷ ws) d ds there is sh fit ends =
      by_frame e es w ws there is (IsFree fit.0.fn frame.next) (Settled fit.0.fn frame.next fit.0.instr) d ds fit.0.ready ends

  pub attends : (d : Duty) (ds : List Duty) → c.frame.holder.duties ≡ d ∷ ds → CanAttend T c d
  attends d ds owed =
      let first : OwesFirst s_of h d ds = owes_first s_of h d ds (ap (λ (k : Holder). k.duties) (sym y.holder) ∙ owed) in
      let good = good_holder x (fitted x).frames h (fitted x).at (fitted x).there in
      let ends = ends_protections T.code T.sizes.page_words T.limits x.events x.s x.core.sound.checked x.core.sound.written x.core.story.leads
      g h (fitted x).there in
      subst (CanAttend T c) first.is_duty
      (by_frames (fitted x).frames h.environments c.frame.frames first.duty first.others refl refl y.shown
      (subst (FramesFit T.code h.base (fitted x).frames h.environments) first.owed good.fit)
      (subst (λ l. UnprotectsFit l (top_names h.environments) (top_protections h.environments)) first.owed ends))

pub duties_known : DutiesKnown
duties_known T g c x d ds owed = ⊎_elim
    (λ (y : Shown x (fitted x).frames (fitted x).h). attends x y d ds owed)
    (λ (y : Past x (fitted x).frames (fitted x).h).
    absurd (past_owes T.code (I x).places.slot (I x).addresses (fitted x).frames (fitted x).h c.frame d ds y owed))
    (fitted x).fits

-- ---- at the end

no_frames : {X : Type 0} (w : X) (ws : List X) → w ∷ ws ≡ [] → ⊥
no_frames w ws e = cc

module _ {T : Setup} {g : ℕ} {c : Record} (x : Situation T g c) (gone : c.frame.frames ≡ []) where
  abbrev OwesEnds : Type 0
  OwesEnds = c.frame.holder.duties ≡ map EndBase c.frame.holder.base

  ends_shown : Shown x (fitted x).frames (fitted x).h → OwesEnds
  ends_shown y = by (fitted x).frames (fitted x).h.environments c.frame.frames gone y.shown
      (good_holder x (fitted x).frames (fitted x).h (fitted x).at (fitted x).there).fit
    where
      by : (frames : List TacFrame) (es : List RegionEnvironment) (ws : List WordFrame) → ws ≡ [] → FramesShow T.code (I x).addresses frames ws
          → FramesFit T.code (fitted x).h.base frames es (fitted x).h.duties → OwesEnds
      by [] [] ws e sh fit =
          ap (λ (k : Holder). k.duties) y.holder ∙ ap (slot_duties (I x).places.slot) fit ∙ ends_slot (I x).places.slot (fitted x).h.base
          ∙ ap (map EndBase) (sym (ap (λ (k : Holder). k.base) y.holder))
      by [] (env ∷ es) ws e sh fit = absurd fit
      by (frame ∷ callers) es [] e sh fit = absurd sh
      by (frame ∷ callers) es (w ∷ ws) e sh fit = absurd (no_frames w ws e)

  ends_past : Past x (fitted x).frames (fitted x).h → OwesEnds
  ends_past y = absurd (subst (FramesShow T.code (I x).addresses (y.frame ∷ y.callers)) gone y.shown.shown)

  owes_ends : OwesEnds
  owes_ends = ⊎_elim ends_shown ends_past (fitted x).fits

pub duties_at_end : DutiesAtEnd
duties_at_end T g c x gone = owes_ends x gone
