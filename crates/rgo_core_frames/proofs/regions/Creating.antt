-- A new region at a free slot: the records fit after it. The map of slots changes at a number that no holder names yet, so all other
-- records stay. This needs that every region which a holder names, owes or protects was created.
use Rattle.std.proofs.Common.{◌≡◌, ◌≢◌, ◌⊎◌, ℕ, ◌<◌, ◌||◌, Bool, true, false, List, [], ◌∷◌, ◌++◌, map, length, Option, Some, None, refl, sym, ap, ◌∙◌, subst, inl, inr}
use Rattle.std.proofs.Common.{slice_get, slice_set, nat_eq, arith, if◌then◌else◌, option_and_then, true≢false}
use Rattle.std.proofs.lemmas.Option.{same_Some}
use Rattle.std.specs.List.{list_any}
use Rattle.rgo_sound.specs.Tac.Frames.{TacFrame}
use Rattle.rgo_sound.specs.Code.Code.{Code, CodeOp}
use Rattle.rgo_sound.specs.RegionMachine.declared.regions.Region.{Region}
use Rattle.rgo_sound.specs.RegionMachine.declared.regions.Region.TheVariants.{Global as GlobalRegion, Numbered}
use Rattle.rgo_sound.specs.RegionMachine.Duties.{attend, attended, duty_done}
use Rattle.rgo_sound.specs.RegionMachine.Instructions.{holder_after}
use Rattle.rgo_sound.specs.RegionMachine.Machine.{Attend}
use Rattle.rgo_sound.specs.RegionMachine.Regions.{Bindings, RegionInfo, bound, has_stakes, is_live, removed_once, same_region, unbind}
use Rattle.rgo_sound.specs.RegionMachine.States.{Create, Duty, EndBase, RegionEnvironment, Holder, Offer, Protect, RegionState, Remove, Share, Taken, Unprotect, frames_in, top_names, with_top}
use Rattle.rgo_sound.proofs.Places.{get_set_other, get_set_same, get_snoc, length_set}
use Rattle.rgo_sound.proofs.Tests.{eq_of, nat_eq_refl, or_there, split}
use Rattle.rgo_sound.specs.Core.{AreStaked, AreUnique, AreUniqueIn}
use Rattle.rgo_sound.specs.Good.{AllGood}
use Rattle.rgo_sound.specs.Invariant.{FramesFit, GoodHolder, IsReady}
use Rattle.rgo_sound.specs.Stakes.{is_in, one_when, times_in}
use Rattle.rgo_core_frames.specs.regions.Creations.{CreateLaw, created_in, GivesSlot}
use Rattle.rgo_core_frames.specs.Fits.{RecordsFit, RecordFits, IsOfLive, IsPast, IsShown, SlotsDiffer}
use Rattle.rgo_core_frames.specs.Records.{FramesRec}
use Rattle.rgo_core_frames.specs.regions.Slots.{slotted_region, slot_duties, slot_duty, slot_environments, slot_names, slotted}
use Rattle.rgo_core_frames.specs.steps.Bookkept.{HasStep}
use Rattle.rgo_core_frames.proofs.Leaving.{has_step}
use Rattle.rgo_core_frames.proofs.regions.SlotLemmas.{ends_slot, top_slot, unbind_slot, with_top_slot}
use Rattle.rgo_core_frames.proofs.regions.StakeDuties.{owes_first, past_owes}
use Rattle.rgo_sound.specs.Owners.{OwnersMade}
use Rattle.rgo_sound.proofs.pointers.Owners.{live_made}

later : (a b : Bool) → b ≡ true → (if a then true else b) ≡ true
later true b e = refl
later false b e = e

-- ---- the same slots, if the two maps agree on all regions that are named

module _ (slot_of slot_of' : ℕ → ℕ) where
  numbers_same : (rs : List ℕ) → ((r : ℕ) → is_in r rs ≡ true → slot_of' r ≡ slot_of r) → map slot_of' rs ≡ map slot_of rs
  numbers_same [] h = refl
  numbers_same (r ∷ rs) h =
      λ i. h r (ap (λ t. if t then true else is_in r rs) (nat_eq_refl r)) i
      ∷ numbers_same rs (λ q e. h q (later (nat_eq q r) (is_in q rs) e)) i

  pending_same : (rs : List ℕ) → ((r : ℕ) → 0 < times_in r rs → slot_of' r ≡ slot_of r) → map slot_of' rs ≡ map slot_of rs
  pending_same [] h = refl
  pending_same (r ∷ rs) h =
      λ i. h r (let e : one_when (nat_eq r r) ≡ 1 = ap one_when (nat_eq_refl r) in omega (arith, e)) i
      ∷ pending_same rs (λ q n. h q (omega (arith, n))) i

  regions_same : (rs : List Region) → ((r : ℕ) → list_any (same_region (Numbered r)) rs ≡ true → slot_of' r ≡ slot_of r)
      → map (slotted_region slot_of') rs ≡ map (slotted_region slot_of) rs
  regions_same [] h = refl
  regions_same (GlobalRegion ∷ rs) h = ap (λ (zs : List Region). GlobalRegion ∷ zs) (regions_same rs h)
  regions_same (Numbered r ∷ rs) h =
      λ i. Numbered (h r (ap (λ b. b || list_any (same_region (Numbered r)) rs) (nat_eq_refl r)) i)
      ∷ regions_same rs (λ q e. h q (or_there (nat_eq q r) (list_any (same_region (Numbered q)) rs) e)) i

  slot_same : (r : Region) → ((q : ℕ) → r ≡ Numbered q → slot_of' q ≡ slot_of q) → slotted_region slot_of' r ≡ slotted_region slot_of r
  slot_same GlobalRegion h = refl
  slot_same (Numbered q) h = ap Numbered (h q refl)

  names_same : (names : Bindings) → AreUnique names
      → ((k r : ℕ) → bound names k ≡ Some (Numbered r) → slot_of' r ≡ slot_of r) → slot_names slot_of' names ≡ slot_names slot_of names
  names_same [] u h = refl
  names_same (b ∷ bs) u h =
      λ i. (b.0, slot_same b.1 (λ q e. h b.0 q (ap (λ t. if t then Some b.1 else bound bs b.0) (nat_eq_refl b.0) ∙ ap Some e)) i)
      ∷ names_same bs u.1 (λ k r e. h k r (deeper k r e)) i
    where
      deeper : (k r : ℕ) → bound bs k ≡ Some (Numbered r) → (if nat_eq b.0 k then Some b.1 else bound bs k) ≡ Some (Numbered r)
      deeper k r e = split (nat_eq b.0 k)
          (λ t. absurd (clash (sym u.0 ∙ ap (bound bs) (eq_of b.0 k t) ∙ e)))
          (λ f. ap (λ t. if t then Some b.1 else bound bs k) f ∙ e)
        where
          clash : None ≡ Some (Numbered r) → ⊥
          clash e = cc

  environments_same : (stakes : List ℕ) → ((r : ℕ) → is_in r stakes ≡ true → slot_of' r ≡ slot_of r) → (es : List RegionEnvironment)
      → AreUniqueIn es → AreStaked stakes es → slot_environments slot_of' es ≡ slot_environments slot_of es
  environments_same stakes h [] u k = refl
  environments_same stakes h (e ∷ es) u k = λ i. record {
    lent = e.lent;
    names = names_same e.names u.0 (λ n r q. h r (k.0 n r q)) i;
    protections = regions_same e.protections (λ r q. h r (k.1 r q)) i;
  } ∷ environments_same stakes h es u.1 k.2 i

  -- what is owed before an instruction names no region
  ready_same : (Free : ℕ → Type 0) (Then : Bindings → List Region → Type 0) (ds : List Duty) (names : Bindings)
      (protections : List Region) → IsReady Free Then ds names protections → slot_duties slot_of' ds ≡ slot_duties slot_of ds
  ready_same Free Then [] names ps h = refl
  ready_same Free Then (Create k ∷ ds) names ps h =
      ap (λ (zs : List Duty). Create k ∷ zs) (ready_same Free Then ds ((k, Numbered 0) ∷ unbind names k) ps (h.2 0))
  ready_same Free Then (Remove k ∷ ds) names ps h =
      ap (λ (zs : List Duty). Remove k ∷ zs) (ready_same Free Then ds (unbind names k) ps h.3)
  ready_same Free Then (Share k ∷ ds) names ps h =
      ap (λ (zs : List Duty). Share k ∷ zs) (ready_same Free Then ds names ps h.1)
  ready_same Free Then (Protect k ∷ ds) names ps h =
      go (bound names k) refl (λ r e. ready_same Free Then ds names (r ∷ ps) (h.1 r e))
    where
      go : (o : Option Region) → bound names k ≡ o
          → ((r : Region) → bound names k ≡ Some r → slot_duties slot_of' ds ≡ slot_duties slot_of ds)
          → Protect k ∷ slot_duties slot_of' ds ≡ Protect k ∷ slot_duties slot_of ds
      go None e next = absurd (h.0 e)
      go (Some r) e next = ap (λ (zs : List Duty). Protect k ∷ zs) (next r e)
  ready_same Free Then (Unprotect k ∷ ds) names ps h =
      go (bound names k) refl (λ r e. ready_same Free Then ds names (removed_once r ps) (h.1 r e))
    where
      go : (o : Option Region) → bound names k ≡ o
          → ((r : Region) → bound names k ≡ Some r → slot_duties slot_of' ds ≡ slot_duties slot_of ds)
          → Unprotect k ∷ slot_duties slot_of' ds ≡ Unprotect k ∷ slot_duties slot_of ds
      go None e next = absurd (h.0 e)
      go (Some r) e next = ap (λ (zs : List Duty). Unprotect k ∷ zs) (next r e)
  ready_same Free Then (EndBase r ∷ ds) names ps h = absurd h

  ends_same : (base : List Region) → map (slotted_region slot_of') base ≡ map (slotted_region slot_of) base
      → slot_duties slot_of' (map EndBase base) ≡ slot_duties slot_of (map EndBase base)
  ends_same base e = ends_slot slot_of' base ∙ ap (map EndBase) e ∙ sym (ends_slot slot_of base)

  duties_same : (code : Code) (base : List Region) (frames : List TacFrame) (es : List RegionEnvironment) (ds : List Duty)
      → map (slotted_region slot_of') base ≡ map (slotted_region slot_of) base → FramesFit code base frames es ds
      → slot_duties slot_of' ds ≡ slot_duties slot_of ds
  duties_same code base [] [] ds e f = ap (slot_duties slot_of') f ∙ ends_same base e ∙ ap (slot_duties slot_of) (sym f)
  duties_same code base [] (x ∷ es) ds e f = absurd f
  duties_same code base (frame ∷ callers) [] ds e f = absurd f
  duties_same code base (frame ∷ callers) (x ∷ es) ds e f = ready_same _ _ ds x.names x.protections f.0.ready

  module _ (code : Code) (frames : List TacFrame) (h : Holder) (good : GoodHolder code frames h)
      (staked : (r : ℕ) → is_in r h.stakes ≡ true → slot_of' r ≡ slot_of r)
      (pended : (r : ℕ) → 0 < times_in r h.pending → slot_of' r ≡ slot_of r) where
    base_same : map (slotted_region slot_of') h.base ≡ map (slotted_region slot_of) h.base
    base_same = regions_same h.base (λ r e. staked r (good.core.based r e))

    envs_same : slot_environments slot_of' h.environments ≡ slot_environments slot_of h.environments
    envs_same = environments_same h.stakes staked h.environments good.core.unique good.core.staked

    owed_same : slot_duties slot_of' h.duties ≡ slot_duties slot_of h.duties
    owed_same = duties_same code h.base frames h.environments h.duties base_same good.fit

    -- with other duties, which have the same slots
    slotted_same : (ds : List Duty) (o : Offer) → slot_duties slot_of' ds ≡ slot_duties slot_of ds
        → slotted slot_of' (record h { duties = ds; offer = o }) ≡ slotted slot_of (record h { duties = ds; offer = o })
    slotted_same ds o e = λ i. record (slotted slot_of (record h { duties = ds; offer = o })) {
      stakes = numbers_same h.stakes staked i;
      pending = pending_same h.pending pended i;
      environments = envs_same i;
      base = base_same i;
      duties = e i;
    }

    shown_same : (addresses : List ℕ) (c : FramesRec) → IsShown code slot_of addresses frames h c → IsShown code slot_of' addresses frames h c
    shown_same addresses c x = record {
      calm = x.calm;
      shown = x.shown;
      holder = x.holder ∙ sym (slotted_same h.duties h.offer owed_same);
    }

    past_same : (addresses : List ℕ) (c : FramesRec) → IsPast code slot_of addresses frames h c → IsPast code slot_of' addresses frames h c
    past_same addresses c x = record {
      frame = x.frame;
      callers = x.callers;
      before = x.before;
      instr = x.instr;
      at = x.at;
      to = x.to;
      channel = x.channel;
      sent = x.sent;
      removes = x.removes;
      is = x.is;
      offer = x.offer;
      owes_nothing = x.owes_nothing;
      stood = x.stood;
      frames_are = x.frames_are;
      holder_is = x.holder_is;
      shown = record {
        calm = x.shown.calm;
        shown = x.shown.shown;
        holder = x.shown.holder ∙ sym (subst (λ k. slotted slot_of' k ≡ slotted slot_of k) was
            (slotted_same x.before.duties x.before.offer
            (ap (slot_duties slot_of') x.owes_nothing ∙ ap (slot_duties slot_of) (sym x.owes_nothing))));
      };
    }
      where
        was : record h { duties = x.before.duties; offer = x.before.offer } ≡ x.before
        was =
            ap (λ (k : Holder). record k { duties = x.before.duties; offer = x.before.offer })
            (x.holder_is ∙ ap (λ (op : CodeOp). record (holder_after code x.before x.frame x.callers op frames) { offer = Taken x.offer }) x.is)

-- ---- a region more

new_or_old : (regions : List RegionInfo) (info : RegionInfo) (r : ℕ) → is_live (regions ++ info ∷ []) (Numbered r) ≡ true
    → (is_live regions (Numbered r) ≡ true) ⊎ (r ≡ length regions)
new_or_old regions info r e = go (slice_get (regions ++ info ∷ []) r) refl e
  where
    by : (x : RegionInfo) → has_stakes (Some x) ≡ true → (slice_get regions r ≡ Some x) ⊎ ((r ≡ length regions) × (x ≡ info))
        → (is_live regions (Numbered r) ≡ true) ⊎ (r ≡ length regions)
    by x l (inl q) = inl (ap has_stakes q ∙ l)
    by x l (inr q) = inr q.0

    go : (o : Option RegionInfo) → slice_get (regions ++ info ∷ []) r ≡ o → has_stakes o ≡ true
        → (is_live regions (Numbered r) ≡ true) ⊎ (r ≡ length regions)
    go None q l = absurd (true≢false (sym l))
    go (Some x) q l = by x l (get_snoc regions info r x q)

module _ (code : Code) (page_words : ℕ) (slot_of : ℕ → ℕ) (addresses : List ℕ) (s : RegionState) (good : AllGood code s)
    (made : OwnersMade s) (records : List FramesRec) (all : RecordsFit code slot_of addresses s records) (g : ℕ) (c : FramesRec)
    (is_c : slice_get records g ≡ Some c) (p : ℕ) (fresh : (r : ℕ) → is_live s.regions (Numbered r) ≡ true → slot_of r ≢ p)
    (slot_of' : ℕ → ℕ) (gives : GivesSlot s slot_of slot_of' p)
    (frames : List TacFrame) (h : Holder) (at : slice_get s.plain.goroutines g ≡ Some frames)
    (there : slice_get s.holders g ≡ Some h) (shown : IsShown code slot_of addresses frames h c) (k : ℕ) (ds : List Duty)
    (owed : h.duties ≡ Create k ∷ ds) where
  abbrev n : ℕ
  n = length s.regions

  abbrev info : RegionInfo
  info = record { stakes = 1; pages = 0 }

  abbrev holder' : Holder
  holder' = record h {
    duties = ds;
    stakes = n ∷ h.stakes;
    environments = with_top h.environments ((k, Numbered n) ∷ unbind (top_names h.environments) k);
  }

  abbrev state' : RegionState
  state' = record (attended s g holder') { regions = s.regions ++ info ∷ [] }

  abbrev d : FramesRec
  d = created_in c k (slot_duties slot_of ds) p

  staked_same : (j : ℕ) (x : Holder) → slice_get s.holders j ≡ Some x → (r : ℕ) → is_in r x.stakes ≡ true → slot_of' r ≡ slot_of r
  staked_same j x e r i = gives.old r (good.good.fine.made j x r e i)

  pended_same : (j : ℕ) (x : Holder) → slice_get s.holders j ≡ Some x → (r : ℕ) → 0 < times_in r x.pending → slot_of' r ≡ slot_of r
  pended_same j x e r i = gives.old r (good.good.fine.pended j x r e i)

  good_of : (j : ℕ) (fs : List TacFrame) (x : Holder) → slice_get s.plain.goroutines j ≡ Some fs → slice_get s.holders j ≡ Some x
      → GoodHolder code fs x
  good_of j fs x a e = subst (λ y. GoodHolder code y x) (ap frames_in a) (good.good.fine.each j x e)

  other_fits : (j : ℕ) (x : FramesRec) → nat_eq g j ≡ false → RecordFits code slot_of addresses s j x → RecordFits code slot_of' addresses state' j x
  other_fits j x m f = record {
    frames = f.frames;
    at = f.at;
    h = f.h;
    there = get_set_other s.holders g j holder' m ∙ f.there;
    fits = go f.fits;
  }
    where
      go : IsShown code slot_of addresses f.frames f.h x ⊎ IsPast code slot_of addresses f.frames f.h x
          → IsShown code slot_of' addresses f.frames f.h x ⊎ IsPast code slot_of' addresses f.frames f.h x
      go (inl y) = inl (shown_same slot_of slot_of' code f.frames f.h (good_of j f.frames f.h f.at f.there)
          (staked_same j f.h f.there) (pended_same j f.h f.there) addresses x y)
      go (inr y) = inr (past_same slot_of slot_of' code f.frames f.h (good_of j f.frames f.h f.at f.there)
          (staked_same j f.h f.there) (pended_same j f.h f.there) addresses x y)

  mine : GoodHolder code frames h
  mine = good_of g frames h at there

  left_same : slot_duties slot_of' ds ≡ slot_duties slot_of ds
  left_same =
      let e : slot_duties slot_of' (Create k ∷ ds) ≡ slot_duties slot_of (Create k ∷ ds) =
      ap (slot_duties slot_of') (sym owed)
      ∙ owed_same slot_of slot_of' code frames h mine (staked_same g h there) (pended_same g h there)
      ∙ ap (slot_duties slot_of) owed in
      tail e
    where
      tail : {a b : List Duty} → Create k ∷ a ≡ Create k ∷ b → a ≡ b
      tail e = cc

  envs_is : with_top (slot_environments slot_of h.environments) ((k, Numbered p) ∷ unbind (top_names (slot_environments slot_of h.environments)) k)
      ≡ slot_environments slot_of' (with_top h.environments ((k, Numbered n) ∷ unbind (top_names h.environments) k))
  envs_is =
      ap (λ (es : List RegionEnvironment). with_top es ((k, Numbered p) ∷ unbind (top_names es) k))
      (sym (envs_same slot_of slot_of' code frames h mine (staked_same g h there) (pended_same g h there)))
      ∙ ap (λ q. with_top (slot_environments slot_of' h.environments) ((k, Numbered q) ∷ unbind (top_names (slot_environments slot_of' h.environments)) k))
      (sym (gives.new))
      ∙ ap (λ (ns : Bindings). with_top (slot_environments slot_of' h.environments) ((k, Numbered (slot_of' n)) ∷ ns))
      (ap (λ (ns : Bindings). unbind ns k) (top_slot slot_of' h.environments) ∙ unbind_slot slot_of' (top_names h.environments) k)
      ∙ with_top_slot slot_of' h.environments ((k, Numbered n) ∷ unbind (top_names h.environments) k)

  holder_is : d.holder ≡ slotted slot_of' holder'
  holder_is =
      ap (λ (z : Holder). record z {
        duties = slot_duties slot_of ds;
        stakes = p ∷ z.stakes;
        environments = with_top z.environments ((k, Numbered p) ∷ unbind (top_names z.environments) k);
      }) shown.holder
      ∙ (λ i. record (slotted slot_of holder') {
        stakes = sym (gives.new) i ∷ sym (numbers_same slot_of slot_of' h.stakes (staked_same g h there)) i;
        pending = sym (pending_same slot_of slot_of' h.pending (pended_same g h there)) i;
        environments = envs_is i;
        base = sym (base_same slot_of slot_of' code frames h mine (staked_same g h there) (pended_same g h there)) i;
        duties = sym left_same i;
      })

  own_fits : RecordFits code slot_of' addresses state' g d
  own_fits = record {
    frames = frames;
    at = at;
    h = holder';
    there = get_set_same s.holders g h holder' there;
    fits = inl (record { calm = shown.calm; shown = shown.shown; holder = holder_is });
  }

  slots_apart : SlotsDiffer slot_of' (s.regions ++ info ∷ [])
  slots_apart r q a b e = by (new_or_old s.regions info r a) (new_or_old s.regions info q b)
    where
      old : (x : ℕ) → is_live s.regions (Numbered x) ≡ true → slot_of' x ≡ slot_of x
      old x l = gives.old x (live_made s.regions x l)

      new : (x : ℕ) → x ≡ n → slot_of' x ≡ p
      new x q = ap slot_of' q ∙ gives.new

      by : (is_live s.regions (Numbered r) ≡ true) ⊎ (r ≡ n) → (is_live s.regions (Numbered q) ≡ true) ⊎ (q ≡ n) → r ≡ q
      by (inl x) (inl y) = all.slots_differ r q x y (sym (old r x) ∙ e ∙ old q y)
      by (inl x) (inr y) = absurd (fresh r x (sym (old r x) ∙ e ∙ new q y))
      by (inr x) (inl y) = absurd (fresh q y (sym (old q y) ∙ sym e ∙ new r x))
      by (inr x) (inr y) = x ∙ sym y

  stood : (o : ℕ) → IsOfLive (s.regions ++ info ∷ []) s.owners o → IsOfLive s.regions s.owners o
  stood o (GlobalRegion, e, l) = (GlobalRegion, e, refl)
  stood o (Numbered r, e, l) = by (new_or_old s.regions info r l)
    where
      by : (is_live s.regions (Numbered r) ≡ true) ⊎ (r ≡ n) → IsOfLive s.regions s.owners o
      by (inl x) = (Numbered r, e, x)
      by (inr x) = absurd (let m = made o r e in omega (arith, m, x))

  pub creates : HasStep code page_words slot_of' addresses s (Attend g) (s.regions ++ info ∷ []) s.mark (slice_set records g d)
  creates =
      has_step code page_words slot_of' addresses s (Attend g) (s.regions ++ info ∷ []) s.mark (slice_set records g d) state' (
      ap (option_and_then (λ (z : Holder). attend s g z z.duties)) there
      ∙ ap (attend s g h) owed
      ∙ ap (λ t. if t then duty_done s g (record h { duties = ds }) (Create k) else None) shown.calm
      ) (record {
        as_many = length_set records g d ∙ all.as_many ∙ sym (length_set s.holders g holder');
        each = λ j x q. split (nat_eq g j)
            (λ y. let gj = eq_of g j y in subst (λ i. RecordFits code slot_of' addresses state' i x) gj
            (subst (RecordFits code slot_of' addresses state' g)
            (same_Some d x (sym (get_set_same records g c d is_c) ∙ ap (slice_get (slice_set records g d)) gj ∙ q)) own_fits))
            (λ m. other_fits j x m (all.each j x (sym (get_set_other records g j d m) ∙ q)));
        laid = all.laid;
        slots_differ = slots_apart;
        addresses_differ = λ o q a x y. all.addresses_differ o q a (stood o x) (stood q y);
      }) (record { memory = refl; printed = refl; owners = refl; global_pages = refl }) refl refl refl

pub create_duty : (slot_of : ℕ → ℕ) (x : Duty) (k : ℕ) → slot_duty slot_of x ≡ Create k → x ≡ Create k
create_duty slot_of (Create n) k e = e
create_duty slot_of (Share n) k e = cc
create_duty slot_of (Protect n) k e = cc
create_duty slot_of (Unprotect n) k e = cc
create_duty slot_of (Remove n) k e = cc
create_duty slot_of (EndBase r) k e = cc

pub create_law : CreateLaw
create_law x k ds p after owed fresh gives = go f.fits
  where
    f : RecordFits x.code x.slot_of x.addresses x.s x.g x.c
    f = x.all.each x.g x.c x.is_c

    go : IsShown x.code x.slot_of x.addresses f.frames f.h x.c ⊎ IsPast x.code x.slot_of x.addresses f.frames f.h x.c
        → HasStep x.code x.page_words after x.addresses x.s (Attend x.g)
        (x.s.regions ++ record { stakes = 1; pages = 0 } ∷ []) x.s.mark (slice_set x.records x.g (created_in x.c k ds p))
    go (inl shown) =
        let y = owes_first x.slot_of f.h (Create k) ds (ap (λ (z : Holder). z.duties) (sym shown.holder) ∙ owed) in
        subst (λ es. HasStep x.code x.page_words after x.addresses x.s (Attend x.g)
        (x.s.regions ++ record { stakes = 1; pages = 0 } ∷ []) x.s.mark (slice_set x.records x.g (created_in x.c k es p)))
        y.are_others
        (creates x.code x.page_words x.slot_of x.addresses x.s x.sound.good x.sound.made x.records x.all x.g x.c x.is_c p fresh
        after gives f.frames f.h f.at f.there shown k y.others
        (y.owed ∙ ap (λ z. z ∷ y.others) (create_duty x.slot_of y.duty k y.is_duty)))
    go (inr past) = absurd (past_owes x.code x.slot_of x.addresses f.frames f.h x.c (Create k) ds past owed)
