-- The duties of a goroutine that touch the word of a region. The record knows a slot, the machine a region: the goroutine has a stake
-- there, so it is live and the only one of that slot.
use Rattle.std.proofs.Common.{◌≡◌, ◌⊎◌, ℕ, ◌-◌, Bool, true, false, List, [], ◌∷◌, map, length, Option, Some, None, refl, sym, ap, ◌∙◌, subst, inl, inr}
use Rattle.std.proofs.Common.{slice_get, slice_set, append-nil, nat_eq, nat_lt, arith, if◌then◌else◌, option_map, option_and_then}
use Rattle.std.proofs.lemmas.Option.{some_pair_parts}
use Rattle.std.specs.List.{list_any}
use Rattle.rgo_sound.specs.Tac.Frames.{TacFrame}
use Rattle.rgo_sound.specs.Code.Code.{Code}
use Rattle.rgo_sound.specs.RegionMachine.declared.regions.Region.{Region}
use Rattle.rgo_sound.specs.RegionMachine.declared.regions.Region.TheVariants.{Global as GlobalRegion, Numbered}
use Rattle.rgo_sound.specs.RegionMachine.Duties.{attend, attended, duty_done, guards, may_go, removal, shared}
use Rattle.rgo_sound.specs.RegionMachine.Regions.{Bindings, RegionInfo, bound, has_stakes, is_live, one_fewer, with_added_stake, removed_once, unbind, with_info, without}
use Rattle.rgo_sound.specs.RegionMachine.States.{Create, Duty, EndBase, RegionEnvironment, Holder, Protect, RegionState, Remove, Share, Unprotect, top_names, with_top}
use Rattle.rgo_sound.proofs.duties.Attends.{staked_live, with_info_other, with_info_same}
use Rattle.rgo_sound.proofs.names.Stakes.{duty_staked}
use Rattle.rgo_sound.proofs.Tests.{eq_of, nat_eq_refl, split}
use Rattle.rgo_sound.specs.Good.{AllGood}
use Rattle.rgo_sound.specs.NextNames.{DutyNames}
use Rattle.rgo_sound.specs.Stakes.{is_in}
use Rattle.rgo_core_frames.specs.Fits.{RecordsFit, RecordFits, IsOfLive, IsPast, IsShown, ObjectsDiffer}
use Rattle.rgo_core_frames.specs.Records.{FramesRec}
use Rattle.rgo_core_frames.specs.regions.Slots.{slotted_region, slot_duties, slot_duty, slot_environments, slotted}
use Rattle.rgo_core_frames.specs.regions.Stakes.{ChangesStakes, StakeEndLaw, ShareLaw, ended, shared_in, stake_ended, stake_shared, StakesChange}
use Rattle.rgo_core_frames.proofs.Keeping.{all_fit_after, base_live, pending_live, protections_live}
use Rattle.rgo_sound.proofs.steps.Acting.{set_same}
use Rattle.rgo_core_frames.proofs.steps.LocalActs.{chained, mapped}
use Rattle.rgo_core_frames.proofs.steps.LocalDuties.{pending_slot}
use Rattle.rgo_core_frames.proofs.regions.SlotLemmas.{AllLive, ProtectionsLive, bound_slot, guards_slot, removed_live, removed_once_slot, same_slot, top_slot, unbind_slot, with_top_live, with_top_slot}
use Rattle.rgo_sound.proofs.Progress.{live_of}
use Rattle.rgo_sound.specs.RegionMachine.Machine.{Attend}
use Rattle.rgo_core_frames.proofs.Leaving.{has_step}

none_is : (x : ℕ × Holder) → ◌≡◌ {A = Option (ℕ × Holder)} None (Some x) → ⊥
none_is x e = cc

abbrev unless : Bool → ℕ × Holder → Option (ℕ × Holder)
unless t x = if t then None else Some x

-- ---- what is live after it

positive_before : (info : RegionInfo) → nat_lt 0 (info.stakes - 1) ≡ true → nat_lt 0 info.stakes ≡ true
positive_before info e = grind arith

fewer_live : (regions : List RegionInfo) (r q : ℕ) → is_live (with_info regions r one_fewer) (Numbered q) ≡ true
    → is_live regions (Numbered q) ≡ true
fewer_live regions r q e = split (nat_eq r q) here (λ n. ap has_stakes (sym (with_info_other regions r q one_fewer n)) ∙ e)
  where
    fewer : (o : Option RegionInfo) → has_stakes (option_map one_fewer o) ≡ true → has_stakes o ≡ true
    fewer None e = e
    fewer (Some info) e = positive_before info e

    here : nat_eq r q ≡ true → is_live regions (Numbered q) ≡ true
    here t = fewer (slice_get regions q)
        (sym (ap has_stakes (with_info_same regions q one_fewer))
        ∙ ap (λ x. is_live (with_info regions x one_fewer) (Numbered q)) (sym (eq_of r q t)) ∙ e)

more_live : (regions : List RegionInfo) (r q : ℕ) → is_live regions (Numbered r) ≡ true
    → is_live (with_info regions r with_added_stake) (Numbered q) ≡ true → is_live regions (Numbered q) ≡ true
more_live regions r q l e = split (nat_eq r q) (λ t. ap (λ x. is_live regions (Numbered x)) (sym (eq_of r q t)) ∙ l)
    (λ n. ap has_stakes (sym (with_info_other regions r q with_added_stake n)) ∙ e)

-- ---- another holder and other stakes

module _ (code : Code) (page_words : ℕ) (slot_of : ℕ → ℕ) (addresses : List ℕ) (s : RegionState) (good : AllGood code s)
    (records : List FramesRec) (all : RecordsFit code slot_of addresses s records) (g : ℕ) (c : FramesRec) (is_c : slice_get records g ≡ Some c)
    (frames : List TacFrame) (h : Holder) (at : slice_get s.plain.goroutines g ≡ Some frames)
    (there : slice_get s.holders g ≡ Some h) (shown : IsShown code slot_of addresses frames h c) where
  abbrev other_state : Holder → List RegionInfo → RegionState
  other_state k regions = record (attended s g k) { regions = regions }

  stands_before : (regions : List RegionInfo)
      → ((q : ℕ) → is_live regions (Numbered q) ≡ true → is_live s.regions (Numbered q) ≡ true)
      → (o : ℕ) → IsOfLive regions s.owners o → IsOfLive s.regions s.owners o
  stands_before regions old o (GlobalRegion, e, l) = (GlobalRegion, e, refl)
  stands_before regions old o (Numbered q, e, l) = (Numbered q, e, old q l)

  fits_with : (after k : Holder) (regions : List RegionInfo)
      → ((q : ℕ) → is_live regions (Numbered q) ≡ true → is_live s.regions (Numbered q) ≡ true)
      → after.offer ≡ h.offer → k ≡ slotted slot_of after
      → RecordsFit code slot_of addresses (other_state after regions) (slice_set records g (record c { holder = k }))
  fits_with after k regions old same slots =
      subst (λ l. RecordsFit code slot_of l (other_state after regions) (slice_set records g (record c { holder = k }))) (append-nil addresses)
      (all_fit_after code slot_of addresses [] s (other_state after regions) g frames h frames after [] [] at there
      (record { goroutines = sym (set_same s.plain.goroutines g frames at) ∙ sym (append-nil _); holders = sym (append-nil _) })
      records c (record c { holder = k }) all is_c
      (inl (subst (λ l. IsShown code slot_of l frames after (record c { holder = k })) (sym (append-nil addresses))
      (record { calm = ap may_go same ∙ shown.calm; shown = shown.shown; holder = slots })))
      refl refl (ap length (append-nil addresses) ∙ all.laid)
      (λ r q a b e. all.slots_differ r q (old r a) (old q b) e)
      (subst (λ l. ObjectsDiffer l regions s.owners) (sym (append-nil addresses))
      (λ o p a x y. all.addresses_differ o p a (stands_before regions old o x) (stands_before regions old p y))))

  module _ (d : Duty) (ds : List Duty) (owed : h.duties ≡ d ∷ ds) where
    abbrev left : Holder
    left = record h { duties = ds }

    abbrev names : Bindings
    names = top_names h.environments

    abbrev slot_envs : List RegionEnvironment
    slot_envs = slot_environments slot_of h.environments

    named_live : (r : Region) → DutyNames h d r → is_live s.regions r ≡ true
    named_live r n = live_of s h r (duty_staked code s g h d ds r good.good.fine there owed n)

    found : (k : ℕ) (q : Region) → bound (top_names slot_envs) k ≡ Some q
        → (r : Region) × (bound names k ≡ Some r) × (slotted_region slot_of r ≡ q)
    found k q e =
        mapped (slotted_region slot_of) (bound names k) q
        (sym (bound_slot slot_of names k) ∙ ap (λ (ns : Bindings). bound ns k) (sym (top_slot slot_of h.environments)) ∙ e)

    abbrev Ends : Option RegionState → Option (ℕ × Holder) → (RegionInfo → RegionInfo) → ℕ → Holder → Type 0
    Ends done own change p k =
        (r : ℕ) × (slot_of r ≡ p) × (is_live s.regions (Numbered r) ≡ true) × (after : Holder)
        × (done ≡ Some (other_state after (with_info s.regions r change))) × (after.offer ≡ h.offer) × (k ≡ slotted slot_of after)
        × (own ≡ Some (r, after))

    abbrev ended_stake : Holder → ℕ → ℕ × Holder
    ended_stake after r = (slot_of r, record (slotted slot_of after) { stakes = without (slot_of r) (map slot_of after.stakes) })

    abbrev one_pending : ℕ → ℕ × Holder
    one_pending r = (slot_of r, record (slotted slot_of left) { pending = slot_of r ∷ map slot_of h.pending })

    -- a stake ends
    without_slot : (r : ℕ) (rs : List ℕ) → is_live s.regions (Numbered r) ≡ true
        → ((q : ℕ) → is_in q rs ≡ true → is_live s.regions (Numbered q) ≡ true)
        → without (slot_of r) (map slot_of rs) ≡ map slot_of (without r rs)
    without_slot r [] l k = refl
    without_slot r (q ∷ rs) l k =
        ap (λ t. if t then without (slot_of r) (map slot_of rs) else slot_of q ∷ without (slot_of r) (map slot_of rs))
        (same_slot slot_of s.regions all.slots_differ (Numbered r) (Numbered q) l
        (k q (ap (λ t. if t then true else is_in q rs) (nat_eq_refl q))))
        ∙ go (nat_eq r q) (without_slot r rs l (λ p e. k p (later (nat_eq p q) (is_in p rs) e)))
      where
        later : (a b : Bool) → b ≡ true → (if a then true else b) ≡ true
        later true b e = refl
        later false b e = e

        go : (t : Bool) → without (slot_of r) (map slot_of rs) ≡ map slot_of (without r rs)
            → (if t then without (slot_of r) (map slot_of rs) else slot_of q ∷ without (slot_of r) (map slot_of rs))
            ≡ map slot_of (if t then without r rs else q ∷ without r rs)
        go true e = e
        go false e = ap (λ zs. slot_of q ∷ zs) e

    ends_stake : (after : Holder) (r : Region) → after.offer ≡ h.offer → after.stakes ≡ h.stakes → is_live s.regions r ≡ true
        → AllLive slot_of s.regions all.slots_differ after.base → ProtectionsLive slot_of s.regions all.slots_differ after.environments
        → (p : ℕ) (k : Holder) → ended (slotted slot_of after) (slotted_region slot_of r) ≡ Some (p, k)
        → Ends (removal s g after r) (ended after r) one_fewer p k
    ends_stake after GlobalRegion o st l b pr p k e = cc
    ends_stake after (Numbered r) o st l b pr p k e = go (guards after.base after.environments (Numbered r)) refl
      where
        same : guards (map (slotted_region slot_of) after.base) (slot_environments slot_of after.environments) (Numbered (slot_of r))
            ≡ guards after.base after.environments (Numbered r)
        same = guards_slot slot_of s.regions all.slots_differ after.base after.environments (Numbered r) l b pr

        stakes_live : (q : ℕ) → is_in q after.stakes ≡ true → is_live s.regions (Numbered q) ≡ true
        stakes_live q i = staked_live code s g h q good.good.fine there (ap (is_in q) (sym st) ∙ i)

        tested : unless (guards after.base after.environments (Numbered r)) (ended_stake after r) ≡ Some (p, k)
        tested = ap (λ t. unless t (ended_stake after r)) (sym same) ∙ e

        go : (t : Bool) → guards after.base after.environments (Numbered r) ≡ t → Ends (removal s g after (Numbered r)) (ended after (Numbered r)) one_fewer p k
        go true q = absurd (none_is (p, k) (ap (λ t. unless t (ended_stake after r)) (sym q) ∙ tested))
        go false q =
            let z = some_pair_parts (slot_of r) p (record (slotted slot_of after) { stakes = without (slot_of r) (map slot_of after.stakes) }) k
            (ap (λ t. unless t (ended_stake after r)) (sym q) ∙ tested) in (
              r,
              z.0,
              l,
              record after { stakes = without r after.stakes },
              ap (λ t. if t then (if guards after.base after.environments (Numbered r) then Some (attended s g after) else Some (other_state (record after { stakes = without r after.stakes }) (with_info s.regions r one_fewer))) else None) l
                  ∙ ap (λ t. if t then Some (attended s g after) else Some (other_state (record after { stakes = without r after.stakes }) (with_info s.regions r one_fewer))) q,
              o,
              sym z.1 ∙ (λ i. record (slotted slot_of after) { stakes = without_slot r after.stakes l stakes_live i }),
              ap (λ t. if t then None else Some (r, record after { stakes = without r after.stakes })) q,
            )

    of_named : (f : Region → Option RegionState) (own : Region → Option (ℕ × Holder)) (change : RegionInfo → RegionInfo) (k : ℕ) (r : Region) → bound names k ≡ Some r
        → (p : ℕ) (kept : Holder) → Ends (f r) (own r) change p kept
        → Ends (option_and_then f (bound names k)) (option_and_then own (bound names k)) change p kept
    of_named f own change k r e p kept x =
        (x.0, x.1, x.2, x.3, ap (option_and_then f) e ∙ x.4, x.5, x.6, ap (option_and_then own) e ∙ x.7)

    all_protections : ProtectionsLive slot_of s.regions all.slots_differ h.environments
    all_protections = protections_live code s good.good.fine g h there slot_of all.slots_differ

    ends_duty : (e : Duty) → d ≡ e → (p : ℕ) (k : Holder) → stake_ended (slotted slot_of left) (slot_duty slot_of e) ≡ Some (p, k)
        → Ends (duty_done s g left e) (stake_ended left e) one_fewer p k
    ends_duty (Create n) is p k e = cc
    ends_duty (Share n) is p k e = cc
    ends_duty (Protect n) is p k e = cc
    ends_duty (Unprotect n) is p k e = cc
    ends_duty (Remove n) is p k e =
        let x = chained (ended (record (slotted slot_of left) { environments = with_top slot_envs (unbind (top_names slot_envs) n) }))
        (bound (top_names slot_envs) n) (p, k) e in
        let r = found n x.0 x.1 in
        let l = named_live r.0 (subst (λ y. DutyNames h y r.0) (sym is) r.1) in
        let after : Holder = record left { environments = with_top h.environments (unbind names n) } in
        let envs : with_top slot_envs (unbind (top_names slot_envs) n) ≡ slot_environments slot_of (with_top h.environments (unbind names n)) =
        ap (λ (ns : Bindings). with_top slot_envs (unbind ns n)) (top_slot slot_of h.environments)
        ∙ ap (with_top slot_envs) (unbind_slot slot_of names n) ∙ with_top_slot slot_of h.environments (unbind names n) in
        of_named (removal s g after) (ended after) one_fewer n r.0 r.1 p k
        (ends_stake after r.0 refl refl l (base_live code s good.good.fine g h there)
        (with_top_live slot_of s.regions all.slots_differ h.environments (unbind names n) all_protections) p k
        (subst (λ q. ended (slotted slot_of after) q ≡ Some (p, k)) (sym r.2)
        (subst (λ (es : List RegionEnvironment). ended (record (slotted slot_of left) { environments = es }) x.0 ≡ Some (p, k)) envs x.2)))
    ends_duty (EndBase r) is p k e =
        let l = named_live r (subst (λ y. DutyNames h y r) (sym is) refl) in
        let b : AllLive slot_of s.regions all.slots_differ h.base = base_live code s good.good.fine g h there in
        let after : Holder = record left { base = removed_once r h.base } in
        ends_stake after r refl refl l (removed_live slot_of s.regions all.slots_differ r h.base b) all_protections p k
        (subst (λ (bs : List Region). ended (record (slotted slot_of left) { base = bs }) (slotted_region slot_of r) ≡ Some (p, k))
        (removed_once_slot slot_of s.regions all.slots_differ r h.base l b) e)

    -- a stake for a coming child
    shares_stake : (r : Region) → is_live s.regions r ≡ true → (p : ℕ) (k : Holder)
        → shared_in (slotted slot_of left) (slotted_region slot_of r) ≡ Some (p, k) → Ends (shared s g left r) (shared_in left r) with_added_stake p k
    shares_stake GlobalRegion l p k e = cc
    shares_stake (Numbered r) l p k e = go (list_any (nat_eq r) h.pending) refl
      where
        tested : unless (list_any (nat_eq r) h.pending) (one_pending r) ≡ Some (p, k)
        tested = ap (λ t. unless t (one_pending r))
            (sym (pending_slot code slot_of s good.good.fine all.slots_differ g h there d ds owed r h.pending l
            (pending_live code s good.good.fine g h there))) ∙ e

        go : (t : Bool) → list_any (nat_eq r) h.pending ≡ t → Ends (shared s g left (Numbered r)) (shared_in left (Numbered r)) with_added_stake p k
        go true q = absurd (none_is (p, k) (ap (λ t. unless t (one_pending r)) (sym q) ∙ tested))
        go false q =
            let z = some_pair_parts (slot_of r) p (record (slotted slot_of left) { pending = slot_of r ∷ map slot_of h.pending }) k
            (ap (λ t. unless t (one_pending r)) (sym q) ∙ tested) in (
              r,
              z.0,
              l,
              record left { pending = r ∷ h.pending },
              ap (λ t. if t then (if list_any (nat_eq r) h.pending then Some (attended s g left) else Some (other_state (record left { pending = r ∷ h.pending }) (with_info s.regions r with_added_stake))) else None) l
                  ∙ ap (λ t. if t then Some (attended s g left) else Some (other_state (record left { pending = r ∷ h.pending }) (with_info s.regions r with_added_stake))) q,
              refl,
              sym z.1,
              ap (λ t. if t then None else Some (r, record left { pending = r ∷ h.pending })) q,
            )

    shares_duty : (e : Duty) → d ≡ e → (p : ℕ) (k : Holder) → stake_shared (slotted slot_of left) (slot_duty slot_of e) ≡ Some (p, k)
        → Ends (duty_done s g left e) (stake_shared left e) with_added_stake p k
    shares_duty (Create n) is p k e = cc
    shares_duty (Share n) is p k e =
        let x = chained (shared_in (slotted slot_of left)) (bound (top_names slot_envs) n) (p, k) e in
        let r = found n x.0 x.1 in
        of_named (shared s g left) (shared_in left) with_added_stake n r.0 r.1 p k
        (shares_stake r.0 (named_live r.0 (subst (λ y. DutyNames h y r.0) (sym is) r.1)) p k
        (subst (λ q. shared_in (slotted slot_of left) q ≡ Some (p, k)) (sym r.2) x.2))
    shares_duty (Protect n) is p k e = cc
    shares_duty (Unprotect n) is p k e = cc
    shares_duty (Remove n) is p k e = cc
    shares_duty (EndBase r) is p k e = cc

    -- the step
    changes_with : (by : Holder → Duty → Option (ℕ × Holder)) (change : RegionInfo → RegionInfo) (p : ℕ) (k : Holder)
        → ((r q : ℕ) → is_live s.regions (Numbered r) ≡ true → is_live (with_info s.regions r change) (Numbered q) ≡ true
        → is_live s.regions (Numbered q) ≡ true)
        → Ends (duty_done s g left d) (by left d) change p k
        → ChangesStakes code page_words slot_of addresses s g p by change (slice_set records g (record c { holder = k }))
    changes_with by change p k old x = record {
      region = x.0;
      slot_is = x.1;
      live = x.2;
      h = h;
      there = there;
      duty = d;
      others = ds;
      owed = owed;
      after = x.3;
      does = x.7;
      step = has_step code page_words slot_of addresses s (Attend g) (with_info s.regions x.0 change) s.mark
          (slice_set records g (record c { holder = k })) (other_state x.3 (with_info s.regions x.0 change))
          (ap (option_and_then (λ (z : Holder). attend s g z z.duties)) there
          ∙ ap (attend s g h) owed
          ∙ ap (λ t. if t then duty_done s g left d else None) shown.calm
          ∙ x.4)
          (fits_with x.3 k (with_info s.regions x.0 change) (λ q l. old x.0 q x.2 l) x.5 x.6)
          (record { memory = refl; printed = refl; owners = refl; global_pages = refl }) refl refl refl;
    }

    pub ends : (p : ℕ) (k : Holder) → stake_ended (slotted slot_of left) (slot_duty slot_of d) ≡ Some (p, k)
        → ChangesStakes code page_words slot_of addresses s g p stake_ended one_fewer (slice_set records g (record c { holder = k }))
    ends p k e = changes_with stake_ended one_fewer p k (λ r q l m. fewer_live s.regions r q m) (ends_duty d refl p k e)

    pub shares : (p : ℕ) (k : Holder) → stake_shared (slotted slot_of left) (slot_duty slot_of d) ≡ Some (p, k)
        → ChangesStakes code page_words slot_of addresses s g p stake_shared with_added_stake (slice_set records g (record c { holder = k }))
    shares p k e = changes_with stake_shared with_added_stake p k (λ r q l m. more_live s.regions r q l m) (shares_duty d refl p k e)

-- ---- the laws

-- a goroutine whose record owes this duty
pub record OwesFirst (slot_of : ℕ → ℕ) (h : Holder) (d : Duty) (ds : List Duty) : Type 0 where
  pub duty : Duty
  pub others : List Duty
  pub owed : h.duties ≡ duty ∷ others
  pub is_duty : slot_duty slot_of duty ≡ d
  pub are_others : slot_duties slot_of others ≡ ds

pub owes_first : (slot_of : ℕ → ℕ) (h : Holder) (d : Duty) (ds : List Duty) → slot_duties slot_of h.duties ≡ d ∷ ds
    → OwesFirst slot_of h d ds
owes_first slot_of h d ds e = go h.duties refl e
  where
    go : (xs : List Duty) → h.duties ≡ xs → slot_duties slot_of xs ≡ d ∷ ds → OwesFirst slot_of h d ds
    go [] q e = cc
    go (x ∷ xs) q e = record { duty = x; others = xs; owed = q; is_duty = head e; are_others = tail e }
      where
        head : slot_duty slot_of x ∷ slot_duties slot_of xs ≡ d ∷ ds → slot_duty slot_of x ≡ d
        head e = cc

        tail : slot_duty slot_of x ∷ slot_duties slot_of xs ≡ d ∷ ds → slot_duties slot_of xs ≡ ds
        tail e = cc

pub past_owes : (code : Code) (slot_of : ℕ → ℕ) (addresses : List ℕ) (frames : List TacFrame) (h : Holder) (c : FramesRec) (d : Duty) (ds : List Duty)
    → IsPast code slot_of addresses frames h c → c.holder.duties ≡ d ∷ ds → ⊥
past_owes code slot_of addresses frames h c d ds p e =
    clash (sym (ap (λ (k : Holder). k.duties) p.shown.holder ∙ ap (slot_duties slot_of) p.owes_nothing) ∙ e)
  where
    clash : [] ≡ d ∷ ds → ⊥
    clash e = cc

pub end_law : StakeEndLaw
end_law x d ds p k owed e = go f.fits
  where
    f : RecordFits x.code x.slot_of x.addresses x.s x.g x.c
    f = x.all.each x.g x.c x.is_c

    go : IsShown x.code x.slot_of x.addresses f.frames f.h x.c ⊎ IsPast x.code x.slot_of x.addresses f.frames f.h x.c
        → StakesChange x stake_ended p one_fewer (slice_set x.records x.g (record x.c { holder = k }))
    go (inl shown) =
        let y = owes_first x.slot_of f.h d ds (ap (λ (z : Holder). z.duties) (sym shown.holder) ∙ owed) in
        ends x.code x.page_words x.slot_of x.addresses x.s x.sound.good x.records x.all x.g x.c x.is_c f.frames f.h f.at f.there
        shown y.duty y.others y.owed p k
        ((λ i. stake_ended (record (sym shown.holder i) { duties = y.are_others i }) (y.is_duty i)) ∙ e)
    go (inr past) = absurd (past_owes x.code x.slot_of x.addresses f.frames f.h x.c d ds past owed)

pub share_law : ShareLaw
share_law x d ds p k owed e = go f.fits
  where
    f : RecordFits x.code x.slot_of x.addresses x.s x.g x.c
    f = x.all.each x.g x.c x.is_c

    go : IsShown x.code x.slot_of x.addresses f.frames f.h x.c ⊎ IsPast x.code x.slot_of x.addresses f.frames f.h x.c
        → StakesChange x stake_shared p with_added_stake (slice_set x.records x.g (record x.c { holder = k }))
    go (inl shown) =
        let y = owes_first x.slot_of f.h d ds (ap (λ (z : Holder). z.duties) (sym shown.holder) ∙ owed) in
        shares x.code x.page_words x.slot_of x.addresses x.s x.sound.good x.records x.all x.g x.c x.is_c f.frames f.h f.at f.there
        shown y.duty y.others y.owed p k
        ((λ i. stake_shared (record (sym shown.holder i) { duties = y.are_others i }) (y.is_duty i)) ∙ e)
    go (inr past) = absurd (past_owes x.code x.slot_of x.addresses f.frames f.h x.c d ds past owed)
