-- The duties of a goroutine that touch no word: duty by duty. A name leads to a slot exactly if it leads to a region of that slot.
use Rattle.std.proofs.Common.{◌≡◌, ℕ, ◌<◌, ◌||◌, Bool, true, false, List, [], ◌∷◌, map, Option, Some, None, refl, sym, ap, ◌∙◌, subst}
use Rattle.std.proofs.Common.{slice_get, nat_eq, arith, if◌then◌else◌, option_map, option_and_then}
use Rattle.std.proofs.lemmas.Option.{same_Some}
use Rattle.std.specs.List.{list_any}
use Rattle.rgo_sound.specs.Code.Code.{Code}
use Rattle.rgo_sound.specs.RegionMachine.declared.regions.Region.{Region}
use Rattle.rgo_sound.specs.RegionMachine.declared.regions.Region.TheVariants.{Global as GlobalRegion, Numbered}
use Rattle.rgo_sound.specs.RegionMachine.Duties.{attend, attended, duty_done, guards, may_go, protected, removal, shared, unprotected, with_protection, without_protection}
use Rattle.rgo_sound.specs.RegionMachine.Machine.{Attend, region_step}
use Rattle.rgo_sound.specs.RegionMachine.Regions.{Bindings, bound, is_live, one_fewer, with_added_stake, removed_once, unbind, with_info, without}
use Rattle.rgo_sound.specs.RegionMachine.States.{Create, Duty, EndBase, RegionEnvironment, Holder, Offer, Protect, RegionState, Remove, Share, Unprotect, top_names, with_top}
use Rattle.rgo_sound.proofs.names.Stakes.{duty_staked}
use Rattle.rgo_sound.proofs.Tests.{nat_eq_refl}
use Rattle.rgo_sound.specs.Invariant.{Fine}
use Rattle.rgo_sound.specs.NextNames.{DutyNames}
use Rattle.rgo_sound.specs.Stakes.{one_when, times_in}
use Rattle.rgo_core_frames.specs.Fits.{SlotsDiffer}
use Rattle.rgo_core_frames.specs.steps.Local.{local_duty, not_removed, not_shared}
use Rattle.rgo_core_frames.specs.regions.Slots.{slotted_region, slot_duty, slot_environments, slotted}
use Rattle.rgo_core_frames.proofs.Keeping.{base_live, pending_live, protections_live}
use Rattle.rgo_core_frames.proofs.steps.LocalActs.{chained, mapped}
use Rattle.rgo_core_frames.proofs.regions.SlotLemmas.{AllLive, ProtectionsLive, bound_slot, guards_slot, removed_live, removed_once_slot, same_slot, top_slot, unbind_slot, with_protection_slot, with_top_live, with_top_slot, without_protection_slot}
use Rattle.rgo_sound.proofs.Progress.{live_of}

-- the goroutine has another holder, and the record the same by slots
pub record Attends (slot_of : ℕ → ℕ) (s : RegionState) (g : ℕ) (done : Option RegionState) (offer : Offer) (k : Holder) : Type 0 where
  pub after : Holder
  pub does : done ≡ Some (attended s g after)
  pub same_offer : after.offer ≡ offer
  pub slots : k ≡ slotted slot_of after

module _ (code : Code) (slot_of : ℕ → ℕ) (s : RegionState) (fine : Fine code s)
    (differ : SlotsDiffer slot_of s.regions) (g : ℕ) (h : Holder) (there : slice_get s.holders g ≡ Some h)
    (d : Duty) (ds : List Duty) (owed : h.duties ≡ d ∷ ds) where
  abbrev left : Holder
  left = record h { duties = ds }

  abbrev names : Bindings
  names = top_names h.environments

  duty_live : (r : Region) → DutyNames h d r → is_live s.regions r ≡ true
  duty_live r n = live_of s h r (duty_staked code s g h d ds r fine there owed n)

  -- a name by its slot
  found : (k : ℕ) (q : Region) → bound (top_names (slot_environments slot_of h.environments)) k ≡ Some q
      → (r : Region) × (bound names k ≡ Some r) × (slotted_region slot_of r ≡ q)
  found k q e =
      mapped (slotted_region slot_of) (bound names k) q
      (sym (bound_slot slot_of names k) ∙ ap (λ (ns : Bindings). bound ns k) (sym (top_slot slot_of h.environments)) ∙ e)

  abbrev Result : Option RegionState → Holder → Type 0
  Result o k = Attends slot_of s g o h.offer k

  -- ---- removals that do nothing

  removal_alike : (after : Holder) (r : Region) → after.offer ≡ h.offer
      → is_live s.regions r ≡ true → AllLive slot_of s.regions differ after.base
      → ProtectionsLive slot_of s.regions differ after.environments → (k : Holder)
      → not_removed (slotted slot_of after) (slotted_region slot_of r) ≡ Some k → Result (removal s g after r) k
  removal_alike after GlobalRegion o l b p k e =
      record { after = after; does = refl; same_offer = o; slots = sym (same_Some (slotted slot_of after) k e) }
  removal_alike after (Numbered r) o l b p k e = go (guards after.base after.environments (Numbered r)) refl
    where
      same : guards (map (slotted_region slot_of) after.base) (slot_environments slot_of after.environments) (Numbered (slot_of r))
          ≡ guards after.base after.environments (Numbered r)
      same = guards_slot slot_of s.regions differ after.base after.environments (Numbered r) l b p

      tested : (if guards after.base after.environments (Numbered r) then Some (slotted slot_of after) else None) ≡ Some k
      tested = ap (λ t. if t then Some (slotted slot_of after) else None) (sym same) ∙ e

      go : (t : Bool) → guards after.base after.environments (Numbered r) ≡ t → Result (removal s g after (Numbered r)) k
      go true q = record {
        after = after;
        does = ap (λ t. if t then (if guards after.base after.environments (Numbered r) then Some (attended s g after) else Some (record (attended s g (record after { stakes = without r after.stakes })) { regions = with_info s.regions r one_fewer })) else None) l
            ∙ ap (λ t. if t then Some (attended s g after) else Some (record (attended s g (record after { stakes = without r after.stakes })) { regions = with_info s.regions r one_fewer })) q;
        same_offer = o;
        slots = sym (same_Some (slotted slot_of after) k (ap (λ t. if t then Some (slotted slot_of after) else None) (sym q) ∙ tested));
      }
      go false q = let z : None ≡ Some k = ap (λ t. if t then Some (slotted slot_of after) else None) (sym q) ∙ tested in cc

  -- ---- shares that do nothing

  positive_here : (q : ℕ) (rs : List ℕ) → 0 < times_in q (q ∷ rs)
  positive_here q rs = let e : one_when (nat_eq q q) ≡ 1 = ap one_when (nat_eq_refl q) in omega (arith, e)

  pub pending_slot : (r : ℕ) (rs : List ℕ) → is_live s.regions (Numbered r) ≡ true
      → ((q : ℕ) → 0 < times_in q rs → is_live s.regions (Numbered q) ≡ true)
      → list_any (nat_eq (slot_of r)) (map slot_of rs) ≡ list_any (nat_eq r) rs
  pending_slot r [] l all = refl
  pending_slot r (q ∷ rs) l all =
      λ i. same_slot slot_of s.regions differ (Numbered r) (Numbered q) l (all q (positive_here q rs)) i
      || pending_slot r rs l (λ p n. all p (omega (arith, n))) i

  abbrev more_pending : ℕ → RegionState
  more_pending r = record (attended s g (record left { pending = r ∷ left.pending })) { regions = with_info s.regions r with_added_stake }

  share_alike : (r : Region) → is_live s.regions r ≡ true → (k : Holder)
      → not_shared (slotted slot_of left) (slotted_region slot_of r) ≡ Some k → Result (shared s g left r) k
  share_alike GlobalRegion l k e =
      record { after = left; does = refl; same_offer = refl; slots = sym (same_Some (slotted slot_of left) k e) }
  share_alike (Numbered r) l k e = go (list_any (nat_eq r) h.pending) refl
    where
      tested : (if list_any (nat_eq r) h.pending then Some (slotted slot_of left) else None) ≡ Some k
      tested = ap (λ t. if t then Some (slotted slot_of left) else None)
          (sym (pending_slot r h.pending l (pending_live code s fine g h there))) ∙ e

      go : (t : Bool) → list_any (nat_eq r) h.pending ≡ t → Result (shared s g left (Numbered r)) k
      go true q = record {
        after = left;
        does = ap (λ t. if t then (if list_any (nat_eq r) h.pending then Some (attended s g left) else Some (more_pending r)) else None) l
            ∙ ap (λ t. if t then Some (attended s g left) else Some (more_pending r)) q;
        same_offer = refl;
        slots = sym (same_Some (slotted slot_of left) k (ap (λ t. if t then Some (slotted slot_of left) else None) (sym q) ∙ tested));
      }
      go false q = let z : None ≡ Some k = ap (λ t. if t then Some (slotted slot_of left) else None) (sym q) ∙ tested in cc

  -- ---- by the duty

  named_live : (e : Duty) → d ≡ e → (r : Region) → DutyNames h e r → is_live s.regions r ≡ true
  named_live e is r n = duty_live r (subst (λ x. DutyNames h x r) (sym is) n)

  -- the step of a duty that names a region
  of_named : (f : Region → Option RegionState) (k : ℕ) (r : Region) → bound names k ≡ Some r → (kept : Holder)
      → Result (f r) kept → Result (option_and_then f (bound names k)) kept
  of_named f k r e kept x = record {
    after = x.after;
    does = ap (option_and_then f) e ∙ x.does;
    same_offer = x.same_offer;
    slots = x.slots;
  }

  abbrev left_slots : Holder
  left_slots = slotted slot_of left

  abbrev slot_envs : List RegionEnvironment
  slot_envs = slot_environments slot_of h.environments

  all_protections : ProtectionsLive slot_of s.regions differ h.environments
  all_protections = protections_live code s fine g h there slot_of differ

  protect_alike : (k : ℕ) → d ≡ Protect k → (kept : Holder)
      → option_map (λ q. record left_slots { environments = with_protection slot_envs q }) (bound (top_names slot_envs) k) ≡ Some kept
      → Result (duty_done s g left (Protect k)) kept
  protect_alike k is kept e =
      let x = mapped (λ (q : Region). record left_slots { environments = with_protection slot_envs q }) (bound (top_names slot_envs) k) kept e in
      let r = found k x.0 x.1 in
      let l = named_live (Protect k) is r.0 r.1 in
      let after : Holder = record left { environments = with_protection h.environments r.0 } in
      of_named (protected s g left) k r.0 r.1 kept (record {
        after = after;
        does = ap (λ t. if t then Some (attended s g after) else None) l;
        same_offer = refl;
        slots = sym x.2 ∙ (λ i. record left_slots { environments = (ap (with_protection slot_envs) (sym r.2) ∙ with_protection_slot slot_of h.environments r.0) i });
      })

  unprotect_alike : (k : ℕ) → d ≡ Unprotect k → (kept : Holder)
      → option_map (unprotected left_slots) (bound (top_names slot_envs) k) ≡ Some kept
      → Result (duty_done s g left (Unprotect k)) kept
  unprotect_alike k is kept e =
      let x = mapped (unprotected left_slots) (bound (top_names slot_envs) k) kept e in
      let r = found k x.0 x.1 in
      let l = named_live (Unprotect k) is r.0 r.1 in
      of_named (λ r. Some (attended s g (unprotected left r))) k r.0 r.1 kept (record {
        after = unprotected left r.0;
        does = refl;
        same_offer = refl;
        slots = sym x.2 ∙ (λ i. record left_slots {
          environments = (ap (without_protection slot_envs) (sym r.2)
              ∙ without_protection_slot slot_of s.regions differ h.environments r.0 l all_protections) i;
        });
      })

  unbound : ℕ → Holder
  unbound k = record left { environments = with_top h.environments (unbind names k) }

  unbound_slots : (k : ℕ) → with_top slot_envs (unbind (top_names slot_envs) k)
      ≡ slot_environments slot_of (with_top h.environments (unbind names k))
  unbound_slots k =
      ap (λ (ns : Bindings). with_top slot_envs (unbind ns k)) (top_slot slot_of h.environments)
      ∙ ap (with_top slot_envs) (unbind_slot slot_of names k) ∙ with_top_slot slot_of h.environments (unbind names k)

  remove_alike : (k : ℕ) → d ≡ Remove k → (kept : Holder)
      → option_and_then (not_removed (record left_slots { environments = with_top slot_envs (unbind (top_names slot_envs) k) }))
      (bound (top_names slot_envs) k) ≡ Some kept → Result (duty_done s g left (Remove k)) kept
  remove_alike k is kept e =
      let x = chained (not_removed (record left_slots { environments = with_top slot_envs (unbind (top_names slot_envs) k) }))
      (bound (top_names slot_envs) k) kept e in
      let r = found k x.0 x.1 in
      let l = named_live (Remove k) is r.0 r.1 in
      let after : Holder = record left { environments = with_top h.environments (unbind names k) } in
      let p = with_top_live slot_of s.regions differ h.environments (unbind names k) all_protections in
      of_named (removal s g after) k r.0 r.1 kept
      (removal_alike after r.0 refl l (base_live code s fine g h there) p kept
      (subst (λ q. not_removed (slotted slot_of after) q ≡ Some kept) (sym r.2)
      (subst (λ (es : List RegionEnvironment). not_removed (record left_slots { environments = es }) x.0 ≡ Some kept) (unbound_slots k) x.2)))

  end_alike : (r : Region) → d ≡ EndBase r → (kept : Holder)
      → not_removed (record left_slots { base = removed_once (slotted_region slot_of r) (map (slotted_region slot_of) h.base) }) (slotted_region slot_of r) ≡ Some kept
      → Result (duty_done s g left (EndBase r)) kept
  end_alike r is kept e =
      let l = named_live (EndBase r) is r refl in
      let b : AllLive slot_of s.regions differ h.base = base_live code s fine g h there in
      let after : Holder = record left { base = removed_once r h.base } in
      removal_alike after r refl l (removed_live slot_of s.regions differ r h.base b) all_protections kept
      (subst (λ (bs : List Region). not_removed (record left_slots { base = bs }) (slotted_region slot_of r) ≡ Some kept)
      (removed_once_slot slot_of s.regions differ r h.base l b) e)

  by_duty : (e : Duty) → d ≡ e → (kept : Holder) → local_duty left_slots (slot_duty slot_of e) ≡ Some kept
      → Result (duty_done s g left e) kept
  by_duty (Create k) is kept e = cc
  by_duty (Share k) is kept e =
      let x = chained (not_shared left_slots) (bound (top_names slot_envs) k) kept e in
      let r = found k x.0 x.1 in
      of_named (shared s g left) k r.0 r.1 kept
      (share_alike r.0 (named_live (Share k) is r.0 r.1) kept
      (subst (λ q. not_shared left_slots q ≡ Some kept) (sym r.2) x.2))
  by_duty (Protect k) is kept e = protect_alike k is kept e
  by_duty (Unprotect k) is kept e = unprotect_alike k is kept e
  by_duty (Remove k) is kept e = remove_alike k is kept e
  by_duty (EndBase r) is kept e = end_alike r is kept e

  -- the machine has the step, and the record is alike after it
  pub attends_alike : may_go h.offer ≡ true → (page_words : ℕ) (kept : Holder)
      → local_duty left_slots (slot_duty slot_of d) ≡ Some kept
      → Result (region_step code page_words s (Attend g)) kept
  attends_alike free page_words kept e =
      let x = by_duty d refl kept e in
      record {
        after = x.after;
        does =
            ap (option_and_then (λ (k : Holder). attend s g k k.duties)) there
            ∙ ap (attend s g h) owed
            ∙ ap (λ t. if t then duty_done s g left d else None) free
            ∙ x.does;
        same_offer = x.same_offer;
        slots = x.slots;
      }
