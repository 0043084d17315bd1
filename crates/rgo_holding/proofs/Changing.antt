-- What each operation on one entry does to what a goroutine has. Each operation changes one field of one entry, and one part of what is
-- shown. No other entry has the slot, so all other parts stay.
use Rattle.std.proofs.Common.{◌≡◌, ◌≢◌, ◌<◌, ◌+◌, ◌-◌, ℕ, Bool, true, false, ◌||◌, List, ◌∷◌, Option, Some, None, Vec, Global, ap, arith, if◌then◌else◌, length, map, nat_eq, nat_lt, option_map, refl, reverse, slice_set, subst, sym, ◌∙◌}
use Rattle.std.specs.List.{list_any}
use Rattle.rgo_core_memory.specs.Records.{Fill, dropped, page_of, raised}
use Rattle.rgo_sound.specs.RegionMachine.Duties.{guards, unprotected, with_protection, without_protection}
use Rattle.rgo_sound.specs.RegionMachine.States.{Holder}
use Rattle.rgo_sound.specs.RegionMachine.declared.regions.Region.{Region}
use Rattle.rgo_sound.specs.RegionMachine.declared.regions.Region.TheVariants.{Numbered}
use Rattle.rgo_sound.specs.RegionMachine.Regions.{same_region}
use Rattle.rgo_sound.proofs.Tests.{nat_eq_refl, ne_of}
use Rattle.rgo_sound.specs.Stakes.{one_when}
use Rattle.rgo_holding.specs.declared.entries.Entry.{Entry}
use Rattle.rgo_holding.specs.declared.entries.Page.{Page}
use Rattle.rgo_holding.specs.declared.holding.Holding.{Holding}
use Rattle.rgo_holding.specs.declared.keys.Key.{Key}
use Rattle.rgo_holding.specs.Changes.{IsProtectedLast, protecting, sharing_stake}
use Rattle.rgo_holding.specs.Holds.{IsHoldingOf, entry_at, region_of_key}
use Rattle.rgo_holding.specs.Known.{entry_region, own_page, protections_of, region_of, slot_or_global}
use Rattle.rgo_holding.proofs.CountLemmas.{base_protections, filled, guarded, one_other, one_same, page_dropped, page_filled, page_raised, protected_fewer, protected_more, region_slot, unraised}
use Rattle.rgo_holding.proofs.HoldLemmas.{entry_changed, protecting_length, protecting_names, unprotecting_length, unprotecting_names}

the_same : {A : Type 0} (x y : A) → Some x ≡ Some y → x ≡ y
the_same x y e = cc

-- the entry of a key of this region
pub region_entry : (k : Holding) (key : Key) (e : Entry) (r : Region) → entry_at k key ≡ Some e → region_of_key k key ≡ Some r
    → region_of k.slots e.slot ≡ r
region_entry k key e r at is = the_same _ r (sym (ap (option_map (entry_region k.slots)) at) ∙ is)

-- and its slot
pub slot_entry : (k : Holding) (key : Key) (e : Entry) (r : Region) → entry_at k key ≡ Some e → region_of_key k key ≡ Some r
    → e.slot ≡ slot_or_global k.slots r
slot_entry k key e r at is = sym (region_slot k.slots e.slot) ∙ ap (slot_or_global k.slots) (region_entry k key e r at is)

module _ (k : Holding) (key : Key) (e : Entry) (v : Vec Entry Global) (at : entry_at k key ≡ Some e) (slots : ℕ) (h : Holder)
    (fills : List Fill) (shows : IsHoldingOf slots k h fills) where
  abbrev q : ℕ → Region
  q s = region_of k.slots s

  -- ---- protections

  module _ (n : ℕ) (used : e.used ≡ true)
      (is : v.items ≡ slice_set k.entries.items key.0 (record e { protections = n })) (r : Region)
      (region : region_of_key k key ≡ Some r) where
    pub protect_shows : n ≡ e.protections + 1 → 0 < length h.environments
        → IsHoldingOf slots (record k { entries = v }) (protecting h r) fills
    protect_shows more some =
        let same = region_entry k key e r at region in
        let es = with_protection h.environments r in
        let one : one_when (same_region (q e.slot) r) ≡ 1 = ap (λ x. one_when (same_region x r)) same ∙ one_same r in
        let here = protected_more (q e.slot) r h.environments h.base some in
        let was = shows.counted key e at in
        entry_changed k key e (record e { protections = n }) v at refl used is slots h.environments h.base h.pending
        h.stakes fills shows es h.base k.base h.pending fills (protecting_length r h.environments)
        (protecting_names (region_of_key k) r h.environments k shows.names) shows.base_is (omega (arith, more, one, here, was))
        (λ s n.
        let none : one_when (same_region (q s) r) ≡ 0 = ap (λ x. one_when (same_region (q s) x)) (sym same) ∙ one_other k.slots s e.slot n in
        let there = protected_more (q s) r h.environments h.base some in
        omega (arith, none, there))
        (shows.pages key e at) (λ s n. refl) (shows.pending_are.shared key e at) (shows.pending_are.rounds key e at) (λ s n. refl)

    pub unprotect_shows : n ≡ e.protections - 1 → IsProtectedLast h r
        → IsHoldingOf slots (record k { entries = v }) (unprotected h r) fills
    unprotect_shows fewer last =
        let same = region_entry k key e r at region in
        let es = without_protection h.environments r in
        let one : one_when (same_region (q e.slot) r) ≡ 1 = ap (λ x. one_when (same_region x r)) same ∙ one_same r in
        let here = protected_fewer (q e.slot) r h.environments h.base last in
        let was = shows.counted key e at in
        entry_changed k key e (record e { protections = n }) v at refl used is slots h.environments h.base h.pending
        h.stakes fills shows es h.base k.base h.pending fills (unprotecting_length r h.environments)
        (unprotecting_names (region_of_key k) r h.environments k shows.names) shows.base_is (omega (arith, fewer, one, here, was))
        (λ s n.
        let none : one_when (same_region (q s) r) ≡ 0 = ap (λ x. one_when (same_region (q s) x)) (sym same) ∙ one_other k.slots s e.slot n in
        let there = protected_fewer (q s) r h.environments h.base last in
        omega (arith, none, there))
        (shows.pages key e at) (λ s n. refl) (shows.pending_are.shared key e at) (shows.pending_are.rounds key e at) (λ s n. refl)

    -- the first of the base ends
    pub end_shows : n ≡ e.protections - 1 → (rest : List Region) (bases : Vec Key Global) → h.base ≡ r ∷ rest
        → map (region_of_key k) (reverse bases.items) ≡ map Some rest
        → IsHoldingOf slots (record k { entries = v; base = bases }) (record h { base = rest }) fills
    end_shows fewer rest bases first others =
        let same = region_entry k key e r at region in
        let one : one_when (same_region (q e.slot) r) ≡ 1 = ap (λ x. one_when (same_region x r)) same ∙ one_same r in
        let here = ap (protections_of (q e.slot) h.environments) first ∙ base_protections (q e.slot) r h.environments rest in
        let was = shows.counted key e at in
        entry_changed k key e (record e { protections = n }) v at refl used is slots h.environments h.base h.pending
        h.stakes fills shows h.environments rest bases h.pending fills refl shows.names others (omega (arith, fewer, one, here, was))
        (λ s n.
        let none : one_when (same_region (q s) r) ≡ 0 = ap (λ x. one_when (same_region (q s) x)) (sym same) ∙ one_other k.slots s e.slot n in
        let there = ap (protections_of (q s) h.environments) first ∙ base_protections (q s) r h.environments rest in
        omega (arith, none, there))
        (shows.pages key e at) (λ s n. refl) (shows.pending_are.shared key e at) (shows.pending_are.rounds key e at) (λ s n. refl)

  -- ---- stakes

  pub share_shows : (used : e.used ≡ true) → v.items ≡ slice_set k.entries.items key.0 (record e { shared = k.round })
      → (p : ℕ) → region_of_key k key ≡ Some (Numbered p) → IsHoldingOf slots (record k { entries = v }) (sharing_stake h p) fills
  share_shows used is p region =
      let slot = slot_entry k key e (Numbered p) at region in
      entry_changed k key e (record e { shared = k.round }) v at refl used is slots h.environments h.base h.pending h.stakes
      fills shows h.environments h.base k.base (p ∷ h.pending) fills refl shows.names shows.base_is (shows.counted key e at)
      (λ s n. refl) (shows.pages key e at) (λ s n. refl)
      (λ other. nat_eq_refl k.round ∙ sym (ap (λ b. b || list_any (nat_eq e.slot) h.pending)
      (ap (nat_eq e.slot) (sym slot) ∙ nat_eq_refl e.slot)))
      (omega arith)
      (λ s n. ap (λ b. b || list_any (nat_eq s) h.pending) (ne_of s p (λ e. n (e ∙ sym slot))))

  -- ---- own pages

  module _ (page : Option Page) (used : e.used ≡ true)
      (is : v.items ≡ slice_set k.entries.items key.0 (record e { page = page })) where
    pub page_shows : (filleds : List Fill) → option_map (own_page e.slot) page ≡ page_of e.slot filleds
        → ((s : ℕ) → s ≢ e.slot → page_of s filleds ≡ page_of s fills) → IsHoldingOf slots (record k { entries = v }) h filleds
    page_shows filleds here others =
        entry_changed k key e (record e { page = page }) v at refl used is slots h.environments h.base h.pending h.stakes
        fills shows h.environments h.base k.base h.pending filleds refl shows.names shows.base_is (shows.counted key e at)
        (λ s n. refl) here others (shows.pending_are.shared key e at) (shows.pending_are.rounds key e at) (λ s n. refl)

  pub claim_shows : (page : ℕ) → e.used ≡ true
      → v.items ≡ slice_set k.entries.items key.0 (record e { page = Some (record { page = page; fill = 0 }) }) → (r : Region)
      → region_of_key k key ≡ Some r → IsHoldingOf slots (record k { entries = v }) h
      (record { slot = slot_or_global slots r; page = page; fill = 0 } ∷ dropped (slot_or_global slots r) fills)
  claim_shows page used is r region =
      let slot : e.slot ≡ slot_or_global slots r = slot_entry k key e r at region ∙ ap (λ s. slot_or_global s r) shows.slots_are in
      subst (λ s. IsHoldingOf slots (record k { entries = v }) h (record { slot = s; page = page; fill = 0 } ∷ dropped s fills)) slot
      (page_shows (Some (record { page = page; fill = 0 })) used is (record { slot = e.slot; page = page; fill = 0 } ∷ dropped e.slot fills)
      (sym (ap (λ b. if b then Some (record { slot = e.slot; page = page; fill = 0 }) else page_of e.slot (dropped e.slot fills))
      (nat_eq_refl e.slot)))
      (λ s n. ap (λ b. if b then Some (record { slot = e.slot; page = page; fill = 0 }) else page_of s (dropped e.slot fills))
      (ne_of s e.slot n) ∙ page_dropped s e.slot fills (ne_of e.slot s (λ x. n (sym x)))))

  pub fill_shows : (page : Page) (words : ℕ) → e.used ≡ true → e.page ≡ Some page
      → v.items ≡ slice_set k.entries.items key.0 (record e { page = Some (record { page = page.page; fill = words }) }) → (r : Region)
      → region_of_key k key ≡ Some r → IsHoldingOf slots (record k { entries = v }) h (raised (slot_or_global slots r) words fills)
  fill_shows page words used there is r region =
      let slot : e.slot ≡ slot_or_global slots r = slot_entry k key e r at region ∙ ap (λ s. slot_or_global s r) shows.slots_are in
      subst (λ s. IsHoldingOf slots (record k { entries = v }) h (raised s words fills)) slot
      (page_shows (Some (record { page = page.page; fill = words })) used is (raised e.slot words fills)
      (ap (λ o. option_map (filled words) (option_map (own_page e.slot) o)) (sym there)
      ∙ ap (option_map (filled words)) (shows.pages key e at) ∙ sym (page_filled e.slot words fills))
      (λ s n. page_raised s e.slot words fills (ne_of e.slot s (λ x. n (sym x)))))

  -- without an own page nothing is filled
  pub no_fill_shows : (words : ℕ) → e.page ≡ None → (r : Region) → region_of_key k key ≡ Some r
      → IsHoldingOf slots k h (raised (slot_or_global slots r) words fills)
  no_fill_shows words none r region =
      let slot : e.slot ≡ slot_or_global slots r = slot_entry k key e r at region ∙ ap (λ s. slot_or_global s r) shows.slots_are in
      let gone : page_of (slot_or_global slots r) fills ≡ None =
      ap (λ s. page_of s fills) (sym slot) ∙ sym (shows.pages key e at) ∙ ap (option_map (own_page e.slot)) none in
      subst (λ fs. IsHoldingOf slots k h fs) (sym (unraised (slot_or_global slots r) words fills gone)) shows

-- the first of the base is protected otherwise, too, if it has more than one protection
pub beyond_base : (k : Holding) (key : Key) (e : Entry) (slots : ℕ) (h : Holder) (fills : List Fill) (r : Region)
    (rest : List Region) → entry_at k key ≡ Some e → IsHoldingOf slots k h fills → region_of_key k key ≡ Some r → h.base ≡ r ∷ rest
    → nat_lt 1 e.protections ≡ guards rest h.environments r
beyond_base k key e slots h fills r rest at shows region first =
    more e.protections (protections_of r h.environments rest) count ∙ guarded rest h.environments r
  where
    more : (m n : ℕ) → m ≡ n + 1 → nat_lt 1 m ≡ nat_lt 0 n
    more m n e = ap (nat_lt 1) e ∙ go (nat_lt 0 n) refl
      where
        go : (b : Bool) → nat_lt 0 n ≡ b → nat_lt 1 (n + 1) ≡ b
        go true t = grind arith
        go false f = grind arith

    count : e.protections ≡ protections_of r h.environments rest + 1
    count =
        let a = shows.counted key e at ∙ ap (λ q. protections_of q h.environments h.base) (region_entry k key e r at region)
        ∙ ap (protections_of r h.environments) first ∙ base_protections r r h.environments rest in
        let b = one_same r in
        omega (arith, a, b)
