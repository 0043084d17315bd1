-- Duties that change the count of a region, by what they do to a holder. The laws of frames name the region, and memory's premises are read
-- off the same duty.
use Rattle.std.proofs.Common.{◌≡◌, ◌≢◌, inl, inr, ℕ, Bool, true, false, List, ◌∷◌, Option, Some, None, nat_eq, if◌then◌else◌, slice_get, refl, ap, subst, ◌∙◌, arith}
use Rattle.std.proofs.lemmas.Bool.Decides.{nat_tests}
use Rattle.std.proofs.lemmas.Option.{same_Some}
use Rattle.std.specs.List.{list_any}
use Rattle.rgo_sound.specs.Code.Code.{Code}
use Rattle.rgo_sound.specs.RegionMachine.Duties.{guards}
use Rattle.rgo_sound.specs.RegionMachine.Machine.{Attend}
use Rattle.rgo_sound.specs.RegionMachine.Regions.{RegionInfo, bound, removed_once, unbind, without}
use Rattle.rgo_sound.specs.RegionMachine.States.{Create, Duty, EndBase, Holder, Protect, RegionState, Remove, Share, Unprotect, top_names, with_top}
use Rattle.rgo_sound.specs.RegionMachine.declared.regions.Region.{Region}
use Rattle.rgo_sound.specs.RegionMachine.declared.regions.Region.TheVariants.{Global as GlobalRegion, Numbered}
use Rattle.rgo_sound.specs.Tally.{no_share, share_of, share_of_duty, share_of_first, share_of_holder, share_of_last, share_of_named, share_of_removal}
use Rattle.rgo_core_frames.specs.regions.Stakes.{ended, shared_in, stake_ended, stake_shared}
use Rattle.rgo_core_frames.proofs.steps.LocalActs.{chained}
use Rattle.rgo_core_memory.specs.Events.{Leaves}

first_is : {A B : Type 0} (a b : A) (c d : B) → ◌≡◌ {A = Option (A × B)} (Some (a, c)) (Some (b, d)) → a ≡ b
first_is {A} {B} a b c d e = ap (λ (p : A × B). p.0) (same_Some {A = A × B} (a, c) (b, d) e)

-- one of these, unless it is true
abbrev unless : Bool → ℕ × Holder → Option (ℕ × Holder)
unless b y = if b then None else Some y

-- ---- the end of a stake

ended_is : (h : Holder) (r : Region) (j : ℕ) (k : Holder) → ended h r ≡ Some (j, k)
    → (r ≡ Numbered j) × (guards h.base h.environments (Numbered j) ≡ false)
ended_is h GlobalRegion j k e = cc
ended_is h (Numbered q) j k e = by (guards h.base h.environments (Numbered q)) refl e
  where
    by : (b : Bool) → guards h.base h.environments (Numbered q) ≡ b
        → unless b (q, record h { stakes = without q h.stakes }) ≡ Some (j, k)
        → (Numbered q ≡ Numbered j) × (guards h.base h.environments (Numbered j) ≡ false)
    by true w e = cc
    by false w e =
        let same : q ≡ j = first_is q j (record h { stakes = without q h.stakes }) k e in
        (ap Numbered same, subst (λ n. guards h.base h.environments (Numbered n) ≡ false) same w)

removal_share : (s : RegionState) (h : Holder) (j : ℕ) → guards h.base h.environments (Numbered j) ≡ false
    → share_of_removal s h (Numbered j) ≡ share_of_last (slice_get s.regions j)
removal_share s h j e = ap (λ (b : Bool). if b then no_share else share_of_last (slice_get s.regions j)) e

-- the duty ends the stake, and the region is counted as removed if it was the last
pub record EndsStake (s : RegionState) (h : Holder) (duty : Duty) (others : List Duty) (j : ℕ) : Type 0 where
  pub leaves : Leaves h j
  pub share : share_of_duty s (record h { duties = others }) duty ≡ share_of_last (slice_get s.regions j)

pub ends_stake : (s : RegionState) (h : Holder) (duty : Duty) (others : List Duty) (j : ℕ) (k : Holder) → h.duties ≡ duty ∷ others
    → stake_ended (record h { duties = others }) duty ≡ Some (j, k) → EndsStake s h duty others j
ends_stake s h (Create n) others j k owed e = cc
ends_stake s h (Share n) others j k owed e = cc
ends_stake s h (Protect n) others j k owed e = cc
ends_stake s h (Unprotect n) others j k owed e = cc
ends_stake s h (Remove n) others j k owed e =
    let after : Holder = record h { duties = others; environments = with_top h.environments (unbind (top_names h.environments) n) } in
    let x = chained (ended after) (bound (top_names h.environments) n) (j, k) e in
    let y = ended_is after x.0 j k x.2 in
    let named = x.1 ∙ ap Some y.0 in
    record {
      leaves = inl (n, others, owed, named, y.1);
      share = ap (share_of_named s after) named ∙ removal_share s after j y.1;
    }
ends_stake s h (EndBase r) others j k owed e =
    let y = ended_is (record h { duties = others; base = removed_once r h.base }) r j k e in
    record {
      leaves = inr (
        others,
        owed ∙ ap (λ q. EndBase q ∷ others) y.0,
        subst (λ q. guards (removed_once q h.base) h.environments (Numbered j) ≡ false) y.0 y.1,
      );
      share = ap (share_of_removal s (record h { duties = others; base = removed_once r h.base })) y.0
          ∙ removal_share s (record h { duties = others; base = removed_once r h.base }) j y.1;
    }

-- what a step counts, by the duty that comes first
pub share_is : (code : Code) (s : RegionState) (g : ℕ) (h : Holder) (duty : Duty) (others : List Duty) → slice_get s.holders g ≡ Some h
    → h.duties ≡ duty ∷ others → share_of code s (Attend g) ≡ share_of_duty s (record h { duties = others }) duty
share_is code s g h duty others there owed = ap (share_of_holder s) there ∙ ap (share_of_first s h) owed

pub share_kept : (regions : List RegionInfo) (j : ℕ) (info : RegionInfo) → slice_get regions j ≡ Some info → info.stakes ≢ 1
    → share_of_last (slice_get regions j) ≡ no_share
share_kept regions j info e n =
    ap share_of_last e ∙ ap (λ (b : Bool). if b then record no_share { removed = 1; returned = info.pages } else no_share) (other info.stakes n)
  where
    other : (m : ℕ) → m ≢ 1 → nat_eq m 1 ≡ false
    other m n = grind (arith, nat_tests)

pub share_last : (regions : List RegionInfo) (j : ℕ) (info : RegionInfo) → slice_get regions j ≡ Some info → info.stakes ≡ 1
    → share_of_last (slice_get regions j) ≡ record no_share { removed = 1; returned = info.pages }
share_last regions j info e n =
    ap share_of_last e ∙ ap (λ (b : Bool). if b then record no_share { removed = 1; returned = info.pages } else no_share) (same info.stakes n)
  where
    same : (m : ℕ) → m ≡ 1 → nat_eq m 1 ≡ true
    same m n = grind (arith, nat_tests)

-- ---- a stake for a coming child

shared_is : (h : Holder) (r : Region) (j : ℕ) (k : Holder) → shared_in h r ≡ Some (j, k)
    → (r ≡ Numbered j) × (list_any (nat_eq j) h.pending ≡ false)
shared_is h GlobalRegion j k e = cc
shared_is h (Numbered q) j k e = by (list_any (nat_eq q) h.pending) refl e
  where
    by : (b : Bool) → list_any (nat_eq q) h.pending ≡ b
        → unless b (q, record h { pending = q ∷ h.pending }) ≡ Some (j, k)
        → (Numbered q ≡ Numbered j) × (list_any (nat_eq j) h.pending ≡ false)
    by true w e = cc
    by false w e =
        let same : q ≡ j = first_is q j (record h { pending = q ∷ h.pending }) k e in
        (ap Numbered same, subst (λ n. list_any (nat_eq n) h.pending ≡ false) same w)

-- the duty shares this region
pub record SharesStake (s : RegionState) (h : Holder) (duty : Duty) (others : List Duty) (j : ℕ) : Type 0 where
  pub name : ℕ
  pub owed : h.duties ≡ Share name ∷ others
  pub named : bound (top_names h.environments) name ≡ Some (Numbered j)
  pub fresh : list_any (nat_eq j) h.pending ≡ false
  pub share : share_of_duty s (record h { duties = others }) duty ≡ no_share

pub shares_stake : (s : RegionState) (h : Holder) (duty : Duty) (others : List Duty) (j : ℕ) (k : Holder) → h.duties ≡ duty ∷ others
    → stake_shared (record h { duties = others }) duty ≡ Some (j, k) → SharesStake s h duty others j
shares_stake s h (Create n) others j k owed e = cc
shares_stake s h (Protect n) others j k owed e = cc
shares_stake s h (Unprotect n) others j k owed e = cc
shares_stake s h (Remove n) others j k owed e = cc
shares_stake s h (EndBase r) others j k owed e = cc
shares_stake s h (Share n) others j k owed e =
    let x = chained (shared_in (record h { duties = others })) (bound (top_names h.environments) n) (j, k) e in
    let y = shared_is (record h { duties = others }) x.0 j k x.2 in
    record { name = n; owed = owed; named = x.1 ∙ ap Some y.0; fresh = y.1; share = refl }

-- ---- live regions
