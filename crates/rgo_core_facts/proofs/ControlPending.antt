-- The stakes that a goroutine has taken for a child: each is in a region to which a name of the newest frame is bound.
use Rattle.std.proofs.Common.{◌≡◌, ◌≢◌, ◌∙◌, ◌<◌, ◌+◌, ℕ, suc, Bool, true, false, List, [], ◌∷◌, map, Option, Some, None, if◌then◌else◌, nat_eq, refl, sym, ap, arith}
use Rattle.std.specs.List.{list_any}
use Rattle.rgo_sound.specs.RegionMachine.Regions.{Bindings, bound, same_region, unbind, removed_once}
use Rattle.rgo_sound.specs.RegionMachine.States.{Create, Duty, EndBase, Protect, Remove, Share, Unprotect}
use Rattle.rgo_sound.specs.RegionMachine.declared.regions.Region.{Region}
use Rattle.rgo_sound.specs.RegionMachine.declared.regions.Region.TheVariants.{Global as GlobalRegion, Numbered}
use Rattle.rgo_sound.proofs.names.Core.{bound_unbind, bound_unbind_other}
use Rattle.rgo_sound.proofs.duties.Moves.{same_regions}
use Rattle.rgo_sound.proofs.names.Pending.{at_most_one_some}
use Rattle.rgo_sound.proofs.Tests.{eq_of, split}
use Rattle.rgo_sound.specs.Invariant.{IsReady, Shares, bound_times, same_bound, with_pending}
use Rattle.rgo_sound.specs.Stakes.{one_when, times_in}

-- a name is bound to region p
abbrev pub IsBoundTo : Bindings → ℕ → Type 0
IsBoundTo names p = (k : ℕ) × (bound names k ≡ Some (Numbered p))

pub some_region : (o : Option Region) → o ≢ None → (r : Region) × (o ≡ Some r)
some_region None n = absurd (n refl)
some_region (Some r) n = (r, refl)

bound_among : (p : ℕ) (names : Bindings) (ks : List ℕ) → 0 < bound_times (Numbered p) names ks → IsBoundTo names p
bound_among p names [] l = absurd (omega (arith, l))
bound_among p names (k ∷ ks) l = go (bound names k) refl l (bound_among p names ks)
  where
    go : (o : Option Region) → bound names k ≡ o → 0 < one_when (same_bound (Numbered p) o) + bound_times (Numbered p) names ks
        → (0 < bound_times (Numbered p) names ks → IsBoundTo names p) → IsBoundTo names p
    go None e l next = next (omega (arith, l))
    go (Some s) e l next = split (same_region (Numbered p) s)
        (λ t. (k, e ∙ ap Some (sym (same_regions (Numbered p) s t))))
        (λ n. next (let o : one_when (same_region (Numbered p) s) ≡ 0 = ap one_when n in omega (arith, l, o)))

-- a name that is bound without another one
bound_without : (names : Bindings) (j p : ℕ) → IsBoundTo (unbind names j) p → IsBoundTo names p
bound_without names j p (k, e) = split (nat_eq j k)
    (λ t. absurd (none (sym (ap (bound (unbind names j)) (sym (eq_of j k t)) ∙ bound_unbind names j) ∙ e)))
    (λ n. (k, sym (bound_unbind_other names j k n) ∙ e))
  where
    none : None ≡ Some (Numbered p) → ⊥
    none q = cc

-- a name that is bound with a new one for another region
bound_beside : (names : Bindings) (j p : ℕ) → IsBoundTo ((j, Numbered (suc p)) ∷ unbind names j) p → IsBoundTo names p
bound_beside names j p (k, e) = split (nat_eq j k)
    (λ t. absurd (other (sym (ap (λ b. if b then Some (Numbered (suc p)) else bound (unbind names j) k) t) ∙ e)))
    (λ n. bound_without names j p (k, sym (ap (λ b. if b then Some (Numbered (suc p)) else bound (unbind names j) k) n) ∙ e))
  where
    number : Region → ℕ
    number GlobalRegion = 0
    number (Numbered n) = n

    found : Option Region → ℕ
    found None = 0
    found (Some r) = number r

    other : Some (Numbered (suc p)) ≡ Some (Numbered p) → ⊥
    other q = let n = ap found q in omega (arith, n)

pending_stays : (r : Region) (p : ℕ) (pending : List ℕ) → 0 < times_in p pending → 0 < times_in p (with_pending r pending)
pending_stays GlobalRegion p pending l = l
pending_stays (Numbered r) p pending l = go (list_any (nat_eq r) pending)
  where
    go : (b : Bool) → 0 < times_in p (if b then pending else r ∷ pending)
    go true = l
    go false = omega (arith, l)

pub pending_bound : (Free : ℕ → Type 0) (Then : Bindings → List Region → Type 0) (ks : List ℕ) (p : ℕ) (ds : List Duty)
    (names : Bindings) (protections : List Region) (pending : List ℕ) → IsReady Free Then ds names protections
    → Shares ks ds names pending → 0 < times_in p pending → IsBoundTo names p
pending_bound Free Then ks p [] names protections pending ready shares l =
    let e = shares p in
    bound_among p names ks
    (let n = at_most_one_some (bound_times (Numbered p) names ks) (let m = e in omega (arith, l, m)) in omega (arith, n))
pending_bound Free Then ks p (Create k ∷ ds) names protections pending ready shares l =
    bound_beside names k p (pending_bound Free Then ks p ds ((k, Numbered (suc p)) ∷ unbind names k) protections pending
    (ready.2 (suc p)) (shares (suc p)) l)
pending_bound Free Then ks p (Remove k ∷ ds) names protections pending ready shares l =
    bound_without names k p (pending_bound Free Then ks p ds (unbind names k) protections pending ready.3 shares l)
pending_bound Free Then ks p (Share k ∷ ds) names protections pending ready shares l =
    let r = some_region (bound names k) ready.0 in
    pending_bound Free Then ks p ds names protections (with_pending r.0 pending) ready.1 (shares r.0 r.1)
    (pending_stays r.0 p pending l)
pending_bound Free Then ks p (Protect k ∷ ds) names protections pending ready shares l =
    let r = some_region (bound names k) ready.0 in
    pending_bound Free Then ks p ds names (r.0 ∷ protections) pending (ready.1 r.0 r.1) shares l
pending_bound Free Then ks p (Unprotect k ∷ ds) names protections pending ready shares l =
    let r = some_region (bound names k) ready.0 in
    pending_bound Free Then ks p ds names (removed_once r.0 protections) pending (ready.1 r.0 r.1) shares l
pending_bound Free Then ks p (EndBase r ∷ ds) names protections pending ready shares l = absurd ready

-- a goroutine that has returned has none
pub none_pending_at_end : (base : List Region) (p : ℕ) (pending : List ℕ) → Shares [] (map EndBase base) [] pending
    → times_in p pending ≡ 0
none_pending_at_end [] p pending shares = shares p
none_pending_at_end (r ∷ base) p pending shares = none_pending_at_end base p pending shares
