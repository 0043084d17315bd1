-- A region has at most two stakes for each goroutine, so its count stays small: one of its own and one pending. The pending one is at
-- most one by induction over the duties, since a second share for the same region adds none.
use Rattle.std.proofs.Common.{◌≡◌, ◌≢◌, ℕ, zero, suc, ◌+◌, ◌≤◌, Bool, true, false, List, [], ◌∷◌, map, length, slice_index, Option, Some, None, slice_get, nat_eq, if◌then◌else◌, refl, subst, arith}
use Rattle.std.specs.List.{list_any}
use Rattle.rgo_sound.specs.Code.Code.{Code}
use Rattle.rgo_sound.specs.RegionMachine.Regions.{Bindings, RegionInfo, bound, unbind, is_live}
use Rattle.rgo_sound.specs.RegionMachine.States.{Duty, Create, Share, Protect, Unprotect, Remove, EndBase, RegionEnvironment, Holder, RegionState, frames_of, top_names}
use Rattle.rgo_sound.specs.RegionMachine.declared.regions.Region.{Region}
use Rattle.rgo_sound.specs.RegionMachine.declared.regions.Region.TheVariants.{Global as GlobalRegion, Numbered}
use Rattle.rgo_sound.specs.Good.{AllGood}
use Rattle.rgo_sound.specs.Invariant.{FramesFit, GoodHolder, IsReady, Shares, at_most_one, bound_times, to_share, with_pending}
use Rattle.rgo_sound.specs.Stakes.{is_in, one_when, times_in, total}
use Rattle.rgo_sound.specs.Tac.Frames.{TacFrame}
use Rattle.rgo_core_memory.specs.declared.layout.TableSizes.{TableSizes}
use Rattle.rgo_core_memory.specs.Words.{count_at}
use Rattle.rgo_core_memory.specs.Records.{Rec}
use Rattle.rgo_core_memory.specs.Ground.{ground_of}
use Rattle.rgo_core_memory.specs.Image.{Where, StateImage}
use Rattle.rgo_core_memory.proofs.regions.Sharing.{found}
use Rattle.rgo_core_memory.proofs.regions.Slots.{live_info}

one_small : (b : Bool) → one_when b ≤ 1
one_small true = omega arith
one_small false = omega arith

once_small : (n : ℕ) → at_most_one n ≤ 1
once_small zero = omega arith
once_small (suc n) = omega arith

total_small : (f : Holder → ℕ) (hs : List Holder) → ((g : ℕ) (h : Holder) → slice_get hs g ≡ Some h → f h ≤ 1) → total f hs ≤ length hs
total_small f [] each = omega arith
total_small f (h ∷ hs) each = let a = each 0 h refl in let b = total_small f hs (λ g k e. each (suc g) k e) in omega (arith, a, b)

-- a share takes no stake away
with_more : (r : ℕ) (q : Region) (pending : List ℕ) → times_in r pending ≤ times_in r (with_pending q pending)
with_more r GlobalRegion pending = omega arith
with_more r (Numbered j) pending = go (list_any (nat_eq j) pending)
  where
    go : (b : Bool) → times_in r pending ≤ times_in r (if b then pending else j ∷ pending)
    go true = omega arith
    go false = omega arith

some_bound : (o : Option Region) → o ≢ None → (r : Region) × (o ≡ Some r)
some_bound None n = absurd (n refl)
some_bound (Some r) n = (r, refl)

module _ (Free : ℕ → Type 0) (Then : Bindings → List Region → Type 0) (ks : List ℕ) (r : ℕ) where
  ready_once : (ds : List Duty) (names : Bindings) (protections : List Region) (pending : List ℕ) → IsReady Free Then ds names protections
      → Shares ks ds names pending
      → times_in r pending ≤ 1
  ready_once [] names protections pending a s = let e = s r in let m = once_small (bound_times (Numbered r) names ks) in omega (arith, e, m)
  ready_once (Create k ∷ ds) names protections pending a s = ready_once ds ((k, Numbered 0) ∷ unbind names k) protections pending (a.2 0) (s 0)
  ready_once (Remove k ∷ ds) names protections pending a s = ready_once ds (unbind names k) protections pending a.3 s
  ready_once (Share k ∷ ds) names protections pending a s =
      let q = some_bound (bound names k) a.0 in
      let next = ready_once ds names protections (with_pending q.0 pending) a.1 (s q.0 q.1) in
      let m = with_more r q.0 pending in omega (arith, next, m)
  ready_once (Protect k ∷ ds) names protections pending a s = let q = some_bound (bound names k) a.0 in ready_once ds names _ pending (a.1 q.0 q.1) s
  ready_once (Unprotect k ∷ ds) names protections pending a s = let q = some_bound (bound names k) a.0 in ready_once ds names _ pending
      (a.1 q.0 q.1) s
  ready_once (EndBase q ∷ ds) names protections pending a s = absurd a

ended_once : (base : List Region) (names : Bindings) (pending : List ℕ) (r : ℕ) → Shares [] (map EndBase base) names pending → times_in r pending ≤ 1
ended_once [] names pending r s = let e = s r in omega (arith, e)
ended_once (b ∷ base) names pending r s = ended_once base names pending r s

-- a goroutine has at most one pending stake in a region
pending_once : (code : Code) (frames : List TacFrame) (h : Holder) (r : ℕ) → GoodHolder code frames h → times_in r h.pending ≤ 1
pending_once code frames h r good = go frames h.environments h.duties good.fit good.shares
  where
    go : (frames : List TacFrame) (environments : List RegionEnvironment) (duties : List Duty) → FramesFit code h.base frames environments duties
        → Shares (to_share code frames) duties (top_names environments) h.pending → times_in r h.pending ≤ 1
    go [] [] duties fit s = ended_once h.base [] h.pending r (subst (λ (ds : List Duty). Shares [] ds [] h.pending) fit s)
    go [] (f ∷ fs) duties fit s = absurd fit
    go (frame ∷ callers) [] duties fit s = absurd fit
    go (frame ∷ callers) (f ∷ fs) duties fit s = ready_once _ _ (to_share code (frame ∷ callers)) r duties f.names f.protections h.pending
        (fit.0).ready s

pub stakes_small : (code : Code) (s : RegionState) (j : ℕ) (info : RegionInfo) → AllGood code s → slice_get s.regions j ≡ Some info
    → info.stakes ≤ length s.holders + length s.holders
stakes_small code s j info all e =
    let fine = all.good.fine in
    let a = fine.counted j info e in
    let b = total_small (λ (h : Holder). one_when (is_in j h.stakes)) s.holders (λ g h q. one_small (is_in j h.stakes)) in
    let c = total_small (λ (h : Holder). times_in j h.pending) s.holders (λ g h q. pending_once code (frames_of s.plain g) h j (fine.each g h q)) in
    omega (arith, a, b, c)

-- the count of a live region
pub count_small : (code : Code) (z : TableSizes) (words : List ℕ) (recs : List Rec) (s : RegionState) (places : Where) (j : ℕ) → AllGood code s
    → StateImage z words recs s places
    → is_live s.regions (Numbered j) ≡ true → slice_index words (count_at z (places.slot j)) ≤ suc (length s.holders + length s.holders)
count_small code z words recs s places j all k live =
    let i = live_info s.regions j live in
    let f = found z words recs (ground_of s) places k j live in
    let b = stakes_small code s j i.0 all i.1 in
    omega (arith, f, b)
