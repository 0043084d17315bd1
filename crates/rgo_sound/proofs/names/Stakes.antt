-- What the invariant says of stakes: one holding name each, duties that name live regions, nothing left at the end. All of it follows
-- from the invariant at one state, with no look at how the state was reached.
use Rattle.std.proofs.Common.{◌≡◌, ℕ, zero, suc, Bool, true, false, ◌||◌, List, [], ◌∷◌, map, length, Some, refl, sym}
use Rattle.std.proofs.Common.{ap, ◌∙◌, subst, nat_eq, if◌then◌else◌, arith, ◌⊎◌, inl, inr, true≢false, slice_get}
use Rattle.std.proofs.Common.{Contains, count_by, cond}
use Rattle.std.specs.List.{list_any}
use Rattle.std.proofs.lemmas.List.Sums.{sum_by-cons}
use Rattle.rgo_sound.proofs.Places.{contains_nil, contains_cases, contains_here, contains_there}
use Rattle.rgo_sound.proofs.Tests.{split, eq_of, or_right, nat_eq_refl}
use Rattle.rgo_sound.proofs.names.Pending.{none_pending}
use Rattle.rgo_sound.proofs.duties.Attends.{staked_live, same_reflexive, total_none}
use Rattle.rgo_code.specs.Code.{Code}
use Rattle.rgo_region_machine.specs.Counts.{counts_of, is_removed}
use Rattle.rgo_region_machine.specs.Duties.{guards}
use Rattle.rgo_region_machine.specs.Regions.{RegionInfo, bound, same_region}
use Rattle.rgo_region_machine.specs.States.{Create, Duty, EndBase, RegionEnvironment, Holder, Protect, RegionState, Remove}
use Rattle.rgo_region_machine.specs.States.{Share, Unprotect, frames_of, top_names}
use Rattle.rgo_region_machine.specs.declared.regions.Region.{Region}
use Rattle.rgo_region_machine.specs.declared.regions.Region.TheVariants.{Global as GlobalRegion, Numbered}
use Rattle.rgo_sound.specs.Core.{NameInvariant, IsHeldOnce}
use Rattle.rgo_sound.specs.Holding.{OneHoldingName, held}
use Rattle.rgo_sound.specs.Invariant.{Fine, FramesFit, IsFree, IsReady, Settled, Shares, to_share}
use Rattle.rgo_sound.specs.NextNames.{DutyNames, HasStake}
use Rattle.rgo_sound.specs.Safety.{AllEnded}
use Rattle.rgo_sound.specs.Stakes.{HasEnded, StakesAreCounted, holders_of, is_in, one_when, pending_of, times_in}
use Rattle.rgo_tac.specs.Frames.{TacFrame}

-- ---- being in a list, as a test

contains_in : (xs : List ℕ) (r : ℕ) → Contains xs r → is_in r xs ≡ true
contains_in [] r c = absurd (contains_nil r c)
contains_in (x ∷ xs) r c = go (contains_cases x xs r c) (contains_in xs r)
  where
    always : (b : Bool) → (if b then true else true) ≡ true
    always true = refl
    always false = refl

    go : (x ≡ r) ⊎ Contains xs r → (Contains xs r → is_in r xs ≡ true) → (if nat_eq r x then true else is_in r xs)
        ≡ true
    go (inl e) next = ap (λ y. if nat_eq r y then true else is_in r xs) e
        ∙ ap (λ b. if b then true else is_in r xs) (nat_eq_refl r)
    go (inr d) next = ap (λ y. if nat_eq r x then true else y) (next d) ∙ always (nat_eq r x)

in_contains : (xs : List ℕ) (r : ℕ) → is_in r xs ≡ true → Contains xs r
in_contains [] r e = cc
in_contains (x ∷ xs) r e = split (nat_eq r x) (λ t. subst (λ y. Contains (x ∷ xs) y) (sym (eq_of r x t))
    (contains_here x xs)) (λ n. contains_there x xs r (in_contains xs r
    (ap (λ b. if b then true else is_in r xs) (sym n) ∙ e)))

-- ---- one holding name

-- a region that no frame protects has one holding name in all frames together
held_once : (r : ℕ) (base : List Region) (environments : List RegionEnvironment) → IsHeldOnce r base environments
    → guards base environments (Numbered r) ≡ false → held r environments ≡ 1
held_once r base [] o g = absurd (true≢false (sym o ∙ g))
held_once r base (f ∷ fs) o g = o.0 (or_right (list_any (same_region (Numbered r)) f.protections)
    (guards base fs (Numbered r)) g)

pub one_holding_name : (code : Code) (s : RegionState) → Fine code s → OneHoldingName s
one_holding_name code s fine g h r e c n = held_once r h.base h.environments
    ((fine.each g h e).core.once r (contains_in h.stakes r c)) n

-- ---- what a duty names is Global, or live with an own stake

-- a region that is Global, or in which the goroutine has a stake
pub has_stake : (code : Code) (s : RegionState) (g : ℕ) (h : Holder) (r : Region) → Fine code s → slice_get s.holders g
    ≡ Some h → ((q : ℕ) → r ≡ Numbered q → is_in q h.stakes ≡ true) → HasStake s h r
has_stake code s g h GlobalRegion fine e i = tt
has_stake code s g h (Numbered q) fine e i = (
  staked_live code s g h q fine e (i q refl),
  in_contains h.stakes q
      (i q refl),
)

-- what a name of the top frame denotes
pub name_staked : (code : Code) (s : RegionState) (g : ℕ) (h : Holder) (k : ℕ) (r : Region) → Fine code s
    → slice_get s.holders g ≡ Some h → bound (top_names h.environments) k ≡ Some r → HasStake s h r
name_staked code s g h k r fine e b = has_stake code s g h r fine e
    (λ q i. go h.environments (fine.each g h e).core (b ∙ ap Some i))
  where
    go : {q : ℕ} (environments : List RegionEnvironment) → NameInvariant h.stakes h.base environments
        → bound (top_names environments) k ≡ Some (Numbered q) → is_in q h.stakes ≡ true
    go [] c b = cc
    go {q} (f ∷ fs) c b = c.staked.0 k q b

-- what a goroutine's first duty names
pub duty_staked : (code : Code) (s : RegionState) (g : ℕ) (h : Holder) (d : Duty) (ds : List Duty) (r : Region)
    → Fine code s → slice_get s.holders g ≡ Some h → h.duties ≡ d ∷ ds → DutyNames h d r → HasStake s h r
duty_staked code s g h (Create k) ds r fine e q n = absurd n
duty_staked code s g h (Share k) ds r fine e q n = name_staked code s g h k r fine e n
duty_staked code s g h (Protect k) ds r fine e q n = name_staked code s g h k r fine e n
duty_staked code s g h (Unprotect k) ds r fine e q n = name_staked code s g h k r fine e n
duty_staked code s g h (Remove k) ds r fine e q n = name_staked code s g h k r fine e n
duty_staked code s g h (EndBase p) ds r fine e q n =
    has_stake code s g h r fine e (λ x i. (fine.each g h e).core.based x
    (go h.environments (frames_of s.plain g) h.duties q (fine.each g h e).fit x (n ∙ i)))
  where
    first : (base : List Region) (x : ℕ) → EndBase p ∷ ds ≡ map EndBase base → p ≡ Numbered x
        → list_any (same_region (Numbered x)) base ≡ true
    first [] x m i = cc
    first (b ∷ bs) x m i =
        let w : p ≡ b = cc in
        ap (λ y. same_region (Numbered x) y || list_any (same_region (Numbered x)) bs) (sym w ∙ i)
        ∙ ap (λ y. y || list_any (same_region (Numbered x)) bs) (same_reflexive (Numbered x))

    go : (environments : List RegionEnvironment) (frames : List TacFrame) (duties : List Duty) → duties ≡ EndBase p ∷ ds
        → FramesFit code h.base frames environments duties → (x : ℕ) → p ≡ Numbered x
        → list_any (same_region (Numbered x)) h.base ≡ true
    go [] [] duties q fit x i = first h.base x (sym q ∙ fit) i
    go [] (frame ∷ callers) duties q fit x i = absurd fit
    go (f ∷ fs) [] duties q fit x i = absurd fit
    go (f ∷ fs) (frame ∷ callers) duties q fit x i = absurd
        (subst (λ y. IsReady (IsFree fit.0.fn frame.next) (Settled fit.0.fn frame.next fit.0.instr) y f.names
        f.protections) q fit.0.ready)

-- ---- if all goroutines have ended, nobody has a stake, and each region is removed

-- one that has ended has no stake: with no frame left, a stake would need an entry in the base, and the base has ended
ended_unstaked : (code : Code) (s : RegionState) (g : ℕ) (h : Holder) → Fine code s → slice_get s.holders g ≡ Some h
    → HasEnded s g h → (r : ℕ) → is_in r h.stakes ≡ false
ended_unstaked code s g h fine e n r = split (is_in r h.stakes)
    (λ t. absurd (go h.environments (frames_of s.plain g) h.duties n.0 n.1 (fine.each g h e).core (fine.each g h e).fit
    t)) (λ f. f)
  where
    none : (base : List Region) → [] ≡ map EndBase base → list_any (same_region (Numbered r)) base ≡ true → ⊥
    none [] m i = true≢false (sym i)
    none (b ∷ bs) m i = cc

    go : (environments : List RegionEnvironment) (frames : List TacFrame) (duties : List Duty) → frames ≡ [] → duties ≡ []
        → NameInvariant h.stakes h.base environments → FramesFit code h.base frames environments duties → is_in r h.stakes ≡ true
        → ⊥
    go [] [] duties a b c fit t = none h.base (sym b ∙ fit) (c.once r t)
    go (f ∷ fs) [] duties a b c fit t = fit
    go environments (frame ∷ callers) duties a b c fit t = cc

-- one that has ended has nothing pending
ended_unpending : (code : Code) (s : RegionState) (g : ℕ) (h : Holder) → Fine code s → slice_get s.holders g ≡ Some h
    → HasEnded s g h → h.pending ≡ []
ended_unpending code s g h fine e n =
    none_pending (top_names h.environments) h.pending (subst
    (λ (x : List Duty). Shares [] x (top_names h.environments) h.pending) n.1
    (subst (λ (x : List TacFrame). Shares (to_share code x) h.duties (top_names h.environments) h.pending) n.0
    (fine.each g h e).shares))

-- if all have ended, no region has a stake
pub all_unstaked : (code : Code) (s : RegionState) → Fine code s → AllEnded s → (r : ℕ) (info : RegionInfo)
    → slice_get s.regions r ≡ Some info → info.stakes ≡ 0
all_unstaked code s fine ended r info e =
    let a = fine.counted r info e in
    let b : holders_of s r ≡ 0 = total_none (λ (h : Holder). one_when (is_in r h.stakes)) s.holders
    (λ g h i. ap one_when (ended_unstaked code s g h fine i (ended g h i) r)) in
    let c : pending_of s r ≡ 0 = total_none (λ (h : Holder). times_in r h.pending) s.holders
    (λ g h i. ap (times_in r) (ended_unpending code s g h fine i (ended g h i))) in
    omega (arith, a, b, c)

-- and so each is removed
count_all : (regions : List RegionInfo) → ((r : ℕ) (info : RegionInfo) → slice_get regions r ≡ Some info → info.stakes
    ≡ 0) → count_by is_removed regions ≡ length regions
count_all [] h = refl
count_all (info ∷ regions) h =
    let a = sum_by-cons (λ (x : RegionInfo). cond (is_removed x) 1 0) info regions in
    let b = one info.stakes (h 0 info refl) in
    let c = count_all regions (λ r i e. h (suc r) i e) in
    omega (arith, a, b, c)
  where
    one : (n : ℕ) → n ≡ 0 → ◌≡◌ {A = ℕ} (cond (nat_eq n 0) 1 0) 1
    one zero e = refl
    one (suc n) e = absurd (omega (arith, e))

no_stakes : (xs : List ℕ) → ((r : ℕ) → is_in r xs ≡ false) → xs ≡ []
no_stakes [] h = refl
no_stakes (x ∷ xs) h = absurd (true≢false (sym (ap (λ b. if b then true else is_in x xs) (nat_eq_refl x)) ∙ h x))

-- ---- of a state

-- a region's stakes are the goroutines that have one, none of them ended, and the pending ones
pub stakes_counted : (code : Code) (s : RegionState) → Fine code s → StakesAreCounted s
stakes_counted code s fine = record {
  counted = fine.counted;
  ended = λ g h i n.
      no_stakes h.stakes (ended_unstaked code s g h fine i n);
}

-- if all have ended, each region that was made is removed
pub all_removed : (code : Code) (s : RegionState) → Fine code s → AllEnded s
    → (counts_of s).made ≡ (counts_of s).removed
all_removed code s fine ended = sym (count_all s.regions (all_unstaked code s fine ended))
