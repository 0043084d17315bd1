-- How many pages and slots live regions have: each page that is claimed and each slot that is used counts once. The sum over regions
-- is at most n by induction over n: page n counts for one slot at most, and no two live regions have the same slot.
use Rattle.std.proofs.Common.{◌≡◌, ◌≢◌, ℕ, zero, suc, ◌+◌, ◌-◌, ◌<◌, ◌≤◌, ◌==◌, Bool, true, false, nat_lt, List, [], ◌∷◌, length, Some, if◌then◌else◌, slice_get, slice_index, sum_by, count_by, refl, ap, sym, subst, ◌∙◌, arith}
use Rattle.std.proofs.lemmas.Bool.Decides.{nat_tests}
use Rattle.std.proofs.lemmas.List.Sums.{sum_by-cons}
use Rattle.std.proofs.lemmas.Option.{same_Some}
use mathlib.Core.Logic.{dite}
use native.Mathlib.Decide.{ℕ_discrete}
use Rattle.rgo_core_memory.specs.Facts.{SomeLeft}
use Rattle.rgo_core_memory.specs.Ground.{Ground, ground_of}
use Rattle.rgo_core_memory.specs.Image.{MemoryImage, Where}
use Rattle.rgo_core_memory.specs.Parts.{Living, pages_at}
use Rattle.rgo_core_memory.specs.Records.{Rec}
use Rattle.rgo_core_memory.specs.Words.{count_at, state_at}
use Rattle.rgo_core_memory.specs.declared.layout.TableSizes.{TableSizes}
use Rattle.rgo_sound.specs.RegionMachine.Counts.{is_removed, pages_if_removed}
use Rattle.rgo_sound.specs.RegionMachine.Regions.{RegionInfo}

-- ---- sums over live regions

pub zero_plus : (n : ℕ) → 0 + n ≡ n
zero_plus n = omega arith

abbrev one_if : Bool → ℕ
one_if b = if b then 1 else 0

count_first : (p : RegionInfo → Bool) (i : RegionInfo) (is : List RegionInfo) → count_by p (i ∷ is) ≡ one_if (p i) + count_by p is
count_first p i is = sum_by-cons (λ y. one_if (p y)) i is

abbrev pub if_live : RegionInfo → ℕ → ℕ
if_live i m = if is_removed i then 0 else m

when_live : (i : RegionInfo) (m : ℕ) → 0 < i.stakes → if_live i m ≡ m
when_live i m l = go (is_removed i) (grind (arith, nat_tests))
  where
    go : (b : Bool) → b ≡ false → (if b then 0 else m) ≡ m
    go b e = rw e refl

-- f n has a number for each slot, which grows with n; `k` is the number of the first region of the list
module _ (f : ℕ → ℕ → ℕ) (slot : ℕ → ℕ) where
  abbrev pub live_sum : (n k : ℕ) → List RegionInfo → ℕ
  live_sum n k [] = 0
  live_sum n k (i ∷ is) = if_live i (f n (slot k)) + live_sum n (suc k) is

  module _ (more : (n s : ℕ) → f n s ≤ f (suc n) s) where
    one_more : (i : RegionInfo) (a b : ℕ) → a ≤ b → if_live i a ≤ if_live i b
    one_more i a b l = go (is_removed i)
      where
        go : (t : Bool) → (if t then 0 else a) ≤ (if t then 0 else b)
        go true = omega arith
        go false = l

    pub sum_more : (n k : ℕ) (is : List RegionInfo) → live_sum n k is ≤ live_sum (suc n) k is
    sum_more n k [] = omega arith
    sum_more n k (i ∷ is) =
        let a = one_more i (f n (slot k)) (f (suc n) (slot k)) (more n (slot k)) in
        let b = sum_more n (suc k) is in
        omega (arith, a, b)

    pub sum_one : (n k : ℕ) (is : List RegionInfo) (j : ℕ) (info : RegionInfo) → slice_get is j ≡ Some info → 0 < info.stakes
        → suc (f n (slot (k + j))) ≤ f (suc n) (slot (k + j)) → suc (live_sum n k is) ≤ live_sum (suc n) k is
    sum_one n k [] j info e l h = cc
    sum_one n k (i ∷ is) zero info e l h =
        let at : k + 0 ≡ k = omega arith in
        let live : 0 < i.stakes = subst (λ (x : RegionInfo). 0 < x.stakes) (sym (same_Some i info e)) l in
        let a = when_live i (f n (slot k)) live in
        let b = when_live i (f (suc n) (slot k)) live in
        let c = sum_more n (suc k) is in
        let d : suc (f n (slot k)) ≤ f (suc n) (slot k) = subst (λ (x : ℕ). suc (f n (slot x)) ≤ f (suc n) (slot x)) at h in
        omega (arith, a, b, c, d)
    sum_one n k (i ∷ is) (suc j) info e l h =
        let at : k + suc j ≡ suc k + j = omega arith in
        let a = one_more i (f n (slot k)) (f (suc n) (slot k)) (more n (slot k)) in
        let b = sum_one n (suc k) is j info e l (subst (λ (x : ℕ). suc (f n (slot x)) ≤ f (suc n) (slot x)) at h) in
        omega (arith, a, b)

  -- the pages of all regions are those of the removed ones and of the live ones
  pub sum_split : (n k : ℕ) (is : List RegionInfo) → ((j : ℕ) (info : RegionInfo) → slice_get is j ≡ Some info → 0 < info.stakes
      → info.pages ≡ f n (slot (k + j)))
      → sum_by (λ (i : RegionInfo). i.pages) is ≡ sum_by pages_if_removed is + live_sum n k is
  sum_split n k [] each = refl
  sum_split n k (i ∷ is) each =
      let a = sum_by-cons (λ (x : RegionInfo). x.pages) i is in
      let b = sum_by-cons pages_if_removed i is in
      let c = sum_split n (suc k) is (λ j info e l. each (suc j) info e l
      ∙ ap (λ (x : ℕ). f n (slot x)) (let at : k + suc j ≡ suc k + j = omega arith in at)) in
      let d = one (is_removed i) refl in
      omega (arith, a, b, c, d)
    where
      one : (b : Bool) → is_removed i ≡ b → i.pages ≡ (if b then i.pages else 0) + (if b then 0 else f n (slot k))
      one true e = omega arith
      one false e =
          let own : i.pages ≡ f n (slot (k + 0)) = each 0 i refl (grind (arith, nat_tests)) in
          let at : k + 0 ≡ k = omega arith in
          own ∙ (ap (λ (x : ℕ). f n (slot x)) at ∙ sym (zero_plus (f n (slot k))))

-- ---- numbers for a slot

pub page_more : (states : ℕ → ℕ) (n s : ℕ) → pages_at states n s ≤ pages_at states (suc n) s
page_more states n s = go (states n == suc s)
  where
    go : (b : Bool) → pages_at states n s ≤ (if b then suc (pages_at states n s) else pages_at states n s)
    go true = omega arith
    go false = omega arith

pub page_here : (states : ℕ → ℕ) (n s : ℕ) → states n ≡ suc s → suc (pages_at states n s) ≤ pages_at states (suc n) s
page_here states n s e = go (states n == suc s) (grind (arith, nat_tests))
  where
    go : (b : Bool) → b ≡ true → suc (pages_at states n s) ≤ (if b then suc (pages_at states n s) else pages_at states n s)
    go true q = omega arith
    go false q = absurd (cc q)

-- whether it is one of the first n
abbrev pub below : (n s : ℕ) → ℕ
below n s = one_if (nat_lt s n)

below_low : (n s : ℕ) → s < n → below n s ≡ 1
below_low n s l = go (nat_lt s n) (grind (arith, nat_tests))
  where
    go : (b : Bool) → b ≡ true → one_if b ≡ 1
    go b e = rw e refl

below_high : (n s : ℕ) → n ≤ s → below n s ≡ 0
below_high n s l = go (nat_lt s n) (grind (arith, nat_tests))
  where
    go : (b : Bool) → b ≡ false → one_if b ≡ 0
    go b e = rw e refl

pub below_more : (n s : ℕ) → below n s ≤ below (suc n) s
below_more n s = by (nat_lt s n) refl
  where
    by : (b : Bool) → nat_lt s n ≡ b → one_if b ≤ below (suc n) s
    by true e = let l : s < n = grind (arith, nat_tests) in let z = below_low (suc n) s (omega arith) in omega (arith, z)
    by false e = omega arith

pub below_here : (n s : ℕ) → s ≡ n → suc (below n s) ≤ below (suc n) s
below_here n s e = let a = below_high n s (omega arith) in let b = below_low (suc n) s (omega arith) in omega (arith, a, b)

below_one : (n s : ℕ) → below n s ≤ 1
below_one n s = go (nat_lt s n)
  where
    go : (b : Bool) → one_if b ≤ 1
    go true = omega arith
    go false = omega arith

-- at most as many live regions as slots
pub live_many : (slot : ℕ → ℕ) (n k : ℕ) (is : List RegionInfo) → live_sum below slot n k is + count_by is_removed is ≤ length is
live_many slot n k [] = omega arith
live_many slot n k (i ∷ is) =
    let a = count_first is_removed i is in
    let b = live_many slot n (suc k) is in
    let c = one (is_removed i) in
    omega (arith, a, b, c)
  where
    one : (b : Bool) → (if b then 0 else below n (slot k)) + one_if b ≤ 1
    one true = omega arith
    one false = let z = below_one n (slot k) in omega (arith, z)

-- ---- the bounds

-- the number for the first n grows by at most one with each of them, and with one of them not at all
one_left : (total : ℕ → ℕ) (p n : ℕ) → p < n → total 0 ≡ 0 → ((m : ℕ) → total (suc m) ≤ suc (total m)) → total (suc p) ≤ total p → total n < n
one_left total p n l none one same = go n l
  where
    up_to : (m : ℕ) → total m ≤ m
    up_to zero = omega (arith, none)
    up_to (suc m) = let a = up_to m in let b = one m in omega (arith, a, b)

    go : (m : ℕ) → p < m → total m < m
    go zero l = absurd (omega arith)
    go (suc m) l = dite (ℕ_discrete p m)
        (λ e. let a : total (suc m) ≤ total m = subst (λ (i : ℕ). total (suc i) ≤ total i) e same in let b = up_to m in omega (arith, a, b))
        (λ ne. let a = go m (omega (arith, ne)) in let b = one m in omega (arith, a, b))

-- no two live regions of the list have one slot
abbrev Apart : (slot : ℕ → ℕ) (k : ℕ) → List RegionInfo → Type 0
Apart slot k is = (i j : ℕ) (a b : RegionInfo) → slice_get is i ≡ Some a → 0 < a.stakes → slice_get is j ≡ Some b → 0 < b.stakes
    → slot (k + i) ≡ slot (k + j) → i ≡ j

-- from n to n + 1, the number for one slot grows by one, and that for no other; `at n` is that slot's number plus 1, or 0 for none
module _ (f : ℕ → ℕ → ℕ) (at : ℕ → ℕ) (one : (n s : ℕ) → f (suc n) s ≤ suc (f n s)) (same : (n s : ℕ) → at n ≢ suc s → f (suc n) s ≤ f n s)
    (slot : ℕ → ℕ) where
  sum_same : (n k : ℕ) (is : List RegionInfo)
      → ((j : ℕ) (info : RegionInfo) → slice_get is j ≡ Some info → 0 < info.stakes → at n ≢ suc (slot (k + j)))
      → live_sum f slot (suc n) k is ≤ live_sum f slot n k is
  sum_same n k [] never = omega arith
  sum_same n k (i ∷ is) never =
      let a = sum_same n (suc k) is (λ j info e l q. let z : k + suc j ≡ suc k + j = omega arith in never (suc j) info e l (q ∙ ap (λ (m : ℕ). suc (slot m)) (sym z))) in
      let b = first (is_removed i) refl in
      omega (arith, a, b)
    where
      first : (b : Bool) → is_removed i ≡ b → (if b then 0 else f (suc n) (slot k)) ≤ (if b then 0 else f n (slot k))
      first true e = omega arith
      first false e = same n (slot k) (λ q. let z : k + 0 ≡ k = omega arith in
          never 0 i refl (grind (arith, nat_tests)) (q ∙ ap (λ (m : ℕ). suc (slot m)) (sym z)))

  sum_step : (n k : ℕ) (is : List RegionInfo) → Apart slot k is → live_sum f slot (suc n) k is ≤ suc (live_sum f slot n k is)
  sum_step n k [] apart = omega arith
  sum_step n k (i ∷ is) apart = first (is_removed i) refl
      (sum_step n (suc k) is (λ j m a b e l q h s.
      let y : suc j ≡ suc m = apart (suc j) (suc m) a b e l q h (ap slot (later j) ∙ (s ∙ ap slot (sym (later m)))) in omega (arith, y)))
    where
      later : (j : ℕ) → k + suc j ≡ suc k + j
      later j = omega arith

      first : (b : Bool) → is_removed i ≡ b → live_sum f slot (suc n) (suc k) is ≤ suc (live_sum f slot n (suc k) is)
          → (if b then 0 else f (suc n) (slot k)) + live_sum f slot (suc n) (suc k) is ≤ suc ((if b then 0 else f n (slot k)) + live_sum f slot n (suc k) is)
      first true e r = omega (arith, r)
      first false e r = dite (ℕ_discrete (at n) (suc (slot k)))
          (λ q.
          let a = one n (slot k) in
          let live : 0 < i.stakes = grind (arith, nat_tests) in
          let none = sum_same n (suc k) is (λ j info there l h.
          let z : k + 0 ≡ k = omega arith in
          let v : suc (slot (k + 0)) ≡ suc (slot (suc k + j)) = ap (λ (m : ℕ). suc (slot m)) z ∙ (sym q ∙ h) in
          let y : 0 ≡ suc j = apart 0 (suc j) i info refl live there l (let w : slot (k + 0) ≡ slot (suc k + j) = omega (arith, v) in w ∙ ap slot (sym (later j))) in
          omega (arith, y)) in
          omega (arith, a, none))
          (λ ne. let a = same n (slot k) ne in omega (arith, a, r))

page_one : (states : ℕ → ℕ) (n s : ℕ) → pages_at states (suc n) s ≤ suc (pages_at states n s)
page_one states n s = go (states n == suc s)
  where
    go : (b : Bool) → (if b then suc (pages_at states n s) else pages_at states n s) ≤ suc (pages_at states n s)
    go true = omega arith
    go false = omega arith

page_same : (states : ℕ → ℕ) (n s : ℕ) → states n ≢ suc s → pages_at states (suc n) s ≤ pages_at states n s
page_same states n s e = go (states n == suc s) (grind (arith, nat_tests))
  where
    go : (b : Bool) → b ≡ false → (if b then suc (pages_at states n s) else pages_at states n s) ≤ pages_at states n s
    go true q = absurd (cc q)
    go false q = omega arith

below_step : (n s : ℕ) → below (suc n) s ≤ suc (below n s)
below_step n s = let a = below_one (suc n) s in omega (arith, a)

below_same : (n s : ℕ) → suc n ≢ suc s → below (suc n) s ≤ below n s
below_same n s ne = by (nat_lt s n) refl
  where
    by : (b : Bool) → nat_lt s n ≡ b → below (suc n) s ≤ one_if b
    by true e = below_one (suc n) s
    by false e = let z = below_high (suc n) s (grind (arith, nat_tests)) in omega (arith, z)

none_counted : (f : ℕ → ℕ → ℕ) (slot : ℕ → ℕ) → ((s : ℕ) → f 0 s ≡ 0) → (k : ℕ) (is : List RegionInfo) → live_sum f slot 0 k is ≡ 0
none_counted f slot none k [] = refl
none_counted f slot none k (i ∷ is) = let a = none_counted f slot none (suc k) is in let b = first (is_removed i) in omega (arith, a, b)
  where
    first : (b : Bool) → (if b then 0 else f 0 (slot k)) ≡ 0
    first true = refl
    first false = none (slot k)

-- as many live regions as have a slot
live_all : (slot : ℕ → ℕ) (n k : ℕ) (is : List RegionInfo) → ((j : ℕ) (info : RegionInfo) → slice_get is j ≡ Some info → 0 < info.stakes → slot (k + j) < n)
    → length is ≤ live_sum below slot n k is + count_by is_removed is
live_all slot n k [] low = omega arith
live_all slot n k (i ∷ is) low =
    let a = count_first is_removed i is in
    let b = live_all slot n (suc k) is (λ j info e l. let z : k + suc j ≡ suc k + j = omega arith in
    subst (λ (m : ℕ). slot m < n) z (low (suc j) info e l)) in
    let c = one (is_removed i) refl in
    omega (arith, a, b, c)
  where
    one : (b : Bool) → is_removed i ≡ b → 1 ≤ (if b then 0 else below n (slot k)) + one_if b
    one true e = omega arith
    one false e =
        let z : k + 0 ≡ k = omega arith in
        let l = low 0 i refl (grind (arith, nat_tests)) in
        let w = below_low n (slot k) (subst (λ (m : ℕ). slot m < n) z l) in omega (arith, w)

-- ---- if one is left

module _ (z : TableSizes) (words : List ℕ) (recs : List Rec) (x : Ground) (places : Where) (k : MemoryImage z words recs x places) where
  apart : Apart places.slot 0 x.regions
  apart i j a b e l q h s =
      let y = (k.counts.lives i a e l).1 in
      let w = (k.counts.lives j b q h).1 in
      let at : places.slot i ≡ places.slot j = ap places.slot (sym (zero_plus i)) ∙ (s ∙ ap places.slot (zero_plus j)) in
      let v : Living i ≡ Living j = sym y ∙ (ap places.uses at ∙ w) in cc v

  module _ (p : ℕ) (small : p < z.pages) (free : slice_index words (state_at z p) ≡ 0) where
    abbrev claims : ℕ → ℕ
    claims n = pages_at k.w.state n z.slots + live_sum (pages_at k.w.state) places.slot n 0 x.regions

    -- a page is claimed for one slot alone
    one_claim : (n : ℕ) → claims (suc n) ≤ suc (claims n)
    one_claim n = dite (ℕ_discrete (k.w.state n) (suc z.slots))
        (λ e.
        let a = page_one k.w.state n z.slots in
        let b = sum_same (pages_at k.w.state) k.w.state (page_one k.w.state) (page_same k.w.state) places.slot n 0 x.regions
        (λ j info there l q. let y = (k.counts.lives j info there l).0 in
        let w : z.slots ≡ places.slot (0 + j) = (let v : suc z.slots ≡ suc (places.slot (0 + j)) = sym e ∙ q in omega (arith, v)) in
        let u : places.slot (0 + j) ≡ places.slot j = ap places.slot (zero_plus j) in omega (arith, y, w, u)) in
        omega (arith, a, b))
        (λ ne.
        let a = page_same k.w.state n z.slots ne in
        let b = sum_step (pages_at k.w.state) k.w.state (page_one k.w.state) (page_same k.w.state) places.slot n 0 x.regions apart in
        omega (arith, a, b))

    none_at : claims (suc p) ≤ claims p
    none_at =
        let e : k.w.state p ≡ 0 = sym (k.shows.state p small) ∙ free in
        let a = page_same k.w.state p z.slots (λ q. omega (arith, e, q)) in
        let b = sum_same (pages_at k.w.state) k.w.state (page_one k.w.state) (page_same k.w.state) places.slot p 0 x.regions
        (λ j info there l q. omega (arith, e, q)) in
        omega (arith, a, b)

    none_first : claims 0 ≡ 0
    none_first = let a = none_counted (pages_at k.w.state) places.slot (λ s. refl) 0 x.regions in omega (arith, a)

    -- if a page is free, fewer are in use than there are
    page_left : (x.global_pages + sum_by (λ (i : RegionInfo). i.pages) x.regions) - sum_by pages_if_removed x.regions < z.pages
    page_left =
        let a = one_left claims p z.pages small none_first one_claim none_at in
        let b = k.paged.global in
        let c = sum_split (pages_at k.w.state) places.slot z.pages 0 x.regions (λ j info e l. k.paged.live j info e l
        ∙ ap (λ (m : ℕ). pages_at k.w.state z.pages (places.slot m)) (sym (zero_plus j))) in
        omega (arith, a, b, c)

  module _ (s : ℕ) (small : s < z.slots) (free : slice_index words (count_at z s) ≡ 0) where
    -- no live region has that slot
    unused : (j : ℕ) (info : RegionInfo) → slice_get x.regions j ≡ Some info → 0 < info.stakes → suc s ≢ suc (places.slot (0 + j))
    unused j info e l q =
        let y = k.counts.lives j info e l in
        let t = (k.counts.living (places.slot j) j y.0 y.1).4 in
        let w : s ≡ places.slot j = (let v : suc s ≡ suc (places.slot j) = q ∙ ap (λ (m : ℕ). suc (places.slot m)) (zero_plus j) in omega (arith, v)) in
        let u : k.w.count s ≡ 0 = sym (k.shows.count s (omega arith)) ∙ free in
        let same = ap k.w.count w in
        omega (arith, t, u, same)

    -- if a slot is free, fewer regions are live than there are slots
    slot_left : length x.regions - count_by is_removed x.regions < z.slots
    slot_left =
        let a = one_left (λ n. live_sum below places.slot n 0 x.regions) s z.slots small
        (none_counted below places.slot (λ m. below_high 0 m (omega arith)) 0 x.regions)
        (λ n. sum_step below suc below_step below_same places.slot n 0 x.regions apart)
        (sum_same below suc below_step below_same places.slot s 0 x.regions unused) in
        let b = live_all places.slot z.slots 0 x.regions (λ j info e l. subst (λ (m : ℕ). places.slot m < z.slots) (sym (zero_plus j)) (k.counts.lives j info e l).0) in
        omega (arith, a, b)

pub some_left : SomeLeft
some_left z words recs s places k = (
  λ p low free. page_left z words recs (ground_of s) places k p low free,
  λ r low free. slot_left z words recs (ground_of s) places k r low free,
)
