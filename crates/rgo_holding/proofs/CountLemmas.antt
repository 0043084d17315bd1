-- What the machine has in lists and an entry in numbers: protections, own pages, stakes.
use Rattle.std.proofs.Common.{◌≡◌, ◌≢◌, ◌≤◌, ◌<◌, ◌+◌, ℕ, Bool, true, false, ◌||◌, List, [], ◌∷◌, ◌++◌, Some, None, ap, arith, if◌then◌else◌, length, nat_eq, nat_lt, option_map, refl, sym, true≢false, ◌∙◌}
use Rattle.std.proofs.lemmas.Option.{none-some}
use Rattle.std.specs.List.{AllByRecursion, list_any}
use Rattle.rgo_core_memory.specs.Records.{Fill, dropped, page_of, raised}
use Rattle.rgo_sound.specs.RegionMachine.Duties.{guards, with_protection, without_protection}
use Rattle.rgo_sound.specs.RegionMachine.Regions.{Bindings, same_region}
use Rattle.rgo_sound.specs.RegionMachine.States.{RegionEnvironment, below, with_top}
use Rattle.rgo_sound.specs.RegionMachine.declared.regions.Region.{Region}
use Rattle.rgo_sound.specs.RegionMachine.declared.regions.Region.TheVariants.{Global as GlobalRegion, Numbered}
use Rattle.rgo_sound.proofs.duties.Moves.{times_removed}
use Rattle.rgo_sound.proofs.Tests.{eq_of, nat_eq_refl, ne_of}
use Rattle.rgo_sound.specs.Invariant.{times}
use Rattle.rgo_sound.specs.Stakes.{one_when}
use Rattle.rgo_holding.specs.Changes.{KnowsNone, top_protections}
use Rattle.rgo_holding.specs.Known.{protections_of, region_of, slot_or_global}

-- ---- regions by their slots

pub same_self : (r : Region) → same_region r r ≡ true
same_self GlobalRegion = refl
same_self (Numbered r) = nat_eq_refl r

pub region_same : (slots s t : ℕ) → same_region (region_of slots s) (region_of slots t) ≡ nat_eq s t
region_same slots s t = go (nat_eq s slots) (nat_eq t slots) refl refl
  where
    go : (a b : Bool) → nat_eq s slots ≡ a → nat_eq t slots ≡ b
        → same_region (if a then GlobalRegion else Numbered s) (if b then GlobalRegion else Numbered t) ≡ nat_eq s t
    go true true x y = let e : nat_eq s t ≡ true = grind arith in sym e
    go true false x y = let e : nat_eq s t ≡ false = grind arith in sym e
    go false true x y = let e : nat_eq s t ≡ false = grind arith in sym e
    go false false x y = refl

pub region_numbered : (slots s : ℕ) → s ≢ slots → region_of slots s ≡ Numbered s
region_numbered slots s n = ap (λ b. if b then GlobalRegion else Numbered s) (ne_of s slots n)

pub region_slot : (slots s : ℕ) → slot_or_global slots (region_of slots s) ≡ s
region_slot slots s = go (nat_eq s slots) refl
  where
    go : (b : Bool) → nat_eq s slots ≡ b → slot_or_global slots (if b then GlobalRegion else Numbered s) ≡ s
    go true t = sym (eq_of s slots t)
    go false f = refl

-- ---- protections

pub one_same : (r : Region) → one_when (same_region r r) ≡ 1
one_same r = ap one_when (same_self r)

pub one_other : (slots s t : ℕ) → s ≢ t → one_when (same_region (region_of slots s) (region_of slots t)) ≡ 0
one_other slots s t n = ap one_when (region_same slots s t ∙ ne_of s t n)

pub protected_more : (q r : Region) (es : List RegionEnvironment) (base : List Region) → 0 < length es
    → protections_of q (with_protection es r) base ≡ one_when (same_region q r) + protections_of q es base
protected_more q r [] base some = absurd (omega (arith, some))
protected_more q r (e ∷ es) base some = omega arith

any_times : (r : Region) (rs : List Region) → list_any (same_region r) rs ≡ true → 1 ≤ times r rs
any_times r [] h = absurd (true≢false (sym h))
any_times r (s ∷ ss) h = go (same_region r s) (list_any (same_region r) ss) h (any_times r ss)
  where
    go : (a b : Bool) → (a || b) ≡ true → (b ≡ true → 1 ≤ times r ss) → 1 ≤ one_when a + times r ss
    go true b e f = omega arith
    go false b e f = let l = f e in omega (arith, l)

pub protected_fewer : (q r : Region) (es : List RegionEnvironment) (base : List Region)
    → list_any (same_region r) (top_protections es) ≡ true
    → protections_of q (without_protection es r) base + one_when (same_region q r) ≡ protections_of q es base
protected_fewer q r [] base h = absurd (true≢false (sym h))
protected_fewer q r (e ∷ es) base h =
    let t = times_removed q r e.protections (any_times r e.protections h) in omega (arith, t)

positive_sum : (m n : ℕ) → nat_lt 0 (m + n) ≡ (nat_lt 0 m || nat_lt 0 n)
positive_sum m n = go (nat_lt 0 m) refl
  where
    go : (b : Bool) → nat_lt 0 m ≡ b → nat_lt 0 (m + n) ≡ (b || nat_lt 0 n)
    go true t = grind arith
    go false f = let z : m ≡ 0 = grind arith in ap (λ x. nat_lt 0 (x + n)) z ∙ ap (nat_lt 0) (omega arith)

positive_one : (b : Bool) → nat_lt 0 (one_when b) ≡ b
positive_one true = refl
positive_one false = refl

times_any : (q : Region) (rs : List Region) → nat_lt 0 (times q rs) ≡ list_any (same_region q) rs
times_any q [] = refl
times_any q (r ∷ rs) =
    positive_sum (one_when (same_region q r)) (times q rs)
    ∙ (λ i. positive_one (same_region q r) i || times_any q rs i)

-- a region is guarded exactly if it has a protection
pub guarded : (base : List Region) (es : List RegionEnvironment) (q : Region)
    → nat_lt 0 (protections_of q es base) ≡ guards base es q
guarded base [] q = times_any q base
guarded base (e ∷ es) q =
    positive_sum (times q e.protections) (protections_of q es base)
    ∙ (λ i. times_any q e.protections i || guarded base es q i)

pub unguarded_none : (base : List Region) (es : List RegionEnvironment) (q : Region) → guards base es q ≡ false
    → protections_of q es base ≡ 0
unguarded_none base es q h = let e = guarded base es q ∙ h in grind arith

pub guarded_base : (base : List Region) (es : List RegionEnvironment) (q : Region) → guards base es q ≡ false
    → list_any (same_region q) base ≡ false
guarded_base base [] q h = h
guarded_base base (e ∷ es) q h = guarded_base base es q (last (list_any (same_region q) e.protections) (guards base es q) h)
  where
    last : (a b : Bool) → (a || b) ≡ false → b ≡ false
    last true b e = absurd (true≢false e)
    last false b e = e

pub renamed_protections : (q : Region) (es : List RegionEnvironment) (names : Bindings) (base : List Region)
    → protections_of q (with_top es names) base ≡ protections_of q es base
renamed_protections q [] names base = refl
renamed_protections q (e ∷ es) names base = refl

pub below_protections : (q : Region) (es : List RegionEnvironment) (base : List Region) → top_protections es ≡ []
    → protections_of q (below es) base ≡ protections_of q es base
below_protections q [] base none = refl
below_protections q (e ∷ es) base none = sym (ap (λ ps. times q ps + protections_of q es base) none ∙ omega arith)

pub base_protections : (q r : Region) (es : List RegionEnvironment) (rest : List Region)
    → protections_of q es (r ∷ rest) ≡ one_when (same_region q r) + protections_of q es rest
base_protections q r [] rest = refl
base_protections q r (e ∷ es) rest = let x = base_protections q r es rest in omega (arith, x)

pub bare_protections : (q : Region) (fresh es : List RegionEnvironment) (base : List Region) → AllByRecursion KnowsNone fresh
    → protections_of q (fresh ++ es) base ≡ protections_of q es base
bare_protections q [] es base bare = refl
bare_protections q (e ∷ fresh) es base bare =
    let x = bare_protections q fresh es base bare.1 in
    let y : times q e.protections ≡ 0 = ap (times q) bare.0.protections in
    omega (arith, x, y)

pub above_protections : (q : Region) (above es : List RegionEnvironment) (base : List Region)
    → AllByRecursion (λ (e : RegionEnvironment). e.protections ≡ []) above
    → protections_of q (above ++ es) base ≡ protections_of q es base
above_protections q [] es base none = refl
above_protections q (e ∷ above) es base none =
    let x = above_protections q above es base none.1 in
    let y : times q e.protections ≡ 0 = ap (times q) none.0 in
    omega (arith, x, y)

-- ---- own pages

pub page_dropped : (s t : ℕ) (fills : List Fill) → nat_eq t s ≡ false → page_of s (dropped t fills) ≡ page_of s fills
page_dropped s t [] n = refl
page_dropped s t (f ∷ fs) n = go (nat_eq t f.slot) refl (page_dropped s t fs n)
  where
    go : (b : Bool) → nat_eq t f.slot ≡ b → page_of s (dropped t fs) ≡ page_of s fs
        → page_of s (if b then dropped t fs else f ∷ dropped t fs) ≡ (if nat_eq s f.slot then Some f else page_of s fs)
    go true e rest =
        let other : nat_eq s f.slot ≡ false = grind arith in
        rest ∙ sym (ap (λ b. if b then Some f else page_of s fs) other)
    go false e rest = ap (λ p. if nat_eq s f.slot then Some f else p) rest

pub page_raised : (s t n : ℕ) (fills : List Fill) → nat_eq t s ≡ false → page_of s (raised t n fills) ≡ page_of s fills
page_raised s t n [] e = refl
page_raised s t n (f ∷ fs) e = go (nat_eq t f.slot) refl (page_raised s t n fs e)
  where
    go : (b : Bool) → nat_eq t f.slot ≡ b → page_of s (raised t n fs) ≡ page_of s fs
        → page_of s ((if b then record f { fill = n } else f) ∷ raised t n fs)
        ≡ (if nat_eq s f.slot then Some f else page_of s fs)
    go true x rest =
        let other : nat_eq s f.slot ≡ false = grind arith in
        ap (λ b. if b then Some (record f { fill = n }) else page_of s (raised t n fs)) other
        ∙ rest ∙ sym (ap (λ b. if b then Some f else page_of s fs) other)
    go false x rest = ap (λ p. if nat_eq s f.slot then Some f else p) rest

abbrev pub filled : ℕ → Fill → Fill
filled n f = record f { fill = n }

pub page_filled : (s n : ℕ) (fills : List Fill) → page_of s (raised s n fills) ≡ option_map (filled n) (page_of s fills)
page_filled s n [] = refl
page_filled s n (f ∷ fs) = go (nat_eq s f.slot) refl (page_filled s n fs)
  where
    go : (b : Bool) → nat_eq s f.slot ≡ b → page_of s (raised s n fs) ≡ option_map (filled n) (page_of s fs)
        → page_of s ((if b then record f { fill = n } else f) ∷ raised s n fs)
        ≡ option_map (filled n) (if b then Some f else page_of s fs)
    go true e rest = ap (λ b. if b then Some (filled n f) else page_of s (raised s n fs)) e
    go false e rest = ap (λ b. if b then Some f else page_of s (raised s n fs)) e ∙ rest

-- without an own page nothing is filled
pub unraised : (s n : ℕ) (fills : List Fill) → page_of s fills ≡ None → raised s n fills ≡ fills
unraised s n [] none = refl
unraised s n (f ∷ fs) none = go (nat_eq s f.slot) none (unraised s n fs)
  where
    go : (b : Bool) → (if b then Some f else page_of s fs) ≡ None → (page_of s fs ≡ None → raised s n fs ≡ fs)
        → (if b then record f { fill = n } else f) ∷ raised s n fs ≡ f ∷ fs
    go true e rest = absurd (none-some f (sym e))
    go false e rest = ap (λ (gs : List Fill). f ∷ gs) (rest e)
