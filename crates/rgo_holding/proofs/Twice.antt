-- Regions that are given at two positions, as the code finds them from the back. The invariant has for each region whether it was seen
-- not at all, once or more often from the position on. The second time puts it on the list.
use Rattle.std.proofs.Common.{◌≡◌, ℕ, ◌+◌, ◌-◌, ◌<◌, ◌≤◌, Bool, true, false, not, ◌&&◌, ◌||◌, List, [], ◌∷◌, ⊎_elim, length, drop}
use Rattle.std.proofs.Common.{Option, Some, None, refl, sym, ap, ◌∙◌, arith, nat_eq, if◌then◌else◌, get_or, is_some, Result, Ok, Err, is_err, OnOk}
use Rattle.std.proofs.lemmas.Bool.{false_from_ne_true, true≢false, eqb-true, eq-eqb, ne_eqb, cases_eq}
use Rattle.std.proofs.lemmas.List.{at_drop_more}
use Rattle.std.specs.List.{list_any}
use Rattle.rgo_sound.specs.RegionMachine.declared.regions.Region.{Region}
use Rattle.rgo_sound.specs.RegionMachine.declared.regions.Region.TheVariants.{Global as GlobalRegion, Numbered}
use Rattle.rgo_sound.specs.RegionMachine.Owed.{stands_in, twice}
use Rattle.rgo_sound.specs.RegionMachine.Regions.{same_region}
use Rattle.rgo_sound.proofs.Tests.{nat_eq_refl}

-- ---- what was seen of the regions from the back

-- whether it was seen twice; None if it was not seen
abbrev pub seen_in : ℕ → List (Option Region) → Option Bool
seen_in r regions =
    if stands_in (Numbered r) regions then Some (list_any (same_region (Numbered r)) (twice regions)) else None

pub twice_at : (rs : List (Option Region)) (i : ℕ) (e : Option Region) → i < length rs
    → twice (drop i rs) ≡ twice (get_or rs i e ∷ drop (i + 1) rs)
twice_at rs i e h = at_drop_more twice rs i e h

pub seen_at : (r : ℕ) (rs : List (Option Region)) (i : ℕ) (e : Option Region) → i < length rs
    → seen_in r (drop i rs) ≡ seen_in r (get_or rs i e ∷ drop (i + 1) rs)
seen_at r rs i e h = at_drop_more (seen_in r) rs i e h

any_if : (r q : Region) (rs : List Region) (t : Bool)
    → list_any (same_region r) (if t then q ∷ rs else rs)
    ≡ (if t then same_region r q || list_any (same_region r) rs else list_any (same_region r) rs)
any_if r q rs true = refl
any_if r q rs false = refl

pub twice_stands : (r : ℕ) (rs : List (Option Region)) → list_any (same_region (Numbered r)) (twice rs) ≡ true
    → stands_in (Numbered r) rs ≡ true
twice_stands r [] h = h
twice_stands r (None ∷ rs) h = twice_stands r rs h
twice_stands r (Some GlobalRegion ∷ rs) h = twice_stands r rs h
twice_stands r (Some (Numbered q) ∷ rs) h =
    go (nat_eq r q) (stands_in (Numbered q) rs && not (list_any (same_region (Numbered q)) (twice rs)))
    (sym (any_if (Numbered r) (Numbered q) (twice rs) _) ∙ h) (twice_stands r rs)
  where
    go : (s t : Bool)
        → (if t then s || list_any (same_region (Numbered r)) (twice rs)
        else list_any (same_region (Numbered r)) (twice rs)) ≡ true
        → (list_any (same_region (Numbered r)) (twice rs) ≡ true → stands_in (Numbered r) rs ≡ true)
        → (s || stands_in (Numbered r) rs) ≡ true
    go true t e f = refl
    go false true e f = f e
    go false false e f = f e

-- a region that was not seen is not among those seen twice
not_twice : (r : ℕ) (rs : List (Option Region)) → stands_in (Numbered r) rs ≡ false
    → list_any (same_region (Numbered r)) (twice rs) ≡ false
not_twice r rs missing = false_from_ne_true _ (λ e. true≢false (sym (twice_stands r rs e) ∙ missing))

-- what is seen of a region once another one is added
pub seen_other : (q r : ℕ) (rs : List (Option Region)) → nat_eq r q ≡ false
    → seen_in r rs ≡ seen_in r (Some (Numbered q) ∷ rs)
seen_other q r rs differ =
    sym (ap (λ t. if t || stands_in (Numbered r) rs then Some (list_any (same_region (Numbered r)) (twice (Some (Numbered q) ∷ rs))) else None) differ
    ∙ ap (λ b. if stands_in (Numbered r) rs then Some b else None) (any_if (Numbered r) (Numbered q) (twice rs) _ ∙ go (stands_in (Numbered q) rs && not (list_any (same_region (Numbered q)) (twice rs)))))
  where
    go : (t : Bool) → (if t then nat_eq r q || list_any (same_region (Numbered r)) (twice rs) else list_any (same_region (Numbered r)) (twice rs))
        ≡ list_any (same_region (Numbered r)) (twice rs)
    go true = ap (λ s. s || list_any (same_region (Numbered r)) (twice rs)) differ
    go false = refl

-- it is now seen, and twice if it was seen before
pub seen_here : (q : ℕ) (rs : List (Option Region)) → Some (stands_in (Numbered q) rs) ≡ seen_in q (Some (Numbered q) ∷ rs)
seen_here q rs =
    sym (ap (λ t. if t || stands_in (Numbered q) rs then Some (list_any (same_region (Numbered q)) (twice (Some (Numbered q) ∷ rs))) else None) (nat_eq_refl q)
    ∙ ap Some (any_if (Numbered q) (Numbered q) (twice rs) _
    ∙ ap (λ s. if stands_in (Numbered q) rs && not (list_any (same_region (Numbered q)) (twice rs)) then s || list_any (same_region (Numbered q)) (twice rs) else list_any (same_region (Numbered q)) (twice rs)) (nat_eq_refl q)
    ∙ go (stands_in (Numbered q) rs) (list_any (same_region (Numbered q)) (twice rs)) (not_twice q rs) (twice_stands q rs)))
  where
    go : (s t : Bool) → (s ≡ false → t ≡ false) → (t ≡ true → s ≡ true) → (if s && not t then true || t else t) ≡ s
    go true true f g = refl
    go true false f g = refl
    go false true f g = sym (g refl)
    go false false f g = refl

-- which are seen twice, by what was seen before
abbrev pub adds : Option Bool → Bool
adds (Some false) = true
adds _ = false

pub twice_more : (q : ℕ) (rs : List (Option Region)) (o : Option Bool) → o ≡ seen_in q rs
    → twice (Some (Numbered q) ∷ rs) ≡ (if adds o then Numbered q ∷ twice rs else twice rs)
twice_more q rs o is =
    go (stands_in (Numbered q) rs) (list_any (same_region (Numbered q)) (twice rs))
    ∙ ap (λ o. if adds o then Numbered q ∷ twice rs else twice rs) (sym is)
  where
    go : (s t : Bool) → (if s && not t then Numbered q ∷ twice rs else twice rs)
        ≡ (if adds (if s then Some t else None) then Numbered q ∷ twice rs else twice rs)
    go true true = refl
    go true false = refl
    go false t = refl

-- ---- one step of the loop from the back

pub twice_step : (rs : List (Option Region)) (j q : ℕ) (o : Option Bool) → j < length rs
    → get_or rs j None ≡ Some (Numbered q) → o ≡ seen_in q (drop (j + 1) rs)
    → twice (drop j rs) ≡ (if adds o then Numbered q ∷ twice (drop (j + 1) rs) else twice (drop (j + 1) rs))
twice_step rs j q o h is seen =
    twice_at rs j None h ∙ ap (λ x. twice (x ∷ drop (j + 1) rs)) is ∙ twice_more q (drop (j + 1) rs) o seen

pub seen_step : (rs : List (Option Region)) (j q r : ℕ) → j < length rs
    → get_or rs j None ≡ Some (Numbered q)
    → seen_in r (drop j rs)
    ≡ (if nat_eq q r then Some (stands_in (Numbered q) (drop (j + 1) rs)) else seen_in r (drop (j + 1) rs))
seen_step rs j q r h is =
    seen_at r rs j None h ∙ ap (λ x. seen_in r (x ∷ drop (j + 1) rs)) is
    ∙ ⊎_elim
    (λ e. ap (λ x. seen_in x (Some (Numbered q) ∷ drop (j + 1) rs)) (sym e)
    ∙ sym (seen_here q (drop (j + 1) rs))
    ∙ sym (ap (λ t. if t then Some (stands_in (Numbered q) (drop (j + 1) rs)) else seen_in r (drop (j + 1) rs)) (eq-eqb q r e)))
    (λ n. sym (seen_other q r (drop (j + 1) rs) (ne_eqb r q (λ e. n (sym e))))
    ∙ sym (ap (λ t. if t then Some (stands_in (Numbered q) (drop (j + 1) rs)) else seen_in r (drop (j + 1) rs)) (ne_eqb q r n)))
    (cases_eq q r)

-- the place before i
pub next_seen : (rs : List (Option Region)) (i : ℕ) → 0 < i → i ≤ length rs
    → (i - 1 < length rs) × (drop i rs ≡ drop (i - 1 + 1) rs)
next_seen rs i more within =
    (omega (arith, more, within), ap (λ n. drop n rs) (omega (arith, more)))

-- a region that was not seen does not occur there
pub stands_from_none : (q : ℕ) (rs : List (Option Region)) → None ≡ seen_in q rs → stands_in (Numbered q) rs ≡ false
stands_from_none q rs e = go (stands_in (Numbered q) rs) _ e
  where
    go : (s t : Bool) → None ≡ (if s then Some t else None) → s ≡ false
    go true t e = absurd (true≢false (sym (ap is_some e)))
    go false t e = refl

pub stands_from_some : (q : ℕ) (rs : List (Option Region)) (b : Bool) → Some b ≡ seen_in q rs
    → stands_in (Numbered q) rs ≡ true
stands_from_some q rs b e = go (stands_in (Numbered q) rs) _ e
  where
    go : (s t : Bool) → Some b ≡ (if s then Some t else None) → s ≡ true
    go true t e = refl
    go false t e = absurd (true≢false (ap is_some e))

-- what was seen twice stays so with one place more
pub seen_still : (f : ℕ → Option Bool) (rs : List (Option Region)) (j q r : ℕ) → j < length rs
    → get_or rs j None ≡ Some (Numbered q) → Some true ≡ f q → ((k : ℕ) → f k ≡ seen_in k (drop (j + 1) rs))
    → f r ≡ seen_in r (drop j rs)
seen_still f rs j q r h at got same = go (nat_eq q r) refl ∙ sym (seen_step rs j q r h at)
  where
    go : (t : Bool) → nat_eq q r ≡ t
        → f r ≡ (if t then Some (stands_in (Numbered q) (drop (j + 1) rs)) else seen_in r (drop (j + 1) rs))
    go true e =
        ap f (sym (eqb-true q r e)) ∙ sym got
        ∙ ap Some (sym (stands_from_some q (drop (j + 1) rs) true (got ∙ same q)))
    go false e = same r

-- what holds if a call succeeded, which it did
pub since_ok : {A E : Type 0} (r : Result A E) (P : Type 0) → is_err r ≡ false → OnOk r P → P
since_ok (Ok a) P e h = h
since_ok (Err x) P e h = absurd (true≢false e)
