-- The rows of a table: of a live region, after a change of one region, and with one more region or object. A row's list of objects is
-- the machine's list of owners, filtered; a new object is at the end of both.
use Rattle.std.proofs.Common.{◌≡◌, ℕ, zero, suc, ◌+◌, ◌<◌, Bool, true, false, List, [], ◌∷◌, ◌++◌, map}
use Rattle.std.proofs.Common.{length, Option, Some, None, refl, sym, ap, ◌∙◌, arith, nat_eq, nat_lt, slice_get}
use Rattle.std.proofs.Common.{if◌then◌else◌}
use Rattle.std.specs.Option.{option_map}
use Rattle.std.proofs.lemmas.Bool.{false≢true, ltb-true, lt-ltb, eqb-true, eq-eqb}
use Rattle.rgo_region_machine.specs.declared.regions.Region.{Region}
use Rattle.rgo_region_machine.specs.declared.regions.Region.TheVariants.{Global as GlobalRegion, Numbered}
use Rattle.rgo_region_machine.specs.Regions.{RegionInfo, has_stakes, same_region, is_live, with_info}
use Rattle.rgo_sound.proofs.duties.Attends.{with_info_same, with_info_other}
use Rattle.rgo_sound.proofs.Places.{get_append_last}
use Rattle.rgo_region_interpreter.specs.declared.tables.Row.{Row}
use Rattle.rgo_region_interpreter.specs.Tables.{owned, RowView, row_view, row_if_live, row_of, AreMade}

-- ---- regions by number

pub is_some : {X : Type 0} (x y : X) → Some x ≡ Some y → x ≡ y
is_some x y e = cc

-- a live region was made, and has a stake
pub live_info : (regions : List RegionInfo) (r : ℕ) → is_live regions (Numbered r) ≡ true
    → (info : RegionInfo) × (slice_get regions r ≡ Some info) × (0 < info.stakes)
live_info regions r live = go (slice_get regions r) refl live
  where
    go : (o : Option RegionInfo) → slice_get regions r ≡ o → has_stakes o ≡ true
        → (info : RegionInfo) × (slice_get regions r ≡ Some info) × (0 < info.stakes)
    go None at has = absurd (false≢true has)
    go (Some info) at has = (info, at, ltb-true 0 info.stakes has)

pub same_is : (owner : Region) (r : ℕ) → same_region owner (Numbered r) ≡ true → owner ≡ Numbered r
same_is GlobalRegion r e = absurd (false≢true e)
same_is (Numbered q) r e = ap Numbered (eqb-true q r e)

pub other_after : {X : Type 0} (xs : List X) (x : X) (i : ℕ) → (i ≡ length xs → ⊥)
    → slice_get (xs ++ x ∷ []) i ≡ slice_get xs i
other_after [] x zero differ = absurd (differ refl)
other_after [] x (suc i) differ = refl
other_after (y ∷ xs) x zero differ = refl
other_after (y ∷ xs) x (suc i) differ = other_after xs x i (λ e. differ (omega (arith, e)))

-- ---- the objects of a region

-- of a region of which no object is
pub owned_none : (r : ℕ) (owners : List Region) (n : ℕ)
    → ((o : ℕ) → slice_get owners o ≡ Some (Numbered r) → ⊥) → owned (Numbered r) owners n ≡ []
owned_none r [] n none = refl
owned_none r (owner ∷ owners) n none =
    go (same_region owner (Numbered r)) refl (owned_none r owners (suc n) (λ o at. none (suc o) at))
  where
    go : (b : Bool) → same_region owner (Numbered r) ≡ b → owned (Numbered r) owners (suc n) ≡ []
        → (if b then n ∷ owned (Numbered r) owners (suc n) else owned (Numbered r) owners (suc n)) ≡ []
    go true e rest = absurd (none 0 (ap Some (same_is owner r e)))
    go false e rest = rest

-- with an object of another region
pub owned_other : (r owner : Region) (owners : List Region) (n : ℕ) → same_region owner r ≡ false
    → owned r (owners ++ owner ∷ []) n ≡ owned r owners n
owned_other r owner [] n apart = ap (λ b. if b then n ∷ [] else []) apart
owned_other r owner (o ∷ owners) n apart =
    ap (λ (l : List ℕ). if same_region o r then n ∷ l else l) (owned_other r owner owners (suc n) apart)

-- with one more object
pub owned_more : (r owner : Region) (owners : List Region) (n m : ℕ) → same_region owner r ≡ true
    → m ≡ n + length owners → owned r (owners ++ owner ∷ []) n ≡ owned r owners n ++ m ∷ []
owned_more r owner [] n m same is =
    let e : n ≡ m = omega (arith, is) in
    ap (λ b. if b then n ∷ [] else []) same ∙ ap (λ k. k ∷ []) e
owned_more r owner (o ∷ owners) n m same is =
    go (same_region o r) (owned_more r owner owners (suc n) m same (omega (arith, is)))
  where
    go : (b : Bool) → owned r (owners ++ owner ∷ []) (suc n) ≡ owned r owners (suc n) ++ m ∷ []
        → (if b then n ∷ owned r (owners ++ owner ∷ []) (suc n) else owned r (owners ++ owner ∷ []) (suc n))
        ≡ (if b then n ∷ owned r owners (suc n) else owned r owners (suc n)) ++ m ∷ []
    go true rest = ap (λ l. n ∷ l) rest
    go false rest = rest

-- if the first object has the next number
pub owned_suc : (r : Region) (owners : List Region) (n : ℕ) → owned r owners (suc n) ≡ map suc (owned r owners n)
owned_suc r [] n = refl
owned_suc r (owner ∷ owners) n = go (same_region owner r) (owned_suc r owners (suc n))
  where
    go : (b : Bool) → owned r owners (suc (suc n)) ≡ map suc (owned r owners (suc n))
        → (if b then suc n ∷ owned r owners (suc (suc n)) else owned r owners (suc (suc n)))
        ≡ map suc (if b then n ∷ owned r owners (suc n) else owned r owners (suc n))
    go true rest = ap (λ l. suc n ∷ l) rest
    go false rest = rest

-- ---- rows

-- of a region with stakes
pub row_live : (info : RegionInfo) (objects : List ℕ) → 0 < info.stakes
    → row_if_live (Some info) objects ≡ Some (info.stakes, info.pages, objects)
row_live info objects some =
    ap (λ b. if b then Some (info.stakes, info.pages, objects) else None) (lt-ltb 0 info.stakes some)

-- of a region without
pub row_removed : (info : RegionInfo) (objects : List ℕ) → info.stakes ≡ 0 → row_if_live (Some info) objects ≡ None
row_removed info objects none = ap (λ n. if nat_lt 0 n then Some (info.stakes, info.pages, objects) else None) none

-- a row is that of this region, with these objects
pub record IsRow (row : Row) (info : RegionInfo) (os : List ℕ) : Type 0 where
  pub stakes : row.stakes ≡ info.stakes
  pub pages : row.pages ≡ info.pages
  pub objects : row.objects.items ≡ os

pub row_is : (row : Row) (info : RegionInfo) (objects : List ℕ) → 0 < info.stakes
    → row_view (Some row) ≡ row_if_live (Some info) objects → IsRow row info objects
row_is row info objects some e =
    let v : (row.stakes, row.pages, row.objects.items) ≡ (info.stakes, info.pages, objects) =
    is_some _ _ (e ∙ row_live info objects some) in
    record {
      stakes = ap (λ (w : RowView). w.0) v;
      pages = ap (λ (w : RowView). w.1) v;
      objects = ap (λ (w : RowView). w.2) v;
    }

-- a live region has a row
pub row_found : (o : Option Row) (info : RegionInfo) (objects : List ℕ) → 0 < info.stakes
    → row_view o ≡ row_if_live (Some info) objects → (row : Row) × (o ≡ Some row) × IsRow row info objects
row_found None info objects some e = absurd (none _ (e ∙ row_live info objects some))
  where
    none : (v : RowView) → None ≡ Some v → ⊥
    none v e = cc
row_found (Some row) info objects some e = (row, refl, row_is row info objects some e)

pub row_view_of : (row : Row) (info : RegionInfo) (objects : List ℕ) → 0 < info.stakes → IsRow row info objects
    → row_view (Some row) ≡ row_if_live (Some info) objects
row_view_of row info objects some is =
    let e : row_view (Some row) ≡ Some (info.stakes, info.pages, objects) =
    ap (λ s. Some (s, row.pages, row.objects.items)) is.stakes
    ∙ ap (λ p. Some (info.stakes, p, row.objects.items)) is.pages
    ∙ ap (λ l. Some (info.stakes, info.pages, l)) is.objects in
    e ∙ sym (row_live info objects some)

-- the row of a region after a change of one region
pub row_changed : (regions : List RegionInfo) (owners : List Region) (r : ℕ) (info : RegionInfo)
    (change : RegionInfo → RegionInfo) → slice_get regions r ≡ Some info
    → row_of (with_info regions r change) owners r ≡ row_if_live (Some (change info)) (owned (Numbered r) owners 0)
row_changed regions owners r info change at =
    ap (λ o. row_if_live o (owned (Numbered r) owners 0))
    (with_info_same regions r change ∙ ap (option_map change) at)

pub row_unchanged : (regions : List RegionInfo) (owners : List Region) (r : ℕ)
    (change : RegionInfo → RegionInfo) (q : ℕ)
    → nat_eq r q ≡ false → row_of (with_info regions r change) owners q ≡ row_of regions owners q
row_unchanged regions owners r change q apart =
    ap (λ o. row_if_live o (owned (Numbered q) owners 0)) (with_info_other regions r q change apart)

-- with a new region
pub row_created : (regions : List RegionInfo) (owners : List Region) (info : RegionInfo) → AreMade regions owners
    → row_of (regions ++ info ∷ []) owners (length regions) ≡ row_if_live (Some info) []
row_created regions owners info made =
    ap (λ o. row_if_live o (owned (Numbered (length regions)) owners 0))
    (get_append_last regions info (length regions) refl)
    ∙ ap (row_if_live (Some info))
    (owned_none (length regions) owners 0
    (λ o at. let k : length regions < length regions = made o (length regions) at in absurd (omega (arith, k))))

pub row_not_created : (regions : List RegionInfo) (owners : List Region) (info : RegionInfo) (q : ℕ)
    → nat_eq (length regions) q ≡ false → row_of (regions ++ info ∷ []) owners q ≡ row_of regions owners q
row_not_created regions owners info q apart =
    ap (λ o. row_if_live o (owned (Numbered q) owners 0))
    (other_after regions info q
    (λ e. false≢true (sym apart ∙ eq-eqb (length regions) q (sym e))))

-- with a new object
pub row_owns : (regions : List RegionInfo) (owners : List Region) (r : ℕ) (info : RegionInfo)
    → slice_get regions r ≡ Some info
    → row_of regions (owners ++ Numbered r ∷ []) r
    ≡ row_if_live (Some info) (owned (Numbered r) owners 0 ++ length owners ∷ [])
row_owns regions owners r info at =
    ap (λ o. row_if_live o (owned (Numbered r) (owners ++ Numbered r ∷ []) 0)) at
    ∙ ap (row_if_live (Some info))
    (owned_more (Numbered r) (Numbered r) owners 0 (length owners) (eq-eqb r r refl) (omega arith))

pub row_owns_no_more : (regions : List RegionInfo) (owners : List Region) (owner : Region) (q : ℕ)
    → same_region owner (Numbered q) ≡ false → row_of regions (owners ++ owner ∷ []) q ≡ row_of regions owners q
row_owns_no_more regions owners owner q apart =
    ap (row_if_live (slice_get regions q)) (owned_other (Numbered q) owner owners 0 apart)
