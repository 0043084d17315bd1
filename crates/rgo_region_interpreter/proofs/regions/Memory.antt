-- The memory that is kept, as regions and objects are made and regions are removed. Only the end of a last stake takes something away,
-- and it takes exactly the objects in the row of that region.
use Rattle.std.proofs.Common.{◌≡◌, ℕ, zero, suc, ◌+◌, ◌-◌, ◌<◌, ◌⊎◌, inl, inr, Bool, true, false, List, [], ◌∷◌, ◌++◌}
use Rattle.std.proofs.Common.{map}
use Rattle.std.proofs.Common.{length, Option, Some, None, refl, sym, ap, ◌∙◌, subst, arith, nat_eq, slice_get}
use Rattle.std.proofs.Common.{slice_set}
use Rattle.std.proofs.Common.{if◌then◌else◌}
use Rattle.std.specs.Option.{option_map}
use Rattle.std.proofs.lemmas.Bool.{false≢true, eq-eqb, ne_eqb, cases_eq}
use Rattle.rgo_memory.specs.Memory.{Object, StructObject, Memory, with_object}
use Rattle.rgo_region_machine.specs.declared.regions.Region.{Region}
use Rattle.rgo_region_machine.specs.declared.regions.Region.TheVariants.{Global as GlobalRegion, Numbered}
use Rattle.rgo_region_machine.specs.Counts.{is_removed}
use Rattle.rgo_region_machine.specs.Regions.{RegionInfo, same_region, is_live, with_info, with_added_stake, one_fewer}
use Rattle.rgo_region_machine.specs.Regions.{one_page_more}
use Rattle.rgo_sound.proofs.duties.Attends.{with_info_same, with_info_other}
use Rattle.rgo_region_interpreter.specs.Tables.{owned, is_gone_in, is_gone, kept_object, kept_heap, kept_memory, MemoryShows}
use Rattle.rgo_region_interpreter.specs.Tables.{without_objects, regions_with_page}
use Rattle.rgo_region_interpreter.proofs.regions.Rows.{is_some, live_info, same_is, owned_suc}

-- ---- which regions were removed

-- after a change of one region that does not remove it
pub gone_unchanged : (regions : List RegionInfo) (r : ℕ) (change : RegionInfo → RegionInfo)
    → ((info : RegionInfo) → slice_get regions r ≡ Some info → is_removed (change info) ≡ is_removed info)
    → (q : Region) → is_gone (with_info regions r change) q ≡ is_gone regions q
gone_unchanged regions r change same GlobalRegion = refl
gone_unchanged regions r change same (Numbered q) = go (cases_eq r q)
  where
    there : (o : Option RegionInfo) → slice_get regions r ≡ o → is_gone_in (option_map change o) ≡ is_gone_in o
    there None at = refl
    there (Some info) at = same info at

    here : is_gone_in (slice_get (with_info regions r change) r) ≡ is_gone_in (slice_get regions r)
    here = ap is_gone_in (with_info_same regions r change) ∙ there (slice_get regions r) refl

    go : (r ≡ q) ⊎ (r ≡ q → ⊥)
        → is_gone_in (slice_get (with_info regions r change) q) ≡ is_gone_in (slice_get regions q)
    go (inl e) =
        subst (λ q. is_gone_in (slice_get (with_info regions r change) q) ≡ is_gone_in (slice_get regions q)) e here
    go (inr differ) = ap is_gone_in (with_info_other regions r q change (ne_eqb r q differ))

pub gone_unchanged_at : (regions : List RegionInfo) (r : ℕ) (change : RegionInfo → RegionInfo) (info : RegionInfo)
    → slice_get regions r ≡ Some info → is_removed (change info) ≡ is_removed info
    → (q : Region) → is_gone (with_info regions r change) q ≡ is_gone regions q
gone_unchanged_at regions r change info at same =
    gone_unchanged regions r change
    (λ i is. subst (λ i. is_removed (change i) ≡ is_removed i) (is_some info i (sym at ∙ is)) same)

both_live : (n m : ℕ) → 0 < n → 0 < m → nat_eq n 0 ≡ nat_eq m 0
both_live n m some more = ne_eqb n 0 (λ e. omega (arith, e, some)) ∙ sym (ne_eqb m 0 (λ e. omega (arith, e, more)))

-- with a new region, in which there is a stake
pub gone_created : (regions : List RegionInfo) (info : RegionInfo) → is_removed info ≡ false
    → (q : Region) → is_gone (regions ++ info ∷ []) q ≡ is_gone regions q
gone_created regions info lives GlobalRegion = refl
gone_created regions info lives (Numbered q) = go regions q
  where
    go : (regions : List RegionInfo) (q : ℕ)
        → is_gone_in (slice_get (regions ++ info ∷ []) q) ≡ is_gone_in (slice_get regions q)
    go [] zero = lives
    go [] (suc q) = refl
    go (x ∷ regions) zero = refl
    go (x ∷ regions) (suc q) = go regions q

pub live_stays : (regions : List RegionInfo) (region : Region) → is_live regions region ≡ true
    → is_gone regions region ≡ false
live_stays regions GlobalRegion live = refl
live_stays regions (Numbered r) live =
    let x = live_info regions r live in
    ap is_gone_in x.1 ∙ ne_eqb x.0.stakes 0 (λ e. omega (arith, e, x.2))

-- ---- the same objects are kept

pub kept_same : (regions qs : List RegionInfo) → ((q : Region) → is_gone qs q ≡ is_gone regions q)
    → (owners : List Region) (heap : List Object) → kept_heap qs owners heap ≡ kept_heap regions owners heap
kept_same regions qs same [] heap = refl
kept_same regions qs same (owner ∷ owners) [] = refl
kept_same regions qs same (owner ∷ owners) (x ∷ heap) =
    ap (λ b. kept_object b x ∷ kept_heap qs owners heap) (same owner)
    ∙ ap (λ l. kept_object (is_gone regions owner) x ∷ l) (kept_same regions qs same owners heap)

module _ (m : Memory) (regions : List RegionInfo) (owners : List Region) (whole : Memory)
    (shows : MemoryShows m regions owners whole) where
  pub memory_same : (qs : List RegionInfo) → ((q : Region) → is_gone qs q ≡ is_gone regions q)
      → MemoryShows m qs owners whole
  memory_same qs same =
      shows ∙ ap (λ heap. record whole { heap = heap }) (sym (kept_same regions qs same owners whole.heap))

  -- with a new region
  pub memory_created : MemoryShows m (regions ++ record { stakes = 1; pages = 0 } ∷ []) owners whole
  memory_created =
      memory_same (regions ++ record { stakes = 1; pages = 0 } ∷ [])
      (gone_created regions (record { stakes = 1; pages = 0 }) refl)

  -- with one more stake in a live region
  pub memory_shared : (r : ℕ) → is_live regions (Numbered r) ≡ true
      → MemoryShows m (with_info regions r with_added_stake) owners whole
  memory_shared r live =
      let x = live_info regions r live in
      memory_same (with_info regions r with_added_stake)
      (gone_unchanged_at regions r with_added_stake x.0 x.1 (both_live (x.0.stakes + 1) x.0.stakes (omega arith) x.2))

  -- with one more page
  pub memory_paged : (region : Region) → MemoryShows m (regions_with_page regions region) owners whole
  memory_paged GlobalRegion = shows
  memory_paged (Numbered r) =
      memory_same (with_info regions r one_page_more) (gone_unchanged regions r one_page_more (λ info at. refl))

-- ---- a new object

pub kept_more : (regions : List RegionInfo) (region : Region) → is_gone regions region ≡ false → (object : Object)
    → (owners : List Region) (heap : List Object) → length owners ≡ length heap
    → kept_heap regions (owners ++ region ∷ []) (heap ++ object ∷ []) ≡ kept_heap regions owners heap ++ object ∷ []
kept_more regions region stays object [] [] same = ap (λ b. kept_object b object ∷ []) stays
kept_more regions region stays object [] (x ∷ heap) same = absurd (omega (arith, same))
kept_more regions region stays object (owner ∷ owners) [] same = absurd (omega (arith, same))
kept_more regions region stays object (owner ∷ owners) (x ∷ heap) same =
    ap (λ l. kept_object (is_gone regions owner) x ∷ l)
    (kept_more regions region stays object owners heap (omega (arith, same)))

-- in a live region
pub memory_owns : (m : Memory) (regions : List RegionInfo) (owners : List Region) (whole : Memory)
    → MemoryShows m regions owners whole → (region : Region) → is_live regions region ≡ true
    → length owners ≡ length whole.heap → (object : Object)
    → MemoryShows (record m { heap = m.heap ++ object ∷ [] }) regions (owners ++ region ∷ [])
    (record whole { heap = whole.heap ++ object ∷ [] })
memory_owns m regions owners whole shows region live same object =
    ap (λ (n : Memory). record n { heap = n.heap ++ object ∷ [] }) shows
    ∙ ap (λ heap. record whole { heap = heap })
    (sym (kept_more regions region (live_stays regions region live) object owners whole.heap same))

-- ---- a removal

abbrev emptied_all : List ℕ → List Object → List Object
emptied_all [] heap = heap
emptied_all (o ∷ os) heap = emptied_all os (slice_set heap o (StructObject []))

-- in the heap alone
without_heap : (os : List ℕ) (m : Memory) → without_objects os m ≡ record m { heap = emptied_all os m.heap }
without_heap [] m = refl
without_heap (o ∷ os) m = without_heap os (with_object m o (StructObject []))

emptied_none : (os : List ℕ) → emptied_all os [] ≡ []
emptied_none [] = refl
emptied_none (o ∷ os) = emptied_none os

emptied_after : (os : List ℕ) (x : Object) (heap : List Object)
    → emptied_all (map suc os) (x ∷ heap) ≡ x ∷ emptied_all os heap
emptied_after [] x heap = refl
emptied_after (o ∷ os) x heap = emptied_after os x (slice_set heap o (StructObject []))

-- without the objects of a region that is removed
module _ (regions qs : List RegionInfo) (r : ℕ) (gone : is_gone qs (Numbered r) ≡ true)
    (others : (q : Region) → same_region q (Numbered r) ≡ false → is_gone qs q ≡ is_gone regions q) where
  pub kept_removed : (owners : List Region) (heap : List Object)
      → emptied_all (owned (Numbered r) owners 0) (kept_heap regions owners heap) ≡ kept_heap qs owners heap
  kept_removed [] heap = refl
  kept_removed (owner ∷ owners) [] = emptied_none (owned (Numbered r) (owner ∷ owners) 0)
  kept_removed (owner ∷ owners) (x ∷ heap) = go (same_region owner (Numbered r)) refl (kept_removed owners heap)
    where
      later : (y : Object) → emptied_all (owned (Numbered r) owners 0) (kept_heap regions owners heap)
          ≡ kept_heap qs owners heap
          → emptied_all (owned (Numbered r) owners 1) (y ∷ kept_heap regions owners heap) ≡ y ∷ kept_heap qs owners heap
      later y rest =
          ap (λ os. emptied_all os (y ∷ kept_heap regions owners heap)) (owned_suc (Numbered r) owners 0)
          ∙ emptied_after (owned (Numbered r) owners 0) y (kept_heap regions owners heap) ∙ ap (λ l. y ∷ l) rest

      go : (b : Bool) → same_region owner (Numbered r) ≡ b
          → emptied_all (owned (Numbered r) owners 0) (kept_heap regions owners heap) ≡ kept_heap qs owners heap
          → emptied_all (if b then 0 ∷ owned (Numbered r) owners 1 else owned (Numbered r) owners 1)
          (kept_object (is_gone regions owner) x ∷ kept_heap regions owners heap)
          ≡ kept_object (is_gone qs owner) x ∷ kept_heap qs owners heap
      go true e rest =
          let now : is_gone qs owner ≡ true = ap (is_gone qs) (same_is owner r e) ∙ gone in
          later (StructObject []) rest ∙ ap (λ b. kept_object b x ∷ kept_heap qs owners heap) (sym now)
      go false e rest =
          later (kept_object (is_gone regions owner) x) rest
          ∙ ap (λ b. kept_object b x ∷ kept_heap qs owners heap) (sym (others owner e))

-- ---- the end of a stake

module _ (m : Memory) (regions : List RegionInfo) (owners : List Region) (whole : Memory)
    (shows : MemoryShows m regions owners whole) (r : ℕ) (info : RegionInfo)
    (at : slice_get regions r ≡ Some info) where
  now_at : slice_get (with_info regions r one_fewer) r ≡ Some (one_fewer info)
  now_at = with_info_same regions r one_fewer ∙ ap (option_map one_fewer) at

  -- that is not the last
  pub memory_left : 1 < info.stakes → MemoryShows m (with_info regions r one_fewer) owners whole
  memory_left more =
      memory_same m regions owners whole shows (with_info regions r one_fewer)
      (gone_unchanged_at regions r one_fewer info at
      (both_live (info.stakes - 1) info.stakes (omega (arith, more)) (omega (arith, more))))

  -- the last one
  pub memory_removed : info.stakes ≡ 1 → (os : List ℕ) → os ≡ owned (Numbered r) owners 0
      → MemoryShows (without_objects os m) (with_info regions r one_fewer) owners whole
  memory_removed one os is =
      ap (λ os. without_objects os m) is ∙ ap (without_objects (owned (Numbered r) owners 0)) shows
      ∙ without_heap (owned (Numbered r) owners 0) (kept_memory regions owners whole)
      ∙ ap (λ heap. record whole { heap = heap })
      (kept_removed regions (with_info regions r one_fewer) r gone others owners whole.heap)
    where
      gone : is_gone (with_info regions r one_fewer) (Numbered r) ≡ true
      gone = ap is_gone_in now_at ∙ ap (λ n. nat_eq (n - 1) 0) one

      others : (q : Region) → same_region q (Numbered r) ≡ false
          → is_gone (with_info regions r one_fewer) q ≡ is_gone regions q
      others GlobalRegion apart = refl
      others (Numbered q) apart =
          ap is_gone_in (with_info_other regions r q one_fewer
          (ne_eqb r q (λ e. false≢true (sym apart ∙ eq-eqb q r (sym e)))))
