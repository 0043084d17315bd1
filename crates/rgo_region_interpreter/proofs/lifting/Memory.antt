-- What the code keeps of the memory: objects of regions that are not removed are read and written in it as in the whole memory. Both
-- heaps have the same length, so a new object has the same number in both.
use Rattle.std.proofs.Common.{◌≡◌, ℕ, zero, suc, ◌≤◌, Bool, true, false, true≢false, List, [], ◌∷◌, ◌++◌, length}
use Rattle.std.proofs.Common.{Some, refl, sym, ap, ◌∙◌, arith, nat_eq, slice_get, slice_set, length-append}
use Rattle.std.proofs.lemmas.Option.{slice_get_within}
use Rattle.rgo_memory.specs.Memory.{Object, Memory, with_object}
use Rattle.rgo_region_machine.specs.declared.regions.Region.{Region}
use Rattle.rgo_region_machine.specs.Regions.{RegionInfo}
use Rattle.rgo_sound.proofs.Places.{get_append_left, get_set_other, length_set}
use Rattle.rgo_region_interpreter.specs.Tables.{is_gone, kept_object, kept_heap}

-- the object of this number is in no region that is gone
abbrev pub IsSafe : List RegionInfo → List Region → ℕ → Type 0
IsSafe regions owners o = (r : Region) → slice_get owners o ≡ Some r → is_gone regions r ≡ false

-- it is in one
abbrev pub IsLost : List RegionInfo → List Region → ℕ → Type 0
IsLost regions owners o = (r : Region) × (slice_get owners o ≡ Some r) × (is_gone regions r ≡ true)

-- none of these regions is gone
abbrev pub NoneGone : List RegionInfo → List Region → Type 0
NoneGone regions [] = Unit {0}
NoneGone regions (r ∷ rs) = (is_gone regions r ≡ false) × NoneGone regions rs

pub safe_not_lost : (regions : List RegionInfo) (owners : List Region) (o : ℕ) → IsSafe regions owners o
    → IsLost regions owners o → ⊥
safe_not_lost regions owners o safe (r, at, gone) = true≢false (sym gone ∙ safe r at)

module _ (regions : List RegionInfo) where
  kept_whole : (b : Bool) (object : Object) → b ≡ false → kept_object b object ≡ object
  kept_whole true object e = absurd (true≢false e)
  kept_whole false object e = refl

  pub kept_length : (owners : List Region) (heap : List Object) → length (kept_heap regions owners heap) ≡ length heap
  kept_length [] heap = refl
  kept_length (owner ∷ owners) [] = refl
  kept_length (owner ∷ owners) (object ∷ heap) = ap suc (kept_length owners heap)

  -- an object that is kept
  pub kept_get : (owners : List Region) (heap : List Object) (o : ℕ) → IsSafe regions owners o
      → slice_get (kept_heap regions owners heap) o ≡ slice_get heap o
  kept_get [] heap o safe = refl
  kept_get (owner ∷ owners) [] o safe = refl
  kept_get (owner ∷ owners) (object ∷ heap) zero safe =
      ap Some (kept_whole (is_gone regions owner) object (safe owner refl))
  kept_get (owner ∷ owners) (object ∷ heap) (suc o) safe = kept_get owners heap o safe

  pub kept_set : (owners : List Region) (heap : List Object) (o : ℕ) (object : Object) → IsSafe regions owners o
      → slice_set (kept_heap regions owners heap) o object ≡ kept_heap regions owners (slice_set heap o object)
  kept_set [] heap o object safe = refl
  kept_set (owner ∷ owners) [] o object safe = refl
  kept_set (owner ∷ owners) (old ∷ heap) zero object safe =
      ap (λ x. x ∷ kept_heap regions owners heap) (sym (kept_whole (is_gone regions owner) object (safe owner refl)))
  kept_set (owner ∷ owners) (old ∷ heap) (suc o) object safe =
      ap (λ xs. kept_object (is_gone regions owner) old ∷ xs) (kept_set owners heap o object safe)

  -- a new object
  pub kept_push : (owners : List Region) (heap : List Object) (object : Object) → length owners ≤ length heap
      → kept_heap regions owners heap ++ object ∷ [] ≡ kept_heap regions owners (heap ++ object ∷ [])
  kept_push [] heap object fits = refl
  kept_push (owner ∷ owners) [] object fits = absurd (omega (arith, fits))
  kept_push (owner ∷ owners) (old ∷ heap) object fits =
      ap (λ xs. kept_object (is_gone regions owner) old ∷ xs) (kept_push owners heap object (omega (arith, fits)))

  -- owners whose regions are not gone say nothing of what is kept
  kept_new : (more : List Region) (heap : List Object) → NoneGone regions more → kept_heap regions more heap ≡ heap
  kept_new [] heap none = refl
  kept_new (r ∷ more) [] none = refl
  kept_new (r ∷ more) (object ∷ heap) (here, none) =
      ap (λ x. x ∷ kept_heap regions more heap) (kept_whole (is_gone regions r) object here)
      ∙ ap (λ xs. object ∷ xs) (kept_new more heap none)

  pub kept_more : (owners more : List Region) (heap : List Object) → NoneGone regions more
      → kept_heap regions (owners ++ more) heap ≡ kept_heap regions owners heap
  kept_more [] more heap none = kept_new more heap none
  kept_more (owner ∷ owners) more [] none = refl
  kept_more (owner ∷ owners) more (object ∷ heap) none =
      ap (λ xs. kept_object (is_gone regions owner) object ∷ xs) (kept_more owners more heap none)

-- ---- what is gone stays as it is

-- the heap has not become shorter, and the objects of regions that are gone are as they were
pub record Steady (regions : List RegionInfo) (owners : List Region) (m n : Memory) : Type 0 where
  pub grows : length m.heap ≤ length n.heap
  pub same : (o : ℕ) → IsLost regions owners o → slice_get n.heap o ≡ slice_get m.heap o

module _ (regions : List RegionInfo) (owners : List Region) (m : Memory) where
  pub stays_steady : Steady regions owners m m
  stays_steady = record { grows = omega arith; same = λ o lost. refl }

  pub write_steady : (n : ℕ) (object : Object) → IsSafe regions owners n
      → Steady regions owners m (with_object m n object)
  write_steady n object safe = record {
    grows = let e = length_set m.heap n object in omega (arith, e);
    same = λ o lost. by o lost (nat_eq n o) refl;
  }
    where
      the_place : (o : ℕ) → nat_eq n o ≡ true → n ≡ o
      the_place o e = grind arith

      by : (o : ℕ) → IsLost regions owners o → (b : Bool) → nat_eq n o ≡ b
          → slice_get (slice_set m.heap n object) o ≡ slice_get m.heap o
      by o (r, at, gone) true e =
          absurd (safe_not_lost regions owners n safe (r, ap (slice_get owners) (the_place o e) ∙ at, gone))
      by o lost false e = get_set_other m.heap n o object e

  pub push_steady : (object : Object) → length owners ≤ length m.heap
      → Steady regions owners m (record m { heap = m.heap ++ object ∷ [] })
  push_steady object fits = record {
    grows = let e = length-append m.heap (object ∷ []) in omega (arith, e);
    same = λ o (r, at, gone). let below = slice_get_within owners o r at in
        get_append_left m.heap (object ∷ []) o (omega (arith, below, fits));
  }
