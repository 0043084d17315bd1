-- If no object is spread, as many pages are enough as there are objects and goroutines: each object then counts for one page, and so
-- does the largest.
use Rattle.std.proofs.Common.{◌≡◌, ℕ, zero, suc, ◌+◌, ◌-◌, ◌*◌, ◌/◌, false, List, [], ◌∷◌, length, max, Option, Some, None}
use Rattle.std.proofs.Common.{refl, ap, ◌∙◌, arith, slice_get, sum_by, if◌then◌else◌}
use Rattle.std.proofs.lemmas.List.Sums.{sum_by-cons}
use Rattle.rgo_memory.specs.Memory.{Object}
use Rattle.rgo_code.specs.Code.{Code}
use Rattle.rgo_region_machine.specs.Machine.{next_object}
use Rattle.rgo_region_machine.specs.Objects.{cells, is_spread}
use Rattle.rgo_region_machine.specs.Room.{most_next, most_of, pages_before, pages_of}
use Rattle.rgo_region_machine.specs.States.{RegionState}
use Rattle.rgo_sound.specs.Safety.{WholeIsEnough}

one_page : (page_words : ℕ) (object : Object) → is_spread page_words object ≡ false → pages_of page_words object ≡ 1
one_page page_words object w = ap (λ b. (if b then (cells object - 1) / page_words + 1 else 0) + 1) w

module _ (page_words : ℕ) where
  sum_whole : (heap : List Object)
      → ((o : ℕ) (object : Object) → slice_get heap o ≡ Some object → is_spread page_words object ≡ false)
      → sum_by (pages_of page_words) heap ≡ length heap
  sum_whole [] h = refl
  sum_whole (x ∷ heap) h =
      let a = sum_by-cons (pages_of page_words) x heap in
      let b = one_page page_words x (h 0 x refl) in
      let c = sum_whole heap (λ o object e. h (suc o) object e) in
      omega (arith, a, b, c)

  most_whole : (heap : List Object)
      → ((o : ℕ) (object : Object) → slice_get heap o ≡ Some object → is_spread page_words object ≡ false)
      → most_of page_words heap ≡ 1
  most_whole [] h = refl
  most_whole (x ∷ heap) h =
      let a = one_page page_words x (h 0 x refl) in
      let b = most_whole heap (λ o object e. h (suc o) object e) in
      ap (λ n. max n (most_of page_words heap)) a ∙ ap (max 1) b

  next_whole : (code : Code) (s : RegionState)
      → ((g : ℕ) (object : Object) → next_object code s g ≡ Some object → is_spread page_words object ≡ false) → (n : ℕ)
      → most_next code page_words s n ≡ 1
  next_whole code s h zero = refl
  next_whole code s h (suc n) =
      ap (λ m. max m (most_next code page_words s n)) (one (next_object code s n) (λ object e. h n object e))
      ∙ ap (max 1) (next_whole code s h n)
    where
      one : (o : Option Object) → ((object : Object) → o ≡ Some object → is_spread page_words object ≡ false)
          → pages_before page_words o ≡ 1
      one None h = refl
      one (Some x) h = one_page page_words x (h x refl)

pub whole_is_enough : WholeIsEnough
whole_is_enough code page_words s made next =
    let a = sum_whole page_words s.plain.memory.heap made in
    let b : max (most_of page_words s.plain.memory.heap)
    (most_next code page_words s (length s.plain.goroutines)) * length s.plain.goroutines ≡ 1 * length s.plain.goroutines =
    ap (λ m. max m (most_next code page_words s (length s.plain.goroutines)) * length s.plain.goroutines)
    (most_whole page_words s.plain.memory.heap made)
    ∙ ap (λ m. max 1 m * length s.plain.goroutines) (next_whole page_words code s next (length s.plain.goroutines)) in
    omega (arith, a, b)
