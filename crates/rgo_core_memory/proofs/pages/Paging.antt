-- How many pages are claimed for a slot, after a page is claimed or freed: by induction over the pages, each with one test.
use Rattle.std.proofs.Common.{◌≡◌, ◌≢◌, ℕ, zero, suc, ◌<◌, ◌==◌, Bool, true, false, List, Some, slice_get, if◌then◌else◌, refl, ap, sym, ◌∙◌, arith}
use Rattle.std.proofs.lemmas.Bool.Decides.{nat_tests}
use Rattle.std.proofs.lemmas.Option.{same_Some}
use mathlib.Core.Logic.{dite}
use native.Mathlib.Decide.{ℕ_discrete}
use Rattle.rgo_sound.specs.RegionMachine.Regions.{RegionInfo, with_info}
use Rattle.rgo_core_memory.specs.declared.layout.TableSizes.{TableSizes}
use Rattle.rgo_core_memory.specs.Words.{put_at}
use Rattle.rgo_core_memory.specs.Parts.{pages_at, Paged}
use Rattle.rgo_core_memory.proofs.regions.Infos.{info_here, info_else}
use Rattle.rgo_core_memory.proofs.Puts.{put_here, put_else}

-- one page more, or none more
one_more_at : (states : ℕ → ℕ) (n s : ℕ) → states n ≡ suc s → pages_at states (suc n) s ≡ suc (pages_at states n s)
one_more_at states n s e = go (states n == suc s) (grind (arith, nat_tests))
  where
    go : (b : Bool) → b ≡ true → (if b then suc (pages_at states n s) else pages_at states n s) ≡ suc (pages_at states n s)
    go b e = rw e refl

none_more_at : (states : ℕ → ℕ) (n s : ℕ) → states n ≢ suc s → pages_at states (suc n) s ≡ pages_at states n s
none_more_at states n s e = go (states n == suc s) (grind (arith, nat_tests))
  where
    go : (b : Bool) → b ≡ false → (if b then suc (pages_at states n s) else pages_at states n s) ≡ pages_at states n s
    go b e = rw e refl

-- if no other page is newly claimed for the slot, and none is freed
pub same_at : (states more : ℕ → ℕ) (n s : ℕ) → ((p : ℕ) → p < n → states p ≡ suc s → more p ≡ suc s) → ((p : ℕ) → p < n → more p ≡ suc s
    → states p ≡ suc s)
    → pages_at more n s ≡ pages_at states n s
same_at states more zero s to from = refl
same_at states more (suc n) s to from =
    let next = same_at states more n s (λ p l. to p (omega arith)) (λ p l. from p (omega arith)) in
    dite (ℕ_discrete (states n) (suc s))
    (λ e. let a = one_more_at states n s e in let b = one_more_at more n s (to n (omega arith) e) in omega (arith, a, b, next))
    (λ m. let a = none_more_at states n s m in let b = none_more_at more n s (λ y. m (from n (omega arith) y)) in omega (arith, a, b, next))

pub none_at : (states : ℕ → ℕ) (n s : ℕ) → ((p : ℕ) → p < n → states p ≢ suc s) → pages_at states n s ≡ 0
none_at states zero s never = refl
none_at states (suc n) s never = let a = none_more_at states n s (never n (omega arith)) in let b = none_at states n s (λ p l. never p
    (omega arith)) in omega (arith, a, b)

pub other_at : (states : ℕ → ℕ) (p v n s : ℕ) → states p ≢ suc s → v ≢ suc s → pages_at (put_at states p v) n s ≡ pages_at states n s
other_at states p v n s old new = same_at states (put_at states p v) n s
    (λ q l e. put_else states p v q (λ y. old (ap states (sym y) ∙ e)) ∙ e)
    (λ q l e. dite (ℕ_discrete q p) (λ y. absurd (new (sym (put_here states p v q y) ∙ e))) (λ m. sym (put_else states p v q m) ∙ e))

pub more_at : (states : ℕ → ℕ) (p n s : ℕ) → p < n → states p ≢ suc s → pages_at (put_at states p (suc s)) n s ≡ suc (pages_at states n s)
more_at states p zero s l old = absurd (omega arith)
more_at states p (suc n) s l old = dite (ℕ_discrete n p)
    (λ e.
    let a = one_more_at (put_at states p (suc s)) n s (put_here states p (suc s) n e) in
    let b = none_more_at states n s (λ y. old (ap states (sym e) ∙ y)) in
    let c = same_at states (put_at states p (suc s)) n s (λ q m y. put_else states p (suc s) q (λ u. omega arith)
    ∙ y) (λ q m y. sym (put_else states p (suc s) q (λ u. omega arith)) ∙ y) in
    omega (arith, a, b, c))
    (λ ne.
    let next = more_at states p n s (omega (arith, ne)) old in
    let same : put_at states p (suc s) n ≡ states n = put_else states p (suc s) n ne in
    dite (ℕ_discrete (states n) (suc s))
    (λ e. let a = one_more_at states n s e in let b = one_more_at (put_at states p (suc s)) n s (same ∙ e) in omega (arith, a, b, next))
    (λ m. let a = none_more_at states n s m in let b = none_more_at (put_at states p (suc s)) n s (λ y. m (sym same ∙ y)) in omega (arith, a, b, next)))

-- one region changes, but not its pages
pub paged_change : (z : TableSizes) (states : ℕ → ℕ) (regions : List RegionInfo) (global_pages : ℕ) (slot : ℕ → ℕ) (k : ℕ) (change : RegionInfo
    → RegionInfo) (info : RegionInfo)
    → Paged z states regions global_pages slot → slice_get regions k ≡ Some info → 0 < info.stakes → ((i : RegionInfo) → (change i).pages ≡ i.pages)
    → Paged z states (with_info regions k change) global_pages slot
paged_change z states regions global_pages slot k change info c there lives same = record {
  live = λ j other e l. dite (ℕ_discrete j k)
      (λ y.
      let is : change info ≡ other = same_Some (change info) other (sym (info_here regions k change info there)
      ∙ (ap (slice_get (with_info regions k change)) (sym y) ∙ e)) in
      ap (λ (i : RegionInfo). i.pages) (sym is) ∙ (same info ∙ (c.live k info there lives
      ∙ ap (λ (m : ℕ). pages_at states z.pages (slot m)) (sym y))))
      (λ n. c.live j other (sym (info_else regions k j change n) ∙ e) l);
  global = c.global;
}
