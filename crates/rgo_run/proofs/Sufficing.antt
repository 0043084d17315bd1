-- How many pages and regions are enough: one more would exceed the bounds on what a run makes. If a page is lacking, the machine
-- without limits can still take it, and `safety` bounds the pages after that step. The bound is the same before it, since a page leaves
-- the three-address state as it was.
use Rattle.std.proofs.Common.{◌≡◌, ℕ, zero, suc, ◌+◌, ◌*◌, [], ◌∷◌, ◌++◌, length, max, sum_by, Option, Some, None, refl, ap}
use Rattle.std.proofs.Common.{◌∙◌, subst, arith}
use Rattle.std.specs.Prelude.{IsSome, option_and_then}
use Rattle.rgo_machine.specs.declared.limits.Sizes.{Sizes}
use Rattle.rgo_machine.specs.declared.picks.Pick.TheVariants.{One}
use Rattle.rgo_machine.specs.declared.limits.Shortage.TheVariants as shortage
use Rattle.rgo_tac.specs.Tac.{TacState}
use Rattle.rgo_code.specs.Checked.{IsChecked}
use Rattle.rgo_code.specs.Code.{Code}
use Rattle.rgo_code.specs.NameRules.{Ascends}
use Rattle.rgo_region_machine.specs.Machine.{Event, TakePage, next_object, object_made, plain_step, region_start, region_step}
use Rattle.rgo_region_machine.specs.Objects.{new_object}
use Rattle.rgo_region_machine.specs.Room.{enough_pages, most_next, most_of, pages_before, pages_of}
use Rattle.rgo_region_machine.specs.States.{RegionState}
use Rattle.rgo_sound.proofs.counts.Regions.{regions_to_come}
use Rattle.rgo_sound.proofs.plain.Steps.{Follows, Yields, step_follows}
use Rattle.rgo_sound.proofs.Safe.{safety}
use Rattle.rgo_sound.proofs.counts.Tally.{tally_adds}
use Rattle.rgo_region_interpreter.proofs.owing.Attending.{leads_append}
use Rattle.rgo_run.specs.Headline.{AlwaysHas}
use Rattle.rgo_run.specs.Runs.{IsCodeFor, Runnable, of_code, of_program}
use Rattle.rgo_run.specs.Sufficing.{Always, FewPages, FewSteps, FewSuffice}

-- the value that exists
there : {T : Type 0} (o : Option T) → IsSome o → (x : T) × (o ≡ Some x)
there None some = cc
there (Some x) some = (x, refl)

one_step : (code : Code) (page_words : ℕ) (s t : RegionState) (event : Event)
    → region_step code page_words s event ≡ Some t
    → option_and_then (λ u. Some u) (region_step code page_words s event) ≡ Some t
one_step code page_words s t event e = ap (option_and_then (λ u. Some u)) e

-- code that runs keeps all rules, and its names ascend
keeps : (what : Runnable) (code : Code) → IsCodeFor what code → IsChecked code × Ascends code
keeps (of_program program) code is = (is.checked, is.ascends)
keeps (of_code given) code is = (is.1, is.2)

-- ---- the bound on pages, of two states with the same three-address state

module _ (code : Code) (page_words : ℕ) (s t : RegionState) (same : t.plain ≡ s.plain) where
  same_made : (o : Option TacState) → object_made t o ≡ object_made s o
  same_made None = refl
  same_made (Some next) = ap (λ p. new_object p next) same

  same_object : (g : ℕ) → next_object code t g ≡ next_object code s g
  same_object g =
      same_made (plain_step code t.plain (One g)) ∙ ap (λ p. object_made s (plain_step code p (One g))) same

  same_next : (n : ℕ) → most_next code page_words t n ≡ most_next code page_words s n
  same_next zero = refl
  same_next (suc n) =
      ap (λ o. max (pages_before page_words o) (most_next code page_words t n)) (same_object n)
      ∙ ap (max (pages_before page_words (next_object code s n))) (same_next n)

  same_enough : enough_pages code page_words t ≡ enough_pages code page_words s
  same_enough =
      ap (λ (p : TacState). sum_by (pages_of page_words) p.memory.heap
      + max (most_of page_words p.memory.heap) (most_next code page_words t (length p.goroutines)) * length p.goroutines) same
      ∙ ap (λ n. sum_by (pages_of page_words) s.plain.memory.heap
      + max (most_of page_words s.plain.memory.heap) n * length s.plain.goroutines) (same_next (length s.plain.goroutines))

-- ---- what is enough

pages : (sizes : Sizes) (what : Runnable) → Always sizes what (FewPages sizes)
    → AlwaysHas sizes what shortage.Pages
pages sizes what few code is_code events s run lacks =
    let kept = keeps what code is_code in
    let next = there (region_step code sizes.page_words s (TakePage lacks.0)) lacks.1 in
    let t = next.0 in
    let longer = leads_append (region_step code sizes.page_words) events (TakePage lacks.0 ∷ []) (region_start code) s t run
    (one_step code sizes.page_words s t (TakePage lacks.0) next.1) in
    let safe = safety code sizes.page_words (events ++ TakePage lacks.0 ∷ []) t kept.0 kept.1 longer in
    let adds = tally_adds code sizes.page_words s t (TakePage lacks.0) next.1 in
    let taken = ap (λ c. c.taken) adds in
    let follows = subst (Yields (Follows code sizes.page_words s (TakePage lacks.0))) next.1
    (step_follows code sizes.page_words s (TakePage lacks.0)) in
    let enough = same_enough code sizes.page_words s t follows.fact.plain in
    omega (arith, safe.counts.pages, taken, enough, few code events s is_code run, lacks.2)

regions : (sizes : Sizes) (what : Runnable) → Always sizes what (FewSteps sizes)
    → AlwaysHas sizes what shortage.Regions
regions sizes what few code is_code events s run lacks =
    let kept = keeps what code is_code in
    let come = regions_to_come code sizes.page_words events s lacks.0 lacks.1 lacks.2 lacks.3 kept.0
    kept.1 run lacks.4 lacks.5 in
    omega (arith, come, few code events s is_code run, lacks.6)

pub few_suffice : FewSuffice
few_suffice = record { pages = pages; regions = regions }
