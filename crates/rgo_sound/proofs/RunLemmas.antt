-- A property that each step keeps holds after a run if it holds at its start. With this lemma a law on every run, and so on every
-- schedule, is a law on one step.
use Rattle.std.proofs.Common.{◌≡◌, ℕ, List, [], ◌∷◌, Option, Some, None, subst, option_and_then}
use Rattle.std.proofs.lemmas.Option.{same_Some}
use Rattle.rgo_sound.proofs.plain.Steps.{Yields}
use Rattle.rgo_code.specs.Code.{Code}
use Rattle.rgo_machine.specs.Runs.{run}
use Rattle.rgo_region_machine.specs.Machine.{Event, region_step}
use Rattle.rgo_region_machine.specs.States.{RegionState}

module _ (code : Code) (page_words : ℕ) where
  pub run_keeps : (P : RegionState → Type 0) → ((s : RegionState) (e : Event) → P s
      → Yields P (region_step code page_words s e)) → (es : List Event) (s t : RegionState) → P s
      → run (region_step code page_words) s es ≡ Some t → P t
  run_keeps P step [] s t p r = subst P (same_Some s t r) p
  run_keeps P step (e ∷ es) s t p r = next (region_step code page_words s e) (step s e p) r
      (λ u p' r'. run_keeps P step es u t p' r')
    where
      next : (o : Option RegionState) → Yields P o → option_and_then (λ u. run (region_step code page_words) u es) o
          ≡ Some t → ((u : RegionState) → P u → run (region_step code page_words) u es ≡ Some t → P t) → P t
      next None y q k = cc
      next (Some u) y q k = k u y.fact q
