-- The three-address machine's part of a region run has never ended: an end is a mark, and steps may follow it. It follows from the form
-- of the step: `plain_after` clears the end each time.
use Rattle.std.proofs.Common.{ℕ, refl, ap, ◌∙◌}
use Rattle.rgo_code.specs.Code.{Code}
use Rattle.rgo_region_machine.specs.Machine.{Acknowledge, Attend, Event, Finish, Instruct, MakeOffer, TakePage, region_step}
use Rattle.rgo_region_machine.specs.States.{RegionState}
use Rattle.rgo_sound.proofs.plain.Steps.{Follows, Yields, step_follows, yields_from, yields_is}
use Rattle.rgo_sound.specs.Running.{IsRunning, RunsOn}
use Rattle.rgo_tac.specs.Tac.{TacState}

follows_running : (code : Code) (page_words : ℕ) (s : RegionState) (event : Event) (t : RegionState) → IsRunning s
    → Follows code page_words s event t → IsRunning t
follows_running code page_words s (Instruct pick) t r f = ap (λ (p : TacState). p.ended) f.2.plain
follows_running code page_words s (Finish limit) t r f = ap (λ (p : TacState). p.ended) f.0 ∙ r
follows_running code page_words s (Attend g) t r f = ap (λ (p : TacState). p.ended) f.plain ∙ r
follows_running code page_words s (TakePage g) t r f = ap (λ (p : TacState). p.ended) f.plain ∙ r
follows_running code page_words s (MakeOffer g) t r f = ap (λ (p : TacState). p.ended) f.plain ∙ r
follows_running code page_words s (Acknowledge g) t r f = ap (λ (p : TacState). p.ended) f.plain ∙ r

pub running_step : (code : Code) (page_words : ℕ) (s : RegionState) (event : Event) → IsRunning s
    → Yields IsRunning (region_step code page_words s event)
running_step code page_words s event r =
    yields_from {P = Follows code page_words s event} {Q = IsRunning} (region_step code page_words s event)
    (step_follows code page_words s event) (λ t f. follows_running code page_words s event t r f)

pub runs_on : RunsOn
runs_on = record {
  start = λ code. refl;
  step = λ code page_words s t event running e.
      yields_is (region_step code page_words s event) t (running_step code page_words s event running) e;
}
