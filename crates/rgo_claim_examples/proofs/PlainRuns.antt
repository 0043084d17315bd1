-- A region run without its regions, its print and its ends: one step of the three-address machine for each instruction. Steps after the
-- end mark count as well, which is why print and ends are left out.
use Rattle.std.proofs.Common.{◌≡◌, ℕ, ◌+◌, List, [], ◌∷◌, length, Option, Some, None, refl, sym, ap, ◌∙◌}
use Rattle.std.proofs.Common.{subst, arith, slice_get}
use Rattle.std.specs.Prelude.{option_and_then}
use Rattle.std.proofs.lemmas.Option.{same_Some}
use Rattle.rgo_machine.specs.declared.picks.Pick.{Pick}
use Rattle.rgo_machine.specs.Runs.{run}
use Rattle.rgo_tac.specs.Tac.{TacState, tac}
use Rattle.rgo_code.specs.Code.{Code}
use Rattle.rgo_code.specs.Erasure.{erased}
use Rattle.rgo_region_machine.specs.Machine.{Acknowledge, Attend, Event, Finish, Instruct, MakeOffer, TakePage}
use Rattle.rgo_region_machine.specs.Machine.{region_step}
use Rattle.rgo_region_machine.specs.States.{RegionState}
use Rattle.rgo_sound.specs.Tally.{share_of}
use Rattle.rgo_sound.specs.Tally.{share_of_plain}
use Rattle.rgo_sound.proofs.plain.Steps.{Follows, Keeps, Yields, step_follows}
use Rattle.rgo_sound.proofs.counts.Tally.{none_of_holder, tally_adds}
use Rattle.rgo_claim_examples.proofs.Quiet.{quiet, quiet_of, quiet_step}

-- ---- one event

module _ (code : Code) (page_words : ℕ) where
  -- picks that lead from the plain part of one state to that of the other, one for each instruction
  pub record PlainRun (s t : RegionState) : Type 0 where
    pub picks : List Pick
    pub leads : run (quiet_step (tac (erased code))) (quiet s.plain) picks ≡ Some (quiet t.plain)
    pub steps : t.steps ≡ s.steps + length picks

  stays : (event : Event) (s t : RegionState) → region_step code page_words s event ≡ Some t → Keeps s t
      → (share_of code s event).steps ≡ 0 → PlainRun s t
  stays event s t e keeps none =
      let steps = ap (λ c. c.steps) (tally_adds code page_words s t event e) in
      record { picks = []; leads = ap (λ p. Some (quiet p)) (sym keeps.plain); steps = omega (arith, steps, none) }

  one : (event : Event) (s t : RegionState) → region_step code page_words s event ≡ Some t
      → Follows code page_words s event t → PlainRun s t
  one (Instruct pick) s t e f =
      let steps = ap (λ c. c.steps) (tally_adds code page_words s t (Instruct pick) e) in
      let one_more = ap (λ o. (share_of_plain s o).steps) f.1 in
      record {
        picks = pick ∷ [];
        leads =
            ap (option_and_then (λ u. Some u)) (quiet_of (tac (erased code)) s.plain pick f.0 f.1)
            ∙ ap (λ p. Some (quiet p)) (sym f.2.plain);
        steps = omega (arith, steps, one_more);
      }
  one (Attend g) s t e f = stays (Attend g) s t e f (none_of_holder s (slice_get s.holders g))
  one (TakePage g) s t e f = stays (TakePage g) s t e f refl
  one (MakeOffer g) s t e f = stays (MakeOffer g) s t e f refl
  one (Acknowledge g) s t e f = stays (Acknowledge g) s t e f refl
  one (Finish limit) s t e f =
      let steps = ap (λ c. c.steps) (tally_adds code page_words s t (Finish limit) e) in
      record { picks = []; leads = ap (λ p. Some (quiet p)) (sym f.0); steps = omega (arith, steps) }

  -- ---- a run

  one_more : (pick : Pick) (picks : List Pick) (p q r : TacState)
      → quiet_step (tac (erased code)) p pick ≡ Some q → run (quiet_step (tac (erased code))) q picks ≡ Some r
      → run (quiet_step (tac (erased code))) p (pick ∷ picks) ≡ Some r
  one_more pick picks p q r e f = ap (option_and_then (λ v. run (quiet_step (tac (erased code))) v picks)) e ∙ f

  pub joined : (first rest : List Pick) (p q r : TacState) → run (quiet_step (tac (erased code))) p first ≡ Some q
      → run (quiet_step (tac (erased code))) q rest ≡ Some r
      → (picks : List Pick) × (run (quiet_step (tac (erased code))) p picks ≡ Some r)
      × (length picks ≡ length first + length rest)
  joined [] rest p q r e f =
      let is = same_Some p q e in
      (rest, subst (λ u. run (quiet_step (tac (erased code))) u rest ≡ Some r) (sym is) f, omega arith)
  joined (pick ∷ first) rest p q r e f =
      by (quiet_step (tac (erased code)) p pick) refl e (λ u e. joined first rest u q r e f)
    where
      by : (o : Option TacState) → quiet_step (tac (erased code)) p pick ≡ o
          → option_and_then (λ v. run (quiet_step (tac (erased code))) v first) o ≡ Some q
          → ((u : TacState) → run (quiet_step (tac (erased code))) u first ≡ Some q
          → (picks : List Pick) × (run (quiet_step (tac (erased code))) u picks ≡ Some r)
          × (length picks ≡ length first + length rest))
          → (picks : List Pick) × (run (quiet_step (tac (erased code))) p picks ≡ Some r)
          × (length picks ≡ length (pick ∷ first) + length rest)
      by None is e next = absurd cc
      by (Some u) is e next =
          let n = next u e in
          (pick ∷ n.0, one_more pick n.0 p u r is n.1, omega (arith, n.2))

  both : (s u t : RegionState) → PlainRun s u → PlainRun u t → PlainRun s t
  both s u t a b =
      let j = joined a.picks b.picks (quiet s.plain) (quiet u.plain) (quiet t.plain) a.leads b.leads in
      record { picks = j.0; leads = j.1; steps = omega (arith, a.steps, b.steps, j.2) }

  pub plain_run : (events : List Event) (s t : RegionState) → run (region_step code page_words) s events ≡ Some t
      → PlainRun s t
  plain_run [] s t e =
      subst (λ u. PlainRun s u) (same_Some s t e) (record { picks = []; leads = refl; steps = omega arith })
  plain_run (event ∷ events) s t e =
      by (region_step code page_words s event) refl (step_follows code page_words s event) e
      (λ u. plain_run events u t)
    where
      by : (o : Option RegionState) → region_step code page_words s event ≡ o
          → Yields (Follows code page_words s event) o
          → option_and_then (λ u. run (region_step code page_words) u events) o ≡ Some t
          → ((u : RegionState) → run (region_step code page_words) u events ≡ Some t → PlainRun u t)
          → PlainRun s t
      by None is y e next = absurd cc
      by (Some u) is y e next = both s u t (one event s u is y.fact) (next u e)
