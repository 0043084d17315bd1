-- Runs within the limits that grow by an event. A beginning of the shorter run is one of the longer run, so prints and ends are kept.
use Rattle.std.proofs.Common.{◌≡◌, ℕ, Bool, false, true, List, [], ◌∷◌, ◌++◌, Option, Some, None, if◌then◌else◌, option_and_then, refl, ap, sym, ◌∙◌, append_assoc}
use Rattle.std.proofs.lemmas.List.{append-nil}
use Rattle.std.proofs.lemmas.Option.{same_Some}
use Rattle.rgo_sound.specs.Code.Code.{Code}
use Rattle.rgo_sound.specs.Machine.Limits.{is_within}
use Rattle.rgo_sound.specs.Machine.Runs.{run}
use Rattle.rgo_sound.specs.Machine.declared.limits.Limits.{Limits}
use Rattle.rgo_sound.specs.RegionMachine.Machine.{Event, region_step}
use Rattle.rgo_sound.specs.RegionMachine.States.{Mark, RegionState}
use Rattle.rgo_core.specs.runs.Runs.{Marked, Printed, if_in_limits, limited_run, step_in_limits}

pub run_then : {S E : Type 0} (step : S → E → Option S) (s : S) (es : List E) (t u : S) (e : E) → run step s es ≡ Some t
    → step t e ≡ Some u → run step s (es ++ e ∷ []) ≡ Some u
run_then step s [] t u e leads one = rw (same_Some s t leads, one) refl
run_then {S = S} {E = E} step s (x ∷ es) t u e leads one = go (step s x) leads (λ r q. run_then step r es t u e q one)
  where
    go : (o : Option S) → option_and_then (λ t. run step t es) o ≡ Some t
        → ((r : S) → run step r es ≡ Some t → run step r (es ++ e ∷ []) ≡ Some u)
        → option_and_then (λ t. run step t (es ++ e ∷ [])) o ≡ Some u
    go None q next = absurd (cc q)
    go (Some r) q next = next r q

module _ (code : Code) (page_words : ℕ) (limits : Limits) where
  -- a step to a state within the limits
  pub step_within : (s t : RegionState) (e : Event) → region_step code page_words s e ≡ Some t → is_within limits t.plain ≡ true
      → step_in_limits code page_words limits s e ≡ Some t
  step_within s t e step w = ap (option_and_then (if_in_limits code page_words limits)) step ∙ ap (λ (b : Bool). if b then Some t else None) w

  pub printed_more : (events more : List Event) (bytes : List ℕ) → Printed code page_words limits events bytes
      → Printed code page_words limits (events ++ more) bytes
  printed_more events more bytes c = record {
    first = c.first;
    rest = c.rest ++ more;
    is = ap (λ (l : List Event). l ++ more) c.is ∙ append_assoc c.first c.rest more;
    state = c.state;
    leads = c.leads;
    unmarked = c.unmarked;
    printed = c.printed;
  }

  pub printed_whole : (events : List Event) (s : RegionState) → limited_run code page_words limits events ≡ Some s → s.mark ≡ None
      → Printed code page_words limits events s.plain.printed
  printed_whole events s leads none = record {
    first = events;
    rest = [];
    is = sym (append-nil events);
    state = s;
    leads = leads;
    unmarked = none;
    printed = refl;
  }

  module _ (Cause : Mark → RegionState → Type 0) where
    pub marked_more : (events more : List Event) (mark : Mark) (bytes : List ℕ) → Marked code page_words limits Cause events mark bytes
        → Marked code page_words limits Cause (events ++ more) mark bytes
    marked_more events more mark bytes m = record {
      first = m.first;
      event = m.event;
      rest = m.rest ++ more;
      is = ap (λ (l : List Event). l ++ more) m.is ∙ append_assoc m.first (m.event ∷ m.rest) more;
      state = m.state;
      leads = m.leads;
      unmarked = m.unmarked;
      printed = m.printed;
      next = m.next;
      steps = m.steps;
      marked = m.marked;
      still = m.still;
      cause = m.cause;
    }

    pub marked_now : (events : List Event) (e : Event) (s t : RegionState) (mark : Mark)
        → limited_run code page_words limits events ≡ Some s → s.mark ≡ None → step_in_limits code page_words limits s e ≡ Some t
        → t.mark ≡ Some mark → t.plain.printed ≡ s.plain.printed → Cause mark s
        → Marked code page_words limits Cause (events ++ e ∷ []) mark s.plain.printed
    marked_now events e s t mark leads none one m still cause = record {
      first = events;
      event = e;
      rest = [];
      is = refl;
      state = s;
      leads = leads;
      unmarked = none;
      printed = refl;
      next = t;
      steps = one;
      marked = m;
      still = still;
      cause = cause;
    }

-- ---- a run within the limits is a run

-- the first step of a run
pub first_step : {S E : Type 0} (step : S → E → Option S) (s t : S) (e : E) (es : List E) → run step s (e ∷ es) ≡ Some t
    → (u : S) × (step s e ≡ Some u) × (run step u es ≡ Some t)
first_step {S = S} {E = E} step s t e es leads = go (step s e) leads
  where
    go : (o : Option S) → option_and_then (λ u. run step u es) o ≡ Some t → (u : S) × (o ≡ Some u) × (run step u es ≡ Some t)
    go None q = absurd (cc q)
    go (Some u) q = (u, refl, q)

module _ (code : Code) (page_words : ℕ) (limits : Limits) where
  -- a step within the limits is a step, and leads to a state within them
  pub one_step : (s t : RegionState) (e : Event) → step_in_limits code page_words limits s e ≡ Some t
      → (region_step code page_words s e ≡ Some t) × (is_within limits t.plain ≡ true)
  one_step s t e is = go (region_step code page_words s e) is
    where
      pick : (b : Bool) (u : RegionState) → is_within limits u.plain ≡ b → (if b then Some u else None) ≡ Some t
          → (Some u ≡ Some t) × (is_within limits t.plain ≡ true)
      pick true u w q = (q, ap (λ (v : RegionState). is_within limits v.plain) (sym (same_Some u t q)) ∙ w)
      pick false u w q = absurd (cc q)

      go : (o : Option RegionState) → option_and_then (if_in_limits code page_words limits) o ≡ Some t
          → (o ≡ Some t) × (is_within limits t.plain ≡ true)
      go None q = absurd (cc q)
      go (Some u) q = pick (is_within limits u.plain) u refl q

  pub runs_too : (events : List Event) (s t : RegionState) → run (step_in_limits code page_words limits) s events ≡ Some t
      → run (region_step code page_words) s events ≡ Some t
  runs_too [] s t e = e
  runs_too (event ∷ events) s t e =
      let f = first_step (step_in_limits code page_words limits) s t event events e in
      ap (option_and_then (λ u. run (region_step code page_words) u events)) (one_step s f.0 event f.1).0 ∙ runs_too events f.0 t f.2
