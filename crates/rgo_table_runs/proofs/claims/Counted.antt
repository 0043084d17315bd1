-- Before the end there are as many picks as instructions. By induction over the events of the run.
use Rattle.std.proofs.Common.{◌≡◌, ℕ, ◌+◌, List, [], ◌∷◌, ◌++◌, Option, Some, None, length, refl, ap, sym, subst, arith, length-append}
use Rattle.std.proofs.lemmas.Option.{same_Some}
use Rattle.std.specs.Prelude.{option_map, unwrap_or, slice_get}
use Rattle.rgo_sound.specs.Code.Code.{Code}
use Rattle.rgo_core.specs.runs.Runs.{step_in_limits}
use Rattle.rgo_sound.specs.Machine.Runs.{run}
use Rattle.rgo_sound.specs.Machine.declared.limits.Limits.{Limits}
use Rattle.rgo_sound.specs.RegionMachine.Counts.{Counts}
use Rattle.rgo_sound.specs.RegionMachine.Machine.{Acknowledge, Attend, Event, Finish, Instruct, MakeOffer, TakePage, region_step}
use Rattle.rgo_sound.specs.RegionMachine.States.{Mark, RegionState}
use Rattle.rgo_sound.specs.Erasure.{erased_picks, event_picks}
use Rattle.rgo_sound.specs.Tally.{share_of, share_of_plain}
use Rattle.rgo_sound.proofs.plain.Steps.{Follows}
use Rattle.rgo_sound.proofs.counts.Tally.{none_of_holder, tally_adds}
use Rattle.rgo_core.proofs.runs.Runs.{first_step, one_step}
use Rattle.rgo_table_runs.proofs.claims.Erased.{follows, none_before}

module _ (code : Code) (page_words : ℕ) (limits : Limits) where
  one_counted : (s t : RegionState) (e : Event) → region_step code page_words s e ≡ Some t → Follows code page_words s e t → length (event_picks None e) + s.steps ≡ t.steps
  one_counted s t e is f = let a = ap (λ (c : Counts). c.steps) (tally_adds code page_words s t e is) in let b = by_event e f in omega arith
    where
      by_event : (e : Event) → Follows code page_words s e t → (share_of code s e).steps ≡ length (event_picks None e)
      by_event (Instruct pick) f = ap (λ o. (share_of_plain s o).steps) f.1
      by_event (Finish limit) f = refl
      by_event (Attend g) f = none_of_holder s (slice_get s.holders g)
      by_event (TakePage g) f = refl
      by_event (MakeOffer g) f = refl
      by_event (Acknowledge g) f = refl

  pub counted : (events : List Event) (s t : RegionState) → t.mark ≡ None → run (step_in_limits code page_words limits) s events ≡ Some t
      → length (erased_picks code page_words s events) + s.steps ≡ t.steps
  counted [] s t none e = let z : s.steps ≡ t.steps = ap (λ (u : RegionState). u.steps) (same_Some s t e) in omega arith
  counted (event ∷ events) s t none e =
      let f = first_step (step_in_limits code page_words limits) s t event events e in
      let one = one_step code page_words limits s f.0 event f.1 in
      let rest = counted events f.0 t none f.2 in
      let now = one_counted s f.0 event one.0 (follows code page_words limits s f.0 event one.0) in
      let open_yet = none_before code page_words limits (event ∷ events) s t none e in
      subst (λ (o : Option RegionState). length (event_picks s.mark event ++ unwrap_or (option_map (λ u. erased_picks code page_words u events) o) []) + s.steps ≡ t.steps) (sym one.0)
      (subst (λ (m : Option Mark). length (event_picks m event ++ erased_picks code page_words f.0 events) + s.steps ≡ t.steps) (sym open_yet)
      (let l = length-append (event_picks None event) (erased_picks code page_words f.0 events) in omega arith))
