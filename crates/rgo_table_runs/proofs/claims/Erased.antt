-- A run with regions within the limits, and the run within them that it erases to. By induction over the events; steps with regions alone
-- erase to nothing, and the first end mark is kept.
use Rattle.std.proofs.Common.{◌≡◌, ℕ, true, List, [], ◌∷◌, ◌++◌, Option, Some, None, refl, ap, sym, subst, ◌∙◌, append_assoc}
use Rattle.std.proofs.lemmas.Option.{same_Some}
use Rattle.std.proofs.lemmas.List.{append-nil}
use Rattle.std.specs.Prelude.{option_and_then, option_map, unwrap_or}
use Rattle.rgo_sound.specs.Code.Code.{Code}
use Rattle.rgo_sound.specs.Code.Erasure.{erased}
use Rattle.rgo_core.specs.runs.Runs.{step_in_limits}
use Rattle.rgo_core.proofs.runs.Runs.{first_step, one_step}
use Rattle.rgo_sound.specs.Machine.Limits.{LeadsWithin, is_within}
use Rattle.rgo_sound.specs.Machine.Limits as plain
use Rattle.rgo_sound.specs.Machine.Runs.{run}
use Rattle.rgo_sound.specs.Machine.declared.limits.Limits.{Limits}
use Rattle.rgo_sound.specs.Machine.declared.picks.End.{End}
use Rattle.rgo_sound.specs.Machine.declared.picks.Pick.{Pick}
use Rattle.rgo_sound.proofs.Machine.Runs.{limited}
use Rattle.rgo_sound.specs.RegionMachine.Instructions.{mark_with_end, printed_if}
use Rattle.rgo_sound.specs.RegionMachine.Machine.{Acknowledge, Attend, Event, Finish, Instruct, MakeOffer, TakePage, kept_mark, region_step}
use Rattle.rgo_sound.specs.RegionMachine.States.{Mark, Ended, RegionState}
use Rattle.rgo_sound.specs.Erasure.{erased_picks, event_picks}
use Rattle.rgo_sound.proofs.plain.Steps.{Follows, step_follows, yields_is}
use Rattle.rgo_sound.specs.Tac.Tac.{TacState, tac}

module _ (code : Code) (page_words : ℕ) (limits : Limits) where
  pub follows : (s t : RegionState) (e : Event) → region_step code page_words s e ≡ Some t → Follows code page_words s e t
  follows s t e is = yields_is {P = Follows code page_words s e} (region_step code page_words s e) t (step_follows code page_words s e) is

  mark_kept : (s t : RegionState) (e : Event) (m : Mark) → s.mark ≡ Some m → Follows code page_words s e t → t.mark ≡ Some m
  mark_kept s t (Instruct pick) m is f = f.2.mark ∙ ap (λ n. mark_with_end n f.0.ended) is
  mark_kept s t (Finish limit) m is f = f.1 ∙ ap (λ n. kept_mark n limit) is
  mark_kept s t (Attend g) m is f = f.mark ∙ is
  mark_kept s t (TakePage g) m is f = f.mark ∙ is
  mark_kept s t (MakeOffer g) m is f = f.mark ∙ is
  mark_kept s t (Acknowledge g) m is f = f.mark ∙ is

  -- the first end is kept
  pub mark_stays : (events : List Event) (s t : RegionState) (m : Mark) → s.mark ≡ Some m → run (step_in_limits code page_words limits) s events ≡ Some t → t.mark ≡ Some m
  mark_stays [] s t m is e = ap (λ (u : RegionState). u.mark) (sym (same_Some s t e)) ∙ is
  mark_stays (event ∷ events) s t m is e =
      let f = first_step (step_in_limits code page_words limits) s t event events e in
      mark_stays events f.0 t m (mark_kept s f.0 event m is (follows s f.0 event (one_step code page_words limits s f.0 event f.1).0)) f.2

  pub none_before : (events : List Event) (s t : RegionState) → t.mark ≡ None → run (step_in_limits code page_words limits) s events ≡ Some t → s.mark ≡ None
  none_before events s t none e = go s.mark refl
    where
      go : (m : Option Mark) → s.mark ≡ m → s.mark ≡ None
      go None is = is
      go (Some m) is = let z = mark_stays events s t m is e in let q : Some m ≡ None = sym z ∙ none in absurd (cc q)

  -- an instruction before the end makes the plain machine's step
  pub instructed : (s t : RegionState) (pick : Pick) → s.mark ≡ None → (f : Follows code page_words s (Instruct pick) t) → f.0.ended ≡ None → t.plain ≡ f.0
  instructed s t pick none f on = f.2.plain ∙ λ i. record {
    memory = f.0.memory;
    goroutines = f.0.goroutines;
    printed = printed_if (none i) s.plain.printed f.0.printed;
    ended = sym on i;
  }

  on_after : (m : Option Mark) (o : Option End) → m ≡ None → mark_with_end m o ≡ None → o ≡ None
  on_after m None e q = refl
  on_after m (Some x) e q = let z : Some (Ended x) ≡ None = ap (λ n. mark_with_end n (Some x)) (sym e) ∙ q in absurd (cc z)

  -- a run that no end has marked erases to a run within the limits to its plain state
  pub erases : (events : List Event) (s t : RegionState) → t.mark ≡ None → run (step_in_limits code page_words limits) s events ≡ Some t
      → LeadsWithin (tac (erased code)) limits s.plain (erased_picks code page_words s events) t.plain
  erases [] s t none e = ap (λ (u : RegionState). Some u.plain) (same_Some s t e)
  erases (event ∷ events) s t none e =
      let f = first_step (step_in_limits code page_words limits) s t event events e in
      let one = one_step code page_words limits s f.0 event f.1 in
      let rest = erases events f.0 t none f.2 in
      let open_yet = none_before (event ∷ events) s t none e in
      let then_too = none_before events f.0 t none f.2 in
      subst (λ (o : Option RegionState). LeadsWithin (tac (erased code)) limits s.plain (event_picks s.mark event ++ unwrap_or (option_map (λ u. erased_picks code page_words u events) o) []) t.plain) (sym one.0)
      (subst (λ (m : Option Mark). LeadsWithin (tac (erased code)) limits s.plain (event_picks m event ++ erased_picks code page_words f.0 events) t.plain) (sym open_yet)
      (by_event event f.0 (follows s f.0 event one.0) one.1 open_yet then_too rest))
    where
      by_event : (event : Event) (u : RegionState) → Follows code page_words s event u → is_within limits u.plain ≡ true → s.mark ≡ None → u.mark ≡ None
          → LeadsWithin (tac (erased code)) limits u.plain (erased_picks code page_words u events) t.plain
          → LeadsWithin (tac (erased code)) limits s.plain (event_picks None event ++ erased_picks code page_words u events) t.plain
      by_event (Instruct pick) u f w open_yet then_too rest =
          let on = on_after s.mark f.0.ended open_yet (sym f.2.mark ∙ then_too) in
          let same = instructed s u pick open_yet f on in
          let step = limited (tac (erased code)) limits s.plain u.plain pick (f.1 ∙ ap (λ (p : TacState). Some p) (sym same)) w in
          ap (option_and_then (λ v. run (plain.limited_step (tac (erased code)) limits) v (erased_picks code page_words u events))) step ∙ rest
      by_event (Finish limit) u f w open_yet then_too rest = let z : kept_mark None limit ≡ None = ap (λ m. kept_mark m limit) (sym open_yet) ∙ (sym f.1 ∙ then_too) in absurd (cc z)
      by_event (Attend g) u f w open_yet then_too rest = subst (λ (p : TacState). LeadsWithin (tac (erased code)) limits p (erased_picks code page_words u events) t.plain) f.plain rest
      by_event (TakePage g) u f w open_yet then_too rest = subst (λ (p : TacState). LeadsWithin (tac (erased code)) limits p (erased_picks code page_words u events) t.plain) f.plain rest
      by_event (MakeOffer g) u f w open_yet then_too rest = subst (λ (p : TacState). LeadsWithin (tac (erased code)) limits p (erased_picks code page_words u events) t.plain) f.plain rest
      by_event (Acknowledge g) u f w open_yet then_too rest = subst (λ (p : TacState). LeadsWithin (tac (erased code)) limits p (erased_picks code page_words u events) t.plain) f.plain rest

  -- the plain machine has not ended before the end mark
  pub plain_on : (events : List Event) (s t : RegionState) → s.plain.ended ≡ None → run (step_in_limits code page_words limits) s events ≡ Some t → t.plain.ended ≡ None
  plain_on [] s t none e = ap (λ (u : RegionState). u.plain.ended) (sym (same_Some s t e)) ∙ none
  plain_on (event ∷ events) s t none e =
      let f = first_step (step_in_limits code page_words limits) s t event events e in
      plain_on events f.0 t (by_event event f.0 (follows s f.0 event (one_step code page_words limits s f.0 event f.1).0)) f.2
    where
      by_event : (event : Event) (u : RegionState) → Follows code page_words s event u → u.plain.ended ≡ None
      by_event (Instruct pick) u f = ap (λ (p : TacState). p.ended) f.2.plain
      by_event (Finish limit) u f = ap (λ (p : TacState). p.ended) f.0 ∙ none
      by_event (Attend g) u f = ap (λ (p : TacState). p.ended) f.plain ∙ none
      by_event (TakePage g) u f = ap (λ (p : TacState). p.ended) f.plain ∙ none
      by_event (MakeOffer g) u f = ap (λ (p : TacState). p.ended) f.plain ∙ none
      by_event (Acknowledge g) u f = ap (λ (p : TacState). p.ended) f.plain ∙ none

  -- the picks of a run and one event more
  pub picks_then : (events : List Event) (s t : RegionState) (e : Event) → run (step_in_limits code page_words limits) s events ≡ Some t
      → erased_picks code page_words s (events ++ e ∷ []) ≡ erased_picks code page_words s events ++ event_picks t.mark e
  picks_then [] s t e leads = last (region_step code page_words s e) ∙ ap (λ (u : RegionState). event_picks u.mark e) (same_Some s t leads)
    where
      last : (o : Option RegionState) → event_picks s.mark e ++ unwrap_or (option_map (λ u. erased_picks code page_words u []) o) [] ≡ event_picks s.mark e
      last None = append-nil (event_picks s.mark e)
      last (Some u) = append-nil (event_picks s.mark e)
  picks_then (x ∷ events) s t e leads =
      let f = first_step (step_in_limits code page_words limits) s t x events leads in
      let one = one_step code page_words limits s f.0 x f.1 in
      let rest = picks_then events f.0 t e f.2 in
      subst (λ (o : Option RegionState). event_picks s.mark x ++ unwrap_or (option_map (λ u. erased_picks code page_words u (events ++ e ∷ [])) o) []
      ≡ (event_picks s.mark x ++ unwrap_or (option_map (λ u. erased_picks code page_words u events) o) []) ++ event_picks t.mark e) (sym one.0)
      (ap (λ (l : List Pick). event_picks s.mark x ++ l) rest ∙ sym (append_assoc (event_picks s.mark x) (erased_picks code page_words f.0 events) (event_picks t.mark e)))
