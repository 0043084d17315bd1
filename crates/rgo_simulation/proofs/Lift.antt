-- A machine that follows another, goroutine by goroutine, simulates it. A step of the higher one is the same step of the lower one, or
-- none, if the goroutine moved by itself. For a step of the lower one the goroutines that it names are settled first (Settling), and then
-- both machines take it (Together). The hard case is a deadlock: in one of the higher machine no goroutine moves by itself, so all of them
-- do the same as those of the lower one, and none of these has a step either.
use Rattle.std.proofs.Common.{◌≡◌, ◌⊎◌, inl, inr, ⊎_elim, ℕ, suc, Bool, true, false, List, [], ◌∷◌, ◌++◌}
use Rattle.std.proofs.Common.{length, Option, Some, None, slice_get, refl, ap, sym, ◌∙◌, subst, arith, ◌≤◌}
use Rattle.std.specs.Prelude.{option_and_then, if◌then◌else◌, ◌==◌, nat_le, ◌&&◌}
use Rattle.std.specs.List.{list_all}
use Rattle.std.proofs.lemmas.Bool.{and_from}
use Rattle.std.proofs.lemmas.Bool.Decides.{nat_tests}
use Rattle.std.proofs.Math.Nat.{le-max_left}
use Rattle.rgo_memory.specs.Memory.{Memory}
use Rattle.rgo_machine.specs.declared.limits.Limits.{Limits}
use Rattle.rgo_machine.specs.declared.picks.End.{End}
use Rattle.rgo_machine.specs.declared.picks.Pick.{Pick}
use Rattle.rgo_machine.specs.declared.picks.Pick.TheVariants.{One, Meet}
use Rattle.rgo_machine.specs.Deadlocks.{IsDeadlock}
use Rattle.rgo_machine.specs.Limits.{is_within_depth, most_goroutines, deepest, is_within, limited_step, LeadsWithin}
use Rattle.rgo_machine.specs.Machines.{Stand, AtReceive, Elsewhere}
use Rattle.rgo_machine.specs.Machines.{Machine, State, start_state, met, met_by, meet, picked, unless_ended, step_by}
use Rattle.rgo_machine.specs.Runs.{run, Leads}
use Rattle.rgo_machine.proofs.Runs.{joined, single, is_step, limited}
use Rattle.rgo_simulation.specs.Follows.{Follows}
use Rattle.rgo_simulation.specs.Simulations.{IsSeenAs, RunsAs, RunsWithinAs}
use Rattle.rgo_simulation.specs.Simulations.{FollowingSimulates}
use Rattle.rgo_simulation.proofs.Together.{no_first, no_second, first, second, Same, AllSame, TogetherAt}
use Rattle.rgo_simulation.proofs.Together.{some_injective, PickTogether, each_pick, step_both}
use Rattle.rgo_simulation.proofs.Settling.{Allows, Stuttering, goes_on, stuttered, stutter_step, stutter_same}
use Rattle.rgo_simulation.proofs.Settling.{settle_all}

-- the first step of a run
first_step : {S : Type 0} (step : S → Pick → Option S) (pick : Pick) (picks : List Pick) (s t : S)
    → Leads step s (pick ∷ picks) t → (u : S) × (step s pick ≡ Some u) × Leads step u picks t
first_step step pick picks s t e = go (step s pick) e
  where
    go : (o : Option _) → option_and_then (λ u. run step u picks) o ≡ Some t
        → (u : _) × (o ≡ Some u) × Leads step u picks t
    go None e = cc
    go (Some u) e = (u, refl, e)

none_some : {X : Type 0} (x : X) → None ≡ Some x → ⊥
none_some x e = cc

not_picked : {F : Type 0} (o : Option End) (next : Option (State F)) (u : State F) → next ≡ None
    → unless_ended o next ≡ Some u → ⊥
not_picked None next u none e = cc
not_picked (Some end) next u none e = cc

ended_none : {F : Type 0} (o : Option End) (next : Option (State F)) (u : State F) → unless_ended o next ≡ Some u
    → o ≡ None
ended_none None next u e = refl
ended_none (Some end) next u e = cc

-- a frame that stands elsewhere meets no other
module _ {F : Type 0} (machine : Machine F) (s : State F) (r q : ℕ) where
  met_elsewhere : (rs qs : List F) (x : Stand F) → met s r q rs qs x Elsewhere ≡ None
  met_elsewhere rs qs (AtReceive c blank k) = refl
  met_elsewhere rs qs _ = refl

  by_elsewhere : (f h : F) (rs qs : List F) → machine.stand h ≡ Elsewhere
      → met_by machine s r q (f ∷ rs) (h ∷ qs) ≡ None
  by_elsewhere f h rs qs e =
      ap (met s r q rs qs (machine.stand f)) e ∙ met_elsewhere rs qs (machine.stand f)

  no_receiver : (f : F) (rs : List F) (o : Option (List F)) → machine.stand f ≡ Elsewhere
      → option_and_then (met_by machine s r q (f ∷ rs)) o ≡ None
  no_receiver f rs None e = refl
  no_receiver f rs (Some []) e = refl
  no_receiver f rs (Some (h ∷ qs)) e = ap (λ x. met s r q rs qs x (machine.stand h)) e

  no_sender : (h : F) (qs : List F) (o : Option (List F)) → machine.stand h ≡ Elsewhere
      → option_and_then (λ f. met_by machine s r q f (h ∷ qs)) o ≡ None
  no_sender h qs None e = refl
  no_sender h qs (Some []) e = refl
  no_sender h qs (Some (f ∷ rs)) e = by_elsewhere f h rs qs e

  no_meeting : (b : Bool) (o : Option (State F)) → o ≡ None → (if b then None else o) ≡ None
  no_meeting true o e = refl
  no_meeting false o e = e

module _ {F G : Type 0} (high : Machine F) (low : Machine G) (Matched : List F → List G → Type 0) (size : F → ℕ)
    (follows : Follows high low Matched size) where
  -- ---- one step of the machine that follows

  -- the other takes the same step, or is already there
  abbrev Answered : State F → State G → Pick → Type 0
  Answered u t pick =
      Same high low Matched u t ⊎ ((v : State G) × (step_by low t pick ≡ Some v) × Same high low Matched u v)

  module _ (s u : State F) (t : State G) (same : Same high low Matched s t) where
    together_answers : (pick : Pick) → PickTogether high low Matched s t same pick → step_by high s pick ≡ Some u
        → Answered u t pick
    together_answers pick k e =
        inr
        (second (Same high low Matched) (step_by high s pick) (step_by low t pick) u
        (step_both high low Matched s t same pick k) e)

    one_answers : (g : ℕ) → step_by high s (One g) ≡ Some u → Answered u t (One g)
    one_answers g e =
        ⊎_elim
        (λ st.
        let there : step_by high s (One g) ≡ Some (stuttered high low Matched size follows s t same g st) =
        stutter_step high low Matched size follows s t same g st (ended_none s.ended (picked high s (One g)) u e) in
        inl
        (subst (λ z. Same high low Matched z t) (some_injective _ u (sym there ∙ e))
        (stutter_same high low Matched size follows s t same g st)))
        (λ k. together_answers (One g) k e)
        (goes_on high low Matched size follows s t same g)

    -- a goroutine that moves by itself does not meet another
    receiver_meets : (r q : ℕ)
        → Stuttering high low Matched size follows (slice_get s.goroutines r) (slice_get t.goroutines r)
        → picked high s (Meet r q) ≡ None
    receiver_meets r q st =
        no_meeting high s r q (r == q) (meet high s r q)
        (ap (option_and_then (λ f. option_and_then (met_by high s r q f) (slice_get s.goroutines q))) st.high_is
        ∙ no_receiver high s r q st.frame st.callers (slice_get s.goroutines q) st.stutters.elsewhere)

    sender_meets : (r q : ℕ)
        → Stuttering high low Matched size follows (slice_get s.goroutines q) (slice_get t.goroutines q)
        → picked high s (Meet r q) ≡ None
    sender_meets r q st =
        no_meeting high s r q (r == q) (meet high s r q)
        (ap (λ o. option_and_then (λ f. option_and_then (met_by high s r q f) o) (slice_get s.goroutines r)) st.high_is
        ∙ no_sender high s r q st.frame st.callers (slice_get s.goroutines r) st.stutters.elsewhere)

    meet_answers : (r q : ℕ) → step_by high s (Meet r q) ≡ Some u → Answered u t (Meet r q)
    meet_answers r q e =
        ⊎_elim (λ st. absurd (not_picked s.ended (picked high s (Meet r q)) u (receiver_meets r q st) e))
        (λ k.
        ⊎_elim (λ st. absurd (not_picked s.ended (picked high s (Meet r q)) u (sender_meets r q st) e))
        (λ l. together_answers (Meet r q) (k, l) e) (goes_on high low Matched size follows s t same q))
        (goes_on high low Matched size follows s t same r)

    answers : (pick : Pick) → step_by high s pick ≡ Some u → Answered u t pick
    answers (One g) e = one_answers g e
    answers (Meet r q) e = meet_answers r q e

  -- ---- deadlocks

  module _ (s : State F) (t : State G) (same : Same high low Matched s t) where
    -- in a deadlock no goroutine moves by itself
    all_together : IsDeadlock high s → (g : ℕ) → TogetherAt high low Matched s t same g
    all_together dead g =
        ⊎_elim
        (λ st.
        absurd
        (none_some (stuttered high low Matched size follows s t same g st)
        (sym (dead.1 (One g)) ∙ stutter_step high low Matched size follows s t same g st dead.0)))
        (λ k. k) (goes_on high low Matched size follows s t same g)

    deadlock_below : IsDeadlock high s → IsDeadlock low t
    deadlock_below dead = (
      same.ended ∙ dead.0,
      λ pick.
          no_second (Same high low Matched) (step_by high s pick) (step_by low t pick)
          (step_both high low Matched s t same pick
          (each_pick high low Matched s t same (all_together dead) pick))
          (dead.1 pick),
    )

    deadlock_above : ((g : ℕ) → TogetherAt high low Matched s t same g) → IsDeadlock low t → IsDeadlock high s
    deadlock_above all dead = (
      sym same.ended ∙ dead.0,
      λ pick.
          no_first (Same high low Matched) (step_by high s pick) (step_by low t pick)
          (step_both high low Matched s t same pick (each_pick high low Matched s t same all pick))
          (dead.1 pick),
    )

    seen_below : IsSeenAs high low s t
    seen_below = record { printed = same.printed; ended = same.ended; deadlock = deadlock_below }

    seen_above : (IsDeadlock low t → IsDeadlock high s) → IsSeenAs low high t s
    seen_above dead = record { printed = sym same.printed; ended = sym same.ended; deadlock = dead }

  -- ---- runs, of all steps or of those within limits

  module _ (step : State F → Pick → Option (State F)) (Allowed : State F → Type 0)
      (allows : Allows high step Allowed) (step2 : State G → Pick → Option (State G)) (Allowed2 : State G → Type 0)
      (allows2 : Allows low step2 Allowed2)
      (below : (s : State F) (t : State G) → Same high low Matched s t → Allowed s → Allowed2 t)
      (above : (s : State F) (t : State G) → Same high low Matched s t → Allowed2 t → Allowed s) where
    -- a run of the other, seen as s
    abbrev Below : State F → State G → Type 0
    Below s t0 = (t : State G) × (picks : List Pick) × Leads step2 t0 picks t × IsSeenAs high low s t

    one_more : (u s : State F) (t : State G) (pick : Pick) → Allowed u
        → ((v : State G) → Same high low Matched u v → Below s v) → Answered u t pick → Below s t
    one_more u s t pick may rest (inl same) = rest t same
    one_more u s t pick may rest (inr there) =
        let more : Below s there.0 = rest there.0 there.2 in (
          more.0,
          pick ∷ more.1,
          joined step2 t there.0 more.0 (pick ∷ []) more.1
              (single step2 t there.0 pick (allows2.takes t there.0 pick there.1 (below u there.0 there.2 may)))
              more.2,
          more.3,
        )

    forward : (picks : List Pick) (s0 s : State F) (t0 : State G) → Same high low Matched s0 t0
        → Leads step s0 picks s → Below s t0
    forward [] s0 s t0 same e = (
      t0,
      [],
      refl,
      seen_below s t0 (subst (λ z. Same high low Matched z t0) (some_injective s0 s e) same),
    )
    forward (pick ∷ picks) s0 s t0 same e =
        let one = first_step step pick picks s0 s e in
        let taken = allows.taken s0 one.0 pick one.1 in
        one_more one.0 s t0 pick taken.1 (λ v again. forward picks one.0 s v again one.2)
        (answers s0 one.0 t0 same pick taken.0)

    -- a run of the machine that follows, seen as t
    abbrev Above : State G → State F → Type 0
    Above t s0 = (s : State F) × (picks : List Pick) × Leads step s0 picks s × IsSeenAs low high t s

    at_end : (o : Option End) (s : State F) (t : State G) → t.ended ≡ o → Allowed2 t → Same high low Matched s t
        → Above t s
    at_end (Some end) s t e may same = (
      s,
      [],
      refl,
      seen_above s t same (λ dead. absurd (none_some end (sym dead.0 ∙ e))),
    )
    at_end None s t e may same =
        let all = settle_all high low Matched size follows step Allowed allows t e (λ z k. above z t k may) s same in (
          all.state,
          all.picks,
          all.leads,
          seen_above all.state t all.same (deadlock_above all.state t all.same all.together),
        )

    backward : (picks : List Pick) (t0 t : State G) (s0 : State F) → Allowed2 t0 → Same high low Matched s0 t0
        → Leads step2 t0 picks t → Above t s0
    backward [] t0 t s0 may same e =
        subst (λ z. Above z s0) (some_injective t0 t e) (at_end t0.ended s0 t0 refl may same)
    backward (pick ∷ picks) t0 t s0 may same e =
        let one = first_step step2 pick picks t0 t e in
        let taken = allows2.taken t0 one.0 pick one.1 in
        let all =
        settle_all high low Matched size follows step Allowed allows t0
        (ended_none t0.ended (picked low t0 pick) one.0 taken.0) (λ z k. above z t0 k may) s0 same in
        let there =
        first (Same high low Matched) (step_by high all.state pick) (step_by low t0 pick) one.0
        (step_both high low Matched all.state t0 all.same pick
        (each_pick high low Matched all.state t0 all.same all.together pick))
        taken.0 in
        let more : Above t there.0 = backward picks one.0 t there.0 taken.1 there.2 one.2 in (
          more.0,
          all.picks ++ pick ∷ more.1,
          joined step s0 all.state more.0 all.picks (pick ∷ more.1) all.leads
              (joined step all.state there.0 more.0 (pick ∷ []) more.1
              (single step all.state there.0 pick
              (allows.takes all.state there.0 pick there.1 (above there.0 one.0 there.2 taken.1)))
              more.2),
          more.3,
        )

-- ---- all steps

allows_all : {F : Type 0} (machine : Machine F) → Allows machine (step_by machine) (λ s. Unit {0})
allows_all machine = record { taken = λ s t pick e. (e, tt); takes = λ s t pick e may. e }

-- ---- the steps within limits

allows_within : {F : Type 0} (machine : Machine F) (limits : Limits)
    → Allows machine (limited_step machine limits) (λ s. is_within limits s ≡ true)
allows_within machine limits = record {
  taken = is_step machine limits;
  takes = limited machine limits;
}

module _ {F G : Type 0} (high : Machine F) (low : Machine G) (Matched : List F → List G → Type 0) (size : F → ℕ)
    (follows : Follows high low Matched size) where
  same_length : (fs : List (List F)) (gs : List (List G)) → AllSame high low Matched fs gs → length gs ≡ length fs
  same_length [] [] k = refl
  same_length (f ∷ fs) (g ∷ gs) k = ap suc (same_length fs gs k.1)
  same_length _ _ k = absurd k

  same_rooms : (fs : List (List F)) (gs : List (List G)) → AllSame high low Matched fs gs
      → list_all is_within_depth gs ≡ list_all is_within_depth fs
  same_rooms [] [] k = refl
  same_rooms (f ∷ fs) (g ∷ gs) k =
      λ i. nat_le (follows.depth f g k.0 i) deepest && same_rooms fs gs k.1 i
  same_rooms _ _ k = absurd k

  same_within : (limits : Limits) (s : State F) (t : State G) → Same high low Matched s t
      → is_within limits t ≡ is_within limits s
  same_within limits s t same =
      λ i. nat_le (same_length s.goroutines t.goroutines same.goroutines i) (most_goroutines limits)
      && same_rooms s.goroutines t.goroutines same.goroutines i

  module _ (limits : Limits) where
    within_below : (s : State F) (t : State G) → Same high low Matched s t → is_within limits s ≡ true
        → is_within limits t ≡ true
    within_below s t same e = same_within limits s t same ∙ e

    within_above : (s : State F) (t : State G) → Same high low Matched s t → is_within limits t ≡ true
        → is_within limits s ≡ true
    within_above s t same e = sym (same_within limits s t same) ∙ e

  -- ---- both

  all_forward : (picks : List Pick) (s0 s : State F) (t0 : State G) → Same high low Matched s0 t0
      → Leads (step_by high) s0 picks s → RunsAs high s low t0
  all_forward =
      forward high low Matched size follows (step_by high) (λ s. Unit {0}) (allows_all high) (step_by low)
      (λ t. Unit {0}) (allows_all low) (λ s t k u. tt) (λ s t k u. tt)

  all_backward : (picks : List Pick) (t0 t : State G) (s0 : State F) → Unit {0} → Same high low Matched s0 t0
      → Leads (step_by low) t0 picks t → RunsAs low t high s0
  all_backward =
      backward high low Matched size follows (step_by high) (λ s. Unit {0}) (allows_all high) (step_by low)
      (λ t. Unit {0}) (allows_all low) (λ s t k u. tt) (λ s t k u. tt)

  module _ (limits : Limits) where
    limited_forward : (picks : List Pick) (s0 s : State F) (t0 : State G) → Same high low Matched s0 t0
        → LeadsWithin high limits s0 picks s → RunsWithinAs limits high s low t0
    limited_forward =
        forward high low Matched size follows (limited_step high limits) (λ s. is_within limits s ≡ true)
        (allows_within high limits) (limited_step low limits) (λ t. is_within limits t ≡ true)
        (allows_within low limits) (within_below limits) (within_above limits)

    limited_backward : (picks : List Pick) (t0 t : State G) (s0 : State F) → is_within limits t0 ≡ true
        → Same high low Matched s0 t0 → LeadsWithin low limits t0 picks t → RunsWithinAs limits low t high s0
    limited_backward =
        backward high low Matched size follows (limited_step high limits) (λ s. is_within limits s ≡ true)
        (allows_within high limits) (limited_step low limits) (λ t. is_within limits t ≡ true)
        (allows_within low limits) (within_below limits) (within_above limits)

pub following_simulates : {F G : Type 0} (high : Machine F) (low : Machine G) (Matched : List F → List G → Type 0)
    → FollowingSimulates high low Matched
following_simulates high low Matched size follows s0 t0 same may = record {
  forward = λ picks s e. all_forward high low Matched size follows picks s0 s t0 same e;
  backward = λ picks t e. all_backward high low Matched size follows picks t0 t s0 tt same e;
  forward_within = λ limits picks s e. limited_forward high low Matched size follows limits picks s0 s t0 same e;
  backward_within = λ limits picks t e.
      limited_backward high low Matched size follows limits picks t0 t s0
      (within_below high low Matched size follows limits s0 t0 same (may limits)) same e;
}

-- the state in which a run begins is within all limits
pub start_within : {F : Type 0} (memory : Memory) (frames : List F) → length frames ≤ deepest → (limits : Limits)
    → is_within limits (start_state memory frames) ≡ true
start_within memory frames few limits =
    and_from (nat_le 1 (most_goroutines limits)) (nat_le (length frames) deepest && true)
    (grind (arith, nat_tests, le-max_left 1 limits.goroutines))
    (and_from (nat_le (length frames) deepest) true (grind (arith, nat_tests)) refl)
