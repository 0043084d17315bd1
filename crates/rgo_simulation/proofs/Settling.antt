-- A machine that follows another continues by itself, until each of its goroutines does what that of the other does. By induction on the
-- size of its newest frame, which each such step makes smaller. Goroutines are settled one by one: a step by itself changes no other frames
-- and no memory, so those that were settled before still are.
use Rattle.std.proofs.Common.{◌≡◌, ◌⊎◌, inl, inr, ⊎_elim, ℕ, zero, suc, ◌<◌, ◌≤◌, List, [], ◌∷◌, ◌++◌}
use Rattle.std.proofs.Common.{length, Option, Some, None, slice_get, slice_set, refl, ap, sym, ◌∙◌, subst, arith}
use Rattle.std.specs.Prelude.{option_and_then}
use Rattle.std.proofs.lemmas.Bool.{cases_eq}
use Rattle.std.proofs.lemmas.Option.{slice_get_within}
use Rattle.rgo_machine.specs.declared.picks.Pick.{Pick}
use Rattle.rgo_machine.specs.declared.picks.Pick.TheVariants.{One}
use Rattle.rgo_machine.specs.Machines.{Machine, State, stepped, acted, alone, picked, unless_ended}
use Rattle.rgo_machine.specs.Machines.{step_by}
use Rattle.rgo_machine.specs.Runs.{Leads}
use Rattle.rgo_machine.proofs.Items.{other_item}
use Rattle.rgo_machine.proofs.Runs.{joined, single}
use Rattle.rgo_simulation.specs.Follows.{Stutters, Follows}
use Rattle.rgo_simulation.proofs.Together.{some_injective, Both, Same, AllSame, all_get, TogetherFrames, TogetherAt}

same_item : {X : Type 0} (l : List X) (k : ℕ) (x y : X) → slice_get l k ≡ Some y
    → slice_get (slice_set l k x) k ≡ Some x
same_item [] k x y e = cc
same_item (z ∷ l) zero x y e = refl
same_item (z ∷ l) (suc k) x y e = same_item l k x y e

-- The steps of a machine that lead to states that are allowed: all steps, or those within limits.
pub record Allows
    {F : Type 0} (machine : Machine F) (step : State F → Pick → Option (State F)) (Allowed : State F → Type 0)
    : Type 0 where
  pub taken : (s t : State F) (pick : Pick) → step s pick ≡ Some t → (step_by machine s pick ≡ Some t) × Allowed t
  pub takes : (s t : State F) (pick : Pick) → step_by machine s pick ≡ Some t → Allowed t → step s pick ≡ Some t

module _ {F G : Type 0} (high : Machine F) (low : Machine G) (Matched : List F → List G → Type 0) where
  -- only the first list changes
  all_set_left : (fs : List (List F)) (gs : List (List G)) (n : ℕ) (f : List F) (g : List G)
      → AllSame high low Matched fs gs → slice_get gs n ≡ Some g → Matched f g
      → AllSame high low Matched (slice_set fs n f) gs
  all_set_left [] [] n f g h e k = tt
  all_set_left (x ∷ fs) (y ∷ gs) zero f g h e k = (subst (Matched f) (sym (some_injective y g e)) k, h.1)
  all_set_left (x ∷ fs) (y ∷ gs) (suc n) f g h e k = (h.0, all_set_left fs gs n f g h.1 e k)
  all_set_left _ _ n f g h e k = absurd h

  module _ (size : F → ℕ) (follows : Follows high low Matched size) where
    -- a goroutine of the one machine moves by itself from that of the other
    pub record Stuttering (o : Option (List F)) (q : Option (List G)) : Type 0 where
      pub frame : F
      pub callers : List F
      pub other : G
      pub lows : List G
      pub high_is : o ≡ Some (frame ∷ callers)
      pub low_is : q ≡ Some (other ∷ lows)
      pub stutters : Stutters high low Matched callers lows size frame other

    frames_go : (fs : List F) (gs : List G) → Matched fs gs
        → Stuttering (Some fs) (Some gs) ⊎ TogetherFrames high low Matched fs gs
    frames_go [] [] k = inr tt
    frames_go (f ∷ callers) (g ∷ lows) k =
        ⊎_elim
        (λ st. inl (record {
          frame = f;
          callers = callers;
          other = g;
          lows = lows;
          high_is = refl;
          low_is = refl;
          stutters = st;
        }))
        (λ to. inr to) (follows.step f callers g lows k)
    frames_go [] (g ∷ lows) k = let e = follows.depth [] (g ∷ lows) k in cc
    frames_go (f ∷ callers) [] k = let e = follows.depth (f ∷ callers) [] k in cc

    pub go_on : (o : Option (List F)) (q : Option (List G)) → Both Matched o q
        → Stuttering o q ⊎ Both (TogetherFrames high low Matched) o q
    go_on None None k = inr tt
    go_on (Some fs) (Some gs) k = frames_go fs gs k
    go_on _ _ k = absurd k

    -- what goroutine g does next
    pub goes_on : (s : State F) (t : State G) (same : Same high low Matched s t) (g : ℕ)
        → Stuttering (slice_get s.goroutines g) (slice_get t.goroutines g) ⊎ TogetherAt high low Matched s t same g
    goes_on s t same g =
        go_on (slice_get s.goroutines g) (slice_get t.goroutines g)
        (all_get high low Matched s.goroutines t.goroutines g same.goroutines)

    -- ---- a step of the one machine by itself

    module _ (s : State F) (t : State G) (same : Same high low Matched s t) (g : ℕ)
        (st : Stuttering (slice_get s.goroutines g) (slice_get t.goroutines g)) where
      abbrev pub stuttered : State F
      stuttered =
          record s { goroutines = slice_set s.goroutines g (st.stutters.next ∷ st.callers) }

      pub stutter_step : s.ended ≡ None → step_by high s (One g) ≡ Some stuttered
      stutter_step e =
          ap (λ o. unless_ended o (picked high s (One g))) e ∙ ap (option_and_then (alone high s g)) st.high_is
          ∙ ap (stepped high s g st.frame st.callers) st.stutters.elsewhere
          ∙ ap (λ a. Some (acted high s g st.callers a)) (st.stutters.moves s.memory)

      pub stutter_same : Same high low Matched stuttered t
      stutter_same = record {
        memory = same.memory;
        printed = same.printed;
        ended = same.ended;
        goroutines =
            all_set_left s.goroutines t.goroutines g (st.stutters.next ∷ st.callers) (st.other ∷ st.lows)
            same.goroutines st.low_is st.stutters.matched;
      }

      stutter_here : slice_get stuttered.goroutines g ≡ Some (st.stutters.next ∷ st.callers)
      stutter_here =
          same_item s.goroutines g (st.stutters.next ∷ st.callers) (st.frame ∷ st.callers) st.high_is

    -- ---- until it does the same

    abbrev measure : Option (List F) → ℕ
    measure None = 0
    measure (Some []) = 0
    measure (Some (f ∷ callers)) = size f

    module _ (step : State F → Pick → Option (State F)) (Allowed : State F → Type 0)
        (allows : Allows high step Allowed) (t : State G) (running : t.ended ≡ None)
        (allowed : (s : State F) → Same high low Matched s t → Allowed s) where
      record Settled (s : State F) (g : ℕ) : Type 0 where
        picks : List Pick
        state : State F
        leads : Leads step s picks state
        same : Same high low Matched state t
        together : TogetherAt high low Matched state t same g
        others : (i : ℕ) → (i ≡ g → ⊥) → slice_get state.goroutines i ≡ slice_get s.goroutines i

      is_settled : (s : State F) (g : ℕ) (same : Same high low Matched s t)
          → TogetherAt high low Matched s t same g → Settled s g
      is_settled s g same together = record {
        picks = [];
        state = s;
        leads = refl;
        same = same;
        together = together;
        others = λ i differ. refl;
      }

      after_stutter : (s : State F) (g : ℕ) (same : Same high low Matched s t)
          (st : Stuttering (slice_get s.goroutines g) (slice_get t.goroutines g))
          → Settled (stuttered s t same g st) g → Settled s g
      after_stutter s g same st rest =
          let u : State F = stuttered s t same g st in
          record {
            picks = One g ∷ rest.picks;
            state = rest.state;
            leads =
                joined step s u rest.state (One g ∷ []) rest.picks
                (single step s u (One g)
                (allows.takes s u (One g) (stutter_step s t same g st (sym same.ended ∙ running))
                (allowed u (stutter_same s t same g st))))
                rest.leads;
            same = rest.same;
            together = rest.together;
            others = λ i differ.
                rest.others i differ ∙ other_item s.goroutines g i (st.stutters.next ∷ st.callers) differ;
          }

      measured : (s : State F) (g : ℕ) (same : Same high low Matched s t)
          (st : Stuttering (slice_get s.goroutines g) (slice_get t.goroutines g))
          → measure (slice_get (stuttered s t same g st).goroutines g) < measure (slice_get s.goroutines g)
      measured s g same st =
          let before : measure (slice_get s.goroutines g) ≡ size st.frame = ap measure st.high_is in
          let behind : measure (slice_get (stuttered s t same g st).goroutines g) ≡ size st.stutters.next =
          ap measure (stutter_here s t same g st) in
          omega (arith, before, behind, st.stutters.smaller)

      settle : (n : ℕ) (s : State F) (g : ℕ) → Same high low Matched s t → measure (slice_get s.goroutines g) ≤ n
          → Settled s g
      settle zero s g same few =
          ⊎_elim (λ st. let less = measured s g same st in absurd (omega (arith, few, less))) (is_settled s g same)
          (goes_on s t same g)
      settle (suc n) s g same few =
          ⊎_elim
          (λ st.
          let less = measured s g same st in
          after_stutter s g same st
          (settle n (stuttered s t same g st) g (stutter_same s t same g st) (omega (arith, few, less))))
          (is_settled s g same) (goes_on s t same g)

      -- the goroutines below n
      record SettledBelow (s : State F) (n : ℕ) : Type 0 where
        picks : List Pick
        state : State F
        leads : Leads step s picks state
        same : Same high low Matched state t
        together : (g : ℕ) → g < n → TogetherAt high low Matched state t same g

      settle_below : (s : State F) → Same high low Matched s t → (n : ℕ) → SettledBelow s n
      settle_below s same zero = record {
        picks = [];
        state = s;
        leads = refl;
        same = same;
        together = λ g less. absurd (omega (arith, less));
      }
      settle_below s same (suc n) =
          let below : SettledBelow s n = settle_below s same n in
          let last : Settled below.state n =
          settle (measure (slice_get below.state.goroutines n)) below.state n below.same (omega arith) in
          record {
            picks = below.picks ++ last.picks;
            state = last.state;
            leads = joined step s below.state last.state below.picks last.picks below.leads last.leads;
            same = last.same;
            together = λ g less.
                ⊎_elim (λ e. subst (TogetherAt high low Matched last.state t last.same) (sym e) last.together)
                (λ differ.
                subst (λ o. Both (TogetherFrames high low Matched) o (slice_get t.goroutines g))
                (sym (last.others g differ)) (below.together g (omega (arith, less, differ))))
                (cases_eq g n);
          }

      -- all goroutines
      pub record SettledAll (s : State F) : Type 0 where
        pub picks : List Pick
        pub state : State F
        pub leads : Leads step s picks state
        pub same : Same high low Matched state t
        pub together : (g : ℕ) → TogetherAt high low Matched state t same g

      within : (o : Option (List F)) (q : Option (List G)) → Both Matched o q
          → ((h : List G) → q ≡ Some h → Both (TogetherFrames high low Matched) o q)
          → Both (TogetherFrames high low Matched) o q
      within None None k more = tt
      within (Some fs) (Some gs) k more = more gs refl
      within _ _ k more = absurd k

      pub settle_all : (s : State F) → Same high low Matched s t → SettledAll s
      settle_all s same =
          let all : SettledBelow s (length t.goroutines) = settle_below s same (length t.goroutines) in
          record {
            picks = all.picks;
            state = all.state;
            leads = all.leads;
            same = all.same;
            together = λ g.
                within (slice_get all.state.goroutines g) (slice_get t.goroutines g)
                (all_get high low Matched all.state.goroutines t.goroutines g all.same.goroutines)
                (λ h there. all.together g (slice_get_within t.goroutines g h there));
          }
