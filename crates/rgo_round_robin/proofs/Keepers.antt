-- No goroutine is lost: each is ready, or sleeps. The record is about all goroutines but the one whose turn it is, so that it can be
-- composed step by step (`keeps_on`); that one is added when its turn is over (`passes`). The hard case is a meeting, which changes a
-- second goroutine: it was the last of its list, and is ready then.
use Rattle.std.proofs.Common.{◌≡◌, ◌<◌, ◌≤◌, ◌+◌, ◌⊎◌, inl, inr, ℕ, List, [], ◌∷◌}
use Rattle.std.proofs.Common.{◌++◌, length, Contains, Option, Some, None}
use Rattle.std.proofs.Common.{refl, ap, sym, subst, ◌∙◌, arith}
use Rattle.std.proofs.lemmas.Bool.{cases_eq, cases_lt}
use Rattle.std.proofs.lemmas.List.Elements.{Contains-append_left, Contains-append_right, Contains-append_cases}
use Rattle.std.proofs.lemmas.List.Elements.{Contains-push, Contains-push_cases}
use Rattle.std.specs.Prelude.{slice_get}
use Rattle.rgo_memory.specs.Channels.{channel_at}
use Rattle.rgo_memory.specs.Memory.{Memory}
use Rattle.rgo_machine.specs.declared.limits.Limits.{Limits}
use Rattle.rgo_machine.specs.declared.picks.Pick.TheVariants.{One, Meet}
use Rattle.rgo_interpreter.specs.declared.turns.TurnEnd.{TurnEnd}
use Rattle.rgo_interpreter.specs.declared.turns.TurnEnd.TheVariants as stop
use Rattle.rgo_interpreter.specs.declared.turns.Turned.{Turned}
use Rattle.rgo_machine.specs.Machines.{Machine, State, step_by}
use Rattle.rgo_interpreter.specs.Turns.{Turns, ChangesChannels}
use Rattle.rgo_round_robin.specs.Playing.{state_with_print}
use Rattle.rgo_round_robin.specs.Points.{Point}
use Rattle.rgo_round_robin.specs.Sleeping.{next_channel_of, Sleeps, Watches, LosesNoGoroutine, RoundContinues}
use Rattle.rgo_round_robin.specs.Turning.{operated_channel, AreMet}
use Rattle.std.proofs.lemmas.Option.{same_Some}
use Rattle.rgo_round_robin.proofs.Others.{turn_spares, Met, meeting_is}
use Rattle.rgo_round_robin.proofs.Printing.{no_step}
use Rattle.rgo_round_robin.proofs.Sleepers.{SameAt, sleeps_on}

-- ---- lists

pub first_or_later : (g h : ℕ) (l : List ℕ) → Contains (g ∷ l) h → (g ≡ h) ⊎ Contains l h
first_or_later g h l c = by_cases (Contains-append_cases (g ∷ []) l h c) where
  alone : Contains [] h ⊎ (g ≡ h) → (g ≡ h) ⊎ Contains l h
  alone (inl none) = absurd (omega (arith, none.1))
  alone (inr e) = inl e

  by_cases : Contains (g ∷ []) h ⊎ Contains l h → (g ≡ h) ⊎ Contains l h
  by_cases (inl c) = alone (Contains-push_cases [] g h c)
  by_cases (inr c) = inr c

-- one number more
pub pushed_more : (l : List ℕ) (from i : ℕ) → ((h : ℕ) → from ≤ h → h < i → Contains l h)
    → (h : ℕ) → from ≤ h → h < i + 1 → Contains (l ++ i ∷ []) h
pushed_more l from i before h past lt = by_cases (cases_lt h i) where
  by_cases : (h < i) ⊎ (i ≤ h) → Contains (l ++ i ∷ []) h
  by_cases (inl less) = Contains-append_left l (i ∷ []) h (before h past less)
  by_cases (inr behind) =
      let same : i ≡ h = omega (arith, lt, behind) in
      subst (λ k. Contains (l ++ i ∷ []) k) same (Contains-push l i)

-- both are the same number, or there is none that both are
both_at : (o p : Option ℕ)
    → ((n : ℕ) × (o ≡ Some n) × (p ≡ Some n)) ⊎ ((n : ℕ) → o ≡ Some n → p ≡ Some n → ⊥)
both_at None p = inr (λ n e f. cc)
both_at (Some a) None = inr (λ n e f. cc)
both_at (Some a) (Some b) = by_cases (cases_eq a b) where
  by_cases : (a ≡ b) ⊎ (a ≡ b → ⊥)
      → ((n : ℕ) × (Some a ≡ Some n) × (Some b ≡ Some n)) ⊎ ((n : ℕ) → Some a ≡ Some n → Some b ≡ Some n → ⊥)
  by_cases (inl e) = inl (a, refl, ap Some (sym e))
  by_cases (inr other) = inr (λ n e f. other (same_Some a n e ∙ sym (same_Some b n f)))

-- a channel on which a turn has not operated
left_alone : (s : TurnEnd) (m k : Memory) (n : ℕ) → ChangesChannels s m k → (operated_channel s ≡ Some n → ⊥) → SameAt m k n
left_alone stop.Spent m k n c not = c n
left_alone stop.Waits m k n c not = c n
left_alone stop.Printed m k n c not = c n
left_alone (stop.Operated channel) m k n c not = c n (λ e. not (ap Some (sym e)))
left_alone (stop.Ended e) m k n c not = c n
left_alone stop.TooDeep m k n c not = c n
left_alone stop.Full m k n c not = c n
left_alone (stop.NoRoom shortage) m k n c not = c n
left_alone stop.NoMemory m k n c not = c n

module _ {F : Type 0} (machine : Machine F) (g : ℕ) where
  pub keeps_itself : (p : Point F) → LosesNoGoroutine machine g p p
  keeps_itself p = record {
    longer = omega arith;
    ready = λ h c. c;
    sleeps = λ h other lt sleeps. inr sleeps;
    fresh = λ h past lt. absurd (omega (arith, past, lt));
  }

  pub keeps_on : (p q r : Point F) → LosesNoGoroutine machine g p q → LosesNoGoroutine machine g q r → LosesNoGoroutine machine g p r
  keeps_on p q r a b = record {
    longer = omega (arith, a.longer, b.longer);
    ready = λ h c. b.ready h (a.ready h c);
    sleeps = λ h other lt sleeps. asleep h other lt (a.sleeps h other lt sleeps);
    fresh = λ h past lt. new h past lt (cases_lt h (length q.state.goroutines));
  } where
    asleep : (h : ℕ) → (h ≡ g → ⊥) → h < length p.state.goroutines
        → Contains q.ready h ⊎ Sleeps machine q.state q.waiting h
        → Contains r.ready h ⊎ Sleeps machine r.state r.waiting h
    asleep h other lt (inl c) = inl (b.ready h c)
    asleep h other lt (inr sleeps) = b.sleeps h other (omega (arith, lt, a.longer)) sleeps

    new : (h : ℕ) → length p.state.goroutines ≤ h → h < length r.state.goroutines
        → (h < length q.state.goroutines) ⊎ (length q.state.goroutines ≤ h) → Contains r.ready h
    new h past lt (inl before) = b.ready h (a.fresh h past before)
    new h past lt (inr behind) = b.fresh h behind lt

  -- one more is ready
  pub keeps_pushed : (p m : Point F) (ready : List ℕ) (x : ℕ) → ready ≡ m.ready ++ x ∷ [] → LosesNoGoroutine machine g p m
      → LosesNoGoroutine machine g p (record m { ready = ready })
  keeps_pushed p m ready x is keeps = record {
    longer = keeps.longer;
    ready = λ h c. more h (keeps.ready h c);
    sleeps = λ h other lt sleeps. by_cases h (keeps.sleeps h other lt sleeps);
    fresh = λ h past lt. more h (keeps.fresh h past lt);
  } where
    more : (h : ℕ) → Contains m.ready h → Contains ready h
    more h c = subst (λ l. Contains l h) (sym is) (Contains-append_left m.ready (x ∷ []) h c)

    by_cases : (h : ℕ) → Contains m.ready h ⊎ Sleeps machine m.state m.waiting h
        → Contains ready h ⊎ Sleeps machine m.state m.waiting h
    by_cases h (inl c) = inl (more h c)
    by_cases h (inr sleeps) = inr sleeps

  -- after its turn the goroutine is ready, or sleeps
  pub passes : (p q : Point F) → LosesNoGoroutine machine g p q → Contains q.ready g ⊎ Sleeps machine q.state q.waiting g
      → RoundContinues machine g p q
  passes p q keeps own rest watches h lt = by_number (cases_eq h g) where
    here : Contains q.ready g ⊎ Sleeps machine q.state q.waiting g
        → Contains (rest ++ q.ready) g ⊎ Sleeps machine q.state q.waiting g
    here (inl c) = inl (Contains-append_right rest q.ready g c)
    here (inr sleeps) = inr sleeps

    listed : (h ≡ g → ⊥) → (g ≡ h) ⊎ Contains (rest ++ p.ready) h → Contains (rest ++ q.ready) h
    listed other (inl e) = absurd (other (sym e))
    listed other (inr c) = among (Contains-append_cases rest p.ready h c) where
      among : Contains rest h ⊎ Contains p.ready h → Contains (rest ++ q.ready) h
      among (inl c) = Contains-append_left rest q.ready h c
      among (inr c) = Contains-append_right rest q.ready h (keeps.ready h c)

    later : Contains q.ready h ⊎ Sleeps machine q.state q.waiting h
        → Contains (rest ++ q.ready) h ⊎ Sleeps machine q.state q.waiting h
    later (inl c) = inl (Contains-append_right rest q.ready h c)
    later (inr sleeps) = inr sleeps

    watched : (h ≡ g → ⊥) → h < length p.state.goroutines
        → Contains (g ∷ (rest ++ p.ready)) h ⊎ Sleeps machine p.state p.waiting h
        → Contains (rest ++ q.ready) h ⊎ Sleeps machine q.state q.waiting h
    watched other old (inl c) = inl (listed other (first_or_later g h (rest ++ p.ready) c))
    watched other old (inr sleeps) = later (keeps.sleeps h other old sleeps)

    by_age : (h ≡ g → ⊥) → (h < length p.state.goroutines) ⊎ (length p.state.goroutines ≤ h)
        → Contains (rest ++ q.ready) h ⊎ Sleeps machine q.state q.waiting h
    by_age other (inl old) = watched other old (watches h old)
    by_age other (inr new) = inl (Contains-append_right rest q.ready h (keeps.fresh h new lt))

    by_number : (h ≡ g) ⊎ (h ≡ g → ⊥) → Contains (rest ++ q.ready) h ⊎ Sleeps machine q.state q.waiting h
    by_number (inl e) =
        subst (λ k. Contains (rest ++ q.ready) k ⊎ Sleeps machine q.state q.waiting k) (sym e) (here own)
    by_number (inr other) = by_age other (cases_lt h (length p.state.goroutines))

  -- steps of the goroutine alone
  pub keeps_turn : (limits : Limits) (p q : Point F) (at_most : ℕ) (turned : Turned) → p.state.ended ≡ None
      → Turns machine limits p.state q.state g at_most turned
      → ((h : ℕ) → Contains p.ready h → Contains q.ready h)
      → ((h : ℕ) → length p.state.goroutines ≤ h → h < length q.state.goroutines → Contains q.ready h)
      → ((n h : ℕ) → operated_channel turned.stop ≡ Some n → Contains (p.waiting n) h → Contains q.ready h)
      → ((n : ℕ) → (operated_channel turned.stop ≡ Some n → ⊥) → q.waiting n ≡ p.waiting n)
      → LosesNoGoroutine machine g p q
  keeps_turn limits p q at_most turned running turns stay fresh woken others =
      let spares = turn_spares machine limits g turned.steps p.state q.state turns.leads in
      record {
        longer = spares.longer;
        ready = stay;
        sleeps = λ h other lt sleeps. asleep h other lt sleeps (both_at (next_channel_of machine p.state h)
            (operated_channel turned.stop));
        fresh = fresh;
      } where
        asleep : (h : ℕ) → (h ≡ g → ⊥) → h < length p.state.goroutines → Sleeps machine p.state p.waiting h
            → ((n : ℕ) × (next_channel_of machine p.state h ≡ Some n) × (operated_channel turned.stop ≡ Some n))
            ⊎ ((n : ℕ) → next_channel_of machine p.state h ≡ Some n → operated_channel turned.stop ≡ Some n → ⊥)
            → Contains q.ready h ⊎ Sleeps machine q.state q.waiting h
        asleep h other lt sleeps (inl at) = inl (woken at.0 h at.2 (sleeps.listed at.0 at.1))
        asleep h other lt sleeps (inr not) =
            inr (sleeps_on machine p.state q.state h p.waiting q.waiting running
            ((turn_spares machine limits g turned.steps p.state q.state turns.leads).same h other lt)
            (λ n is. left_alone turned.stop p.state.memory q.state.memory n turns.channels (not n is))
            (λ n is c. subst (λ l. Contains l h) (sym (others n (not n is))) c)
            sleeps)

-- ---- meetings

neither : (met : ℕ × ℕ) (g h k : ℕ) → AreMet met g h → (k ≡ g → ⊥) → (k ≡ h → ⊥) → (k ≡ met.0) ⊎ (k ≡ met.1) → ⊥
neither met g h k (inl p) a b (inl e) = a (e ∙ p.0)
neither met g h k (inl p) a b (inr e) = b (e ∙ p.1)
neither met g h k (inr p) a b (inl e) = b (e ∙ p.0)
neither met g h k (inr p) a b (inr e) = a (e ∙ p.1)

same_memory : (m k : Memory) (n : ℕ) → k ≡ m → SameAt m k n
same_memory m k n e channel is = subst (λ v. channel_at v n ≡ Some channel) (sym e) is

module _ {F : Type 0} (machine : Machine F) (limits : Limits) where
  -- one that waits as the last of its list has met the goroutine, and is ready
  pub keeps_meeting : (g partner channel : ℕ) (met : ℕ × ℕ) (p q : Point F) (rest : List ℕ) → p.state.ended ≡ None
      → step_by machine p.state (Meet met.0 met.1) ≡ Some q.state → AreMet met g partner
      → q.ready ≡ p.ready ++ partner ∷ [] → p.waiting channel ≡ rest ++ partner ∷ [] → q.waiting channel ≡ rest
      → ((n : ℕ) → (n ≡ channel → ⊥) → q.waiting n ≡ p.waiting n)
      → LosesNoGoroutine machine g p q
  keeps_meeting g partner channel met p q rest running step both ready was now others = record {
    longer = is.spares.longer;
    ready = λ h c. subst (λ l. Contains l h) (sym ready) (Contains-append_left p.ready (partner ∷ []) h c);
    sleeps = λ h other lt sleeps. asleep h other lt sleeps (cases_eq h partner);
    fresh = λ h past lt. absurd (omega (arith, past, lt, is.count));
  } where
    is : Met limits met.0 met.1 p.state q.state
    is = meeting_is machine limits p.state met.0 met.1 q.state step

    stays : (h : ℕ) → (h ≡ partner → ⊥) → Contains rest h ⊎ (partner ≡ h) → Contains rest h
    stays h other (inl c) = c
    stays h other (inr e) = absurd (other (sym e))

    lists : (h n : ℕ) → (h ≡ partner → ⊥) → (n ≡ channel) ⊎ (n ≡ channel → ⊥) → Contains (p.waiting n) h
        → Contains (q.waiting n) h
    lists h n other (inl e) c =
        subst (λ l. Contains l h) (sym (ap q.waiting e ∙ now))
        (stays h other (Contains-push_cases rest partner h (subst (λ l. Contains l h) (ap p.waiting e ∙ was) c)))
    lists h n other (inr elsewhere) c = subst (λ l. Contains l h) (sym (others n elsewhere)) c

    asleep : (h : ℕ) → (h ≡ g → ⊥) → h < length p.state.goroutines → Sleeps machine p.state p.waiting h
        → (h ≡ partner) ⊎ (h ≡ partner → ⊥) → Contains q.ready h ⊎ Sleeps machine q.state q.waiting h
    asleep h other lt sleeps (inl e) =
        inl (subst (λ k. Contains q.ready k) (sym e) (subst (λ l. Contains l partner) (sym ready)
        (Contains-push p.ready partner)))
    asleep h other lt sleeps (inr apart) =
        inr (sleeps_on machine p.state q.state h p.waiting q.waiting running
        (is.spares.same h (neither met g partner h both other apart) lt)
        (λ n at. same_memory p.state.memory q.state.memory n is.memory)
        (λ n at c. lists h n apart (cases_eq n channel) c)
        sleeps)

  -- two that met are ready
  pub watches_meeting : (r t : ℕ) (s u : State F) (ready more : List ℕ) (waiting : ℕ → List ℕ) → s.ended ≡ None
      → Met limits r t s u → more ≡ ready ++ r ∷ t ∷ [] → Watches machine s ready waiting
      → Watches machine u more waiting
  watches_meeting r t s u ready more waiting running met is watches h lt =
      by_number (cases_eq h r) (cases_eq h t) where
        later : (h ≡ r → ⊥) → (h ≡ t → ⊥) → Contains ready h ⊎ Sleeps machine s waiting h
            → Contains more h ⊎ Sleeps machine u waiting h
        later a b (inl c) = inl (subst (λ l. Contains l h) (sym is) (Contains-append_left ready (r ∷ t ∷ []) h c))
        later a b (inr sleeps) =
            inr (sleeps_on machine s u h waiting waiting running
            (met.spares.same h (neither (r, t) r t h (inl (refl, refl)) a b) (omega
            (arith, lt, met.count)))
            (λ n is. same_memory s.memory u.memory n met.memory)
            (λ n is c. c)
            sleeps)

        by_number : (h ≡ r) ⊎ (h ≡ r → ⊥) → (h ≡ t) ⊎ (h ≡ t → ⊥) → Contains more h ⊎ Sleeps machine u waiting h
        by_number (inl e) b =
            inl (subst (λ k. Contains more k) (sym e) (subst (λ l. Contains l r) (sym is)
            (Contains-append_right ready (r ∷ t ∷ []) r (Contains-append_left (r ∷ []) (t ∷ []) r
            (Contains-push [] r)))))
        by_number (inr a) (inl e) =
            inl (subst (λ k. Contains more k) (sym e) (subst (λ l. Contains l t) (sym is)
            (Contains-append_right ready (r ∷ t ∷ []) t (Contains-push (r ∷ []) t))))
        by_number (inr a) (inr b) = later a b (watches h (omega (arith, lt, met.count)))

  -- nothing happened, but for the goroutine that joined those that wait at its channel
  pub keeps_joined : (g channel : ℕ) (p q : Point F) → p.state.ended ≡ None → q.state ≡ p.state → q.ready ≡ p.ready
      → q.waiting channel ≡ p.waiting channel ++ g ∷ []
      → ((n : ℕ) → (n ≡ channel → ⊥) → q.waiting n ≡ p.waiting n)
      → LosesNoGoroutine machine g p q
  keeps_joined g channel p q running state ready joined others = record {
    longer = omega (arith, ap (λ s. length s.goroutines) state);
    ready = λ h c. subst (λ l. Contains l h) (sym ready) c;
    sleeps = λ h other lt sleeps.
        inr (sleeps_on machine p.state q.state h p.waiting q.waiting running
        (ap (λ s. slice_get s.goroutines h) state)
        (λ n is. same_memory p.state.memory q.state.memory n (ap (λ s. s.memory) state))
        (λ n is c. lists h n (cases_eq n channel) c)
        sleeps);
    fresh = λ h past lt. absurd (omega (arith, past, lt, ap (λ s. length s.goroutines) state));
  } where
    lists : (h n : ℕ) → (n ≡ channel) ⊎ (n ≡ channel → ⊥) → Contains (p.waiting n) h → Contains (q.waiting n) h
    lists h n (inl e) c =
        subst (λ l. Contains l h) (sym (ap q.waiting e ∙ joined))
        (Contains-append_left (p.waiting channel) (g ∷ []) h (subst (λ l. Contains l h) (ap p.waiting e) c))
    lists h n (inr elsewhere) c = subst (λ l. Contains l h) (sym (others n elsewhere)) c

  pub joined_sleeps : (g channel : ℕ) (s t : State F) (before waiting : ℕ → List ℕ) → step_by machine s (One g) ≡ None
      → next_channel_of machine s g ≡ Some channel → t ≡ s → waiting channel ≡ before channel ++ g ∷ []
      → Sleeps machine t waiting g
  joined_sleeps g channel s t before waiting none at same joined = record {
    still = ap (λ v. step_by machine v (One g)) same ∙ none;
    listed = λ n is.
        let here : channel ≡ n = same_Some channel n (sym at ∙ ap (λ v. next_channel_of machine v g) (sym same) ∙ is) in
        subst (λ k. Contains (waiting k) g) here (subst (λ l. Contains l g) (sym joined) (Contains-push
        (before channel) g));
  }

  -- it waits at no channel that could change
  pub sleeps_forever : (g : ℕ) (s : State F) (waiting : ℕ → List ℕ) → step_by machine s (One g) ≡ None
      → next_channel_of machine s g ≡ None → Sleeps machine s waiting g
  sleeps_forever g s waiting none at = record {
    still = none;
    listed = λ n is. absurd (different n (sym at ∙ is));
  } where
    different : (n : ℕ) → None ≡ Some n → ⊥
    different n e = cc

  -- whatever was printed
  pub watches_printed : (s t : State F) (bytes : List ℕ) (ready : List ℕ) (waiting : ℕ → List ℕ)
      → t ≡ state_with_print s bytes
      → Watches machine s ready waiting → Watches machine t ready waiting
  watches_printed s t bytes ready waiting is watches =
      subst (λ v. Watches machine v ready waiting) (sym is) (λ h lt. by_cases h (watches h lt)) where
        by_cases : (h : ℕ) → Contains ready h ⊎ Sleeps machine s waiting h
            → Contains ready h ⊎ Sleeps machine (state_with_print s bytes) waiting h
        by_cases h (inl c) = inl c
        by_cases h (inr sleeps) =
            inr (record { still = no_step machine s bytes (One h) sleeps.still; listed = sleeps.listed })
