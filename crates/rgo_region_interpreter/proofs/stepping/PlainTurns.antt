-- A turn of at most one step over what the code keeps of the memory is one over the whole memory. The reasons for which a turn ends are
-- compared as well: a wait, a limit or an end of the one is that of the other.
use Rattle.std.proofs.Common.{◌≡◌, ◌⊎◌, inl, inr, ℕ, zero, suc, ◌≤◌, Bool, true, false, ◌&&◌, List, []}
use Rattle.std.proofs.Common.{length, replicate, Option, Some, None, refl, sym, ap, ◌∙◌, subst, nat_le, if◌then◌else◌}
use Rattle.std.proofs.Common.{nat_lt, arith, true≢false, slice_get, option_and_then}
use Rattle.std.specs.List.{list_all}
use Rattle.std.proofs.lemmas.Bool.Decides.{nat_tests}
use Rattle.rgo_memory.specs.declared.values.Value.{Value}
use Rattle.rgo_memory.specs.Channels.{channel_at, channel_in}
use Rattle.rgo_memory.specs.Memory.{Memory}
use Rattle.rgo_machine.specs.declared.limits.Limits.{Limits}
use Rattle.rgo_machine.specs.declared.picks.Pick.TheVariants.{One}
use Rattle.rgo_machine.specs.declared.picks.End.{End}
use Rattle.rgo_machine.specs.declared.limits.Shortage.{Shortage}
use Rattle.rgo_interpreter.specs.declared.turns.TurnEnd.{TurnEnd}
use Rattle.rgo_interpreter.specs.declared.turns.TurnEnd.TheVariants as stop
use Rattle.rgo_interpreter.specs.declared.turns.Turned.{Turned}
use Rattle.rgo_machine.specs.Limits.{LeadsWithin, is_within_depth, if_within, is_within, limited_step}
use Rattle.rgo_machine.specs.Limits.{most_goroutines}
use Rattle.rgo_machine.specs.Runs.{run}
use Rattle.rgo_interpreter.specs.Turns.{ChangesChannels, ChangesPrint, IsOver, Turns}
use Rattle.rgo_tac.specs.Tac.{TacState, tac, tac_step}
use Rattle.rgo_code.specs.Checked.{IsChecked}
use Rattle.rgo_code.specs.Code.{Code}
use Rattle.rgo_code.specs.Erasure.{erased}
use Rattle.rgo_region_machine.specs.declared.regions.Region.{Region}
use Rattle.rgo_region_machine.specs.Regions.{RegionInfo}
use Rattle.rgo_region_machine.specs.States.{RegionState, plain_at}
use Rattle.rgo_sound.specs.Good.{AllGood}
use Rattle.rgo_region_interpreter.specs.Tables.{is_gone, kept_memory}
use Rattle.rgo_region_interpreter.specs.Works.{goes_by, plain_turn_end}
use Rattle.rgo_region_interpreter.proofs.lifting.Steps.{Keeps, StepsAlike, none_of_whole}
use Rattle.rgo_region_interpreter.proofs.lifting.Good.{StateShows, StepShows, shown_keeps, shown_step, shown_steps_alike}
use Rattle.rgo_region_interpreter.proofs.lifting.Memory.{IsLost, IsSafe, Steady, kept_get}

-- ---- what a turn of at most one step is

one_or_none : (n : ℕ) → n ≤ 1 → (n ≡ 0) ⊎ (n ≡ 1)
one_or_none zero l = inl refl
one_or_none (suc zero) l = inr refl
one_or_none (suc (suc n)) l = absurd (omega (arith, l))

module _ (code : Code) {limits : Limits} {k k' : TacState} {g : ℕ} {turned : Turned}
    (turns : Turns (tac (erased code)) limits k k' g 1 turned) where
  the_state : (x y : TacState) → Some x ≡ Some y → x ≡ y
  the_state x y e = cc

  pub one_step : (turned.steps ≡ 0) ⊎ (turned.steps ≡ 1)
  one_step = one_or_none turned.steps turns.within

  -- no step was taken
  pub idle_is : turned.steps ≡ 0 → k ≡ k'
  idle_is e = the_state k k' (subst (λ n. run (limited_step (tac (erased code)) limits) k (replicate n (One g)) ≡ Some k')
      e turns.leads)

  within_only : (o : Option TacState) → option_and_then (λ t. run (limited_step (tac (erased code)) limits) t [])
      (option_and_then (if_within limits) o) ≡ Some k' → (o ≡ Some k') × (is_within limits k' ≡ true)
  within_only None e = cc
  within_only (Some x) e = go (is_within limits x) refl e
    where
      go : (b : Bool) → is_within limits x ≡ b
          → option_and_then (λ t. run (limited_step (tac (erased code)) limits) t []) (if b then Some x else None)
          ≡ Some k' → (◌≡◌ {A = Option TacState} (Some x) (Some k')) × (is_within limits k' ≡ true)
      go true q e = (e, ap (is_within limits) (sym (the_state x k' e)) ∙ q)
      go false q e = cc

  -- one was
  pub step_is : turned.steps ≡ 1 → (tac_step (erased code) k (One g) ≡ Some k') × (is_within limits k' ≡ true)
  step_is e = within_only (tac_step (erased code) k (One g))
      (subst (λ n. run (limited_step (tac (erased code)) limits) k (replicate n (One g)) ≡ Some k') e turns.leads)

-- ---- the same over the whole memory

-- why it is over
pub over_alike : (code : Code) (limits : Limits) (regions : List RegionInfo) (owners : List Region) (p k : TacState)
    (g at_most steps : ℕ) (s : TurnEnd) → Keeps regions owners p k
    → StepsAlike regions owners p k (tac_step (erased code) p (One g)) (tac_step (erased code) k (One g))
    → IsOver (tac (erased code)) limits k g at_most steps s → IsOver (tac (erased code)) limits p g at_most steps s
over_alike code limits regions owners p k g at_most steps stop.Spent keeps alike over = (sym keeps.ended ∙ over.0, over.1)
over_alike code limits regions owners p k g at_most steps stop.Waits keeps alike over =
    (sym keeps.ended ∙ over.0, none_of_whole regions owners p k _ _ alike over.1)
over_alike code limits regions owners p k g at_most steps stop.Printed keeps alike over =
    (sym keeps.ended ∙ over.0, over.1)
over_alike code limits regions owners p k g at_most steps (stop.Operated channel) keeps alike over =
    (sym keeps.ended ∙ over.0, over.1)
over_alike code limits regions owners p k g at_most steps (stop.Ended e) keeps alike over =
    (sym keeps.ended ∙ over.0, over.1)
over_alike code limits regions owners p k g at_most steps stop.TooDeep keeps alike over = (
  sym keeps.ended ∙ over.0,
  record {
    goroutine = over.1.goroutine;
    frame = over.1.frame;
    callers = over.1.callers;
    frames = ap (λ gs. slice_get gs over.1.goroutine) (sym keeps.goroutines) ∙ over.1.frames;
    deep = over.1.deep;
    calls = over.1.calls;
  },
)
over_alike code limits regions owners p k g at_most steps stop.Full keeps alike over = (
  sym keeps.ended ∙ over.0,
  record {
    full = ap length (sym keeps.goroutines) ∙ over.1.full;
    goroutine = over.1.goroutine;
    frame = over.1.frame;
    callers = over.1.callers;
    frames = ap (λ gs. slice_get gs over.1.goroutine) (sym keeps.goroutines) ∙ over.1.frames;
    starts = over.1.starts;
  },
)
over_alike code limits regions owners p k g at_most steps (stop.NoRoom why) keeps alike over = sym keeps.ended ∙ over
over_alike code limits regions owners p k g at_most steps stop.NoMemory keeps alike over = sym keeps.ended ∙ over

-- its channels
module _ (regions : List RegionInfo) (owners : List Region) (m n : Memory) (steady : Steady regions owners m n) where
  safe_or_lost : (o : ℕ) → IsSafe regions owners o ⊎ IsLost regions owners o
  safe_or_lost o = go (slice_get owners o) refl
    where
      the_region : (x y : Region) → Some x ≡ Some y → x ≡ y
      the_region x y e = cc

      by : (r : Region) → slice_get owners o ≡ Some r → (b : Bool) → is_gone regions r ≡ b
          → IsSafe regions owners o ⊎ IsLost regions owners o
      by r at true e = inr (r, at, e)
      by r at false e = inl (λ q z. ap (is_gone regions) (the_region q r (sym z ∙ at)) ∙ e)

      go : (x : Option Region) → slice_get owners o ≡ x → IsSafe regions owners o ⊎ IsLost regions owners o
      go None at = inl (λ q z. absurd (none_some (sym at ∙ z)))
        where
          none_some : {q : Region} → None ≡ Some q → ⊥
          none_some e = cc
      go (Some r) at = by r at (is_gone regions r) refl

  channel_alike : (o : ℕ) (channel : ℕ × List Value × Bool)
      → (channel_at (kept_memory regions owners m) o ≡ Some channel
      → channel_at (kept_memory regions owners n) o ≡ Some channel)
      → channel_at m o ≡ Some channel → channel_at n o ≡ Some channel
  channel_alike o channel keeps is = by (safe_or_lost o)
    where
      by : IsSafe regions owners o ⊎ IsLost regions owners o → channel_at n o ≡ Some channel
      by (inl safe) =
          sym (ap channel_in (kept_get regions owners n.heap o safe))
          ∙ keeps (ap channel_in (kept_get regions owners m.heap o safe) ∙ is)
      by (inr lost) = ap channel_in (steady.same o lost) ∙ is

  pub channels_alike : (s : TurnEnd) → ChangesChannels s (kept_memory regions owners m) (kept_memory regions owners n)
      → ChangesChannels s m n
  channels_alike (stop.Operated k) same = λ o d channel is. channel_alike o channel (λ e. same o d channel e) is
  channels_alike s same = λ o channel is. channel_alike o channel (λ e. same o channel e) is

no_channel_changed : (s : TurnEnd) (m : Memory) → ChangesChannels s m m
no_channel_changed (stop.Operated k) m = λ o d channel is. is
no_channel_changed s m = λ o channel is. is

nothing_printed : (s : TurnEnd) (bytes : List ℕ) → ChangesPrint s bytes bytes
nothing_printed stop.Printed bytes = tt
nothing_printed s bytes = refl

-- the same turn, with a lack of room counted as a lack of memory: this machine has no room to run out of
pub turns_without_regions : (code : Code) (limits : Limits) (k k' : TacState) (g at_most : ℕ) (turned : Turned)
    → Turns (tac (erased code)) limits k k' g at_most turned → Turns (tac (erased code)) limits k k' g at_most
    (record { steps = turned.steps; stop = plain_turn_end turned.stop })
turns_without_regions code limits k k' g at_most turned turns = record {
  leads = turns.leads;
  within = turns.within;
  over = over turned.stop turns.over;
  channels = channels turned.stop turns.channels;
  print = print turned.stop turns.print;
}
  where
    over : (s : TurnEnd) → IsOver (tac (erased code)) limits k' g at_most turned.steps s
        → IsOver (tac (erased code)) limits k' g at_most turned.steps (plain_turn_end s)
    over (stop.NoRoom why) x = x
    over s x = x

    channels : (s : TurnEnd) → ChangesChannels s k.memory k'.memory → ChangesChannels (plain_turn_end s) k.memory k'.memory
    channels (stop.NoRoom why) x = x
    channels s x = x

    print : (s : TurnEnd) → ChangesPrint s k.printed k'.printed → ChangesPrint (plain_turn_end s) k.printed k'.printed
    print (stop.NoRoom why) x = x
    print s x = x

pub never_no_room : (s : TurnEnd) (why : Shortage) → plain_turn_end s ≡ stop.NoRoom why → ⊥
never_no_room (stop.NoRoom why') why e = cc
never_no_room stop.Spent why e = cc
never_no_room stop.Waits why e = cc
never_no_room stop.Printed why e = cc
never_no_room (stop.Operated channel) why e = cc
never_no_room (stop.Ended end) why e = cc
never_no_room stop.TooDeep why e = cc
never_no_room stop.Full why e = cc
never_no_room stop.NoMemory why e = cc

-- a turn after which the run continues has not ended it
pub goes_running : (code : Code) (limits : Limits) (k : TacState) (g at_most steps : ℕ) (s : TurnEnd)
    → goes_by s steps ≡ true → IsOver (tac (erased code)) limits k g at_most steps s → k.ended ≡ None
goes_running code limits k g at_most steps stop.Spent e over = over.0
goes_running code limits k g at_most steps stop.Waits e over = over.0
goes_running code limits k g at_most steps stop.Printed e over = over.0
goes_running code limits k g at_most steps (stop.Operated channel) e over = over.0
goes_running code limits k g at_most steps (stop.Ended end) e over = cc
goes_running code limits k g at_most steps stop.TooDeep e over = over.0
goes_running code limits k g at_most steps stop.Full e over = over.0
goes_running code limits k g at_most steps (stop.NoRoom why) e over = over
goes_running code limits k g at_most steps stop.NoMemory e over = over

-- one after which it does not, and in which a step was taken, has
pub stays_ended : (code : Code) (limits : Limits) (k : TacState) (g at_most steps : ℕ) (s : TurnEnd) → steps ≡ 1
    → goes_by s steps ≡ false → IsOver (tac (erased code)) limits k g at_most steps s → (e : End) × (k.ended ≡ Some e)
stays_ended code limits k g at_most steps (stop.Ended end) one e over = (end, over.0)
stays_ended code limits k g at_most steps s one e over = absurd (true≢false (sym (positive steps one) ∙ e))
  where
    positive : (n : ℕ) → n ≡ 1 → nat_lt 0 n ≡ true
    positive n q = grind (arith, nat_tests)

module _ (code : Code) (limits : Limits) (s : RegionState) (g : ℕ) (turned : Turned) (k k' : TacState)
    (checked : IsChecked code) (good : AllGood code s) (shows : StateShows k s) (running : s.mark ≡ None)
    (turns : Turns (tac (erased code)) limits k k' g 1 turned) where
  abbrev p : TacState
  p = plain_at s k.printed

  -- if no step was taken
  pub idle_turn : turned.steps ≡ 0 → Turns (tac (erased code)) limits p p g 1 turned
  idle_turn e = record {
    leads = subst (λ n. LeadsWithin (tac (erased code)) limits p (replicate n (One g)) p) (sym e) refl;
    within = turns.within;
    over = over_alike code limits s.regions s.owners p k g 1 turned.steps turned.stop
        (shown_keeps code s checked good k shows) (shown_steps_alike code s checked good k shows (One g))
        (subst (λ q. IsOver (tac (erased code)) limits q g 1 turned.steps turned.stop) (sym (idle_is code turns e))
        turns.over);
    channels = no_channel_changed turned.stop p.memory;
    print = nothing_printed turned.stop p.printed;
  }

  -- what was done in a step
  pub step_shows : turned.steps ≡ 1 → StepShows code s k (One g) k'
  step_shows e = shown_step code s checked good k shows running (One g) k' (step_is code turns e).0

  -- if it was taken, and the region machine comes to this state by it
  module _ (e : turned.steps ≡ 1) (t : RegionState) (all : AllGood code t) (after : StateShows k' t)
      (is : ◌≡◌ {A = TacState} (record (step_shows e).next { printed = k'.printed }) (plain_at t k'.printed)) where
    pub done_turn : Turns (tac (erased code)) limits p (plain_at t k'.printed) g 1 turned
    done_turn = record {
      leads = subst (λ n. LeadsWithin (tac (erased code)) limits p (replicate n (One g)) (plain_at t k'.printed)) (sym e)
          (ap (λ o. option_and_then (λ t. run (limited_step (tac (erased code)) limits) t [])
          (option_and_then (if_within limits) o)) ((step_shows e).step_at ∙ ap Some is)
          ∙ ap (λ b. option_and_then (λ t. run (limited_step (tac (erased code)) limits) t [])
          (if b then Some (plain_at t k'.printed) else None)) within);
      within = turns.within;
      over = over_alike code limits t.regions t.owners (plain_at t k'.printed) k' g 1 turned.steps turned.stop
          (shown_keeps code t checked all k' after) (shown_steps_alike code t checked all k' after (One g)) turns.over;
      channels = subst (λ n. ChangesChannels turned.stop s.plain.memory n) (ap (λ (z : TacState). z.memory) is)
          (channels_alike s.regions s.owners s.plain.memory (step_shows e).next.memory (step_shows e).steady turned.stop
          (subst (λ m. ChangesChannels turned.stop m (kept_memory s.regions s.owners (step_shows e).next.memory))
          shows.memory (subst (ChangesChannels turned.stop k.memory) (step_shows e).memory turns.channels)));
      print = turns.print;
    }
      where
        within : is_within limits (plain_at t k'.printed) ≡ true
        within = ap (λ gs. nat_le (length gs) (most_goroutines limits) && list_all is_within_depth gs) (sym after.goroutines)
            ∙ (step_is code turns e).1
