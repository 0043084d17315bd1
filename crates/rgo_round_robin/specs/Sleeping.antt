-- Goroutines without a step: they have returned, or wait at a channel, where they are listed. A driver gives no turns to them, so it has to
-- be kept that none of them has a step.
use Rattle.std.specs.Prelude.{◌≡◌, ◌≤◌, ◌<◌, ◌⊎◌, ℕ, List, ◌∷◌, ◌++◌, length, Option, Some, None, Contains}
use Rattle.std.specs.Prelude.{option_and_then}
use Rattle.rgo_memory.specs.declared.values.Value.TheVariants.{Object}
use Rattle.rgo_interpreter.specs.declared.machines.Stand.{Stand}
use Rattle.rgo_interpreter.specs.declared.machines.Stand.TheVariants.{Receive, Send}
use Rattle.rgo_machine.specs.declared.picks.Pick.TheVariants.{One}
use Rattle.rgo_interpreter.specs.Acting.{standing}
use Rattle.rgo_machine.specs.Machines.{Machine, State, step_by}
use Rattle.rgo_round_robin.specs.Points.{Point}

-- the channel on which a goroutine receives or sends next
abbrev pub waits_at : Stand → Option ℕ
waits_at (Receive (Object channel) blank) = Some channel
waits_at (Send (Object channel) value place) = Some channel
waits_at _ = None

module _ {F : Type 0} (machine : Machine F) where
  abbrev pub next_channel_of : State F → ℕ → Option ℕ
  next_channel_of s g = option_and_then waits_at (standing machine s g)

  -- The goroutine has no step alone, and if it waits at a channel it is listed there. One that has returned, or waits at nil, is listed
  -- nowhere: it never has a step again.
  pub record Sleeps (s : State F) (waiting : ℕ → List ℕ) (g : ℕ) : Type 0 where
    pub still : step_by machine s (One g) ≡ None
    pub listed : (channel : ℕ) → next_channel_of s g ≡ Some channel → Contains (waiting channel) g

  -- Every goroutine is among these, or sleeps. It is allowed to be both, so a goroutine may be woken for nothing.
  abbrev pub Watches : State F → List ℕ → (ℕ → List ℕ) → Type 0
  Watches s awake waiting = (g : ℕ) → g < length s.goroutines → Contains awake g ⊎ Sleeps s waiting g

  -- Between two points of a goroutine's turn no other goroutine that is ready, that sleeps or that is new is lost.
  pub record LosesNoGoroutine (g : ℕ) (p q : Point F) : Type 0 where
    pub longer : length p.state.goroutines ≤ length q.state.goroutines
    pub ready : (h : ℕ) → Contains p.ready h → Contains q.ready h
    pub sleeps : (h : ℕ) → (h ≡ g → ⊥) → h < length p.state.goroutines → Sleeps p.state p.waiting h
        → Contains q.ready h ⊎ Sleeps q.state q.waiting h
    pub fresh : (h : ℕ) → length p.state.goroutines ≤ h → h < length q.state.goroutines → Contains q.ready h

  -- After the turn of a goroutine, with those that have theirs later in the round: `rest` is any list, so turns can be put together.
  abbrev pub RoundContinues : ℕ → Point F → Point F → Type 0
  RoundContinues g p q =
      (rest : List ℕ) → Watches p.state (g ∷ rest ++ p.ready) p.waiting → Watches q.state (rest ++ q.ready) q.waiting
