-- Values that are parked. `Queues` has those that wait to do one operation, seen as a list of pairs of an address and a value; `Parked` has
-- one of them for each operation at which goroutines wait. Queues that are empty have no pairs: whether the code keeps them is not visible.
use Rattle.std.specs.Prelude.{◌≡◌, ◌==◌, ℕ, Bool, true, false, List, [], ◌∷◌, ◌++◌, IsPermutation, drop, filter, length, map, min, not, take}
use Rattle.rgo_table_runs.specs.Goroutine.declared.waking.OperationKind.{OperationKind}
use Rattle.rgo_table_runs.specs.Goroutine.declared.waking.OperationKind.TheVariants.{Acknowledge, Close, Receive, Send}

module _ {T : Type 0} where
  -- the pairs of queues, each of which has an address and the values that are there
  abbrev pub pairs_of : {Q : Type 0} → (Q → List T) → List (ℕ × Q) → List (ℕ × T)
  pairs_of items [] = []
  pairs_of items (queue ∷ queues) = map (λ value. (queue.0, value)) (items queue.1) ++ pairs_of items queues

  -- the values that are parked
  abbrev pub parked_values : List (ℕ × T) → List T
  parked_values parked = map (λ p. p.1) parked

  -- those that are parked at an address, the oldest first
  abbrev pub values_at : ℕ → List (ℕ × T) → List T
  values_at at parked = parked_values (filter (λ p. at == p.0) parked)

  -- what is parked at other addresses
  abbrev pub elsewhere : ℕ → List (ℕ × T) → List (ℕ × T)
  elsewhere at parked = filter (λ p. not (at == p.0)) parked

  -- the values with one more, which is the oldest or the youngest of them
  abbrev pub queue_with : (is_oldest : Bool) → T → List T → List T
  queue_with true value values = value ∷ values
  queue_with false value values = values ++ value ∷ []

  -- All values that are parked have come to the end of a list, in some order. Which one is left open, since the run queue has none that
  -- matters.
  abbrev pub TakesAll : List (ℕ × T) → List T → List T → Type 0
  TakesAll parked old new = (more : List T) × (new ≡ old ++ more) × IsPermutation (parked_values parked) more

-- values that are parked, by the operation that they wait to do
pub record Parked (T : Type 0) : Type 0 where
  pub senders : List (ℕ × T)
  pub receivers : List (ℕ × T)
  pub offerers : List (ℕ × T)

module _ {T : Type 0} where
  abbrev pub nobody_parked : Parked T
  nobody_parked = record { senders = []; receivers = []; offerers = [] }

  abbrev pub all_parked : Parked T → List (ℕ × T)
  all_parked p = p.senders ++ (p.receivers ++ p.offerers)

  -- those that wait to do an operation; nobody waits to close a channel
  abbrev pub waiting_for : OperationKind → Parked T → List (ℕ × T)
  waiting_for Send p = p.senders
  waiting_for Receive p = p.receivers
  waiting_for Acknowledge p = p.offerers
  waiting_for Close p = p.senders

  -- the same with these in place of those
  abbrev pub with_waiting : OperationKind → List (ℕ × T) → Parked T → Parked T
  with_waiting Send pairs p = record p { senders = pairs }
  with_waiting Receive pairs p = record p { receivers = pairs }
  with_waiting Acknowledge pairs p = record p { offerers = pairs }
  with_waiting Close pairs p = record p { senders = pairs }

  -- A value is parked at an address. Those at other addresses, and those that wait for other operations, are as before.
  pub record Parks (at : ℕ) (operation : OperationKind) (is_oldest : Bool) (value : T) (old new : Parked T) : Type 0 where
    pub joins : values_at at (waiting_for operation new) ≡ queue_with is_oldest value (values_at at (waiting_for operation old))
    pub others : elsewhere at (waiting_for operation new) ≡ elsewhere at (waiting_for operation old)
    pub rest : new ≡ with_waiting operation (waiting_for operation new) old

  -- The oldest values at an address, `many` and at most `most`, have come to the end of a list. The others are as before.
  pub record Wakes (at : ℕ) (operation : OperationKind) (most many : ℕ) (old : Parked T) (into : List T) (new : Parked T) (come : List T) : Type 0 where
    pub many_come : many ≡ min most (length (values_at at (waiting_for operation old)))
    pub woken : come ≡ into ++ take many (values_at at (waiting_for operation old))
    pub left : values_at at (waiting_for operation new) ≡ drop many (values_at at (waiting_for operation old))
    pub others : elsewhere at (waiting_for operation new) ≡ elsewhere at (waiting_for operation old)
    pub rest : new ≡ with_waiting operation (waiting_for operation new) old

-- ---- examples: two values at one address, and one at another

abbrev pub three_parked : List (ℕ × ℕ)
three_parked = (64, 1) ∷ (72, 2) ∷ (64, 3) ∷ []

pub record QueueExamples : Type 0 where
  pub found : values_at 64 three_parked ≡ 1 ∷ 3 ∷ []
  pub left : elsewhere 64 three_parked ≡ (72, 2) ∷ []
  -- a value is not at another address
  pub apart : values_at 72 three_parked ≡ 1 ∷ 3 ∷ [] → ⊥
  -- one that is not taken is not lost
  pub lost : elsewhere 64 three_parked ≡ [] → ⊥
  pub oldest : queue_with true 4 (values_at 64 three_parked) ≡ 4 ∷ 1 ∷ 3 ∷ []
  pub youngest : queue_with false 4 (values_at 64 three_parked) ≡ 1 ∷ 3 ∷ 4 ∷ []
  pub all : TakesAll three_parked (7 ∷ []) (7 ∷ 3 ∷ 2 ∷ 1 ∷ [])
  -- none stays
  pub some : TakesAll three_parked (7 ∷ []) (7 ∷ 3 ∷ 2 ∷ []) → ⊥

-- one sender and two receivers at one address, and one receiver at another
abbrev pub some_parked : Parked ℕ
some_parked = record {
  senders = (64, 1) ∷ [];
  receivers = (64, 2) ∷ (72, 3) ∷ (64, 4) ∷ [];
  offerers = [];
}

pub record ParkingExamples : Type 0 where
  pub parks : Parks 64 Receive false 5 some_parked (record some_parked { receivers = (64, 2) ∷ (72, 3) ∷ (64, 4) ∷ (64, 5) ∷ [] })
  -- it waits to send, and not to receive
  pub parks_elsewhere : Parks 64 Receive false 5 some_parked (record some_parked { senders = (64, 1) ∷ (64, 5) ∷ [] }) → ⊥
  -- it is parked twice
  pub parks_twice : Parks 64 Receive false 5 some_parked (record some_parked {
    senders = (64, 1) ∷ (64, 5) ∷ [];
    receivers = (64, 2) ∷ (72, 3) ∷ (64, 4) ∷ (64, 5) ∷ [];
  }) → ⊥
  pub wakes : Wakes 64 Receive 1 1 some_parked [] (record some_parked { receivers = (72, 3) ∷ (64, 4) ∷ [] }) (2 ∷ [])
  -- the younger one is woken
  pub wakes_younger : Wakes 64 Receive 1 1 some_parked [] (record some_parked { receivers = (64, 2) ∷ (72, 3) ∷ [] }) (4 ∷ []) → ⊥
  -- one that is woken is lost
  pub wakes_none : Wakes 64 Receive 1 1 some_parked [] (record some_parked { receivers = (72, 3) ∷ (64, 4) ∷ [] }) [] → ⊥
  -- the sender is woken, too
  pub wakes_sender : Wakes 64 Receive 1 1 some_parked [] (record some_parked { senders = []; receivers = (72, 3) ∷ (64, 4) ∷ [] }) (2 ∷ []) → ⊥
