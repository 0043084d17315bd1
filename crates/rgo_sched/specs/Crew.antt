-- The workers of a round, and what they have put, taken and done. Sums over all workers are what nobody else can change, so the
-- proof that no task is lost is a comparison of three sums.
use Rattle.std.specs.Prelude.{◌≡◌, ◌≢◌, ℕ, ◌+◌, ◌-◌, ◌*◌, ◌<◌, ◌≤◌, List, [], length}
use mathlib.Core.Option.{some}
use lib.ListN.{get_elem?}
use Rattle.crossbeam_deque.specs.Handles.{stealer_deque, worker_capacity, worker_deque, worker_flavor, worker_index, worker_view}
use Rattle.rgo_sched.specs.declared.crew.Worker.{Worker}
use Rattle.rgo_sched.specs.Accounts.{total_weight, all_parts}
use Rattle.rgo_sched.specs.Deques.{TaskStealer}
use Rattle.rgo_sched.specs.Permits.{AllFit, permits_for, stolen}
use Rattle.rgo_sched.specs.Positions.{only}

module _ {T B : Type 0} where
  -- the weight of what a worker has put, taken and done
  abbrev pub put_by : (ℕ → ℕ) → Worker T B → ℕ
  put_by w m = total_weight w (worker_view m.own).put

  abbrev pub taken_by : (ℕ → ℕ) → Worker T B → ℕ
  taken_by w m = total_weight w (worker_view m.own).taken + stolen w m.permits.items

  abbrev pub done_by : (ℕ → ℕ) → Worker T B → ℕ
  done_by w m = total_weight w m.done.items

  -- What the worker took, from its own deque and by its permits, is what it has done. It holds whenever the worker has no task in hand.
  pub record DoneIsTaken (m : Worker T B) : Type 0 where
    pub counted : (w : ℕ → ℕ) → taken_by w m ≡ done_by w m

  -- it holds of each worker
  abbrev pub Every : (Worker T B → Type 0) → List (Worker T B) → Type 0
  Every P crew = (k : ℕ) (m : Worker T B) → get_elem? crew k ≡ some m → P m

  -- Nothing was ever put into the worker's deque, and `workers` such deques have slots for all tasks. So no push of the deal can
  -- be refused.
  abbrev pub HasSlots : ℕ → ℕ → Worker T B → Type 0
  HasSlots tasks workers m = (worker_index m.own ≡ 0) × (tasks ≤ worker_capacity m.own * workers)

  -- a worker before it has a permit or a task
  pub record New (tasks workers : ℕ) (m : Worker T B) : Type 0 where
    pub fifo : worker_flavor m.own ≡ 0
    pub alone : worker_view m.own ≡ all_parts
    pub slots : HasSlots tasks workers m
    pub no_permit : m.permits.items ≡ []
    pub room : m.permits.cap ≡ workers
    pub nothing_done : m.done.items ≡ []

  -- a worker that may begin: it has a permit for each of `workers` deques
  abbrev pub WorkerIsReady : ℕ → Worker T B → Type 0
  WorkerIsReady workers m = DoneIsTaken m × (length m.permits.items ≡ workers)

  -- a worker that has all parts of its deque again
  abbrev pub HasAllParts : Worker T B → Type 0
  HasAllParts m = ((worker_view m.own).parts ≡ 128) × (worker_flavor m.own ≡ 0) × (m.permits.items ≡ [])

  -- what a worker keeps from before its work to after it
  pub record Worked (m n : Worker T B) : Type 0 where
    pub fifo : worker_flavor n.own ≡ worker_flavor m.own
    pub table : worker_deque n.own ≡ worker_deque m.own
    pub parts : (worker_view n.own).parts ≡ (worker_view m.own).parts
    pub put : (worker_view n.own).put ≡ (worker_view m.own).put
    pub permits : length n.permits.items ≡ length m.permits.items

  -- The workers of a round and the stealers of their deques: all parts of each deque are with its owner, with the permits that
  -- workers have for it, or in hand. `in_hand k` counts the permits for deque k that no worker has: between two statements the code holds
  -- one that it has taken from an owner and not yet given to a worker. With at most 64 workers an owner always keeps a part.
  pub record IsCrew (stealers : List TaskStealer) (in_hand : ℕ → ℕ) (crew : List (Worker T B)) : Type 0 where
    pub same : length crew ≡ length stealers
    pub few : length stealers ≤ 64
    pub fifo : Every (λ m. worker_flavor m.own ≡ 0) crew
    pub table : (k : ℕ) (s : TaskStealer) (m : Worker T B) → get_elem? stealers k ≡ some s → get_elem? crew k ≡ some m
        → worker_deque m.own ≡ stealer_deque s
    pub fit : Every (λ m. AllFit stealers m.permits.items) crew
    pub parts : (k : ℕ) (m : Worker T B) → get_elem? crew k ≡ some m
        → (worker_view m.own).parts + total_weight (λ (n : Worker T B). permits_for k (length n.permits.items)) crew + in_hand k ≡ 128

  -- No task is lost: of each position below n more was put and done than was taken. When no worker is left, both sums are 0, so
  -- the position must have its task by then.
  abbrev pub NoneLost : ℕ → List (Worker T B) → Type 0
  NoneLost n crew = (k : ℕ) → k < n
      → 1 + total_weight (taken_by (only k)) crew ≤ total_weight (put_by (only k)) crew + total_weight (done_by (only k)) crew

  -- all workers together have put, taken and done the same
  pub record SameCounts (ms ns : List (Worker T B)) : Type 0 where
    pub puts : (w : ℕ → ℕ) → total_weight (put_by w) ns ≡ total_weight (put_by w) ms
    pub takes : (w : ℕ → ℕ) → total_weight (taken_by w) ns ≡ total_weight (taken_by w) ms
    pub dones : (w : ℕ → ℕ) → total_weight (done_by w) ns ≡ total_weight (done_by w) ms

  -- This worker has one permit less, if it had one, and the others have theirs. The loop that takes permits back counts by it.
  pub record FewerPermits (worker : ℕ) (ms ns : List (Worker T B)) : Type 0 where
    pub same : length ns ≡ length ms
    pub others : (k : ℕ) (m n : Worker T B) → get_elem? ms k ≡ some m → get_elem? ns k ≡ some n → k ≢ worker
        → n.permits.items ≡ m.permits.items
    pub here : (k : ℕ) (m n : Worker T B) → get_elem? ms k ≡ some m → get_elem? ns k ≡ some n → k ≡ worker
        → length n.permits.items ≡ length m.permits.items - 1
