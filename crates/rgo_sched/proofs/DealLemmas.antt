-- The deal: how many tasks each worker was given so far, and that its deque has a slot for each. The share of worker k below a
-- position is a quotient, so the slots suffice by arithmetic, whichever worker has its turn.
use Rattle.std.proofs.Common.{◌≡◌, ℕ, ◌+◌, ◌*◌, ◌/◌, ◌%◌, ◌<◌, ◌≤◌, List, length, min, set, ap, subst, ◌∙◌, arith}
use native.Mathlib.Nat.{add-mul}
use Rattle.std.proofs.lemmas.Grind.{div_ceil_times}
use Rattle.std.proofs.lemmas.Nat.{div-add-mod', div-mul-add, div_below, mul-le}
use mathlib.Core.Option.{some}
use lib.ListN.{get_elem?}
use Rattle.crossbeam_deque.specs.Handles.{worker_capacity, worker_index}
use Rattle.rgo_sched.specs.declared.crew.Worker.{Worker}
use Rattle.rgo_sched.specs.Crew.{Every, HasSlots}
use Rattle.rgo_sched.proofs.CrewLemmas.{Each, at_inside, each_set}

-- a worker that was given no more than its share of the positions below `at` was given at most the quotient
few_given : (count at given : ℕ) → 0 < count → given * count + at % count < at + count → given ≤ at / count
few_given count at given some_worker share =
    let split = div-add-mod' at count in
    let next = add-mul (at / count) 1 count in
    let below : given * count + 0 < (at / count + 1) * count = omega arith in
    let quotient : (given * count + 0) / count ≡ given = div-mul-add given count 0 some_worker in
    let fewer : given < at / count + 1 =
    subst (λ q. q < at / count + 1) quotient (div_below (given * count + 0) count (at / count + 1) some_worker below) in
    omega arith

-- `workers` deques with a slot for each of their tasks have room for all tasks
pub slots_for_all : (tasks count slots capacity : ℕ) → 0 < count → slots ≡ tasks / count + min 1 (tasks % count)
    → slots ≤ capacity → tasks ≤ capacity * count
slots_for_all tasks count slots capacity some_worker quotient fits =
    let spans = (div_ceil_times tasks count some_worker).0 in
    let same : slots * count ≡ (tasks / count + min 1 (tasks % count)) * count = ap (λ s. s * count) quotient in
    let more = mul-le slots count capacity count fits (omega arith) in omega arith

module _ {T B : Type 0} where
  -- before position `at` is dealt, worker k of `workers` was given its share of the positions below, and its deque has slots for
  -- its share of all tasks
  pub record Dealt (tasks count at k : ℕ) (m : Worker T B) : Type 0 where
    pub share : worker_index m.own * count + k < at + count
    pub slots : tasks ≤ worker_capacity m.own * count

  pub dealt_none : (tasks count : ℕ) (ms : List (Worker T B)) → length ms ≡ count → Every (HasSlots tasks count) ms
      → Each (Dealt tasks count 0) ms
  dealt_none tasks count ms same slots k m at = let inside = at_inside ms k m at in record {
    share = let none : worker_index m.own * count ≡ 0 * count = ap (λ i. i * count) (slots k m at).0 in omega arith;
    slots = (slots k m at).1;
  }

  -- the deque of the worker whose turn it is has a slot that was never used
  pub dealt_slot : (tasks count at k : ℕ) (m : Worker T B) → 0 < count → at < tasks → k ≡ at % count → Dealt tasks count at k m
      → worker_index m.own < worker_capacity m.own
  dealt_slot tasks count at k m some_worker inside is_next dealt =
      let share = dealt.share in
      let given = few_given count at (worker_index m.own) some_worker (omega arith) in
      let slots = dealt.slots in
      let quotient = div_below at count (worker_capacity m.own) some_worker (omega arith) in omega arith

  -- one more task is dealt
  pub dealt_next : (tasks count at d : ℕ) (ms : List (Worker T B)) (o n : Worker T B) → 0 < count → d ≡ at % count
      → get_elem? ms d ≡ some o → worker_index n.own ≡ worker_index o.own + 1 → worker_capacity o.own ≤ worker_capacity n.own
      → Each (Dealt tasks count at) ms → Each (Dealt tasks count (at + 1)) (set ms d n)
  dealt_next tasks count at d ms o n some_worker is_next there index capacity dealt =
      let old = dealt d o there in
      let share = old.share in
      let slots = old.slots in
      let given = few_given count at (worker_index o.own) some_worker (omega arith) in
      let split = div-add-mod' at count in
      let most = mul-le (worker_index o.own) count (at / count) count given (omega arith) in
      let more : worker_index n.own * count ≡ (worker_index o.own + 1) * count = ap (λ i. i * count) index in
      let next = add-mul (worker_index o.own) 1 count in
      let room = mul-le (worker_capacity o.own) count (worker_capacity n.own) count capacity (omega arith) in
      each_set (Dealt tasks count at) (Dealt tasks count (at + 1)) ms d n (record { share = omega arith; slots = omega arith })
      (λ k m other h. record { share = (let s = h.share in omega arith); slots = h.slots }) dealt

  -- what a deque that was only lent keeps of its slots
  pub slots_kept : (tasks count : ℕ) (o n : Worker T B) → worker_index n.own ≡ worker_index o.own
      → worker_capacity o.own ≤ worker_capacity n.own → HasSlots tasks count o → HasSlots tasks count n
  slots_kept tasks count o n index capacity slots =
      let old = slots.1 in
      let room = mul-le (worker_capacity o.own) count (worker_capacity n.own) count capacity (omega arith) in
      (index ∙ slots.0, omega arith)
