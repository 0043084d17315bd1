-- Steps on the clock and on the number of goroutines: prints, ends and starts. These words are shared by all goroutines, and each access
-- to them is an addition or an `or`, which cannot fail.
use Rattle.std.specs.Prelude.{◌≡◌, ◌<◌, ◌≤◌, ◌+◌, ◌%◌, ◌^◌, ℕ, suc, bit_or, false, if◌then◌else◌, List, [], ◌∷◌, ◌++◌, length, Option, Some, None, slice_index, slice_set}
use Rattle.rgo_core_memory.specs.Words.{clock_at, made_at}
use Rattle.rgo_sound.specs.Machine.Limits.{deepest, most_goroutines}
use Rattle.rgo_sound.specs.RegionMachine.Instructions.{printed_if}
use Rattle.rgo_sound.specs.RegionMachine.States.{Mark}
use Rattle.rgo_core.specs.runs.Causes.{IsCause}
use Rattle.rgo_core.specs.Core.{Situation, Setup}
use Rattle.rgo_core.specs.Records.{ClockRec, Record, blank, has_ended, looked, with_child, with_print, with_refusal}
use Rattle.rgo_core.specs.Steps.{FindsWord, MakesRegionStep, Moves, MovesEither}

-- the first mark is kept
abbrev pub first_mark : Option Mark → Mark → Option Mark
first_mark None mark = Some mark
first_mark (Some first) mark = Some first

-- the mark that a record has set, after an end for which the clock was n
abbrev pub first_set : (clock : ℕ) → Option Mark → Mark → Option Mark
first_set n first mark = if has_ended n then first else Some mark

-- the record after an end, for which the clock was n: the goroutine has set the mark if it was the first
pub record ClockHasEnded (c : ClockRec) (n : ℕ) (mark : Mark) (d : ClockRec) : Type 0 where
  pub prints : d.prints ≡ c.prints
  pub first : d.first ≡ first_set n c.first mark
  pub children : d.children ≡ c.children
  pub refused : d.refused ≡ c.refused
  pub accesses : d.accesses ≡ suc c.accesses

module _ {T : Setup} {g : ℕ} {c : Record} (x : Situation T g c) where
  -- the goroutine prints these bytes next
  pub record Prints (bytes : List ℕ) (d : Record) : Type 0 where
    pub goes : MakesRegionStep x (slice_set x.words clock_at ((slice_index x.words clock_at + 1) % 18446744073709551616)) (slice_set x.recs g d) d
    pub mark : goes.next.mark ≡ x.s.mark
    pub printed : goes.next.plain.printed ≡ printed_if x.s.mark x.s.plain.printed (x.s.plain.printed ++ bytes)

  -- It ends the run next, if the run has not ended. The cause is required only then: a later end changes nothing.
  pub record EndsRunNext (mark : Mark) (d : Record) : Type 0 where
    pub goes : MakesRegionStep x (slice_set x.words clock_at (bit_or (slice_index x.words clock_at) 9223372036854775808)) (slice_set x.recs g d) d
    pub marked : goes.next.mark ≡ first_mark x.s.mark mark
    pub printed : goes.next.plain.printed ≡ x.s.plain.printed
    -- the run's end is then claimed with this cause, in this state
    pub cause : x.s.mark ≡ None → IsCause T.code T.sizes T.limits mark x.s

  -- it starts another one next
  pub record StartsGoroutineNext (d child : Record) : Type 0 where
    pub goes : MakesRegionStep x (slice_set x.words made_at (suc (slice_index x.words made_at))) (slice_set x.recs g d ++ child ∷ []) d
    pub mark : goes.next.mark ≡ x.s.mark
    pub printed : goes.next.plain.printed ≡ x.s.plain.printed
    pub shallow : length child.frame.frames ≤ deepest

-- A print draws a ticket. The bound on prints keeps tickets below 2^63, so that they never reach the bit of the end.
abbrev pub TicketLaw : Type 0
TicketLaw = (T : Setup) (g : ℕ) (c : Record) (bytes : List ℕ) (after : ℕ → Record) → length c.clock.prints < 2 ^ 43
    → ((n : ℕ) → (after n).clock ≡ with_print c.clock n bytes)
    → FindsWord T g c clock_at (λ x n. Prints x bytes (after n))
    → Moves T g c clock_at (λ n. (n + 1) % 2 ^ 64) (λ n d. d ≡ after n)

-- The end of a run is set in the clock; the first one is kept. An `or`, and not an exchange, which would fail whenever a print comes
-- between.
abbrev pub RunEndLaw : Type 0
RunEndLaw = (T : Setup) (g : ℕ) (c : Record) (mark : Mark) (after : ℕ → Record)
    → ((n : ℕ) → ClockHasEnded c.clock n mark (after n).clock)
    → FindsWord T g c clock_at (λ x n. EndsRunNext x mark (after n))
    → Moves T g c clock_at (λ n. bit_or n (2 ^ 63)) (λ n d. d ≡ after n)

-- the clock is loaded
abbrev pub LookLaw : Type 0
LookLaw = (T : Setup) (g : ℕ) (c : Record)
    → Moves T g c clock_at (λ n. n) (λ n d. d ≡ looked c)

-- A number is drawn, and a goroutine starts, or there are as many as there may be. A goroutine draws no further number after a refusal,
-- so the word stays small.
abbrev pub NumberLaw : Type 0
NumberLaw = (T : Setup) (g : ℕ) (c : Record) (after child : ℕ → Record) → c.clock.refused ≡ false
    → ((n : ℕ) → (after n).clock ≡ with_child c.clock n) → ((n : ℕ) → (child n).clock ≡ blank)
    → ((x : Situation T g c) → length x.recs < most_goroutines T.limits
    → StartsGoroutineNext x (after (slice_index x.words made_at)) (child (slice_index x.words made_at)))
    → MovesEither T g c made_at (λ n. (n + 1) % 2 ^ 64)
    (λ n d. (most_goroutines T.limits ≤ n) × (d ≡ record c { clock = with_refusal c.clock }))
    (λ n d new. (n < most_goroutines T.limits) × (d ≡ after n) × (new ≡ child n))
