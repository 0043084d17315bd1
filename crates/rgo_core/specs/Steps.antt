-- What a step of a goroutine has to leave, whatever the rest of the table is, so that the rule of the table allows it. A kind of access
-- is proved by showing one of these records at one state; the lift to the rule is done once.
use Rattle.std.specs.Prelude.{◌≡◌, ◌⊎◌, ◌<◌, ◌≤◌, ℕ, suc, true, List, length, Some, slice_index, slice_set}
use Rattle.rgo_core_rule.specs.Steps as rule
use Rattle.rgo_sound.specs.Machine.Limits.{deepest}
use Rattle.rgo_sound.specs.RegionMachine.Counts.{Counts, counts_of}
use Rattle.rgo_sound.specs.RegionMachine.Machine.{Event, region_step}
use Rattle.rgo_sound.specs.RegionMachine.Room.{has_room}
use Rattle.rgo_sound.specs.RegionMachine.States.{RegionState}
use Rattle.rgo_sound.specs.Tally.{counts_plus}
use Rattle.rgo_core.specs.Core.{Core, Situation, Setup, layout}
use Rattle.rgo_core.specs.Image.{Image}
use Rattle.rgo_core.specs.ties.Links.{Links}
use Rattle.rgo_core.specs.Records.{ClockRec, Record, accesses, counted as counted_by}

-- what it has drawn, ended and started is the same, so the clock and the numbers of goroutines stay
pub record SameClock (c d : ClockRec) : Type 0 where
  pub prints : d.prints ≡ c.prints
  pub first : d.first ≡ c.first
  pub children : d.children ≡ c.children
  pub refused : d.refused ≡ c.refused

module _ {T : Setup} {g : ℕ} {c : Record} (x : Situation T g c) where
  -- The region machine makes a step, of which the goroutine counts what it adds. Its record is then d, and these words and records
  -- are the image, with their links. What is counted is compared with the machine's own counts, so that the shares of all records add up.
  pub record MakesRegionStep (words : List ℕ) (recs : List Record) (d : Record) : Type 0 where
    pub event : Event
    pub next : RegionState
    pub steps : region_step T.code T.sizes.page_words x.s event ≡ Some next
    -- A page is taken, and a region created, only if there is one left. The access shows it: the page or slot was found free.
    pub room : has_room T.sizes x.s event ≡ true
    pub gain : Counts
    pub adds : counts_of next ≡ counts_plus (counts_of x.s) gain
    -- the goroutine counts what the machine counts, no more and no less
    pub counted : counted_by d.clock ≡ counts_plus (counted_by c.clock) gain
    -- the run stays within the limit of frames
    pub shallow : length d.frame.frames ≤ deepest
    pub image : Image T.code (layout T) words recs next
    pub links : Links T.code (layout T) words recs

  -- a step that neither prints nor ends the run, nor starts a goroutine
  pub record MakesQuietStep (words : List ℕ) (d : Record) : Type 0 where
    pub goes : MakesRegionStep words (slice_set x.recs g d) d
    pub mark : goes.next.mark ≡ x.s.mark
    pub printed : goes.next.plain.printed ≡ x.s.plain.printed
    pub same : SameClock c.clock d.clock

  -- The region machine makes no step, but words or the record change: the access prepares a step or finishes one.
  pub record MakesNoStep (words : List ℕ) (d : Record) : Type 0 where
    pub counted : counted_by d.clock ≡ counted_by c.clock
    pub same : SameClock c.clock d.clock
    pub image : Image T.code (layout T) words (slice_set x.recs g d) x.s
    pub links : Links T.code (layout T) words (slice_set x.recs g d)

  abbrev pub Steps : (words : List ℕ) → Record → Type 0
  Steps words d = MakesQuietStep words d ⊎ MakesNoStep words d

-- ---- the rule's words, over this core

-- goroutine g, whose record is c, may leave f n on word i if it finds n there
abbrev pub Moves : Setup → ℕ → Record → ℕ → (ℕ → ℕ) → (ℕ → Record → Type 0) → Type 0
Moves T = rule.Move {E = Event} accesses (Core T)

abbrev pub MovesEither : Setup → ℕ → Record → ℕ → (ℕ → ℕ) → (ℕ → Record → Type 0) → (ℕ → Record → Record → Type 0) → Type 0
MovesEither T = rule.MoveEither {E = Event} accesses (Core T)

-- its record may become d without an access
abbrev pub IsStill : Setup → ℕ → Record → Record → Type 0
IsStill T = rule.Still {E = Event} accesses (Core T)

-- ---- whatever the rest of the table is

-- what goroutine g does if it finds n on word i, whatever the rest of the table is
abbrev pub FindsWord : (T : Setup) (g : ℕ) (c : Record) → (i : ℕ) → (Situation T g c → ℕ → Type 0) → Type 0
FindsWord T g c i P = (x : Situation T g c) → slice_index x.words i < 18446744073709551616 → P x (slice_index x.words i)

-- an access to a word of memory, which are those from 32 on: the clock and the number of goroutines stay
abbrev pub AccessLaw : Type 0
AccessLaw = (T : Setup) (g : ℕ) (c : Record) (i : ℕ) (f : ℕ → ℕ) (after : ℕ → Record) → 32 ≤ i
    → ((n : ℕ) → accesses (after n) ≡ suc (accesses c))
    → FindsWord T g c i (λ x n. Steps x (slice_set x.words i (f n)) (after n))
    → Moves T g c i f (λ n d. d ≡ after n)

-- a step without one
abbrev pub QuietStepLaw : Type 0
QuietStepLaw = (T : Setup) (g : ℕ) (c d : Record) → ((x : Situation T g c) → MakesQuietStep x x.words d) → IsStill T g c d
