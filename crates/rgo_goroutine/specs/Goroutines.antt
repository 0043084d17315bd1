-- Goroutines as their driver knows them: between turns, when their records have all their local steps.
use Rattle.std.specs.Option.{option_map}
use Rattle.std.specs.Prelude.{◌≡◌, ◌+◌, ◌≤◌, ℕ, Bool, List, [], ◌∷◌, ◌++◌, filter, length, map, not}
use Rattle.rgo_core.specs.Channels.Records.{Free}
use Rattle.rgo_core.specs.Memory.Records.{Calm, Idle, Rest}
use Rattle.rgo_core.specs.Rule.Views.{Rows, number_of}
use Rattle.rgo_core.specs.Rule.declared.accesses.Access.{Access}
use Rattle.rgo_core.specs.Core.{Setup}
use Rattle.rgo_core.specs.Records.{Drawn, Record, blank, steps_of}
use Rattle.rgo_core_steps.specs.Ends.{mark_of}
use Rattle.rgo_core_steps.specs.Seats.{mine}
use Rattle.rgo_acts.specs.Actors.{IsActorOf, now}
use Rattle.rgo_acts.specs.Runs.{Run}
use Rattle.rgo_acts.specs.declared.prints.Print.{Print}
use Rattle.rgo_goroutine.specs.declared.goroutine.Child.{Child}
use Rattle.rgo_goroutine.specs.declared.goroutine.Goroutine.{Goroutine}

-- its record
abbrev pub record_of_goroutine : Setup → Goroutine → Record
record_of_goroutine T go = mine T go.actor.seat.me

-- what it has drawn and was not gathered
abbrev pub drawn_by : Print → Drawn
drawn_by p = record { ticket = p.ticket; bytes = p.bytes.items; is_void = p.is_void }

abbrev pub ungathered_prints : Goroutine → List Drawn
ungathered_prints go = map drawn_by go.prints.items

-- how many bytes these prints have
abbrev pub printed_byte_count : List Print → ℕ
printed_byte_count [] = 0
printed_byte_count (p ∷ later) = length p.bytes.items + printed_byte_count later

-- what it has printed and was not gathered is as much as may come of one turn
abbrev pub HoldsMuch : Goroutine → Type 0
HoldsMuch go = 65536 ≤ printed_byte_count go.prints.items

-- the numbers of goroutines, the newest first, as a record has them
abbrev pub numbers : List Child → List ℕ
numbers [] = []
numbers (child ∷ later) = numbers later ++ child.number ∷ []

-- their records, each with its number, the oldest first
abbrev pub rows_of_children : Setup → List Child → Rows Record
rows_of_children T [] = []
rows_of_children T (child ∷ later) = (child.number, mine T child.actor.seat.me) ∷ rows_of_children T later

-- what each of them has seen
abbrev pub all_seen : List Child → List (List Access)
all_seen [] = []
all_seen (child ∷ later) = child.actor.seat.me.0.seen ∷ all_seen later

-- No channel is locked, no object half made, no page claimed and not linked, and no chain being returned. The laws of deadlocks and
-- shortages ask for this: whoever is in the middle of such an act can continue.
pub record IsTidy (c : Record) : Type 0 where
  pub hold : c.side.hold ≡ Free
  pub make : c.memory.make ≡ Rest
  pub claim : c.memory.claim ≡ Idle
  pub give : c.memory.give ≡ Calm

-- a goroutine that was started, and has done nothing yet
pub record IsChild (r : Run) (child : Child) : Type 0 where
  pub stands : IsActorOf r child.actor
  pub settled : child.actor.behind ≡ 0
  pub number : child.number ≡ number_of child.actor.seat.me
  -- nothing has to be taken from it, so a driver may give it up at once
  pub blank : (now r.setup child.actor).clock ≡ blank
  pub tidy : IsTidy (now r.setup child.actor)

abbrev pub AreChildren : Run → List Child → Type 0
AreChildren r [] = Unit {0}
AreChildren r (child ∷ later) = IsChild r child × AreChildren r later

-- The goroutine is of this run, and between two turns: its record has all its local steps. What was not gathered are the last prints of
-- its record, and what was not adopted the last goroutines that it has started.
pub record IsOf (r : Run) (go : Goroutine) : Type 0 where
  pub stands : IsActorOf r go.actor
  pub number : go.number ≡ number_of go.actor.seat.me
  -- so two records can be compared between turns
  pub settled : go.actor.behind ≡ 0
  pub gathered : List Drawn
  pub prints : (record_of_goroutine r.setup go).clock.prints ≡ gathered ++ ungathered_prints go
  -- each print was an instruction
  pub few : length (record_of_goroutine r.setup go).clock.prints ≤ steps_of (record_of_goroutine r.setup go)
  pub adopted : List ℕ
  pub children : (record_of_goroutine r.setup go).clock.children ≡ numbers go.children.items ++ adopted
  pub all : AreChildren r go.children.items
  -- its record shows whether it ended the run, so a driver need not trust it
  pub first : (record_of_goroutine r.setup go).clock.first ≡ option_map mark_of go.first

-- ---- what is taken from it

abbrev pub is_valid : Print → Bool
is_valid p = not p.is_void

abbrev pub valid : List Print → List Print
valid ps = filter is_valid ps
