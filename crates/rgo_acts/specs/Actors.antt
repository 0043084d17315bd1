-- Goroutines at the table: what is known of one between two acts, and what an act leaves. Local steps are not in the record of the seat
-- yet, so each clause speaks of the record after them.
use Rattle.std.specs.Prelude.{◌≡◌, ◌+◌, ℕ, List, ◌++◌, length, if◌then◌else◌}
use Rattle.rgo_core.specs.Rule.Passes.{ChangesNothingBy}
use Rattle.rgo_core.specs.Rule.Views.{number_of}
use Rattle.rgo_core.specs.Rule.declared.accesses.Access.{Access}
use Rattle.rgo_core.specs.Core.{IsPossible, Setup}
use Rattle.rgo_core.specs.runs.Opening.{first_of}
use Rattle.rgo_core.specs.Records.{Drawn, Record, accesses, steps_of}
use Rattle.rgo_core_steps.specs.Grown.{SeatGrew}
use Rattle.rgo_core_steps.specs.Seats.{HasOne, Settles, settled}
use Rattle.rgo_body.specs.Bodies.{owed_by_body}
use Rattle.rgo_body.specs.Programs.{CompactProgram}
use Rattle.rgo_body.specs.Shows.{BodyShows}
use Rattle.rgo_body.specs.declared.bodies.Body.{Body}
use Rattle.rgo_acts.specs.Runs.{Run}
use Rattle.rgo_acts.specs.declared.actors.Actor.{Actor}

-- its record: that of its seat, after the local steps that it has made since its last access
abbrev pub now : Setup → Actor → Record
now T a = settled T a.behind a.seat.me

-- It is of this run. Its body shows its record, and such a record is possible.
pub record IsActorOf (r : Run) (a : Actor) : Type 0 where
  pub own : a.seat.table_id ≡ r.table
  pub alone : HasOne r.setup a.seat.me
  -- its local steps are steps of this record, so an access can take them along
  pub settles : Settles r.setup a.behind a.seat.me
  pub possible : IsPossible r.setup (number_of a.seat.me) (now r.setup a)
  pub shows : BodyShows r.setup r.program a.body (now r.setup a)

-- What has happened to it: its seat has seen the accesses es more, its own among them; it has made n instructions, drawn these prints,
-- and started these goroutines, the newest first. It has set no end mark.
pub record Went (T : Setup) (a b : Actor) (n : ℕ) (draws : List Drawn) (starts : List ℕ) (es : List Access) : Type 0 where
  pub grew : SeatGrew accesses (first_of T.code) a.seat.me es b.seat.me
  pub steps : steps_of (now T b) ≡ steps_of (now T a) + n
  pub prints : (now T b).clock.prints ≡ (now T a).clock.prints ++ draws
  pub children : (now T b).clock.children ≡ starts ++ (now T a).clock.children
  -- so only an act that ends the run can change who ended it
  pub first : (now T b).clock.first ≡ (now T a).clock.first

-- It has continued, and is of the run as before.
pub record ActorActed (r : Run) (a b : Actor) (n : ℕ) (draws : List Drawn) (starts : List ℕ) : Type 0 where
  pub es : List Access
  pub went : Went r.setup a b n draws starts es
  pub stands : IsActorOf r b

-- These accesses changed no word, and its frames and what it has of regions are as before. A pass relies on both: words alone would not
-- keep a goroutine from computing on.
pub record IsUnmoved (T : Setup) (a b : Actor) (es : List Access) : Type 0 where
  pub words : ChangesNothingBy (number_of a.seat.me) es
  pub frame : (now T b).frame ≡ (now T a).frame

-- How far its next instruction is: the duties before it, and whether these are still to be put into its queue. It falls with each act
-- before an instruction, so a turn does not attend to duties without end.
abbrev pub distance : CompactProgram → Body → ℕ
distance p b = length (owed_by_body p.code b) + (if b.is_expanded then 0 else 1)
