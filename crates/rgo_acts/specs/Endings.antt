-- What an act leaves by which a goroutine ends the run. If another one had ended it before, the same act is none.
use Rattle.std.specs.Prelude.{◌≡◌, ◌+◌, ◌≤◌, Bool, false, ℕ, List, if◌then◌else◌, Some, slice_get}
use Rattle.rgo_body.specs.declared.nexts.Next.{Next}
use Rattle.rgo_sound.specs.Code.Erasure.{erased_fn}
use Rattle.rgo_core.specs.Memory.Words.{clock_at}
use Rattle.rgo_core.specs.Rule.Views.{number_of}
use Rattle.rgo_core.specs.Rule.declared.accesses.Access.{Access}
use Rattle.rgo_core.specs.Rule.declared.accesses.Kind.TheVariants.{EndRun}
use Rattle.rgo_core.specs.runs.Opening.{first_of}
use Rattle.rgo_core.specs.Records.{accesses, steps_of}
use Rattle.rgo_core_steps.specs.Grown.{Found, SeatGrew}
use Rattle.rgo_sound.specs.RegionMachine.States.{Mark}
use Rattle.rgo_sound.specs.Tac.Ops.{place_in}
use Rattle.rgo_acts.specs.Actors.{IsActorOf, now}
use Rattle.rgo_acts.specs.Runs.{Run}
use Rattle.rgo_acts.specs.declared.actors.Actor.{Actor}

-- the place of an instruction in the text of the program
abbrev pub place_of_next : Next → ℕ
place_of_next next = place_in (slice_get (erased_fn next.function).body next.at)

-- It has set the end mark, as its nth instruction or by none, and is of the run as before. `ends` says whether this has ended the run:
-- then it has set this mark first.
pub record ActorHasEnded (r : Run) (a b : Actor) (n : ℕ) (mark : Mark) (ends : Bool) : Type 0 where
  pub es : List Access
  pub grew : SeatGrew accesses (first_of r.setup.code) a.seat.me es b.seat.me
  pub steps : steps_of (now r.setup b) ≡ steps_of (now r.setup a) + n
  pub prints : (now r.setup b).clock.prints ≡ (now r.setup a).clock.prints
  pub children : (now r.setup b).clock.children ≡ (now r.setup a).clock.children
  pub first : (now r.setup b).clock.first ≡ (if ends then Some mark else (now r.setup a).clock.first)
  pub stands : IsActorOf r b
  -- it has found that the run had ended
  pub late : ends ≡ false → (found : ℕ) × (9223372036854775808 ≤ found) × Found (number_of a.seat.me) es EndRun clock_at found
