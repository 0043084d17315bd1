-- The prints that a driver has given out. Tickets were drawn one by one from 0, so a list in their order without a gap is a beginning of
-- what the program prints.
use Rattle.std.specs.Prelude.{◌≡◌, ◌<◌, ℕ, false, List, length, map}
use mathlib.Core.Option.{some}
use lib.ListN.{get_elem?}
use Rattle.rgo_core.specs.Records.{Drawn, Record}
use Rattle.rgo_core.specs.Rule.Lists.{flattened}
use Rattle.rgo_core.specs.Rule.Views.{HasRow, Rows}

-- some goroutine has drawn this ticket and printed these bytes
pub record SomePrinted (rows : Rows Record) (d : Drawn) : Type 0 where
  pub goroutine : ℕ
  pub its : Record
  pub has : HasRow rows goroutine its
  pub place : ℕ
  pub there : get_elem? its.clock.prints place ≡ some d

-- the prints with the tickets from 0 on, each once and in order, none of them void
pub record TicketsInOrder (rows : Rows Record) (given : List Drawn) : Type 0 where
  pub are : (i : ℕ) (d : Drawn) → get_elem? given i ≡ some d → SomePrinted rows d
  pub next : (i : ℕ) (d : Drawn) → get_elem? given i ≡ some d → d.ticket ≡ i
  pub valid : (i : ℕ) (d : Drawn) → get_elem? given i ≡ some d → d.is_void ≡ false

-- no other print that is not void is there
abbrev pub AllGiven : Rows Record → List Drawn → Type 0
AllGiven rows given = (d : Drawn) → SomePrinted rows d → d.is_void ≡ false → d.ticket < length given

abbrev pub drawn_bytes : Drawn → List ℕ
drawn_bytes d = d.bytes

abbrev pub bytes_of : List Drawn → List ℕ
bytes_of given = flattened (map drawn_bytes given)
