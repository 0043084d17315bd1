-- The pages that a goroutine has reserved for the spread object that its next instruction makes.
use Rattle.std.specs.Prelude.{ℕ, List, []}

-- their numbers, that of the lead page first; `room` is for how many more there is memory
pub record PageReserve : Type 0 where
  pub pages : List ℕ
  pub room : ℕ

abbrev pub none_reserved : PageReserve
none_reserved = record { pages = []; room = 0 }
