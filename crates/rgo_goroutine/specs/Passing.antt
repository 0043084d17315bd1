-- What passes between a goroutine and its driver between turns. Each says where all that left one side is on the other, in which order.
use mathlib.Core.Logic.{◌↔◌}
use Rattle.std.specs.Prelude.{◌≡◌, ◌≤◌, ◌^◌, ◌++◌, ◌∷◌, ℕ, Bool, true, List, [], length}
use Rattle.rgo_core.specs.Memory.Words.{clock_at}
use Rattle.rgo_core.specs.Rule.Passes.{ChangesNothingBy}
use Rattle.rgo_core.specs.Rule.Views.{number_of}
use Rattle.rgo_core.specs.Rule.declared.accesses.Access.{Access}
use Rattle.rgo_core.specs.Rule.declared.accesses.Kind.TheVariants.{Load}
use Rattle.rgo_core.specs.runs.Opening.{first_of}
use Rattle.rgo_core.specs.Records.{accesses, looked}
use Rattle.rgo_core_steps.specs.Grown.{Found, SeatGrew}
use Rattle.rgo_acts.specs.Runs.{Run}
use Rattle.rgo_acts.specs.declared.prints.Print.{Print}
use Rattle.rgo_goroutine.specs.Goroutines.{IsOf, record_of_goroutine, valid}
use Rattle.rgo_goroutine.specs.declared.goroutine.Child.{Child}
use Rattle.rgo_goroutine.specs.declared.goroutine.Goroutine.{Goroutine}

-- ---- what it has started

-- the goroutine of this child, from which nothing was taken and nothing is to be taken
pub record IsBorn (r : Run) (child : Child) (go : Goroutine) : Type 0 where
  pub of : IsOf r go
  pub actor : go.actor ≡ child.actor
  pub number : go.number ≡ child.number
  pub prints : go.prints.items ≡ []
  pub children : go.children.items ≡ []

abbrev pub AreBorn : Run → List Child → List Goroutine → Type 0
AreBorn r [] [] = Unit {0}
AreBorn r [] (go ∷ gos) = ⊥
AreBorn r (child ∷ later) [] = ⊥
AreBorn r (child ∷ later) (go ∷ gos) = IsBorn r child go × AreBorn r later gos

-- All that it had started and was not adopted has come to the end of a list, n of them, in the order in which they were started.
pub record Adopts (r : Run) (old new : Goroutine) (list longer_list : List Goroutine) (n : ℕ) : Type 0 where
  pub more : List Goroutine
  pub are : longer_list ≡ list ++ more
  pub many : length more ≡ n
  pub born : AreBorn r old.children.items more
  pub none : new.children.items ≡ []
  pub rest : new ≡ record old { children = new.children }

-- ---- what it has printed

-- All that it had printed and was not gathered has come to the end of a list, n prints, in their order, but for those that are void.
pub record Gathers (old new : Goroutine) (list longer_list : List Print) (n : ℕ) : Type 0 where
  pub are : longer_list ≡ list ++ valid old.prints.items
  pub many : length (valid old.prints.items) ≡ n
  pub none : new.prints.items ≡ []
  pub rest : new ≡ record old { prints = new.prints }

-- ---- what it has seen

-- It has loaded the clock, which says whether the run has ended.
pub record LoadsClock (r : Run) (old new : Goroutine) (ended : Bool) : Type 0 where
  pub es : List Access
  pub grew : SeatGrew accesses (first_of r.setup.code) old.actor.seat.me es new.actor.seat.me
  pub words : ChangesNothingBy (number_of old.actor.seat.me) es
  pub clock : ℕ
  pub found : Found (number_of old.actor.seat.me) es Load clock_at clock
  pub end : (ended ≡ true) ↔ (2 ^ 63 ≤ clock)
  pub record_is : record_of_goroutine r.setup new ≡ looked (record_of_goroutine r.setup old)
  pub rest : new ≡ record old { actor = record old.actor { seat = new.actor.seat } }
