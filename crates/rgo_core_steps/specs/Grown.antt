-- What several accesses of one goroutine leave on its seat: what the seat has then seen, and what its own accesses found. Others' accesses
-- come in between, so contracts of calls list those of the goroutine alone.
use Rattle.std.specs.Prelude.{◌≡◌, ◌<◌, ◌+◌, ℕ, List, [], ◌∷◌, ◌++◌, Some, if◌then◌else◌}
use mathlib.Core.Option.{some}
use lib.ListN.{get_elem?}
use Rattle.rgo_core.specs.Rule.Counting.{adds, child_record, new_adder, three, two}
use Rattle.rgo_core.specs.Rule.Histories.{access, accesses_by, is_number}
use Rattle.rgo_core.specs.Rule.Views.{IsAlone, Me, number_of, record_of, view}
use Rattle.rgo_core.specs.Rule.declared.accesses.Access.{Access}
use Rattle.rgo_core.specs.Rule.declared.accesses.Kind.TheVariants.{DrawTicket, Load}
use Rattle.rgo_core.specs.Rule.declared.accesses.Kind.{Kind}
use Rattle.rgo_core.specs.Rule.declared.counting.Adder.{Adder}

-- those that goroutine g made, in their order
abbrev pub own_by : ℕ → List Access → List Access
own_by g [] = []
own_by g (a ∷ es) = if is_number g a.by then a ∷ own_by g es else own_by g es

module _ {R : Type 0} (accesses : R → ℕ) (blank : R) where
  -- The seat has one record, as before, of the same goroutine, and has seen the accesses es more. The record counts those of its
  -- goroutine; if there are any, the seat has seen all that the record counts. Without an access that is not known: local steps change a
  -- record and no view.
  pub record SeatGrew (m : Me R) (es : List Access) (w : Me R) : Type 0 where
    pub alone : IsAlone blank w
    pub same : number_of w ≡ number_of m
    pub seen : w.0.seen ≡ m.0.seen ++ es
    pub more : accesses (record_of blank w) ≡ accesses (record_of blank m) + accesses_by (number_of m) es
    -- only an access shows that others have not acted for this goroutine meanwhile
    pub counts : 0 < accesses_by (number_of m) es → accesses (record_of blank w) ≡ accesses_by (number_of m) w.0.seen

  -- The goroutine of the seat has made these accesses, in this order, and no others. Its record is then d. `made` has a goroutine's
  -- accesses by its number.
  pub record Made (m : Me R) (made : ℕ → List Access) (d : R) (w : Me R) : Type 0 where
    pub es : List Access
    pub grew : SeatGrew m es w
    pub own : own_by (number_of m) es ≡ made (number_of m)
    pub after : record_of blank w ≡ d

-- goroutine g has made one of these accesses, of this kind, and found n on word i
pub record Found (g : ℕ) (es : List Access) (kind : Kind) (i n : ℕ) : Type 0 where
  pub place : ℕ
  pub access : Access
  pub there : get_elem? es place ≡ some access
  pub own : access.by ≡ Some g
  pub of_kind : access.kind ≡ kind
  pub word : access.word ≡ i
  pub found : access.found ≡ n

abbrev counted : Adder → ℕ
counted c = c.accesses

-- an addition by goroutine 1, after which its seat has seen what goroutine 0 did
pub record GrownExamples : Type 0 where
  pub grew : SeatGrew counted new_adder (view ((1, new_adder) ∷ []) [], []) three (view ((1, child_record) ∷ []) three, [])
  -- the record counts an access that the seat has not seen
  pub not_grew : SeatGrew counted new_adder (view ((1, new_adder) ∷ []) [], []) two (view ((1, child_record) ∷ []) two, []) → ⊥
  -- the seat has the record of another goroutine
  pub another : SeatGrew counted new_adder (view ((0, new_adder) ∷ []) [], []) [] (view ((1, new_adder) ∷ []) [], []) → ⊥
  pub own : own_by 1 three ≡ adds 1 1 ∷ []
  pub made : Made counted new_adder (view ((1, new_adder) ∷ []) [], []) (λ g. access g DrawTicket 0 1 2 ∷ []) child_record
      (view ((1, child_record) ∷ []) three, [])
  -- it has made no two accesses
  pub not_made : Made counted new_adder (view ((1, new_adder) ∷ []) [], []) (λ g. access g DrawTicket 0 1 2 ∷ access g Load 0 2 2 ∷ [])
      child_record (view ((1, child_record) ∷ []) three, []) → ⊥
  pub found : Found 1 three DrawTicket 0 1
  pub not_found : Found 1 three DrawTicket 0 0 → ⊥
  pub not_its : Found 2 three DrawTicket 0 1 → ⊥
  pub not_so : Found 1 three Load 0 1 → ⊥
