-- What a driver follows of each goroutine from its start to the close, so that in the end it has all of them, and all that they printed.
-- It is an invariant of the driver's lists alone: no access and no other goroutine can break it.
use Rattle.std.specs.Prelude.{◌≡◌, ◌⊎◌, ℕ, false, List, [], ◌∷◌, ◌++◌, Some, map, slice_get}
use mathlib.Core.Option.{some}
use lib.ListN.{get_elem?}
use Rattle.rgo_core.specs.Records.{Drawn, Record, blank}
use Rattle.rgo_core.specs.Rule.declared.accesses.View.{View}
use Rattle.rgo_core_steps.specs.Outcomes.{HasFamily}
use Rattle.rgo_table_runs.specs.closing.Prints.{SomePrinted}
use Rattle.rgo_table_runs.specs.closing.Gathering.{IsDrawnIn}

-- A goroutine, whether it has retired or not: its number and its record, what it has printed that was not gathered, and the numbers of
-- those that it has started that were not adopted.
pub record Member : Type 0 where
  pub number : ℕ
  pub its : Record
  pub fresh : List Drawn
  pub unborn : List ℕ

-- one of these
abbrev pub IsOneOf : List Member → Member → Type 0
IsOneOf ms m = (i : ℕ) × (get_elem? ms i ≡ some m)

-- one of these has this number
abbrev pub SomeHasNumber : List Member → ℕ → Type 0
SomeHasNumber ms n = (m : Member) × IsOneOf ms m × (m.number ≡ n)

abbrev pub ListHasNumber : List ℕ → ℕ → Type 0
ListHasNumber ns n = (i : ℕ) × (slice_get ns i ≡ Some n)

abbrev pub HasPrinted : Record → Drawn → Type 0
HasPrinted c d = (i : ℕ) × (slice_get c.clock.prints i ≡ Some d)

-- Nobody and nothing was lost: `main` is one of the members, and so is each goroutine that one of them has started, unless it was not yet
-- adopted; each print that is not void was taken, unless it was not yet gathered; and nothing else was taken.
pub record NoneIsLost (ms : List Member) (taken : List Drawn) : Type 0 where
  pub main : SomeHasNumber ms 0
  pub children : (m : Member) (h : ℕ) → IsOneOf ms m → ListHasNumber m.its.clock.children h → SomeHasNumber ms h ⊎ ListHasNumber m.unborn h
  pub prints : (m : Member) (d : Drawn) → IsOneOf ms m → HasPrinted m.its d → d.is_void ≡ false → IsDrawnIn taken d ⊎ IsDrawnIn m.fresh d
  pub are : (d : Drawn) → IsDrawnIn taken d → (d.is_void ≡ false) × (m : Member) × IsOneOf ms m × HasPrinted m.its d

-- ---- what keeps it

-- the same members and prints, in whatever order
pub record AreSameMembers (ms ns : List Member) (taken given : List Drawn) : Type 0 where
  pub there : (m : Member) → IsOneOf ms m → IsOneOf ns m
  pub back : (m : Member) → IsOneOf ns m → IsOneOf ms m
  pub still : (d : Drawn) → IsDrawnIn taken d → IsDrawnIn given d
  pub before : (d : Drawn) → IsDrawnIn given d → IsDrawnIn taken d

abbrev pub KeptByOrder : Type 0
KeptByOrder = (ms ns : List Member) (taken given : List Drawn) → NoneIsLost ms taken → AreSameMembers ms ns taken given → NoneIsLost ns given

-- A member has had a turn: what it has printed and started comes to what was not yet taken from it.
pub record HasPlayed (m n : Member) : Type 0 where
  pub number : n.number ≡ m.number
  pub draws : List Drawn
  pub printed : n.its.clock.prints ≡ m.its.clock.prints ++ draws
  pub fresh : n.fresh ≡ m.fresh ++ draws
  pub starts : List ℕ
  pub started : n.its.clock.children ≡ starts ++ m.its.clock.children
  pub unborn : n.unborn ≡ starts ++ m.unborn

abbrev pub KeptByTurn : Type 0
KeptByTurn = (front rest : List Member) (m n : Member) (taken : List Drawn) → HasPlayed m n
    → NoneIsLost (front ++ m ∷ rest) taken → NoneIsLost (front ++ n ∷ rest) taken

-- What it had printed was gathered: what is not void of it was taken.
pub record WasGathered (m n : Member) (taken given : List Drawn) : Type 0 where
  pub is : n ≡ record m { fresh = [] }
  pub old : (d : Drawn) → IsDrawnIn taken d → IsDrawnIn given d
  pub all : (d : Drawn) → IsDrawnIn m.fresh d → d.is_void ≡ false → IsDrawnIn given d
  pub only : (d : Drawn) → IsDrawnIn given d → IsDrawnIn taken d ⊎ (IsDrawnIn m.fresh d × (d.is_void ≡ false) × HasPrinted m.its d)

abbrev pub KeptByGathering : Type 0
KeptByGathering = (front rest : List Member) (m n : Member) (taken given : List Drawn) → WasGathered m n taken given
    → NoneIsLost (front ++ m ∷ rest) taken → NoneIsLost (front ++ n ∷ rest) given

-- Those that it had started were adopted: they have printed and started nothing yet.
pub record WereAdopted (m n : Member) (more : List Member) : Type 0 where
  pub is : n ≡ record m { unborn = [] }
  pub all : (h : ℕ) → ListHasNumber m.unborn h → SomeHasNumber more h
  pub new : (c : Member) → IsOneOf more c → (c.its.clock ≡ blank) × (c.fresh ≡ []) × (c.unborn ≡ [])

abbrev pub KeptByAdopting : Type 0
KeptByAdopting = (front rest more : List Member) (m n : Member) (taken : List Drawn) → WereAdopted m n more
    → NoneIsLost (front ++ m ∷ rest) taken → NoneIsLost ((front ++ n ∷ rest) ++ more) taken

-- ---- at the close

-- a goroutine from which all was taken, as a row
abbrev pub retired : ℕ × Record → Member
retired r = record { number = r.0; its = r.1; fresh = []; unborn = [] }

-- If all have retired, the seat's view has a family, and each print of its rows that is not void was taken.
abbrev pub AllRetired : Type 0
AllRetired = (v : View Record) (taken : List Drawn) → NoneIsLost (map retired v.records) taken
    → HasFamily v
    × ((d : Drawn) → SomePrinted v.records d → d.is_void ≡ false → IsDrawnIn taken d)
    × ((d : Drawn) → IsDrawnIn taken d → (d.is_void ≡ false) × SomePrinted v.records d)
