-- What seats know: the records of goroutines, each in the view of one seat, and a beginning of the history. Since each record has one
-- owner, only that seat's accesses change it, and its thread needs no synchronisation to read it.
use Rattle.std.specs.Prelude.{◌≡◌, ◌==◌, ℕ, ltb, List, [], ◌∷◌, ◌++◌, length, if◌then◌else◌}
use mathlib.Core.Option.{some}
use lib.ListN.{get_elem?}
use Rattle.atomic_table.specs.Table as table
use Rattle.rgo_core_rule.specs.declared.accesses.Access.{Access}
use Rattle.rgo_core_rule.specs.declared.accesses.View.{View}

-- the words of a table and the views of its seats
abbrev pub TableState : Type 0 → Type 0
TableState R = table.State (Unit {0}) (View R)

-- what one seat knows; the second component, the slots that it has, is empty
abbrev pub Me : Type 0 → Type 0
Me R = table.Me (Unit {0}) (View R)

-- records by the numbers of their goroutines
abbrev pub Rows : Type 0 → Type 0
Rows R = List (ℕ × R)

-- The longer one; the first if they are equally long. Of two beginnings of one history it has all that the other has.
abbrev pub longer : List Access → List Access → List Access
longer xs ys = if ltb (length xs) (length ys) then ys else xs

module _ {R : Type 0} where
  abbrev pub view : Rows R → List Access → View R
  view rows seen = record { records = rows; seen = seen }

  -- c is the record of goroutine g, at whatever position
  abbrev pub HasRow : Rows R → ℕ → R → Type 0
  HasRow rows g c = (k : ℕ) × (get_elem? rows k ≡ some (g, c))

  -- Each record is in the view of its owner, and in no other view. `here` excludes that two seats act for one goroutine, and `there` that
  -- a record is lost.
  pub record Owned (views : List (View R)) (recs : List R) (owner : ℕ → ℕ) : Type 0 where
    pub here : (id : ℕ) (v : View R) (g : ℕ) (c : R) → get_elem? views id ≡ some v → HasRow v.records g c
        → (owner g ≡ id) × (get_elem? recs g ≡ some c)
    pub there : (g : ℕ) (c : R) → get_elem? recs g ≡ some c
        → (v : View R) × (get_elem? views (owner g) ≡ some v) × HasRow v.records g c

  -- the rows of number g, and the others
  abbrev pub rows_for : ℕ → Rows R → Rows R
  rows_for g [] = []
  rows_for g (r ∷ rs) = if r.0 == g then r ∷ rows_for g rs else rows_for g rs

  abbrev pub rows_but : ℕ → Rows R → Rows R
  rows_but g [] = []
  rows_but g (r ∷ rs) = if r.0 == g then rows_but g rs else r ∷ rows_but g rs

  -- two views become one; if both have seen equally many accesses, it keeps those of the first
  abbrev pub joined : View R → View R → View R
  joined v w = view (v.records ++ w.records) (longer v.seen w.seen)

  -- the same, but it then keeps those of the second
  abbrev pub informed : View R → View R → View R
  informed v w = view (v.records ++ w.records) (longer w.seen v.seen)

  -- The number and the record of the first row. Without a row it is `blank`, which no contract reads: `IsAlone` comes with it.
  abbrev pub number_in : Rows R → ℕ
  number_in [] = 0
  number_in (r ∷ rs) = r.0

  abbrev pub record_in : R → Rows R → R
  record_in blank [] = blank
  record_in blank (r ∷ rs) = r.1

  -- the goroutine whose record the seat has, and the record
  abbrev pub number_of : Me R → ℕ
  number_of m = number_in m.0.records

  abbrev pub record_of : R → Me R → R
  record_of blank m = record_in blank m.0.records

  -- the seat has the record c of goroutine g, and nothing else
  abbrev pub Alone : ℕ → R → Me R → Type 0
  Alone g c m = (m.0.records ≡ (g, c) ∷ []) × (m.1 ≡ [])

  -- The seat has one record, and nothing else. Accesses need this, since the record of the seat names the goroutine that makes them.
  abbrev pub IsAlone : R → Me R → Type 0
  IsAlone blank m = Alone (number_of m) (record_of blank m) m
