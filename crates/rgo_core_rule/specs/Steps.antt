-- What an access has to do to words, records and runs, and what its seat then knows.
use Rattle.std.specs.Prelude.{◌≡◌, ◌<◌, ◌⊎◌, ℕ, suc, List, [], ◌∷◌, ◌++◌, length, slice_index, slice_set}
use mathlib.Core.Option.{some}
use lib.ListN.{get_elem?}
use Rattle.rgo_core_rule.specs.Histories.{access, glance, accesses_by}
use Rattle.rgo_core_rule.specs.Views.{HasRow, Me, IsAlone, number_of, record_of}
use Rattle.rgo_core_rule.specs.declared.accesses.Access.{Access}
use Rattle.rgo_core_rule.specs.declared.accesses.Kind.{Kind}
use Rattle.rgo_core_rule.specs.declared.accesses.Kind.TheVariants.{Load}

-- In some table goroutine g has the record c: some run explains its words and records. What every run guarantees of a record then
-- holds of c, whatever has happened to that table since.
pub record Occurs {E R : Type 0} (Explains : List ℕ → List R → List E → Type 0) (g : ℕ) (c : R) : Type 0 where
  pub words : List ℕ
  pub recs : List R
  pub run : List E
  pub explains : Explains words recs run
  pub its : get_elem? recs g ≡ some c

module _ {E R : Type 0} (accesses : R → ℕ) (Explains : List ℕ → List R → List E → Type 0) where
  -- Goroutine g, whose record is c, leaves f n on a word i on which it finds n. Its record is then d, the run is longer by
  -- `gain`, and explains the words and records after the access.
  pub record Moved (words : List ℕ) (recs : List R) (run : List E) (g : ℕ) (c : R) (i : ℕ) (f : ℕ → ℕ) (tells : ℕ → R → Type 0) : Type 0 where
    pub after : R
    pub gain : List E
    pub explains : Explains (slice_set words i (f (slice_index words i))) (slice_set recs g after) (run ++ gain)
    pub counts : accesses after ≡ suc (accesses c)
    pub tells_so : tells (slice_index words i) after

  -- the same if the access starts a goroutine, whose number is what was found
  pub record MovedChild (words : List ℕ) (recs : List R) (run : List E) (g : ℕ) (c : R) (i : ℕ) (f : ℕ → ℕ) (tells : ℕ → R → R
      → Type 0) : Type 0 where
    pub after : R
    pub child : R
    pub gain : List E
    pub explains : Explains (slice_set words i (f (slice_index words i))) (slice_set recs g after ++ child ∷ []) (run ++ gain)
    pub counts : accesses after ≡ suc (accesses c)
    pub new : accesses child ≡ 0
    pub number : slice_index words i ≡ length recs
    pub tells_so : tells (slice_index words i) after child

  -- This holds whatever the words, the other records and the run are: the goroutine knows none of them, and others change them. The bound
  -- says that what is found is a word of 64 bits.
  abbrev pub Whatever : ℕ → R → ℕ → (List ℕ → List R → List E → Type 0) → Type 0
  Whatever g c i P = (words : List ℕ) (recs : List R) (run : List E) → Explains words recs run
      → get_elem? recs g ≡ some c → slice_index words i < 18446744073709551616 → P words recs run

  -- An access that goroutine g may make while its record is c: whatever run explains the table before it, that run with some
  -- gain explains the table after it.
  abbrev pub Move : ℕ → R → ℕ → (ℕ → ℕ) → (ℕ → R → Type 0) → Type 0
  Move g c i f tells = Whatever g c i (λ words recs run. Moved words recs run g c i f tells)

  -- The same of an access that may start a goroutine. It is one law with two outcomes, because a law has to allow the access before
  -- the number is found that decides between them.
  abbrev pub MoveEither : ℕ → R → ℕ → (ℕ → ℕ) → (ℕ → R → Type 0) → (ℕ → R → R → Type 0) → Type 0
  MoveEither g c i f tells tells_child =
      Whatever g c i (λ words recs run. Moved words recs run g c i f tells ⊎ MovedChild words recs run g c i f tells_child)

  -- What a call requires of its seat: it has one record, and with this record its goroutine may make this access.
  abbrev pub Asks : R → Me R → ℕ → (ℕ → ℕ) → (ℕ → R → Type 0) → Type 0
  Asks blank m i f tells = IsAlone blank m × Move (number_of m) (record_of blank m) i f tells

  -- the same of a call that may start a goroutine
  abbrev pub AsksEither : R → Me R → ℕ → (ℕ → ℕ) → (ℕ → R → Type 0) → (ℕ → R → R → Type 0) → Type 0
  AsksEither blank m i f tells tells_child =
      IsAlone blank m × MoveEither (number_of m) (record_of blank m) i f tells tells_child

  -- The record c of goroutine g may become d without an access. The words stay, so no other seat can tell when it happens.
  abbrev pub Still : ℕ → R → R → Type 0
  Still g c d = (words : List ℕ) (recs : List R) (run : List E) → Explains words recs run → get_elem? recs g ≡ some c
      → (gain : List E) × Explains words (slice_set recs g d) (run ++ gain)

module _ {R : Type 0} (accesses : R → ℕ) where
  -- What a seat knows after an access of its goroutine, from m to w: the record, all accesses that others have made since its last
  -- access, none of them its own, and then this one. The words that others have changed in between are in `between`, so what the
  -- seat knew of them is outdated.
  pub record Told (g : ℕ) (kind : Kind) (i : ℕ) (f : ℕ → ℕ) (tells : ℕ → R → Type 0) (m : Me R) (n : ℕ) (w : Me R) : Type 0 where
    pub after : R
    pub between : List Access
    pub tells_so : tells n after
    pub alone : (w.0.records ≡ (g, after) ∷ []) × (w.1 ≡ [])
    pub seen : w.0.seen ≡ (m.0.seen ++ between) ++ access g kind i n (f n) ∷ []
    pub others : accesses_by g between ≡ 0
    pub counts : accesses after ≡ accesses_by g w.0.seen

  -- The same of an access that has started a goroutine, whose record the seat then has, too. `later` tells the two rows apart when the
  -- seat is split.
  pub record ToldChild (g : ℕ) (kind : Kind) (i : ℕ) (f : ℕ → ℕ) (tells : ℕ → R → R → Type 0) (m : Me R) (n : ℕ) (w : Me R) : Type 0 where
    pub after : R
    pub child : R
    pub between : List Access
    pub tells_so : tells n after child
    pub later : g < n
    pub both : (w.0.records ≡ (g, after) ∷ (n, child) ∷ []) × (w.1 ≡ [])
    pub seen : w.0.seen ≡ (m.0.seen ++ between) ++ access g kind i n (f n) ∷ []
    pub others : accesses_by g between ≡ 0
    pub counts : accesses after ≡ accesses_by g w.0.seen
    pub new : accesses_by n w.0.seen ≡ 0

  -- what a call that finds n leaves on a seat with one record
  abbrev pub LeavesOnSeat : R → Kind → ℕ → (ℕ → ℕ) → (ℕ → R → Type 0) → Me R → ℕ → Me R → Type 0
  LeavesOnSeat blank kind i f tells m n w = IsAlone blank w × Told (number_of m) kind i f tells m n w

module _ {R : Type 0} (accesses : R → ℕ) where
  -- What a seat with any records knows after a load of word 0: it has then seen all accesses of the goroutines whose records it has. The
  -- number found is not used.
  pub record Glanced (m : Me R) (n : ℕ) (w : Me R) : Type 0 where
    pub between : List Access
    pub records : w.0.records ≡ m.0.records
    pub slots : w.1 ≡ m.1
    pub seen : w.0.seen ≡ (m.0.seen ++ between) ++ glance Load n ∷ []
    pub own : (g : ℕ) (c : R) → HasRow w.0.records g c → accesses c ≡ accesses_by g w.0.seen
