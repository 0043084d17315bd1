-- The rule of a table: one run explains its words after every access, and each seat knows a part of the whole. The run is in no word and
-- no view, so it costs nothing, and contracts can refer to it only through this rule.
use Rattle.std.specs.Prelude.{◌≡◌, ◌<◌, ◌≤◌, ℕ, List, Some, None, length, take}
use mathlib.Core.Option.{some}
use mathlib.Core.List.{IsPrefix}
use lib.ListN.{get_elem?}
use Rattle.rgo_core_rule.specs.Lists.{flattened}
use Rattle.rgo_core_rule.specs.Histories.{Sound, accesses_by, replay}
use Rattle.rgo_core_rule.specs.Views.{TableState, HasRow, Owned}
use Rattle.rgo_core_rule.specs.declared.accesses.Access.{Access}
use Rattle.rgo_core_rule.specs.declared.accesses.View.{View}

module _ {R : Type 0} (accesses : R → ℕ) where
  -- Each view has seen a beginning of the history, and in it all accesses of the goroutines whose records it has. `own` is how a
  -- seat knows that nobody else has acted for its goroutine: what it has not seen is by others.
  pub record Aware (views : List (View R)) (history : List Access) : Type 0 where
    pub seen : (id : ℕ) (v : View R) → get_elem? views id ≡ some v → IsPrefix v.seen history
    pub own : (id : ℕ) (v : View R) (g : ℕ) (c : R) → get_elem? views id ≡ some v → HasRow v.records g c
        → accesses c ≡ accesses_by g v.seen

-- E are the events of runs, and R the records of goroutines, each with the number of its accesses. `Explains` says that a
-- run leads to what words and records show.
module _ {E R : Type 0} (accesses : R → ℕ) (Explains : List ℕ → List R → List E → Type 0) (opening : List ℕ) where
  -- a run explains the history, which led from the opening words to these
  pub record Account (words : List ℕ) (recs : List R) (history : List Access) : Type 0 where
    -- What each access adds to the run. It may be nothing, as for a load, or several events, since local steps come with the next access.
    pub gains : List (List E)
    -- the k-th gain is that of the k-th access
    pub paired : length gains ≡ length history
    pub explains : Explains words recs (flattened gains)
    -- What the first k accesses add explains the words after them. Only by this can a run be named that is cut off early, as when memory
    -- runs out. The records `then` are those of that moment.
    pub moments : (k : ℕ) → k ≤ length history
        → (then : List R) × Explains (replay opening (take k history)) then (flattened (take k gains))
    -- the words are what the history makes of the opening ones: from this follows what a word was at an earlier moment
    pub replayed : words ≡ replay opening history
    -- what an access found was the word then, so that what a goroutine remembers of it means something
    pub sound : Sound opening history
    -- each record counts the accesses of its goroutine
    pub counted : (g : ℕ) (c : R) → get_elem? recs g ≡ some c → accesses c ≡ accesses_by g history
    -- Each access is by a goroutine that exists, or by none, and then it changes nothing. `makers` lets a new goroutine begin with no
    -- access: none in the history has its number.
    pub makers : (i : ℕ) (a : Access) (g : ℕ) → get_elem? history i ≡ some a → a.by ≡ Some g → g < length recs
    pub glances : (i : ℕ) (a : Access) → get_elem? history i ≡ some a → a.by ≡ None → a.left ≡ a.found

  -- The rule. Each access has to lead from a table with some account, owners and awareness to one with others.
  pub record Explained (s : TableState R) : Type 0 where
    pub recs : List R
    pub history : List Access
    pub account : Account s.words recs history
    -- the seat that has each record
    pub owner : ℕ → ℕ
    pub owned : Owned s.views recs owner
    pub aware : Aware accesses s.views history

  -- What is known of the words of a table that was closed with a seat of this view. The other seats are gone, so of other records it is
  -- known only that they exist.
  pub record Closing (words : List ℕ) (v : View R) : Type 0 where
    pub recs : List R
    pub history : List Access
    pub account : Account words recs history
    pub seen : IsPrefix v.seen history
    pub here : (g : ℕ) (c : R) → HasRow v.records g c → (get_elem? recs g ≡ some c) × (accesses c ≡ accesses_by g v.seen)
