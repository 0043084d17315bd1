-- Passes: a driver meets the goroutines one after the other, so that in the end it knows what all of them found at one and the
-- same moment. No access shows two words at once. But words that nobody has changed between the first look and the last had
-- their values throughout.
use Rattle.std.specs.Prelude.{◌≡◌, ◌≤◌, ◌+◌, ℕ, List, [], ◌∷◌, ◌++◌, Some, length, slice_index}
use mathlib.Core.Option.{some}
use lib.ListN.{get_elem?}
use Rattle.rgo_core_rule.specs.Histories.{accesses_by, replay}
use Rattle.rgo_core_rule.specs.Rule.{Closing}
use Rattle.rgo_core_rule.specs.Views.{longer}
use Rattle.rgo_core_rule.specs.declared.accesses.Access.{Access}
use Rattle.rgo_core_rule.specs.declared.accesses.View.{View}

-- ---- what all have seen

-- what the driver has seen that began with xs and has met goroutines that had seen these lists, in this order
abbrev pub after_pass : List Access → List (List Access) → List Access
after_pass xs [] = xs
after_pass xs (ys ∷ yss) = after_pass (longer xs ys) yss

-- what each of the goroutines has then seen
abbrev pub all_after_pass : List Access → List (List Access) → List (List Access)
all_after_pass xs [] = []
all_after_pass xs (ys ∷ yss) = longer xs ys ∷ all_after_pass (longer xs ys) yss

abbrev pub AllAre : List Access → List (List Access) → Type 0
AllAre xs [] = Unit {0}
AllAre xs (ys ∷ yss) = (ys ≡ xs) × AllAre xs yss

-- After a second pass all have seen the same: what the driver had seen after the first. One pass is not enough, since a goroutine
-- that was met early does not learn what a later one had seen.
abbrev pub TwoPasses : Type 0
TwoPasses = (xs : List Access) (yss : List (List Access))
    → (after_pass (after_pass xs yss) (all_after_pass xs yss) ≡ after_pass xs yss) × AllAre (after_pass xs yss) (all_after_pass (after_pass xs yss) (all_after_pass xs yss))

-- after a pass no goroutine has seen more than the driver
abbrev pub NobodyAhead : Type 0
NobodyAhead = (xs : List Access) (yss : List (List Access)) (i : ℕ) (ys : List Access) → get_elem? yss i ≡ some ys
    → length ys ≤ length (after_pass xs yss)

-- ---- what has changed

-- none of the accesses changed a word
abbrev pub ChangesNothing : List Access → Type 0
ChangesNothing history = (i : ℕ) (a : Access) → get_elem? history i ≡ some a → a.left ≡ a.found

-- none of the accesses by goroutine g did
abbrev pub ChangesNothingBy : ℕ → List Access → Type 0
ChangesNothingBy g history = (i : ℕ) (a : Access) → get_elem? history i ≡ some a → a.by ≡ Some g → a.left ≡ a.found

-- Since the history was `before`, goroutine g, whose record is c, has looked and has changed nothing: `front` followed, in which
-- its accesses changed no word, and after that it has made none. By `own` the record counts no later access.
pub record HasLooked {R : Type 0} (accesses : R → ℕ) (before history : List Access) (g : ℕ) (c : R) : Type 0 where
  pub front : List Access
  pub rest : List Access
  pub is : history ≡ (before ++ front) ++ rest
  pub own : accesses c ≡ accesses_by g (before ++ front)
  pub still : ChangesNothingBy g front

module _ {E R : Type 0} (accesses : R → ℕ) (Explains : List ℕ → List R → List E → Type 0) (opening : List ℕ) where
  -- If every goroutine has looked since the history was `before`, then no access has changed a word since, and each found what
  -- its word holds in the end: all that they found was so at one moment.
  abbrev pub PassIsStill : Type 0
  PassIsStill = (words : List ℕ) (v : View R) (end : Closing accesses Explains opening words v) (before since : List Access)
      → end.history ≡ before ++ since
      → ((g : ℕ) (c : R) → get_elem? end.recs g ≡ some c → HasLooked accesses before end.history g c)
      → (words ≡ replay opening before) × ChangesNothing since
      × ((i : ℕ) (a : Access) → get_elem? since i ≡ some a → a.found ≡ slice_index words a.word)

-- How a goroutine comes to have looked: all its accesses were known (`early`) when the pass began, then others looked (`front`),
-- and then it did (`turn`). Its own accesses in `front` are none, since its number of accesses grew only in its turn.
abbrev pub TurnLooks : Type 0
TurnLooks = (g old new : ℕ) (before early later front turn rest history : List Access)
    → before ≡ early ++ later → old ≡ accesses_by g early
    → history ≡ ((before ++ front) ++ turn) ++ rest
    → new ≡ accesses_by g turn + old → new ≡ accesses_by g ((before ++ front) ++ turn)
    → ChangesNothingBy g turn
    → HasLooked (λ (n : ℕ). n) before history g new
