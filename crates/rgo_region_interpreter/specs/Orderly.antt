-- What holds of the regions in every run, beside what makes it safe: each object's region was made, nothing is pending before a
-- goroutine takes the first stake for one that it is about to start, and each protection that is to end exists. The machine does not
-- depend on these, but the code does: it begins each start with an empty set of shared regions, and counts protections down without a
-- test.
use Rattle.std.specs.Prelude.{◌≡◌, ◌≤◌, ℕ, ◌+◌, List, [], ◌∷◌, length, Some, None, slice_get}
use Rattle.rgo_code.specs.Code.{Code}
use Rattle.rgo_region_machine.specs.declared.regions.Region.{Region}
use Rattle.rgo_region_machine.specs.declared.regions.Region.TheVariants.{Numbered}
use Rattle.rgo_region_machine.specs.Regions.{Bindings, bound, unbind, removed_once}
use Rattle.rgo_region_machine.specs.States.{Duty, Create, Share, Protect, Unprotect, Remove, EndBase, RegionEnvironment, Holder}
use Rattle.rgo_region_machine.specs.States.{RegionState, frames_of}
use Rattle.rgo_sound.specs.Invariant.{times, to_share}
use Rattle.rgo_tac.specs.Frames.{TacFrame}
use Rattle.rgo_region_interpreter.specs.Tables.{AreMade}

-- how many of these steps share a region
abbrev pub shares_in : List Duty → ℕ
shares_in [] = 0
shares_in (Create k ∷ duties) = shares_in duties
shares_in (Share k ∷ duties) = 1 + shares_in duties
shares_in (Protect k ∷ duties) = shares_in duties
shares_in (Unprotect k ∷ duties) = shares_in duties
shares_in (Remove k ∷ duties) = shares_in duties
shares_in (EndBase r ∷ duties) = shares_in duties

-- each protection that ends by these steps exists in its turn
abbrev pub Unprotects : List Duty → Bindings → List Region → Type 0
Unprotects [] names protections = Unit {0}
Unprotects (Create k ∷ duties) names protections = (r : ℕ) → Unprotects duties ((k, Numbered r) ∷ unbind names k) protections
Unprotects (Share k ∷ duties) names protections = Unprotects duties names protections
Unprotects (Protect k ∷ duties) names protections = (r : Region) → bound names k ≡ Some r
    → Unprotects duties names (r ∷ protections)
Unprotects (Unprotect k ∷ duties) names protections = (r : Region) → bound names k ≡ Some r
    → (1 ≤ times r protections) × Unprotects duties names (removed_once r protections)
Unprotects (Remove k ∷ duties) names protections = Unprotects duties (unbind names k) protections
Unprotects (EndBase r ∷ duties) names protections = Unprotects duties names protections

abbrev pub UnprotectsIn : List Duty → List RegionEnvironment → Type 0
UnprotectsIn duties [] = Unit {0}
UnprotectsIn duties (e ∷ es) = Unprotects duties e.names e.protections

pub record OrderlyHolder (code : Code) (frames : List TacFrame) (h : Holder) : Type 0 where
  -- no more is to be shared than what the next instruction passes, and while all of that is to be shared, nothing is pending
  pub within : shares_in h.duties ≤ length (to_share code frames)
  pub none : shares_in h.duties ≡ length (to_share code frames) → h.pending ≡ []
  pub unprotects : UnprotectsIn h.duties h.environments

pub record Orderly (code : Code) (s : RegionState) : Type 0 where
  pub owners : AreMade s.regions s.owners
  pub holders : s.mark ≡ None → (g : ℕ) (h : Holder) → slice_get s.holders g ≡ Some h
      → OrderlyHolder code (frames_of s.plain g) h
