-- Summaries: the least family in which each function's summary is its own equivalence, cut down to what callers see.
use Rattle.std.specs.Prelude.{◌≡◌, ◌≢◌, ℕ, List, [], ◌∷◌, ◌++◌, length, Some, slice_get}
use Rattle.rgo_tac.specs.declared.regions.Class.{Class}
use Rattle.rgo_tac.specs.declared.regions.Class.TheVariants as class
use Rattle.rgo_tac.specs.Code.{TacFn, Tac}
use Rattle.rgo_classes.specs.declared.classes.Summary.{Summary}
use Rattle.rgo_classes.specs.Classes.{Describes, outer_members}

-- the classes of the parameters, then that of the result
abbrev pub outer_classes : Summary → List Class
outer_classes s = s.params ++ s.result ∷ []

-- each summary describes the parameters and the result of its function, under all of them
pub record IsFamily (code : Tac) (family : List Summary) : Type 0 where
  pub len : length family ≡ length code.functions
  pub own : (n : ℕ) (f : TacFn) (s : Summary) → slice_get code.functions n ≡ Some f → slice_get family n ≡ Some s
      → Describes family f (outer_members f) (outer_classes s)

-- what the one summary puts into one class, or into that of the package variables, the other does, too
pub record JoinsNoMore (s t : Summary) : Type 0 where
  pub global : (i : ℕ) → slice_get (outer_classes s) i ≡ Some class.Global
      → slice_get (outer_classes t) i ≡ Some class.Global
  pub same : (i j : ℕ) (c : Class) → c ≢ class.NoClass
      → slice_get (outer_classes s) i ≡ Some c → slice_get (outer_classes s) j ≡ Some c
      → slice_get (outer_classes t) i ≡ slice_get (outer_classes t) j

-- A family that joins no more than any other family. In recursive functions a larger one would agree with itself, too, but whatever it
-- joins without need stays in memory longer.
pub record IsLeastFamily (code : Tac) (family : List Summary) : Type 0 where
  pub closed : IsFamily code family
  pub least : (other : List Summary) → IsFamily code other
      → (n : ℕ) (s t : Summary) → slice_get family n ≡ Some s → slice_get other n ≡ Some t → JoinsNoMore s t
