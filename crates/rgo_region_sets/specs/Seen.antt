-- Names that were seen among classes.
use Rattle.std.specs.Prelude.{◌≡◌, ℕ, List}
use Rattle.std.specs.BTreeSet.{BTreeSet, contains}
use Rattle.std.specs.List.{list_any}
use Rattle.std.specs.Ordering.{nat_cmp}
use Rattle.rgo_tac.specs.declared.regions.Class.{Class}
use Rattle.rgo_code.specs.Names.{is_class_named}

-- the set has the names among these classes
abbrev pub IsSeen : BTreeSet ℕ → List Class → Type 0
IsSeen seen classes = (k : ℕ) → contains nat_cmp seen k ≡ list_any (is_class_named k) classes
