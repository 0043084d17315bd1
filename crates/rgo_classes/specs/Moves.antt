-- How labels change as two classes are joined, with the members of each label kept as rows of numbers.
use Rattle.std.specs.Prelude.{◌≡◌, ◌≢◌, ◌⊎◌, ◌<◌, ℕ, List, [], Vec, map, length, slice_index, slice_index_or, Contains}
use Rattle.std.specs.Global.{Global}

abbrev pub member_rows : List (Vec ℕ Global) → List (List ℕ)
member_rows rows = map (λ row. row.items) rows

abbrev pub members_of_label : List (List ℕ) → ℕ → List ℕ
members_of_label rows l = slice_index_or rows l []

-- row l has the members whose label is l
pub record AreRows (labels : List ℕ) (rows : List (List ℕ)) : Type 0 where
  pub size : length rows ≡ length labels
  pub labelled : (m : ℕ) → m < length labels → Contains (members_of_label rows (slice_index labels m)) m
  pub inside : (l m : ℕ) → Contains (members_of_label rows l) m → (m < length labels) × (slice_index labels m ≡ l)

-- these members get a label
pub record Relabels (old new these : List ℕ) (label : ℕ) : Type 0 where
  pub size : length new ≡ length old
  pub now : (m : ℕ) → Contains these m → slice_index new m ≡ label
  pub others : (m : ℕ) → (slice_index new m ≡ slice_index old m) ⊎ Contains these m

-- what had one label has another, and the others keep theirs
pub record MovesTo (old new : List ℕ) (from to : ℕ) : Type 0 where
  pub size : length new ≡ length old
  pub moved : (m : ℕ) → m < length old → slice_index old m ≡ from → slice_index new m ≡ to
  pub kept : (m : ℕ) → m < length old → slice_index old m ≢ from → slice_index new m ≡ slice_index old m

-- the one has the label of a, the other that of b
abbrev pub AreOf : List ℕ → (a b x y : ℕ) → Type 0
AreOf labels a b x y = (slice_index labels x ≡ slice_index labels a) × (slice_index labels y ≡ slice_index labels b)

-- the classes of a and b become one, and the others stay
pub record Merges (old new : List ℕ) (a b : ℕ) : Type 0 where
  pub size : length new ≡ length old
  pub met : slice_index new a ≡ slice_index new b
  pub kept : (x y : ℕ) → x < length old → y < length old → slice_index old x ≡ slice_index old y
      → slice_index new x ≡ slice_index new y
  pub only : (x y : ℕ) → x < length old → y < length old → slice_index new x ≡ slice_index new y
      → (slice_index old x ≡ slice_index old y) ⊎ (AreOf old a b x y ⊎ AreOf old b a x y)
