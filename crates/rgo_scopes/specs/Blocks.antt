-- Names with what they mean, block by block: a name means its newest declaration in the innermost block that declares it. This is the
-- definition that crates above use; the table keeps it in another form, for fast look-ups (Trail.antt).
use Rattle.std.specs.Prelude.{ℕ, List, [], ◌∷◌, Option, None, Some, bytes_eq, if◌then◌else◌}
use Rattle.std.specs.Option.{option_or}

-- the declarations of a block, the newest first: each a name with its value
abbrev pub Block : Type 0 → Type 0
Block T = List (List ℕ × T)

-- The innermost block, and those around it, from the inside to the outside. The innermost is apart, so that there always is one.
pub record NestedBlocks (T : Type 0) : Type 0 where
  pub here : Block T
  pub outer : List (Block T)

module _ {T : Type 0} where
  -- one block with no names
  abbrev pub no_names : NestedBlocks T
  no_names = record { here = []; outer = [] }

  -- what a name means in a block: its newest declaration there
  abbrev pub found_in : List ℕ → Block T → Option T
  found_in name [] = None
  found_in name (d ∷ ds) = if bytes_eq d.0 name then Some d.1 else found_in name ds

  -- what it means in the innermost of these blocks that declares it
  abbrev pub found_outside : List ℕ → List (Block T) → Option T
  found_outside name [] = None
  found_outside name (b ∷ bs) = option_or (found_in name b) (found_outside name bs)

  -- what it means
  abbrev pub found : List ℕ → NestedBlocks T → Option T
  found name s = option_or (found_in name s.here) (found_outside name s.outer)

  -- with a new declaration in the innermost block
  abbrev pub declared : List ℕ → T → NestedBlocks T → NestedBlocks T
  declared name value s = record { here = (name, value) ∷ s.here; outer = s.outer }

  -- with a new block inside the innermost
  abbrev pub entered : NestedBlocks T → NestedBlocks T
  entered s = record { here = []; outer = s.here ∷ s.outer }

  -- the first of these blocks as the innermost, and no names if there is none
  abbrev pub left_to : List (Block T) → NestedBlocks T
  left_to [] = no_names
  left_to (b ∷ bs) = record { here = b; outer = bs }

  -- without the innermost block
  abbrev pub block_left : NestedBlocks T → NestedBlocks T
  block_left s = left_to s.outer
