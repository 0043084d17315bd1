-- The invariant of the table: the map notes what the blocks say, and each declaration has what its name meant before it, so that the
-- end of a block can restore the map without a search. That is kept for outer blocks too, since each becomes the innermost again.
use Rattle.std.specs.Prelude.{◌≡◌, ℕ, List, [], ◌∷◌, Option, None, length, Vec}
use Rattle.std.specs.Option.{option_or, option_map}
use Rattle.std.specs.Borrow.{Bor}
use Rattle.std.specs.Global.{Global}
use Rattle.rgo_scopes.specs.Blocks.{Block, NestedBlocks, found_in}
use Rattle.rgo_scopes.specs.Newest.{Newest, noted_meaning}
use Rattle.rgo_scopes.specs.declared.newest.Seen.{Seen}
use Rattle.rgo_scopes.specs.declared.scopes.Binding.{Binding}

-- the bindings of a block, the oldest first
abbrev pub Trail : Type 0 → Type 0
Trail T = List (Binding T)

-- those of the outer blocks, from the outside to the inside
abbrev pub Trails : Type 0 → Type 0
Trails T = List (Vec (Binding T) Global)

module _ {T : Type 0} where
  -- a binding of its three parts
  abbrev pub binding : Bor (List ℕ) → T → Option (Seen T) → Binding T
  binding name value hidden = record { name = name; value = value; hidden = hidden }

  -- the declarations of a block, the newest first, below those of these bindings
  abbrev pub declarations : Block T → Trail T → Block T
  declarations below [] = below
  declarations below (b ∷ bs) = declarations ((b.name.now, b.value) ∷ below) bs

  -- the blocks, the innermost first, inside those done
  abbrev pub nested : List (Block T) → Trails T → List (Block T)
  nested done [] = done
  nested done (v ∷ vs) = nested (declarations [] v.items ∷ done) vs

  abbrev pub blocks_of : Trail T → Trails T → NestedBlocks T
  blocks_of here outer = record { here = declarations [] here; outer = nested [] outer }

  -- a value with the number of blocks outside its own
  abbrev pub at_block : ℕ → T → Seen T
  at_block block value = record { value = value; block = block }

  -- what a name means in the innermost of these blocks that declares it, with the number of blocks
  -- outside that one
  abbrev pub seen_outside : List ℕ → List (Block T) → Option (Seen T)
  seen_outside name [] = None
  seen_outside name (b ∷ bs) =
      option_or (option_map (at_block (length bs)) (found_in name b)) (seen_outside name bs)

  abbrev pub seen : List ℕ → Block T → List (Block T) → Option (Seen T)
  seen name here outer =
      option_or (option_map (at_block (length outer)) (found_in name here)) (seen_outside name outer)

  -- each binding hid what its name meant below it
  abbrev pub Hides : List (Block T) → Block T → Trail T → Type 0
  Hides outer below [] = Unit {0}
  Hides outer below (b ∷ bs) =
      (b.hidden ≡ seen b.name.now below outer) × Hides outer ((b.name.now, b.value) ∷ below) bs

  -- so in each block
  abbrev pub HidesOutside : List (Block T) → Trails T → Type 0
  HidesOutside done [] = Unit {0}
  HidesOutside done (v ∷ vs) =
      Hides done [] v.items × HidesOutside (declarations [] v.items ∷ done) vs

  module _ {S : Type 0} where
    -- the map notes what each name means
    abbrev pub NotesAll : Newest T S → Block T → List (Block T) → Type 0
    NotesAll newest here outer = (name : List ℕ) → noted_meaning newest name ≡ seen name here outer

    -- what holds of the fields
    pub record IsTrail (here : Trail T) (outer : Trails T) (newest : Newest T S) : Type 0 where
      pub notes : NotesAll newest (declarations [] here) (nested [] outer)
      pub hides : Hides (nested [] outer) [] here
      pub hides_outside : HidesOutside [] outer
