-- How a declaration, a block and their ends change the trail. The hard case is the end of a block: declarations are taken back one by
-- one, and halfway the map agrees with the blocks without those already taken back, which is the invariant of that loop.
use Rattle.std.proofs.Common.{◌≡◌, ℕ, ◌+◌, ◌<◌, ◌≤◌, List, [], ◌∷◌, ◌++◌, length, Bool, true, false, Option, None, Some, IsSome, is_some, Vec, bytes_eq, nat_eq, option_map, if◌then◌else◌, refl, sym, ap, subst, ◌∙◌, arith}
use Rattle.std.proofs.lemmas.Bool.Decides.{nat_tests}
use Rattle.std.proofs.lemmas.Slice.Eq.{bytes_eq-Decides}
use Rattle.std.specs.Global.{Global}
use Rattle.std.specs.Option.{option_or}
use Rattle.rgo_scopes.specs.declared.newest.Seen.{Seen}
use Rattle.rgo_scopes.specs.declared.scopes.Binding.{Binding}
use Rattle.rgo_scopes.specs.Blocks.{Block, NestedBlocks, found, found_in, found_outside, declared, entered, block_left}
use Rattle.rgo_scopes.specs.Newest.{Newest, noted_meaning, Notes}
use Rattle.rgo_scopes.specs.Trail.{Trail, Trails, declarations, nested, blocks_of, at_block, seen, seen_outside, Hides, HidesOutside, IsTrail}

-- a list with no elements
pub nil_from_length : {X : Type 0} (xs : List X) → length xs ≡ 0 → xs ≡ []
nil_from_length [] h = refl
nil_from_length (x ∷ xs) h = absurd (omega (arith, h))

module _ {T : Type 0} where
  -- the last binding is the newest declaration
  pub declarations-push : (below : Block T) (bs : Trail T) (b : Binding T)
      → declarations below (bs ++ b ∷ []) ≡ (b.name.now, b.value) ∷ declarations below bs
  declarations-push below [] b = refl
  declarations-push below (x ∷ bs) b = declarations-push ((x.name.now, x.value) ∷ below) bs b

  -- the last block is the innermost
  pub nested-push : (done : List (Block T)) (vs : Trails T) (v : Vec (Binding T) Global)
      → nested done (vs ++ v ∷ []) ≡ declarations [] v.items ∷ nested done vs
  nested-push done [] v = refl
  nested-push done (x ∷ vs) v = nested-push (declarations [] x.items ∷ done) vs v

  pub length-nested : (done : List (Block T)) (vs : Trails T) → length (nested done vs) ≡ length vs + length done
  length-nested done [] = omega arith
  length-nested done (x ∷ vs) = let h = length-nested (declarations [] x.items ∷ done) vs in omega (arith, h)

  pub Hides-push : (outer : List (Block T)) (below : Block T) (bs : Trail T) (b : Binding T)
      → Hides outer below bs → b.hidden ≡ seen b.name.now (declarations below bs) outer
      → Hides outer below (bs ++ b ∷ [])
  Hides-push outer below [] b h e = (e, tt)
  Hides-push outer below (x ∷ bs) b h e = (h.0, Hides-push outer ((x.name.now, x.value) ∷ below) bs b h.1 e)

  pub Hides-pop : (outer : List (Block T)) (below : Block T) (bs : Trail T) (b : Binding T)
      → Hides outer below (bs ++ b ∷ []) → Hides outer below bs
      × (b.hidden ≡ seen b.name.now (declarations below bs) outer)
  Hides-pop outer below [] b h = (tt, h.0)
  Hides-pop outer below (x ∷ bs) b h = let r = Hides-pop outer ((x.name.now, x.value) ∷ below) bs b h.1 in
      ((h.0, r.0), r.1)

  pub HidesOutside-push : (done : List (Block T)) (vs : Trails T) (v : Vec (Binding T) Global)
      → HidesOutside done vs → Hides (nested done vs) [] v.items → HidesOutside done (vs ++ v ∷ [])
  HidesOutside-push done [] v h e = (e, tt)
  HidesOutside-push done (x ∷ vs) v h e = (h.0, HidesOutside-push (declarations [] x.items ∷ done) vs v h.1 e)

  pub HidesOutside-pop : (done : List (Block T)) (vs : Trails T) (v : Vec (Binding T) Global)
      → HidesOutside done (vs ++ v ∷ []) → HidesOutside done vs × Hides (nested done vs) [] v.items
  HidesOutside-pop done [] v h = (tt, h.0)
  HidesOutside-pop done (x ∷ vs) v h = let r = HidesOutside-pop (declarations [] x.items ∷ done) vs v h.1 in
      ((h.0, r.0), r.1)

  -- a new declaration is what its name means, and other names mean what they did
  pub seen-declared : (name key : List ℕ) (value : T) (here : Block T) (outer : List (Block T))
      → seen name ((key, value) ∷ here) outer
      ≡ (if bytes_eq key name then Some (at_block (length outer) value) else seen name here outer)
  seen-declared name key value here outer = by (bytes_eq key name)
    where
      by : (b : Bool) → option_or (option_map (at_block (length outer))
          (if b then Some value else found_in name here)) (seen_outside name outer)
          ≡ (if b then Some (at_block (length outer) value) else seen name here outer)
      by true = refl
      by false = refl

  -- what is seen is what is found
  pub found_outside-seen : (name : List ℕ) (outer : List (Block T)) → found_outside name outer
      ≡ option_map (λ s. s.value) (seen_outside name outer)
  found_outside-seen name [] = refl
  found_outside-seen name (b ∷ bs) = by (found_in name b) (found_outside-seen name bs)
    where
      by : (o : Option T) → found_outside name bs ≡ option_map (λ s. s.value) (seen_outside name bs)
          → option_or o (found_outside name bs)
          ≡ option_map (λ s. s.value) (option_or (option_map (at_block (length bs)) o)
          (seen_outside name bs))
      by None e = e
      by (Some x) e = refl

  pub found-seen : (name : List ℕ) (s : NestedBlocks T) → found name s ≡ option_map (λ s. s.value) (seen name s.here s.outer)
  found-seen name s = found_outside-seen name (s.here ∷ s.outer)

  -- an outer block has a smaller number than the innermost
  abbrev pub IsBelow : ℕ → Option (Seen T) → Type 0
  IsBelow n None = Unit {0}
  IsBelow n (Some s) = s.block < n

  IsBelow-more : (n m : ℕ) (o : Option (Seen T)) → n ≤ m → IsBelow n o → IsBelow m o
  IsBelow-more n m None le h = tt
  IsBelow-more n m (Some s) le h = omega (arith, le, h)

  pub below-seen_outside : (name : List ℕ) (outer : List (Block T)) → IsBelow (length outer) (seen_outside name outer)
  below-seen_outside name [] = tt
  below-seen_outside name (b ∷ bs) = by (found_in name b) (below-seen_outside name bs)
    where
      by : (o : Option T) → IsBelow (length bs) (seen_outside name bs)
          → IsBelow (length (b ∷ bs)) (option_or (option_map (at_block (length bs)) o) (seen_outside name bs))
      by None h = IsBelow-more (length bs) (length (b ∷ bs)) (seen_outside name bs) (omega arith) h
      by (Some x) h = omega arith

  -- whether what is seen is in the block of this number
  abbrev pub is_at : ℕ → Option (Seen T) → Bool
  is_at n None = false
  is_at n (Some s) = nat_eq s.block n

  is_at-IsBelow : (n : ℕ) (o : Option (Seen T)) → IsBelow n o → is_at n o ≡ false
  is_at-IsBelow n None h = refl
  is_at-IsBelow n (Some s) h = grind (arith, nat_tests, h)

  pub is_at-seen : (name : List ℕ) (here : Block T) (outer : List (Block T))
      → is_at (length outer) (seen name here outer) ≡ is_some (found_in name here)
  is_at-seen name here outer = by (found_in name here)
    where
      by : (o : Option T) → is_at (length outer)
          (option_or (option_map (at_block (length outer)) o) (seen_outside name outer)) ≡ is_some o
      by None = is_at-IsBelow (length outer) (seen_outside name outer) (below-seen_outside name outer)
      by (Some x) = grind (arith, nat_tests)

  -- what the fields show after a declaration, and after a block begins or ends
  pub view-declared : (here more : Trail T) (outer : Trails T) (b : Binding T)
      → more ≡ here ++ b ∷ [] → blocks_of more outer ≡ declared b.name.now b.value (blocks_of here outer)
  view-declared here more outer b e = rw e
      (ap (λ ds. record { here = ds; outer = nested [] outer }) (declarations-push [] here b))

  pub view-entered : (here next : Trail T) (outer more : Trails T) (v : Vec (Binding T) Global)
      → next ≡ [] → v.items ≡ here → more ≡ outer ++ v ∷ [] → blocks_of next more ≡ entered (blocks_of here outer)
  view-entered here next outer more v none same e = rw (none, e, ← same)
      (ap (λ bs. record { here = []; outer = bs }) (nested-push [] outer v))

  pub view-left : (here : Trail T) (outer more : Trails T) (v : Vec (Binding T) Global)
      → more ≡ outer ++ v ∷ [] → blocks_of v.items outer ≡ block_left (blocks_of here more)
  view-left here outer more v e = rw (e, nested-push [] outer v) refl

  module _ {S : Type 0} where
    pub trail-new : (here : Trail T) (outer : Trails T) (newest : Newest T S)
        → here ≡ [] → outer ≡ [] → newest.entries ≡ [] → IsTrail here outer newest
    trail-new here outer newest h o e = rw (h, o) (record { notes = λ q. rw e refl; hides = tt; hides_outside = tt })

    pub trail-declared : (here more : Trail T) (outer : Trails T) (old new : Newest T S) (b : Binding T) (block : ℕ)
        → IsTrail here outer old → more ≡ here ++ b ∷ [] → b.hidden ≡ noted_meaning old b.name.now → block ≡ length outer
        → Notes old b.name.now (Some (at_block block b.value)) new → IsTrail more outer new
    trail-declared here more outer old new b block h e hidden last says =
        rw e (record {
          notes = λ q. rw (declarations-push [] here b) (by q);
          hides = Hides-push (nested [] outer) [] here b h.hides (hidden ∙ h.notes b.name.now);
          hides_outside = h.hides_outside;
        })
      where
        number : block ≡ length (nested [] outer)
        number = let l = length-nested [] outer in omega (arith, l, last)

        by : (q : List ℕ) → noted_meaning new q ≡ seen q ((b.name.now, b.value) ∷ declarations [] here) (nested [] outer)
        by q = says q ∙ (λ j. if bytes_eq b.name.now q then Some (at_block (number j) b.value) else h.notes q j)
            ∙ sym (seen-declared q b.name.now b.value (declarations [] here) (nested [] outer))

    pub trail-entered : (here next : Trail T) (outer more : Trails T) (v : Vec (Binding T) Global) (newest : Newest T S)
        → IsTrail here outer newest → next ≡ [] → v.items ≡ here → more ≡ outer ++ v ∷ [] → IsTrail next more newest
    trail-entered here next outer more v newest h none same e =
        rw (none, e) (record {
          notes = λ q. rw (nested-push [] outer v, same) (h.notes q);
          hides = tt;
          hides_outside = HidesOutside-push [] outer v h.hides_outside (rw same h.hides);
        })

    -- what the names mean before the last declaration is taken back
    notes-last : (here more : Trail T) (outer : Trails T) (old : Newest T S) (b : Binding T)
        → IsTrail more outer old → more ≡ here ++ b ∷ [] → (q : List ℕ)
        → noted_meaning old q ≡ (if bytes_eq b.name.now q then Some (at_block (length (nested [] outer)) b.value)
        else seen q (declarations [] here) (nested [] outer))
    notes-last here more outer old b t e q =
        t.notes q ∙ ap (λ ds. seen q ds (nested [] outer)) (ap (declarations []) e ∙ declarations-push [] here b)
        ∙ seen-declared q b.name.now b.value (declarations [] here) (nested [] outer)

    -- one declaration less, whose name means again what it did
    pub trail-restored : (here more : Trail T) (outer : Trails T) (old new : Newest T S) (b : Binding T)
        → IsTrail more outer old → more ≡ here ++ b ∷ [] → Notes old b.name.now b.hidden new → IsTrail here outer new
    trail-restored here more outer old new b t e says =
        record {
          notes = λ q. says q ∙ by q (bytes_eq b.name.now q) refl;
          hides = below.0;
          hides_outside = t.hides_outside;
        }
      where
        below : Hides (nested [] outer) [] here × (b.hidden ≡ seen b.name.now (declarations [] here) (nested [] outer))
        below = Hides-pop (nested [] outer) [] here b (subst (Hides (nested [] outer) []) e t.hides)

        by : (q : List ℕ) (r : Bool) → bytes_eq b.name.now q ≡ r
            → (if bytes_eq b.name.now q then b.hidden else noted_meaning old q)
            ≡ seen q (declarations [] here) (nested [] outer)
        by q true same = rw same (below.1 ∙ ap (λ n. seen n (declarations [] here) (nested [] outer))
            ((bytes_eq-Decides b.name.now q).0 same))
        by q false other = rw other (notes-last here more outer old b t e q ∙ rw other refl)

    -- the name of the last declaration means something
    pub IsSome-last : (here more : Trail T) (outer : Trails T) (old : Newest T S) (b : Binding T)
        → IsTrail more outer old → more ≡ here ++ b ∷ [] → IsSome (noted_meaning old b.name.now)
    IsSome-last here more outer old b t e =
        rw (notes-last here more outer old b t e b.name.now, (bytes_eq-Decides b.name.now b.name.now).1 refl) refl

    -- the block outside, if the innermost declares nothing
    pub trail-left : (here next : Trail T) (outer more : Trails T) (v : Vec (Binding T) Global) (newest : Newest T S)
        → IsTrail here more newest → here ≡ [] → more ≡ outer ++ v ∷ [] → next ≡ v.items → IsTrail next outer newest
    trail-left here next outer more v newest t none e same =
        rw same (record {
          notes = λ q. t.notes q ∙ rw (none, e, nested-push [] outer v) refl;
          hides = below.1;
          hides_outside = below.0;
        })
      where
        below : HidesOutside [] outer × Hides (nested [] outer) [] v.items
        below = HidesOutside-pop [] outer v (subst (HidesOutside []) e t.hides_outside)

    -- the notes say what each name means, and whether in the innermost block
    pub found-noted : (here : Trail T) (outer : Trails T) (newest : Newest T S)
        → IsTrail here outer newest → (q : List ℕ) → option_map (λ s. s.value) (noted_meaning newest q)
        ≡ found q (blocks_of here outer)
    found-noted here outer newest t q = ap (option_map (λ s. s.value)) (t.notes q)
        ∙ sym (found-seen q (blocks_of here outer))

    pub is_at-noted : (here : Trail T) (outer : Trails T) (newest : Newest T S)
        → IsTrail here outer newest → (q : List ℕ) → is_at (length outer) (noted_meaning newest q)
        ≡ is_some (found_in q (declarations [] here))
    is_at-noted here outer newest t q =
        ap (is_at (length outer)) (t.notes q)
        ∙ ap (λ n. is_at n (seen q (declarations [] here) (nested [] outer))) number
        ∙ is_at-seen q (declarations [] here) (nested [] outer)
      where
        number : length outer ≡ length (nested [] outer)
        number = let l = length-nested [] outer in omega (arith, l)
