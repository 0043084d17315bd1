-- The regions that a goroutine protects since its start, the first of them last: the list is the reverse of the machine's.
use Rattle.std.proofs.Common.{◌≡◌, ◌<◌, ◌+◌, ◌-◌, ℕ, List, [], ◌∷◌, ◌++◌, Option, Some, None, ap, arith, get_or, length, map, option_map, refl, reverse, slice_get, sym, take, ◌∙◌}
use Rattle.std.proofs.lemmas.List.{get_or-reverse, length-reverse, reverse-append, take_all, take_more}
use Rattle.std.proofs.lemmas.Option.{none-some, same_Some, slice_get-get_or, slice_get-map}
use Rattle.rgo_sound.specs.RegionMachine.declared.regions.Region.{Region}
use Rattle.rgo_holding.specs.declared.keys.Key.{Key}

-- a base with a first key
pub record First (region : Key → Option Region) (key : Key) (keys : List Key) (base : List Region) : Type 0 where
  pub r : Region
  pub rest : List Region
  pub is : region key ≡ Some r
  pub base_is : base ≡ r ∷ rest
  pub others : map region keys ≡ map Some rest

first_of : (region : Key → Option Region) (key : Key) (keys : List Key) (base : List Region)
    → map region (key ∷ keys) ≡ map Some base → First region key keys base
first_of region key keys [] e = cc
first_of region key keys (r ∷ rest) e = record { r = r; rest = rest; is = head e; base_is = refl; others = tail e }
  where
    head : region key ∷ map region keys ≡ Some r ∷ map Some rest → region key ≡ Some r
    head e = cc

    tail : region key ∷ map region keys ≡ Some r ∷ map Some rest → map region keys ≡ map Some rest
    tail e = cc

-- the last of the list is the first of the base
pub popped : (region : Key → Option Region) (keys others : List Key) (key : Key) (base : List Region)
    → keys ≡ others ++ key ∷ [] → map region (reverse keys) ≡ map Some base → First region key (reverse others) base
popped region keys others key base is shown =
    first_of region key (reverse others) base
    (ap (map region) (sym (ap reverse is ∙ reverse-append others (key ∷ []))) ∙ shown)

-- none is left
pub none_left : (region : Key → Option Region) (keys : List Key) (base : List Region) → keys ≡ []
    → map region (reverse keys) ≡ map Some base → base ≡ []
none_left region keys [] is shown = refl
none_left region keys (r ∷ base) is shown = no_base (ap (λ ks. map region (reverse ks)) (sym is) ∙ shown)
  where
    no_base : ◌≡◌ {A = List (Option Region)} [] (Some r ∷ map Some base) → r ∷ base ≡ []
    no_base e = cc

-- the region at a place of the base
pub based : (region : Key → Option Region) (keys : List Key) (base : List Region) (i : ℕ) (key : Key) → i < length keys
    → key ≡ get_or keys (length keys - 1 - i) key → map region (reverse keys) ≡ map Some base
    → (r : Region) × (region key ≡ Some r) × (slice_get base i ≡ Some r)
based region keys base i key l is shown =
    let at : slice_get (reverse keys) i ≡ Some key =
    slice_get-get_or (reverse keys) i key (omega (arith, l, length-reverse keys))
    ∙ ap Some (get_or-reverse keys i key l ∙ sym is) in
    go (slice_get base i) refl
    (sym (ap (option_map region) at) ∙ sym (slice_get-map region (reverse keys) i) ∙ ap (λ rs. slice_get rs i) shown
    ∙ slice_get-map Some base i)
  where
    go : (o : Option Region) → slice_get base i ≡ o → Some (region key) ≡ option_map Some (slice_get base i)
        → (r : Region) × (region key ≡ Some r) × (slice_get base i ≡ Some r)
    go None at e = absurd (none-some (region key) (sym (e ∙ ap (option_map Some) at)))
    go (Some r) at e = (r, same_Some _ _ (e ∙ ap (option_map Some) at), at)

-- the last of the list leads to the first of the base
pub last_based : (region : Key → Option Region) (keys : List Key) (base : List Region) (key : Key) → 0 < length keys
    → key ≡ get_or keys (length keys - 1) key → map region (reverse keys) ≡ map Some base
    → First region key (reverse (take (length keys - 1) keys)) base
last_based region keys base key some is shown =
    popped region keys (take (length keys - 1) keys) key base
    (sym (take_all (length keys - 1 + 1) keys (omega (arith, some)))
    ∙ take_more keys (length keys - 1) key (omega (arith, some))
    ∙ ap (λ x. take (length keys - 1) keys ++ x ∷ []) (sym is)) shown
