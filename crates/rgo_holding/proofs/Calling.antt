-- What a goroutine has after a call. The code passes keys and the machine regions, and the map from keys to regions commutes with both.
use Rattle.std.proofs.Common.{◌≡◌, ℕ, Bool, true, false, List, [], ◌∷◌, Option, Some, None, ap, arith, if◌then◌else◌, length, map, nat_eq, option_map, refl, reverse, subst, sym, ◌∙◌}
use Rattle.std.proofs.lemmas.Option.{none-some, same_Some}
use Rattle.rgo_core_memory.specs.Records.{Fill}
use Rattle.rgo_sound.specs.RegionMachine.Owed.{given_names, passed, passed_regions}
use Rattle.rgo_sound.specs.RegionMachine.Regions.{Bindings, bound, class_region, without_all}
use Rattle.rgo_sound.specs.RegionMachine.States.{RegionEnvironment, Holder, environment_of, top_names, with_top}
use Rattle.rgo_sound.specs.RegionMachine.declared.regions.Region.{Region}
use Rattle.rgo_sound.specs.RegionMachine.declared.regions.Region.TheVariants.{Global as GlobalRegion, Numbered}
use Rattle.rgo_sound.proofs.Tests.{nat_eq_refl}
use Rattle.rgo_sound.specs.Tac.declared.regions.Class.{Class}
use Rattle.rgo_sound.specs.Tac.declared.regions.Class.TheVariants.{NoClass, Global as GlobalClass, Name}
use Rattle.rgo_holding.specs.declared.entries.Entry.{Entry}
use Rattle.rgo_holding.specs.declared.frames.Frames.{Frames}
use Rattle.rgo_holding.specs.declared.holding.Holding.{Holding}
use Rattle.rgo_holding.specs.declared.keys.Key.{Key}
use Rattle.rgo_holding.specs.Holds.{IsHoldingOf, HoldingShows, entry_at, region_of_key}
use Rattle.rgo_holding.specs.Known.{entry_region, global_key, region_of}
use Rattle.rgo_holding.specs.Naming.{Changed, NamedFrameEnters, SameTables, cleared_keys, with_named}
use Rattle.rgo_holding.specs.Passing.{IsPrepared, calling, class_key, key_for}
use Rattle.rgo_holding.specs.Tables.{Keys, NamesStand, StandFor, StartWithin, key_in, keys_at, named_frames, named_in, newest_keys}
use Rattle.rgo_holding.proofs.EntryLemmas.{slot_if}
use Rattle.rgo_holding.proofs.Moving.{moved, renamed_shows}
use Rattle.rgo_holding.proofs.NameLemmas.{entered, stand_cleared}

-- only memory has changed
pub same_tables_show : (k : Holding) (f : Frames) (slots : ℕ) (h : Holder) (fills : List Fill) → IsHoldingOf slots k h fills
    → SameTables k.frames f → IsHoldingOf slots (record k { frames = f }) h fills
same_tables_show k f slots h fills shows same =
    moved k f slots h.environments h.environments h.base h.pending h.stakes fills shows (same.depth ∙ shows.depth)
    (subst (λ ks. StartWithin ks (reverse f.tables.items)) (sym same.keys)
    (subst (λ ts. StartWithin k.frames.keys.items (reverse ts)) (sym same.tables) shows.ordered))
    (subst (λ ks. NamesStand (region_of_key k) (named_in ks (reverse f.tables.items)) h.environments) (sym same.keys)
    (subst (λ ts. NamesStand (region_of_key k) (named_in k.frames.keys.items (reverse ts)) h.environments) (sym same.tables) shows.names))
    (λ r. refl)

-- the newest frame's keys stand for its names
pub newest_stand : (k : Holding) (slots : ℕ) (h : Holder) (fills : List Fill) → IsHoldingOf slots k h fills
    → StandFor (region_of_key k) (newest_keys k.frames) (top_names h.environments)
newest_stand k slots h fills shows = go h.environments shows.depth shows.names
  where
    go : (es : List RegionEnvironment) → k.frames.depth ≡ length es → NamesStand (region_of_key k) (named_frames k.frames) es
        → StandFor (region_of_key k) (newest_keys k.frames) (top_names es)
    go [] d s = λ n. ap (λ fs. option_map (region_of_key k) (key_in (keys_at fs k.frames.depth) n)) s
    go (e ∷ es) d s = subst (λ n. StandFor (region_of_key k) (keys_at (named_frames k.frames) n) e.names) (sym d) s.0

-- the region of Global's key
pub global_at : (k : Holding) → slot_if (entry_at k global_key) ≡ Some k.slots → region_of_key k global_key ≡ Some GlobalRegion
global_at k is = go (entry_at k global_key) refl is
  where
    go : (o : Option Entry) → entry_at k global_key ≡ o → slot_if o ≡ Some k.slots → region_of_key k global_key ≡ Some GlobalRegion
    go None at e = absurd (none-some k.slots e)
    go (Some x) at e =
        ap (option_map (entry_region k.slots)) at ∙ ap (λ (s : ℕ). Some (region_of k.slots s)) (same_Some x.slot k.slots e)
        ∙ ap (λ b. Some (if b then GlobalRegion else Numbered k.slots)) (nat_eq_refl k.slots)

pub head_same : {A : Type 0} {x y : A} {xs ys : List A} → x ∷ xs ≡ y ∷ ys → x ≡ y
head_same e = cc

pub tail_same : {A : Type 0} {x y : A} {xs ys : List A} → x ∷ xs ≡ y ∷ ys → xs ≡ ys
tail_same e = cc

-- what is passed, by keys and by regions
pub given_stand : (region : Key → Option Region) (formals : List Class) (keys : List (Option Key)) (given : List (Option Region))
    → map (option_map region) keys ≡ map (option_map Some) given → (n : ℕ)
    → option_map region (key_for formals keys n) ≡ option_map Some (bound (passed formals given) n)
given_stand region [] keys given e n = refl
given_stand region (f ∷ formals) [] (r ∷ given) e n = cc
given_stand region (f ∷ formals) (key ∷ keys) [] e n = cc
given_stand region (NoClass ∷ formals) [] [] e n = refl
given_stand region (GlobalClass ∷ formals) [] [] e n = refl
given_stand region (Name k ∷ formals) [] [] e n = refl
given_stand region (NoClass ∷ formals) (key ∷ keys) (r ∷ given) e n = given_stand region formals keys given (tail_same e) n
given_stand region (GlobalClass ∷ formals) (key ∷ keys) (r ∷ given) e n = given_stand region formals keys given (tail_same e) n
given_stand region (Name k ∷ formals) (key ∷ keys) (r ∷ given) e n =
    go key r (head_same e) (given_stand region formals keys given (tail_same e) n)
  where
    test : (b : Bool) (key : Key) (r : Region) (x : Option Key) (y : Option Region) → region key ≡ Some r
        → option_map region x ≡ option_map Some y
        → option_map region (if b then Some key else x) ≡ option_map Some (if b then Some r else y)
    test true key r x y is rest = ap Some is
    test false key r x y is rest = rest

    go : (a : Option Key) (b : Option Region) → option_map region a ≡ option_map Some b
        → option_map region (key_for formals keys n) ≡ option_map Some (bound (passed formals given) n)
        → option_map region (key_for (Name k ∷ formals) (a ∷ keys) n)
        ≡ option_map Some (bound (passed (Name k ∷ formals) (b ∷ given)) n)
    go None None e rest = rest
    go None (Some r) e rest = cc
    go (Some key) None e rest = cc
    go (Some key) (Some r) e rest =
        test (nat_eq k n) key r (key_for formals keys n) (bound (passed formals given) n)
        (same_Some (region key) (Some r) e) rest

module _ (region : Key → Option Region) (global : region global_key ≡ Some GlobalRegion) where
  class_stand : (keys : Keys) (names : Bindings) → StandFor region keys names → (c : Class)
      → option_map region (class_key keys c) ≡ option_map Some (class_region names c)
  class_stand keys names h NoClass = refl
  class_stand keys names h GlobalClass = ap Some global
  class_stand keys names h (Name k) = h k

  class_all : (keys : Keys) (names : Bindings) → StandFor region keys names → (passes : List Class)
      → map (option_map region) (map (class_key keys) passes) ≡ map (option_map Some) (passed_regions names passes)
  class_all keys names h [] = refl
  class_all keys names h (c ∷ passes) = λ i. class_stand keys names h c i ∷ class_all keys names h passes i

  pub passed_stand : (formals passes : List Class) (keys callee : Keys) (names : Bindings) → StandFor region keys names
      → ((n : ℕ) → key_in callee n ≡ key_for formals (map (class_key keys) passes) n)
      → StandFor region callee (passed formals (passed_regions names passes))
  passed_stand formals passes keys callee names h is n =
      ap (option_map region) (is n)
      ∙ given_stand region formals (map (class_key keys) passes) (passed_regions names passes) (class_all keys names h passes) n

pub enter_shows : (k : Holding) (f g : Frames) (formals passes : List Class) (protects : List ℕ) (lent : Class)
    → IsPrepared k formals passes
    → Changed k.frames f (λ keys. cleared_keys keys (given_names lent formals passes protects)) → NamedFrameEnters f g k.callee.items
    → (slots : ℕ) (h : Holder) (fills : List Fill) → IsHoldingOf slots k h fills
    → IsHoldingOf slots (record k { frames = g }) (calling h lent formals passes protects) fills
enter_shows k f g formals passes protects lent prepared changed enters slots h fills shows =
    moved (record k { frames = f }) g slots left
    (environment_of lent (passed formals (passed_regions (top_names h.environments) passes)) ∷ left) h.base h.pending
    h.stakes fills after (enters.depth ∙ (let d = after.depth in omega (arith, d))) (enters.ordered after.ordered)
    (subst (λ l. NamesStand (region_of_key k) l (called ∷ left))
    (sym (enters.named ∙ ap (λ n. with_named n k.callee.items (named_frames f)) (let d = after.depth in omega (arith, d))))
    (entered (region_of_key k) (named_frames f) k.callee.items called left
    (passed_stand (region_of_key k) (global_at k shows.differ.global) formals passes (newest_keys k.frames) k.callee.items
    (top_names h.environments) (newest_stand k slots h fills shows) prepared.keys)
    after.names))
    (λ r. omega arith)
  where
    given : List ℕ
    given = given_names lent formals passes protects

    left : List RegionEnvironment
    left = with_top h.environments (without_all (top_names h.environments) (given_names lent formals passes protects))

    called : RegionEnvironment
    called = environment_of lent (passed formals (passed_regions (top_names h.environments) passes))

    after : HoldingShows slots (record k { frames = f })
        (with_top h.environments (without_all (top_names h.environments) (given_names lent formals passes protects)))
        h.base h.pending h.stakes fills
    after = renamed_shows k f slots h fills shows (λ keys. cleared_keys keys (given_names lent formals passes protects))
        (λ bs. without_all bs (given_names lent formals passes protects)) changed (cleared_nil (given_names lent formals passes protects))
        (λ bs s. stand_cleared (region_of_key k) (given_names lent formals passes protects) (newest_keys k.frames) bs s)
      where
        cleared_nil : (ks : List ℕ) → cleared_keys [] ks ≡ []
        cleared_nil [] = refl
        cleared_nil (n ∷ ks) = cleared_nil ks
