-- What a goroutine that is about to start comes to know. Learning a region adds one entry, whose slot no other entry has. The order is
-- that of the code: all regions, then the base, then the names.
use Rattle.std.proofs.Common.{◌≡◌, ◌≢◌, ◌⊎◌, ◌<◌, ◌+◌, ℕ, zero, suc, Bool, true, false, List, [], ◌∷◌, ◌++◌, Option, Some, None, Vec, Global, ap, arith, get_or, if◌then◌else◌, inl, inr, length, map, nat_eq, option_map, refl, reverse, slice_set, subst, sym, take, ◌∙◌, true≢false, ◌||◌}
use Rattle.std.proofs.lemmas.List.{reverse-append, take_more}
use Rattle.std.proofs.lemmas.Option.{none-some, same_Some}
use Rattle.std.specs.List.{AllByRecursion, list_any}
use Rattle.rgo_core_memory.specs.Records.{Fill}
use Rattle.rgo_sound.specs.RegionMachine.Owed.{passed, passed_regions, stands_in, twice}
use Rattle.rgo_sound.specs.RegionMachine.Regions.{Bindings, bound, class_region, same_region}
use Rattle.rgo_sound.specs.RegionMachine.States.{Holder, NoOffer, environment_of, top_names}
use Rattle.rgo_sound.specs.RegionMachine.declared.regions.Region.{Region}
use Rattle.rgo_sound.specs.RegionMachine.declared.regions.Region.TheVariants.{Global as GlobalRegion, Numbered}
use Rattle.rgo_sound.proofs.Tests.{eq_of, nat_eq_refl, or_there, split}
use Rattle.rgo_sound.specs.Invariant.{times}
use Rattle.rgo_sound.specs.Stakes.{is_in, one_when}
use Rattle.rgo_sound.specs.Tac.declared.regions.Class.{Class}
use Rattle.rgo_sound.specs.Tac.declared.regions.Class.TheVariants.{NoClass, Global as GlobalClass, Name}
use Rattle.rgo_holding.specs.declared.entries.Entry.{Entry}
use Rattle.rgo_holding.specs.declared.frames.Frames.{Frames}
use Rattle.rgo_holding.specs.declared.holding.Holding.{Holding}
use Rattle.rgo_holding.specs.declared.keys.Key.{Key}
use Rattle.rgo_holding.specs.Changes.{IsSpareKey}
use Rattle.rgo_holding.specs.Entries.{new_entry}
use Rattle.rgo_holding.specs.Holds.{IsHoldingOf, HoldingShows, entry_at, region_of_key}
use Rattle.rgo_holding.specs.Known.{entry_of, entry_region, global_key, region_of}
use Rattle.rgo_holding.specs.Learning.{AreGiven, MayBeGiven, Learned, ShowsFresh, SlotsKnown, StillOf, Tracks}
use Rattle.rgo_holding.specs.Naming.{NamesFirst}
use Rattle.rgo_holding.specs.Passing.{AreRegionsPassed, ChildHoldingBegins, key_for}
use Rattle.rgo_holding.specs.Tables.{Keys, NamesStand, key_in, newest_keys}
use Rattle.rgo_holding.proofs.Calling.{given_stand, global_at, head_same, newest_stand, tail_same}
use Rattle.rgo_holding.proofs.Changing.{region_entry}
use Rattle.rgo_holding.proofs.Coming.{known_shows, new_region, no_entry, numbered_slot, puts_new, reshown, still_region}
use Rattle.rgo_holding.proofs.CountLemmas.{base_protections, one_other, one_same, region_numbered}
use Rattle.rgo_holding.proofs.EntryLemmas.{each_put, entry_there, slot_if}
use Rattle.rgo_holding.proofs.HoldLemmas.{entry_changed, slots_kept}
use Rattle.rgo_holding.proofs.Moving.{moved}
use Rattle.rgo_holding.proofs.Twice.{twice_stands}

region_slot_if : (slots : ℕ) (o : Option Entry) (s : ℕ) → slot_if o ≡ Some s → s ≢ slots
    → option_map (entry_region slots) o ≡ Some (Numbered s)
region_slot_if slots None s e n = absurd (none-some s e)
region_slot_if slots (Some x) s e n =
    ap (λ p. Some (region_of slots p)) (same_Some x.slot s e) ∙ ap Some (region_numbered slots s n)

-- the region of a known key
pub tracked : (k : Holding) (known : ℕ → Option Key) (s : ℕ) (a : Key) → Tracks k known → known s ≡ Some a → s ≢ k.slots
    → region_of_key k a ≡ Some (Numbered s)
tracked k known s a tracks at n = region_slot_if k.slots (entry_at k a) s (tracks.keys s a at) n

-- ---- one more region is learned

-- the memory for an entry is taken, then it is written
module _ (k : Holding) (v w : Vec Entry Global) (free : Vec Key Global) (key : Key) (slot : ℕ) (known after : ℕ → Option Key)
    (same : (j : Key) → entry_of v.items j ≡ entry_at k j) (spare : IsSpareKey v.items key)
    (is : w.items ≡ slice_set v.items key.0 (new_entry slot)) (none : known slot ≡ None)
    (more : (s : ℕ) → after s ≡ (if nat_eq slot s then Some key else known s)) where
  abbrev first : Holding
  first = record k { entries = v; free = free }

  abbrev last : Holding
  last = record k { entries = w; free = free }

  pub learn_still : (j : Key) (r : Region) → region_of_key k j ≡ Some r → region_of_key last j ≡ Some r
  learn_still j r at = still_region first key w slot spare is j r (ap (option_map (entry_region k.slots)) (same j) ∙ at)

  pub learn_region : slot ≢ k.slots → region_of_key last key ≡ Some (Numbered slot)
  learn_region other = new_region first key w slot spare is other

  -- no key in use has the slot
  unknown : Tracks k known → slot ≢ k.slots → (a : Key) (x : Entry) → entry_at k a ≡ Some x → x.slot ≢ slot
  unknown tracks other a x at e = go (tracks.entries a x at)
    where
      go : (x.slot ≡ k.slots) ⊎ (known x.slot ≡ Some a) → ⊥
      go (inl y) = other (sym e ∙ y)
      go (inr y) = none-some a (sym none ∙ ap known (sym e) ∙ y)

  pub learn_shows : (slots : ℕ) (stakes : List ℕ) → Tracks k known → ShowsFresh slots k [] stakes → slot ≢ slots
      → is_in slot stakes ≡ true → ShowsFresh slots last [] stakes
  learn_shows slots stakes tracks shows apart staked e names protections =
      let h = shows e names protections in
      let other : slot ≢ k.slots = λ x. apart (x ∙ h.slots_are) in
      known_shows first key w slot spare is slots (e ∷ []) [] [] stakes stakes [] k.next
      (reshown k v free k.next k.passed k.callee slots (e ∷ []) [] [] stakes [] same h) other
      (λ a x at. unknown tracks other a x (sym (same a) ∙ at))
      (let z : times (Numbered slot) e.protections ≡ 0 = ap (times (Numbered slot)) protections in omega (arith, z)) refl refl staked (λ s at. at)

  slot_after : (j : Key) → slot_if (entry_at last j) ≡ slot_if (if nat_eq key.0 j.0 then Some (new_entry slot) else entry_at k j)
  slot_after j = ap slot_if (puts_new first key w slot spare is j
      ∙ ap (λ o. if nat_eq key.0 j.0 then Some (new_entry slot) else o) (same j))

  pub learn_tracks : Tracks k known → Tracks last after
  learn_tracks tracks = record {
    keys = λ s a at. split (nat_eq slot s)
        (λ t.
        let is_key = same_Some key a (sym (more s ∙ ap (λ b. if b then Some key else known s) t) ∙ at) in
        ap (λ j. slot_if (entry_at last j)) (sym is_key) ∙ slot_after key
        ∙ ap (λ b. slot_if (if b then Some (new_entry slot) else entry_at k key)) (nat_eq_refl key.0)
        ∙ ap Some (eq_of slot s t))
        (λ n. old a s (tracks.keys s a (sym (more s ∙ ap (λ b. if b then Some key else known s) n) ∙ at)));
    entries = each_put (entry_at first) (entry_at last) key (Some (new_entry slot)) (puts_new first key w slot spare is)
        (λ a x. (x.slot ≡ k.slots) ⊎ (after x.slot ≡ Some a))
        (λ f at. inr (ap after (ap (λ (x : Entry). x.slot) (sym (same_Some (new_entry slot) f at)))
        ∙ more slot ∙ ap (λ b. if b then Some key else known slot) (nat_eq_refl slot)))
        (λ a x n at. others a x (tracks.entries a x (sym (same a) ∙ at)));
  }
    where
      -- a key that had this slot still has it
      old : (a : Key) (s : ℕ) → slot_if (entry_at k a) ≡ Some s → slot_if (entry_at last a) ≡ Some s
      old a s at = split (nat_eq key.0 a.0)
          (λ t. absurd (none-some s (sym (ap slot_if (gone a t)) ∙ at)))
          (λ n. slot_after a ∙ ap (λ b. slot_if (if b then Some (new_entry slot) else entry_at k a)) n ∙ at)
        where
          gone : (a : Key) → nat_eq key.0 a.0 ≡ true → entry_at k a ≡ None
          gone a t = sym (same a) ∙ ap (entry_at first) (λ i. record { 0 = sym (eq_of key.0 a.0 t) i })
              ∙ no_entry first key w slot spare is

      others : (a : Key) (x : Entry) → (x.slot ≡ k.slots) ⊎ (known x.slot ≡ Some a) → (x.slot ≡ k.slots) ⊎ (after x.slot ≡ Some a)
      others a x (inl e) = inl e
      others a x (inr e) = split (nat_eq slot x.slot)
          (λ t. absurd (none-some a (sym none ∙ ap known (eq_of slot x.slot t) ∙ e)))
          (λ n. inr (more x.slot ∙ ap (λ b. if b then Some key else known x.slot) n ∙ e))

-- ---- all that is given

-- keys of known regions stay good
pub keys_still : (before after : Key → Option Region) → ((key : Key) (r : Region) → before key ≡ Some r → after key ≡ Some r)
    → (keys : List (Option Key)) (given : List (Option Region))
    → map (option_map before) keys ≡ map (option_map Some) given → map (option_map after) keys ≡ map (option_map Some) given
keys_still before after still [] [] e = refl
keys_still before after still [] (r ∷ given) e = cc
keys_still before after still (key ∷ keys) [] e = cc
keys_still before after still (key ∷ keys) (r ∷ given) e = λ i.
    one key r (head e) i ∷ keys_still before after still keys given (tail e) i
  where
    head : option_map before key ∷ map (option_map before) keys ≡ option_map Some r ∷ map (option_map Some) given
        → option_map before key ≡ option_map Some r
    head e = cc

    tail : option_map before key ∷ map (option_map before) keys ≡ option_map Some r ∷ map (option_map Some) given
        → map (option_map before) keys ≡ map (option_map Some) given
    tail e = cc

    one : (key : Option Key) (r : Option Region) → option_map before key ≡ option_map Some r
        → option_map after key ≡ option_map Some r
    one None None e = refl
    one None (Some r) e = cc
    one (Some key) None e = cc
    one (Some key) (Some r) e = ap Some (still key r (same_Some (before key) (Some r) e))

pub map_push : {A B : Type 0} (f : A → B) (xs : List A) (x : A) → map f (xs ++ x ∷ []) ≡ map f xs ++ f x ∷ []
map_push f [] x = refl
map_push f (y ∷ xs) x = ap (λ ys. f y ∷ ys) (map_push f xs x)

pub all_at : {A : Type 0} (P : A → Type 0) (xs : List A) (i : ℕ) (d : A) → AllByRecursion P xs → i < length xs → P (get_or xs i d)
all_at P [] i d h l = absurd (omega (arith, l))
all_at P (x ∷ xs) zero d h l = h.0
all_at P (x ∷ xs) (suc i) d h l = all_at P xs i d h.1 (omega (arith, l))

-- one more of the regions is learned
pub learned_more : (slots : ℕ) (stakes : List ℕ) (k l : Holding) (known after : ℕ → Option Key) (keys others : List (Option Key))
    (given : List (Option Region)) (i : ℕ) (key : Option Key) (d : Option Region) → others ≡ keys ++ key ∷ []
    → i < length given → AreGiven slots stakes given
    → (Tracks k known → Tracks l after)
    → (Tracks k known → ShowsFresh slots k [] stakes → MayBeGiven slots stakes (get_or given i d) → ShowsFresh slots l [] stakes)
    → (Tracks k known → ShowsFresh slots k [] stakes → MayBeGiven slots stakes (get_or given i d)
    → option_map (region_of_key l) key ≡ option_map Some (get_or given i d))
    → StillOf k l → Learned slots stakes k known keys (take i given) → Learned slots stakes l after others (take (i + 1) given)
learned_more slots stakes k l known after keys others given i key d push in_range all tracks shows region still h =
    let one = all_at (MayBeGiven slots stakes) given i d all in_range in
    record {
      tracks = tracks h.tracks;
      shows = shows h.tracks h.shows one;
      keys_are =
          ap (map (option_map (region_of_key l))) push ∙ map_push (option_map (region_of_key l)) keys key
          ∙ (λ j. keys_still (region_of_key k) (region_of_key l) still keys (take i given) h.keys_are j ++ region h.tracks h.shows one j ∷ [])
          ∙ sym (map_push (option_map Some) (take i given) (get_or given i d))
          ∙ ap (map (option_map Some)) (sym (take_more given i d in_range));
    }

-- ---- the base

pub base_shows : (k : Holding) (key : Key) (e : Entry) (v : Vec Entry Global) (bases : Vec Key Global) (n : ℕ)
    → entry_at k key ≡ Some e → e.used ≡ true → v.items ≡ slice_set k.entries.items key.0 (record e { protections = n })
    → bases.items ≡ k.base.items ++ key ∷ [] → n ≡ e.protections + 1 → (slots : ℕ) (h : Holder) (fills : List Fill) (r : Region)
    → IsHoldingOf slots k h fills → region_of_key k key ≡ Some r
    → IsHoldingOf slots (record k { entries = v; base = bases }) (record h { base = r ∷ h.base }) fills
base_shows k key e v bases n at used is push more slots h fills r shows region =
    let q = λ (s : ℕ). region_of k.slots s in
    let same = region_entry k key e r at region in
    let one : one_when (same_region (q e.slot) r) ≡ 1 = ap (λ x. one_when (same_region x r)) same ∙ one_same r in
    let here = base_protections (q e.slot) r h.environments h.base in
    let was = shows.counted key e at in
    entry_changed k key e (record e { protections = n }) v at refl used is slots h.environments h.base h.pending h.stakes
    fills shows h.environments (r ∷ h.base) bases h.pending fills refl shows.names
    (ap (λ ks. map (region_of_key k) (reverse ks)) push ∙ ap (map (region_of_key k)) (reverse-append k.base.items (key ∷ []))
    ∙ (λ i. region i ∷ shows.base_is i))
    (omega (arith, more, one, here, was))
    (λ s n.
    let none : one_when (same_region (q s) r) ≡ 0 = ap (λ x. one_when (same_region (q s) x)) (sym same) ∙ one_other k.slots s e.slot n in
    let there = base_protections (q s) r h.environments h.base in
    omega (arith, none, there))
    (shows.pages key e at) (λ s n. refl) (shows.pending_are.shared key e at) (shows.pending_are.rounds key e at) (λ s n. refl)

pub base_tracks : (k : Holding) (key : Key) (e : Entry) (v : Vec Entry Global) (bases : Vec Key Global) (n : ℕ)
    → entry_at k key ≡ Some e → e.used ≡ true → v.items ≡ slice_set k.entries.items key.0 (record e { protections = n })
    → (known : ℕ → Option Key) → Tracks k known → Tracks (record k { entries = v; base = bases }) known
base_tracks k key e v bases n at used is known tracks =
    let same = slots_kept k key e (record e { protections = n }) v at refl used is in
    record {
      keys = λ s a there. same a ∙ tracks.keys s a there;
      entries = λ a x there. go a x (ap slot_if there) (same a);
    }
  where
    by : (a : Key) (s : ℕ) (o : Option Entry) → entry_at k a ≡ o → slot_if o ≡ Some s → (s ≡ k.slots) ⊎ (known s ≡ Some a)
    by a s None there e = absurd (none-some s e)
    by a s (Some y) there e =
        subst (λ p. (p ≡ k.slots) ⊎ (known p ≡ Some a)) (same_Some y.slot s e) (tracks.entries a y there)

    go : (a : Key) (x : Entry) → slot_if (entry_of v.items a) ≡ Some x.slot → slot_if (entry_of v.items a) ≡ slot_if (entry_at k a)
        → (x.slot ≡ k.slots) ⊎ (known x.slot ≡ Some a)
    go a x new same = by a x.slot (entry_at k a) refl (sym same ∙ new)

-- ---- regions given twice

-- a region that is given is known
given_known : (slots : ℕ) (stakes : List ℕ) (k : Holding) (known : ℕ → Option Key) → Tracks k known → k.slots ≡ slots
    → (keys : List (Option Key)) (given : List (Option Region)) → AreGiven slots stakes given
    → map (option_map (region_of_key k)) keys ≡ map (option_map Some) given → (p : ℕ) → stands_in (Numbered p) given ≡ true
    → (p ≢ slots) × (known p ≢ None)
given_known slots stakes k known tracks is keys [] all e p h = absurd (true≢false (sym h))
given_known slots stakes k known tracks is [] (r ∷ given) all e p h = cc
given_known slots stakes k known tracks is (key ∷ keys) (None ∷ given) all e p h =
    given_known slots stakes k known tracks is keys given all.1 (tail_same e) p h
given_known slots stakes k known tracks is (key ∷ keys) (Some GlobalRegion ∷ given) all e p h =
    given_known slots stakes k known tracks is keys given all.1 (tail_same e) p h
given_known slots stakes k known tracks is (key ∷ keys) (Some (Numbered q) ∷ given) all e p h =
    go (nat_eq p q) refl h (given_known slots stakes k known tracks is keys given all.1 (tail_same e) p)
  where
    by : (a : Key) (s : ℕ) → (s ≡ k.slots) ⊎ (known s ≡ Some a) → s ≡ q → s ≢ k.slots → known q ≢ None
    by a s (inl x) same other = absurd (other x)
    by a s (inr x) same other = λ none. none-some a (sym none ∙ ap known (sym same) ∙ x)

    found : (o : Option Key) → option_map (region_of_key k) o ≡ Some (Some (Numbered q)) → known q ≢ None
    found None e = absurd (none-some (Some (Numbered q)) e)
    found (Some a) e =
        let there = entry_there k.slots (entry_at k a) (Numbered q) (same_Some (region_of_key k a) (Some (Numbered q)) e) in
        let slot = numbered_slot k.slots there.0.slot q there.2 in
        by a there.0.slot (tracks.entries a there.0 there.1) slot.0 slot.1

    go : (b : Bool) → nat_eq p q ≡ b → (b || stands_in (Numbered p) given) ≡ true
        → (stands_in (Numbered p) given ≡ true → (p ≢ slots) × (known p ≢ None)) → (p ≢ slots) × (known p ≢ None)
    go true t h rest =
        subst (λ x. (x ≢ slots) × (known x ≢ None)) (sym (eq_of p q t)) (all.0.0, found key (head_same e))
    go false f h rest = rest h

-- a region that is given twice is known, too
pub twice_known : (slots : ℕ) (stakes : List ℕ) (k : Holding) (known : ℕ → Option Key) → Tracks k known → k.slots ≡ slots
    → (keys : List (Option Key)) (given : List (Option Region)) (found : List ℕ) → AreGiven slots stakes given
    → map (option_map (region_of_key k)) keys ≡ map (option_map Some) given → map Numbered (reverse found) ≡ twice given
    → SlotsKnown slots known found
twice_known slots stakes k known tracks is keys given found all e found_is =
    back found (each (reverse found) (λ p h. given_known slots stakes k known tracks is keys given all e p
    (twice_stands p given (ap (list_any (same_region (Numbered p))) (sym found_is) ∙ h))))
  where
    each : (ps : List ℕ) → ((p : ℕ) → list_any (same_region (Numbered p)) (map Numbered ps) ≡ true → (p ≢ slots) × (known p ≢ None))
        → SlotsKnown slots known ps
    each [] f = tt
    each (p ∷ ps) f = (
      f p (ap (λ b. b || list_any (same_region (Numbered p)) (map Numbered ps)) (nat_eq_refl p)),
      each ps (λ q h. f q (there q h)),
    )
      where
        there : (q : ℕ) → list_any (same_region (Numbered q)) (map Numbered ps) ≡ true
            → (nat_eq q p || list_any (same_region (Numbered q)) (map Numbered ps)) ≡ true
        there q h = or_there (nat_eq q p) (list_any (same_region (Numbered q)) (map Numbered ps)) h

    push : (ps : List ℕ) (p : ℕ) → SlotsKnown slots known (ps ++ p ∷ [])
        → SlotsKnown slots known ps × ((p ≢ slots) × (known p ≢ None))
    push [] p h = (tt, h.0)
    push (q ∷ ps) p h = let x = push ps p h.1 in ((h.0, x.0), x.1)

    back : (ps : List ℕ) → SlotsKnown slots known (reverse ps) → SlotsKnown slots known ps
    back [] h = tt
    back (p ∷ ps) h =
        let x = push (reverse ps) p (subst (SlotsKnown slots known) (reverse-append (p ∷ []) ps) h) in
        (x.1, back ps x.0)

-- ---- what is passed

-- a region that a name stands for does not have the slot of Global
name_apart : (k : Holding) (slots : ℕ) (h : Holder) (fills : List Fill) → IsHoldingOf slots k h fills → (n p : ℕ)
    → bound (top_names h.environments) n ≡ Some (Numbered p) → p ≢ slots
name_apart k slots h fills shows n p is = go (key_in (newest_keys k.frames) n)
    (newest_stand k slots h fills shows n ∙ ap (option_map Some) is)
  where
    go : (o : Option Key) → option_map (region_of_key k) o ≡ Some (Some (Numbered p)) → p ≢ slots
    go None e = absurd (none-some (Some (Numbered p)) e)
    go (Some key) e =
        let there = entry_there k.slots (entry_at k key) (Numbered p) (same_Some (region_of_key k key) (Some (Numbered p)) e) in
        let slot = numbered_slot k.slots there.0.slot p there.2 in
        λ x. slot.1 (slot.0 ∙ x ∙ sym shows.slots_are)

pub given_fit : (k : Holding) (slots : ℕ) (h : Holder) (fills : List Fill) → IsHoldingOf slots k h fills → (passes : List Class)
    → AreRegionsPassed h.pending (passed_regions (top_names h.environments) passes)
    → AreGiven slots h.pending (passed_regions (top_names h.environments) passes)
given_fit k slots h fills shows [] all = tt
given_fit k slots h fills shows (NoClass ∷ passes) all = (tt, given_fit k slots h fills shows passes all)
given_fit k slots h fills shows (GlobalClass ∷ passes) all = (tt, given_fit k slots h fills shows passes all)
given_fit k slots h fills shows (Name n ∷ passes) all =
    go (bound (top_names h.environments) n) refl all (given_fit k slots h fills shows passes)
  where
    rest : List (Option Region)
    rest = passed_regions (top_names h.environments) passes

    go : (o : Option Region) → bound (top_names h.environments) n ≡ o
        → AreRegionsPassed h.pending (o ∷ passed_regions (top_names h.environments) passes)
        → (AreRegionsPassed h.pending (passed_regions (top_names h.environments) passes)
        → AreGiven slots h.pending (passed_regions (top_names h.environments) passes))
        → MayBeGiven slots h.pending (bound (top_names h.environments) n)
        × AreGiven slots h.pending (passed_regions (top_names h.environments) passes)
    go None e all f = (subst (MayBeGiven slots h.pending) (sym e) tt, f all)
    go (Some GlobalRegion) e all f = (subst (MayBeGiven slots h.pending) (sym e) tt, f all)
    go (Some (Numbered p)) e all f =
        (subst (MayBeGiven slots h.pending) (sym e) (name_apart k slots h fills shows n p e, all.0), f all.1)

-- ---- the goroutine that is about to start

pub child_shows : (k : Holding) (f : Frames) (slots : ℕ) (pending : List ℕ) (formals : List Class) (given : List (Option Region))
    (base : List Region) (keys : List (Option Key)) (names : Keys) → ShowsFresh slots k base pending → base ≡ twice given
    → map (option_map (region_of_key k)) keys ≡ map (option_map Some) given
    → ((n : ℕ) → key_in names n ≡ key_for formals keys n) → k.frames.tables.items ≡ [] → NamesFirst k.frames f names
    → ChildHoldingBegins slots (record k { frames = f }) pending formals given
child_shows k f slots pending formals given base keys names fresh is keys_are passed_are none first result =
    subst (λ b. HoldingShows slots (record k { frames = f }) (environment_of result (passed formals given) ∷ []) b [] pending []) is
    (moved k f slots (environment_of result [] ∷ []) (environment_of result (passed formals given) ∷ []) base [] pending []
    shows (first.depth ∙ shows.depth) (first.ordered none)
    (subst (λ l. NamesStand (region_of_key k) l (environment_of result (passed formals given) ∷ [])) (sym (first.named none))
    (λ n. ap (option_map (region_of_key k)) (passed_are n) ∙ given_stand (region_of_key k) formals keys given keys_are n, refl))
    (λ r. refl))
  where
    shows : HoldingShows slots k (environment_of result [] ∷ []) base [] pending []
    shows = fresh (environment_of result []) refl refl

-- ---- steps of the loops

pub fresh_global : (k : Holding) (slots : ℕ) (base : List Region) (stakes : List ℕ) → ShowsFresh slots k base stakes
    → region_of_key k global_key ≡ Some GlobalRegion
fresh_global k slots base stakes fresh = global_at k (fresh (environment_of NoClass []) refl refl).differ.global

pub class_some : (region : Key → Option Region) (key : Key) (o : Option Key) (r : Option Region) → Some key ≡ o
    → option_map region o ≡ option_map Some r → (q : Region) × (region key ≡ Some q) × (r ≡ Some q)
class_some region key o None is e = absurd (none-some (region key) (sym (ap (option_map region) is ∙ e)))
class_some region key o (Some q) is e = (q, same_Some (region key) (Some q) (ap (option_map region) is ∙ e), refl)

pub class_none : (region : Key → Option Region) (o : Option Key) (r : Option Region) → None ≡ o
    → option_map region o ≡ option_map Some r → r ≡ None
class_none region o None is e = refl
class_none region o (Some q) is e = absurd (none-some (Some q) (ap (option_map region) is ∙ e))

pub regions_more : (names : Bindings) (passes : List Class) (i : ℕ) (d : Class) (regions others : List (Option Region))
    (r : Option Region) → others ≡ regions ++ r ∷ [] → i < length passes → regions ≡ passed_regions names (take i passes)
    → r ≡ class_region names (get_or passes i d) → others ≡ passed_regions names (take (i + 1) passes)
regions_more names passes i d regions others r push l old new =
    push ∙ (λ j. old j ++ new j ∷ []) ∙ sym (ap (passed_regions names) (take_more passes i d l)
    ∙ map_push (class_region names) (take i passes) (get_or passes i d))

pub bases_more : (slots : ℕ) (stakes : List ℕ) (k l : Holding) (known : ℕ → Option Key) (found : List ℕ) (i d : ℕ) (key : Key)
    → i < length found → Tracks k known → ShowsFresh slots k (map Numbered (reverse (take i found))) stakes
    → SlotsKnown slots known found → known (get_or found i d) ≡ Some key
    → ((slots : ℕ) (h : Holder) (fills : List Fill) (r : Region) → IsHoldingOf slots k h fills → region_of_key k key ≡ Some r
    → IsHoldingOf slots l (record h { base = r ∷ h.base }) fills)
    → ShowsFresh slots l (map Numbered (reverse (take (i + 1) found))) stakes
bases_more slots stakes k l known found i d key within tracks shows apart at adds e names protections =
    let h = shows e names protections in
    let other = slot_apart found i d within apart in
    subst (λ b. HoldingShows slots l (e ∷ []) b [] stakes [])
    (sym (ap (λ ps. map Numbered (reverse ps)) (take_more found i d within)
    ∙ ap (map Numbered) (reverse-append (take i found) (get_or found i d ∷ []))))
    (adds slots (record {
      stakes = stakes;
      pending = [];
      environments = e ∷ [];
      base = map Numbered (reverse (take i found));
      fills = [];
      reserved = 0;
      duties = [];
      offer = NoOffer;
    }) [] (Numbered (get_or found i d)) h
    (tracked k known (get_or found i d) key tracks at (λ x. other (x ∙ h.slots_are))))
  where
    slot_apart : (ps : List ℕ) (i d : ℕ) → i < length ps → SlotsKnown slots known ps → get_or ps i d ≢ slots
    slot_apart ps i d l h = (all_at (λ p. (p ≢ slots) × (known p ≢ None)) ps i d h l).0

-- nothing is known yet
pub tracks_none : (k : Holding) (known : ℕ → Option Key) → ((s : ℕ) → known s ≡ None) → Tracks k (λ s. None) → Tracks k known
tracks_none k known none h = record {
  keys = λ s a at. absurd (none-some a (sym (none s) ∙ at));
  entries = λ a x at. go a x (h.entries a x at);
}
  where
    go : (a : Key) (x : Entry) → (x.slot ≡ k.slots) ⊎ (None ≡ Some a) → (x.slot ≡ k.slots) ⊎ (known x.slot ≡ Some a)
    go a x (inl e) = inl e
    go a x (inr e) = absurd (none-some a e)
