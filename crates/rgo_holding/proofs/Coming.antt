-- What a goroutine has, as regions come and go. For a region that is left it has to be shown that no frame and no base has its key. For a
-- new one, that nothing is known of its slot, so its empty entry is right.
use Rattle.std.proofs.Common.{◌≡◌, ◌≢◌, ◌≤◌, ◌<◌, ℕ, Bool, true, false, ◌||◌, List, [], ◌∷◌, Option, Some, None, Vec, Global, ap, arith, if◌then◌else◌, length, map, nat_eq, option_map, refl, reverse, slice_set, subst, sym, true≢false, ◌∙◌}
use Rattle.std.proofs.lemmas.Option.{none-some, same_Some}
use Rattle.std.specs.List.{AllByRecursion, list_any}
use Rattle.rgo_core_memory.specs.Records.{Fill, dropped, page_of}
use Rattle.rgo_sound.specs.RegionMachine.Regions.{bound, same_region, unbind, without}
use Rattle.rgo_sound.specs.RegionMachine.States.{RegionEnvironment, Holder}
use Rattle.rgo_sound.specs.RegionMachine.declared.regions.Region.{Region}
use Rattle.rgo_sound.specs.RegionMachine.declared.regions.Region.TheVariants.{Global as GlobalRegion, Numbered}
use Rattle.rgo_sound.proofs.names.Core.{in_without}
use Rattle.rgo_sound.proofs.Tests.{nat_eq_refl, ne_of, split}
use Rattle.rgo_sound.specs.Stakes.{is_in}
use Rattle.rgo_holding.specs.declared.entries.Entry.{Entry}
use Rattle.rgo_holding.specs.declared.frames.Frames.{Frames}
use Rattle.rgo_holding.specs.declared.holding.Holding.{Holding}
use Rattle.rgo_holding.specs.declared.keys.Key.{Key}
use Rattle.rgo_holding.specs.Changes.{IsNewSlot, IsSpareKey, IsUnknown, creating, ending_stake}
use Rattle.rgo_holding.specs.Entries.{new_entry}
use Rattle.rgo_holding.specs.Holds.{IsHoldingOf, HoldingShows, entry_at, region_of_key}
use Rattle.rgo_holding.specs.Known.{entry_of, entry_region, global_key, if_used, own_page, protections_of, region_of}
use Rattle.rgo_holding.specs.Naming.{Changed}
use Rattle.rgo_holding.specs.Tables.{named_frames, newest_keys}
use Rattle.rgo_holding.proofs.Changing.{region_entry}
use Rattle.rgo_holding.proofs.CountLemmas.{guarded_base, page_dropped, region_numbered, same_self, unguarded_none}
use Rattle.rgo_holding.proofs.EntryLemmas.{Puts, apart, each_put, entry_there, map_same, put_entry, same_key, slot_if, used_entry}
use Rattle.rgo_holding.proofs.Moving.{renamed_shows}
use Rattle.rgo_holding.proofs.NameLemmas.{names_but, names_kept, names_same, stand_bound}

-- ---- what the entries do not show may change

pub reshown : (k : Holding) (v : Vec Entry Global) (free : Vec Key Global) (next : Option Key)
    (passed callee : Vec (Option Key) Global) (slots : ℕ) (es : List RegionEnvironment) (base : List Region)
    (pending stakes : List ℕ) (fills : List Fill) → ((j : Key) → entry_of v.items j ≡ entry_at k j)
    → HoldingShows slots k es base pending stakes fills
    → HoldingShows slots (record k { entries = v; free = free; next = next; passed = passed; callee = callee }) es base pending
    stakes fills
reshown k v free next passed callee slots es base pending stakes fills same h =
    let regions : (j : Key) → option_map (entry_region k.slots) (entry_of v.items j) ≡ region_of_key k j =
    λ j. ap (option_map (entry_region k.slots)) (same j) in
    record {
      slots_are = h.slots_are;
      depth = h.depth;
      ordered = h.ordered;
      names = names_same (region_of_key k) (λ j. option_map (entry_region k.slots) (entry_of v.items j)) regions (named_frames k.frames) es h.names;
      base_is = map_same (region_of_key k) (λ j. option_map (entry_region k.slots) (entry_of v.items j)) regions
          (reverse k.base.items) ∙ h.base_is;
      differ = record {
        unique = λ a b s x y. h.differ.unique a b s (sym (ap slot_if (same a)) ∙ x) (sym (ap slot_if (same b)) ∙ y);
        global = ap slot_if (same global_key) ∙ h.differ.global;
      };
      counted = λ a e at. h.counted a e (sym (same a) ∙ at);
      pages = λ a e at. h.pages a e (sym (same a) ∙ at);
      pending_are = record {
        shared = λ a e at. h.pending_are.shared a e (sym (same a) ∙ at);
        rounds = λ a e at. h.pending_are.rounds a e (sym (same a) ∙ at);
        positive = h.pending_are.positive;
      };
      staked = λ a e at. h.staked a e (sym (same a) ∙ at);
    }

-- ---- a region is left

pub numbered_slot : (slots s p : ℕ) → region_of slots s ≡ Numbered p → (s ≡ p) × (s ≢ slots)
numbered_slot slots s p e = go (nat_eq s slots) refl e
  where
    go : (b : Bool) → nat_eq s slots ≡ b → (if b then GlobalRegion else Numbered s) ≡ Numbered p → (s ≡ p) × (s ≢ slots)
    go true t e = cc
    go false f e = (cc, λ x. true≢false (sym (ap (nat_eq s) (sym x) ∙ nat_eq_refl s) ∙ f))

-- a base without this region has the same keys
base_but : (before after : Key → Option Region) (gone : Region)
    → ((key : Key) (r : Region) → before key ≡ Some r → r ≢ gone → after key ≡ Some r) → (keys : List Key) (base : List Region)
    → list_any (same_region gone) base ≡ false → map before keys ≡ map Some base → map after keys ≡ map Some base
base_but before after gone keep [] [] none is = refl
base_but before after gone keep [] (r ∷ base) none is = cc
base_but before after gone keep (key ∷ keys) [] none is = cc
base_but before after gone keep (key ∷ keys) (r ∷ base) none is = λ i.
    here (same_region gone r) refl none i ∷ base_but before after gone keep keys base
    (rest (same_region gone r) (list_any (same_region gone) base) none) (tail is) i
  where
    head : before key ∷ map before keys ≡ Some r ∷ map Some base → before key ≡ Some r
    head e = cc

    tail : before key ∷ map before keys ≡ Some r ∷ map Some base → map before keys ≡ map Some base
    tail e = cc

    rest : (a b : Bool) → (a || b) ≡ false → b ≡ false
    rest true b e = absurd (true≢false e)
    rest false b e = e

    here : (a : Bool) → same_region gone r ≡ a → (a || list_any (same_region gone) base) ≡ false → after key ≡ Some r
    here true t e = absurd (true≢false e)
    here false f e = keep key r (head is)
        (λ x. true≢false (sym (ap (same_region gone) x ∙ same_self gone) ∙ f))

pub leave_shows : (k : Holding) (key : Key) (e : Entry) (v : Vec Entry Global) (free : Vec Key Global)
    → entry_at k key ≡ Some e → v.items ≡ slice_set k.entries.items key.0 (record e { used = false })
    → (slots : ℕ) (h : Holder) (fills : List Fill) (p : ℕ) → IsHoldingOf slots k h fills → region_of_key k key ≡ Some (Numbered p)
    → IsUnknown h p → IsHoldingOf slots (record k { entries = v; free = free }) (ending_stake h p) (dropped p fills)
leave_shows k key e v free at is slots h fills p shows region unknown = record {
  slots_are = shows.slots_are;
  depth = shows.depth;
  ordered = shows.ordered;
  names = names_but (region_of_key k) regions (Numbered p) keep (named_frames k.frames) h.environments unknown.unnamed shows.names;
  base_is = base_but (region_of_key k) regions (Numbered p) keep (reverse k.base.items) h.base
      (guarded_base h.base h.environments (Numbered p) unknown.unguarded) shows.base_is;
  differ = record {
    unique = λ a b s x y. shows.differ.unique a b s (was a s x) (was b s y);
    global = other global_key
        (λ t. slot.1 (same_Some e.slot k.slots (sym (ap slot_if (ap (entry_at k) (sym (same_key key global_key t)) ∙ at))
        ∙ shows.differ.global)))
        (λ o. slot_if o ≡ Some k.slots) shows.differ.global;
  };
  counted = each (λ x. x.protections ≡ protections_of (region_of k.slots x.slot) h.environments h.base)
      (λ a x n old. shows.counted a x old);
  pages = each (λ x. option_map (own_page x.slot) x.page ≡ page_of x.slot (dropped p fills))
      (λ a x n old. shows.pages a x old ∙ sym (page_dropped x.slot p fills (ne_of p x.slot (λ e. n (sym e)))));
  pending_are = record {
    shared = each (λ x. x.slot ≢ k.slots → nat_eq x.shared k.round ≡ list_any (nat_eq x.slot) h.pending)
        (λ a x n old. shows.pending_are.shared a x old);
    rounds = each (λ x. x.shared ≤ k.round) (λ a x n old. shows.pending_are.rounds a x old);
    positive = shows.pending_are.positive;
  };
  staked = each (λ x. x.slot ≢ k.slots → is_in x.slot (without p h.stakes) ≡ true)
      (λ a x n old apart. in_without p x.slot h.stakes (ne_of p x.slot (λ e. n (sym e))) ∙ shows.staked a x old apart);
}
  where
    after : Key → Option Entry
    after j = entry_of v.items j

    regions : Key → Option Region
    regions j = option_map (entry_region k.slots) (entry_of v.items j)

    slot : (e.slot ≡ p) × (e.slot ≢ k.slots)
    slot = numbered_slot k.slots e.slot p (region_entry k key e (Numbered p) at region)

    puts : Puts (entry_at k) (λ j. entry_of v.items j) key None
    puts j = ap (λ es. entry_of es j) is ∙ put_entry k.entries.items key e (record e { used = false })
        (used_entry k.entries.items key e at).0 j

    -- a key that is not this one has what it had
    other : (j : Key) → (nat_eq key.0 j.0 ≡ true → ⊥) → (P : Option Entry → Type 0) → P (entry_at k j) → P (entry_of v.items j)
    other j n P old = split (nat_eq key.0 j.0) (λ t. absurd (n t))
        (λ f. subst P (sym (puts j ∙ ap (λ b. if b then None else entry_at k j) f)) old)

    was : (a : Key) (s : ℕ) → slot_if (entry_of v.items a) ≡ Some s → slot_if (entry_at k a) ≡ Some s
    was a s x = split (nat_eq key.0 a.0)
        (λ t. absurd (none-some s (sym (ap slot_if (puts a ∙ ap (λ b. if b then None else entry_at k a) t)) ∙ x)))
        (λ f. sym (ap slot_if (puts a ∙ ap (λ b. if b then None else entry_at k a) f)) ∙ x)

    each : (P : Entry → Type 0) → ((a : Key) (x : Entry) → x.slot ≢ p → entry_at k a ≡ Some x → P x)
        → (a : Key) (x : Entry) → entry_of v.items a ≡ Some x → P x
    each P there = each_put (entry_at k) (λ j. entry_of v.items j) key None puts (λ a x. P x)
        (λ f none. absurd (none-some f none))
        (λ a x n old. there a x (λ e'. apart (entry_at k) k.slots shows.differ key a e x at old n (e' ∙ sym slot.0)) old)

    keep : (j : Key) (r : Region) → region_of_key k j ≡ Some r → r ≢ Numbered p
        → option_map (entry_region k.slots) (entry_of v.items j) ≡ Some r
    keep j r there n = other j
        (λ t. n (same_Some r (Numbered p) (sym there ∙ ap (region_of_key k) (sym (same_key key j t)) ∙ region)))
        (λ o. option_map (entry_region k.slots) o ≡ Some r) there

-- ---- a region is created

module _ (k : Holding) (key : Key) (v : Vec Entry Global) (slot : ℕ) (spare : IsSpareKey k.entries.items key)
    (is : v.items ≡ slice_set k.entries.items key.0 (new_entry slot)) where
  pub no_entry : entry_at k key ≡ None
  no_entry = ap if_used spare.1 ∙ ap (λ b. if b then Some spare.0 else None) spare.2

  pub puts_new : Puts (entry_at k) (λ j. entry_of v.items j) key (Some (new_entry slot))
  puts_new j = ap (λ es. entry_of es j) is ∙ put_entry k.entries.items key spare.0 (new_entry slot) spare.1 j

  new_here : entry_of v.items key ≡ Some (new_entry slot)
  new_here = puts_new key ∙ ap (λ b. if b then Some (new_entry slot) else entry_at k key) (nat_eq_refl key.0)

  -- a key that was in use has the entry that it had
  pub still : (j : Key) (e : Entry) → entry_at k j ≡ Some e → entry_of v.items j ≡ Some e
  still j e at = split (nat_eq key.0 j.0)
      (λ t. absurd (none-some e (sym no_entry ∙ ap (entry_at k) (same_key key j t) ∙ at)))
      (λ f. puts_new j ∙ ap (λ b. if b then Some (new_entry slot) else entry_at k j) f ∙ at)

  pub still_region : (j : Key) (r : Region) → region_of_key k j ≡ Some r
      → option_map (entry_region k.slots) (entry_of v.items j) ≡ Some r
  still_region j r at =
      let there = entry_there k.slots (entry_at k j) r at in
      ap (option_map (entry_region k.slots)) (still j there.0 there.1) ∙ ap Some there.2

  pub new_region : slot ≢ k.slots → option_map (entry_region k.slots) (entry_of v.items key) ≡ Some (Numbered slot)
  new_region other = ap (option_map (entry_region k.slots)) new_here ∙ ap Some (region_numbered k.slots slot other)

  -- its region becomes known, of which nothing was
  pub known_shows : (slots : ℕ) (es : List RegionEnvironment) (base : List Region) (pending old stakes : List ℕ) (fills : List Fill)
      (next : Option Key) → HoldingShows slots k es base pending old fills → slot ≢ k.slots
      → ((a : Key) (x : Entry) → entry_at k a ≡ Some x → x.slot ≢ slot)
      → protections_of (Numbered slot) es base ≡ 0 → list_any (nat_eq slot) pending ≡ false → page_of slot fills ≡ None
      → is_in slot stakes ≡ true → ((s : ℕ) → is_in s old ≡ true → is_in s stakes ≡ true)
      → HoldingShows slots (record k { entries = v; next = next }) es base pending stakes fills
  known_shows slots es base pending old stakes fills next shows other fresh unguarded unshared no_page staked more = record {
    slots_are = shows.slots_are;
    depth = shows.depth;
    ordered = shows.ordered;
    names = names_kept (region_of_key k) (λ j. option_map (entry_region k.slots) (entry_of v.items j)) (λ r. Unit {0})
        (λ j r at u. still_region j r at) (named_frames k.frames) es (every es) shows.names;
    base_is = base_still (reverse k.base.items) base shows.base_is;
    differ = record { unique = unique; global = global };
    counted = each (λ x. x.protections ≡ protections_of (region_of k.slots x.slot) es base)
        (sym (ap (λ r. protections_of r es base) (region_numbered k.slots slot other) ∙ unguarded)) shows.counted;
    pages = each (λ x. option_map (own_page x.slot) x.page ≡ page_of x.slot fills) (sym no_page) shows.pages;
    pending_are = record {
      shared = each (λ x. x.slot ≢ k.slots → nat_eq x.shared k.round ≡ list_any (nat_eq x.slot) pending)
          (λ n. ne_of 0 k.round (λ e. omega (arith, e, shows.pending_are.positive)) ∙ sym unshared)
          shows.pending_are.shared;
      rounds = each (λ x. x.shared ≤ k.round) (omega arith) shows.pending_are.rounds;
      positive = shows.pending_are.positive;
    };
    staked = each (λ x. x.slot ≢ k.slots → is_in x.slot stakes ≡ true) (λ n. staked)
        (λ a x at n. more x.slot (shows.staked a x at n));
  }
    where
      each : (P : Entry → Type 0) → P (new_entry slot) → ((a : Key) (x : Entry) → entry_at k a ≡ Some x → P x)
          → (a : Key) (x : Entry) → entry_of v.items a ≡ Some x → P x
      each P here there = each_put (entry_at k) (λ j. entry_of v.items j) key (Some (new_entry slot)) puts_new (λ a x. P x)
          (λ f same. subst P (same_Some (new_entry slot) f same) here) (λ a x n old. there a x old)

      every : (es : List RegionEnvironment)
          → AllByRecursion (λ (e : RegionEnvironment). (n : ℕ) (r : Region) → bound e.names n ≡ Some r → Unit {0}) es
      every [] = tt
      every (e ∷ es) = (λ n r b. tt, every es)

      base_still : (keys : List Key) (base : List Region) → map (region_of_key k) keys ≡ map Some base
          → map (λ j. option_map (entry_region k.slots) (entry_of v.items j)) keys ≡ map Some base
      base_still [] [] e = refl
      base_still [] (r ∷ base) e = cc
      base_still (j ∷ keys) [] e = cc
      base_still (j ∷ keys) (r ∷ base) e = λ i. still_region j r (head e) i ∷ base_still keys base (tail e) i
        where
          head : region_of_key k j ∷ map (region_of_key k) keys ≡ Some r ∷ map Some base → region_of_key k j ≡ Some r
          head e = cc

          tail : region_of_key k j ∷ map (region_of_key k) keys ≡ Some r ∷ map Some base → map (region_of_key k) keys ≡ map Some base
          tail e = cc

      before : (a : Key) (s : ℕ) → nat_eq key.0 a.0 ≡ false → slot_if (entry_of v.items a) ≡ Some s → slot_if (entry_at k a) ≡ Some s
      before a s n x = sym (ap slot_if (puts_new a ∙ ap (λ b. if b then Some (new_entry slot) else entry_at k a) n)) ∙ x

      here_is : (a : Key) (s : ℕ) → nat_eq key.0 a.0 ≡ true → slot_if (entry_of v.items a) ≡ Some s → slot ≡ s
      here_is a s t x = same_Some slot s
          (sym (ap slot_if (puts_new a ∙ ap (λ b. if b then Some (new_entry slot) else entry_at k a) t)) ∙ x)

      apart_from : (a : Key) (s : ℕ) → slot_if (entry_at k a) ≡ Some s → s ≢ slot
      apart_from a s x e = go (entry_at k a) refl x
        where
          go : (o : Option Entry) → entry_at k a ≡ o → slot_if o ≡ Some s → ⊥
          go None at y = none-some s y
          go (Some x) at y = fresh a x at (same_Some x.slot s y ∙ e)

      unique : (a b : Key) (s : ℕ) → slot_if (entry_of v.items a) ≡ Some s → slot_if (entry_of v.items b) ≡ Some s → a ≡ b
      unique a b s x y = split (nat_eq key.0 a.0)
          (λ t. split (nat_eq key.0 b.0)
          (λ u. sym (same_key key a t) ∙ same_key key b u)
          (λ n. absurd (apart_from b s (before b s n y) (sym (here_is a s t x)))))
          (λ m. split (nat_eq key.0 b.0)
          (λ u. absurd (apart_from a s (before a s m x) (sym (here_is b s u y))))
          (λ n. shows.differ.unique a b s (before a s m x) (before b s n y)))

      global : slot_if (entry_of v.items global_key) ≡ Some k.slots
      global = go (entry_at k global_key) refl shows.differ.global
        where
          go : (o : Option Entry) → entry_at k global_key ≡ o → slot_if o ≡ Some k.slots
              → slot_if (entry_of v.items global_key) ≡ Some k.slots
          go None at y = absurd (none-some k.slots y)
          go (Some x) at y = ap slot_if (still global_key x at) ∙ y

pub create_shows : (k : Holding) (key : Key) (v : Vec Entry Global) (f : Frames) (name slot : ℕ) → IsSpareKey k.entries.items key
    → v.items ≡ slice_set k.entries.items key.0 (new_entry slot) → name < length (newest_keys k.frames)
    → (slots : ℕ) (h : Holder) (fills : List Fill) → IsHoldingOf slots k h fills → IsNewSlot slots h fills slot
    → Changed k.frames f (λ keys. slice_set keys name (Some key))
    → IsHoldingOf slots (record k { frames = f; entries = v; next = None }) (creating h name slot) fills
create_shows k key v f name slot spare is room slots h fills shows new changed =
    renamed_shows (record k { entries = v; next = None }) f slots (record h { stakes = slot ∷ h.stakes }) fills
    (known_shows k key v slot spare is slots h.environments h.base h.pending h.stakes (slot ∷ h.stakes) fills None shows
    other fresh (unguarded_none h.base h.environments (Numbered slot) new.unguarded) new.unshared new.no_page
    (ap (λ b. if b then true else is_in slot h.stakes) (nat_eq_refl slot))
    (λ s at. go (nat_eq s slot) (is_in s h.stakes) at))
    (λ keys. slice_set keys name (Some key)) (λ bs. (name, Numbered slot) ∷ unbind bs name) changed refl
    (λ bs s. stand_bound (region_of_key (record k { entries = v; next = None })) (newest_keys k.frames) bs name key (Numbered slot) room
    (new_region k key v slot spare is other) s)
  where
    other : slot ≢ k.slots
    other e = new.other (e ∙ shows.slots_are)

    -- no key in use has the slot
    fresh : (a : Key) (x : Entry) → entry_at k a ≡ Some x → x.slot ≢ slot
    fresh a x at e = true≢false (sym (subst (λ s. s ≢ k.slots → is_in s h.stakes ≡ true) e (shows.staked a x at) other)
        ∙ new.unstaked)

    go : (a b : Bool) → b ≡ true → (if a then true else b) ≡ true
    go true b e = refl
    go false b e = e
