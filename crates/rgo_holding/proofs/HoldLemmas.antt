-- What a goroutine has is still shown after the entry of one region has changed: its slot stays, so keys and names mean what they meant.
use Rattle.std.proofs.Common.{◌≡◌, ◌≢◌, ◌≤◌, ℕ, true, List, [], ◌∷◌, Option, Some, None, Vec, Global, ap, if◌then◌else◌, length, map, nat_eq, option_map, refl, reverse, slice_set, subst, sym, ◌∙◌}
use Rattle.std.specs.List.{list_any}
use Rattle.rgo_core_memory.specs.Records.{Fill, page_of}
use Rattle.rgo_sound.specs.RegionMachine.Duties.{with_protection, without_protection}
use Rattle.rgo_sound.specs.RegionMachine.States.{RegionEnvironment}
use Rattle.rgo_sound.specs.RegionMachine.declared.regions.Region.{Region}
use Rattle.rgo_sound.specs.Stakes.{is_in}
use Rattle.rgo_holding.specs.declared.entries.Entry.{Entry}
use Rattle.rgo_holding.specs.declared.holding.Holding.{Holding}
use Rattle.rgo_holding.specs.declared.keys.Key.{Key}
use Rattle.rgo_holding.specs.Holds.{HoldingShows, entry_at, region_of_key}
use Rattle.rgo_holding.specs.Known.{entry_of, entry_region, own_page, protections_of, region_of}
use Rattle.rgo_holding.specs.Tables.{NamesStand, named_frames}
use Rattle.rgo_holding.proofs.EntryLemmas.{Puts, apart, differ_same, each_put, map_same, put_entry, regions_same, slot_if, slots_put, used_entry}
use Rattle.rgo_holding.proofs.NameLemmas.{names_same}

module _ (k : Holding) (key : Key) (e f : Entry) (v : Vec Entry Global) (at : entry_at k key ≡ Some e)
    (slot : f.slot ≡ e.slot) (used : f.used ≡ true) (is : v.items ≡ slice_set k.entries.items key.0 f) where
  abbrev after : Key → Option Entry
  after j = entry_of v.items j

  pub puts : Puts (entry_at k) after key (Some f)
  puts j =
      ap (λ es. entry_of es j) is ∙ put_entry k.entries.items key e f (used_entry k.entries.items key e at).0 j
      ∙ ap (λ o. if nat_eq key.0 j.0 then o else entry_at k j) (ap (λ b. if b then Some f else None) used)

  pub slots_kept : (j : Key) → slot_if (after j) ≡ slot_if (entry_at k j)
  slots_kept = slots_put (entry_at k) after key e f puts at slot

  -- each key is that of the same region
  pub regions_kept : (j : Key) → option_map (entry_region k.slots) (after j) ≡ region_of_key k j
  regions_kept = regions_same (entry_at k) after k.slots slots_kept

  module _ (slots : ℕ) (es : List RegionEnvironment) (base : List Region) (pending : List ℕ) (stakes : List ℕ)
      (fills : List Fill) (h : HoldingShows slots k es base pending stakes fills) where
    -- each other entry
    other : (P : Key → Entry → Type 0) → P key f
        → ((a : Key) (x : Entry) → x.slot ≢ e.slot → entry_at k a ≡ Some x → P a x)
        → (a : Key) (x : Entry) → after a ≡ Some x → P a x
    other P here there = each_put (entry_at k) after key (Some f) puts P
        (λ x same. subst (P key) (the_same f x same) here)
        (λ a x n old. there a x (apart (entry_at k) k.slots h.differ key a e x at old n) old)
      where
        the_same : (x y : Entry) → Some x ≡ Some y → x ≡ y
        the_same x y e = cc

    pub entry_changed : (environments : List RegionEnvironment) (regions : List Region) (bases : Vec Key Global)
        (pendings : List ℕ) (filleds : List Fill)
        → length environments ≡ length es
        → NamesStand (region_of_key k) (named_frames k.frames) environments
        → map (region_of_key k) (reverse bases.items) ≡ map Some regions
        → f.protections ≡ protections_of (region_of k.slots e.slot) environments regions
        → ((s : ℕ) → s ≢ e.slot → protections_of (region_of k.slots s) environments regions
        ≡ protections_of (region_of k.slots s) es base)
        → option_map (own_page e.slot) f.page ≡ page_of e.slot filleds
        → ((s : ℕ) → s ≢ e.slot → page_of s filleds ≡ page_of s fills)
        → (e.slot ≢ k.slots → nat_eq f.shared k.round ≡ list_any (nat_eq e.slot) pendings)
        → f.shared ≤ k.round
        → ((s : ℕ) → s ≢ e.slot → list_any (nat_eq s) pendings ≡ list_any (nat_eq s) pending)
        → HoldingShows slots (record k { entries = v; base = bases }) environments regions pendings stakes filleds
    entry_changed environments regions bases pendings filleds deep names base_is count counts page pages shared round sharers =
        record {
          slots_are = h.slots_are;
          depth = h.depth ∙ sym deep;
          ordered = h.ordered;
          names = names_same (region_of_key k) (λ j. option_map (entry_region k.slots) (after j)) regions_kept (named_frames k.frames)
              environments names;
          base_is = map_same (region_of_key k) (λ j. option_map (entry_region k.slots) (after j)) regions_kept
              (reverse bases.items) ∙ base_is;
          differ = differ_same (entry_at k) after k.slots slots_kept h.differ;
          counted = other (λ a x. x.protections ≡ protections_of (region_of k.slots x.slot) environments regions)
              (count ∙ ap (λ s. protections_of (region_of k.slots s) environments regions) (sym slot))
              (λ a x n old. h.counted a x old ∙ sym (counts x.slot n));
          pages = other (λ a x. option_map (own_page x.slot) x.page ≡ page_of x.slot filleds)
              (subst (λ s. option_map (own_page s) f.page ≡ page_of s filleds) (sym slot) page)
              (λ a x n old. h.pages a x old ∙ sym (pages x.slot n));
          pending_are = record {
            shared = other (λ a x. x.slot ≢ k.slots → nat_eq x.shared k.round ≡ list_any (nat_eq x.slot) pendings)
                (subst (λ s. s ≢ k.slots → nat_eq f.shared k.round ≡ list_any (nat_eq s) pendings) (sym slot) shared)
                (λ a x n old apart. h.pending_are.shared a x old apart ∙ sym (sharers x.slot n));
            rounds = other (λ a x. x.shared ≤ k.round) round (λ a x n old. h.pending_are.rounds a x old);
            positive = h.pending_are.positive;
          };
          staked = other (λ a x. x.slot ≢ k.slots → is_in x.slot stakes ≡ true)
              (subst (λ s. s ≢ k.slots → is_in s stakes ≡ true) (sym slot) (h.staked key e at))
              (λ a x n old. h.staked a x old);
        }

-- ---- the environments' names, when protections change

pub protecting_names : (region : Key → Option Region) (r : Region) (es : List RegionEnvironment) (k : Holding)
    → NamesStand region (named_frames k.frames) es → NamesStand region (named_frames k.frames) (with_protection es r)
protecting_names region r [] k h = h
protecting_names region r (e ∷ es) k h = h

pub unprotecting_names : (region : Key → Option Region) (r : Region) (es : List RegionEnvironment) (k : Holding)
    → NamesStand region (named_frames k.frames) es → NamesStand region (named_frames k.frames) (without_protection es r)
unprotecting_names region r [] k h = h
unprotecting_names region r (e ∷ es) k h = h

pub protecting_length : (r : Region) (es : List RegionEnvironment) → length (with_protection es r) ≡ length es
protecting_length r [] = refl
protecting_length r (e ∷ es) = refl

pub unprotecting_length : (r : Region) (es : List RegionEnvironment) → length (without_protection es r) ≡ length es
unprotecting_length r [] = refl
unprotecting_length r (e ∷ es) = refl
