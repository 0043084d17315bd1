-- Rounds begin again: no stake is pending, since the round is 1 and each entry's number is 0. All else in the entries is as before.
use Rattle.std.proofs.Common.{◌≡◌, ◌≢◌, ◌≤◌, ℕ, true, List, [], Option, Some, None, Vec, Global, ap, arith, nat_eq, option_map, refl, reverse, subst, sym, ◌∙◌}
use Rattle.std.proofs.lemmas.Option.{none-some, same_Some}
use Rattle.std.specs.List.{list_any}
use Rattle.rgo_core_memory.specs.Records.{Fill, page_of}
use Rattle.rgo_sound.specs.RegionMachine.States.{Holder}
use Rattle.rgo_sound.specs.RegionMachine.declared.regions.Region.{Region}
use Rattle.rgo_sound.specs.Stakes.{is_in}
use Rattle.rgo_holding.specs.declared.entries.Entry.{Entry}
use Rattle.rgo_holding.specs.declared.holding.Holding.{Holding}
use Rattle.rgo_holding.specs.declared.keys.Key.{Key}
use Rattle.rgo_holding.specs.Entries.{forgotten}
use Rattle.rgo_holding.specs.Holds.{IsHoldingOf, entry_at, region_of_key}
use Rattle.rgo_holding.specs.Known.{entry_of, entry_region, own_page, protections_of, region_of}
use Rattle.rgo_holding.specs.Tables.{named_frames}
use Rattle.rgo_holding.proofs.EntryLemmas.{differ_same, map_same, regions_same, slot_if}
use Rattle.rgo_holding.proofs.NameLemmas.{names_same}

slot_forgotten : (o : Option Entry) → slot_if (forgotten o) ≡ slot_if o
slot_forgotten None = refl
slot_forgotten (Some e) = refl

pub forgotten_shows : (k : Holding) (v : Vec Entry Global) → ((j : Key) → entry_of v.items j ≡ forgotten (entry_at k j))
    → (slots : ℕ) (h : Holder) (fills : List Fill) → IsHoldingOf slots k h fills
    → IsHoldingOf slots (record k { entries = v; round = 1 }) (record h { pending = [] }) fills
forgotten_shows k v same slots h fills shows = record {
  slots_are = shows.slots_are;
  depth = shows.depth;
  ordered = shows.ordered;
  names = names_same (region_of_key k) regions (regions_same (entry_at k) (λ j. entry_of v.items j) k.slots slots_are) (named_frames k.frames)
      h.environments shows.names;
  base_is = map_same (region_of_key k) regions (regions_same (entry_at k) (λ j. entry_of v.items j) k.slots slots_are)
      (reverse k.base.items) ∙ shows.base_is;
  differ = differ_same (entry_at k) (λ j. entry_of v.items j) k.slots slots_are shows.differ;
  counted = each (λ x. x.protections ≡ protections_of (region_of k.slots x.slot) h.environments h.base) shows.counted;
  pages = each (λ x. option_map (own_page x.slot) x.page ≡ page_of x.slot fills) shows.pages;
  pending_are = record {
    shared = each (λ x. x.slot ≢ k.slots → nat_eq x.shared 1 ≡ list_any (nat_eq x.slot) []) (λ a e at n. refl);
    rounds = each (λ x. x.shared ≤ 1) (λ a e at. omega arith);
    positive = omega arith;
  };
  staked = each (λ x. x.slot ≢ k.slots → is_in x.slot h.stakes ≡ true) shows.staked;
}
  where
    regions : Key → Option Region
    regions j = option_map (entry_region k.slots) (entry_of v.items j)

    slots_are : (j : Key) → slot_if (entry_of v.items j) ≡ slot_if (entry_at k j)
    slots_are j = ap slot_if (same j) ∙ slot_forgotten (entry_at k j)

    each : (P : Entry → Type 0) → ((a : Key) (e : Entry) → entry_at k a ≡ Some e → P (record e { shared = 0 }))
        → (a : Key) (x : Entry) → entry_of v.items a ≡ Some x → P x
    each P old a x at = go (entry_at k a) refl (sym (same a) ∙ at)
      where
        go : (o : Option Entry) → entry_at k a ≡ o → forgotten (entry_at k a) ≡ Some x → P x
        go None there f = absurd (none-some x (sym (ap forgotten there) ∙ f))
        go (Some e) there f = subst P (same_Some (record e { shared = 0 }) x (sym (ap forgotten there) ∙ f)) (old a e there)
