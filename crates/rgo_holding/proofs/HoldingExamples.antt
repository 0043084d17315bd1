-- The examples hold.
use Rattle.std.proofs.Common.{◌≡◌, ◌≢◌, ◌⊎◌, ◌≤◌, ℕ, zero, suc, true, false, List, [], ◌∷◌, ◌++◌, Option, Some, None, ap, arith, if◌then◌else◌, inl, inr, length, nat_eq, option_map, refl, sym, ◌∙◌, true≢false}
use Rattle.std.proofs.lemmas.Option.{none-some, same_Some}
use Rattle.std.specs.List.{AllByRecursion}
use Rattle.rgo_sound.specs.RegionMachine.Regions.{bound}
use Rattle.rgo_sound.specs.RegionMachine.States.{RegionEnvironment}
use Rattle.rgo_sound.specs.RegionMachine.declared.regions.Region.{Region}
use Rattle.rgo_sound.specs.Stakes.{is_in}
use Rattle.rgo_sound.specs.RegionMachine.declared.regions.Region.TheVariants.{Global as GlobalRegion, Numbered}
use Rattle.rgo_core_memory.specs.Records.{page_of}
use Rattle.rgo_holding.specs.declared.entries.Entry.{Entry}
use Rattle.rgo_holding.specs.declared.holding.Holding.{Holding}
use Rattle.rgo_holding.specs.declared.keys.Key.{Key}
use Rattle.rgo_holding.specs.Changes.{EnvironmentsSettle}
use Rattle.rgo_holding.specs.Entries.{new_entry}
use Rattle.rgo_holding.specs.Examples.{HoldingExamples, bare_environment, doubled, three_entries, frame, naming, page_two, pages, region_of_three, second, third}
use Rattle.rgo_holding.specs.Holds.{HoldingShows}
use Rattle.rgo_holding.specs.Known.{AreCounted, AreStakesPending, HavePages, KeySlotsDiffer, entry_of, global_key, own_page, protections_of, region_of, slot_in}
use Rattle.rgo_holding.specs.Tables.{Named, StandFor}

-- what holds of both entries in use
each : (P : Entry → Type 0) → P (new_entry 4) → P page_two → (a : Key) (e : Entry) → entry_of three_entries a ≡ Some e → P e
each P global two a e at = go a.0 e at
  where
    go : (n : ℕ) (e : Entry) → entry_of three_entries (record { 0 = n }) ≡ Some e → P e
    go zero e at = rw (sym (same_Some (new_entry 4) e at)) global
    go (suc zero) e at = rw (sym (same_Some page_two e at)) two
    go (suc (suc zero)) e at = absurd (none-some e at)
    go (suc (suc (suc n))) e at = absurd (none-some e at)

beyond : (n : ℕ) → nat_eq 1 (suc (suc n)) ≡ false
beyond n = grind arith

stand : StandFor region_of_three (None ∷ Some second ∷ []) ((1, Numbered 2) ∷ [])
stand zero = refl
stand (suc zero) = refl
stand (suc (suc n)) = sym (ap (λ b. option_map Some (if b then Some (Numbered 2) else None)) (beyond n))

key_at : (a : Key) (s : ℕ) → slot_in (entry_of three_entries) a ≡ Some s → ((a ≡ global_key) × (s ≡ 4)) ⊎ ((a ≡ second) × (s ≡ 2))
key_at a s e = go a.0 s e
  where
    go : (n s : ℕ) → slot_in (entry_of three_entries) (record { 0 = n }) ≡ Some s
        → ((record { 0 = n } ≡ global_key) × (s ≡ 4)) ⊎ ((record { 0 = n } ≡ second) × (s ≡ 2))
    go zero s e = inl (refl, sym (same_Some 4 s e))
    go (suc zero) s e = inr (refl, sym (same_Some 2 s e))
    go (suc (suc zero)) s e = absurd (none-some s e)
    go (suc (suc (suc n))) s e = absurd (none-some s e)

unique : (a b : Key) (s : ℕ) → slot_in (entry_of three_entries) a ≡ Some s → slot_in (entry_of three_entries) b ≡ Some s → a ≡ b
unique a b s x y = go (key_at a s x) (key_at b s y)
  where
    go : ((a ≡ global_key) × (s ≡ 4)) ⊎ ((a ≡ second) × (s ≡ 2)) → ((b ≡ global_key) × (s ≡ 4)) ⊎ ((b ≡ second) × (s ≡ 2)) → a ≡ b
    go (inl x) (inl y) = x.0 ∙ sym y.0
    go (inl x) (inr y) = absurd (omega (arith, x.1, y.1))
    go (inr x) (inl y) = absurd (omega (arith, x.1, y.1))
    go (inr x) (inr y) = x.0 ∙ sym y.0

bound_naming : (k : ℕ) → bound naming.names k ≡ Some (Numbered 3) → ⊥
bound_naming zero e = none-some (Numbered 3) e
bound_naming (suc zero) e = cc
bound_naming (suc (suc k)) e = none-some (Numbered 3) (sym (ap (λ b. if b then Some (Numbered 2) else None) (beyond k)) ∙ e)

fewer : EnvironmentsSettle 1 2 (bare_environment ∷ naming ∷ []) (naming ∷ []) → ⊥
fewer s = let l = s.depth_is in omega (arith, l)

guarded_above : EnvironmentsSettle 0 1 (naming ∷ []) (bare_environment ∷ []) → ⊥
guarded_above s = go s.above s.stayed s.before_is s.kept_are s.unguarded
  where
    go : (above stayed : List RegionEnvironment) → naming ∷ [] ≡ above ++ stayed → length stayed ≡ 0
        → AllByRecursion (λ (e : RegionEnvironment). e.protections ≡ []) above → ⊥
    go [] stayed e l u = let x = ap length e in omega (arith, x, l)
    go (a ∷ above) stayed e l u = no_protections (ap (λ ps. ps) (first e ∙ u.0))
      where
        first : naming ∷ [] ≡ a ∷ (above ++ stayed) → naming.protections ≡ a.protections
        first e = ap (λ (e : RegionEnvironment). e.protections) (head e)
          where
            head : naming ∷ [] ≡ a ∷ (above ++ stayed) → naming ≡ a
            head e = cc

        no_protections : ◌≡◌ {A = List Region} (Numbered 2 ∷ []) [] → ⊥
        no_protections e = cc

as_many : (k : Holding) → HoldingShows 4 k (bare_environment ∷ []) [] [] [] [] → HoldingShows 4 k (bare_environment ∷ bare_environment ∷ []) [] [] [] [] → ⊥
as_many k one two = let a = one.depth in let b = two.depth in omega (arith, a, b)

same_slot : KeySlotsDiffer (entry_of doubled) 4 → ⊥
same_slot d = let e = ap (λ (key : Key). key.0) (d.unique second third 2 refl refl) in omega (arith, e)

no_global : KeySlotsDiffer (entry_of three_entries) 5 → ⊥
no_global d = let e = same_Some 4 5 d.global in omega (arith, e)

one_more : AreCounted (entry_of three_entries) 4 (naming ∷ naming ∷ []) [] → ⊥
one_more c = let e = c second page_two refl in omega (arith, e)

own_none : HavePages (entry_of three_entries) [] → ⊥
own_none h = none-some (record { slot = 2; page = 7; fill = 5 }) (sym (h second page_two refl))

pending : AreStakesPending (entry_of three_entries) 4 1 (2 ∷ []) → ⊥
pending p = true≢false (sym (p.shared second page_two refl (λ e. omega (arith, e))))

pub examples : HoldingExamples
examples = record {
  used = refl;
  given_up = refl;
  by_slot = refl;
  behind_all = refl;
  slot_of_global = refl;
  name = refl;
  no_name = refl;
  tables = refl;
  start_behind = λ h. omega (arith, h.0);
  newest = refl;
  newest_has_none = refl;
  stand = stand;
  unbound = λ h. none-some (Some (Numbered 2)) (sym (h 1));
  another = λ h. let e = same_Some 2 3 (ap number (same_Some (Numbered 2) (Numbered 3) (same_Some (Some (Numbered 2)) (Some (Numbered 3)) (h 1)))) in omega (arith, e);
  not_in_use = λ h. none-some (Numbered 3) (same_Some None (Some (Numbered 3)) (h 1));
  frames = (λ k. refl, (stand, refl));
  wrong_height = λ h. none-some (Some (Numbered 2)) (sym (h.0 1));
  too_many = λ h. no_frames h;
  differ = record { unique = unique; global = refl };
  same_slot = same_slot;
  no_global = no_global;
  protections = refl;
  counted = λ a e at. each (λ x. x.protections ≡ protections_of (region_of 4 x.slot) (bare_environment ∷ naming ∷ []) []) refl refl a e at;
  one_more = one_more;
  own = λ a e at. each (λ x. option_map (own_page x.slot) x.page ≡ page_of x.slot pages) refl refl a e at;
  own_none = own_none;
  first_page = refl;
  none_pending = record {
    shared = λ a e at. each (λ x. x.slot ≢ 4 → nat_eq x.shared 1 ≡ false) (λ n. refl) (λ n. refl) a e at;
    rounds = λ a e at. each (λ x. x.shared ≤ 1) (omega arith) (omega arith) a e at;
    positive = omega arith;
  };
  pending = pending;
  staked = λ a e at. each (λ x. x.slot ≢ 4 → is_in x.slot (2 ∷ []) ≡ true) (λ n. absurd (n refl)) (λ n. refl) a e at;
  no_stake = λ h. true≢false (sym (h second page_two refl (λ e. omega (arith, e))));
  as_many = as_many;
  last = refl;
  not_last = λ h. true≢false (sym h);
  named = λ h. h.1.0 1 refl;
  unnamed = (λ k e. none-some (Numbered 3) e, (bound_naming, tt));
  settles = record {
    above = bare_environment ∷ [];
    fresh = bare_environment ∷ bare_environment ∷ [];
    stayed = naming ∷ [];
    before_is = refl;
    after_is = refl;
    kept_are = refl;
    depth_is = refl;
    unguarded = (refl, tt);
    bare = (record { names = refl; protections = refl }, (record { names = refl; protections = refl }, tt));
  };
  guarded_above = guarded_above;
  fewer = fewer;
  cuts = refl;
  clears = refl;
  clears_below = refl;
  enters = refl;
  passes = refl;
  passes_none = refl;
  shared = (refl, tt);
  not_shared = λ h. true≢false (sym h.0);
}
  where
    number : Region → Option ℕ
    number GlobalRegion = None
    number (Numbered p) = Some p

    no_frames : ◌≡◌ {A = List Named} (frame 1 ∷ []) [] → ⊥
    no_frames e = cc
