-- Entries are written: each key but one has the same entry as before. All facts about entries then go by two cases.
use Rattle.std.proofs.Common.{◌≡◌, ◌≢◌, ℕ, Bool, true, false, List, [], ◌∷◌, Option, Some, None, ap, if◌then◌else◌, map, nat_eq, option_map, refl, slice_get, slice_set, subst, sym, true≢false, ◌∙◌}
use Rattle.std.proofs.lemmas.Option.{none-some, same_Some}
use Rattle.rgo_sound.specs.RegionMachine.declared.regions.Region.{Region}
use Rattle.rgo_sound.proofs.Places.{get_set_other, get_set_same}
use Rattle.rgo_sound.proofs.Tests.{eq_of, nat_eq_refl, split}
use Rattle.rgo_holding.specs.declared.entries.Entry.{Entry}
use Rattle.rgo_holding.specs.declared.keys.Key.{Key}
use Rattle.rgo_holding.specs.Known.{KeySlotsDiffer, entry_of, entry_region, global_key, if_used, region_of}

pub same_key : (a b : Key) → nat_eq a.0 b.0 ≡ true → a ≡ b
same_key a b t = λ i. record { 0 = eq_of a.0 b.0 t i }

pub map_same : {A B : Type 0} (f g : A → B) → ((a : A) → g a ≡ f a) → (xs : List A) → map g xs ≡ map f xs
map_same f g same [] = refl
map_same f g same (x ∷ xs) = λ i. same x i ∷ map_same f g same xs i

-- the entry of a key that is in use
pub used_entry : (entries : List Entry) (key : Key) (e : Entry) → entry_of entries key ≡ Some e
    → (slice_get entries key.0 ≡ Some e) × (e.used ≡ true)
used_entry entries key e at = go (slice_get entries key.0) at
  where
    by : (x : Entry) (b : Bool) → x.used ≡ b → (if b then Some x else None) ≡ Some e
        → (◌≡◌ {A = Option Entry} (Some x) (Some e)) × (e.used ≡ true)
    by x true t at = (at, subst (λ (y : Entry). y.used ≡ true) (same_Some x e at) t)
    by x false t at = absurd (none-some e at)

    go : (o : Option Entry) → if_used o ≡ Some e → (o ≡ Some e) × (e.used ≡ true)
    go None at = absurd (none-some e at)
    go (Some x) at = by x x.used refl at

-- a key has this entry now, or none, and each other key has what it had
abbrev pub Puts : (before after : Key → Option Entry) → Key → Option Entry → Type 0
Puts before after key o = (j : Key) → after j ≡ (if nat_eq key.0 j.0 then o else before j)

pub put_entry : (entries : List Entry) (key : Key) (x f : Entry) → slice_get entries key.0 ≡ Some x
    → Puts (entry_of entries) (entry_of (slice_set entries key.0 f)) key (if_used (Some f))
put_entry entries key x f at j = split (nat_eq key.0 j.0)
    (λ t. ap (λ n. if_used (slice_get (slice_set entries key.0 f) n)) (sym (eq_of key.0 j.0 t))
    ∙ ap if_used (get_set_same entries key.0 x f at)
    ∙ sym (ap (λ b. if b then if_used (Some f) else entry_of entries j) t))
    (λ n. ap if_used (get_set_other entries key.0 j.0 f n)
    ∙ sym (ap (λ b. if b then if_used (Some f) else entry_of entries j) n))

module _ (before after : Key → Option Entry) (key : Key) (o : Option Entry) (puts : Puts before after key o) where
  -- what holds of the entry that is written, and of each other one, holds of all
  pub each_put : (P : Key → Entry → Type 0) → ((f : Entry) → o ≡ Some f → P key f)
      → ((a : Key) (x : Entry) → nat_eq key.0 a.0 ≡ false → before a ≡ Some x → P a x)
      → (a : Key) (x : Entry) → after a ≡ Some x → P a x
  each_put P here other a x at = split (nat_eq key.0 a.0)
      (λ t. subst (λ j. P j x) (same_key key a t)
      (here x (sym (puts a ∙ ap (λ b. if b then o else before a) t) ∙ at)))
      (λ n. other a x n (sym (puts a ∙ ap (λ b. if b then o else before a) n) ∙ at))

abbrev pub slot_if : Option Entry → Option ℕ
slot_if o = option_map (λ (e : Entry). e.slot) o

-- another key has another slot
pub apart : (entry : Key → Option Entry) (slots : ℕ) → KeySlotsDiffer entry slots → (key a : Key) (e x : Entry)
    → entry key ≡ Some e → entry a ≡ Some x → nat_eq key.0 a.0 ≡ false → x.slot ≢ e.slot
apart entry slots differ key a e x at there n same =
    let k = differ.unique key a e.slot (ap slot_if at) (ap slot_if there ∙ ap Some same) in
    true≢false (sym (sym n ∙ ap (λ (j : Key). nat_eq key.0 j.0) (sym k) ∙ nat_eq_refl key.0))

pub slots_put : (before after : Key → Option Entry) (key : Key) (e f : Entry) → Puts before after key (Some f)
    → before key ≡ Some e → f.slot ≡ e.slot → (j : Key) → slot_if (after j) ≡ slot_if (before j)
slots_put before after key e f puts at same j = split (nat_eq key.0 j.0)
    (λ t. ap slot_if (puts j ∙ ap (λ b. if b then Some f else before j) t) ∙ ap Some same
    ∙ sym (ap slot_if (ap before (sym (same_key key j t)) ∙ at)))
    (λ n. ap slot_if (puts j ∙ ap (λ b. if b then Some f else before j) n))

pub differ_same : (before after : Key → Option Entry) (slots : ℕ) → ((j : Key) → slot_if (after j) ≡ slot_if (before j))
    → KeySlotsDiffer before slots → KeySlotsDiffer after slots
differ_same before after slots same differ = record {
  unique = λ a b s x y. differ.unique a b s (sym (same a) ∙ x) (sym (same b) ∙ y);
  global = same global_key ∙ differ.global;
}

region_by : (slots : ℕ) (o : Option Entry) → option_map (entry_region slots) o ≡ option_map (region_of slots) (slot_if o)
region_by slots None = refl
region_by slots (Some e) = refl

-- keys of the same slots are of the same regions
pub regions_same : (before after : Key → Option Entry) (slots : ℕ) → ((j : Key) → slot_if (after j) ≡ slot_if (before j))
    → (j : Key) → option_map (entry_region slots) (after j) ≡ option_map (entry_region slots) (before j)
regions_same before after slots same j =
    region_by slots (after j) ∙ ap (option_map (region_of slots)) (same j) ∙ sym (region_by slots (before j))

-- the entry of a key of this region
pub entry_there : (slots : ℕ) (o : Option Entry) (r : Region) → option_map (entry_region slots) o ≡ Some r
    → (e : Entry) × (o ≡ Some e) × (entry_region slots e ≡ r)
entry_there slots None r at = absurd (none-some r at)
entry_there slots (Some e) r at = (e, refl, same_Some _ _ at)
