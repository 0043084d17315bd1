-- What a goroutine has of the regions, by the slots of these regions in place of their numbers. A goroutine names live regions alone, and
-- these have different slots, so nothing is lost.
use Rattle.rgo_sound.specs.RegionMachine.Regions.{Bindings}
use Rattle.rgo_sound.specs.RegionMachine.States.{Create, Duty, EndBase, RegionEnvironment, Holder, NoOffer, Offer, Protect, Remove, Share, Standing, Taken, Unprotect}
use Rattle.rgo_sound.specs.RegionMachine.declared.regions.Region.TheVariants.{Global as GlobalRegion, Numbered}
use Rattle.rgo_sound.specs.RegionMachine.declared.regions.Region.{Region}
use Rattle.std.specs.Prelude.{List, [], map, ℕ}

-- `slot_of` has the slot of each region
module _ (slot_of : ℕ → ℕ) where
  abbrev pub slotted_region : Region → Region
  slotted_region GlobalRegion = GlobalRegion
  slotted_region (Numbered r) = Numbered (slot_of r)

  abbrev pub slot_of_name : ℕ × Region → ℕ × Region
  slot_of_name b = (b.0, slotted_region b.1)

  abbrev pub slot_names : Bindings → Bindings
  slot_names names = map slot_of_name names

  abbrev pub slot_environment : RegionEnvironment → RegionEnvironment
  slot_environment e = record { lent = e.lent; names = slot_names e.names; protections = map slotted_region e.protections }

  abbrev pub slot_environments : List RegionEnvironment → List RegionEnvironment
  slot_environments es = map slot_environment es

  abbrev pub slot_duty : Duty → Duty
  slot_duty (Create k) = Create k
  slot_duty (Share k) = Share k
  slot_duty (Protect k) = Protect k
  slot_duty (Unprotect k) = Unprotect k
  slot_duty (Remove k) = Remove k
  slot_duty (EndBase r) = EndBase (slotted_region r)

  abbrev pub slot_duties : List Duty → List Duty
  slot_duties ds = map slot_duty ds

-- that the goroutine has an offer, without its channel, which is in the image of channels
abbrev pub nameless : Offer → Offer
nameless NoOffer = NoOffer
nameless (Standing o) = Standing 0
nameless (Taken o) = Taken 0

-- Own pages and reserved pages are left out here: the memory's part of a record has which pages these are.
abbrev pub slotted : (slot_of : ℕ → ℕ) → Holder → Holder
slotted slot_of h = record {
  stakes = map slot_of h.stakes;
  pending = map slot_of h.pending;
  environments = slot_environments slot_of h.environments;
  base = map (slotted_region slot_of) h.base;
  fills = [];
  reserved = 0;
  duties = slot_duties slot_of h.duties;
  offer = nameless h.offer;
}
