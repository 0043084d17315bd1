-- Which goroutine returns pages at each moment. It is read off the invariant of the table, which has one goroutine for each chain.
use Rattle.std.proofs.Common.{◌≡◌, ℕ, suc, ◌<◌, List, Some, map, slice_get, slice_index, refl, sym, subst, ◌∙◌, arith}
use Rattle.rgo_sound.specs.RegionMachine.Machine.{Event}
use Rattle.rgo_core.specs.Memory.Ground.{ground_of}
use Rattle.rgo_core.specs.Memory.Image.{Where}
use Rattle.rgo_core.specs.Memory.Records.{ClosesSlot, Give, ReturnsChain, HasRecord, Past}
use Rattle.rgo_core.specs.Memory.Words.{count_at, state_at}
use Rattle.rgo_core.proofs.Memory.pages.Chaining.{first_at}
use Rattle.rgo_core.proofs.Memory.regions.Slots.{one_closes}
use Rattle.rgo_core.proofs.Memory.image.Steadies.{steady_of}
use Rattle.rgo_core.proofs.Memory.image.Stepped.{map_get}
use Rattle.rgo_sound.specs.RegionMachine.States.{RegionState}
use Rattle.rgo_core.specs.Core.{CoreAt, Setup, layout}
use Rattle.rgo_core.specs.Records.{Record, memory_of}
use Rattle.rgo_pages.specs.Laws.{ReleaseLaw}

module _ {T : Setup} {words : List ℕ} {recs : List Record} {events : List Event} {s : RegionState} (k : CoreAt T words recs events s)
    (g : ℕ) (c : Record) (is : slice_get recs g ≡ Some c) where
  abbrev places : Where
  places = k.image.places

  own : HasRecord (map memory_of recs) g c.memory
  own = map_get memory_of recs g c is

  alone : (h : ℕ) (d : Record) (slot : ℕ) → slice_get recs h ≡ Some d → ClosesSlot c.memory.give slot → ClosesSlot d.memory.give slot → g ≡ h
  alone h d slot there closes also =
      one_closes (layout T) words (map memory_of recs) (ground_of s) places k.image.memory slot h g d.memory c.memory
      (map_get memory_of recs h d there) also own closes

  unstaked : (slot : ℕ) → ClosesSlot c.memory.give slot
      → (slot < T.sizes.regions) × (slice_index words (count_at (layout T) slot) ≡ 1)
  unstaked slot closes =
      let a = k.image.memory.counts.closes g slot c.memory own closes in
      let b = k.image.memory.counts.closing slot g a.0 a.1 in
      let low = a.0 in
      (low, k.image.memory.shows.count slot (omega (arith, low)) ∙ b.0)

  claimed : (slot page next : ℕ) → c.memory.give ≡ Past slot (suc page) next
      → (page < T.sizes.pages) × (slice_index words (state_at (layout T) page) ≡ suc slot)
  claimed slot page next past =
      let m = k.image.memory in
      let closes : ClosesSlot c.memory.give slot = subst (λ (y : Give). ClosesSlot y slot) (sym past) refl in
      let at = first_at (layout T) words (map memory_of recs) (ground_of s) places m (steady_of T.code s k.sound.good) g c.memory own slot closes
      page (m.pages.cursors g slot (suc page) c.memory own (subst (λ (y : Give). ReturnsChain y slot (suc page)) (sym past) (refl, refl))) in
      let state = (m.pages.is_chained page slot at).0 in
      let low : page < T.sizes.pages = m.own.ranged page (omega (arith, state)) in
      (low, m.shows.state page low ∙ state)

pub release_law : ReleaseLaw
release_law = record {
  one = λ T words recs events g c core is. alone core.1 g c is;
  none = λ T words recs events g c core is. unstaked core.1 g c is;
  its = λ T words recs events g c core is. claimed core.1 g c is;
}
