-- The own pages of a goroutine: the image has them claimed, one for each slot, and filled as the record says.
use Rattle.std.proofs.Common.{◌≡◌, ⊎_elim, ℕ, zero, suc, ◌<◌, ◌≤◌, Bool, true, false, List, [], ◌∷◌, Some, if◌then◌else◌, length, nat_eq, nat_lt, map, slice_get, slice_index, refl, ap, sym, subst, ◌∙◌, arith}
use Rattle.std.proofs.lemmas.Bool.Decides.{nat_tests}
use Rattle.std.proofs.lemmas.Option.{none-some, same_Some}
use Rattle.rgo_sound.proofs.counts.Room.{room_is_kept}
use Rattle.rgo_sound.proofs.Tests.{split}
use Rattle.rgo_sound.specs.RegionMachine.Regions.{is_live}
use Rattle.rgo_sound.specs.RegionMachine.Room.{pages_of}
use Rattle.rgo_sound.specs.RegionMachine.declared.regions.Region.{Region}
use Rattle.rgo_sound.specs.RegionMachine.declared.regions.Region.TheVariants.{Numbered}
use Rattle.rgo_sound.specs.Memory.Memory.{Object}
use Rattle.rgo_core.proofs.Frames.regions.Reserving.{reserved_law}
use Rattle.rgo_core.specs.Frames.steps.Before.{IsBefore}
use Rattle.rgo_core.specs.Memory.Ground.{Held, ground_of, held_of}
use Rattle.rgo_core.specs.Memory.Parts.{Living, slot_of}
use Rattle.rgo_core.specs.Memory.Records.{Amid, PageClaim, Claims, Fill, Idle, Make, Owns, Rest, Within, dropped, page_of}
use Rattle.rgo_core.proofs.Memory.regions.Slots.{region_living, uses_live}
use Rattle.rgo_core.proofs.Memory.image.Steadies.{steady_of}
use Rattle.rgo_core.proofs.Memory.image.Stepped.{map_get}
use Rattle.rgo_core.proofs.Memory.Writes.{pages_apart}
use Rattle.rgo_core.specs.Core.{Situation, Setup, layout}
use Rattle.rgo_core.specs.Records.{Record, memory_of}
use Rattle.rgo_core.proofs.new_objects.MakesObject.{at, b}
use Rattle.rgo_core.proofs.new_objects.NextObject.{next_is}
use Rattle.rgo_core.proofs.image.Parts.{I}
use Rattle.rgo_core.proofs.image.Standing.{memory_at}
use Rattle.rgo_core_steps.specs.Making.{RecordMakesNext}
use Rattle.rgo_core_steps.proofs.making.Objects.{page_in}
use Rattle.rgo_core_facts.specs.MemoryPages.{ClaimedPage, FreeOfSlots, IsOwnPage, OneOwnPage, OwnPages, ReservedFew, ReservedPages, RoomLies}
use Rattle.rgo_core_facts.proofs.DataPages.{pages_so}

-- ---- in a list

-- if a slot has one page only, it is the first one found
first_page : (s : ℕ) (fills : List Fill) (f : Fill) → Within f fills → f.slot ≡ s → ((e : Fill) → Within e fills → e.slot ≡ s → e ≡ f)
    → page_of s fills ≡ Some f
first_page s [] f within its one = absurd (none-some f within.1)
first_page s (x ∷ xs) f within its one =
    by (nat_eq s x.slot) refl (λ there. first_page s xs f there its (λ e inside same. one e (suc inside.0, inside.1) same))
  where
    rest : (k : ℕ) → slice_get (x ∷ xs) k ≡ Some f → nat_eq s x.slot ≡ false → Within f xs
    rest zero at is =
        let same : x.slot ≡ s = ap (λ (y : Fill). y.slot) (same_Some x f at) ∙ its in absurd (grind (arith, nat_tests, is, same))
    rest (suc k) at is = (k, at)

    by : (b : Bool) → nat_eq s x.slot ≡ b → (Within f xs → page_of s xs ≡ Some f) → (if b then Some x else page_of s xs) ≡ Some f
    by true is further = let same : x.slot ≡ s = grind (arith, nat_tests, is) in ap (λ (y : Fill). Some y) (one x (0, refl) same)
    by false is further = further (rest within.0 within.1 is)

-- ---- the own pages of a record

module _ {T : Setup} {g : ℕ} {c : Record} (x : Situation T g c) where
  -- the slot of a live region, or of Global
  pub slot_low : (r : Region) → is_live x.s.regions r ≡ true → slot_of (layout T) (I x).places.slot r ≤ T.sizes.regions
  slot_low r live = ⊎_elim
      (λ (e : slot_of (layout T) (I x).places.slot r ≡ (layout T).slots). omega (arith, e))
      (λ (u : (j : ℕ) × (r ≡ Numbered j) × (slot_of (layout T) (I x).places.slot r < (layout T).slots)
      × ((I x).places.uses (slot_of (layout T) (I x).places.slot r) ≡ Living j)). let l = u.2 in omega (arith, l))
      (region_living (layout T) x.words (map memory_of x.recs) (ground_of x.s) (I x).places (I x).memory r live)

  module _ (f : Fill) (within : Within f c.memory.fills) where
    owner : Owns (map memory_of x.recs) g f
    owner = (c.memory, memory_at x, within)

    pub own_page : IsOwnPage T f.slot f
    own_page =
        let q = (I x).memory.filled.fills g f owner in
        let claimed = (I x).memory.own.claimed g f owner in
        let live = uses_live (layout T) x.words (map memory_of x.recs) (ground_of x.s) (I x).places (I x).memory
        (steady_of T.code x.s x.core.sound.good) g q.0 q.1 q.2 q.3 in
        record {
          its = refl;
          low = subst (λ (n : ℕ). n ≤ T.sizes.regions) q.4 (slot_low q.1 live);
          page = (I x).memory.own.ranged f.page (omega (arith, claimed));
          fill = (I x).memory.own.room g f owner;
        }

    pub one_page : page_of f.slot c.memory.fills ≡ Some f
    one_page = first_page f.slot c.memory.fills f within refl
        (λ e inside same. (I x).memory.filled.single g e f (c.memory, memory_at x, inside) owner same)

pub own_pages : OwnPages
own_pages T g c x slot f is =
    let p = page_in slot c.memory.fills f is in
    subst (λ (s : ℕ). IsOwnPage T s f) p.1 (own_page x f p.0)

pub one_own_page : OneOwnPage
one_own_page T g c x f within = one_page x f within

pub claimed_page : ClaimedPage
claimed_page m page slot =
    let same : nat_eq slot slot ≡ true = grind (arith, nat_tests) in
    ap (λ (b : Bool). if b then Some (record { slot = slot; page = page; fill = 0 }) else page_of slot (dropped slot m.fills)) same

index_within : (pages : List ℕ) (k : ℕ) → k < length pages → Within (slice_index pages k) pages
index_within [] k low = absurd (omega (arith, low))
index_within (p ∷ ps) zero low = (0, refl)
index_within (p ∷ ps) (suc k) low = let w = index_within ps k (omega (arith, low)) in (suc w.0, w.1)

pub reserved_pages : ReservedPages
reserved_pages T g c x i low =
    let p = slice_index c.memory.reserved.pages i in
    let claimed = (I x).memory.own.apart.claimed g p c.memory (memory_at x) (index_within c.memory.reserved.pages i low) in
    (I x).memory.own.ranged p (omega (arith, claimed))

-- the region machine has as many reserved as the record, for the object that the next instruction makes
module _ {T : Setup} {g : ℕ} {c : Record} (x : Situation T g c) (object : Object) (slot : ℕ) (next : RecordMakesNext T c object slot) where
  abbrev before : IsBefore T.code (I x).places.slot (I x).addresses x.s g c.frame next.here.w next.here.ws next.here.instr
  before = b x next.to next.act next.from next.removes next.here object

  as_many : 0 < length c.memory.reserved.pages → before.h.reserved ≡ length c.memory.reserved.pages
  as_many some =
      let q = (I x).memory.filled.reserved g c.memory (memory_at x) some in
      let same : held_of before.h ≡ q.0 =
      same_Some (held_of before.h) q.0 (sym (map_get held_of x.s.holders g before.h before.there) ∙ q.2) in
      ap (λ (h : Held). h.reserved) same ∙ q.5

  few : length c.memory.reserved.pages ≤ pages_of T.sizes.page_words object
  few =
      let most = reserved_law.within (at x next.to next.act next.from next.removes next.here object) x.events object
      (room_is_kept.is_run T.code T.sizes x.events x.s x.core.story.room)
      (next_is x next.to next.act next.from next.removes next.here object 1073741820 (omega arith) next.makes) in
      split (nat_lt 0 (length c.memory.reserved.pages))
      (λ some. let e = as_many (grind (arith, nat_tests, some)) in omega (arith, most, e))
      (λ none. let n : length c.memory.reserved.pages ≤ 0 = grind (arith, nat_tests, none) in omega (arith, n))

pub reserved_few : ReservedFew
reserved_few T g c x slot words before first new =
    let l = few x new.object slot new.next in
    let pages = pages_so T.sizes.page_words new.object words before new.many new.split in
    omega (arith, l, pages)

pub room_lies : RoomLies
room_lies T page fill n low fits = let p = pages_apart page T.sizes.pages T.sizes.page_words low in omega (arith, p, fits)

-- ---- nothing is made or claimed

no_claim : (claim : PageClaim) (slot : ℕ) → claim ≡ Idle → Claims claim slot → ⊥
no_claim claim slot e claims = subst (λ (y : PageClaim). Claims y slot) e claims

no_object : (make : Make) (f : Fill) (object : Object) (stored : List ℕ) → make ≡ Rest → make ≡ Amid f object stored → ⊥
no_object make f object stored e made = let w : Rest ≡ Amid f object stored = sym e ∙ made in cc w

pub free_of_slots : FreeOfSlots
free_of_slots m slot rests idle = (
  no_claim m.claim slot idle,
  λ f object stored made same. no_object m.make f object stored rests made,
)
