-- Reserved pages are for the spread object that their goroutine makes next. That is an invariant of runs in rgo_sound. Here it is read
-- through the record.
use Rattle.std.proofs.Common.{◌≡◌, ◌≤◌, ◌<◌, ◌⊎◌, ℕ, zero, suc, false, true, not, ◌&&◌, nat_lt, if◌then◌else◌, List, [], ◌∷◌, Some, None, refl, sym, ap, ◌∙◌, subst, inl, inr, arith, slice_get, true≢false}
use Rattle.std.proofs.lemmas.Option.{same_Some}
use Rattle.rgo_sound.specs.Memory.Memory.{Object}
use Rattle.rgo_sound.specs.RegionMachine.Machine.{Event, next_object}
use Rattle.rgo_sound.specs.RegionMachine.Objects.{allotted, data_pages, fill_of, is_spread, is_too_large, placed, spread_out}
use Rattle.rgo_sound.specs.RegionMachine.Room.{pages_of}
use Rattle.rgo_sound.specs.RegionMachine.States.{Duty, Holder}
use Rattle.rgo_sound.specs.RegionMachine.declared.regions.Region.{Region}
use Rattle.rgo_sound.specs.Reserved.{IsReserved}
use Rattle.rgo_sound.proofs.counts.Pages.{reserved_for_next}
use Rattle.rgo_core_frames.specs.Fits.{RecordFits, IsPast, IsShown}
use Rattle.rgo_core_frames.specs.regions.Reserved.{IsReached, ReservedLaw}
use Rattle.rgo_core_frames.specs.regions.Slots.{slot_duties}
use Rattle.rgo_core_frames.specs.States.{AtInstruction, Here}

is_none : (n : ℕ) → (0 < n → ⊥) → n ≡ 0
is_none zero f = refl
is_none (suc n) f = absurd (f (omega arith))

is_less : (n m : ℕ) → n < m → nat_lt n m ≡ true
is_less n m l = grind arith

something : (d : Duty) (ds : List Duty) → [] ≡ d ∷ ds → ⊥
something d ds e = cc

-- what is reserved in a state of a run
for_next : (x : Here) (events : List Event) (h : Holder) → IsReached x events → slice_get x.s.holders x.g ≡ Some h
    → 0 < h.reserved → IsReserved x.code x.page_words x.s x.g h
for_next x events h run there some =
    reserved_for_next x.code x.page_words events x.s x.g h x.sound.checked x.sound.written run there some

-- the record of a goroutine that owes nothing
owes_nothing : (x : Here) (h : Holder) → slice_get x.s.holders x.g ≡ Some h → h.duties ≡ [] → x.c.holder.duties ≡ []
owes_nothing x h there none = by f.fits
  where
    f : RecordFits x.code x.slot_of x.addresses x.s x.g x.c
    f = x.all.each x.g x.c x.is_c

    by : IsShown x.code x.slot_of x.addresses f.frames f.h x.c ⊎ IsPast x.code x.slot_of x.addresses f.frames f.h x.c
        → x.c.holder.duties ≡ []
    by (inl shown) =
        ap (λ (k : Holder). k.duties) shown.holder ∙ ap (slot_duties x.slot_of)
        (ap (λ (k : Holder). k.duties) (same_Some f.h h (sym f.there ∙ there)) ∙ none)
    by (inr past) =
        ap (λ (k : Holder). k.duties) past.shown.holder ∙ ap (slot_duties x.slot_of) past.owes_nothing

owing : (x : Here) (events : List Event) (h : Holder) (d : Duty) (ds : List Duty) → IsReached x events
    → slice_get x.s.holders x.g ≡ Some h → x.c.holder.duties ≡ d ∷ ds → h.reserved ≡ 0
owing x events h d ds run there owes =
    is_none h.reserved (λ some. let r = for_next x events h run there some in
    something d ds (sym (owes_nothing x h there r.none) ∙ owes))

-- ---- before an instruction

module _ (x : AtInstruction) (events : List Event) (run : IsReached x.here events) where
  reserved : 0 < x.before.h.reserved
      → IsReserved x.here.code x.here.page_words x.here.s x.here.g x.before.h
  reserved some = for_next x.here events x.before.h run x.before.there some

  unmade : next_object x.here.code x.here.s x.here.g ≡ None → x.before.h.reserved ≡ 0
  unmade none = is_none x.before.h.reserved (λ some. let r = reserved some in
      let e : None ≡ Some r.object = sym none ∙ r.next in cc)

  module _ (object : Object) (next : next_object x.here.code x.here.s x.here.g ≡ Some object) where
    unspread : is_spread x.here.page_words object ≡ false → x.before.h.reserved ≡ 0
    unspread small = is_none x.before.h.reserved (λ some. let r = reserved some in
        true≢false (sym r.spread ∙ ap (is_spread x.here.page_words) (same_Some r.object object (sym r.next ∙ next)) ∙ small))

    within : x.before.h.reserved ≤ pages_of x.here.page_words object
    within = by x.before.h.reserved refl
      where
        by : (n : ℕ) → x.before.h.reserved ≡ n → x.before.h.reserved ≤ pages_of x.here.page_words object
        by zero e = omega (arith, e)
        by (suc n) e =
            let r = reserved (omega (arith, e)) in
            subst (λ (y : Object). x.before.h.reserved ≤ pages_of x.here.page_words y)
            (same_Some r.object object (sym r.next ∙ next)) r.within

    module _ (r : Region) (spread : is_spread x.here.page_words object ≡ true)
        (all : x.before.h.reserved ≡ pages_of x.here.page_words object) where
      abbrev h : Holder
      h = x.before.h

      abbrev pages : ℕ
      pages = data_pages x.here.page_words object

      abbrev given : Holder × List Region
      given = (record h { reserved = 0 }, r ∷ [])

      small : is_too_large x.here.page_words object ≡ false
      small =
          let k = reserved (omega (arith, all)) in
          subst (λ (y : Object). is_too_large x.here.page_words y ≡ false)
          (same_Some k.object object (sym k.next ∙ next)) k.small

      has_place : allotted x.here.page_words h (Some r) (Some object) ≡ Some given
      has_place =
          ap (λ b. if b then spread_out x.here.page_words h r object else placed x.here.page_words h r object (fill_of h.fills r)) spread
          ∙ ap (λ b. if not b && nat_lt pages h.reserved then Some given else None) small
          ∙ ap (λ b. if b then Some given else None) (is_less pages h.reserved (omega (arith, all)))

pub reserved_law : ReservedLaw
reserved_law = record {
  owing = owing;
  unmade = λ x events run none. unmade x events run none;
  unspread = λ x events object run next small. unspread x events run object next small;
  within = λ x events object run next. within x events run object next;
  has_place = λ x events object r run next spread all. has_place x events run object next r spread all;
}
