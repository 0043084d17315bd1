-- What a turn has found lasts while its goroutine only loads the clock: the load adds an access to the record, and changes no word and no
-- frame. So the last access of a turn does not spoil its reason.
use Rattle.std.proofs.Common.{◌≡◌, ◌∙◌, ◌≤◌, ℕ, List, ◌++◌, Option, ap, inl, inr, refl, subst, sym}
use Rattle.rgo_core.specs.Memory.Words.{clock_at}
use Rattle.rgo_core.specs.Rule.Views.{number_of}
use Rattle.rgo_core.specs.Rule.declared.accesses.Access.{Access}
use Rattle.rgo_core.specs.Rule.declared.accesses.Kind.{Kind}
use Rattle.rgo_core.specs.Rule.declared.accesses.Kind.TheVariants.{ClaimPage, CreateRegion, EndRun}
use Rattle.rgo_core.specs.Memory.Words.{count_at, state_at}
use Rattle.rgo_core.specs.Core.{Setup, layout}
use Rattle.rgo_core.specs.Records.{Record, looked}
use Rattle.rgo_core_steps.proofs.accesses.Growing.{found_left}
use Rattle.rgo_core_steps.specs.Making.{RecordMakesNext, NeedsPage}
use Rattle.rgo_sound.specs.Memory.Memory.{Object}
use Rattle.rgo_sound.specs.Machine.declared.limits.Shortage.{Shortage}
use Rattle.rgo_sound.specs.Machine.declared.limits.Shortage.TheVariants as shortage
use Rattle.rgo_acts.proofs.Chan.Carrying.{at_as}
use Rattle.rgo_acts.specs.Runs.{Run}
use Rattle.rgo_acts.specs.Shortages.{AllInUse, LacksPage, LacksSlot}
use Rattle.rgo_acts.specs.Waits.{Loses, WaitsAtChannel}
use Rattle.rgo_acts.proofs.talking.Waiting.{loses_as, loses_left, waits_as, waits_left}
use Rattle.rgo_goroutine.specs.Acting.{IsOverFor, SameFirst, record_now}
use Rattle.rgo_goroutine.specs.Goroutines.{printed_byte_count, record_of_goroutine}
use Rattle.rgo_goroutine.specs.Turns as turns
use Rattle.rgo_goroutine.specs.Turns.{HasFinished, LacksFor, TurnStops}
use Rattle.rgo_goroutine.specs.declared.goroutine.Goroutine.{Goroutine}
use Rattle.rgo_goroutine.specs.declared.turning.TableTurnEnd.{TableTurnEnd}
use Rattle.rgo_goroutine.specs.declared.turning.TableTurnEnd.TheVariants as stop
use Rattle.rgo_goroutine.specs.declared.turning.Turning.{Turning}

-- ---- its record is c, then looked c, and its accesses are xs, then xs ++ ys

module _ (T : Setup) (g : ℕ) (c : Record) (xs ys : List Access) where
  waits_last : (place : Option ℕ) → WaitsAtChannel T g c xs place → WaitsAtChannel T g (looked c) (xs ++ ys) place
  waits_last place w = waits_left T g (looked c) xs ys place (waits_as T g c (looked c) xs refl refl place w)

  loses_last : (at : ℕ) → Loses T g c xs at → Loses T g (looked c) (xs ++ ys) at
  loses_last at l = loses_left T g (looked c) xs ys at (loses_as T g c (looked c) xs refl refl at l)

  in_use_last : (kind : Kind) (at : ℕ → ℕ) (n : ℕ) → AllInUse g xs kind at n → AllInUse g (xs ++ ys) kind at n
  in_use_last kind at n all k less = let f = all k less in (f.0, f.1, found_left g xs ys kind (at k) f.0 f.2)

  next_lasts : (object : Object) (slot : ℕ) → RecordMakesNext T c object slot → RecordMakesNext T (looked c) object slot
  next_lasts object slot n = record {
    to = n.to;
    act = n.act;
    from = n.from;
    removes = n.removes;
    here = at_as (looked c) refl n.here;
    makes = n.makes;
    region = n.region;
    in_region = n.in_region;
    in_slot = n.in_slot;
  }

  needs_last : (slot : ℕ) → NeedsPage T c slot → NeedsPage T (looked c) slot
  needs_last slot (inl n) = inl (record { object = n.object; next = next_lasts n.object slot n.next; fits = n.fits; full = n.full })
  needs_last slot (inr n) = inr (record {
    object = n.object;
    next = next_lasts n.object slot n.next;
    spread = n.spread;
    small = n.small;
    more = n.more;
  })

  page_lasts : LacksPage T g c xs → LacksPage T g (looked c) (xs ++ ys)
  page_lasts l = record {
    slot = l.slot;
    calm = record { side = l.calm.side; claim = l.calm.claim; make = l.calm.make };
    needs = needs_last l.slot l.needs;
    in_use = in_use_last ClaimPage (state_at (layout T)) T.sizes.pages l.in_use;
  }

  slot_lasts : LacksSlot T g c xs → LacksSlot T g (looked c) (xs ++ ys)
  slot_lasts l = record { creates = l.creates; in_use = in_use_last CreateRegion (count_at (layout T)) T.sizes.regions l.in_use }

  lacks_last : (why : Shortage) → LacksFor why T g c xs → LacksFor why T g (looked c) (xs ++ ys)
  lacks_last shortage.Pages l = page_lasts l
  lacks_last shortage.Regions l = slot_lasts l
  lacks_last shortage.ObjectSize l = l

over_lasts : (c : Record) → HasFinished c → HasFinished (looked c)
over_lasts c o = record { frames = o.frames; duties = o.duties }

-- ---- why the turn was over: it came from `old` to `mid`, and then loaded the clock

module _ (r : Run) (old mid new : Goroutine) (u : Turning) (slice n : ℕ) (xs ys : List Access)
    (before : record_now r old ≡ record_of_goroutine r.setup old) (after : record_of_goroutine r.setup new ≡ looked (record_now r mid))
    (all : u.left ≡ 0 → n ≡ slice) (kept : new.prints.items ≡ mid.prints.items) where
  abbrev T : Setup
  T = r.setup

  abbrev g : ℕ
  g = number_of old.actor.seat.me

  abbrev c : Record
  c = record_now r mid

  same_first : SameFirst r old mid → turns.SameFirst r old new
  same_first same = ap (λ (d : Record). d.clock.first) after ∙ (same ∙ ap (λ (d : Record). d.clock.first) before)

  pub stops_last : (why : TableTurnEnd) → IsOverFor r old mid u xs why → TurnStops r old new slice n u.changed.count (xs ++ ys) why
  stops_last stop.Went (same, inl (inl none)) = (same_first same, inl (inl (all none)))
  stops_last stop.Went (same, inl (inr many)) = (same_first same, inl (inr many))
  stops_last stop.Went (same, inr (inl much)) = (same_first same, inr (inl (subst (λ ps. 65536 ≤ printed_byte_count ps) (sym kept) much)))
  stops_last stop.Went (same, inr (inr end)) = (
    same_first same,
    inr (inr (end.0, end.1, found_left g xs ys EndRun clock_at end.0 end.2)),
  )
  stops_last (stop.Blocked at operation) (same, waits) = (
    same_first same,
    subst (λ (d : Record). WaitsAtChannel T g d (xs ++ ys) at) (sym after) (waits_last T g c xs ys at waits),
  )
  stops_last (stop.Lost at) (same, loses) = (
    same_first same,
    subst (λ (d : Record). Loses T g d (xs ++ ys) at) (sym after) (loses_last T g c xs ys at loses),
  )
  stops_last stop.Ended (same, over) = (same_first same, subst HasFinished (sym after) (over_lasts c over))
  stops_last (stop.Stopped mark) first = ap (λ (d : Record). d.clock.first) after ∙ first
  stops_last (stop.Short why) (same, lacks) = (
    same_first same,
    subst (λ (d : Record). LacksFor why T g d (xs ++ ys)) (sym after) (lacks_last T g c xs ys why lacks),
  )
  stops_last stop.NoMemory same = same_first same
