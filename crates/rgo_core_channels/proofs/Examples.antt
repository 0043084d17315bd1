-- The examples, by computation.
use Rattle.std.proofs.Common.{◌≡◌, ◌<◌, ◌≢◌, ℕ, suc, ◌+◌, ◌%◌, true, false, refl, ap, sym, Some, None, inl, inr, arith}
use Rattle.rgo_sound.specs.Typed.declared.actions.Action.TheVariants as action
use Rattle.rgo_sound.specs.Code.Code.{Code}
use Rattle.rgo_sound.specs.RegionMachine.Machine.{region_start}
use Rattle.rgo_core_channels.specs.Channels.{Chan, On, channel, count, lock_bit}
use Rattle.rgo_core_channels.specs.Examples.{ChannelExamples, ring}
use Rattle.rgo_core_channels.specs.Controls.{extent}
use Rattle.rgo_core_channels.specs.Locking.{IsCell}
use Rattle.rgo_core_channels.specs.Records.{KnowsOf, Locked, Nothing, Nowhere, Offering, Reached, Shut, Sized, Stranded, Unknown, Unreached, at_rest, with_hold, with_reach, with_size}
use Rattle.rgo_core_channels.specs.Standing.{IsOfChannel}
use Rattle.rgo_core_channels.proofs.Decoding.{even_control}
use Rattle.rgo_core_channels.proofs.Ring.{long_is_shown, ring_is_shown}
use Rattle.rgo_core_channels.proofs.Steps.{rest_knows}

not_same : (a b : ℕ) → suc a ≡ b → a ≡ b → ⊥
not_same a b e f = omega arith

far_off : (a b : ℕ) → a < b → a ≡ b → ⊥
far_off a b l e = omega (arith, l, e)

sized_else : KnowsOf (with_size at_rest 100 3) 101 → ⊥
sized_else (inl t) = absurd t.1
sized_else (inr (inl t)) = let z : Sized 100 3 ≡ Sized 101 t.0 = t.1 in not_same 100 101 refl (cc z)
sized_else (inr (inr (inl e))) = let z : Nothing ≡ Shut 101 = e in cc z
sized_else (inr (inr (inr (inl e)))) = let z : Nothing ≡ Stranded 101 = e in cc z
sized_else (inr (inr (inr (inr (inl e))))) = let z : Nowhere ≡ Offering 101 = e in cc z
sized_else (inr (inr (inr (inr (inr t))))) = let z : Unreached ≡ Reached 101 t.0 t.1 = t.2 in cc z

no_channel : IsOfChannel action.Len → ⊥
no_channel (inl e) = let z : action.Len ≡ action.Recv = e in cc z
no_channel (inr (inl e)) = let z : action.Len ≡ action.Send = e in cc z
no_channel (inr (inr e)) = let z : action.Len ≡ action.Close = e in cc z

reach_else : KnowsOf (with_reach at_rest 100 4 12) 101 → ⊥
reach_else (inl t) = absurd t.1
reach_else (inr (inl t)) = let z : Unknown ≡ Sized 101 t.0 = t.1 in cc z
reach_else (inr (inr (inl e))) = let z : Nothing ≡ Shut 101 = e in cc z
reach_else (inr (inr (inr (inl e)))) = let z : Nothing ≡ Stranded 101 = e in cc z
reach_else (inr (inr (inr (inr (inl e))))) = let z : Nowhere ≡ Offering 101 = e in cc z
reach_else (inr (inr (inr (inr (inr t))))) =
    let z : Reached 100 4 12 ≡ Reached 101 t.0 t.1 = t.2 in not_same 100 101 refl (cc z)

cell_else : IsCell 256 at_rest 100 3 1 104 → ⊥
cell_else (inl t) = let e = t.1 in omega arith
cell_else (inr e) = let z : Unreached ≡ Reached 100 1 104 = e in cc z

cell_not_found : IsCell 256 at_rest 100 300 1 103 → ⊥
cell_not_found (inl t) = let z : true ≡ false = t.0 in cc z
cell_not_found (inr e) = let z : Unreached ≡ Reached 100 1 103 = e in cc z

cell_not_it : IsCell 256 (with_reach at_rest 100 299 555) 100 300 298 555 → ⊥
cell_not_it (inl t) = let z : true ≡ false = t.0 in cc z
cell_not_it (inr e) =
    let z : Reached 100 299 555 ≡ Reached 100 298 555 = e in not_same 298 299 refl (sym (cc z))

none_at : (code : Code) (o : ℕ) (k : Chan) → On (region_start code) o k → ⊥
none_at code o k on = let z : None ≡ Some (channel k) = on.0 in cc z

-- of two values that begin at cell 2 of a ring of three, none is in cell 1
ring_spare : (j : ℕ) → j < 2 → 0 < 3 → (2 + j) % 3 ≢ 1
ring_spare j lt room e = omega arith

pub examples : ChannelExamples
examples = record {
  new = refl;
  closed = refl;
  two = refl;
  is_open = refl;
  is_closed = refl;
  has_two = refl;
  has_none = refl;
  head = refl;
  no_buffer = refl;
  three = refl;
  fits = refl;
  too_long = refl;
  cells_follow = refl;
  numbers_follow = refl;
  no_cells = refl;
  first_word = refl;
  second_word = refl;
  fourth_cell = refl;
  fifth_cell = refl;
  locked = refl;
  unlocked = refl;
  stands = refl;
  taken = refl;
  none = refl;
  values = refl;
  oldest = refl;
  newest = refl;
  grows = refl;
  shrinks = refl;
  closes = refl;
  spare = (omega arith, ring_spare, λ e. absurd (omega arith));
  not_spare = λ s. s.1 1 (omega arith) (omega arith) refl;
  outside = λ s. let h = s.0 in omega arith;
  offer_there = λ s. s.2 refl refl;
  offer_of = refl;
  not_of = λ e. omega arith;
  nobodys = λ e. e;
  standing = refl;
  accepted = refl;
  no_offer = refl;
  holds = (refl, refl);
  holds_not = λ h. let e = h.0 in omega arith;
  free = λ h. h;
  reads = (refl, refl, refl);
  reads_not = λ h. let e = h.2 in omega arith;
  knows = inr (inl (3, refl));
  knows_not = sized_else;
  knows_offer = inr (inr (inr (inr (inl refl))));
  knows_cell = inr (inr (inr (inr (inr (4, 12, refl)))));
  knows_other_cell = reach_else;
  knows_nothing = rest_knows 100;
  looks = refl;
  looks_open = refl;
  looks_own = refl;
  looks_taken = refl;
  cell_here = inl (refl, refl);
  cell_else = cell_else;
  cell_not_found = cell_not_found;
  cell_found = inr refl;
  cell_not_it = cell_not_it;
  locks = refl;
  locks_not = refl;
  shown = ring_is_shown;
  long_shown = long_is_shown;
  no_channel = λ code page_words encode place cell words at k.
      let t = k.locks 0 100 4 (with_hold at_rest (Locked 100 4)) refl (refl, refl) in none_at code t.0 t.1 t.2;
  other_capacity = λ code page_words encode place cell words recs s at on e k. let c = k.capacities 0 ring on in omega arith;
  other_lock = λ code page_words encode place cell words recs s at on e free k.
      let c = k.controls 0 ring on in
      let z : lock_bit (at.lock 0) ≡ 0 = ap lock_bit free in
      let y = even_control 0 (count ring (at.phase 0)) (at.head 0) in
      omega arith;
  other_row = λ code encode place cell words recs s at on e k.
      let c = k.row 0 1 ring on refl (omega arith) in omega arith;
  other_cell = λ code page_words encode place cell words s at all k.
      let t = k.reaches 0 100 5 12 (with_reach at_rest 100 5 12) refl refl in
      let z = ap (λ (c : Chan). extent c.capacity) (all t.0 t.1 t.2) in
      let y = t.4 in
      omega (arith, z, y);
  begins = refl;
  first_cell = refl;
  fifth_place = refl;
  not_in_row = λ e. far_off 108 114 (omega arith) (sym e);
  no_words = λ code z words places. record {
    inside = λ o k on. absurd (none_at code o k on);
    cells_inside = λ o i k on h. absurd (none_at code o k on);
    row = λ o i k on e h. absurd (none_at code o k on);
    words_are = λ o i k on h. absurd (none_at code o k on);
    apart = λ o p i j k l on on' h h' e. absurd (none_at code o k on);
  };
  no_table = λ z s places on l. let h = l.cells_inside 0 0 ring on (omega arith) in omega (arith, h);
  agrees = λ T z recs places memory none. record {
    memory = memory;
    place = λ o k on. absurd (none o k on);
    cell = λ o i k on h. absurd (none o k on);
  };
  one_off = λ T z recs places on e a. let p = a.place 0 ring on in omega (arith, p, e);
  of_channel = inl refl;
  of_none = no_channel;
}
