-- Goroutines and turns that meet their definitions, and some that do not.
use Rattle.std.proofs.Common.{◌≡◌, ◌<◌, inl, inr, ◌++◌, ◌∙◌, ℕ, zero, suc, true, false, List, [], ◌∷◌, Option, Some, arith, ap, length, not, refl, subst, sym}
use mathlib.Core.Option.{some, some-injective, some-ne-none}
use lib.ListN.{get_elem?}
use Rattle.rgo_core.specs.Frames.shown.WordFrames.{WordFrame}
use Rattle.rgo_core.specs.Rule.Histories.{access}
use Rattle.rgo_core.specs.Rule.Passes.{ChangesNothingBy}
use Rattle.rgo_core.specs.Core.{Setup}
use Rattle.rgo_core.specs.Records.{Record}
use Rattle.rgo_core.specs.Rule.Views.{Rows, number_in, number_of}
use Rattle.rgo_core.specs.Rule.declared.accesses.Access.{Access}
use Rattle.rgo_core.specs.Rule.declared.accesses.Kind.TheVariants.{ClaimPage, EndRun}
use Rattle.rgo_sound.specs.RegionMachine.States.{Duty}
use Rattle.rgo_acts.specs.Runs.{Run}
use Rattle.rgo_acts.specs.declared.prints.Print.{Print}
use Rattle.rgo_goroutine.specs.Examples.{ChildExamples, TurnExamples, end_at}
use Rattle.rgo_goroutine.specs.Goroutines.{printed_byte_count, rows_of_children, valid}
use Rattle.rgo_goroutine.specs.Instructions.{IsNear}
use Rattle.rgo_goroutine.specs.Passing.{Gathers}
use Rattle.rgo_goroutine.specs.Turns.{FoundEnd, HasTurned, TurnStops}
use Rattle.rgo_goroutine.specs.declared.goroutine.Child.{Child}
use Rattle.rgo_goroutine.specs.declared.goroutine.Goroutine.{Goroutine}
use Rattle.rgo_goroutine.specs.declared.turning.TableTurnEnd.TheVariants as stop
use Rattle.rgo_goroutine.specs.declared.turning.Turned.{Turned}
use Rattle.rgo_goroutine.proofs.Handing.{one_valid, one_void}
use Rattle.rgo_goroutine.proofs.Looking.{near_same}

its : (x a : Access) (i : ℕ) → get_elem? (x ∷ []) i ≡ some a → x ≡ a
its x a zero e = some-injective x a e
its x a (suc i) e = absurd (some-ne-none a (sym e))

none_found : FoundEnd 1 (end_at 5) → ⊥
none_found (n, late, f) =
    let e = ap (λ (a : Access). a.found) (its (access 1 EndRun 0 5 5) f.access f.place f.there) in
    let found = f.found in
    absurd (omega (arith, late, e, found))

not_zero : ◌≡◌ {A = Option ℕ} (Some 1) (Some 0) → ⊥
not_zero e = cc

not_its : FoundEnd 0 (end_at 9223372036854775813) → ⊥
not_its (n, late, f) =
    not_zero
    (ap (λ (a : Access). a.by) (its (access 1 EndRun 0 9223372036854775813 9223372036854775813) f.access f.place f.there) ∙ f.own)

not_early : (r : Run) (old new : Goroutine) → printed_byte_count new.prints.items < 65536 → TurnStops r old new 10 3 0 [] stop.Went → ⊥
not_early r old new few (first, inl (inl all)) = absurd (omega (arith, all))
not_early r old new few (first, inl (inr told)) = absurd (omega (arith, told))
not_early r old new few (first, inr (inl much)) = absurd (omega (arith, few, much))
not_early r old new few (first, inr (inr (n, late, f))) = some-ne-none f.access (sym f.there)

some_frames : (w : WordFrame) (ws : List WordFrame) → ◌≡◌ {A = List WordFrame} (w ∷ ws) [] → ⊥
some_frames w ws e = cc

some_duties : (d : Duty) (ds : List Duty) → ◌≡◌ {A = List Duty} (d ∷ ds) [] → ⊥
some_duties d ds e = cc

some_children : (child : Child) (later : List Child) → ◌≡◌ {A = List Child} (child ∷ later) [] → ⊥
some_children child later e = cc

not_still : (r : Run) (old new : Goroutine) (left : ℕ) (near : IsNear r old new left) → number_of old.actor.seat.me ≡ 1
    → near.es ≡ access 1 EndRun 0 5 6 ∷ [] → ⊥
not_still r old new left near is es =
    let words = subst (ChangesNothingBy (number_of old.actor.seat.me)) es near.rests.words in
    let e = words 0 (access 1 EndRun 0 5 6) refl (ap {B = Option ℕ} Some (sym is)) in
    absurd (omega (arith, e))

not_unmoved : (r : Run) (old new : Goroutine) (slice : ℕ) (turned : Turned) (h : HasTurned r old new slice turned)
    → number_of old.actor.seat.me ≡ 1 → h.es ≡ access 1 ClaimPage 40 0 1 ∷ [] → turned.moved ≡ false → ⊥
not_unmoved r old new slice turned h is es none =
    let words = subst (ChangesNothingBy (number_of old.actor.seat.me)) es (h.still none).1.words in
    let e = words 0 (access 1 ClaimPage 40 0 1) refl (ap {B = Option ℕ} Some (sym is)) in
    absurd (omega (arith, e))

pub turn_examples : TurnExamples
turn_examples = record {
  no_access = λ r go n es turns. let some = turns.some in absurd (omega (arith, some));
  too_many = λ r old new slice turned more has. let within = has.within in absurd (omega (arith, more, within));
  used_up = λ r go. (refl, inl (inl refl));
  told_all = λ r go. (refl, inl (inr refl));
  printed_much = λ r go much. (refl, inr (inl much));
  too_early = not_early;
  found_end = (
    9223372036854775813,
    omega arith,
    record {
      place = 0;
      access = access 1 EndRun 0 9223372036854775813 9223372036854775813;
      there = refl;
      own = refl;
      of_kind = refl;
      word = refl;
      found = refl;
    },
  );
  found_none = none_found;
  of_another = not_its;
  in_call = λ c w ws some over. some_frames w ws (sym some ∙ over.frames);
  owing = λ c d ds some over. some_duties d ds (sym some ∙ over.duties);
  locked = λ c taken tidy. taken tidy.hold;
  near = near_same;
  changed = not_still;
  claimed = not_unmoved;
  too_large = λ T g c es lacks. lacks;
}

void_out : (p q : Print) → p.is_void ≡ true → q.is_void ≡ false → valid (p ∷ q ∷ []) ≡ q ∷ []
void_out p q void other = one_void p (q ∷ []) (ap not void) ∙ one_valid q [] (ap not other)

first_is : (p q : Print) → p ∷ q ∷ [] ≡ q ∷ p ∷ [] → p ≡ q
first_is p q e = cc

in_front : (old new : Goroutine) (p q : Print) → (p ≡ q → ⊥) → p.is_void ≡ false → old.prints.items ≡ p ∷ []
    → Gathers old new (q ∷ []) (p ∷ q ∷ []) 1 → ⊥
in_front old new p q other is_valid prints gathers =
    other
    (first_is p q
    (gathers.are ∙ ap (λ (ps : List Print). (q ∷ []) ++ valid ps) prints
    ∙ ap (λ (ps : List Print). (q ∷ []) ++ ps) (one_valid p [] (ap not is_valid))))

reversed : (T : Setup) (a b : Child) → rows_of_children T (a ∷ b ∷ []) ≡ rows_of_children T (b ∷ a ∷ []) → a.number ≡ b.number
reversed T a b e = ap (λ (l : Rows Record). number_in l) e

-- lists of different lengths
one_less : (x y : List Access) → ◌≡◌ {A = List (List Access)} (x ∷ y ∷ []) (x ∷ []) → ⊥
one_less x y e = let n = ap (λ (l : List (List Access)). length l) e in absurd (omega (arith, n))

pub passing_examples : ChildExamples
passing_examples = record {
  newest_first = λ a b. refl;
  oldest_first = λ T a b. refl;
  not_newest_first = λ T a b other e. other (reversed T a b e);
  each_has_seen = λ a b. refl;
  none_left_out = λ a b e. one_less a.actor.seat.me.0.seen b.actor.seat.me.0.seen e;
  begins_tidy = λ frame. record { hold = refl; make = refl; claim = refl; give = refl };
  begins_locked = λ r child locked is. locked is.tidy.hold;
  all_bytes = λ p q three four. omega (arith, three, four);
  not_one_each = λ p q three is. absurd (omega (arith, three, is));
  one_void = void_out;
  left_behind = λ r old new list longer_list n child later some adopts. some_children child later (sym some ∙ adopts.none);
  one_more = λ r go born. born;
  swapped = in_front;
  behind = λ r go some of. some of.settled;
}
