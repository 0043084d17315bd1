-- The definitions of duties and of shortages, each where it holds and where it must not.
use Rattle.std.proofs.Common.{◌≡◌, ◌<◌, ℕ, zero, suc, List, [], ◌∷◌, Option, Some, refl, sym, ap, subst, ◌∙◌, length, arith, inl, inr}
use mathlib.Core.Option.{some, some-injective, some-ne-none}
use lib.ListN.{get_elem?}
use Rattle.rgo_core.specs.Rule.Histories.{access}
use Rattle.rgo_core.specs.Rule.Views.{number_of}
use Rattle.rgo_core.specs.Rule.declared.accesses.Access.{Access}
use Rattle.rgo_core.specs.Rule.declared.accesses.Kind.TheVariants.{ClaimPage, CreateRegion}
use Rattle.rgo_core.specs.Frames.shown.WordFrames.{WordFrame}
use Rattle.rgo_core.specs.Core.{Setup}
use Rattle.rgo_core.specs.Records.{Record}
use Rattle.rgo_core_steps.specs.Grown.{Found}
use Rattle.rgo_sound.specs.RegionMachine.States.{Duty}
use Rattle.rgo_body.specs.declared.bodies.Body.{Body}
use Rattle.rgo_core_steps.specs.Making.{NeedsPage}
use Rattle.rgo_acts.specs.Actors.{IsUnmoved}
use Rattle.rgo_acts.specs.DutyExamples.{DutyExamples, one_taken, two_taken}
use Rattle.rgo_acts.specs.Shortages.{AllInUse, LacksPage, LacksSlot}
use Rattle.rgo_acts.specs.declared.actors.Actor.{Actor}
use Rattle.rgo_acts.proofs.attending.Counts.{has_waited}

some_duties : (d : Duty) (ds : List Duty) → ◌≡◌ {A = List Duty} [] (d ∷ ds) → ⊥
some_duties d ds e = cc

some_frames : (w : WordFrame) (ws : List WordFrame) → ◌≡◌ {A = List WordFrame} [] (w ∷ ws) → ⊥
some_frames w ws e = cc

same_first : (d e : Duty) (ds es : List Duty) → d ∷ ds ≡ e ∷ es → d ≡ e
same_first d e ds es is = cc

each : (P : Access → Type 0) (x y : Access) → P x → P y → (i : ℕ) (a : Access) → get_elem? (x ∷ y ∷ []) i ≡ some a → P a
each P x y p q zero a e = subst P (some-injective x a e) p
each P x y p q (suc zero) a e = subst P (some-injective y a e) q
each P x y p q (suc (suc i)) a e = absurd (some-ne-none a (sym e))

taken : (k : ℕ) → k < 2 → (found : ℕ) × (found ≡ 0 → ⊥) × Found 1 two_taken CreateRegion k found
taken zero low = (
  2,
  (λ e. omega (arith, e)),
  record {
    place = 0;
    access = access 1 CreateRegion 0 2 2;
    there = refl;
    own = refl;
    of_kind = refl;
    word = refl;
    found = refl;
  },
)
taken (suc zero) low = (
  4,
  (λ e. omega (arith, e)),
  record {
    place = 1;
    access = access 1 CreateRegion 1 4 4;
    there = refl;
    own = refl;
    of_kind = refl;
    word = refl;
    found = refl;
  },
)
taken (suc (suc k)) low = absurd (omega (arith, low))

one_free : AllInUse 1 one_taken CreateRegion (λ k. k) 2 → ⊥
one_free all =
    let x = all 1 (omega arith) in
    x.1 (sym x.2.found ∙ each (λ a. a.word ≡ 1 → a.found ≡ 0) (access 1 CreateRegion 0 2 2) (access 1 CreateRegion 1 0 2)
    (λ e. absurd (omega (arith, e))) (λ e. refl) x.2.place x.2.access x.2.there x.2.word)

no_third : AllInUse 1 two_taken CreateRegion (λ k. k) 3 → ⊥
no_third all =
    let x = all 2 (omega arith) in
    each (λ a. a.word ≡ 2 → ⊥) (access 1 CreateRegion 0 2 2) (access 1 CreateRegion 1 4 4)
    (λ e. omega (arith, e)) (λ e. omega (arith, e)) x.2.place x.2.access x.2.there x.2.word

no_page : CreateRegion ≡ ClaimPage → ⊥
no_page e = cc

no_pages : AllInUse 1 two_taken ClaimPage (λ k. k) 1 → ⊥
no_pages all =
    let x = all 0 (omega arith) in
    each (λ a. a.kind ≡ ClaimPage → ⊥) (access 1 CreateRegion 0 2 2) (access 1 CreateRegion 1 4 4) no_page no_page
    x.2.place x.2.access x.2.there x.2.of_kind

not_zero : ◌≡◌ {A = Option ℕ} (Some 1) (Some 0) → ⊥
not_zero e = cc

not_its : AllInUse 0 two_taken CreateRegion (λ k. k) 1 → ⊥
not_its all =
    let x = all 0 (omega arith) in
    each (λ a. a.by ≡ Some 0 → ⊥) (access 1 CreateRegion 0 2 2) (access 1 CreateRegion 1 4 4) not_zero not_zero
    x.2.place x.2.access x.2.there x.2.own

makes_nothing : (T : Setup) (c : Record) (es : List Access) → c.frame.frames ≡ [] → LacksPage T 1 c es → ⊥
makes_nothing T c es frames lacks = by lacks.needs
  where
    by : NeedsPage T c lacks.slot → ⊥
    by (inl own) = some_frames own.next.here.w own.next.here.ws (sym frames ∙ own.next.here.frames)
    by (inr more) = some_frames more.next.here.w more.next.here.ws (sym frames ∙ more.next.here.frames)

owes_nothing : (T : Setup) (c : Record) (es : List Access) → c.frame.holder.duties ≡ [] → LacksSlot T 1 c es → ⊥
owes_nothing T c es duties lacks = some_duties _ lacks.creates.1 (sym duties ∙ lacks.creates.2)

unmoved : (T : Setup) (a : Actor) → IsUnmoved T a a two_taken
unmoved T a = record {
  words = λ i x there own.
      each (λ (k : Access). k.left ≡ k.found) (access 1 CreateRegion 0 2 2) (access 1 CreateRegion 1 4 4) refl refl i x there;
  frame = refl;
}

pub moved : (T : Setup) (a b : Actor) → number_of a.seat.me ≡ 1 → IsUnmoved T a b one_taken → ⊥
moved T a b its still =
    let e = still.words 1 (access 1 CreateRegion 1 0 2) refl (ap {B = Option ℕ} Some (sym its)) in
    absurd (omega (arith, e))

pub duty_examples : DutyExamples
duty_examples = record {
  nothing_owed = λ r a d none before. some_duties d before.others (sym none ∙ before.owes);
  other_first = λ r a d e other x y. other (same_first d e x.others y.others (sym x.owes ∙ y.owes));
  waits = λ r a s. has_waited r a a s refl refl (λ T c shows. shows) refl;
  not_done = λ r a done. let l = done.nearer in absurd (omega (arith, l));
  either = λ r a b done waits.
      let m = ap (λ q. length q) done.done.queue in
      let n = ap (λ (x : Body). length x.queue.duties) waits.rest in
      absurd (omega (arith, m, n));
  in_use = taken;
  one_free = one_free;
  three = no_third;
  pages = no_pages;
  of_another = not_its;
  unmoved = unmoved;
  moved = moved;
  not_short = λ r a b short its e. moved r.setup a b its (subst (IsUnmoved r.setup a b) e short.unmoved);
  no_slots = λ T c creates few. record { creates = creates; in_use = λ k low. absurd (omega (arith, few, low)) };
  idle = makes_nothing;
  free = owes_nothing;
}
