-- Examples of what is known of goroutines in a pass, and of what is not.
use Rattle.std.proofs.Common.{◌≡◌, ℕ, zero, suc, false, List, [], ◌∷◌, ◌++◌, Some, None, Contains, length, refl, sym, ap, ◌∙◌, subst, inl, arith}
use Rattle.std.specs.List.{AllZip}
use Rattle.std.proofs.lemmas.List.{append-nil}
use Rattle.std.proofs.lemmas.List.Elements.{All-cons, All-head, All-nil, All-tail}
use Rattle.rgo_core.specs.Records.{Record, accesses, looked}
use Rattle.rgo_core.specs.Rule.Histories.{accesses_by}
use Rattle.rgo_core.specs.Rule.Views.{number_of}
use Rattle.rgo_core.specs.Rule.declared.accesses.Access.{Access}
use Rattle.rgo_core_steps.specs.Seats.{mine}
use Rattle.rgo_sound.specs.Machine.declared.limits.Shortage.TheVariants.{Pages, Regions}
use Rattle.rgo_table_runs.specs.Goroutine.Acts.Runs.{Run}
use Rattle.rgo_table_runs.specs.Goroutine.Goroutines.{record_of_goroutine}
use Rattle.rgo_table_runs.specs.Goroutine.declared.goroutine.Goroutine.{Goroutine}
use Rattle.rgo_table_runs.specs.Goroutine.declared.turning.TableTurnEnd.{TableTurnEnd}
use Rattle.rgo_table_runs.specs.Goroutine.declared.turning.TableTurnEnd.TheVariants as stop
use Rattle.rgo_table_runs.specs.Goroutine.declared.turning.Turned.{Turned}
use Rattle.rgo_table_runs.specs.passing.Laws.{Tells}
use Rattle.rgo_table_runs.specs.passing.Turns.{AccessesAreKnown}
use Rattle.rgo_runtime.specs.Passing.{HasLookedOnce, HasMet, HasTurnedOnce, IsStuck, PassingExamples, look}
use Rattle.rgo_runtime.proofs.leaving.One.{none_in}
use Rattle.rgo_runtime.proofs.crews.Turning.{no_turn}

none_known : (g n : ℕ) → AccessesAreKnown [] g n → n ≡ 1 → ⊥
none_known g n k one = by k.early k.later k.is k.own
  where
    by : (early later : List Access) → [] ≡ early ++ later → n ≡ accesses_by g early → ⊥
    by [] later is own = let z : n ≡ 0 = own in omega (arith, z, one)
    by (a ∷ early) later is own = cc is

none_before_none : (before since : List Access) → [] ≡ before ++ since → before ≡ []
none_before_none [] since is = refl
none_before_none (a ∷ before) since is = cc is

-- why a turn was over implies one result only
one_lack : (why : TableTurnEnd) → Tells why None → Tells why (Some Pages) → ⊥
one_lack stop.Went p q = p
one_lack (stop.Blocked at operation) p q = cc q
one_lack (stop.Lost at) p q = cc q
one_lack stop.Ended p q = p
one_lack (stop.Stopped mark) p q = p
one_lack (stop.Short why) p q = cc p
one_lack stop.NoMemory p q = p

outrun : (turned : Turned) → turned.moved ≡ false → turned.stop ≡ stop.Lost 8 → IsStuck turned None
outrun turned still lost = (still, subst (λ (s : TableTurnEnd). Tells s None) (sym lost) refl)

no_slots : Contains (None ∷ Some Pages ∷ []) (Some Regions) → ⊥
no_slots (zero, within, is) = cc is
no_slots (suc zero, within, is) = cc is
no_slots (suc (suc k), within, is) = omega (arith, within)

no_other : {A B : Type 0} (R : A → B → Type 0) (ys : List B) → AllZip R [] ys → ys ≡ []
no_other R [] all = refl
no_other R (y ∷ ys) all = absurd all

none_before : {A B : Type 0} (R : A → B → Type 0) (xs : List A) → AllZip R xs [] → xs ≡ []
none_before R [] all = refl
none_before R (x ∷ xs) all = absurd all

-- a look counts
more_accesses : (c : Record) → c ≡ looked c → ⊥
more_accesses c e = let z : accesses c ≡ suc (accesses c) = ap accesses e in omega (arith, z)

-- so does a turn
no_turn_unseen : (r : Run) (go : Goroutine) (turned : Turned) → HasTurnedOnce r go go turned → ⊥
no_turn_unseen r go turned k =
    let a : accesses (record_of_goroutine r.setup k.first) ≡ accesses (record_of_goroutine r.setup go) = ap accesses k.met.its in
    let b : accesses (record_of_goroutine r.setup go) ≡ accesses (record_of_goroutine r.setup k.last) = ap accesses k.meets.its in
    omega (arith, a, b, k.turns.turns.some)

pub passing : PassingExamples
passing = record {
  behind = λ go e. let n : length go.actor.seat.me.0.seen ≡ 1 = ap length e in omega (arith, n);
  ahead = λ go e l. let n : length go.actor.seat.me.0.seen ≡ 1 = ap length e in omega (arith, n, l);
  known = λ T go number count. record {
    early = look ∷ [];
    later = [];
    is = refl;
    own = count ∙ sym (ap (λ (g : ℕ). accesses_by g (look ∷ [])) number);
  };
  unknown = λ T go count k. none_known (number_of go.actor.seat.me) (accesses (record_of_goroutine T go)) k count;
  met = λ T go. record { rest = refl; its = refl; number = refl };
  not_met = λ T old new l m.
      let a : accesses (record_of_goroutine T new) ≡ suc (accesses (record_of_goroutine T old)) = ap accesses l.its in
      let b : accesses (record_of_goroutine T new) ≡ accesses (record_of_goroutine T old) = ap accesses m.its in
      omega (arith, a, b);
  has_looked = λ T old new c rest was is. record {
    rest = rest;
    its = ap (mine T) is ∙ sym (ap (λ me. looked (mine T me)) was);
    number = ap number_of is ∙ sym (ap number_of was);
  };
  not_looked = λ T old new changed l. changed (ap (λ (x : Goroutine). x.prints) l.rest);
  not_between = λ T before after go k. more_accesses (record_of_goroutine T go) (k.looked.its);
  not_once = λ r old new turned two k. omega (arith, two, k.turns.within);
  not_still = λ r old new k one. let none = (k.1.turns.still k.2).0 in omega (arith, none, one);
  stuck = outrun;
  not_stuck = λ turned lack moved k. let still = k.0 in cc;
  comes = λ turned ended lack k. subst (λ (s : TableTurnEnd). Tells s lack) ended k.1;
  not_comes = λ turned still lost comes. comes None (outrun turned still lost);
  one = λ turned p q. one_lack turned.stop p.1 q.1;
  stays = λ r go. inl refl;
  not_stays = λ r old new changed k. changed (ap (λ (x : Goroutine). x.number) k.same);
  counts = λ r go many. inl (record { same = refl; many = many });
  not_counts = λ r go k. no_turn_unseen r go k.0 k.1;
  none_between = λ r seen go many behind. no_turn r seen go many behind;
  not_later = λ r old new passed k. let is = k.seen in cc;
  joined = refl;
  not_joined = λ e. cc;
  lack = (1, omega arith, refl);
  no_lack = no_slots;
  none = All-cons (λ lack. lack ≡ None) None (None ∷ []) refl
      (All-cons (λ lack. lack ≡ None) None [] refl (All-nil (λ lack. lack ≡ None)));
  some = λ all.
      let e = All-head (λ lack. lack ≡ None) (Some Pages) [] (All-tail (λ lack. lack ≡ None) None (Some Pages ∷ []) all) in
      cc;
  all = λ r seen. record {
    met = [];
    looked = [];
    meets = tt;
    looks = tt;
    turns = tt;
    before = seen;
    since = [];
    is = sym (append-nil seen);
    come = record { turned = tt; lacks = []; passes = tt; are = All-nil (λ lack. lack ≡ None) };
    retired = λ g its has. absurd (none_in (g, its) has);
  };
  nobody = λ r me p.
      let met = no_other (HasMet r.setup) p.met p.meets in
      let looked = no_other (HasLookedOnce r.setup) p.looked (subst (λ l. AllZip (HasLookedOnce r.setup) l p.looked) met p.looks) in
      let there = subst (λ l. Contains l p.come.was) looked p.come.of_old in
      omega (arith, there.1);
  lost = λ r me go passed p.
      let looked = none_before _ p.looked p.turns in
      let met = none_before (HasLookedOnce r.setup) p.met (subst (λ l. AllZip (HasLookedOnce r.setup) p.met l) looked p.looks) in
      subst (λ l. AllZip (HasMet r.setup) (go ∷ []) l) met p.meets;
  unknown_row = λ r its one p.
      let before = none_before_none p.before p.since p.is in
      none_known 1 (accesses its) (subst (λ (l : List Access). AccessesAreKnown l 1 (accesses its)) before (p.retired 1 its (0, refl))) one;
}
