-- What a goroutine and its driver have seen after they have met. A meeting gives both the longer of the two lists. A goroutine that was
-- behind has then seen what the driver had, so what it does until the next meeting comes right after that: the driver's list only grows
-- (`after_is`).
use Rattle.std.proofs.Common.{◌≡◌, ◌<◌, ◌≤◌, ℕ, Bool, true, false, ltb, if◌then◌else◌, List, [], ◌∷◌, ◌++◌, length, refl, sym, ap, ◌∙◌, subst, append_assoc, arith, length-append}
use Rattle.std.specs.List.{All}
use Rattle.std.proofs.lemmas.Bool.Decides.{nat_tests}
use Rattle.std.proofs.lemmas.List.Elements.{All-weaker}
use Rattle.rgo_core.specs.Core.{Setup}
use Rattle.rgo_core.specs.Records.{Record, accesses, looked}
use Rattle.rgo_core.proofs.Rule.Passes.{keeps, longer_front}
use Rattle.rgo_core.specs.Rule.Histories.{glance}
use Rattle.rgo_core.specs.Rule.Steps.{Glanced}
use Rattle.rgo_core.specs.Rule.Views.{HasRow, Me, Rows, longer, number_of}
use Rattle.rgo_core.specs.Rule.declared.accesses.Access.{Access}
use Rattle.rgo_core.specs.Rule.declared.accesses.Kind.TheVariants.{Load}
use Rattle.rgo_table_runs.specs.Goroutine.Acts.Runs.{Run}
use Rattle.rgo_table_runs.specs.Goroutine.Goroutines.{IsOf, IsTidy, record_of_goroutine}
use Rattle.rgo_table_runs.specs.Goroutine.Passing.{LoadsClock}
use Rattle.rgo_table_runs.specs.Goroutine.declared.goroutine.Goroutine.{Goroutine}
use Rattle.rgo_table_runs.specs.passing.Turns.{AccessesAreKnown}
use Rattle.rgo_table_runs.proofs.passing.Turning.{knows_by_look}
use Rattle.rgo_runtime.specs.Passing.{HasLookedOnce, HasMet, IsBehind, IsKnownBy, IsTidyIn, LooksBetween, seen_by}

-- ---- the longer of two lists

pick : Bool → List Access → List Access → List Access
pick b xs ys = if b then ys else xs

-- it is as long as both
pub at_least : (xs ys : List Access) → (length xs ≤ length (longer xs ys)) × (length ys ≤ length (longer xs ys))
at_least xs ys = go (ltb (length xs) (length ys)) refl
  where
    go : (b : Bool) → ltb (length xs) (length ys) ≡ b
        → (length xs ≤ length (if b then ys else xs)) × (length ys ≤ length (if b then ys else xs))
    go true e = (let z : length xs < length ys = grind (arith, nat_tests) in omega arith, omega arith)
    go false e = (omega arith, let z : length ys ≤ length xs = grind (arith, nat_tests) in z)

-- ---- what has not changed

-- only the seat of a goroutine has changed
abbrev pub HasOnlySeat : (old new : Goroutine) → Type 0
HasOnlySeat old new = new ≡ record old { actor = record old.actor { seat = new.actor.seat } }

pub only_seat : (a b c : Goroutine) → HasOnlySeat a b → HasOnlySeat b c → HasOnlySeat a c
only_seat a b c p q = q ∙ ap (λ (x : Goroutine). record x { actor = record x.actor { seat = c.actor.seat } }) p

-- so it has kept its number
pub same_number : (r : Run) (a b : Goroutine) → IsOf r a → IsOf r b → HasOnlySeat a b → number_of b.actor.seat.me ≡ number_of a.actor.seat.me
same_number r a b of_a of_b p = sym of_b.number ∙ (ap (λ (x : Goroutine). x.number) p ∙ of_a.number)

-- ---- a meeting

-- the driver had seen `before`, and `after` once they have met
pub record Meets (T : Setup) (old new : Goroutine) (before after : List Access) : Type 0 where
  pub met : HasMet T old new
  pub seat : after ≡ longer before (seen_by old)
  pub seen : seen_by new ≡ longer before (seen_by old)

pub met_by : (r : Run) (old new : Goroutine) (before after : List Access) → IsOf r old → IsOf r new → after ≡ longer before (seen_by old)
    → seen_by new ≡ longer before (seen_by old) → HasOnlySeat old new → record_of_goroutine r.setup new ≡ record_of_goroutine r.setup old
    → Meets r.setup old new before after
met_by r old new before after of_old of_new seat seen rest its = record {
  met = record { rest = rest; its = its; number = same_number r old new of_old of_new rest };
  seat = seat;
  seen = seen;
}

pub now_behind : (T : Setup) (old new : Goroutine) (before after : List Access) → Meets T old new before after → IsBehind after new
now_behind T old new before after m =
    let a : length (seen_by new) ≡ length after = ap length (m.seen ∙ sym m.seat) in
    omega (arith, a)

-- whoever was behind still is
pub still_behind : (before after : List Access) → length before ≤ length after → (gos : List Goroutine) → All (IsBehind before) gos
    → All (IsBehind after) gos
still_behind before after more gos all = All-weaker (IsBehind before) (IsBehind after) (λ go l. omega (arith, l, more)) gos all

pub all_behind_more : (before after es : List Access) → after ≡ before ++ es → (gos : List Goroutine) → All (IsBehind before) gos
    → All (IsBehind after) gos
all_behind_more before after es more gos all =
    let a : length after ≡ length (before ++ es) = ap length more in
    still_behind before after (omega (arith, a, length-append before es)) gos all

known_more : (T : Setup) (before more : List Access) (go : Goroutine) → IsKnownBy T before go → IsKnownBy T (before ++ more) go
known_more T before more go k = knows_by_look.stays before more (number_of go.actor.seat.me) (accesses (record_of_goroutine T go)) k

all_known_more : (T : Setup) (before more : List Access) (gos : List Goroutine) → All (IsKnownBy T before) gos
    → All (IsKnownBy T (before ++ more)) gos
all_known_more T before more gos all = All-weaker (IsKnownBy T before) (IsKnownBy T (before ++ more)) (known_more T before more) gos all

pub all_known_after : (T : Setup) (before after es : List Access) → after ≡ before ++ es → (gos : List Goroutine)
    → All (IsKnownBy T before) gos → All (IsKnownBy T after) gos
all_known_after T before after es more gos all =
    subst (λ (l : List Access). All (IsKnownBy T l) gos) (sym more) (all_known_more T before es gos all)

-- ---- accesses between two meetings

-- a goroutine that was behind has met its driver, has then seen the accesses `es` as well, and has met it again
pub record MeetsAgain (T : Setup) (a b c d : Goroutine) (before between after es : List Access) : Type 0 where
  pub first : Meets T a b before between
  pub more : seen_by c ≡ seen_by b ++ es
  pub second : Meets T c d between after

module _ (T : Setup) (a b c d : Goroutine) (before between after es : List Access) (m : MeetsAgain T a b c d before between after es)
    (behind : IsBehind before a) where
  kept : longer before (seen_by a) ≡ before
  kept = keeps before (seen_by a) behind

  pub first_seen : seen_by b ≡ before
  first_seen = m.first.seen ∙ kept

  pub then_seen : seen_by c ≡ before ++ es
  then_seen = m.more ∙ ap (λ (l : List Access). l ++ es) first_seen

  both : longer between (seen_by c) ≡ before ++ es
  both = ap (λ (l : List Access). longer l (seen_by c)) (m.first.seat ∙ kept) ∙ (ap (longer before) then_seen ∙ longer_front before es)

  pub after_is : after ≡ before ++ es
  after_is = m.second.seat ∙ both

  -- what is known of it then is known after it has met its driver again
  pub known_after : (n : ℕ) → AccessesAreKnown (seen_by c) n (accesses (record_of_goroutine T c)) → n ≡ number_of c.actor.seat.me → IsKnownBy T after d
  known_after n k is =
      let seen : seen_by c ≡ after = then_seen ∙ sym after_is in
      let number : n ≡ number_of d.actor.seat.me = is ∙ sym m.second.met.number in
      let count : accesses (record_of_goroutine T c) ≡ accesses (record_of_goroutine T d) = ap accesses (sym m.second.met.its) in
      subst (λ (l : List Access). AccessesAreKnown l (number_of d.actor.seat.me) (accesses (record_of_goroutine T d))) seen
      (subst (λ (g : ℕ). AccessesAreKnown (seen_by c) g (accesses (record_of_goroutine T d))) number
      (subst (λ (x : ℕ). AccessesAreKnown (seen_by c) n x) count k))

-- ---- a look between two meetings

module _ (r : Run) (a b c d : Goroutine) (before between after : List Access) (ended : Bool) (first : Meets r.setup a b before between)
    (looks : LoadsClock r b c ended) (second : Meets r.setup c d between after) (behind : IsBehind before a) where
  look_again : MeetsAgain r.setup a b c d before between after looks.es
  look_again = record { first = first; more = looks.grew.seen; second = second }

  looked_once : HasLookedOnce r.setup a d
  looked_once = record {
    rest = only_seat a c d (only_seat a b c first.met.rest looks.rest) second.met.rest;
    its = second.met.its ∙ (looks.record_is ∙ ap looked first.met.its);
    number = second.met.number ∙ (looks.grew.same ∙ first.met.number);
  }

  pub looks_between : LooksBetween r.setup before after a d
  looks_between = record {
    looked = looked_once;
    es = looks.es;
    seen = after_is r.setup a b c d before between after looks.es look_again behind;
    behind = now_behind r.setup c d between after second;
    known = known_after r.setup a b c d before between after looks.es look_again behind (number_of b.actor.seat.me)
        (knows_by_look.looks r b c ended looks)
        (sym looks.grew.same);
  }

-- ---- a glance of the driver

module _ (m w : Me Record) (n : ℕ) (glanced : Glanced accesses m n w) where
  -- whoever was behind still is
  pub behind_glance : (gos : List Goroutine) → All (IsBehind m.0.seen) gos → All (IsBehind w.0.seen) gos
  behind_glance gos all =
      let now : List Access = glance Load n ∷ [] in
      all_behind_more m.0.seen w.0.seen (glanced.between ++ now) (glanced.seen ∙ append_assoc m.0.seen glanced.between now) gos all

  -- the accesses of those that had retired are known then, and stay known while more is seen
  pub known_by_glance : (later more : List Access) → later ≡ w.0.seen ++ more → (rows : Rows Record) → rows ≡ w.0.records → (g : ℕ) (its : Record)
      → HasRow rows g its → AccessesAreKnown later g (accesses its)
  known_by_glance later more is rows same g its has = record {
    early = w.0.seen;
    later = more;
    is = is;
    own = glanced.own g its (subst (λ (rs : Rows Record). HasRow rs g its) same has);
  }

-- ---- all of them are as tidy as they were

pub tidy_met : (T : Setup) (old new : Goroutine) → HasMet T old new → IsTidyIn T old → IsTidyIn T new
tidy_met T old new met tidy = subst IsTidy (sym met.its) tidy

pub tidy_looked : (T : Setup) (old new : Goroutine) → HasLookedOnce T old new → IsTidyIn T old → IsTidyIn T new
tidy_looked T old new k tidy =
    subst IsTidy (sym k.its) (record { hold = tidy.hold; make = tidy.make; claim = tidy.claim; give = tidy.give })
