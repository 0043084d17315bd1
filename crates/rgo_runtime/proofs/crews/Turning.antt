-- What a turn between two meetings with the driver comes to. By `MeetsAgain` the turn's accesses come right after what the driver had seen,
-- so what the goroutine found is true of the words then (`passes_by_turn`). While others have their turns without a move, it stays true
-- (`stays_passed`).
use Rattle.std.proofs.Common.{◌≡◌, ◌+◌, ◌<◌, ◌≤◌, ◌^◌, ℕ, true, false, List, [], ◌∷◌, ◌++◌, Option, Some, None, get_or, length, refl, sym, ap, ◌∙◌, subst, inl, inr, arith, set}
use Rattle.std.specs.List.{AllZip, Contains}
use Rattle.std.proofs.lemmas.List.{append-nil, get_or-set_same, length-set}
use Rattle.std.proofs.lemmas.List.Elements.{All-nil, All-push, Contains-append_left, Contains-get_or, Contains-push}
use Rattle.rgo_core.specs.Core.{Setup}
use Rattle.rgo_core.specs.Records.{Record, accesses, steps_of}
use Rattle.rgo_core.specs.Rule.Histories.{accesses_by}
use Rattle.rgo_core.specs.Rule.Views.{number_of}
use Rattle.rgo_core.specs.Rule.declared.accesses.Access.{Access}
use Rattle.rgo_sound.specs.Machine.declared.limits.Shortage.{Shortage}
use Rattle.rgo_table_runs.specs.Goroutine.Acts.Runs.{Run}
use Rattle.rgo_table_runs.specs.Goroutine.Goroutines.{IsTidy, record_of_goroutine}
use Rattle.rgo_table_runs.specs.Goroutine.Turns.{HasTurned}
use Rattle.rgo_table_runs.specs.Goroutine.declared.goroutine.Goroutine.{Goroutine}
use Rattle.rgo_table_runs.specs.Goroutine.declared.turning.Turned.{Turned}
use Rattle.rgo_table_runs.specs.passing.Turns.{HasPassed, AccessesAreKnown}
use Rattle.rgo_table_runs.proofs.passing.Turning.{passes_by_turn, stays_passed}
use Rattle.rgo_runtime.specs.declared.deadlock.Passed.{Passed}
use Rattle.rgo_runtime.specs.declared.deadlock.Passed.TheVariants.{Lacks, Moved, Still}
use Rattle.rgo_runtime.specs.Passing.{AreLacks, TurnComesTo, TurnHasComeTo, HasPassedBy, HasPassedWith, HasStoodStill, HasTurnedOnce, IsBehind, IsKnownBy, IsStuck, MayHaveTurned, OneMoved, PassComesTo, TurnsBetween, is_moved, joined_with, seen_by}
use Rattle.rgo_runtime.proofs.passes.Meetings.{Meets, MeetsAgain, after_is, first_seen, known_after, now_behind, then_seen}
use Rattle.rgo_runtime.proofs.lists.Sweeps.{zip_push, zip_weaker}

-- it made an access in its turn
some_made : (a b n : ℕ) → b ≡ a + n → a < b → 0 < n
some_made a b n e l = omega arith

-- ---- one turn

-- a goroutine that was behind and had made few instructions has met its driver, had a turn, and has met it again
pub record HasATurn (r : Run) (a b c d : Goroutine) (before between after : List Access) (turned : Turned) : Type 0 where
  pub few : steps_of (record_of_goroutine r.setup a) ≤ 2 ^ 42
  pub first : Meets r.setup a b before between
  pub turns : HasTurned r b c 1 turned
  pub second : Meets r.setup c d between after
  pub behind : IsBehind before a
  pub tidy : IsTidy (record_of_goroutine r.setup c)

module _ (r : Run) (a b c d : Goroutine) (before between after : List Access) (turned : Turned)
    (m : HasATurn r a b c d before between after turned) where
  again : MeetsAgain r.setup a b c d before between after m.turns.es
  again = record { first = m.first; more = m.turns.turns.grew.seen; second = m.second }

  turn_seen : after ≡ before ++ m.turns.es
  turn_seen = after_is r.setup a b c d before between after m.turns.es again m.behind

  turned_once : HasTurnedOnce r a d turned
  turned_once = record { first = b; last = c; met = m.first.met; few = m.few; turns = m.turns; meets = m.second.met }

  known_then : AccessesAreKnown (seen_by c) (number_of b.actor.seat.me) (accesses (record_of_goroutine r.setup c))
  known_then = record {
    early = seen_by c;
    later = [];
    is = sym (append-nil (seen_by c));
    own = m.turns.turns.grew.counts (some_made (accesses (record_of_goroutine r.setup b)) (accesses (record_of_goroutine r.setup c))
        (accesses_by (number_of b.actor.seat.me) m.turns.es) m.turns.turns.grew.more m.turns.turns.some);
  }

  turn_known : IsKnownBy r.setup after d
  turn_known = known_after r.setup a b c d before between after m.turns.es again m.behind (number_of b.actor.seat.me) known_then
      (sym m.turns.turns.grew.same)

  known_first : (start : List Access) → IsKnownBy r.setup start a → AccessesAreKnown start (number_of b.actor.seat.me) (accesses (record_of_goroutine r.setup b))
  known_first start k =
      subst (λ (g : ℕ). AccessesAreKnown start g (accesses (record_of_goroutine r.setup b))) (sym m.first.met.number)
      (subst (λ (n : ℕ). AccessesAreKnown start (number_of a.actor.seat.me) n) (ap accesses (sym m.first.met.its)) k)

  passed_then : (start front : List Access) (lack : Option Shortage) → before ≡ start ++ front → IsKnownBy r.setup start a → IsStuck turned lack
      → HasPassed r.setup start (seen_by c) (number_of b.actor.seat.me) (record_of_goroutine r.setup c) lack
  passed_then start front lack is known stuck =
      passes_by_turn r b c 1 turned start front lack
      (first_seen r.setup a b c d before between after m.turns.es again m.behind ∙ is)
      (known_first start known)
      m.turns
      (m.turns.still stuck.0).1.words
      m.tidy
      stuck.1

  passed_with : (start front : List Access) (lack : Option Shortage) → before ≡ start ++ front → IsKnownBy r.setup start a → IsStuck turned lack
      → HasPassedWith r.setup start after d lack
  passed_with start front lack is known stuck =
      let seen : seen_by c ≡ after = then_seen r.setup a b c d before between after m.turns.es again m.behind ∙ sym turn_seen in
      let number : number_of b.actor.seat.me ≡ number_of d.actor.seat.me = sym m.turns.turns.grew.same ∙ sym m.second.met.number in
      subst (λ (l : List Access). HasPassed r.setup start l (number_of d.actor.seat.me) (record_of_goroutine r.setup d) lack) seen
      (subst (λ (g : ℕ). HasPassed r.setup start (seen_by c) g (record_of_goroutine r.setup d) lack) number
      (subst (λ (x : Record). HasPassed r.setup start (seen_by c) (number_of b.actor.seat.me) x lack) (sym m.second.met.its)
      (passed_then start front lack is known stuck)))

  turn_passed : (passed : Passed) → TurnComesTo turned passed → (start front : List Access) → before ≡ start ++ front → IsKnownBy r.setup start a
      → HasPassedBy r.setup start after d passed
  turn_passed Moved comes start front is known = tt
  turn_passed Still comes start front is known = passed_with start front None is known comes
  turn_passed (Lacks why) comes start front is known = passed_with start front (Some why) is known comes

  turn_comes : (passed : Passed) → TurnComesTo turned passed → TurnHasComeTo r passed a d
  turn_comes Moved comes = inr (turned, turned_once, comes)
  turn_comes Still comes = (turned, turned_once, comes)
  turn_comes (Lacks why) comes = (turned, turned_once, comes)

  pub turns_between : (passed : Passed) → TurnComesTo turned passed → TurnsBetween r before after a d passed
  turns_between passed comes = record {
    come = turn_comes passed comes;
    es = m.turns.es;
    seen = turn_seen;
    behind = now_behind r.setup c d between after m.second;
    known = λ _. turn_known;
    tidy = λ _. subst IsTidy (sym m.second.met.its) m.tidy;
    passes = turn_passed passed comes;
  }

-- its instructions are too many
pub no_turn : (r : Run) (before : List Access) (go : Goroutine) → 2 ^ 42 < steps_of (record_of_goroutine r.setup go) → IsBehind before go
    → TurnsBetween r before before go go Moved
no_turn r before go many behind = record {
  come = inl (record { same = refl; many = many });
  es = [];
  seen = sym (append-nil before);
  behind = behind;
  known = λ k. k;
  tidy = λ k. k;
  passes = λ start front is k. tt;
}

-- ---- all turns

pub unchanged : (r : Run) (go : Goroutine) → MayHaveTurned r go go
unchanged r go = inl refl

pub may_turn : (r : Run) (old new : Goroutine) → HasStoodStill r old new → MayHaveTurned r old new
may_turn r old new k = inr (k.0, k.1)

pub may_have : (r : Run) (passed : Passed) (old new : Goroutine) → TurnHasComeTo r passed old new → MayHaveTurned r old new
may_have r Moved old new (inl none) = inl none.same
may_have r Moved old new (inr k) = inr (k.0, k.1)
may_have r Still old new k = inr (k.0, k.1)
may_have r (Lacks why) old new k = inr (k.0, k.1)

pub still_by : (r : Run) (passed : Passed) (old new : Goroutine) → is_moved passed ≡ false → TurnHasComeTo r passed old new → HasStoodStill r old new
still_by r Moved old new e k = absurd (cc e)
still_by r Still old new e k = (k.0, k.1, k.2.0)
still_by r (Lacks why) old new e k = (k.0, k.1, k.2.0)

-- a goroutine whose turn moved is one of them
pub one_moved : (r : Run) (olds gos : List Goroutine) (i : ℕ) (old new : Goroutine) (passed : Passed) → is_moved passed ≡ true → i < length olds
    → i < length gos → old ≡ get_or olds i old → TurnHasComeTo r passed old new → OneMoved r olds (set gos i new)
one_moved r olds gos i old new Still e l k at come = absurd (cc e)
one_moved r olds gos i old new (Lacks why) e l k at come = absurd (cc e)
one_moved r olds gos i old new Moved e l k at come = record {
  was = old;
  is = new;
  of_old = subst (Contains olds) (sym at) (Contains-get_or olds i old l);
  of_new = subst (Contains (set gos i new)) (get_or-set_same gos i new new k) (Contains-get_or (set gos i new) i new (omega (arith, length-set gos i new, k)));
  moved = come;
}

-- ---- what all lack

-- it stays so while others have their turns
pub pass_on : (T : Setup) (start before after es : List Access) → after ≡ before ++ es → (gos : List Goroutine) (lacks : List (Option Shortage))
    → AllZip (HasPassedWith T start before) gos lacks → AllZip (HasPassedWith T start after) gos lacks
pass_on T start before after es more gos lacks all =
    zip_weaker (HasPassedWith T start before) (HasPassedWith T start after) (λ go lack k.
    subst (λ (l : List Access). HasPassedWith T start l go lack) (sym more)
    (stays_passed T start before es (number_of go.actor.seat.me) (record_of_goroutine T go) lack k)) gos lacks all

-- what one goroutine more lacks
lack_of : Passed → Option Shortage
lack_of Moved = None
lack_of Still = None
lack_of (Lacks why) = Some why

lacks_more : (next : Passed) (passed : Passed) (lacks : List (Option Shortage)) → is_moved next ≡ false → AreLacks passed lacks
    → AreLacks (joined_with passed next) (lacks ++ lack_of next ∷ [])
unfolding lack_of
lacks_more Moved passed lacks e are = absurd (cc e)
lacks_more (Lacks why) passed lacks e are = Contains-push lacks (Some why)
lacks_more Still Moved lacks e are = absurd are
lacks_more Still Still lacks e are = All-push (λ lack. lack ≡ None) lacks None are refl
lacks_more Still (Lacks why) lacks e are = Contains-append_left lacks (None ∷ []) (Some why) are

passes_as : (T : Setup) (start after : List Access) (go : Goroutine) (next : Passed) → is_moved next ≡ false → HasPassedBy T start after go next
    → HasPassedWith T start after go (lack_of next)
unfolding lack_of
passes_as T start after go Moved e k = absurd (cc e)
passes_as T start after go Still e k = k
passes_as T start after go (Lacks why) e k = k

-- the first goroutines have passed, each with what it lacks
abbrev pub HavePassed : Setup → (start seen : List Access) → List Goroutine → Passed → Type 0
HavePassed T start seen gos passed = (lacks : List (Option Shortage)) × AllZip (HasPassedWith T start seen) gos lacks × AreLacks passed lacks

pub none_passed : (T : Setup) (start : List Access) → HavePassed T start start [] Still
none_passed T start = ([], tt, All-nil (λ lack. lack ≡ None))

pub one_passed : (T : Setup) (start before after es : List Access) (gos : List Goroutine) (go : Goroutine) (passed next : Passed)
    → after ≡ before ++ es → is_moved next ≡ false → HavePassed T start before gos passed → HasPassedBy T start after go next
    → HavePassed T start after (gos ++ go ∷ []) (joined_with passed next)
one_passed T start before after es gos go passed next more e k its = (
  k.0 ++ lack_of next ∷ [],
  zip_push (HasPassedWith T start after) gos k.0 go (lack_of next) (pass_on T start before after es more gos k.0 k.1)
      (passes_as T start after go next e its),
  lacks_more next passed k.0 e k.2,
)

pub all_still : (r : Run) (start seen : List Access) (old new : List Goroutine) (passed : Passed) → AllZip (HasStoodStill r) old new
    → HavePassed r.setup start seen new passed → PassComesTo r start seen old new passed
all_still r start seen old new Moved turned k = absurd k.2
all_still r start seen old new Still turned k = record { turned = turned; lacks = k.0; passes = k.1; are = k.2 }
all_still r start seen old new (Lacks why) turned k = record { turned = turned; lacks = k.0; passes = k.1; are = k.2 }
