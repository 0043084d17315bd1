-- How a driver comes to know that a goroutine has passed. Its turn made an access, so its seat has seen the history up to there, and all
-- its own accesses with it.
use Rattle.std.proofs.Common.{◌≡◌, ◌+◌, ◌<◌, ℕ, suc, List, [], ◌++◌, Option, ap, sym, subst, ◌∙◌, inl, inr, arith, append_assoc}
use Rattle.std.proofs.lemmas.List.{append-nil}
use Rattle.rgo_core.specs.Records.{accesses}
use Rattle.rgo_core.specs.Rule.Histories.{accesses_by}
use Rattle.rgo_core.specs.Rule.Views.{number_of}
use Rattle.rgo_core.specs.Rule.declared.accesses.Access.{Access}
use Rattle.rgo_sound.specs.Machine.declared.limits.Shortage.{Shortage}
use Rattle.rgo_goroutine.specs.Acts.Runs.{Run}
use Rattle.rgo_goroutine.specs.Goroutines.{record_of_goroutine}
use Rattle.rgo_goroutine.specs.Turns.{TurnStops}
use Rattle.rgo_goroutine.specs.declared.goroutine.Goroutine.{Goroutine}
use Rattle.rgo_goroutine.specs.declared.turning.TableTurnEnd.{TableTurnEnd}
use Rattle.rgo_goroutine.specs.declared.turning.TableTurnEnd.TheVariants as stop
use Rattle.rgo_table_runs.specs.passing.Laws.{KnowsByLook, PassesByTurn, StaysPassed, Tells}
use Rattle.rgo_table_runs.specs.passing.Turns.{HadTurn, Over, HasStopped, StandsStill, Still}

pub stays_passed : StaysPassed
stays_passed T before history more g c lack k = record { tidy = k.tidy; stands = by k.stands }
  where
    by : HasStopped T before history g c lack → HasStopped T before (history ++ more) g c lack
    by (Over is known over) = Over is known over
    by (Still t stands) = Still (record {
      had = t.had;
      known = t.known;
      front = t.front;
      turn = t.turn;
      rest = t.rest ++ more;
      is = ap (λ (l : List Access). l ++ more) t.is ∙ append_assoc ((before ++ t.front) ++ t.turn) t.rest more;
      more = t.more;
      whole = t.whole;
      still = t.still;
    }) stands

-- it made an access, so its seat has seen all that it made
some_more : (a b n : ℕ) → b ≡ a + n → b ≡ suc a → 0 < n
some_more a b n e f = omega arith

pub knows_by_look : KnowsByLook
knows_by_look = record {
  looks = λ r old new ended k. record {
    early = new.actor.seat.me.0.seen;
    later = [];
    is = sym (append-nil new.actor.seat.me.0.seen);
    own = k.grew.counts (some_more (accesses (record_of_goroutine r.setup old)) (accesses (record_of_goroutine r.setup new)) (accesses_by (number_of old.actor.seat.me) k.es)
        k.grew.more (ap accesses k.record_is));
  };
  stays = λ before more g n k. record {
    early = k.early;
    later = k.later ++ more;
    is = ap (λ (l : List Access). l ++ more) k.is ∙ append_assoc k.early k.later more;
    own = k.own;
  };
}

turn_some : (a b n : ℕ) → b ≡ a + n → a < b → 0 < n
turn_some a b n e f = omega arith

stands_for : (r : Run) (old new : Goroutine) (slice n changed : ℕ) (es : List Access) (lack : Option Shortage) (why : TableTurnEnd) → Tells why lack
    → TurnStops r old new slice n changed es why → StandsStill r.setup (number_of old.actor.seat.me) (record_of_goroutine r.setup new) es lack
stands_for r old new slice n changed es lack (stop.Blocked at operation) is s =
    subst (λ (o : Option Shortage). StandsStill r.setup (number_of old.actor.seat.me) (record_of_goroutine r.setup new) es o) (sym is) (inl (at, s.1))
stands_for r old new slice n changed es lack (stop.Lost at) is s =
    subst (λ (o : Option Shortage). StandsStill r.setup (number_of old.actor.seat.me) (record_of_goroutine r.setup new) es o) (sym is) (inr (at, s.1))
stands_for r old new slice n changed es lack (stop.Short why) is s =
    subst (λ (o : Option Shortage). StandsStill r.setup (number_of old.actor.seat.me) (record_of_goroutine r.setup new) es o) (sym is) s.1
stands_for r old new slice n changed es lack stop.Went is s = absurd is
stands_for r old new slice n changed es lack stop.Ended is s = absurd is
stands_for r old new slice n changed es lack (stop.Stopped mark) is s = absurd is
stands_for r old new slice n changed es lack stop.NoMemory is s = absurd is

pub passes_by_turn : PassesByTurn
passes_by_turn r old new slice turned before front lack seen known h still tidy tells = record {
  tidy = tidy;
  stands = Still had (stands_for r old new slice turned.steps turned.changed.count h.es lack turned.stop tells h.stops);
}
  where
    whole_seen : new.actor.seat.me.0.seen ≡ (before ++ front) ++ h.es
    whole_seen = h.turns.grew.seen ∙ ap (λ (l : List Access). l ++ h.es) seen

    had : HadTurn before new.actor.seat.me.0.seen (number_of old.actor.seat.me) (record_of_goroutine r.setup new)
    had = record {
      had = accesses (record_of_goroutine r.setup old);
      known = known;
      front = front;
      turn = h.es;
      rest = [];
      is = whole_seen ∙ sym (append-nil ((before ++ front) ++ h.es));
      more = let m = h.turns.grew.more in omega arith;
      whole = h.turns.grew.counts (turn_some (accesses (record_of_goroutine r.setup old)) (accesses (record_of_goroutine r.setup new))
          (accesses_by (number_of old.actor.seat.me) h.es) h.turns.grew.more h.turns.some)
          ∙ ap (accesses_by (number_of old.actor.seat.me)) whole_seen;
      still = still;
    }
