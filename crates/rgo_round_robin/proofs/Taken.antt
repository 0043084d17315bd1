-- Turns and their parts, by what they make of a run under way: Composed and Keepers speak of points, and here each is put together with the
-- state that the run is at.
use Rattle.std.proofs.Common.{◌≡◌, ◌≤◌, ◌<◌, ◌+◌, ◌-◌, ◌⊎◌, inl, inr, ℕ, false, List, [], ◌∷◌, ◌++◌, length}
use Rattle.std.proofs.Common.{Option, Some, None, Result, Ok, Err, MatchResult, refl, sym, subst, arith, Contains}
use Rattle.rgo_machine.specs.declared.limits.Limits.{Limits}
use Rattle.rgo_machine.specs.declared.picks.Pick.TheVariants.{One}
use Rattle.rgo_interpreter.specs.declared.turns.Turned.{Turned}
use Rattle.rgo_machine.specs.Machines.{Machine, State, step_by}
use Rattle.rgo_round_robin.specs.declared.drivers.Driver.{Driver}
use Rattle.rgo_machine.specs.declared.ends.RunEnd.{RunEnd}
use Rattle.rgo_machine.specs.declared.ends.RunEnd.TheVariants as run_end
use Rattle.rgo_round_robin.specs.Points.{Point, listed_at_channel, point_of}
use Rattle.rgo_round_robin.specs.Probing.{IsLeftOver, HaveMet}
use Rattle.rgo_round_robin.specs.Running.{View, RunContinues, IsRunAt, RunTakesTurn}
use Rattle.rgo_round_robin.specs.Sleeping.{next_channel_of, Sleeps}
use Rattle.rgo_round_robin.specs.Taking.{StopsAt, TurnMovesTo, TurnStepsTo, WaitsTo, AdvancesTo, TurnsTo}
use Rattle.rgo_round_robin.specs.Turning.{operated_channel, run_end_of, AreMet, CountsUp}
use Rattle.rgo_round_robin.proofs.Composed.{moved_none, moved_on, moved_by, moved_meeting, moved_fails, nothing_fails}
use Rattle.rgo_round_robin.proofs.Composed.{turned_moves, turned_stops, turned_fails, advances_on, stopped_on}
use Rattle.rgo_round_robin.proofs.Composed.{stopped_within, turned}
use Rattle.rgo_round_robin.proofs.Keepers.{keeps_turn, keeps_joined, joined_sleeps, keeps_meeting, keeps_on, keeps_pushed}
use Rattle.rgo_round_robin.proofs.Keepers.{keeps_itself, passes}
use Rattle.rgo_round_robin.proofs.Left.{has_memory, left_by_turn, left_over}

module _
    {F C : Type 0} (run : View F C) (machine : Machine F) (limits : Limits) (g : ℕ) (given : List ℕ) (s : State F)
  where
    -- ---- what stops

    -- memory ran out before anything happened
    pub stops_here : (at_most : ℕ) → IsLeftOver run machine given s
        → StopsAt run machine limits g given s at_most run_end.NoMemory
    stops_here at_most h = record {
      state = s;
      stopped = nothing_fails machine limits g at_most s s refl;
      print = h.print;
      left = left_over run machine given s h;
    }

    -- memory ran out after these steps
    pub stops_moved : (d e : Driver) (count at_most : ℕ) → (moves : TurnMovesTo run machine limits g given s d e count)
        → count ≤ at_most → IsLeftOver run machine given moves.state
        → StopsAt run machine limits g given s at_most run_end.NoMemory
    stops_moved d e count at_most moves le h = record {
      state = moves.state;
      stopped = moved_fails machine limits g at_most count (point_of s d) (point_of moves.state e) moves.moved le;
      print = h.print;
      left = left_over run machine given moves.state h;
    }

    pub stops_within : (a at_most : ℕ) (end : RunEnd) → a ≤ at_most → StopsAt run machine limits g given s a end
        → StopsAt run machine limits g given s at_most end
    stops_within a at_most end le h = record {
      state = h.state;
      stopped = stopped_within machine limits g a at_most end s h.state h.stopped le;
      print = h.print;
      left = h.left;
    }

    -- ---- waiting

    -- a goroutine without a step joins those that wait at its channel
    pub joins : (d e : Driver) (channel : ℕ) → IsRunAt run machine given s → RunContinues limits s
        → step_by machine s (One g) ≡ None
        → next_channel_of machine s g ≡ Some channel → e.steps ≡ d.steps → e.ready.items ≡ d.ready.items
        → listed_at_channel e.waiting channel ≡ listed_at_channel d.waiting channel ++ g ∷ []
        → ((n : ℕ) → (n ≡ channel → ⊥) → listed_at_channel e.waiting n ≡ listed_at_channel d.waiting n)
        → WaitsTo run machine limits g given s d e false
    joins d e channel at on still waits steps ready joined others = (
      record {
        state = s;
        at = at;
        moved = moved_none machine limits g (point_of s d) (point_of s e) on refl steps;
        keeps = keeps_joined machine limits g channel (point_of s d) (point_of s e) on.running refl ready joined others;
      },
      joined_sleeps machine limits g channel s s (listed_at_channel d.waiting) (listed_at_channel e.waiting) still waits refl joined,
    )

    -- it meets the one that has waited there last
    pub meets_last : (d e : Driver) (partner channel n : ℕ) (met : ℕ × ℕ) (rest : List ℕ) → RunContinues limits s
        → AreMet met g partner → HaveMet run machine given s met d.steps n → e.steps ≡ n
        → e.ready.items ≡ d.ready.items ++ partner ∷ [] → listed_at_channel d.waiting channel ≡ rest ++ partner ∷ []
        → listed_at_channel e.waiting channel ≡ rest
        → ((i : ℕ) → (i ≡ channel → ⊥) → listed_at_channel e.waiting i ≡ listed_at_channel d.waiting i)
        → TurnMovesTo run machine limits g given s d e 1
    meets_last d e partner channel n met rest on both h steps ready was now others = record {
      state = h.state;
      at = h.at;
      moved = moved_meeting machine limits g partner met (point_of s d) (point_of h.state e) on both h.step
          (subst (CountsUp d.steps 1) (sym steps) h.counted);
      keeps = keeps_meeting machine limits g partner channel met (point_of s d) (point_of h.state e) rest on.running
          h.step both ready was now others;
    }

    -- memory ran out after they had met
    pub stops_meeting : (partner m n : ℕ) (met : ℕ × ℕ) → RunContinues limits s → AreMet met g partner
        → (h : HaveMet run machine given s met m n) → IsLeftOver run machine given h.state
        → StopsAt run machine limits g given s 1 run_end.NoMemory
    stops_meeting partner m n met on both h left =
        let p : Point F = record { state = s; steps = m; ready = []; waiting = λ i. [] } in
        let q : Point F = record { state = h.state; steps = n; ready = []; waiting = λ i. [] } in
        record {
          state = h.state;
          stopped = moved_fails machine limits g 1 1 p q
              (moved_meeting machine limits g partner met p q on both h.step h.counted) (omega arith);
          print = left.print;
          left = left_over run machine given h.state left;
        }

    -- ---- steps alone

    pub steps_to : (d e : Driver) (at_most : ℕ) (turned : Turned) → run.machine ≡ machine → RunContinues limits s
        → run_end_of turned.stop ≡ None → (taken : RunTakesTurn run machine limits given s g at_most turned)
        → CountsUp d.steps turned.steps e.steps
        → ((h : ℕ) → Contains d.ready.items h → Contains e.ready.items h)
        → ((h : ℕ) → length s.goroutines ≤ h → h < length taken.state.goroutines → Contains e.ready.items h)
        → ((n h : ℕ) → operated_channel turned.stop ≡ Some n → Contains (listed_at_channel d.waiting n) h → Contains e.ready.items h)
        → ((n : ℕ) → (operated_channel turned.stop ≡ Some n → ⊥) → listed_at_channel e.waiting n ≡ listed_at_channel d.waiting n)
        → TurnStepsTo run machine limits g given s d e at_most turned
    steps_to d e at_most turned same on none taken counted stay fresh woken others =
        let p = point_of s d in
        let q = point_of taken.state e in
        record {
          moves = record {
            state = taken.state;
            at = record { is = same; shown = taken.shows (has_memory turned.stop none) };
            moved = turned_moves machine limits g at_most p q turned on none taken.turns counted;
            keeps = keeps_turn machine g limits p q at_most turned on.running taken.turns stay fresh woken others;
          };
          none = none;
          over = taken.turns.over;
        }

    pub stops_turn : (at_most : ℕ) (turned : Turned) (end : RunEnd) → run.machine ≡ machine
        → run_end_of turned.stop ≡ Some end → RunTakesTurn run machine limits given s g at_most turned
        → StopsAt run machine limits g given s at_most end
    stops_turn at_most turned end same is taken = record {
      state = taken.state;
      stopped = turned_stops machine limits g at_most s taken.state turned end is taken.turns;
      print = taken.print;
      left = left_by_turn run machine limits given s g at_most turned end same is taken;
    }

    -- memory ran out after steps alone
    pub stops_waking : (at_most : ℕ) (turned : Turned) → run.machine ≡ machine
        → (taken : RunTakesTurn run machine limits given s g at_most turned)
        → StopsAt run machine limits g given s at_most run_end.NoMemory
    stops_waking at_most turned same taken = record {
      state = taken.state;
      stopped = turned_fails machine limits g at_most s taken.state turned taken.turns;
      print = taken.print;
      left = left_over run machine given taken.state (record { is = same; print = taken.print; leaves = taken.leaves });
    }

    -- ---- what is left of a turn

    pub advances_by : (d e : Driver) (left count : ℕ) → count ≤ left → TurnMovesTo run machine limits g given s d e count
        → AdvancesTo run machine limits g given s d e left (Some (left - count))
    advances_by d e left count le h = record {
      state = h.state;
      at = h.at;
      advances = (
        omega arith,
        moved_by machine limits g (point_of s d) (point_of h.state e) count (left - (left - count)) (omega (arith, le))
            h.moved,
      );
      keeps = h.keeps;
      sleeps = λ e. cc;
    }

    -- it sleeps
    pub advances_asleep : (d e : Driver) (left count : ℕ) → count ≤ left
        → (moves : TurnMovesTo run machine limits g given s d e count) → Sleeps machine moves.state (listed_at_channel e.waiting) g
        → AdvancesTo run machine limits g given s d e left None
    advances_asleep d e left count le h sleeps = record {
      state = h.state;
      at = h.at;
      advances = (count, le, h.moved);
      keeps = h.keeps;
      sleeps = λ e. sleeps;
    }

    -- it slept already
    pub advances_still : (d : Driver) (left : ℕ) → IsRunAt run machine given s → RunContinues limits s
        → Sleeps machine s (listed_at_channel d.waiting) g → AdvancesTo run machine limits g given s d d left None
    advances_still d left at on sleeps = record {
      state = s;
      at = at;
      advances = (0, omega arith, moved_none machine limits g (point_of s d) (point_of s d) on refl refl);
      keeps = keeps_itself machine g (point_of s d);
      sleeps = λ e. sleeps;
    }

    -- nothing happened
    pub stands : (d : Driver) → IsRunAt run machine given s → RunContinues limits s → TurnMovesTo run machine limits g given s d d 0
    stands d at on = record {
      state = s;
      at = at;
      moved = moved_none machine limits g (point_of s d) (point_of s d) on refl refl;
      keeps = keeps_itself machine g (point_of s d);
    }

    -- one more is ready
    pub moves_pushed : (d m e : Driver) (count x : ℕ) → e.ready.items ≡ m.ready.items ++ x ∷ []
        → TurnMovesTo run machine limits g given s d m count
        → TurnMovesTo run machine limits g given s d (record m { ready = e.ready }) count
    moves_pushed d m e count x ready h = record {
      state = h.state;
      at = h.at;
      moved = record {
        picks = h.moved.picks;
        leads = h.moved.leads;
        own = h.moved.own;
        long = h.moved.long;
        counted = h.moved.counted;
        on = h.moved.on;
      };
      keeps = keeps_pushed machine g (point_of s d) (point_of h.state m) e.ready.items x ready h.keeps;
    }

    -- a whole turn
    pub turns_to : (d e : Driver) (count : ℕ) → (moves : TurnMovesTo run machine limits g given s d e count) → count ≤ 1000
        → (step_by machine moves.state (One g) ≡ None) ⊎ (0 < count)
        → Contains e.ready.items g ⊎ Sleeps machine moves.state (listed_at_channel e.waiting) g
        → TurnsTo run machine limits g given s d e
    turns_to d e count h le either kept = record {
      state = h.state;
      at = h.at;
      turned = turned machine limits g count (point_of s d) (point_of h.state e) h.moved le either;
      passes = passes machine g (point_of s d) (point_of h.state e) h.keeps kept;
    }

-- ---- one after the other

module _
    {F C : Type 0} (mid run : View F C) (machine : Machine F) (limits : Limits) (g : ℕ) (given : List ℕ) (s : State F)
    (d m : Driver) (count : ℕ) (moves : TurnMovesTo mid machine limits g given s d m count)
  where
    pub stops_on : (at_most most : ℕ) (end : RunEnd) → StopsAt run machine limits g given moves.state at_most end
        → count + at_most ≤ most → StopsAt run machine limits g given s most end
    stops_on at_most most end k le = record {
      state = k.state;
      stopped = stopped_on machine limits g count at_most most end (point_of s d) (point_of moves.state m) k.state
          moves.moved k.stopped le;
      print = k.print;
      left = k.left;
    }

    pub rests_on : (e : Driver) (left : ℕ) (rest : Option ℕ) → count ≤ left
        → AdvancesTo run machine limits g given moves.state m e (left - count) rest
        → AdvancesTo run machine limits g given s d e left rest
    rests_on e left rest le k =
        let p = point_of s d in
        let q = point_of moves.state m in
        let r = point_of k.state e in
        record {
          state = k.state;
          at = k.at;
          advances = advances_on machine limits rest g count left p q r moves.moved le k.advances;
          keeps = keeps_on machine g p q r moves.keeps k.keeps;
          sleeps = k.sleeps;
        }

    pub rest_on : (e : Driver) (left : ℕ) (o : Result (Option ℕ) RunEnd) → count ≤ left
        → MatchResult o (AdvancesTo run machine limits g given moves.state m e (left - count))
        (StopsAt run machine limits g given moves.state (left - count))
        → MatchResult o (AdvancesTo run machine limits g given s d e left) (StopsAt run machine limits g given s left)
    rest_on e left (Ok rest) le k = rests_on e left rest le k
    rest_on e left (Err end) le k = stops_on (left - count) left end k (omega (arith, le))

    pub moves_rest : (e : Driver) (left rest most : ℕ) → count ≡ most - left → left ≤ most
        → AdvancesTo run machine limits g given moves.state m e left (Some rest)
        → TurnMovesTo run machine limits g given s d e (most - rest)
    moves_rest e left rest most same le k =
        let p = point_of s d in
        let q = point_of moves.state m in
        let r = point_of k.state e in
        record {
          state = k.state;
          at = k.at;
          moved = moved_by machine limits g p r (count + (left - rest)) (most - rest)
              (omega (arith, same, le, k.advances.0))
              (moved_on machine limits g p q r count (left - rest) moves.moved k.advances.1);
          keeps = keeps_on machine g p q r moves.keeps k.keeps;
        }

    -- a whole turn, after which the goroutine sleeps
    pub turns_asleep : (e : Driver) (left : ℕ) → count + left ≤ 1000
        → AdvancesTo run machine limits g given moves.state m e left None → TurnsTo run machine limits g given s d e
    turns_asleep e left le k =
        let p = point_of s d in
        let q = point_of moves.state m in
        let r = point_of k.state e in
        let sleeps = k.sleeps refl in
        turns_to run machine limits g given s d e (count + k.advances.0)
        (record {
          state = k.state;
          at = k.at;
          moved = moved_on machine limits g p q r count k.advances.0 moves.moved k.advances.2;
          keeps = keeps_on machine g p q r moves.keeps k.keeps;
        })
        (omega (arith, le, k.advances.1)) (inl sleeps.still) (inr sleeps)
