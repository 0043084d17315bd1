-- Rounds, with what went out, one after the other. The hard case is a round without a step: a meeting that is found then counts as the turn
-- of its receiver, and if there is none, all goroutines are known to have no step, which is a deadlock.
use Rattle.std.proofs.Common.{◌≡◌, ◌<◌, ◌≤◌, ◌+◌, ◌-◌, ◌^◌, ◌⊎◌, inl, inr, ℕ, List, [], ◌∷◌, ◌++◌, length}
use Rattle.std.proofs.Common.{Contains}
use Rattle.std.proofs.Common.{Option, Some, None, Result, Ok, Err, MatchResult, OnOk, refl, ap, sym, subst}
use Rattle.std.proofs.Common.{◌∙◌, arith}
use Rattle.std.proofs.Common.{append_assoc, append-nil, length-append}
use Rattle.std.proofs.lemmas.Bool.{cases_lt}
use Rattle.std.proofs.lemmas.List.{nil_from_length}
use Rattle.std.proofs.lemmas.List.Elements.{All-nil, All-push, Contains-append_left}
use Rattle.std.proofs.KnownBytes.{Appends-nil, Appends-trans}
use Rattle.std.specs.Io.KnownBytes.{Appends}
use Rattle.rgo_machine.specs.declared.limits.Limits.{Limits}
use Rattle.rgo_machine.specs.declared.picks.Pick.{Pick}
use Rattle.rgo_machine.specs.declared.picks.Pick.TheVariants.{One, Meet}
use Rattle.rgo_machine.specs.Limits.{LeadsWithin, limited_step}
use Rattle.rgo_machine.specs.Machines.{Machine, State, step_by}
use Rattle.rgo_machine.specs.Runs.{IsBlocked}
use Rattle.std.specs.Prelude.{min}
use Rattle.rgo_machine.specs.declared.ends.RunEnd.{RunEnd}
use Rattle.rgo_machine.specs.declared.ends.RunEnd.TheVariants as run_end
use Rattle.rgo_round_robin.specs.declared.drivers.Driver.{Driver}
use Rattle.rgo_round_robin.specs.Playing.{state_with_print, IsBetweenRounds, Plays, PlaysAll, PlaysRound, RoundEndsRun, Finishes}
use Rattle.rgo_round_robin.specs.Playing.{RoundsProgress, PlaysAllTo, PlaysRoundTo}
use Rattle.rgo_round_robin.specs.Points.{Point, point_of}
use Rattle.rgo_round_robin.specs.Probing.{MeetsAny}
use Rattle.rgo_interpreter.specs.Meetings.{IsUnmet}
use Rattle.rgo_round_robin.specs.Rounds.{IsPickOf, FitsTurn, IsTurn, AreTurns, IsRound, IsBegunRound, AreRounds, all_of}
use Rattle.rgo_round_robin.specs.Running.{View}
use Rattle.rgo_machine.specs.Ends.{RunEndsAs}
use Rattle.rgo_round_robin.specs.Runs.{IsReadyForTurn, IsRunLeft, RunsTo}
use Rattle.rgo_round_robin.specs.Sleeping.{Sleeps, Watches}
use Rattle.rgo_round_robin.specs.Turning.{CountsPicks, CountsUp}
use Rattle.rgo_round_robin.proofs.Composed.{counts_none, counts_on, counts_saturating}
use Rattle.rgo_round_robin.proofs.Keepers.{first_or_later}
use Rattle.rgo_round_robin.proofs.Left.{Lawful, left_at, left_over, left_printed, all_given}
use Rattle.std.proofs.lemmas.Option.{same_Some}
use Rattle.rgo_machine.proofs.Runs.{joined, single, limited}
use Rattle.rgo_round_robin.proofs.Others.{meeting_is, beyond}
use Rattle.rgo_round_robin.proofs.Printing.{no_step, no_step_of}
use Rattle.rgo_round_robin.proofs.Played.{turn_after, turns_on, one_turn, turns_lead, fits_none, begun_whole, begun_turn}
use Rattle.rgo_round_robin.proofs.Played.{begun_on, begun_leads, nil_parts, all_more, gives_behind}

module _ {F : Type 0} (machine : Machine F) (limits : Limits) where
  -- ---- turns, and what they printed

  pub plays_none : (p q : Point F) (a : Option (List ℕ)) → q.state ≡ p.state → q.steps ≡ p.steps
      → p.state.printed ≡ [] → PlaysAll machine limits [] p q [] a a
  plays_none p q a state steps silent = record {
    picks = [];
    turns = λ before. (
      refl,
      ap (λ v. state_with_print v (before ++ [])) state
          ∙ ap (λ l. state_with_print p.state l) (append-nil before),
    );
    counted = subst (CountsUp p.steps 0) (sym steps) (counts_none p.steps);
    gave = Appends-nil a;
  }

  pub plays_more : (order : List ℕ) (g : ℕ) (p q r : Point F) (out bytes : List ℕ) (a b c : Option (List ℕ))
      → PlaysAll machine limits order p q out a b → Plays machine limits g q r bytes b c
      → PlaysAll machine limits (order ++ g ∷ []) p r (out ++ bytes) a c
  plays_more order g p q r out bytes a b c h k =
      let long = length-append h.picks k.picks in
      record {
        picks = h.picks ++ k.picks;
        turns = λ before.
            let there = state_with_print q.state (before ++ out) in
            let behind = state_with_print r.state ((before ++ out) ++ bytes) in
            subst (λ l. AreTurns machine limits (state_with_print p.state before) (order ++ g ∷ []) (h.picks ++ k.picks)
            (state_with_print r.state l))
            (append_assoc before out bytes)
            (turns_on machine limits (state_with_print p.state before) there behind order (g ∷ []) h.picks k.picks
            (h.turns before)
            (one_turn machine limits there behind g k.picks (k.turn (before ++ out))));
        counted = subst (λ n. CountsUp p.steps n r.steps) (sym long)
            (counts_on p.steps q.steps r.steps (length h.picks) (length k.picks) h.counted k.counted);
        gave = Appends-trans a b c out bytes h.gave k.gave;
      }

  pub breaks_on : {C : Type 0} (run : View F C) (order : List ℕ) (end : RunEnd) (given : List ℕ) (p q : Point F)
      (out : List ℕ) (a b c : Option (List ℕ))
      → PlaysAll machine limits order p q out a b
      → RoundEndsRun machine limits run (given ++ out) q.state end b c → RoundEndsRun machine limits run given p.state end a c
  breaks_on run order end given p q out a b c h k = record {
    picks = h.picks ++ k.picks;
    bytes = out ++ k.bytes;
    state = k.state;
    begun = λ before.
        let there = state_with_print q.state (before ++ out) in
        let behind = state_with_print k.state ((before ++ out) ++ k.bytes) in
        subst (λ l. IsBegunRound machine limits (state_with_print p.state before) (h.picks ++ k.picks) (state_with_print k.state l))
        (append_assoc before out k.bytes)
        (begun_on machine limits (state_with_print p.state before) there behind order h.picks k.picks (h.turns before)
        (k.begun (before ++ out)));
    ends = k.ends;
    gives = gives_behind out k.bytes a b c h.gave end k.gives;
    before = k.before;
    whole = sym (append_assoc given out k.bytes) ∙ k.whole;
    left = k.left;
  }

  -- ---- rounds

  fair : (s : State F) (ready : List ℕ) (waiting : ℕ → List ℕ) (before : List ℕ) → Watches machine s ready waiting
      → (g : ℕ) → (step_by machine (state_with_print s before) (One g) ≡ None → ⊥) → Contains ready g
  fair s ready waiting before watches g steps = by_cases (cases_lt g (length s.goroutines)) where
    watched : Contains ready g ⊎ Sleeps machine s waiting g → Contains ready g
    watched (inl c) = c
    watched (inr sleeps) = absurd (steps (no_step machine s before (One g) sleeps.still))

    by_cases : (g < length s.goroutines) ⊎ (length s.goroutines ≤ g) → Contains ready g
    by_cases (inl lt) = watched (watches g lt)
    by_cases (inr past) = absurd (steps (no_step machine s before (One g) (beyond machine s g past)))

  -- turns of all that were ready, and maybe of others, are a round
  pub plays_round : (p q : Point F) (order out : List ℕ) (a b : Option (List ℕ))
      → Watches machine p.state p.ready p.waiting
      → ((g : ℕ) → Contains p.ready g → Contains order g) → PlaysAll machine limits order p q out a b
      → PlaysRound machine limits p q out a b
  plays_round p q order out a b watches all h = record {
    picks = h.picks;
    round = λ before. record {
      order = order;
      turns = h.turns before;
      fair = λ g steps. all g (fair p.state p.ready p.waiting before watches g steps);
    };
    counted = h.counted;
    gave = h.gave;
  }

  -- two that met, as the turn of the receiver
  pub plays_meeting : (met : ℕ × ℕ) (order : List ℕ) (p q u : Point F) (out : List ℕ) (a b : Option (List ℕ))
      → PlaysAll machine limits order p q out a b → IsReadyForTurn limits q.state
      → step_by machine q.state (Meet met.0 met.1) ≡ Some u.state
      → CountsUp q.steps 1 u.steps → PlaysAll machine limits (order ++ met.0 ∷ []) p u out a b
  plays_meeting met order p q u out a b h ready step counted =
      let r = met.0 in
      let pick = Meet r met.1 in
      let is = meeting_is machine limits q.state r met.1 u.state step in
      let fits : FitsTurn machine limits q.state r (pick ∷ []) u.state = record {
        leads = single (limited_step machine limits) q.state u.state pick
            (limited machine limits q.state u.state pick step (is.within ready.on.within));
        short = omega arith;
        own = All-push (IsPickOf r) [] pick (All-nil (IsPickOf r)) (inl refl);
      } in
      let turn : IsTurn machine limits q.state r (pick ∷ []) u.state = record { fits = fits; plays = λ none. cc } in
      record {
        picks = h.picks ++ pick ∷ [];
        turns = λ before.
            let there = state_with_print q.state (before ++ out) in
            let behind = state_with_print u.state (before ++ out) in
            let silent : (before ++ out) ++ u.state.printed ≡ before ++ out =
            ap (λ l. (before ++ out) ++ l) (is.printed ∙ ready.silent) ∙ append-nil (before ++ out) in
            let last : IsTurn machine limits there r (pick ∷ []) behind =
            subst (λ l. IsTurn machine limits there r (pick ∷ []) (state_with_print u.state l)) silent
            (turn_after machine limits q.state u.state r (pick ∷ []) (before ++ out) ready.silent turn) in
            turns_on machine limits (state_with_print p.state before) there behind order (r ∷ []) h.picks
            (pick ∷ []) (h.turns before)
            (one_turn machine limits there behind r (pick ∷ []) last);
        counted = subst (λ n. CountsUp p.steps n u.steps) (sym (length-append h.picks (pick ∷ [])))
            (counts_on p.steps q.steps u.steps (length h.picks) 1 h.counted counted);
        gave = h.gave;
      }

  -- ---- where nothing has stepped

  idle : (s t : State F) (order : List ℕ) (picks : List Pick) → AreTurns machine limits s order picks t → picks ≡ []
      → (t ≡ s) × ((g : ℕ) → Contains order g → step_by machine s (One g) ≡ None)
  idle s t [] picks h none = (h.1, λ g c. absurd (omega (arith, c.1)))
  idle s t (g ∷ order) picks h none =
      let parts = nil_parts h.0 h.1 (sym h.3 ∙ none) in
      let still = h.4.plays parts.0 in
      let same : s ≡ h.2 = same_Some s h.2
      (subst (λ l. LeadsWithin machine limits s l h.2) parts.0 h.4.fits.leads) in
      let rest = idle h.2 t order h.1 h.5 parts.1 in
      (rest.0 ∙ sym same, λ k c. by_cases still same rest.1 k (first_or_later g k order c)) where
        by_cases : {u : State F} → step_by machine s (One g) ≡ None → s ≡ u
            → ((k : ℕ) → Contains order k → step_by machine u (One k) ≡ None) → (k : ℕ) → (g ≡ k) ⊎ Contains order k
            → step_by machine s (One k) ≡ None
        by_cases still same rest k (inl e) = subst (λ k. step_by machine s (One k) ≡ None) e still
        by_cases still same rest k (inr c) = ap (λ v. step_by machine v (One k)) same ∙ rest k c

  none_counted : (m n : ℕ) (picks : List Pick) → m < 2 ^ 64 - 1 → n ≤ m → CountsPicks m picks n → picks ≡ []
  none_counted m n picks lt le counted =
      let sum = counted m (omega (arith, lt)) in
      nil_from_length picks (omega (arith, sum, lt, le))

  pub blocked : {C : Type 0} (run : View F C) (given : List ℕ) (p q : Point F) (out : List ℕ) (a b : Option (List ℕ))
      → IsBetweenRounds machine limits p
      → PlaysAll machine limits p.ready p q out a b → IsReadyForTurn limits q.state → q.steps ≤ p.steps
      → ((g : ℕ) → IsUnmet machine q.state g) → run.print ≡ []
      → IsRunLeft run machine (given ++ out) (state_with_print q.state run.print) run_end.Deadlock
      → RoundEndsRun machine limits run given p.state run_end.Deadlock a b
  blocked run given p q out a b between h ready le unmet printed left =
      let none = none_counted p.steps q.steps h.picks between.counting le h.counted in
      let still = idle (state_with_print p.state []) (state_with_print q.state ([] ++ out)) p.ready h.picks (h.turns []) none in
      record {
        picks = h.picks;
        bytes = out;
        state = q.state;
        begun = λ before. begun_whole machine limits (state_with_print p.state before) (state_with_print q.state
            (before ++ out)) p.ready h.picks (h.turns before);
        ends = λ print before steps. (
          ready.on.running,
          λ pick. no_step machine q.state print pick
              (blocks still.0 still.1 pick),
        );
        gives = h.gave;
        before = given ++ out;
        whole = all_given (given ++ out) run.print printed;
        left = left;
      } where
        alone : state_with_print q.state ([] ++ out) ≡ state_with_print p.state []
            → ((g : ℕ) → Contains p.ready g → step_by machine (state_with_print p.state []) (One g) ≡ None)
            → (g : ℕ) → (g < length p.state.goroutines) ⊎ (length p.state.goroutines ≤ g)
            → step_by machine p.state (One g) ≡ None
        alone same still g (inl lt) = watched (between.watches g lt) where
          watched : Contains p.ready g ⊎ Sleeps machine p.state p.waiting g → step_by machine p.state (One g) ≡ None
          watched (inl c) = no_step_of machine p.state [] (One g) (still g c)
          watched (inr sleeps) = sleeps.still
        alone same still g (inr past) = beyond machine p.state g past

        blocks : state_with_print q.state ([] ++ out) ≡ state_with_print p.state []
            → ((g : ℕ) → Contains p.ready g → step_by machine (state_with_print p.state []) (One g) ≡ None)
            → IsBlocked (step_by machine) q.state
        blocks same still (One g) =
            no_step_of machine q.state ([] ++ out) (One g)
            (ap (λ v. step_by machine v (One g)) same
            ∙ no_step machine p.state [] (One g) (alone same still g (cases_lt g (length p.state.goroutines))))
        blocks same still (Meet r t) = unmet t r

  -- there was no memory to go on
  pub fails : {C : Type 0} (run : View F C) (order given : List ℕ) (p q : Point F) (out : List ℕ)
      (a b : Option (List ℕ))
      → PlaysAll machine limits order p q out a b → run.print ≡ []
      → IsRunLeft run machine (given ++ out) (state_with_print q.state run.print) run_end.NoMemory
      → RoundEndsRun machine limits run given p.state run_end.NoMemory a b
  fails run order given p q out a b h printed left = record {
    picks = h.picks;
    bytes = out;
    state = q.state;
    begun = λ before. begun_whole machine limits (state_with_print p.state before) (state_with_print q.state
        (before ++ out)) order h.picks (h.turns before);
    ends = λ print before steps. tt;
    gives = h.gave;
    before = given ++ out;
    whole = all_given (given ++ out) run.print printed;
    left = left;
  }

  -- ---- a meeting was looked for after turns without a step

  pub met_or_ends : {C : Type 0} (old run : View F C) (given : List ℕ) (s : State F) (d m e : Driver)
      (o : Result (Unit {0}) RunEnd) (a b : Option (List ℕ))
      → Lawful run → IsBetweenRounds machine limits (point_of s d)
      → (all : PlaysAllTo old machine limits given s d m d.ready.items [] a b) → m.steps ≤ d.steps
      → MeetsAny run machine (given ++ all.bytes) all.state o m e
      → MatchResult o (λ _. PlaysRoundTo run machine limits given s d e a b)
      (λ end. RoundEndsRun machine limits run given s end a b)
  met_or_ends old run given s d m e (Ok x) a b lawful between all le two =
      let p = point_of s d in
      let u = point_of two.meets.state e in
      let met = two.met in
      let is = meeting_is machine limits all.state met.0 met.1 two.meets.state two.meets.step in
      record {
        state = two.meets.state;
        bytes = all.bytes;
        at = two.meets.at;
        ready = record {
          on = record { running = is.ended ∙ all.ready.on.running; within = is.within all.ready.on.within };
          silent = is.printed ∙ all.ready.silent;
        };
        plays = plays_round p u (d.ready.items ++ met.0 ∷ []) all.bytes a b between.watches
            (λ g c. Contains-append_left d.ready.items (met.0 ∷ []) g c)
            (plays_meeting met d.ready.items p (point_of all.state m) u all.bytes a b all.plays all.ready two.meets.step
            two.meets.counted);
        watches = two.watches (all.watches between.watches);
      }
  met_or_ends old run given s d m e (Err end) a b lawful between all le (inl none) =
      let out = given ++ all.bytes in
      let print = lawful.prints out all.state none.at.shown in
      subst (λ end. RoundEndsRun machine limits run given s end a b) (sym none.is)
      (blocked run given (point_of s d) (point_of all.state m) all.bytes a b between all.plays all.ready le none.unmet
      (sym print ∙ all.ready.silent)
      (left_printed run machine out all.state run_end.Deadlock print
      (left_at run machine out all.state run_end.Deadlock lawful none.at (λ shortage is. cc))))
  met_or_ends old run given s d m e (Err end) a b lawful between all le (inr late) =
      subst (λ end. RoundEndsRun machine limits run given s end a b) (sym late.is) (by_cases late.step) where
        left : IsRunLeft run machine (given ++ all.bytes) (state_with_print late.state run.print) run_end.NoMemory
        left = left_printed run machine (given ++ all.bytes) late.state run_end.NoMemory late.left.print
            (left_over run machine (given ++ all.bytes) late.state late.left)

        by_cases : (late.state ≡ all.state)
            ⊎ ((met : ℕ × ℕ) × (step_by machine all.state (Meet met.0 met.1) ≡ Some late.state))
            → RoundEndsRun machine limits run given s run_end.NoMemory a b
        by_cases (inl same) =
            fails run d.ready.items given (point_of s d) (point_of all.state m) all.bytes a b all.plays
            (sym late.left.print ∙ ap (λ t. t.printed) same ∙ all.ready.silent)
            (subst (λ t. IsRunLeft run machine (given ++ all.bytes) (state_with_print t run.print) run_end.NoMemory) same left)
        by_cases (inr met) =
            let u : Point F = record {
              state = late.state;
              steps = min (m.steps + 1) (2 ^ 64 - 1);
              ready = [];
              waiting = λ n. [];
            } in
            let is = meeting_is machine limits all.state met.0.0 met.0.1 late.state met.1 in
            fails run (d.ready.items ++ met.0.0 ∷ []) given (point_of s d) u all.bytes a b
            (plays_meeting met.0 d.ready.items (point_of s d) (point_of all.state m) u all.bytes a b all.plays all.ready
            met.1 (counts_saturating m.steps u.steps 1 refl))
            (sym late.left.print ∙ is.printed ∙ all.ready.silent) left

  pub met_counts : {C : Type 0} (old run : View F C) (given : List ℕ) (s : State F) (d m e : Driver)
      (o : Result (Unit {0}) RunEnd) (a b : Option (List ℕ))
      → d.steps < 2 ^ 64 - 1 → (all : PlaysAllTo old machine limits given s d m d.ready.items [] a b)
      → m.steps ≤ d.steps
      → MeetsAny run machine (given ++ all.bytes) all.state o m e → OnOk o (d.steps < e.steps)
  met_counts old run given s d m e (Ok x) a b counting all le two =
      let none = none_counted d.steps m.steps all.plays.picks counting le all.plays.counted in
      let before = all.plays.counted d.steps (omega (arith, counting)) in
      let after = two.meets.counted m.steps (omega (arith, counting, le)) in
      omega (arith, before, after, counting, le, ap (λ l. length l) none)
  met_counts old run given s d m e (Err end) a b counting all le met = tt

  -- ---- a round and the test of the limit

  pub finishes : {C : Type 0} (run : View F C) (given : List ℕ) (s : State F) (m : ℕ) (end : RunEnd)
      (a b : Option (List ℕ))
      → RoundEndsRun machine limits run given s end a b → Finishes machine limits run given s m end a b
  finishes run given s m end a b h = record {
    picks = h.picks;
    bytes = h.bytes;
    state = h.state;
    begun = h.begun;
    ends = λ print taken is early. h.ends print taken (taken + length h.picks);
    gives = h.gives;
    before = h.before;
    whole = h.whole;
    left = h.left;
  }

  pub spent : {C : Type 0} (run : View F C) (given : List ℕ) (s : State F) (d e : Driver) (a b : Option (List ℕ))
      → Lawful run
      → PlaysRoundTo run machine limits given s d e a b → limits.steps ≤ e.steps
      → Finishes machine limits run given s d.steps run_end.StepsSpent a b
  spent run given s d e a b lawful k le =
      let h = k.plays in
      let out = given ++ k.bytes in
      let print = lawful.prints out k.state k.at.shown in
      record {
        picks = h.picks;
        bytes = k.bytes;
        state = k.state;
        begun = λ before. begun_whole machine limits (state_with_print s before) (state_with_print k.state
            (before ++ k.bytes)) (h.round before).order h.picks
            (h.round before).turns;
        ends = λ print taken is early.
            let sum = h.counted taken is in
            (k.ready.on.running, omega (arith, sum, le), early);
        gives = h.gave;
        before = out;
        whole = all_given out run.print (sym print ∙ k.ready.silent);
        left = left_printed run machine out k.state run_end.StepsSpent print
            (left_at run machine out k.state run_end.StepsSpent lawful k.at (λ shortage is. cc));
      }

  -- ---- rounds in a row

  rounds_on : (s t u : State F) (rounds : List (List Pick)) (picks : List Pick) → AreRounds machine limits s rounds t
      → IsRound machine limits t picks u → AreRounds machine limits s (rounds ++ picks ∷ []) u
  rounds_on s t u [] picks h k = (u, subst (λ v. IsRound machine limits v picks u) h k, refl)
  rounds_on s t u (first ∷ rounds) picks h k = (h.0, h.1, rounds_on h.0 t u rounds picks h.2 k)

  rounds_lead : (s t : State F) (rounds : List (List Pick)) → AreRounds machine limits s rounds t
      → LeadsWithin machine limits s (all_of rounds) t
  rounds_lead s t [] h = ap Some (sym h)
  rounds_lead s t (picks ∷ rounds) h =
      joined (limited_step machine limits) s h.0 t picks (all_of rounds)
      (turns_lead machine limits s h.0 h.1.order picks h.1.turns)
      (rounds_lead h.0 t rounds h.2)

  pub begins : (p : Point F) (a : Option (List ℕ)) → p.state.printed ≡ [] → p.steps ≡ 0
      → RoundsProgress machine limits p.state p [] a a
  begins p a silent none = record {
    rounds = [];
    went = ap (λ l. state_with_print p.state l) (sym silent);
    counted = omega (arith, none);
    early = omega arith;
    gave = Appends-nil a;
  }

  pub progresses : (s : State F) (p q : Point F) (out bytes : List ℕ) (a b c : Option (List ℕ))
      → RoundsProgress machine limits s p out a b
      → PlaysRound machine limits p q bytes b c → q.steps < limits.steps → q.steps < 2 ^ 64 - 1
      → RoundsProgress machine limits s q (out ++ bytes) a c
  progresses s p q out bytes a b c h k below counting =
      let long = all_more h.rounds k.picks in
      let sum = k.counted (length (all_of h.rounds)) h.counted in
      record {
        rounds = h.rounds ++ k.picks ∷ [];
        went = rounds_on s (state_with_print p.state out) (state_with_print q.state
            (out ++ bytes)) h.rounds k.picks h.went (k.round out);
        counted = omega (arith, long, sum);
        early = omega (arith, long, sum, below, counting);
        gave = Appends-trans a b c out bytes h.gave k.gave;
      }

  pub runs : {C : Type 0} (run : View F C) (given : List ℕ) (s : State F) (p : Point F) (end : RunEnd) (out : List ℕ)
      (a b c : Option (List ℕ))
      → RoundsProgress machine limits s p out a b
      → Finishes machine limits run (given ++ out) p.state p.steps end b c
      → RunsTo run machine limits given s end a c
  runs run given s p end out a b c h k =
      let begun = state_with_print p.state out in
      let state = state_with_print k.state (out ++ k.bytes) in
      record {
        runs = record {
          rounds = h.rounds;
          last = k.picks;
          begun = begun;
          state = state;
          went = h.went;
          goes = k.begun out;
          ran = joined (limited_step machine limits) s begun state (all_of h.rounds) k.picks
              (rounds_lead s begun h.rounds h.went)
              (begun_leads machine limits begun state k.picks (k.begun out));
          ends = subst (λ n. RunEndsAs machine limits (length (all_of h.rounds)) n state end)
              (sym (length-append (all_of h.rounds) k.picks))
              (k.ends (out ++ k.bytes) (length (all_of h.rounds)) h.counted h.early);
          gives = gives_behind out k.bytes a b c h.gave end k.gives;
        };
        before = k.before;
        whole = sym (append_assoc given out k.bytes) ∙ k.whole;
        left = k.left;
      }

  -- there was no memory to begin
  pub none_ran : {C : Type 0} (run : View F C) (given : List ℕ) (s : State F) (a : Option (List ℕ)) → s.printed ≡ []
      → s.printed ≡ run.print
      → IsRunLeft run machine given (state_with_print s run.print) run_end.NoMemory
      → RunsTo run machine limits given s run_end.NoMemory a a
  none_ran run given s a silent print left = record {
    runs = record {
      rounds = [];
      last = [];
      begun = s;
      state = s;
      went = refl;
      goes = begun_turn machine limits s s 0 [] (fits_none machine limits s 0);
      ran = refl;
      ends = tt;
      gives = subst (Appends a a) (sym silent) (Appends-nil a);
    };
    before = given;
    whole = ap (λ l. given ++ l) print;
    left = left;
  }
