-- Turns and rounds, with what went out, one after the other. A run clears its print after each turn; the steps do not look at the print, so
-- the same steps are a turn of a run that has kept all that it printed.
use Rattle.std.proofs.Common.{◌≡◌, ◌+◌, ◌⊎◌, inl, inr, ℕ, List, [], ◌∷◌, ◌++◌, length, take}
use Rattle.std.proofs.Common.{Contains}
use Rattle.std.proofs.Common.{Option, Some, Result, Ok, Err, MatchResult, IsErrOf, refl, ap, sym, subst}
use Rattle.std.proofs.Common.{◌∙◌, arith}
use Rattle.std.proofs.Common.{append_assoc, append-nil, length-append}
use Rattle.std.proofs.lemmas.List.{take_all}
use Rattle.std.proofs.lemmas.List.Elements.{All-nil}
use Rattle.std.proofs.Math.Seq.{take-append-add}
use Rattle.std.proofs.KnownBytes.{Appends-trans}
use Rattle.std.specs.Io.KnownBytes.{Appends}
use Rattle.rgo_machine.specs.declared.limits.Limits.{Limits}
use Rattle.rgo_machine.specs.declared.picks.Pick.{Pick}
use Rattle.rgo_machine.specs.declared.picks.Pick.TheVariants.{One}
use Rattle.rgo_machine.specs.Limits.{LeadsWithin, limited_step}
use Rattle.rgo_machine.specs.Machines.{Machine, State}
use Rattle.rgo_machine.specs.declared.ends.RunEnd.{RunEnd}
use Rattle.rgo_machine.specs.declared.ends.RunEnd.TheVariants as run_end
use Rattle.rgo_round_robin.specs.declared.drivers.Driver.{Driver}
use Rattle.rgo_round_robin.specs.Playing.{state_with_print, Plays, RoundEndsRun, PlaysTo}
use Rattle.rgo_round_robin.specs.Points.{Point, point_of}
use Rattle.rgo_round_robin.specs.Probing.{MeetsAny}
use Rattle.rgo_round_robin.specs.Rounds.{IsPickOf, FitsTurn, IsTurn, AreTurns, IsBegunRound, all_of}
use Rattle.rgo_round_robin.specs.Running.{View, RunContinues, Clears}
use Rattle.rgo_machine.specs.Ends.{RunEndsAs, RunPrints, AppendsSome}
use Rattle.rgo_round_robin.specs.Runs.{IsReadyForTurn, IsRunLeft}
use Rattle.rgo_round_robin.specs.Sleeping.{Sleeps, Watches}
use Rattle.rgo_round_robin.specs.Taking.{StopsAt, TurnsTo}
use Rattle.rgo_round_robin.specs.Turning.{CountsPicks, Stopped, Turned}
use Rattle.rgo_round_robin.proofs.Keepers.{watches_printed}
use Rattle.rgo_round_robin.proofs.Left.{Lawful, left_at, left_printed, left_cleared, left_unwritten, all_given}
use Rattle.rgo_machine.proofs.Runs.{joined}
use Rattle.rgo_machine.proofs.Printing.{with_before, prefixed}
use Rattle.rgo_round_robin.proofs.Printing.{no_step}

-- ---- what goes out

gives_whole : (end : RunEnd) (bytes : List ℕ) (old new : Option (List ℕ)) → Appends old new bytes
    → RunPrints end bytes old new
gives_whole (run_end.Ended e) bytes old new h = h
gives_whole run_end.Deadlock bytes old new h = h
gives_whole run_end.CallsTooDeep bytes old new h = h
gives_whole run_end.StepsSpent bytes old new h = h
gives_whole run_end.GoroutinesSpent bytes old new h = h
gives_whole (run_end.NoRoom shortage) bytes old new h = h
gives_whole run_end.WriteFault bytes old new h =
    (length bytes, subst (Appends old new) (sym (take_all (length bytes) bytes (omega arith))) h)
gives_whole run_end.NoMemory bytes old new h = h

module _ (before bytes : List ℕ) (a b c : Option (List ℕ)) (first : Appends a b before) where
  both : Appends b c bytes → Appends a c (before ++ bytes)
  both h = Appends-trans a b c before bytes first h

  pub gives_behind : (end : RunEnd) → RunPrints end bytes b c → RunPrints end (before ++ bytes) a c
  gives_behind (run_end.Ended e) h = both h
  gives_behind run_end.Deadlock h = both h
  gives_behind run_end.CallsTooDeep h = both h
  gives_behind run_end.StepsSpent h = both h
  gives_behind run_end.GoroutinesSpent h = both h
  gives_behind (run_end.NoRoom shortage) h = both h
  gives_behind run_end.WriteFault h = (
    length before + h.0,
    subst (Appends a c) (sym (take-append-add before bytes h.0)) (Appends-trans a b c before
        (take h.0 bytes) first h.1),
  )
  gives_behind run_end.NoMemory h = both h

pub nil_parts : {X : Type 0} (a b : List X) → a ++ b ≡ [] → (a ≡ []) × (b ≡ [])
nil_parts [] b e = (refl, e)
nil_parts (x ∷ a) b e = cc

abbrev or_error : RunEnd → Result (Unit {0}) RunEnd → RunEnd
or_error end (Ok x) = end
or_error end (Err e) = e

pub error_is : (e f : RunEnd) (r q : Result (Unit {0}) RunEnd) → r ≡ Err e → q ≡ Err f → r ≡ q → e ≡ f
error_is e f r q a b same = ap (or_error e) (sym a ∙ same ∙ b)

-- a meeting that was looked for ends with no fault
pub meets_no_fault : {F C : Type 0} (run : View F C) (machine : Machine F) (given : List ℕ) (s : State F)
    (d e : Driver) (o : Result (Unit {0}) RunEnd)
    → MeetsAny run machine given s o d e → IsErrOf o run_end.WriteFault → ⊥
meets_no_fault run machine given s d e (Ok x) met is = cc
meets_no_fault run machine given s d e (Err end) (inl none) is =
    let both : run_end.Deadlock ≡ run_end.WriteFault = sym none.is ∙ ap (or_error end) is in
    cc
meets_no_fault run machine given s d e (Err end) (inr none) is =
    let both : run_end.NoMemory ≡ run_end.WriteFault = sym none.is ∙ ap (or_error end) is in
    cc

pub all_more : (rounds : List (List Pick)) (picks : List Pick)
    → length (all_of (rounds ++ picks ∷ [])) ≡ length (all_of rounds) + length picks
all_more [] picks = omega (arith, length-append picks [])
all_more (first ∷ rounds) picks =
    omega (
      arith,
      length-append first (all_of (rounds ++ picks ∷ [])),
      all_more rounds picks,
      length-append first
          (all_of rounds),
    )

module _ {F : Type 0} (machine : Machine F) (limits : Limits) where
  pub watches_lists : (s : State F) (ready more : List ℕ) (v w : ℕ → List ℕ) → more ≡ ready → ((n : ℕ) → w n ≡ v n)
      → Watches machine s ready v → Watches machine s more w
  watches_lists s ready more v w is same watches g lt = by_cases (watches g lt) where
    by_cases : Contains ready g ⊎ Sleeps machine s v g → Contains more g ⊎ Sleeps machine s w g
    by_cases (inl c) = inl (subst (λ l. Contains l g) (sym is) c)
    by_cases (inr sleeps) = inr (record {
      still = sleeps.still;
      listed = λ n at. subst (λ l. Contains l g) (sym (same n)) (sleeps.listed n at);
    })

  passes_printed : (q r : Point F) (bytes rest : List ℕ) → r.state ≡ state_with_print q.state bytes → r.ready ≡ q.ready
      → ((n : ℕ) → r.waiting n ≡ q.waiting n) → Watches machine q.state (rest ++ q.ready) q.waiting
      → Watches machine r.state (rest ++ r.ready) r.waiting
  passes_printed q r bytes rest is ready waiting watches =
      watches_lists r.state (rest ++ q.ready) (rest ++ r.ready) q.waiting r.waiting (ap (λ l. rest ++ l) ready) waiting
      (watches_printed machine limits q.state r.state bytes (rest ++ q.ready) q.waiting is watches)

  -- ---- whatever was printed before

  printed_before : (s : State F) (before : List ℕ) → s.printed ≡ [] → with_before before s ≡ state_with_print s before
  printed_before s before silent = ap (λ l. state_with_print s (before ++ l)) silent
      ∙ ap (λ l. state_with_print s l) (append-nil before)

  leads_after : (s t : State F) (picks : List Pick) (before : List ℕ) → s.printed ≡ []
      → LeadsWithin machine limits s picks t
      → LeadsWithin machine limits (state_with_print s before) picks (state_with_print t (before ++ t.printed))
  leads_after s t picks before silent leads =
      subst (λ v. LeadsWithin machine limits v picks (with_before before t)) (printed_before s before silent)
      (prefixed machine limits before s t picks leads)

  pub fits_after : (s t : State F) (g : ℕ) (picks : List Pick) (before : List ℕ) → s.printed ≡ []
      → FitsTurn machine limits s g picks t
      → FitsTurn machine limits (state_with_print s before) g picks (state_with_print t (before ++ t.printed))
  fits_after s t g picks before silent h = record {
    leads = leads_after s t picks before silent h.leads;
    short = h.short;
    own = h.own;
  }

  pub turn_after : (s t : State F) (g : ℕ) (picks : List Pick) (before : List ℕ) → s.printed ≡ []
      → IsTurn machine limits s g picks t
      → IsTurn machine limits (state_with_print s before) g picks (state_with_print t (before ++ t.printed))
  turn_after s t g picks before silent h = record {
    fits = fits_after s t g picks before silent h.fits;
    plays = λ none. no_step machine s before (One g) (h.plays none);
  }

  ends_after : (b n : ℕ) (s : State F) (print : List ℕ) (end : RunEnd) → RunEndsAs machine limits b n s end
      → RunEndsAs machine limits b n (state_with_print s print) end
  ends_after b n s print (run_end.Ended e) h = h
  ends_after b n s print run_end.Deadlock h = (h.0, λ pick. no_step machine s print pick (h.1 pick))
  ends_after b n s print run_end.CallsTooDeep h = (
    h.0,
    record {
      goroutine = h.1.goroutine;
      frame = h.1.frame;
      callers = h.1.callers;
      frames = h.1.frames;
      deep = h.1.deep;
      calls = h.1.calls;
    },
  )
  ends_after b n s print run_end.StepsSpent h = h
  ends_after b n s print run_end.GoroutinesSpent h = (
    h.0,
    record {
      full = h.1.full;
      goroutine = h.1.goroutine;
      frame = h.1.frame;
      callers = h.1.callers;
      frames = h.1.frames;
      starts = h.1.starts;
    },
  )
  ends_after b n s print (run_end.NoRoom shortage) h = h
  ends_after b n s print run_end.WriteFault h = h
  ends_after b n s print run_end.NoMemory h = h

  -- ---- turns in a row

  pub turns_on : (s t u : State F) (order more : List ℕ) (picks rest : List Pick)
      → AreTurns machine limits s order picks t
      → AreTurns machine limits t more rest u → AreTurns machine limits s (order ++ more) (picks ++ rest) u
  turns_on s t u [] more picks rest h k =
      subst (λ v. AreTurns machine limits v more (picks ++ rest) u) h.1
      (subst (λ l. AreTurns machine limits t more (l ++ rest) u) (sym h.0) k)
  turns_on s t u (g ∷ order) more picks rest h k = (
    h.0,
    h.1 ++ rest,
    h.2,
    ap (λ l. l ++ rest) h.3 ∙ append_assoc h.0 h.1 rest,
    h.4,
    turns_on h.2 t u order more h.1 rest h.5 k,
  )

  pub one_turn : (s t : State F) (g : ℕ) (picks : List Pick) → IsTurn machine limits s g picks t
      → AreTurns machine limits s (g ∷ []) picks t
  one_turn s t g picks h = (picks, [], t, sym (append-nil picks), h, (refl, refl))

  pub turns_lead : (s t : State F) (order : List ℕ) (picks : List Pick) → AreTurns machine limits s order picks t
      → LeadsWithin machine limits s picks t
  turns_lead s t [] picks h =
      subst (λ l. LeadsWithin machine limits s l t) (sym h.0) (ap Some (sym h.1))
  turns_lead s t (g ∷ order) picks h =
      subst (λ l. LeadsWithin machine limits s l t) (sym h.3)
      (joined (limited_step machine limits) s h.2 t h.0 h.1 h.4.fits.leads (turns_lead h.2 t order h.1 h.5))

  pub fits_none : (s : State F) (g : ℕ) → FitsTurn machine limits s g [] s
  fits_none s g = record { leads = refl; short = omega arith; own = All-nil (IsPickOf g) }

  pub begun_whole : (s t : State F) (order : List ℕ) (picks : List Pick) → AreTurns machine limits s order picks t
      → IsBegunRound machine limits s picks t
  begun_whole s t order picks h = record {
    order = order;
    whole = picks;
    part = [];
    turning = t;
    goroutine = 0;
    picked = sym (append-nil picks);
    turns = h;
    begun = fits_none t 0;
  }

  pub begun_turn : (s t : State F) (g : ℕ) (picks : List Pick) → FitsTurn machine limits s g picks t
      → IsBegunRound machine limits s picks t
  begun_turn s t g picks h = record {
    order = [];
    whole = [];
    part = picks;
    turning = s;
    goroutine = g;
    picked = refl;
    turns = (refl, refl);
    begun = h;
  }

  pub begun_on : (s t u : State F) (order : List ℕ) (picks more : List Pick) → AreTurns machine limits s order picks t
      → IsBegunRound machine limits t more u → IsBegunRound machine limits s (picks ++ more) u
  begun_on s t u order picks more h k = record {
    order = order ++ k.order;
    whole = picks ++ k.whole;
    part = k.part;
    turning = k.turning;
    goroutine = k.goroutine;
    picked = ap (λ l. picks ++ l) k.picked ∙ sym (append_assoc picks k.whole k.part);
    turns = turns_on s t k.turning order k.order picks k.whole h k.turns;
    begun = k.begun;
  }

  pub begun_leads : (s t : State F) (picks : List Pick) → IsBegunRound machine limits s picks t
      → LeadsWithin machine limits s picks t
  begun_leads s t picks h =
      subst (λ l. LeadsWithin machine limits s l t) (sym h.picked)
      (joined (limited_step machine limits) s h.turning t h.whole h.part
      (turns_lead s h.turning h.order h.whole h.turns) h.begun.leads)

  -- ---- a turn, and what it printed

  -- the state after it, with its print gone
  pub played : (g : ℕ) (p q r : Point F) (a b : Option (List ℕ)) → p.state.printed ≡ [] → Turned machine limits g p q
      → r.state ≡ state_with_print q.state [] → r.steps ≡ q.steps → Appends a b q.state.printed
      → Plays machine limits g p r q.state.printed a b
  played g p q r a b silent h cleared steps given = record {
    picks = h.picks;
    turn = λ before.
        subst (λ v. IsTurn machine limits (state_with_print p.state before) g h.picks (state_with_print v
        (before ++ q.state.printed)))
        (sym cleared) (turn_after p.state q.state g h.picks before silent h.turn);
    counted = subst (CountsPicks p.steps h.picks) (sym steps) h.counted;
    gave = given;
  }

  ready_after : (t : State F) (u : State F) → RunContinues limits t → u ≡ state_with_print t [] → IsReadyForTurn limits u
  ready_after t u on is = subst (IsReadyForTurn limits) (sym is) (record {
    on = record { running = on.running; within = on.within };
    silent = refl;
  })

  breaks_so : {C : Type 0} (run : View F C) (g : ℕ) (given out : List ℕ) (s t : State F) (picks : List Pick)
      (end : RunEnd) (a b : Option (List ℕ))
      → s.printed ≡ []
      → FitsTurn machine limits s g picks t → ((before steps : ℕ) → RunEndsAs machine limits before steps t end)
      → RunPrints end t.printed a b → given ++ t.printed ≡ out ++ run.print
      → IsRunLeft run machine out (state_with_print t run.print) end
      → RoundEndsRun machine limits run given s end a b
  breaks_so run g given out s t picks end a b silent fits ends gave whole left = record {
    picks = picks;
    bytes = t.printed;
    state = t;
    begun = λ before. begun_turn (state_with_print s before) (state_with_print t (before ++ t.printed)) g picks
        (fits_after s t g picks before silent fits);
    ends = λ print before steps. ends_after before steps t print end (ends before steps);
    gives = gave;
    before = out;
    whole = whole;
    left = left;
  }

  fits_stopped : (g : ℕ) (s t : State F) (end : RunEnd) → (h : Stopped machine limits g s t 1000 end)
      → FitsTurn machine limits s g h.picks t
  fits_stopped g s t end h = record { leads = h.leads; short = h.short; own = h.own }

  -- ---- what is made of a run under way

  -- a write failed, whether the run goes on or not
  pub breaks_fault : {C : Type 0} (run : View F C) (g : ℕ) (given : List ℕ) (s : State F) (d e : Driver)
      (o : Result (Unit {0}) RunEnd) (a b : Option (List ℕ))
      → Lawful run → s.printed ≡ []
      → MatchResult o (λ _. TurnsTo run machine limits g given s d e) (StopsAt run machine limits g given s 1000)
      → AppendsSome a b run.print → RoundEndsRun machine limits run given s run_end.WriteFault a b
  breaks_fault run g given s d e (Ok x) a b lawful silent h gave =
      let t = h.state in
      let print = lawful.prints given t h.at.shown in
      breaks_so run g given given s t h.turned.picks run_end.WriteFault a b silent h.turned.turn.fits
      (λ before steps. tt) (subst (AppendsSome a b) (sym print) gave) (ap (λ l. given ++ l) print)
      (left_printed run machine given t run_end.WriteFault print
      (left_at run machine given t run_end.WriteFault lawful h.at (λ shortage is. cc)))
  breaks_fault run g given s d e (Err end) a b lawful silent h gave =
      let t = h.state in
      breaks_so run g given given s t h.stopped.picks run_end.WriteFault a b silent
      (fits_stopped g s t end h.stopped) (λ before steps. tt) (subst (AppendsSome a b) (sym h.print) gave)
      (ap (λ l. given ++ l) h.print)
      (left_printed run machine given t run_end.WriteFault h.print (left_unwritten run machine given t end h.left))

  -- all that a turn printed went out, and its print was cleared
  pub settled : {C : Type 0} (old run : View F C) (g : ℕ) (given : List ℕ) (s : State F) (d e : Driver)
      (o : Result (Unit {0}) RunEnd) (a b : Option (List ℕ))
      → Lawful old → s.printed ≡ []
      → MatchResult o (λ _. TurnsTo old machine limits g given s d e) (StopsAt old machine limits g given s 1000)
      → Clears old run → Appends a b old.print
      → MatchResult o (λ _. PlaysTo run machine limits given s d e g a b)
      (λ end. RoundEndsRun machine limits run given s end a b)
  settled old run g given s d e (Ok x) a b lawful silent h cleared gave =
      let t = h.state in
      let q = point_of t e in
      let r = point_of (state_with_print t []) e in
      record {
        state = state_with_print t [];
        bytes = t.printed;
        at = record { is = cleared.machine ∙ h.at.is; shown = cleared.shows given t h.at.shown };
        ready = ready_after t (state_with_print t []) h.turned.on refl;
        plays = played g (point_of s d) q r a b silent h.turned refl refl
            (subst (Appends a b) (sym (lawful.prints given t h.at.shown)) gave);
        passes = λ rest watches. passes_printed q r [] rest refl refl (λ n. refl) (h.passes rest watches);
      }
  settled old run g given s d e (Err end) a b lawful silent h cleared gave =
      let t = h.state in
      breaks_so run g given (given ++ t.printed) s t h.stopped.picks end a b silent
      (fits_stopped g s t end h.stopped) h.stopped.ends
      (gives_whole end t.printed a b (subst (Appends a b) (sym h.print) gave))
      (all_given (given ++ t.printed) run.print cleared.print)
      (left_cleared old run machine given t end cleared h.left)

  pub no_fault_if : {C : Type 0} (run : View F C) (g : ℕ) (given : List ℕ) (s : State F) (d e : Driver)
      (o : Result (Unit {0}) RunEnd)
      → MatchResult o (λ _. TurnsTo run machine limits g given s d e) (StopsAt run machine limits g given s 1000)
      → IsErrOf o run_end.WriteFault → ⊥
  no_fault_if run g given s d e (Ok x) h is = cc
  no_fault_if run g given s d e (Err end) h is = h.stopped.no_fault (ap (or_error end) is)
