-- The examples of ends: that a run exists is shown by computing one, and what every run does by the search over all of them
-- (Search.antt).
use Rattle.std.proofs.Common.{◌≡◌, ℕ, zero, suc, ◌==◌, Bool, true, false, List, [], ◌∷◌, Option, Some, None, refl, sym, ap}
use Rattle.std.proofs.Common.{subst, true≢false, if◌then◌else◌}
use Rattle.std.specs.Prelude.{bytes_eq}
use Rattle.std.specs.Option.{is_some}
use Rattle.std.proofs.lemmas.Bool.{leb-true}
use Rattle.rgo_machine.specs.declared.picks.End.{End}
use Rattle.rgo_machine.specs.declared.picks.End.TheVariants.{Exit, Trap}
use Rattle.rgo_machine.specs.declared.picks.Pick.TheVariants.{One, Meet}
use Rattle.rgo_machine.specs.Limits.{limited_step}
use Rattle.rgo_machine.specs.Machines.{step_by}
use Rattle.rgo_machine.specs.Runs.{IsBlocked}
use Rattle.rgo_tac.specs.Code.{Tac}
use Rattle.rgo_tac.specs.Tac.{TacState, tac, tac_start, tac_step}
use Rattle.rgo_machine.specs.declared.ends.RunEnd.{RunEnd}
use Rattle.rgo_machine.specs.declared.ends.RunEnd.TheVariants as run_end
use Rattle.rgo_command_line.specs.Limits.{default_options}
use Rattle.rgo_claim_examples.specs.Ends.{EndExamples, FreeRunPrints, truth_line, prints, receiver, waiting}
use Rattle.rgo_claim_examples.proofs.Quiet.{limited_is_of}
use Rattle.rgo_claim_examples.proofs.Search.{all_within, found}

-- ---- a deadlock

either : (b : Bool) (o : Option TacState) → o ≡ None → (if b then None else o) ≡ None
either true o e = refl
either false o e = e

blocked : IsBlocked (step_by (tac receiver)) waiting
blocked (One zero) = refl
blocked (One (suc g)) = refl
blocked (Meet zero zero) = refl
blocked (Meet zero (suc t)) = either (0 == suc t) _ refl
blocked (Meet (suc r) t) = either (suc r == t) _ refl

no_end : (e : End) → Some e ≡ None → ⊥
no_end e is = cc

goes_on : step_by (tac receiver) (tac_start receiver) (One 0) ≡ None → ⊥
goes_on e = true≢false (ap is_some e)

-- ---- every run

-- whether a test is true of each state that the code reaches within the default limits, in fewer than ten steps
abbrev always : Tac → (TacState → Bool) → Bool
always code test = all_within (limited_step (tac code) default_options.limits) test 10 (tac_start code)

module _ (code : Tac) (test : TacState → Bool) (all : always code test ≡ true) (end : RunEnd) (print : List ℕ)
    (run : FreeRunPrints code end print) where
  passes : test run.state ≡ true
  passes =
      (found (tac code) (limited_step (tac code) default_options.limits) (limited_is_of (tac code) default_options.limits)
      test 10 run.picks (tac_start code) run.state all run.ran).0

-- it has printed the line if it has exited, and has a step if it has not ended
abbrev sees : (print : List ℕ) → Option End → (next : Option TacState) → Bool
sees print None next = is_some next
sees print (Some Exit) next = bytes_eq print (truth_line true)
sees print (Some (Trap trap place)) next = false

abbrev prints_rightly : TacState → Bool
prints_rightly s = sees s.printed s.ended (tac_step prints s (One 0))

other_print : FreeRunPrints prints (run_end.Ended Exit) (truth_line false) → ⊥
other_print run =
    let p = passes prints prints_rightly refl (run_end.Ended Exit) (truth_line false) run in
    let exited = subst (λ e. sees run.state.printed e (tac_step prints run.state (One 0)) ≡ true) run.ends p in
    let other = subst (λ bytes. bytes_eq bytes (truth_line true) ≡ true) (sym run.gives) exited in
    true≢false (sym other)

no_deadlock : (print : List ℕ) → FreeRunPrints prints run_end.Deadlock print → ⊥
no_deadlock print run =
    let p = passes prints prints_rightly refl run_end.Deadlock print run in
    let going = subst (λ e. sees run.state.printed e (tac_step prints run.state (One 0)) ≡ true) run.ends.0 p in
    true≢false (sym (subst (λ next. is_some next ≡ true) (run.ends.1 (One 0)) going))

abbrev is_going : Option End → Bool
is_going None = true
is_going (Some e) = false

no_exit : (print : List ℕ) → FreeRunPrints receiver (run_end.Ended Exit) print → ⊥
no_exit print run =
    let p = passes receiver (λ s. is_going s.ended) refl (run_end.Ended Exit) print run in
    true≢false (sym (subst (λ e. is_going e ≡ true) run.ends p))

pub end_examples : EndExamples
end_examples = record {
  waits = (refl, blocked);
  has_step = λ d. goes_on (d.1 (One 0));
  has_ended = λ d. no_end Exit d.0;
  exits = record {
    picks = One 0 ∷ One 0 ∷ One 0 ∷ [];
    tested = 0;
    state = _;
    ran = refl;
    early = leb-true 0 3 refl;
    ends = refl;
    gives = refl;
  };
  deadlocks = record {
    picks = One 0 ∷ One 0 ∷ [];
    tested = 0;
    state = waiting;
    ran = refl;
    early = leb-true 0 2 refl;
    ends = (refl, blocked);
    gives = refl;
  };
  other_print = other_print;
  no_deadlock = no_deadlock;
  no_exit = no_exit;
}
