-- Turns of at most one step, and one turn after another. Only a turn that was spent is followed by another, and such a turn changes no
-- channel and prints nothing; so what two turns in a row have changed is what the second has.
use Rattle.std.proofs.Common.{◌≡◌, ◌≤◌, ◌+◌, ℕ, Bool, true, false, List, [], ◌∷◌, length, replicate}
use Rattle.std.proofs.Common.{Option, Some, None, Ok, slice_get, refl, ap, sym, ◌∙◌, subst, arith}
use Rattle.std.specs.Prelude.{option_and_then, nat_le, if◌then◌else◌}
use Rattle.std.proofs.lemmas.Bool.Decides.{nat_tests}
use Rattle.std.proofs.lemmas.List.{replicate-append-replicate}
use Rattle.rgo_memory.specs.Channels.{SameChannels}
use Rattle.rgo_memory.specs.Memory.{Memory}
use Rattle.rgo_interpreter.specs.declared.goroutines.Happened.{Happened}
use Rattle.rgo_interpreter.specs.declared.goroutines.Happened.TheVariants as happened
use Rattle.rgo_machine.specs.declared.limits.Limits.{Limits}
use Rattle.rgo_interpreter.specs.declared.machines.Stand.{Stand as CodeStand}
use Rattle.rgo_interpreter.specs.declared.machines.Stand.TheVariants as code
use Rattle.rgo_machine.specs.declared.picks.Pick.TheVariants.{One}
use Rattle.rgo_interpreter.specs.declared.turns.TurnEnd.{TurnEnd}
use Rattle.rgo_interpreter.specs.declared.turns.TurnEnd.TheVariants as stop
use Rattle.rgo_interpreter.specs.declared.turns.Turned.{Turned}
use Rattle.rgo_interpreter.specs.Acting.{stand_of, newest_stand, standing}
use Rattle.rgo_interpreter.specs.Alone.{StepsAlone, ChangesAt, KeepsPrint}
use Rattle.rgo_machine.specs.Limits.{deepest, most_goroutines, is_within, LeadsWithin}
use Rattle.rgo_machine.specs.Limits.{IsCallTooDeep, IsFull, IsAtCall, IsAtStart}
use Rattle.rgo_machine.specs.Machines.{Stand, AtReceive, AtSend, AtClose, AtCall, AtStart, Elsewhere}
use Rattle.rgo_machine.specs.Machines.{Machine, State, picked, unless_ended, step_by}
use Rattle.rgo_interpreter.specs.Turning.{turn_of, depth_in, depth_of, limit_at}
use Rattle.rgo_interpreter.specs.Turns.{IsOver, ChangesChannels, ChangesPrint, Turns}
use Rattle.rgo_interpreter.proofs.Limited.{stays_within, room_at, few_at}
use Rattle.rgo_machine.proofs.Runs.{limited, leads_one, leads_joined, ends_within}

-- ---- channels

same_too : (m n k : Memory) → SameChannels m n → SameChannels n k → SameChannels m k
same_too m n k first second j channel e = second j channel (first j channel e)

changed_too : (stop : TurnEnd) (m n k : Memory) → SameChannels m n → ChangesChannels stop n k → ChangesChannels stop m k
changed_too stop.Spent m n k first second = same_too m n k first second
changed_too stop.Waits m n k first second = same_too m n k first second
changed_too stop.Printed m n k first second = same_too m n k first second
changed_too (stop.Operated c) m n k first second = λ j differ channel e. second j differ channel (first j channel e)
changed_too (stop.Ended end) m n k first second = same_too m n k first second
changed_too stop.TooDeep m n k first second = same_too m n k first second
changed_too stop.Full m n k first second = same_too m n k first second
changed_too (stop.NoRoom shortage) m n k first second = same_too m n k first second
changed_too stop.NoMemory m n k first second = same_too m n k first second

-- ---- prints

kept_too : (why : TurnEnd) (a b c : List ℕ) → b ≡ a → ChangesPrint why b c → ChangesPrint why a c
kept_too stop.Spent a b c first second = second ∙ first
kept_too stop.Waits a b c first second = second ∙ first
kept_too stop.Printed a b c first second = second
kept_too (stop.Operated channel) a b c first second = second ∙ first
kept_too (stop.Ended end) a b c first second = second ∙ first
kept_too stop.TooDeep a b c first second = second ∙ first
kept_too stop.Full a b c first second = second ∙ first
kept_too (stop.NoRoom shortage) a b c first second = second ∙ first
kept_too stop.NoMemory a b c first second = second ∙ first

-- ---- a limit is met

module _ {F : Type 0} where
  at_call : (stand : Stand F) → stand_of stand ≡ code.Call → IsAtCall stand
  at_call (AtCall next callee) e = tt
  at_call (AtReceive c blank go_on) e = cc
  at_call (AtSend c v place next) e = cc
  at_call (AtClose c place next) e = cc
  at_call (AtStart next child) e = cc
  at_call Elsewhere e = cc

  at_start : (stand : Stand F) → stand_of stand ≡ code.Start → IsAtStart stand
  at_start (AtStart next child) e = tt
  at_start (AtReceive c blank go_on) e = cc
  at_start (AtSend c v place next) e = cc
  at_start (AtClose c place next) e = cc
  at_start (AtCall next callee) e = cc
  at_start Elsewhere e = cc

some_stand : (a b : CodeStand) → Some a ≡ Some b → a ≡ b
some_stand a b e = cc

as_many : (n most : ℕ) → nat_le n most ≡ true → nat_le most n ≡ true → n ≡ most
as_many n most few many = grind (arith, nat_tests)

is_met : (b : Bool) (x y : TurnEnd) → (if b then Some x else None) ≡ Some y → (b ≡ true) × (y ≡ x)
is_met true x y e = (refl, cc)
is_met false x y e = cc

module _ {F : Type 0} (machine : Machine F) (limits : Limits) (s : State F) (g : ℕ) (within : is_within limits s ≡ true)
    (run : s.ended ≡ None) where
  too_deep : (o : Option (List F)) → slice_get s.goroutines g ≡ o
      → option_and_then (newest_stand machine) o ≡ Some code.Call → nat_le deepest (depth_in o) ≡ true
      → IsCallTooDeep machine s
  too_deep None there is deep = cc
  too_deep (Some []) there is deep = cc
  too_deep (Some (f ∷ callers)) there is deep = record {
    goroutine = g;
    frame = f;
    callers = callers;
    frames = there;
    deep = as_many (length (f ∷ callers)) deepest (room_at limits s g (f ∷ callers) within there) deep;
    calls = at_call (machine.stand f) (some_stand _ _ is);
  }

  full : (o : Option (List F)) → slice_get s.goroutines g ≡ o
      → option_and_then (newest_stand machine) o ≡ Some code.Start
      → nat_le (most_goroutines limits) (length s.goroutines) ≡ true → IsFull machine limits s
  full None there is many = cc
  full (Some []) there is many = cc
  full (Some (f ∷ callers)) there is many = record {
    full = as_many (length s.goroutines) (most_goroutines limits) (few_at limits s within) many;
    goroutine = g;
    frame = f;
    callers = callers;
    frames = there;
    starts = at_start (machine.stand f) (some_stand _ _ is);
  }

  -- a turn without a step
  still : (stop : TurnEnd) → IsOver machine limits s g 1 0 stop → ChangesChannels stop s.memory s.memory
      → ChangesPrint stop s.printed s.printed → Turns machine limits s s g 1 (record { steps = 0; stop = stop })
  still stop over channels print = record
      { leads = refl; within = omega arith; over = over; channels = channels; print = print }

  same_channels : SameChannels s.memory s.memory
  same_channels k channel e = e

  -- the turn is over at a limit
  pub at_limit : (stand : CodeStand) (stop : TurnEnd) → standing machine s g ≡ Some stand
      → limit_at limits s g stand ≡ Some stop → Turns machine limits s s g 1 (record { steps = 0; stop = stop })
  at_limit code.Call x is met =
      let both = is_met (nat_le deepest (depth_of s g)) stop.TooDeep x met in
      subst (λ (y : TurnEnd). Turns machine limits s s g 1 (record { steps = 0; stop = y })) (sym both.1)
      (still stop.TooDeep (run, too_deep (slice_get s.goroutines g) refl is both.0) same_channels refl)
  at_limit code.Start x is met =
      let both = is_met (nat_le (most_goroutines limits) (length s.goroutines)) stop.Full x met in
      subst (λ (y : TurnEnd). Turns machine limits s s g 1 (record { steps = 0; stop = y })) (sym both.1)
      (still stop.Full (run, full (slice_get s.goroutines g) refl is both.0) same_channels refl)
  at_limit (code.Receive c blank) x is met = cc
  at_limit (code.Send c v place) x is met = cc
  at_limit (code.Close c place) x is met = cc
  at_limit code.Elsewhere x is met = cc

  -- ---- a turn of one step

  as_step : step_by machine s (One g) ≡ picked machine s (One g)
  as_step = ap (λ ended. unless_ended ended (picked machine s (One g))) run

  one_step : (t : State F) (stand : CodeStand) → standing machine s g ≡ Some stand → limit_at limits s g stand ≡ None
      → picked machine s (One g) ≡ Some t → LeadsWithin machine limits s (One g ∷ []) t
  one_step t stand is free e =
      leads_one machine limits s t (One g)
      (limited machine limits s t (One g) (as_step ∙ e) (stays_within machine limits s g within stand is free t e))

  stepped_on : (t : State F) (stand : CodeStand) → standing machine s g ≡ Some stand → limit_at limits s g stand ≡ None
      → picked machine s (One g) ≡ Some t → (why : TurnEnd) → IsOver machine limits t g 1 1 why
      → ChangesChannels why s.memory t.memory → ChangesPrint why s.printed t.printed
      → Turns machine limits s t g 1 (record { steps = 1; stop = why })
  stepped_on t stand is free step why over channels print = record {
    leads = one_step t stand is free step;
    within = omega arith;
    over = over;
    channels = channels;
    print = print;
  }

  pub stepped_so : (r : Happened) (t : State F) (stand : CodeStand) → standing machine s g ≡ Some stand
      → limit_at limits s g stand ≡ None → StepsAlone (Ok r) s t (picked machine s (One g))
      → ChangesAt (Ok r) s.memory t.memory → KeepsPrint (Ok r) s.printed t.printed
      → Turns machine limits s t g 1 (turn_of r)
  stepped_so happened.Waits t stand is free steps channels print = record {
    leads = ap Some (sym steps.1);
    within = omega arith;
    over = (
      ap (λ (x : State F). x.ended) steps.1 ∙ run,
      ap (λ (x : State F). step_by machine x (One g)) steps.1 ∙ as_step ∙ steps.0,
    );
    channels = channels;
    print = print;
  }
  stepped_so happened.Moves t stand is free steps channels print =
      stepped_on t stand is free steps.0 stop.Spent (steps.1, refl) channels print
  stepped_so happened.Prints t stand is free steps channels print =
      stepped_on t stand is free steps.0 stop.Printed (steps.1, omega arith) channels print
  stepped_so (happened.Operates c) t stand is free steps channels print =
      stepped_on t stand is free steps.0 (stop.Operated c) (steps.1, omega arith) channels print
  stepped_so (happened.Ends e) t stand is free steps channels print =
      stepped_on t stand is free steps.0 (stop.Ended e) (steps.1, omega arith) channels print

-- ---- one turn after another

module _ {F : Type 0} (machine : Machine F) (limits : Limits) (s t u : State F) (g k : ℕ)
    (first : Turns machine limits s t g k (record { steps = k; stop = stop.Spent })) where
  over_too : (n at_most steps : ℕ) (why : TurnEnd) → (why ≡ stop.Spent → k + steps ≡ at_most)
      → IsOver machine limits u g n steps why → IsOver machine limits u g at_most (k + steps) why
  over_too n at_most steps stop.Spent whole over = (over.0, whole refl)
  over_too n at_most steps stop.Waits whole over = over
  over_too n at_most steps stop.Printed whole over = (over.0, omega (arith, over.1))
  over_too n at_most steps (stop.Operated c) whole over = (over.0, omega (arith, over.1))
  over_too n at_most steps (stop.Ended e) whole over = (over.0, omega (arith, over.1))
  over_too n at_most steps stop.TooDeep whole over = over
  over_too n at_most steps stop.Full whole over = over
  over_too n at_most steps (stop.NoRoom shortage) whole over = over
  over_too n at_most steps stop.NoMemory whole over = over

  -- both as one
  pub and_then : (n : ℕ) (done : Turned) → Turns machine limits t u g n done → (at_most : ℕ)
      → k + done.steps ≤ at_most → (done.stop ≡ stop.Spent → k + done.steps ≡ at_most)
      → Turns machine limits s u g at_most (record { steps = k + done.steps; stop = done.stop })
  and_then n done second at_most within whole =
      record {
        leads = subst (λ picks. LeadsWithin machine limits s picks u)
            (replicate-append-replicate k done.steps (One g))
            (leads_joined machine limits s t u (replicate k (One g)) (replicate done.steps (One g)) first.leads
            second.leads);
        within = within;
        over = over_too n at_most done.steps done.stop whole second.over;
        channels = changed_too done.stop s.memory t.memory u.memory first.channels second.channels;
        print = kept_too done.stop s.printed t.printed u.printed first.print second.print;
      }

-- no step yet
pub not_begun : {F : Type 0} (machine : Machine F) (limits : Limits) (s : State F) (g : ℕ) → s.ended ≡ None
    → Turns machine limits s s g 0 (record { steps = 0; stop = stop.Spent })
not_begun machine limits s g run = record {
  leads = refl;
  within = omega arith;
  over = (run, refl);
  channels = λ k channel e. e;
  print = refl;
}

-- what the next step needs
pub still_within : {F : Type 0} (machine : Machine F) (limits : Limits) (s t : State F) (g k : ℕ) (done : Turned)
    → is_within limits s ≡ true → Turns machine limits s t g k done → is_within limits t ≡ true
still_within machine limits s t g k done within turns =
    ends_within machine limits s t (replicate done.steps (One g)) within turns.leads
