-- Steps of a turn, one after the other. Counts are related to the true number of steps (`CountsUp`), so they add up although the code's
-- addition stops at the end of its type.
use Rattle.std.proofs.Common.{◌≡◌, ◌<◌, ◌≤◌, ◌+◌, ◌-◌, ◌^◌, ◌⊎◌, inl, inr, ℕ, List, [], ◌∷◌, ◌++◌}
use Rattle.std.proofs.Common.{length}
use Rattle.std.proofs.Common.{Option, Some, None, refl, ap, sym, subst, ◌∙◌, arith}
use Rattle.std.proofs.Common.{replicate, length-append}
use Rattle.std.proofs.lemmas.List.{length-replicate}
use Rattle.std.proofs.lemmas.List.Elements.{All-nil, All-append, All-replicate, All-push}
use Rattle.std.specs.Prelude.{min}
use Rattle.rgo_machine.specs.declared.limits.Limits.{Limits}
use Rattle.rgo_machine.specs.declared.picks.Pick.{Pick}
use Rattle.rgo_machine.specs.declared.picks.Pick.TheVariants.{One, Meet}
use Rattle.rgo_interpreter.specs.declared.turns.TurnEnd.{TurnEnd}
use Rattle.rgo_interpreter.specs.declared.turns.TurnEnd.TheVariants as stop
use Rattle.rgo_interpreter.specs.declared.turns.Turned.{Turned}
use Rattle.rgo_machine.specs.Limits.{LeadsWithin, limited_step}
use Rattle.rgo_machine.specs.Machines.{Machine, State, step_by}
use Rattle.rgo_interpreter.specs.Turns.{Turns, IsOver}
use Rattle.rgo_machine.specs.declared.ends.RunEnd.{RunEnd}
use Rattle.rgo_machine.specs.declared.ends.RunEnd.TheVariants as run_end
use Rattle.rgo_round_robin.specs.Points.{Point}
use Rattle.rgo_round_robin.specs.Rounds.{IsPickOf}
use Rattle.rgo_round_robin.specs.Running.{RunContinues}
use Rattle.rgo_machine.specs.Ends.{RunEndsAs}
use Rattle.rgo_round_robin.specs.Turning as turning
use Rattle.rgo_round_robin.specs.Turning.{CountsPicks, CountsUp, AreMet, run_end_of, TurnMoved, Stopped, Advances}
use Rattle.std.proofs.lemmas.Option.{same_Some}
use Rattle.rgo_machine.proofs.Runs.{joined, single, ends_within, limited}
use Rattle.rgo_round_robin.proofs.Others.{meeting_is}

pub counts_none : (m : ℕ) → CountsUp m 0 m
counts_none m taken e = omega (arith, e)

pub counts_on : (m n k a b : ℕ) → CountsUp m a n → CountsUp n b k → CountsUp m (a + b) k
counts_on m n k a b p q taken e = let h = q (taken + a) (p taken e) in omega (arith, h)

-- by the sum that stops at the end
pub counts_saturating : (m n a : ℕ) → n ≡ min (m + a) (2 ^ 64 - 1) → CountsUp m a n
counts_saturating m n a is taken e = omega (arith, is, e)

module _ {F : Type 0} (machine : Machine F) (limits : Limits) where
  -- ---- what moves

  pub moved_none : (g : ℕ) (p q : Point F) → RunContinues limits p.state → q.state ≡ p.state → q.steps ≡ p.steps
      → TurnMoved machine limits g p q 0
  moved_none g p q on state steps = record {
    picks = [];
    leads = ap Some (sym state);
    own = All-nil (IsPickOf g);
    long = refl;
    counted = subst (CountsUp p.steps 0) (sym steps) (counts_none p.steps);
    on = subst (RunContinues limits) (sym state) on;
  }

  pub moved_on : (g : ℕ) (p q r : Point F) (a b : ℕ) → TurnMoved machine limits g p q a → TurnMoved machine limits g q r b
      → TurnMoved machine limits g p r (a + b)
  moved_on g p q r a b h k =
      let long : length (h.picks ++ k.picks) ≡ length h.picks + length k.picks = length-append h.picks k.picks in
      record {
        picks = h.picks ++ k.picks;
        leads = joined (limited_step machine limits) p.state q.state r.state h.picks k.picks h.leads k.leads;
        own = All-append (IsPickOf g) h.picks k.picks h.own k.own;
        long = omega (arith, long, h.long, k.long);
        counted = subst (λ n. CountsUp p.steps n r.steps) (sym long)
            (counts_on p.steps q.steps r.steps (length h.picks) (length k.picks) h.counted k.counted);
        on = k.on;
      }

  pub moved_by : (g : ℕ) (p q : Point F) (a b : ℕ) → a ≡ b → TurnMoved machine limits g p q a → TurnMoved machine limits g p q b
  moved_by g p q a b e h = subst (TurnMoved machine limits g p q) e h

  -- a meeting
  met_own : (g h : ℕ) (met : ℕ × ℕ) → AreMet met g h → IsPickOf g (Meet met.0 met.1)
  met_own g h met (inl p) = inl p.0
  met_own g h met (inr p) = inr p.1

  pub moved_meeting : (g h : ℕ) (met : ℕ × ℕ) (p q : Point F) → RunContinues limits p.state → AreMet met g h
      → step_by machine p.state (Meet met.0 met.1) ≡ Some q.state → CountsUp p.steps 1 q.steps
      → TurnMoved machine limits g p q 1
  moved_meeting g h met p q on both step counted =
      let pick = Meet met.0 met.1 in
      let is = meeting_is machine limits p.state met.0 met.1 q.state step in
      let within = is.within on.within in
      record {
        picks = pick ∷ [];
        leads = single (limited_step machine limits) p.state q.state pick
            (limited machine limits p.state q.state pick step within);
        own = All-push (IsPickOf g) [] pick (All-nil (IsPickOf g)) (met_own g h met both);
        long = refl;
        counted = counted;
        on = record { running = is.ended ∙ on.running; within = within };
      }

  -- ---- a turn of the machine

  goes_on : (t : State F) (g at_most n : ℕ) (s : TurnEnd) → run_end_of s ≡ None → IsOver machine limits t g at_most n s
      → t.ended ≡ None
  goes_on t g at_most n stop.Spent none over = over.0
  goes_on t g at_most n stop.Waits none over = over.0
  goes_on t g at_most n stop.Printed none over = over.0
  goes_on t g at_most n (stop.Operated channel) none over = over.0
  goes_on t g at_most n (stop.Ended e) none over = cc
  goes_on t g at_most n stop.TooDeep none over = cc
  goes_on t g at_most n stop.Full none over = cc
  goes_on t g at_most n (stop.NoRoom shortage) none over = cc
  goes_on t g at_most n stop.NoMemory none over = cc

  pub turned_moves : (g at_most : ℕ) (p q : Point F) (turned : Turned) → RunContinues limits p.state
      → run_end_of turned.stop ≡ None
      → Turns machine limits p.state q.state g at_most turned → CountsUp p.steps turned.steps q.steps
      → TurnMoved machine limits g p q turned.steps
  turned_moves g at_most p q turned on none turns counted =
      let picks = replicate turned.steps (One g) in
      let long : length picks ≡ turned.steps = length-replicate turned.steps (One g) in
      record {
        picks = picks;
        leads = turns.leads;
        own = All-replicate (IsPickOf g) turned.steps (One g) refl;
        long = long;
        counted = subst (λ n. CountsUp p.steps n q.steps) (sym long) counted;
        on = record {
          running = goes_on q.state g at_most turned.steps turned.stop none turns.over;
          within = ends_within machine limits p.state q.state picks on.within turns.leads;
        };
      }

  found_end : (t : State F) (g at_most n : ℕ) (s : TurnEnd) (end : RunEnd) → run_end_of s ≡ Some end
      → IsOver machine limits t g at_most n s → (before steps : ℕ) → RunEndsAs machine limits before steps t end
  found_end t g at_most n stop.Spent end is over before steps = cc
  found_end t g at_most n stop.Waits end is over before steps = cc
  found_end t g at_most n stop.Printed end is over before steps = cc
  found_end t g at_most n (stop.Operated channel) end is over before steps = cc
  found_end t g at_most n (stop.Ended e) end is over before steps =
      subst (RunEndsAs machine limits before steps t) (same_Some (run_end.Ended e) end is) over.0
  found_end t g at_most n stop.TooDeep end is over before steps =
      subst (RunEndsAs machine limits before steps t) (same_Some run_end.CallsTooDeep end is) over
  found_end t g at_most n stop.Full end is over before steps =
      subst (RunEndsAs machine limits before steps t) (same_Some run_end.GoroutinesSpent end is) over
  found_end t g at_most n (stop.NoRoom shortage) end is over before steps =
      subst (RunEndsAs machine limits before steps t) (same_Some (run_end.NoRoom shortage) end is) over
  found_end t g at_most n stop.NoMemory end is over before steps =
      subst (RunEndsAs machine limits before steps t) (same_Some run_end.NoMemory end is) tt

  no_fault : (s : TurnEnd) (end : RunEnd) → run_end_of s ≡ Some end → end ≡ run_end.WriteFault → ⊥
  no_fault stop.Spent end is e = cc
  no_fault stop.Waits end is e = cc
  no_fault stop.Printed end is e = cc
  no_fault (stop.Operated channel) end is e = cc
  no_fault (stop.Ended x) end is e = let both : run_end.Ended x ≡ run_end.WriteFault = same_Some _ _ is ∙ e in cc
  no_fault stop.TooDeep end is e = let both : run_end.CallsTooDeep ≡ run_end.WriteFault = same_Some _ _ is ∙ e in cc
  no_fault stop.Full end is e = let both : run_end.GoroutinesSpent ≡ run_end.WriteFault = same_Some _ _ is ∙ e in cc
  no_fault (stop.NoRoom x) end is e = let both : run_end.NoRoom x ≡ run_end.WriteFault = same_Some _ _ is ∙ e in cc
  no_fault stop.NoMemory end is e = let both : run_end.NoMemory ≡ run_end.WriteFault = same_Some _ _ is ∙ e in cc

  pub turned_stops : (g at_most : ℕ) (s t : State F) (turned : Turned) (end : RunEnd) → run_end_of turned.stop ≡ Some end
      → Turns machine limits s t g at_most turned → Stopped machine limits g s t at_most end
  turned_stops g at_most s t turned end is turns = record {
    picks = replicate turned.steps (One g);
    leads = turns.leads;
    own = All-replicate (IsPickOf g) turned.steps (One g) refl;
    short = omega (arith, turns.within, length-replicate turned.steps (One g));
    ends = found_end t g at_most turned.steps turned.stop end is turns.over;
    no_fault = no_fault turned.stop end is;
  }

  -- ---- what stops

  -- there was no memory to go on
  pub turned_fails : (g at_most : ℕ) (s t : State F) (turned : Turned) → Turns machine limits s t g at_most turned
      → Stopped machine limits g s t at_most run_end.NoMemory
  turned_fails g at_most s t turned turns = record {
    picks = replicate turned.steps (One g);
    leads = turns.leads;
    own = All-replicate (IsPickOf g) turned.steps (One g) refl;
    short = omega (arith, turns.within, length-replicate turned.steps (One g));
    ends = λ before steps. tt;
    no_fault = λ e. cc;
  }

  pub moved_fails : (g at_most count : ℕ) (p q : Point F) → TurnMoved machine limits g p q count → count ≤ at_most
      → Stopped machine limits g p.state q.state at_most run_end.NoMemory
  moved_fails g at_most count p q h le = record {
    picks = h.picks;
    leads = h.leads;
    own = h.own;
    short = omega (arith, h.long, le);
    ends = λ before steps. tt;
    no_fault = λ e. cc;
  }

  pub stopped_on : (g a b at_most : ℕ) (end : RunEnd) (p q : Point F) (t : State F) → TurnMoved machine limits g p q a
      → Stopped machine limits g q.state t b end → a + b ≤ at_most → Stopped machine limits g p.state t at_most end
  stopped_on g a b at_most end p q t h k le = record {
    picks = h.picks ++ k.picks;
    leads = joined (limited_step machine limits) p.state q.state t h.picks k.picks h.leads k.leads;
    own = All-append (IsPickOf g) h.picks k.picks h.own k.own;
    short = omega (arith, length-append h.picks k.picks, h.long, k.short, le);
    ends = k.ends;
    no_fault = k.no_fault;
  }

  pub stopped_within : (g a at_most : ℕ) (end : RunEnd) (s t : State F) → Stopped machine limits g s t a end
      → a ≤ at_most
      → Stopped machine limits g s t at_most end
  stopped_within g a at_most end s t h le = record {
    picks = h.picks;
    leads = h.leads;
    own = h.own;
    short = omega (arith, h.short, le);
    ends = h.ends;
    no_fault = h.no_fault;
  }

  pub nothing_fails : (g at_most : ℕ) (s t : State F) → t ≡ s → Stopped machine limits g s t at_most run_end.NoMemory
  nothing_fails g at_most s t same = record {
    picks = [];
    leads = ap Some (sym same);
    own = All-nil (IsPickOf g);
    short = omega arith;
    ends = λ before steps. tt;
    no_fault = λ e. cc;
  }

  -- ---- what is left of a turn

  pub advances_on : (rest : Option ℕ) (g a left : ℕ) (p q r : Point F) → TurnMoved machine limits g p q a → a ≤ left
      → Advances machine limits rest g q r (left - a) → Advances machine limits rest g p r left
  advances_on (Some rest) g a left p q r h le k = (
    omega (arith, k.0, le),
    moved_by g p r (a + (left - a - rest)) (left - rest) (omega (arith, k.0, le))
        (moved_on g p q r a (left - a - rest) h k.1),
  )
  advances_on None g a left p q r h le k =
      (a + k.0, omega (arith, k.1, le), moved_on g p q r a k.0 h k.2)

  -- a turn that is over, and not because it waits, has taken steps
  pub some_steps : (t : State F) (g at_most n : ℕ) (s : TurnEnd) → run_end_of s ≡ None → (s ≡ stop.Waits → ⊥)
      → IsOver machine limits t g at_most n s → 0 < at_most → 0 < n
  some_steps t g at_most n stop.Spent none not over some = omega (arith, over.1, some)
  some_steps t g at_most n stop.Waits none not over some = absurd (not refl)
  some_steps t g at_most n stop.Printed none not over some = over.1
  some_steps t g at_most n (stop.Operated channel) none not over some = over.1
  some_steps t g at_most n (stop.Ended e) none not over some = cc
  some_steps t g at_most n stop.TooDeep none not over some = cc
  some_steps t g at_most n stop.Full none not over some = cc
  some_steps t g at_most n (stop.NoRoom shortage) none not over some = cc
  some_steps t g at_most n stop.NoMemory none not over some = cc

  -- ---- a whole turn

  no_picks : (picks : List Pick) (s t : State F) → LeadsWithin machine limits s picks t → picks ≡ [] → s ≡ t
  no_picks [] s t leads none = same_Some s t leads
  no_picks (pick ∷ picks) s t leads none = cc

  pub turned : (g count : ℕ) (p q : Point F) → TurnMoved machine limits g p q count → count ≤ 1000
      → (step_by machine q.state (One g) ≡ None) ⊎ (0 < count) → turning.Turned machine limits g p q
  turned g count p q h le either = record {
    picks = h.picks;
    turn = record {
      fits = record { leads = h.leads; short = omega (arith, h.long, le); own = h.own };
      plays = λ none. plays none either;
    };
    counted = h.counted;
    on = h.on;
  } where
    plays : h.picks ≡ [] → (step_by machine q.state (One g) ≡ None) ⊎ (0 < count)
        → step_by machine p.state (One g) ≡ None
    plays none (inl still) =
        ap (λ s. step_by machine s (One g)) (no_picks h.picks p.state q.state h.leads none) ∙ still
    plays none (inr some) = absurd (omega (arith, some, h.long, ap (λ l. length l) none))
