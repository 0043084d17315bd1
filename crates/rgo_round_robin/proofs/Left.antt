-- What holds of a run under way where it has ended.
use Rattle.std.proofs.Common.{◌≡◌, ℕ, List, [], ◌++◌, Some, None, ap, subst, sym, ◌∙◌, refl, append-nil}
use Rattle.std.proofs.Common.{append_assoc}
use Rattle.std.proofs.lemmas.Option.{same_Some}
use Rattle.rgo_machine.specs.declared.limits.Limits.{Limits}
use Rattle.rgo_machine.specs.declared.limits.Shortage.{Shortage}
use Rattle.rgo_interpreter.specs.declared.turns.TurnEnd.{TurnEnd}
use Rattle.rgo_interpreter.specs.declared.turns.TurnEnd.TheVariants as stop
use Rattle.rgo_interpreter.specs.declared.turns.Turned.{Turned}
use Rattle.rgo_machine.specs.Machines.{Machine, State}
use Rattle.rgo_machine.specs.declared.ends.RunEnd.{RunEnd}
use Rattle.rgo_machine.specs.declared.ends.RunEnd.TheVariants as run_end
use Rattle.rgo_round_robin.specs.Playing.{state_with_print}
use Rattle.rgo_round_robin.specs.Probing.{IsLeftOver}
use Rattle.rgo_round_robin.specs.Running.{View, RunContinues, IsRunAt, RunTakesTurn, Clears}
use Rattle.rgo_round_robin.specs.Runs.{IsRunLeft}
use Rattle.rgo_round_robin.specs.Turning.{run_end_of}

-- ---- why a turn was over

pub has_memory : (s : TurnEnd) → run_end_of s ≡ None → s ≡ stop.NoMemory → ⊥
has_memory s none e = let both : None ≡ Some run_end.NoMemory = sym none ∙ ap run_end_of e in cc

memory_by : (s : TurnEnd) (end : RunEnd) → run_end_of s ≡ Some end → (end ≡ run_end.NoMemory → ⊥) → s ≡ stop.NoMemory → ⊥
memory_by s end is not e = not (same_Some end run_end.NoMemory (sym is ∙ ap run_end_of e))

room_by : (s : TurnEnd) (end : RunEnd) (shortage : Shortage) → run_end_of s ≡ Some end → end ≡ run_end.NoRoom shortage
    → s ≡ stop.NoRoom shortage
room_by stop.Spent end shortage is e = cc
room_by stop.Waits end shortage is e = cc
room_by stop.Printed end shortage is e = cc
room_by (stop.Operated channel) end shortage is e = cc
room_by (stop.Ended x) end shortage is e =
    let both : run_end.Ended x ≡ run_end.NoRoom shortage = same_Some _ _ is ∙ e in cc
room_by stop.TooDeep end shortage is e =
    let both : run_end.CallsTooDeep ≡ run_end.NoRoom shortage = same_Some _ _ is ∙ e in cc
room_by stop.Full end shortage is e =
    let both : run_end.GoroutinesSpent ≡ run_end.NoRoom shortage = same_Some _ _ is ∙ e in cc
room_by (stop.NoRoom x) end shortage is e =
    let both : run_end.NoRoom x ≡ run_end.NoRoom shortage = same_Some _ _ is ∙ e in
    let same : x ≡ shortage = cc in
    ap stop.NoRoom same
room_by stop.NoMemory end shortage is e =
    let both : run_end.NoMemory ≡ run_end.NoRoom shortage = same_Some _ _ is ∙ e in cc

-- where the print is empty, all was given out
pub all_given : (given print : List ℕ) → print ≡ [] → given ≡ given ++ print
all_given given print silent = sym (ap (λ l. given ++ l) silent ∙ append-nil given)

module _ {F C : Type 0} where
  -- what a run owes by the laws of its trait
  pub record Lawful (run : View F C) : Type 0 where
    pub prints : (given : List ℕ) (s : State F) → run.shows given s → s.printed ≡ run.print
    pub leaves : (given : List ℕ) (s : State F) → run.shows given s → run.leaves given s

  pub itself : (run : View F C) (given : List ℕ) (s : State F) → run.shows given s → IsRunAt run run.machine given s
  itself run given s shown = record { is = refl; shown = shown }

  -- nothing more was given out
  pub at_given : (run : View F C) (machine : Machine F) (given : List ℕ) (s : State F) → IsRunAt run machine given s
      → IsRunAt run machine (given ++ []) s
  at_given run machine given s at = subst (λ l. IsRunAt run machine l s) (sym (append-nil given)) at

  -- these bytes were given out, then those
  pub at_later : (run : View F C) (machine : Machine F) (given out bytes : List ℕ) (s : State F)
      → IsRunAt run machine ((given ++ out) ++ bytes) s → IsRunAt run machine (given ++ (out ++ bytes)) s
  at_later run machine given out bytes s at = subst (λ l. IsRunAt run machine l s) (append_assoc given out bytes) at

  -- ---- turns

  -- by the machine that the run is known to be one of
  pub turn_at : (old new : View F C) (machine : Machine F) (limits : Limits) (given : List ℕ) (s : State F) (g n : ℕ)
      (turned : Turned)
      → IsRunAt old machine given s → RunContinues limits s
      → ((given : List ℕ) (s : State F) → old.shows given s → RunContinues limits s
      → RunTakesTurn new old.machine limits given s g n turned)
      → RunTakesTurn new machine limits given s g n turned
  turn_at old new machine limits given s g n turned at on turns =
      subst (λ m. RunTakesTurn new m limits given s g n turned) at.is (turns given s at.shown on)

  pub left_by_turn : (run : View F C) (machine : Machine F) (limits : Limits) (given : List ℕ) (s : State F) (g n : ℕ)
      (turned : Turned) (end : RunEnd)
      → run.machine ≡ machine → run_end_of turned.stop ≡ Some end
      → (taken : RunTakesTurn run machine limits given s g n turned)
      → IsRunLeft run machine given taken.state end
  left_by_turn run machine limits given s g n turned end same is taken = record {
    is = same;
    leaves = taken.leaves;
    shows = λ memory written. taken.shows (memory_by turned.stop end is memory);
    lacks = λ shortage room. taken.lacks shortage (room_by turned.stop end shortage is room);
  }

  -- ---- where it has ended

  pub left_over_of : (run : View F C) (machine : Machine F) (given : List ℕ) (s : State F) → Lawful run
      → IsRunAt run machine given s → IsLeftOver run machine given s
  left_over_of run machine given s lawful at = record {
    is = at.is;
    print = lawful.prints given s at.shown;
    leaves = lawful.leaves given s at.shown;
  }

  pub left_over : (run : View F C) (machine : Machine F) (given : List ℕ) (s : State F) → IsLeftOver run machine given s
      → IsRunLeft run machine given s run_end.NoMemory
  left_over run machine given s h = record {
    is = h.is;
    leaves = h.leaves;
    shows = λ memory written. absurd (memory refl);
    lacks = λ shortage room. cc;
  }

  pub left_at : (run : View F C) (machine : Machine F) (given : List ℕ) (s : State F) (end : RunEnd) → Lawful run
      → IsRunAt run machine given s
      → ((shortage : Shortage) → end ≡ run_end.NoRoom shortage → ⊥) → IsRunLeft run machine given s end
  left_at run machine given s end lawful at roomy = record {
    is = at.is;
    leaves = lawful.leaves given s at.shown;
    shows = λ memory written. at.shown;
    lacks = λ shortage room. absurd (roomy shortage room);
  }

  -- a write failed after it had ended so
  pub left_unwritten : (run : View F C) (machine : Machine F) (given : List ℕ) (s : State F) (end : RunEnd)
      → IsRunLeft run machine given s end → IsRunLeft run machine given s run_end.WriteFault
  left_unwritten run machine given s end h = record {
    is = h.is;
    leaves = h.leaves;
    shows = λ memory written. absurd (written refl);
    lacks = λ shortage room. cc;
  }

  -- ---- prints

  pub left_printed : (run : View F C) (machine : Machine F) (given : List ℕ) (s : State F) (end : RunEnd)
      → s.printed ≡ run.print
      → IsRunLeft run machine given s end → IsRunLeft run machine given (state_with_print s run.print) end
  left_printed run machine given s end print h =
      subst (λ l. IsRunLeft run machine given (state_with_print s l) end) print h

  pub left_cleared : (old new : View F C) (machine : Machine F) (given : List ℕ) (s : State F) (end : RunEnd)
      → Clears old new → IsRunLeft old machine given s end
      → IsRunLeft new machine (given ++ s.printed) (state_with_print s new.print) end
  left_cleared old new machine given s end cleared h =
      let empty : IsRunLeft new machine (given ++ s.printed) (state_with_print s []) end = record {
        is = cleared.machine ∙ h.is;
        leaves = cleared.leaves given s h.leaves;
        shows = λ memory written. cleared.shows given s (h.shows memory written);
        lacks = λ shortage room. cleared.lacks shortage given s (h.lacks shortage room);
      } in
      subst (λ l. IsRunLeft new machine (given ++ s.printed) (state_with_print s l) end) (sym cleared.print) empty
