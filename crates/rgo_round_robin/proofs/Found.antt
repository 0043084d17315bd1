-- Two goroutines that meet were looked for.
use Rattle.std.proofs.Common.{◌≡◌, inl, inr, ℕ, Bool, true, false, List, [], ◌∷◌, ◌++◌, Option, None, Ok, refl, subst}
use Rattle.std.proofs.Common.{sym}
use Rattle.rgo_machine.specs.declared.limits.Limits.{Limits}
use Rattle.rgo_machine.specs.Machines.{Machine, State}
use Rattle.rgo_interpreter.specs.Meetings.{CanMeet, FindsMeeting}
use Rattle.rgo_round_robin.specs.declared.drivers.Driver.{Driver}
use Rattle.rgo_machine.specs.declared.ends.RunEnd.TheVariants as run_end
use Rattle.rgo_round_robin.specs.Points.{listed_at_channel}
use Rattle.rgo_round_robin.specs.Probing.{IsLeftOver, HaveMet, MeetingTried, MeetsTwo, MeetsNoMemory}
use Rattle.rgo_round_robin.specs.Running.{View, IsRunAt}
use Rattle.rgo_round_robin.specs.Sleeping.{Watches}
use Rattle.rgo_round_robin.proofs.Keepers.{watches_meeting}
use Rattle.rgo_round_robin.proofs.Left.{Lawful, left_over_of}
use Rattle.rgo_round_robin.proofs.Others.{meeting_is}

module _ {F C : Type 0} (run : View F C) (machine : Machine F) (given : List ℕ) (s : State F) where
  -- two that can meet have met
  pub found_meets : (met : ℕ × ℕ) (m n : ℕ) (has_met : Bool) → CanMeet machine s met.0 met.1
      → MeetingTried run machine given s met m n (Ok has_met) → HaveMet run machine given s met m n
  found_meets met m n true can h = h
  found_meets met m n false can h = absurd (can h.0)

  -- what is found of one machine is found of the same
  pub finds_at : (found : Option (ℕ × ℕ)) → IsRunAt run machine given s → FindsMeeting run.machine s found
      → FindsMeeting machine s found
  finds_at found at h = subst (λ m. FindsMeeting m s found) at.is h

  pub meets_two : (d e : Driver) (met : ℕ × ℕ) → s.ended ≡ None
      → (meets : HaveMet run machine given s met d.steps e.steps)
      → e.ready.items ≡ d.ready.items ++ met.0 ∷ met.1 ∷ []
      → listed_at_channel e.waiting ≡ listed_at_channel d.waiting → MeetsTwo run machine given s d e
  meets_two d e met running meets ready same =
      let any : Limits = record { steps = 0; goroutines = 0 } in
      record {
        met = met;
        meets = meets;
        watches = λ watches.
            subst (Watches machine meets.state e.ready.items) (sym same)
            (watches_meeting machine any met.0 met.1 s meets.state d.ready.items e.ready.items (listed_at_channel d.waiting)
            running (meeting_is machine any s met.0 met.1 meets.state meets.step) ready watches);
      }

  -- memory ran out before a meeting
  pub meets_not : IsLeftOver run machine given s → MeetsNoMemory run machine given s run_end.NoMemory
  meets_not left = record { is = refl; state = s; step = inl refl; left = left }

  -- memory ran out after a meeting
  pub meets_late : (met : ℕ × ℕ) (m n : ℕ) → Lawful run → HaveMet run machine given s met m n
      → MeetsNoMemory run machine given s run_end.NoMemory
  meets_late met m n lawful h = record {
    is = refl;
    state = h.state;
    step = inr (met, h.step);
    left = left_over_of run machine given h.state lawful h.at;
  }
