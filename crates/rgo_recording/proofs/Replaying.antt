-- A replay of what was noted of a run comes to the state in which the run ended, and ends so.
use Rattle.std.proofs.Common.{◌≡◌, ◌⊎◌, inl, inr, ℕ, List, ◌++◌, length, Option, Some, None, refl, sym, ap, ◌∙◌, subst}
use Rattle.std.specs.Io.KnownBytes.{Appends}
use Rattle.std.proofs.lemmas.Option.{same_Some}
use Rattle.rgo_machine.specs.declared.limits.Limits.{Limits}
use Rattle.rgo_machine.specs.declared.picks.End.{End}
use Rattle.rgo_machine.specs.declared.limits.Shortage.{Shortage}
use Rattle.rgo_machine.specs.Deadlocks.{IsDeadlock}
use Rattle.rgo_tac.specs.Code.{Tac}
use Rattle.rgo_tac.specs.Tac.{TacState, tac}
use Rattle.rgo_code.specs.Erasure.{erased}
use Rattle.rgo_round_robin.specs.Rounds.{all_of}
use Rattle.rgo_machine.specs.Ends.{RunEndsAs}
use Rattle.rgo_machine.specs.declared.ends.RunEnd.{RunEnd}
use Rattle.rgo_machine.specs.declared.ends.RunEnd.TheVariants as run_end
use Rattle.rgo_journal.specs.declared.picks.TacPick.{TacPick}
use Rattle.rgo_journal.specs.declared.replays.ReplayEnd.{ReplayEnd}
use Rattle.rgo_journal.specs.declared.replays.ReplayEnd.TheVariants as replay_end
use Rattle.rgo_journal.specs.Laws.{IsFaultlessEnd}
use Rattle.rgo_journal.specs.Replays as replays
use Rattle.rgo_journal.specs.Replays.{TakesPicks}
use Rattle.rgo_journal.proofs.Replaying.{one_replay}
use Rattle.rgo_recording.specs.Notes.{noted_picks}
use Rattle.rgo_recording.specs.Laws.{RecordedReplays, ReplaysAs}
use Rattle.rgo_recording.proofs.Going.{deep_goes_on, full_goes_on, recorded_goes_on}

-- ---- how the replay ends

module _ (code : Tac) (picks : List TacPick) (t : TacState) (takes : TakesPicks code picks t) (e : ReplayEnd) (s : TacState)
    (is_whole : IsFaultlessEnd e) (ends : replays.ReplayEndsAs code picks s e) where
  same_end : (a : ReplayEnd) → IsFaultlessEnd a → replays.ReplayEndsAs code picks t a → (e ≡ a) × (s ≡ t)
  same_end a w is = one_replay code picks e a s t is_whole w ends is

  same_state : TakesPicks code picks s → s ≡ t
  same_state also = same_Some s t (sym also ∙ takes)

  -- the run has not ended
  module _ (open_yet : t.ended ≡ None) where
    not_both : (e ≡ replay_end.Unfinished → ⊥) → (e ≡ replay_end.Deadlock → ⊥) → ⊥
    not_both unfinished deadlock =
        unfinished (same_end replay_end.Unfinished tt
        (takes, open_yet, λ dead. deadlock (same_end replay_end.Deadlock tt (takes, dead)).0)).0

    either : (x : ReplayEnd) → e ≡ x → (e ≡ replay_end.Unfinished) ⊎ (e ≡ replay_end.Deadlock)
    either replay_end.Unfinished is = inl is
    either replay_end.Deadlock is = inr is
    either (replay_end.Ended end) is =
        absurd (not_both (λ u. let both : replay_end.Ended end ≡ replay_end.Unfinished = sym is ∙ u in cc)
        (λ d. let both : replay_end.Ended end ≡ replay_end.Deadlock = sym is ∙ d in cc))
    either (replay_end.Foreign index) is =
        absurd (not_both (λ u. let both : replay_end.Foreign index ≡ replay_end.Unfinished = sym is ∙ u in cc)
        (λ d. let both : replay_end.Foreign index ≡ replay_end.Deadlock = sym is ∙ d in cc))
    either replay_end.WriteFault is = absurd (subst IsFaultlessEnd is is_whole)
    either replay_end.NoMemory is = absurd (subst IsFaultlessEnd is is_whole)

  unfinished : t.ended ≡ None → (IsDeadlock (tac code) t → ⊥) → e ≡ replay_end.Unfinished
  unfinished open_yet goes_on = (same_end replay_end.Unfinished tt (takes, open_yet, goes_on)).0

  -- by how the run ended, after so many steps; one that lacked room could go on without its regions
  pub replays_as : (limits : Limits) (before steps : ℕ) (end : RunEnd) → RunEndsAs (tac code) limits before steps t end
      → ((why : Shortage) → end ≡ run_end.NoRoom why → IsDeadlock (tac code) t → ⊥) → ReplaysAs end e
  replays_as limits before steps (run_end.Ended end) is room = (same_end (replay_end.Ended end) tt (takes, is)).0
  replays_as limits before steps run_end.Deadlock is room = (same_end replay_end.Deadlock tt (takes, is)).0
  replays_as limits before steps run_end.CallsTooDeep is room = unfinished is.0 (deep_goes_on (tac code) t is.1)
  replays_as limits before steps run_end.GoroutinesSpent is room =
      unfinished is.0 (full_goes_on (tac code) t limits is.1)
  replays_as limits before steps run_end.StepsSpent is room = either is.0 e refl
  replays_as limits before steps (run_end.NoRoom why) is room = unfinished is (room why refl)
  replays_as limits before steps run_end.WriteFault is room = tt
  replays_as limits before steps run_end.NoMemory is room = tt

  -- all picks have a step
  never_foreign : (index : ℕ) → e ≡ replay_end.Foreign index → ⊥
  never_foreign index is = by t.ended refl
    where
      by : (o : Option End) → t.ended ≡ o → ⊥
      by (Some end) at =
          let both : replay_end.Foreign index ≡ replay_end.Ended end =
          sym is ∙ (same_end (replay_end.Ended end) tt (takes, at)).0 in cc
      by None at = elim (either at e refl) [
        | inl u ↦ let both : replay_end.Foreign index ≡ replay_end.Unfinished = sym is ∙ u in cc
        | inr d ↦ let both : replay_end.Foreign index ≡ replay_end.Deadlock = sym is ∙ d in cc
      ]

  -- so it comes to the same state
  pub comes : (x : ReplayEnd) → e ≡ x → s ≡ t
  comes (replay_end.Ended end) is = same_state (subst (replays.ReplayEndsAs code picks s) is ends).0
  comes replay_end.Deadlock is = same_state (subst (replays.ReplayEndsAs code picks s) is ends).0
  comes replay_end.Unfinished is = same_state (subst (replays.ReplayEndsAs code picks s) is ends).0
  comes (replay_end.Foreign index) is = absurd (never_foreign index is)
  comes replay_end.WriteFault is = absurd (subst IsFaultlessEnd is is_whole)
  comes replay_end.NoMemory is = absurd (subst IsFaultlessEnd is is_whole)

pub whole_gives : (e : ReplayEnd) → IsFaultlessEnd e → (print : List ℕ) (before after : Option (List ℕ))
    → replays.ReplayPrints e print before after → Appends before after print
whole_gives (replay_end.Ended end) w print before after g = g
whole_gives replay_end.Deadlock w print before after g = g
whole_gives replay_end.Unfinished w print before after g = g
whole_gives (replay_end.Foreign index) w print before after g = g
whole_gives replay_end.WriteFault w print before after g = absurd w
whole_gives replay_end.NoMemory w print before after g = absurd w

pub recorded_replays : RecordedReplays
recorded_replays code sizes limits old new r records e before after x w =
    let run = records.runs.runs in
    let same = comes (erased code) (noted_picks r.notes) run.state records.noted e x.state w x.ends e refl in
    record {
      ends = replays_as (erased code) (noted_picks r.notes) run.state records.noted e x.state w x.ends limits
          (length (all_of run.rounds)) (length (all_of run.rounds ++ run.last)) r.end run.ends
          (recorded_goes_on code sizes limits old new r records);
      bytes = run.state.printed;
      ran = run.gives;
      replayed = subst (λ bytes. Appends before after bytes) (ap (λ v. v.printed) same)
          (whole_gives e w x.state.printed before after x.gives);
    }
