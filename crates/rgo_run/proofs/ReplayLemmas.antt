-- What a call of `replay` leaves, by its ending; and the claim on every call, by whether its words ask for `replay`, for `record`, or
-- for neither.
use Rattle.std.proofs.Common.{◌≡◌, true, false, ℕ, ◌⊎◌, inl, inr, ◌-◌, arith, length-drop, take, drop, List, [], Option, None, Some, Result, Ok, Err, IfOk, MatchResult, length, refl, sym, ap, ◌∙◌, subst}
use Rattle.rgo_machine.specs.declared.ends.RunEnd.TheVariants as run_end
use Rattle.rgo_machine.specs.declared.picks.End.{End}
use Rattle.rgo_machine.specs.declared.picks.End.TheVariants as the_end
use Rattle.rgo_outside.specs.Causes.{Rose}
use Rattle.rgo_command_line.specs.declared.commands.Command.{Command}
use Rattle.rgo_command_line.specs.declared.commands.Command.TheVariants.{Run, Check, Emit, Code, Big, Record, Replay, RunCode}
use Rattle.rgo_command_line.specs.Commands.{command_of}
use Rattle.std.specs.declared.alloc.AllocError.{AllocError}
use Rattle.std.proofs.lemmas.List.{take_all}
use Rattle.rgo_journal.specs.declared.picks.TacPick.{TacPick}
use Rattle.rgo_journal.specs.declared.errors.PicksError.{PicksError}
use Rattle.rgo_journal.specs.declared.errors.PicksError.TheVariants as picks_error
use Rattle.rgo_journal.specs.Forms.{RefusesJournal}
use Rattle.rgo_journal.specs.Text.{IsJournal}
use Rattle.rgo_command_line.specs.declared.limits.RunOptions.{RunOptions}
use Rattle.std.proofs.lemmas.Option.{same_Some}
use Rattle.rgo_journal.specs.declared.replays.ReplayEnd.{ReplayEnd}
use Rattle.rgo_journal.specs.declared.replays.ReplayEnd.TheVariants as replay_end
use Rattle.rgo_run.specs.declared.endings.Ending.{Ending}
use Rattle.rgo_run.specs.declared.endings.Ending.TheVariants.{Valid, Ran, Usage, ReadFault, Refused, CodeRefused, WriteFault, NoMemory}
use Rattle.rgo_run.specs.declared.refusals.CodeTextRefusal.TheVariants as code_refusal
use Rattle.rgo_run.specs.declared.refusals.TextRefusal.TheVariants as refusal
use Rattle.rgo_run.specs.declared.endings.TextKind.TheVariants as text_kind
use Rattle.rgo_run.specs.declared.replaying.ReplayEnding.{ReplayEnding}
use Rattle.rgo_run.specs.declared.replaying.ReplayEnding.TheVariants.{NoJournal, Replayed, Other}
use Rattle.rgo_run.specs.Calls.{AsksRun, AsksForCommand, Call, SinkUse, SourceHadNoFault, Failed, SinkHadNoFault, IsUntouched}
use Rattle.rgo_run.specs.Endings.{is_fault_status, is_run_status, line_of, status_of}
use Rattle.rgo_run.specs.Headline.{Faults, Headline}
use Rattle.rgo_run.specs.Replayed.{Claim, EndsOn, ReplayLineHasNumber, IsReadWhole, IsSplit, NotReplayed, ReplayHeadline, ReplaysBytes, ReplaysTo, ReportsReplay, error_of, line_of_replay, status_of_end, status_of_replay}
use Rattle.rgo_run.specs.Recorded.{RecordHeadline, RecordsText, call_after}
use Rattle.rgo_run.specs.Reports.{Reports, ReportsEnding, WritesLine}
use Rattle.rgo_run.specs.Texts.{FailsAs, IsTextRead, IsTextOf, NotRead, PerformsCommand, RefusedBy}
use Rattle.rgo_run.proofs.EndingLemmas.{IsLate, failing_late, failing_ten, no_run_status, short_without_fault}
use Rattle.rgo_run.proofs.HeadlineLemmas.{headline_of_text, headline_of_words, ran_by_status}
use Rattle.rgo_run.proofs.RecordLemmas.{headline_of_records, record_of_words}

-- ---- what the status implies for the ending

-- the line was written; or a write failed; or there was no memory for the line
data Told (e : ReplayEnding) (n : ℕ) (err : SinkUse) : Type 0 where
  whole : n ≡ status_of_replay e → SinkHadNoFault err → Told e n err
  failed : n ≡ 10 → Failed err → Told e n err
  no_memory : n ≡ 11 → ReplayLineHasNumber e → SinkHadNoFault err → Told e n err

told_as : (text : List ℕ) (e : ReplayEnding) (n : ℕ) (err : SinkUse) → ReportsReplay text e n err → Told e n err
told_as text e n err (inl (inl w)) = whole w.0 w.2
told_as text e n err (inl (inr w)) = failed w.0 w.1
told_as text e n err (inr (h, inl w)) = no_memory w.0 h w.2
told_as text e n err (inr (h, inr w)) = failed w.0 w.1

end_status : (end : ReplayEnd) → IsLate (status_of_end end)
end_status (replay_end.Ended the_end.Exit) = (λ s. cc, λ s. cc)
end_status (replay_end.Ended (the_end.Trap trap at)) = (λ s. cc, λ s. cc)
end_status replay_end.Deadlock = (λ s. cc, λ s. cc)
end_status replay_end.Unfinished = (λ s. cc, λ s. cc)
end_status (replay_end.Foreign index) = (λ s. cc, λ s. cc)
end_status replay_end.WriteFault = (λ s. cc, λ s. cc)
end_status replay_end.NoMemory = (λ s. cc, λ s. cc)

-- the text was rejected, or memory ran out
not_replayed : (bytes text : List ℕ) (e : Ending) → NotReplayed bytes text e → (e ≡ NoMemory) ⊎ (status_of e ≡ 1)
not_replayed bytes text NoMemory n = inl refl
not_replayed bytes text (Refused why) n = inr refl
not_replayed bytes text _ n = absurd n

ends_status : (bytes text : List ℕ) (e : ReplayEnding) (out : SinkUse) → EndsOn bytes text e out → IsLate (status_of_replay e)
ends_status bytes text (NoJournal line) out ends = (λ s. cc, λ s. cc)
ends_status bytes text (Replayed end) out ends = end_status end
ends_status bytes text (Other e) out ends = failing_late e (not_replayed bytes text e ends.0)

told_status : (e : ReplayEnding) (n : ℕ) (err : SinkUse) → IsLate (status_of_replay e) → Told e n err → IsLate n
told_status e n err is (whole w h) = subst IsLate (sym w) is
told_status e n err is (failed w h) = (λ s. cc, λ s. cc)
told_status e n err is (no_memory w h k) = (λ s. cc, λ s. cc)

-- the line of an ending with numbers was written, or there was no memory for it
pub number_reported : {S : Type 0} (bytes_of : S → List ℕ) (text : List ℕ) (e : ReplayEnding) (line : Result S AllocError)
    (status answer : ℕ) (err : SinkUse) → ReplayLineHasNumber e → status ≡ status_of_replay e
    → IfOk line (λ s. bytes_of s ≡ line_of_replay text e)
    → MatchResult line (λ s. WritesLine (bytes_of s) status answer err) (λ x. WritesLine (line_of [] NoMemory) 11 answer err)
    → ReportsReplay text e answer err
number_reported bytes_of text e (Ok s) status answer err number same is writes =
    inl (subst (λ n. WritesLine (line_of_replay text e) n answer err) same
    (subst (λ bytes. WritesLine bytes status answer err) is writes))
number_reported bytes_of text e (Err x) status answer err number same is writes = inr (number, writes)

-- what is reported of a run with this end
pub ended_reported : (text : List ℕ) (end : End) (answer : ℕ) (err : SinkUse)
    → Reports text (Ran text_kind.Go (run_end.Ended end) None) answer err → ReportsReplay text (Replayed (replay_end.Ended end)) answer err
ended_reported text end answer err (inl t) = inl t
ended_reported text the_end.Exit answer err (inr t) = absurd t.0
ended_reported text (the_end.Trap trap at) answer err (inr t) = inr (tt, t.1)

pub deadlock_reported : (text : List ℕ) (answer : ℕ) (err : SinkUse)
    → Reports text (Ran text_kind.Go run_end.Deadlock None) answer err → ReportsReplay text (Replayed replay_end.Deadlock) answer err
deadlock_reported text answer err (inl t) = inl t
deadlock_reported text answer err (inr t) = absurd t.0

pub fault_reported : (text : List ℕ) (answer : ℕ) (err : SinkUse)
    → Reports text (Ran text_kind.Go run_end.WriteFault None) answer err → ReportsReplay text (Replayed replay_end.WriteFault) answer err
fault_reported text answer err (inl t) = inl t
fault_reported text answer err (inr t) = absurd t.0

pub memory_reported : (text : List ℕ) (answer : ℕ) (err : SinkUse)
    → Reports text (Ran text_kind.Go run_end.NoMemory None) answer err → ReportsReplay text (Replayed replay_end.NoMemory) answer err
memory_reported text answer err (inl t) = inl t
memory_reported text answer err (inr t) = absurd t.0

-- what another command would report, for an ending that is not a failed write
pub other_reported : (text : List ℕ) (e : Ending) (answer : ℕ) (err : SinkUse) → (status_of e ≡ 10 → ⊥) → Reports text e answer err
    → ReportsReplay text (Other e) answer err
other_reported text e answer err other (inl t) = inl t
other_reported text e answer err other (inr t) =
    inr (t.0, subst (λ x. ReportsEnding text x answer err) (short_without_fault e other) t.1)

-- bytes that were not replayed never end with a failed write, since nothing was written
pub not_written : (bytes text : List ℕ) (ending : ReplayEnding) (out : SinkUse) → EndsOn bytes text ending out → (e : Ending)
    → ending ≡ Other e → status_of e ≡ 10 → ⊥
not_written bytes text ending out ends e is ten =
    failing_ten e (not_replayed bytes text e (subst (λ x. EndsOn bytes text x out) is ends).0) ten

pub error_not_written : (error : PicksError) (e : Ending) → error_of error ≡ Other e → status_of e ≡ 10 → ⊥
error_not_written picks_error.NoMemory e is ten = let wrong = ap status_of_replay is ∙ ten in cc
error_not_written (picks_error.Refused refusal) e is ten = cc

-- ---- what `replay_text` leaves

fails_split : (bytes text : List ℕ) (picks : List TacPick) (e : Ending) → FailsAs text_kind.Go text e → IsSplit bytes picks text
    → NotReplayed bytes text e
fails_split bytes text picks NoMemory f split = tt
fails_split bytes text picks (Refused why) f split = (picks, split, f)
fails_split bytes text picks _ f split = absurd f

pub refused_text : (text : List ℕ) (picks : List TacPick) (e : Ending) (out : SinkUse) → FailsAs text_kind.Go text e
    → IsUntouched out → (bytes : List ℕ) → IsSplit bytes picks text → EndsOn bytes text (Other e) out
refused_text text picks e out f u bytes split = (fails_split bytes text picks e f split, u)

pub replayed_text : (text : List ℕ) (picks : List TacPick) (end : ReplayEnd) (out : SinkUse) → ReplaysTo picks text end out
    → (bytes : List ℕ) → IsSplit bytes picks text → EndsOn bytes text (Replayed end) out
replayed_text text picks end out r bytes split = (picks, split, r)

pub error_ends : (bytes : List ℕ) (e : PicksError) (out : SinkUse) → RefusesJournal bytes e → IsUntouched out
    → EndsOn bytes [] (error_of e) out
error_ends bytes picks_error.NoMemory out f u = (tt, u)
error_ends bytes (picks_error.Refused refusal) out f u = (f, u)

pub split_at : (bytes : List ℕ) (picks : List TacPick) (n : ℕ) → IsJournal bytes picks n
    → IsSplit bytes picks (take (length bytes - n) (drop n bytes))
split_at bytes picks n j = record {
  n = n;
  journal = j;
  rest = take_all (length bytes - n) (drop n bytes) (omega (arith, length-drop n bytes));
}

-- ---- faults

-- an ending with status 10 is a failed write to `out`, and no other is
ends_failed : (bytes text : List ℕ) (e : ReplayEnding) (out : SinkUse) → EndsOn bytes text e out → status_of_replay e ≡ 10
    → Failed out
ends_failed bytes text (NoJournal line) out ends s = absurd cc
ends_failed bytes text (Replayed (replay_end.Ended the_end.Exit)) out ends s = absurd cc
ends_failed bytes text (Replayed (replay_end.Ended (the_end.Trap trap at))) out ends s = absurd cc
ends_failed bytes text (Replayed replay_end.Deadlock) out ends s = absurd cc
ends_failed bytes text (Replayed replay_end.Unfinished) out ends s = absurd cc
ends_failed bytes text (Replayed (replay_end.Foreign index)) out ends s = absurd cc
ends_failed bytes text (Replayed replay_end.WriteFault) out ends s = ends.2.failed refl
ends_failed bytes text (Replayed replay_end.NoMemory) out ends s = absurd cc
ends_failed bytes text (Other e) out ends s = absurd (failing_ten e (not_replayed bytes text e ends.0) s)

ends_held : (bytes text : List ℕ) (e : ReplayEnding) (out : SinkUse) → EndsOn bytes text e out
    → (e ≡ Replayed replay_end.WriteFault → ⊥) → SinkHadNoFault out
ends_held bytes text (NoJournal line) out ends kept = ends.1.1
ends_held bytes text (Replayed end) out ends kept = ends.2.held (λ is. kept (ap Replayed is))
ends_held bytes text (Other e) out ends kept = ends.1.1

number_no_fault : (e : ReplayEnding) → ReplayLineHasNumber e → e ≡ Replayed replay_end.WriteFault → ⊥
number_no_fault e h is = subst ReplayLineHasNumber is h

status_no_fault : (e : ReplayEnding) (n : ℕ) → n ≡ status_of_replay e → is_fault_status n ≡ false
    → e ≡ Replayed replay_end.WriteFault → ⊥
status_no_fault e n is s same =
    let ten : n ≡ 10 = is ∙ ap status_of_replay same in
    let wrong = subst (λ k. is_fault_status k ≡ false) ten s in cc

ten_is_fault : (n : ℕ) → n ≡ 10 → is_fault_status n ≡ false → ⊥
ten_is_fault n is s = let wrong = subst (λ k. is_fault_status k ≡ false) is s in cc

-- a call that has read its bytes
faults_of : (call : Call) (bytes text : List ℕ) (e : ReplayEnding) → EndsOn bytes text e call.out → SourceHadNoFault call.source
    → Told e call.status call.err → Faults call
faults_of call bytes text e ends held told = record {
  read = λ s. absurd ((told_status e call.status call.err (ends_status bytes text e call.out ends) told).1 s);
  write = write told;
  none = none told;
}
  where
    write : Told e call.status call.err → call.status ≡ 10 → Failed call.out ⊎ Failed call.err
    write (whole w h) s = inl (ends_failed bytes text e call.out ends (sym w ∙ s))
    write (failed w h) s = inr h
    write (no_memory w h k) s = absurd cc

    none : Told e call.status call.err → is_fault_status call.status ≡ false
        → SourceHadNoFault call.source × SinkHadNoFault call.out × SinkHadNoFault call.err
    none (whole w h) s = (held, ends_held bytes text e call.out ends (status_no_fault e call.status w s), h)
    none (failed w h) s = absurd (ten_is_fault call.status w s)
    none (no_memory w h k) s = (held, ends_held bytes text e call.out ends (number_no_fault e h), k)

-- ---- what the status of `replay_bytes` implies

pub not_usage : (bytes : List ℕ) (out err : SinkUse) (n : ℕ) → ReplaysBytes bytes out err n → n ≡ 64 → ⊥
not_usage bytes out err n r =
    (told_status r.ending n err (ends_status bytes r.text r.ending out r.ends) (told_as r.text r.ending n err r.told)).0

pub not_read : (bytes : List ℕ) (out err : SinkUse) (n : ℕ) → ReplaysBytes bytes out err n → n ≡ 9 → ⊥
not_read bytes out err n r =
    (told_status r.ending n err (ends_status bytes r.text r.ending out r.ends) (told_as r.text r.ending n err r.told)).1

pub write_failed : (bytes : List ℕ) (out err : SinkUse) (n : ℕ) → ReplaysBytes bytes out err n → n ≡ 10
    → (Rose out.faults_old out.faults_new × (out.broken ≡ true)) ⊎ (Rose err.faults_old err.faults_new × (err.broken ≡ true))
write_failed bytes out err n r s = by (told_as r.text r.ending n err r.told)
  where
    of_out : Failed out → (Rose out.faults_old out.faults_new × (out.broken ≡ true)) ⊎ (Rose err.faults_old err.faults_new × (err.broken ≡ true))
    of_out f = inl (f.counted, f.broken)

    by : Told r.ending n err → (Rose out.faults_old out.faults_new × (out.broken ≡ true)) ⊎ (Rose err.faults_old err.faults_new × (err.broken ≡ true))
    by (whole w h) = of_out (ends_failed bytes r.text r.ending out r.ends (sym w ∙ s))
    by (failed w h) = inr (h.counted, h.broken)
    by (no_memory w h k) = absurd cc

-- ---- the claim

-- a call of `replay` that has read its bytes
pub claim_of_bytes : (call : Call) (command : Command) (bytes : List ℕ) → IsTextRead call.words call.source command bytes → command ≡ Replay
    → ReplaysBytes bytes call.out call.err call.status → Claim call
claim_of_bytes call command bytes read is r = inl (
  read.asked ∙ ap Some is,
  record {
    bytes = bytes;
    text = r.text;
    ending = r.ending;
    cause = inl (whole_read (subst (λ c. IsTextRead call.words call.source c bytes) is read), r.ends);
    told = r.told;
    faults = faults_of call bytes r.text r.ending r.ends read.held (told_as r.text r.ending call.status call.err r.told);
  },
)
  where
    whole_read : IsTextRead call.words call.source Replay bytes → IsReadWhole call bytes
    whole_read r = record { is_left = r.is_text; within = r.within; held = r.held }

-- another call that has read its text
pub claim_of_text : (call : Call) (command : Command) (text : List ℕ) (e : Ending)
    → IsTextRead call.words call.source command text → (command ≡ Replay → ⊥)
    → ((options : RunOptions) → command ≡ Record options → ⊥) → PerformsCommand command text e call.out
    → Reports text e call.status call.err → Claim call
claim_of_text call command text e read other unrecorded performs reports = inr (inr (
  λ asked. other (same_Some command Replay (sym read.asked ∙ asked)),
  λ options asked. unrecorded options (same_Some command (Record options) (sym read.asked ∙ asked)),
  headline_of_text call command text e read performs reports,
))

-- a call of `record` that has read its text
pub claim_of_records : (call : Call) (command : Command) (text : List ℕ) (options : RunOptions)
    → IsTextRead call.words call.source command text → command ≡ Record options
    → RecordsText options text call.status call.out call.err → Claim call
claim_of_records call command text options read is records = inr (inl (
  options,
  read.asked ∙ ap Some is,
  headline_of_records call options text (subst (λ c. IsTextRead call.words call.source c text) is read) records,
))

-- whether the words ask for `replay`
asks_replay : (asked : Option Command) → (asked ≡ Some Replay) ⊎ (asked ≡ Some Replay → ⊥)
asks_replay None = inr (λ s. cc)
asks_replay (Some (Run options)) = inr (λ s. cc)
asks_replay (Some Check) = inr (λ s. cc)
asks_replay (Some Emit) = inr (λ s. cc)
asks_replay (Some Code) = inr (λ s. cc)
asks_replay (Some (Big n)) = inr (λ s. cc)
asks_replay (Some Replay) = inl refl
asks_replay (Some (RunCode options)) = inr (λ s. cc)
asks_replay (Some (Record options)) = inr (λ s. cc)

-- whether they ask for `record`
asks_record : (asked : Option Command) → ((options : RunOptions) × (asked ≡ Some (Record options)))
    ⊎ ((options : RunOptions) → asked ≡ Some (Record options) → ⊥)
asks_record None = inr (λ options s. cc)
asks_record (Some (Run given)) = inr (λ options s. cc)
asks_record (Some Check) = inr (λ options s. cc)
asks_record (Some Emit) = inr (λ options s. cc)
asks_record (Some Code) = inr (λ options s. cc)
asks_record (Some (Big n)) = inr (λ options s. cc)
asks_record (Some Replay) = inr (λ options s. cc)
asks_record (Some (RunCode given)) = inr (λ options s. cc)
asks_record (Some (Record options)) = inl (options, refl)

-- what a source has left, if it reports that
abbrev left_bytes : Option (List ℕ) → List ℕ
left_bytes None = []
left_bytes (Some bytes) = bytes

outside_faults : (call : Call) (e : Ending) → IsUntouched call.out → SourceHadNoFault call.source → (status_of e ≡ 9 → ⊥)
    → (status_of e ≡ 10 → ⊥) → Told (Other e) call.status call.err → Faults call
outside_faults call e u held nine ten (whole w h) = record {
  read = λ s. absurd (nine (sym w ∙ s));
  write = λ s. absurd (ten (sym w ∙ s));
  none = λ s. (held, u.1, h);
}
outside_faults call e u held nine ten (failed w h) = record {
  read = λ s. absurd cc;
  write = λ s. inr h;
  none = λ s. absurd (ten_is_fault call.status w s);
}
outside_faults call e u held nine ten (no_memory w h k) = record {
  read = λ s. absurd cc;
  write = λ s. absurd cc;
  none = λ s. (held, u.1, k);
}

-- a call of `replay` that has read nothing
replay_of_words : (call : Call) (e : Ending) → NotRead call.words call.source e → IsUntouched call.out
    → Reports [] e call.status call.err → AsksForCommand call Replay → ReplayHeadline call
replay_of_words call Usage n u t asked = absurd (let none = sym n.0 ∙ asked in cc)
replay_of_words call ReadFault n u t asked = record {
  bytes = [];
  text = [];
  ending = Other ReadFault;
  cause = inr (n.1, u);
  told = t;
  faults = by (told_as [] (Other ReadFault) call.status call.err t);
}
  where
    by : Told (Other ReadFault) call.status call.err → Faults call
    by (whole w h) = record { read = λ s. n.1; write = λ s. absurd cc; none = λ s. absurd (let wrong = subst (λ k. is_fault_status k ≡ false) w s in cc) }
    by (failed w h) = record { read = λ s. n.1; write = λ s. inr h; none = λ s. absurd (ten_is_fault call.status w s) }
    by (no_memory w h k) = absurd h
replay_of_words call (Refused refusal.TooLong) n u t asked =
    let same : Some n.command ≡ Some Replay = sym n.asked ∙ asked in
    let is : n.command ≡ Replay = cc in
    absurd (subst (λ c. RefusedBy c n.text (Refused refusal.TooLong)) is n.refused)
replay_of_words call (CodeRefused code_refusal.TooLong) n u t asked =
    let same : Some n.command ≡ Some Replay = sym n.asked ∙ asked in
    let is : n.command ≡ Replay = cc in record {
      bytes = n.text;
      text = [];
      ending = Other (CodeRefused code_refusal.TooLong);
      cause = inr (
        (
          subst (λ c. IsTextOf (Some c) call.source.left n.text) is n.is_text,
          subst (λ c. RefusedBy c n.text (CodeRefused code_refusal.TooLong)) is n.refused,
          n.held,
        ),
        u,
      );
      told = t;
      faults = outside_faults call (CodeRefused code_refusal.TooLong) u n.held (λ s. cc) (λ s. cc)
          (told_as [] (Other (CodeRefused code_refusal.TooLong)) call.status call.err t);
    }
replay_of_words call NoMemory n u t asked = record {
  bytes = [];
  text = [];
  ending = Other NoMemory;
  cause = inr (n, u);
  told = t;
  faults = outside_faults call NoMemory u n (λ s. cc) (λ s. cc) (told_as [] (Other NoMemory) call.status call.err t);
}
replay_of_words call _ n u t asked = absurd n

pub claim_of_words : (call : Call) (e : Ending) → NotRead call.words call.source e → IsUntouched call.out
    → Reports [] e call.status call.err → Claim call
claim_of_words call e n u t = by (asks_replay (command_of call.words))
  where
    by : (command_of call.words ≡ Some Replay) ⊎ (command_of call.words ≡ Some Replay → ⊥) → Claim call
    by (inl asked) = inl (asked, replay_of_words call e n u t asked)
    by (inr other) = inr (by_record (asks_record (command_of call.words)))
      where
        by_record : ((options : RunOptions) × (command_of call.words ≡ Some (Record options)))
            ⊎ ((options : RunOptions) → command_of call.words ≡ Some (Record options) → ⊥)
            → ((options : RunOptions) × AsksForCommand call (Record options) × RecordHeadline options call)
            ⊎ ((AsksForCommand call Replay → ⊥) × ((options : RunOptions) → AsksForCommand call (Record options) → ⊥) × Headline call)
        by_record (inl (options, asked)) = inl (options, asked, record_of_words call options e n u t asked)
        by_record (inr unrecorded) = inr (other, unrecorded, headline_of_words call e n u t)

-- ---- what a status alone implies

pub ran : (call : Call) → Claim call → is_run_status call.status ≡ true
    → AsksRun call.words ⊎ (command_of call.words ≡ Some Replay)
ran call (inl c) s = inr c.0
ran call (inr (inl c)) s = inl (ran_by_status (call_after c.2.said call) c.2.as_run s)
ran call (inr (inr c)) s = inl (ran_by_status call c.2 s)

status_13 : (e : Ending) → status_of e ≡ 13 → ⊥
status_13 (Ran kind end stats) s = no_run_status 13 refl end s
status_13 Valid s = cc
status_13 Usage s = cc
status_13 ReadFault s = cc
status_13 (Refused why) s = cc
status_13 (CodeRefused why) s = cc
status_13 WriteFault s = cc
status_13 NoMemory s = cc

not_13 : (text : List ℕ) (e : Ending) (n : ℕ) (err : SinkUse) → ReportsEnding text e n err → n ≡ 13 → ⊥
not_13 text e n err (inl t) s = status_13 e (sym t.0 ∙ s)
not_13 text e n err (inr t) s = let wrong = sym t.0 ∙ s in cc

-- only a replay is unfinished
pub unfinished : (call : Call) → Claim call → call.status ≡ 13 → command_of call.words ≡ Some Replay
unfinished call (inl c) s = c.0
unfinished call (inr (inl c)) s =
    absurd (not_13 c.2.as_run.text c.2.as_run.ending call.status (call_after c.2.said call).err c.2.as_run.end.told s)
unfinished call (inr (inr c)) s = absurd (not_13 c.2.text c.2.ending call.status call.err c.2.end.told s)

pub held : (call : Call) → Claim call → is_fault_status call.status ≡ false
    → SourceHadNoFault call.source × SinkHadNoFault call.out × SinkHadNoFault call.err
held call (inl c) s = c.1.faults.none s
held call (inr (inl c)) s = c.2.as_run.faults.none s
held call (inr (inr c)) s = c.2.faults.none s

-- a write that failed
pub fault_of : (call : Call) → Claim call → call.status ≡ 10 → Failed call.out ⊎ Failed call.err
fault_of call (inl c) s = c.1.faults.write s
fault_of call (inr (inl c)) s = by (c.2.as_run.faults.write s)
  where
    by : Failed call.out ⊎ Failed (call_after c.2.said call).err → Failed call.out ⊎ Failed call.err
    by (inl f) = inl f
    by (inr f) = inr (record { counted = f.counted; broken = f.broken })
fault_of call (inr (inr c)) s = c.2.faults.write s
