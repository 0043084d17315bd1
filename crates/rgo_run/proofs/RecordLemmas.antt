-- What `record` leaves of a text: the run that was noted, its journal, and the line of its ending. Two writes go to `err`, and either
-- may fail. So the lemmas on reports are about a sink that has taken some bytes already (`reports_after`), and with the journal as
-- those bytes the claims on `run` carry over.
use Rattle.std.proofs.Common.{◌≡◌, ◌⊎◌, inl, inr, ℕ, zero, suc, Bool, true, false, List, [], ◌++◌, take, length, Option, None, Some, refl, sym}
use Rattle.std.proofs.Common.{ap, ◌∙◌, subst, arith, append-nil, length-append}
use Rattle.std.proofs.KnownBytes.{Appends-nil}
use Rattle.std.specs.Io.KnownBytes.{Appends, append_known}
use Rattle.rgo_outside.specs.Causes.{Rose}
use Rattle.rgo_typed.specs.Tree.{Typed}
use Rattle.rgo_machine.specs.declared.limits.Limits.{Limits}
use Rattle.rgo_tac.specs.Code.{Tac}
use Rattle.rgo_tac.specs.Tac.{tac, tac_start}
use Rattle.rgo_code.specs.Code.{Code}
use Rattle.rgo_code.specs.Erasure.{erased}
use Rattle.rgo_region_machine.specs.Counts.{Counts, counts_of}
use Rattle.rgo_round_robin.specs.Rounds.{all_of}
use Rattle.rgo_round_robin.specs.Runs.{RunsInRounds}
use Rattle.rgo_machine.specs.Ends.{RunsFreely}
use Rattle.rgo_machine.specs.declared.ends.RunEnd.{RunEnd}
use Rattle.rgo_machine.specs.declared.ends.RunEnd.TheVariants as run_end
use Rattle.rgo_journal.specs.declared.picks.TacPick.{TacPick}
use Rattle.rgo_journal.specs.Text.{journal}
use Rattle.rgo_recording.specs.declared.recording.Recorded.{Recorded}
use Rattle.rgo_recording.specs.Notes.{noted_picks}
use Rattle.rgo_recording.specs.Recordings as recording
use Rattle.rgo_recording.proofs.Going.{recorded_goes_on}
use Rattle.rgo_command_line.specs.declared.commands.Command.TheVariants.{Record}
use Rattle.rgo_command_line.specs.declared.limits.RunOptions.{RunOptions}
use Rattle.rgo_run.specs.declared.endings.Ending.{Ending}
use Rattle.rgo_run.specs.declared.endings.Ending.TheVariants.{Ran, NoMemory, Usage, ReadFault, Refused, CodeRefused}
use Rattle.rgo_run.specs.declared.refusals.CodeTextRefusal.TheVariants as code_refusal
use Rattle.rgo_run.specs.declared.refusals.TextRefusal.TheVariants as refusal
use Rattle.rgo_run.specs.declared.endings.TextKind.TheVariants as text_kind
use Rattle.rgo_run.specs.Calls.{AsksForCommand, Call, SinkUse, Failed, SinkHadNoFault, SinkGrew, IsUntouched, sink_use}
use Rattle.rgo_run.specs.Compiled.{IsCompiledFrom}
use Rattle.rgo_run.specs.Endings.{line_of, status_of}
use Rattle.rgo_run.specs.Headline.{EndsRun}
use Rattle.rgo_run.specs.Recorded.{IsCutEnding, IsOfNoRun, KeepsJournal, KeepsNotes, Noted, RecordHeadline, RecordsText, ReportsKept, ReportsJournal, WritesJournal}
use Rattle.rgo_run.specs.Recorded.{call_after, nothing, part, rest, whole}
use Rattle.rgo_run.specs.Reports.{Reports, WritesLine, in_short}
use Rattle.rgo_run.specs.Runs.{IsSaid, of_program}
use Rattle.rgo_sound.specs.RegionRuns.{RegionRun}
use Rattle.rgo_run.specs.Texts.{FailsAs, IsTextRead, NotRead}
use Rattle.rgo_run.specs.Verdicts.{IsTypedProgram}
use Rattle.rgo_run.proofs.EndingLemmas.{IsLate, failing_late, failing_ten, fault_of_run, one_is_no_run, refused_status, run_is_late}
use Rattle.rgo_run.proofs.EndingLemmas.{short_fault, short_is_late, short_is_no_refusal, short_status}
use Rattle.rgo_run.proofs.HeadlineLemmas.{headline_of_recorded, headline_of_unrecorded, headline_of_words, no_line_run}
use Rattle.rgo_run.proofs.TextLemmas.{followed_if}
use Rattle.rgo_run.proofs.WorldLemmas.{Ended, ended_so, region_run}

-- ---- one write after the other

-- what grew after these bytes
grew_after : (old mid new : Option (List ℕ)) (said bytes : List ℕ) → Appends old mid said → Appends mid new bytes
    → Appends (append_known old said) new bytes
grew_after None mid new said bytes p q = tt
grew_after (Some x) None new said bytes p q = absurd p
grew_after (Some x) (Some y) new said bytes p q = subst (λ l. Appends (Some l) new bytes) p q

-- the same for a write that may have failed, with the counts of the sink before both
writes_after : (old mid new : Option (List ℕ)) (before between now : ℕ) (broken : Bool) (said line : List ℕ)
    (status answer : ℕ) → Appends old mid said → between ≡ before
    → WritesLine line status answer (sink_use mid new between now broken)
    → WritesLine line status answer (rest said (sink_use old new before now broken))
writes_after old mid new before between now broken said line status answer grew held (inl w) =
    inl (w.0, grew_after old mid new said line grew w.1, w.2 ∙ held)
writes_after old mid new before between now broken said line status answer grew held (inr w) = inr (
  w.0,
  record { counted = subst (λ n. Rose n now) held w.1.counted; broken = w.1.broken },
  w.2,
  grew_after old mid new said (take w.2 line) grew w.3,
)

pub reports_after : (old mid new : Option (List ℕ)) (before between now : ℕ) (broken : Bool) (said : List ℕ)
    (text : List ℕ) (e : Ending) (answer : ℕ) → Appends old mid said → between ≡ before
    → Reports text e answer (sink_use mid new between now broken)
    → Reports text e answer (rest said (sink_use old new before now broken))
reports_after old mid new before between now broken said text e answer grew held (inl t) =
    inl (writes_after old mid new before between now broken said (line_of text e) (status_of e) answer grew held t)
reports_after old mid new before between now broken said text e answer grew held (inr t) = inr (
  t.0,
  writes_after old mid new before between now broken said (line_of text (in_short e)) (status_of (in_short e)) answer grew held t.1,
)

-- nothing was written first
append_nothing : (known : Option (List ℕ)) → append_known known [] ≡ known
append_nothing None = refl
append_nothing (Some bytes) = ap Some (append-nil bytes)

rest_nothing : (err : SinkUse) → rest [] err ≡ err
rest_nothing err = ap (λ o. record err { old = o }) (append_nothing err.old)

-- the journal was written, and then the ending reported
pub kept_reported : (old mid new : Option (List ℕ)) (before between now : ℕ) (first second : Bool) (bytes text : List ℕ)
    (e : Ending) (answer : ℕ) → WritesJournal true bytes (sink_use old mid before between first)
    → Reports text e answer (sink_use mid new between now second)
    → ReportsKept text e bytes answer (sink_use old new before now second)
kept_reported old mid new before between now first second bytes text e answer wrote reports =
    inl (reports_after old mid new before between now second bytes text e answer wrote.0 wrote.1 reports)

-- ---- what was kept

take_nothing : (n : ℕ) → take {A = ℕ} n [] ≡ []
take_nothing zero = refl
take_nothing (suc n) = refl

-- after the first bytes of the journal nothing follows
part_reported : (text : List ℕ) (e : Ending) (status : ℕ) (err : SinkUse) (said : List ℕ) → status ≡ 10 → Failed err
    → SinkGrew err said → Reports text e status (rest said err)
part_reported text e status err said ten failed grew = inl (inr (
  ten,
  record { counted = failed.counted; broken = failed.broken },
  0,
  grew_after err.old err.new err.new said [] grew (Appends-nil err.new),
))

says_part : (picks : List TacPick) (e : Ending) (status : ℕ) (err : SinkUse) (bytes : List ℕ)
    → (bytes ≡ journal picks) ⊎ (IsCutEnding e × (bytes ≡ [])) → status ≡ 10 → Failed err → (n : ℕ)
    → ReportsJournal picks e status err (take n bytes)
says_part picks e status err bytes (inl is) ten failed n = part ten failed n (ap (take n) is)
says_part picks e status err bytes (inr cut) ten failed n = nothing cut.0 (ap (take n) cut.1 ∙ take_nothing n)

says_all : (picks : List TacPick) (e : Ending) (status : ℕ) (err : SinkUse) (bytes : List ℕ)
    → (bytes ≡ journal picks) ⊎ (IsCutEnding e × (bytes ≡ [])) → ReportsJournal picks e status err bytes
says_all picks e status err bytes (inl is) = whole is
says_all picks e status err bytes (inr cut) = nothing cut.0 cut.1

pub refuses : (options : RunOptions) (text : List ℕ) (e : Ending) (status : ℕ) (out err : SinkUse) → FailsAs text_kind.Go text e
    → IsUntouched out → Reports text e status err → RecordsText options text status out err
refuses options text e status out err fails untouched reports = (
  [],
  inr (record { ending = e; fails = fails; untouched = untouched; silent = refl; reports = reports }),
)

-- if memory ran out before the run, there was nothing to write
no_run_kept : (options : RunOptions) (text : List ℕ) (e : Ending) (bytes : List ℕ) (status : ℕ) (out err : SinkUse)
    → e ≡ NoMemory → IsUntouched out → bytes ≡ [] → ReportsKept text e bytes status err → RecordsText options text status out err
no_run_kept options text e bytes status out err is untouched empty (inl reports) =
    refuses options text NoMemory status out err tt untouched
    (subst (λ e. Reports text e status err) is
    (subst (λ sink. Reports text e status sink) (ap (λ b. rest b err) empty ∙ rest_nothing err) reports))
no_run_kept options text e bytes status out err is untouched empty (inr (ten, failed, n, grew)) =
    refuses options text NoMemory status out err tt untouched
    (inl (inr (ten, failed, 0, subst (SinkGrew err) (ap (take n) empty ∙ take_nothing n) grew)))

pub records_kept : (options : RunOptions) (text : List ℕ) (e : Ending) (bytes : List ℕ) (status : ℕ) (out err : SinkUse)
    → KeepsJournal options text e bytes out → ReportsKept text e bytes status err → RecordsText options text status out err
records_kept options text e bytes status out err (inl (picks, noted, is)) (inl reports) = (
  bytes,
  inl (record {
    ending = e;
    picks = picks;
    noted = noted;
    says = says_all picks e status err bytes is;
    reports = reports;
  }),
)
records_kept options text e bytes status out err (inl (picks, noted, is)) (inr (ten, failed, n, grew)) = (
  take n bytes,
  inl (record {
    ending = e;
    picks = picks;
    noted = noted;
    says = says_part picks e status err bytes is ten failed n;
    reports = part_reported text e status err (take n bytes) ten failed grew;
  }),
)
records_kept options text e bytes status out err (inr (is, untouched, empty)) reports =
    no_run_kept options text e bytes status out err is untouched empty reports

-- ---- what was kept of the notes

pub kept_whole : (end : RunEnd) (picks : List TacPick) (e : Ending) (bytes : List ℕ) → e ≡ Ran text_kind.Go end None
    → bytes ≡ journal picks → KeepsNotes end picks e bytes
kept_whole end picks e bytes is written = inl (is, inl written)

pub kept_cut : (end : RunEnd) (picks : List TacPick) (e : Ending) (bytes : List ℕ) → e ≡ Ran text_kind.Go end None
    → IsCutEnding (Ran text_kind.Go end None) → bytes ≡ [] → KeepsNotes end picks e bytes
kept_cut end picks e bytes is cut empty = inl (is, inr (subst IsCutEnding (sym is) cut, empty))

pub kept_none : (end : RunEnd) (picks : List TacPick) (e : Ending) (bytes : List ℕ) → (end ≡ run_end.WriteFault → ⊥)
    → e ≡ Ran text_kind.Go run_end.NoMemory None → bytes ≡ [] → KeepsNotes end picks e bytes
kept_none end picks e bytes no_fault is empty = inr (no_fault, is, empty)

-- ---- the run that was noted

no_stats : (asked : Bool) (end : RunEnd) (made : Counts) → asked ≡ false → IsSaid asked end made None
no_stats asked end made is = subst (λ b. IsSaid b end made None) (sym is) tt

-- a run of one goroutine at a time is a run in some order
abbrev runs_freely : (code : Tac) (limits : Limits) (end : RunEnd) (old new : Option (List ℕ))
    → RunsInRounds (tac code) limits (tac_start code) end old new → RunsFreely (tac code) limits (tac_start code) end old new
runs_freely code limits end old new x = record {
  picks = all_of x.rounds ++ x.last;
  tested = length (all_of x.rounds);
  state = x.state;
  ran = x.ran;
  early = omega (arith, length-append (all_of x.rounds) x.last);
  ends = x.ends;
  gives = x.gives;
}

module _ (options : RunOptions) (text : List ℕ) (program : Typed) (code : Code) (is_program : IsTypedProgram text program)
    (compiled : IsCompiledFrom program code) (r : Recorded) (out : SinkUse)
    (records : recording.Records code options.sizes options.limits out.old out.new r) (plain : options.stats ≡ false)
    (failed : r.end ≡ run_end.WriteFault → Failed out) (held : (r.end ≡ run_end.WriteFault → ⊥) → SinkHadNoFault out) where
  ended : Ended r.world records.runs.before (record records.runs.runs.state { printed = r.world.state.printed }) r.end
  ended = ended_so r.world records.runs.before
      (record records.runs.runs.state { printed = r.world.state.printed }) r.end records.runs.left.leaves
      records.runs.left.lacks

  regions : RegionRun code options.sizes r.end records.runs.runs.state
  regions = region_run code options.sizes r.world records.runs.before records.runs.runs.state r.end records.fixed records.runs.whole ended

  pub noted_run : Noted options text (Ran text_kind.Go r.end None) out (noted_picks r.notes)
  noted_run = record {
    runs = record {
      what = of_program program;
      is_what = (refl, is_program);
      run_end = r.end;
      stats = None;
      is_end = refl;
      runs = record {
        code = code;
        is_code = compiled;
        runs = runs_freely (erased code) options.limits r.end out.old out.new records.runs.runs;
        source = followed_if (of_program program) code options.limits (length (all_of records.runs.runs.rounds))
            (all_of records.runs.runs.rounds ++ records.runs.runs.last) r.end records.runs.runs.state compiled
            records.runs.runs.ran records.runs.runs.ends;
        regions = regions;
      };
      said = no_stats options.stats r.end (counts_of regions.last) plain;
      failed = failed;
      held = held;
    };
    takes = records.noted;
    fit = records.fit;
    goes_on = recorded_goes_on code options.sizes options.limits out.old out.new r records;
  }

  -- if there was no memory for its journal
  pub noted_cut : (r.end ≡ run_end.WriteFault → ⊥)
      → Noted options text (Ran text_kind.Go run_end.NoMemory None) out (noted_picks r.notes)
  unfolding noted_run
  noted_cut no_fault = record {
    runs = no_line_run text_kind.Go options text out (Ran text_kind.Go r.end None) noted_run.runs no_fault;
    takes = noted_run.takes;
    fit = noted_run.fit;
    goes_on = λ why is dead. cc;
  }

  -- what was kept of it
  pub keeps_noted : (e : Ending) (bytes : List ℕ) → KeepsNotes r.end (noted_picks r.notes) e bytes → KeepsJournal options text e bytes out
  keeps_noted e bytes (inl (is, kept)) = inl (
    noted_picks r.notes,
    subst (λ e. Noted options text e out (noted_picks r.notes)) (sym is) noted_run,
    kept,
  )
  keeps_noted e bytes (inr (no_fault, is, empty)) = inl (
    noted_picks r.notes,
    subst (λ e. Noted options text e out (noted_picks r.notes)) (sym is) (noted_cut no_fault),
    inr (subst IsCutEnding (sym is) tt, empty),
  )

-- ---- the status

-- a refusal, or a lack of memory
pub failing : (text : List ℕ) (e : Ending) → FailsAs text_kind.Go text e → (e ≡ NoMemory) ⊎ (status_of e ≡ 1)
failing text NoMemory f = inl refl
failing text e f = inr (refused_status text_kind.Go text e f)

pub reported_late : (text : List ℕ) (e : Ending) (n : ℕ) (err : SinkUse) → IsLate (status_of e) → Reports text e n err → IsLate n
reported_late text e n err late (inl (inl w)) = subst IsLate (sym w.0) late
reported_late text e n err late (inl (inr w)) = subst IsLate (sym w.0) (λ s. cc, λ s. cc)
reported_late text e n err late (inr (h, inl w)) = subst IsLate (sym w.0) (short_is_late e)
reported_late text e n err late (inr (h, inr w)) = subst IsLate (sym w.0) (λ s. cc, λ s. cc)

records_late : (options : RunOptions) (text : List ℕ) (n : ℕ) (out err : SinkUse) → RecordsText options text n out err
    → IsLate n
records_late options text n out err (said, inl r) =
    reported_late text r.ending n (rest said err)
    (subst (λ e. IsLate (status_of e)) (sym r.noted.runs.is_end) (run_is_late r.noted.runs.run_end)) r.reports
records_late options text n out err (said, inr r) =
    reported_late text r.ending n err (failing_late r.ending (failing text r.ending r.fails)) r.reports

pub not_usage : (options : RunOptions) (text : List ℕ) (n : ℕ) (out err : SinkUse) → RecordsText options text n out err
    → n ≡ 64 → ⊥
not_usage options text n out err r = (records_late options text n out err r).0

pub not_read : (options : RunOptions) (text : List ℕ) (n : ℕ) (out err : SinkUse) → RecordsText options text n out err
    → n ≡ 9 → ⊥
not_read options text n out err r = (records_late options text n out err r).1

-- what is known of a sink to which a write failed
abbrev Broke : SinkUse → Type 0
Broke sink = Rose sink.faults_old sink.faults_new × (sink.broken ≡ true)

broke : (said : List ℕ) (err : SinkUse) → Failed (rest said err) → Broke err
broke said err f = (f.counted, f.broken)

-- if the status is 10, a write failed
pub write_failed : (options : RunOptions) (text : List ℕ) (n : ℕ) (out err : SinkUse) → RecordsText options text n out err
    → n ≡ 10 → Broke out ⊎ Broke err
write_failed options text n out err (said, inl r) ten = by r.reports
  where
    by : Reports text r.ending n (rest said err) → Broke out ⊎ Broke err
    by (inl (inl w)) =
        let f = r.noted.runs.failed
        (fault_of_run r.noted.runs.run_end (sym (ap status_of r.noted.runs.is_end) ∙ sym w.0 ∙ ten)) in
        inl (f.counted, f.broken)
    by (inl (inr w)) = inr (broke said err w.1)
    by (inr (h, inl w)) =
        let f = r.noted.runs.failed (fault_of_run r.noted.runs.run_end
        (sym (ap status_of r.noted.runs.is_end) ∙ short_fault r.ending (sym w.0 ∙ ten))) in
        inl (f.counted, f.broken)
    by (inr (h, inr w)) = inr (broke said err w.1)
write_failed options text n out err (said, inr r) ten = by r.reports
  where
    by : Reports text r.ending n err → Broke out ⊎ Broke err
    by (inl (inl w)) = absurd (failing_ten r.ending (failing text r.ending r.fails) (sym w.0 ∙ ten))
    by (inl (inr w)) = inr (w.1.counted, w.1.broken)
    by (inr (h, inl w)) = absurd (failing_ten r.ending (failing text r.ending r.fails) (short_fault r.ending (sym w.0 ∙ ten)))
    by (inr (h, inr w)) = inr (w.1.counted, w.1.broken)

-- a run never ends with the status of a refusal
pub kept_not_refused : (text : List ℕ) (e : Ending) (bytes : List ℕ) (n : ℕ) (err : SinkUse) → EndsRun e
    → ReportsKept text e bytes n err → n ≡ 1 → ⊥
kept_not_refused text e bytes n err ends (inl (inl (inl w))) s = one_is_no_run e (sym w.0 ∙ s) ends
kept_not_refused text e bytes n err ends (inl (inl (inr w))) s = absurd (let ten = sym w.0 ∙ s in cc)
kept_not_refused text e bytes n err ends (inl (inr (h, inl w))) s = absurd (short_is_no_refusal e (sym w.0 ∙ s))
kept_not_refused text e bytes n err ends (inl (inr (h, inr w))) s = absurd (let ten = sym w.0 ∙ s in cc)
kept_not_refused text e bytes n err ends (inr w) s = absurd (let ten = sym w.0 ∙ s in cc)

-- ---- the claim

pub short_of_no_run : (e : Ending) → IsOfNoRun (status_of (in_short e))
short_of_no_run e = by (short_status e)
  where
    by : (status_of (in_short e) ≡ 11) ⊎ ((status_of e ≡ 10) × (status_of (in_short e) ≡ 10)) → IsOfNoRun (status_of (in_short e))
    by (inl is) = inr (inr (inr is))
    by (inr is) = inr (inr (inl is.1))

ending_of_no_run : (text : List ℕ) (e : Ending) (n : ℕ) (err : SinkUse) → IsOfNoRun (status_of e) → Reports text e n err
    → IsOfNoRun n
ending_of_no_run text e n err is (inl (inl w)) = subst IsOfNoRun (sym w.0) is
ending_of_no_run text e n err is (inl (inr w)) = inr (inr (inl w.0))
ending_of_no_run text e n err is (inr (h, inl w)) = subst IsOfNoRun (sym w.0) (short_of_no_run e)
ending_of_no_run text e n err is (inr (h, inr w)) = inr (inr (inl w.0))

failing_of_no_run : (e : Ending) → (e ≡ NoMemory) ⊎ (status_of e ≡ 1) → IsOfNoRun (status_of e)
failing_of_no_run e (inl is) = inr (inr (inr (ap status_of is)))
failing_of_no_run e (inr is) = inl is

-- a call that has read its text
pub headline_of_records : (call : Call) (options : RunOptions) (text : List ℕ)
    → IsTextRead call.words call.source (Record options) text → RecordsText options text call.status call.out call.err
    → RecordHeadline options call
headline_of_records call options text read (said, inl r) = record {
  said = said;
  as_run = headline_of_recorded (call_after said call) options text r.ending read_after r.noted.runs r.reports;
  recorded = inl (record { text = text; is_text = read.is_text; records = r });
}
  where
    read_after : IsTextRead (call_after said call).words (call_after said call).source (Record options) text
    read_after = read
headline_of_records call options text read (said, inr r) = record {
  said = [];
  as_run = headline_of_unrecorded (call_after [] call) options text r.ending read r.fails r.untouched
      (subst (λ sink. Reports text r.ending call.status sink) (sym (rest_nothing call.err)) r.reports);
  recorded = inr (
    ending_of_no_run text r.ending call.status call.err (failing_of_no_run r.ending (failing text r.ending r.fails)) r.reports,
    refl,
  );
}

unread_of_no_run : (call : Call) (options : RunOptions) (e : Ending) → AsksForCommand call (Record options)
    → NotRead call.words call.source e → IsOfNoRun (status_of e)
unread_of_no_run call options Usage asked n = absurd (let none = sym n.0 ∙ asked in cc)
unread_of_no_run call options ReadFault asked n = inr (inl refl)
unread_of_no_run call options (Refused refusal.TooLong) asked n = inl refl
unread_of_no_run call options (CodeRefused code_refusal.TooLong) asked n = inl refl
unread_of_no_run call options NoMemory asked n = inr (inr (inr refl))
unread_of_no_run call options _ asked n = absurd n

-- a call that has read nothing
pub record_of_words : (call : Call) (options : RunOptions) (e : Ending) → NotRead call.words call.source e
    → IsUntouched call.out → Reports [] e call.status call.err → AsksForCommand call (Record options) → RecordHeadline options call
record_of_words call options e n u t asked = record {
  said = [];
  as_run = headline_of_words (call_after [] call) e n u
      (subst (λ sink. Reports [] e call.status sink) (sym (rest_nothing call.err)) t);
  recorded = inr (ending_of_no_run [] e call.status call.err (unread_of_no_run call options e asked n) t, refl);
}
