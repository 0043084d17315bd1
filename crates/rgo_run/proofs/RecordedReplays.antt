-- A journal that `record` wrote, replayed with its text. Both calls speak of the same run by three facts: a printed journal is read
-- back as its picks, a text has one program, and a program has one three-address code. The picks then lead to the same state, since a
-- pick has at most one step.
use Rattle.std.proofs.Common.{◌≡◌, ◌⊎◌, inl, inr, ℕ, ◌≤◌, ◌<◌, true, false, List, [], ◌∷◌, ◌++◌, drop, length, IfSome, Option, None, Some, refl, sym}
use Rattle.std.proofs.Common.{ap, ◌∙◌, subst, arith, true≢false, append_assoc}
use Rattle.rgo_run.proofs.RecordLemmas.{short_of_no_run}
use Rattle.std.specs.Io.KnownBytes.{Appends, append_known}
use Rattle.std.proofs.lemmas.Option.{same_Some}
use Rattle.rgo_machine.specs.declared.picks.End.TheVariants as the_end
use Rattle.rgo_machine.specs.declared.limits.Shortage.TheVariants as shortage
use Rattle.rgo_tac.specs.Code.{Tac}
use Rattle.rgo_tac.specs.Tac.{tac, tac_start}
use Rattle.rgo_code.specs.Code.{Code}
use Rattle.rgo_code.specs.Erasure.{erased}
use Rattle.rgo_lower.specs.Lowered.{IsLowered}
use Rattle.rgo_lower.proofs.Determined.{lowering_is_determined}
use Rattle.rgo_machine.specs.Ends as driver
use Rattle.rgo_machine.specs.declared.ends.RunEnd.{RunEnd}
use Rattle.rgo_machine.specs.declared.ends.RunEnd.TheVariants as run_end
use Rattle.rgo_journal.specs.declared.picks.TacPick.{TacPick}
use Rattle.rgo_journal.specs.declared.replays.ReplayEnd.{ReplayEnd}
use Rattle.rgo_journal.specs.declared.replays.ReplayEnd.TheVariants as replay_end
use Rattle.rgo_journal.specs.Laws.{IsFaultlessEnd}
use Rattle.rgo_journal.specs.Replays.{Replays}
use Rattle.rgo_journal.specs.Text.{IsJournal, journal}
use Rattle.rgo_journal.proofs.OneJournal.{read_back}
use Rattle.rgo_recording.specs.Laws.{ReplaysAs}
use Rattle.rgo_recording.proofs.Replaying.{comes, replays_as, whole_gives}
use Rattle.rgo_command_line.specs.declared.commands.Command.TheVariants.{Record, Replay}
use Rattle.rgo_command_line.specs.declared.limits.RunOptions.{RunOptions}
use Rattle.rgo_run.specs.declared.endings.Ending.{Ending}
use Rattle.rgo_run.specs.declared.endings.Ending.TheVariants.{Ran, ReadFault, CodeRefused, NoMemory}
use Rattle.rgo_run.specs.declared.endings.Ending.TheVariants as the_ending
use Rattle.rgo_run.specs.declared.refusals.CodeTextRefusal.TheVariants as code_refusal
use Rattle.rgo_run.specs.declared.refusals.TextRefusal.{TextRefusal}
use Rattle.rgo_run.specs.declared.endings.TextKind.TheVariants as text_kind
use Rattle.rgo_run.specs.declared.replaying.ReplayEnding.{ReplayEnding}
use Rattle.rgo_run.specs.declared.replaying.ReplayEnding.TheVariants.{NoJournal, Replayed, Other}
use Rattle.rgo_run.specs.Calls.{AsksForCommand, Call, SinkUse, SinkGrew, IsUntouched}
use Rattle.rgo_run.specs.CodeVerdicts.{code_limit}
use Rattle.rgo_run.specs.Endings.{line_of, status_of, status_of_run}
use Rattle.rgo_run.specs.RecordLaws.{AnswersAs, IsUnhindered, LeavesJournal, RecordedIsReplayed, ReplaysCall, is_own_status}
use Rattle.rgo_run.specs.Recorded.{IsCutEnding, IsOfNoRun, Noted, RecordHeadline, RecordedText, RecordsRun, ReportsJournal, nothing, part, rest, whole}
use Rattle.rgo_run.specs.Replayed.{Claim, EndsOn, IsReadWhole, IsSplit, NotReplayed, ReadsNothing, ReplayHeadline, ReplaysTo, ReportsReplay, status_of_end, status_of_replay}
use Rattle.rgo_run.specs.Reports.{Reports}
use Rattle.rgo_run.specs.Runs.{IsCodeFor, IsCodeOf, IsRunnable, Runnable, of_code, of_program}
use Rattle.rgo_run.specs.Verdicts.{IsValidProgram, Refused}
use Rattle.rgo_run.proofs.VerdictLemmas.{never_both, one_program}

-- ---- the bytes on `err`

grown : (old new : Option (List ℕ)) (said line : List ℕ) → Appends (append_known old said) new line
    → Appends old new (said ++ line)
grown None new said line g = tt
grown (Some x) None said line g = absurd g
grown (Some x) (Some y) said line g = g ∙ append_assoc x said line

-- ---- statuses

-- an end that neither a failed write nor a lack of memory has caused
abbrev IsRunStatus : RunEnd → Type 0
IsRunStatus run_end.WriteFault = ⊥
IsRunStatus run_end.NoMemory = ⊥
IsRunStatus _ = Unit {0}

answers : (end : RunEnd) (e : ReplayEnd) → IsRunStatus end → ReplaysAs end e
    → AnswersAs (status_of_run end) (status_of_end e)
answers end e s same_end = by end e s same_end
  where
    same : (status : ℕ) → is_own_status status ≡ true → AnswersAs status status
    same status own = record { own = λ o. refl; cut = λ other. absurd (let both = sym own ∙ other in cc) }

    unfinished : (status : ℕ) → is_own_status status ≡ false → AnswersAs status 13
    unfinished status other = record { own = λ own. absurd (let both = sym own ∙ other in cc); cut = λ o. inl refl }

    spent : (e : ReplayEnd) → (e ≡ replay_end.Unfinished) ⊎ (e ≡ replay_end.Deadlock) → AnswersAs 8 (status_of_end e)
    spent e (inl is) = subst (λ x. AnswersAs 8 (status_of_end x)) (sym is) (unfinished 8 refl)
    spent e (inr is) = subst (λ x. AnswersAs 8 (status_of_end x)) (sym is)
        (record { own = λ own. absurd (true≢false (sym own)); cut = λ other. inr (refl, refl) })

    by : (end : RunEnd) (e : ReplayEnd) → IsRunStatus end → ReplaysAs end e
        → AnswersAs (status_of_run end) (status_of_end e)
    by (run_end.Ended the_end.Exit) e s is = subst (λ x. AnswersAs 0 (status_of_end x)) (sym is) (same 0 refl)
    by (run_end.Ended (the_end.Trap trap at)) e s is = subst (λ x. AnswersAs 2 (status_of_end x)) (sym is) (same 2 refl)
    by run_end.Deadlock e s is = subst (λ x. AnswersAs 3 (status_of_end x)) (sym is) (same 3 refl)
    by run_end.CallsTooDeep e s is = subst (λ x. AnswersAs 7 (status_of_end x)) (sym is) (unfinished 7 refl)
    by run_end.GoroutinesSpent e s is = subst (λ x. AnswersAs 12 (status_of_end x)) (sym is) (unfinished 12 refl)
    by run_end.StepsSpent e s is = spent e is
    by (run_end.NoRoom shortage.Pages) e s is = subst (λ x. AnswersAs 4 (status_of_end x)) (sym is) (unfinished 4 refl)
    by (run_end.NoRoom shortage.Regions) e s is = subst (λ x. AnswersAs 5 (status_of_end x)) (sym is) (unfinished 5 refl)
    by (run_end.NoRoom shortage.ObjectSize) e s is =
        subst (λ x. AnswersAs 6 (status_of_end x)) (sym is) (unfinished 6 refl)
    by run_end.WriteFault e s is = absurd s
    by run_end.NoMemory e s is = absurd s

-- the status that a report returns if nothing failed and memory sufficed
replay_status : (text : List ℕ) (e : ReplayEnding) (n : ℕ) (err : SinkUse) → IsUnhindered n → ReportsReplay text e n err
    → n ≡ status_of_replay e
replay_status text e n err ok (inl (inl w)) = w.0
replay_status text e n err ok (inl (inr w)) = absurd (ok.1 w.0)
replay_status text e n err ok (inr (h, inl w)) = absurd (ok.2 w.0)
replay_status text e n err ok (inr (h, inr w)) = absurd (ok.1 w.0)

-- what the report of a run returns and writes, if the status is that of a run
pub run_told : (text : List ℕ) (e : Ending) (n : ℕ) (err : SinkUse) → (IsOfNoRun n → ⊥) → Reports text e n err
    → (n ≡ status_of e) × SinkGrew err (line_of text e)
run_told text e n err of_run (inl (inl w)) = (w.0, w.1)
run_told text e n err of_run (inl (inr w)) = absurd (of_run (inr (inr (inl w.0))))
run_told text e n err of_run (inr (h, inl w)) = absurd (of_run (subst IsOfNoRun (sym w.0) (short_of_no_run e)))
run_told text e n err of_run (inr (h, inr w)) = absurd (of_run (inr (inr (inl w.0))))

pub cut_is_of_no_run : (e : Ending) → IsCutEnding e → IsOfNoRun (status_of e)
cut_is_of_no_run (Ran kind run_end.NoMemory stats) cut = inr (inr (inr refl))
cut_is_of_no_run (Ran kind run_end.WriteFault stats) cut = inr (inr (inl refl))
cut_is_of_no_run _ cut = absurd cut

run_status : (end : RunEnd) → (IsOfNoRun (status_of_run end) → ⊥) → IsRunStatus end
run_status run_end.WriteFault of_run = of_run (inr (inr (inl refl)))
run_status run_end.NoMemory of_run = of_run (inr (inr (inr refl)))
run_status (run_end.Ended e) of_run = tt
run_status run_end.Deadlock of_run = tt
run_status (run_end.NoRoom why) of_run = tt
run_status run_end.CallsTooDeep of_run = tt
run_status run_end.StepsSpent of_run = tt
run_status run_end.GoroutinesSpent of_run = tt

-- ---- the code

code_of_run : (text : List ℕ) (what : Runnable) (code : Code) (plain : Tac) → IsRunnable text_kind.Go text what
    → IsCodeFor what code → IsCodeOf text plain → plain ≡ erased code
code_of_run text (of_program program) code plain is compiled of =
    lowering_is_determined program (erased code) plain compiled.lowered
    (subst (λ p. IsLowered p plain) (one_program text of.program program of.is_program is.1) of.lowered)
code_of_run text (of_code given) code plain is compiled of = absurd (let wrong = is.0 in cc)

passes_of : (text : List ℕ) (what : Runnable) → IsRunnable text_kind.Go text what → IsValidProgram text
passes_of text (of_program program) is = (is.1.tree, is.1.is_well_typed)
passes_of text (of_code given) is = absurd (let wrong = is.0 in cc)

-- ---- the replay

left_is : (left : Option (List ℕ)) (given bytes : List ℕ) → left ≡ Some given → IfSome left (λ l. bytes ≡ l) → bytes ≡ given
left_is None given bytes is at = absurd (let wrong = is in cc)
left_is (Some l) given bytes is at = at ∙ same_Some l given is

run_gives : (end : RunEnd) → IsRunStatus end → (print : List ℕ) (old new : Option (List ℕ)) → driver.RunPrints end print old new
    → Appends old new print
run_gives (run_end.Ended e) s print old new g = g
run_gives run_end.Deadlock s print old new g = g
run_gives (run_end.NoRoom why) s print old new g = g
run_gives run_end.CallsTooDeep s print old new g = g
run_gives run_end.StepsSpent s print old new g = g
run_gives run_end.GoroutinesSpent s print old new g = g
run_gives run_end.WriteFault s print old new g = absurd s
run_gives run_end.NoMemory s print old new g = absurd s

whole_by_status : (e : ReplayEnd) → IsUnhindered (status_of_end e) → IsFaultlessEnd e
whole_by_status replay_end.WriteFault ok = ok.1 refl
whole_by_status replay_end.NoMemory ok = ok.2 refl
whole_by_status (replay_end.Ended end) ok = tt
whole_by_status replay_end.Deadlock ok = tt
whole_by_status replay_end.Unfinished ok = tt
whole_by_status (replay_end.Foreign index) ok = tt

module _ (options : RunOptions) (recorded replayed : Call) (text : List ℕ) (ending : Ending) (picks : List TacPick)
    (noted : Noted options text ending recorded.out picks) (of_run : IsOfNoRun recorded.status → ⊥)
    (told : recorded.status ≡ status_of ending) (ok : IsUnhindered replayed.status) where
  abbrev run : driver.RunsFreely (tac (erased noted.runs.runs.code)) options.limits (tac_start (erased noted.runs.runs.code))
      noted.runs.run_end recorded.out.old recorded.out.new
  run = noted.runs.runs.runs

  ran_so : recorded.status ≡ status_of_run noted.runs.run_end
  ran_so = told ∙ ap status_of noted.runs.is_end

  by_itself : IsRunStatus noted.runs.run_end
  by_itself = run_status noted.runs.run_end (λ n. of_run (subst IsOfNoRun (sym ran_so) n))

  -- the picks were replayed on the code of the text
  of_replay : (e : ReplayEnd) → replayed.status ≡ status_of_end e → ReplaysTo picks text e replayed.out
      → ReplaysCall recorded replayed
  of_replay e is to =
      let code = noted.runs.runs.code in
      let plain : to.code ≡ erased code = code_of_run text noted.runs.what code to.code noted.runs.is_what
      noted.runs.runs.is_code to.is_code in
      let again : Replays (erased code) picks e replayed.out.old replayed.out.new =
      subst (λ c. Replays c picks e replayed.out.old replayed.out.new) plain to.replays in
      let w : IsFaultlessEnd e = whole_by_status e (subst IsUnhindered is ok) in
      let ends_so : ReplaysAs noted.runs.run_end e =
      replays_as (erased code) picks run.state noted.takes e again.state w again.ends options.limits run.tested
      (length run.picks) noted.runs.run_end run.ends noted.goes_on in
      let same : again.state ≡ run.state = comes (erased code) picks run.state noted.takes e again.state w again.ends
      e refl in
      record {
        bytes = run.state.printed;
        ran = run_gives noted.runs.run_end by_itself run.state.printed recorded.out.old recorded.out.new run.gives;
        replays = subst (λ bytes. SinkGrew replayed.out bytes) (ap (λ v. v.printed) same)
            (whole_gives e w again.state.printed replayed.out.old replayed.out.new again.gives);
        answers = subst (λ n. AnswersAs n replayed.status) (sym ran_so)
            (subst (λ n. AnswersAs (status_of_run noted.runs.run_end) n) (sym is)
            (answers noted.runs.run_end e by_itself ends_so));
      }

  -- what was read is the journal, and the text after it
  is_journal : IsJournal (journal picks ++ text) picks (length (journal picks))
  is_journal = read_back.is picks text noted.fit

  text_after : (bytes after : List ℕ) (found : List TacPick) → bytes ≡ journal picks ++ text → IsSplit bytes found after
      → (found ≡ picks) × (after ≡ text)
  text_after bytes after found is split =
      let one = read_back.one bytes found picks split.n (length (journal picks)) split.journal
      (subst (λ b. IsJournal b picks (length (journal picks))) (sym is) is_journal) in (
        one.0,
        split.rest ∙ ap (λ n. drop n bytes) one.1 ∙ ap (λ b. drop (length (journal picks)) b) is
            ∙ drop_past (journal picks) text,
      )
    where
      drop_past : (a b : List ℕ) → drop (length a) (a ++ b) ≡ b
      drop_past [] b = refl
      drop_past (x ∷ a) b = drop_past a b

  -- the text after it is valid
  refused : (bytes after : List ℕ) → bytes ≡ journal picks ++ text → (why : TextRefusal) (found : List TacPick)
      → IsSplit bytes found after → Refused after why → ⊥
  refused bytes after is why found split r =
      never_both text why (passes_of text noted.runs.what noted.runs.is_what)
      (subst (λ t. Refused t why) (text_after bytes after found is split).1 r)

  refuses_not : (bytes : List ℕ) (after : List ℕ) → bytes ≡ journal picks ++ text → (e : Ending)
      → IsUnhindered (status_of e) → NotReplayed bytes after e → ⊥
  refuses_not bytes after is NoMemory fine n = fine.2 refl
  refuses_not bytes after is (the_ending.Refused why) fine n = refused bytes after is why n.0 n.1 n.2
  refuses_not bytes after is _ fine n = n

  by_end : (bytes after : List ℕ) → bytes ≡ journal picks ++ text → (e : ReplayEnding)
      → replayed.status ≡ status_of_replay e → EndsOn bytes after e replayed.out → ReplaysCall recorded replayed
  by_end bytes after is (NoJournal line) status ends =
      absurd (read_back.not_both bytes picks (length (journal picks)) line
      (subst (λ b. IsJournal b picks (length (journal picks))) (sym is) is_journal) ends.0)
  by_end bytes after is (Replayed e) status ends =
      let at = text_after bytes after ends.0 is ends.1 in
      of_replay e status (subst (λ t. ReplaysTo picks t e replayed.out) at.1
      (subst (λ p. ReplaysTo p after e replayed.out) at.0 ends.2))
  by_end bytes after is (Other e) status ends =
      absurd (refuses_not bytes after is e (subst IsUnhindered status ok) ends.0)

  by_reading : (bytes : List ℕ) (e : ReplayEnding) → replayed.status ≡ status_of_replay e
      → replayed.source.left ≡ Some (journal picks ++ text) → length (journal picks ++ text) ≤ code_limit
      → ReadsNothing replayed bytes e → ⊥
  by_reading bytes (Other ReadFault) status left within n = ok.0 status
  by_reading bytes (Other NoMemory) status left within n = ok.2 status
  by_reading bytes (Other (CodeRefused code_refusal.TooLong)) status left within n =
      let is = left_is replayed.source.left (journal picks ++ text) bytes left n.0 in
      absurd (past bytes is n.1)
    where
      past : (b : List ℕ) → b ≡ journal picks ++ text → code_limit < length b → ⊥
      past b is more = let more2 = subst (λ x. code_limit < length x) is more in omega (arith, more2, within)
  by_reading bytes _ status left within n = n

  of_headline : (h : ReplayHeadline replayed) → replayed.source.left ≡ Some (journal picks ++ text)
      → length (journal picks ++ text) ≤ code_limit → ReplaysCall recorded replayed
  of_headline h left within = by h.cause
    where
      status : replayed.status ≡ status_of_replay h.ending
      status = replay_status h.text h.ending replayed.status replayed.err ok h.told

      by : (IsReadWhole replayed h.bytes × EndsOn h.bytes h.text h.ending replayed.out)
          ⊎ (ReadsNothing replayed h.bytes h.ending × IsUntouched replayed.out) → ReplaysCall recorded replayed
      by (inl r) =
          by_end h.bytes h.text (left_is replayed.source.left (journal picks ++ text) h.bytes left r.0.is_left) h.ending
          status r.1
      by (inr r) = absurd (by_reading h.bytes h.ending status left within r.0)

  of_claim : AsksForCommand replayed Replay → Claim replayed → replayed.source.left ≡ Some (journal picks ++ text)
      → length (journal picks ++ text) ≤ code_limit → ReplaysCall recorded replayed
  of_claim asked (inl c) left within = of_headline c.1 left within
  of_claim asked (inr (inl (given, asks, h))) left within =
      absurd (let both : Some Replay ≡ Some (Record given) = sym asked ∙ asks in cc)
  of_claim asked (inr (inr c)) left within = absurd (c.0 asked)

-- ---- the journal

leaves : (options : RunOptions) (recorded : Call) (text said : List ℕ)
    → (r : RecordsRun options text recorded.status recorded.out recorded.err said) → (IsOfNoRun recorded.status → ⊥)
    → LeavesJournal recorded text
leaves options recorded text said r of_run = by r.says
  where
    told : (recorded.status ≡ status_of r.ending) × SinkGrew (rest said recorded.err) (line_of text r.ending)
    told = run_told text r.ending recorded.status (rest said recorded.err) of_run r.reports

    by : ReportsJournal r.picks r.ending recorded.status recorded.err said → LeavesJournal recorded text
    by (whole is) = record {
      picks = r.picks;
      line = line_of text r.ending;
      wrote = subst (λ b. SinkGrew recorded.err (b ++ line_of text r.ending)) is
          (grown recorded.err.old recorded.err.new said (line_of text r.ending) told.1);
      replays = λ replayed asked claim left within ok.
          of_claim options recorded replayed text r.ending r.picks r.noted of_run told.0 ok asked claim left within;
    }
    by (nothing cut is) = absurd (of_run (subst IsOfNoRun (sym told.0) (cut_is_of_no_run r.ending cut)))
    by (part ten failed n is) = absurd (of_run (inr (inr (inl ten))))

pub recorded_is_replayed : RecordedIsReplayed
recorded_is_replayed options recorded text asked claim left of_run = by claim
  where
    by_recorded : (given : RunOptions) (h : RecordHeadline given recorded) → LeavesJournal recorded text
    by_recorded given h = of h.recorded
      where
        of : RecordedText given recorded h.said ⊎ (IsOfNoRun recorded.status × (h.said ≡ [])) → LeavesJournal recorded text
        of (inl r) = subst (λ t. LeavesJournal recorded t) (left_is recorded.source.left text r.text left r.is_text)
            (leaves given recorded r.text h.said r.records of_run)
        of (inr n) = absurd (of_run n.0)

    by : Claim recorded → LeavesJournal recorded text
    by (inl c) = absurd (let both : Some (Record options) ≡ Some Replay = sym asked ∙ c.0 in cc)
    by (inr (inl (given, asks, h))) = by_recorded given h
    by (inr (inr c)) = absurd (c.1 options asked)
