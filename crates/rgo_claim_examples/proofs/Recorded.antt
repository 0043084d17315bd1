-- The examples of calls of `record`.
use Rattle.std.proofs.Common.{◌≡◌, ◌⊎◌, inl, inr, ℕ, Bool, true, false, List, [], ◌∷◌, ◌++◌, drop, length, Option, Some, None, refl, sym}
use Rattle.std.proofs.Common.{ap, ◌∙◌, subst, append-nil, true≢false}
use Rattle.std.specs.Prelude.{◌^◌, codes, option_and_then}
use Rattle.std.specs.Fmt.{digits}
use Rattle.std.proofs.lemmas.Bool.{leb-true, ltb-true}
use Rattle.std.proofs.lemmas.List.Elements.{All-replicate}
use Rattle.rgo_machine.specs.declared.picks.End.{End}
use Rattle.rgo_machine.specs.declared.picks.End.TheVariants.{Exit, Trap}
use Rattle.rgo_machine.specs.declared.picks.Pick.{Pick}
use Rattle.rgo_machine.specs.declared.picks.Pick.TheVariants as machine
use Rattle.rgo_machine.specs.declared.limits.Shortage.TheVariants as shortage
use Rattle.rgo_tac.specs.Tac.{TacState, tac, tac_start}
use Rattle.rgo_code.specs.Code.{Code}
use Rattle.rgo_code.specs.Erasure.{erased}
use Rattle.rgo_lower.specs.Lowered.{IsLowered}
use Rattle.rgo_lower.proofs.Determined.{lowering_is_determined}
use Rattle.rgo_machine.specs.Ends.{RunEndsAs, RunsFreely}
use Rattle.rgo_machine.specs.declared.ends.RunEnd.{RunEnd}
use Rattle.rgo_machine.specs.declared.ends.RunEnd.TheVariants as run_end
use Rattle.rgo_command_line.specs.Commands.{command_of}
use Rattle.rgo_command_line.specs.Limits.{default_options}
use Rattle.rgo_command_line.specs.declared.commands.Command.TheVariants.{Record}
use Rattle.rgo_journal.specs.declared.picks.TacPick.{TacPick}
use Rattle.rgo_journal.specs.declared.picks.TacPick.TheVariants.{One}
use Rattle.rgo_journal.specs.Replays.{TakesPicks}
use Rattle.rgo_journal.specs.Text.{PickFits, IsJournal, journal}
use Rattle.rgo_journal.proofs.OneJournal.{read_back}
use Rattle.rgo_run.specs.Endings.{line_of, status_of, status_of_run}
use Rattle.rgo_run.specs.Recorded.{IsOfNoRun, Noted, RecordHeadline, RecordedText, RecordsText, ReportsJournal, nothing, part, rest, whole}
use Rattle.rgo_run.specs.Runs.{IsCodeFor, IsRunnable, Runnable, of_code, of_program}
use Rattle.rgo_run.specs.Texts.{IsTextRead}
use Rattle.rgo_run.specs.Verdicts.{IsTypedProgram}
use Rattle.rgo_run.specs.declared.endings.Ending.TheVariants.{Ran}
use Rattle.rgo_run.specs.declared.endings.TextKind.TheVariants as text_kind
use Rattle.rgo_run.proofs.RecordLemmas.{headline_of_records}
use Rattle.rgo_run.proofs.RecordedReplays.{cut_is_of_no_run, recorded_is_replayed, run_told}
use Rattle.rgo_run.proofs.TextLemmas.{followed_if}
use Rattle.rgo_run.proofs.VerdictLemmas.{one_program}
use Rattle.rgo_claim_examples.specs.Programs.{one_object}
use Rattle.rgo_claim_examples.specs.Recorded.{RecordExamples, left_by, picks}
use Rattle.rgo_claim_examples.specs.RegionRuns.{code}
use Rattle.rgo_claim_examples.specs.Texts.{object_text}
use Rattle.rgo_claim_examples.proofs.Codes.{one_object_code}
use Rattle.rgo_claim_examples.proofs.Compiled.{compiled}
use Rattle.rgo_claim_examples.proofs.Lowered.{one_object_lowered}
use Rattle.rgo_claim_examples.proofs.ProgramTexts.{object_is_program}
use Rattle.rgo_claim_examples.proofs.RegionRuns.{exits, last}

-- ---- the run

abbrev state : TacState
state = record last.plain { ended = Some Exit }

abbrev taken : List Pick
taken = machine.One 0 ∷ machine.One 0 ∷ machine.One 0 ∷ machine.One 0 ∷ machine.One 0 ∷ []

printed : state.printed ≡ codes "0\n"
unfolding digits
printed = refl

abbrev runs : RunsFreely (tac (erased code)) default_options.limits (tac_start (erased code)) (run_end.Ended Exit)
    (Some []) (Some (codes "0\n"))
runs = record {
  picks = taken;
  tested = 0;
  state = state;
  ran = refl;
  early = leb-true 0 5 refl;
  ends = refl;
  gives = sym printed;
}

noted : (words : List (List ℕ)) (err : List ℕ)
    → Noted default_options object_text (Ran text_kind.Go (run_end.Ended Exit) None) (left_by words err).out picks
noted words err = record {
  runs = record {
    what = of_program one_object;
    is_what = (refl, object_is_program);
    run_end = run_end.Ended Exit;
    stats = None;
    is_end = refl;
    runs = record {
      code = code;
      is_code = compiled;
      runs = runs;
      source =
          followed_if (of_program one_object) code default_options.limits 0 taken (run_end.Ended Exit) state compiled refl refl;
      regions = exits;
    };
    said = tt;
    failed = λ is. cc;
    held = λ no_fault. refl;
  };
  takes = refl;
  fit = All-replicate PickFits 5 (One 0) (ltb-true 0 (2 ^ 32) refl);
  goes_on = λ why is dead. cc;
}

module _ (words : List (List ℕ)) (asked : command_of words ≡ Some (Record default_options)) where
  read : IsTextRead words (left_by words []).source (Record default_options) object_text
  read = record {
    asked = asked;
    is_text = refl;
    within = leb-true (length object_text) 1048576 refl;
    held = refl;
  }

  records : RecordsText default_options object_text 0 (left_by words (journal picks)).out (left_by words (journal picks)).err
  records = (
    journal picks,
    inl (record {
      ending = Ran text_kind.Go (run_end.Ended Exit) None;
      picks = picks;
      noted = noted words (journal picks);
      says = whole refl;
      reports = inl (inl (refl, sym (append-nil (journal picks)), refl));
    }),
  )

  recorded : RecordHeadline default_options (left_by words (journal picks))
  recorded = headline_of_records (left_by words (journal picks)) default_options object_text read records

-- ---- calls that violate the claim

not_zero : IsOfNoRun 0 → ⊥
not_zero (inl e) = cc
not_zero (inr (inl e)) = cc
not_zero (inr (inr (inl e))) = cc
not_zero (inr (inr (inr e))) = cc

-- a run with status 0 has exited
exited : (end : RunEnd) → status_of_run end ≡ 0 → end ≡ run_end.Ended Exit
exited (run_end.Ended Exit) s = refl
exited (run_end.Ended (Trap trap at)) s = absurd (let wrong = s in cc)
exited run_end.Deadlock s = absurd (let wrong = s in cc)
exited (run_end.NoRoom shortage.Pages) s = absurd (let wrong = s in cc)
exited (run_end.NoRoom shortage.Regions) s = absurd (let wrong = s in cc)
exited (run_end.NoRoom shortage.ObjectSize) s = absurd (let wrong = s in cc)
exited run_end.CallsTooDeep s = absurd (let wrong = s in cc)
exited run_end.StepsSpent s = absurd (let wrong = s in cc)
exited run_end.GoroutinesSpent s = absurd (let wrong = s in cc)
exited run_end.WriteFault s = absurd (let wrong = s in cc)
exited run_end.NoMemory s = absurd (let wrong = s in cc)

-- `err` took the whole journal, and then some line
record Tells (words : List (List ℕ)) (err : List ℕ) (h : RecordHeadline default_options (left_by words err)) : Type 0 where
  text : RecordedText default_options (left_by words err) h.said
  status : status_of text.records.ending ≡ 0
  bytes : err ≡ journal text.records.picks ++ line_of text.text text.records.ending

told : (words : List (List ℕ)) (err : List ℕ) (h : RecordHeadline default_options (left_by words err)) → Tells words err h
told words err h = by h.recorded
  where
    of : (r : RecordedText default_options (left_by words err) h.said)
        → ReportsJournal r.records.picks r.records.ending 0 (left_by words err).err h.said → Tells words err h
    of r (whole is) =
        let t = run_told r.text r.records.ending 0 (rest h.said (left_by words err).err) not_zero r.records.reports in
        record {
          text = r;
          status = sym t.0;
          bytes = t.1 ∙ ap (λ b. b ++ line_of r.text r.records.ending) is;
        }
    of r (nothing cut is) =
        let t = run_told r.text r.records.ending 0 (rest h.said (left_by words err).err) not_zero r.records.reports in
        absurd (not_zero (subst IsOfNoRun (sym t.0) (cut_is_of_no_run r.records.ending cut)))
    of r (part ten failed n is) = absurd (let wrong = ten in cc)

    by : RecordedText default_options (left_by words err) h.said ⊎ (IsOfNoRun 0 × (h.said ≡ [])) → Tells words err h
    by (inl r) = of r r.records.says
    by (inr none) = absurd (not_zero none.0)

abbrev is_empty : List ℕ → Bool
is_empty [] = true
is_empty (b ∷ bytes) = false

no_journal : (found : List TacPick) (line : List ℕ) → [] ≡ journal found ++ line → ⊥
no_journal found line e = true≢false (ap is_empty e)

-- ---- a pick is lost

abbrev fewer : List TacPick
fewer = drop 1 picks

fewer_fit : PickFits (One 0)
fewer_fit = ltb-true 0 (2 ^ 32) refl

-- bytes that begin with one journal begin with no other, so a journal with a lost pick is the journal of another run
same_picks : (found : List TacPick) (line : List ℕ) → IsJournal (journal found ++ line) found (length (journal found))
    → journal fewer ≡ journal found ++ line → found ≡ fewer
same_picks found line is e =
    (read_back.one (journal found ++ line) found fewer (length (journal found)) (length (journal fewer)) is
    (subst (λ b. IsJournal b fewer (length (journal fewer))) (append-nil (journal fewer) ∙ e)
    (read_back.is fewer [] (All-replicate PickFits 4 (One 0) fewer_fit)))).0

code_of_text : (text : List ℕ) (what : Runnable) (other : Code) → text ≡ object_text → IsRunnable text_kind.Go text what
    → IsCodeFor what other → erased other ≡ one_object_code
code_of_text text (of_program program) other same is compiled_to =
    let one = one_program object_text program one_object (subst (λ t. IsTypedProgram t program) same is.1) object_is_program in
    lowering_is_determined one_object one_object_code (erased other) one_object_lowered
    (subst (λ p. IsLowered p (erased other)) one compiled_to.lowered)
code_of_text text (of_code given) other same is compiled_to = absurd (let wrong = is.0 in cc)

abbrev end_after : Option TacState → Option End
end_after o = option_and_then (λ (s : TacState). s.ended) o

-- four picks do not lead to the exit
not_yet : (s : TacState) → TakesPicks one_object_code fewer s → s.ended ≡ Some Exit → ⊥
not_yet s takes ended = let both : None ≡ Some Exit = ap end_after takes ∙ ended in cc

lost : (words : List (List ℕ)) → RecordHeadline default_options (left_by words (journal fewer)) → ⊥
lost words h =
    let t = told words (journal fewer) h in
    let r = t.text.records in
    let run = r.noted.runs in
    let found = same_picks r.picks (line_of t.text.text r.ending)
    (read_back.is r.picks (line_of t.text.text r.ending) r.noted.fit) t.bytes in
    let plain = code_of_text t.text.text run.what run.runs.code t.text.is_text run.is_what run.runs.is_code in
    let end = exited run.run_end (sym (ap status_of run.is_end) ∙ t.status) in
    not_yet run.runs.runs.state
    (subst (λ c. TakesPicks c fewer run.runs.runs.state) plain
    (subst (λ l. TakesPicks (erased run.runs.code) l run.runs.runs.state) found r.noted.takes))
    (subst (λ e. RunEndsAs (tac (erased run.runs.code)) default_options.limits run.runs.runs.tested
    (length run.runs.runs.picks) run.runs.runs.state e) end run.runs.runs.ends)

pub record_examples : RecordExamples
record_examples words asked = record {
  recorded = recorded words asked;
  leaves =
      recorded_is_replayed default_options (left_by words (journal picks)) object_text asked
      (inr (inl (default_options, asked, recorded words asked))) refl not_zero;
  silent = λ h. let t = told words [] h in no_journal t.text.records.picks _ t.bytes;
  leaves_none = λ l. no_journal l.picks l.line l.wrote;
  lost = lost words;
}
