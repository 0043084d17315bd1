-- The headline, from what the parts of a call leave: the text that was read and checked or run, and the report of the ending. The hard
-- case is a report whose lines found no memory. What is reported then is another ending, for which every claim must hold as well, also
-- that on a run which has already printed (`no_line_run`).
use Rattle.std.proofs.Common.{◌≡◌, Bool, true, false, ℕ, ◌⊎◌, inl, inr, List, [], Option, None, Some, IfSome, option_and_then, refl, sym, ap, subst}
use Rattle.std.specs.Io.KnownBytes.{Appends}
use Rattle.rgo_machine.specs.declared.limits.Limits.{Limits}
use Rattle.rgo_tac.specs.Tac.{TacState}
use Rattle.rgo_region_machine.specs.Counts.{Counts, counts_of}
use Rattle.rgo_region_machine.specs.declared.tallies.Tally.{Tally}
use Rattle.rgo_machine.specs.Ends.{RunPrints}
use Rattle.rgo_machine.specs.declared.ends.RunEnd.{RunEnd}
use Rattle.rgo_machine.specs.declared.ends.RunEnd.TheVariants as run_end
use Rattle.rgo_command_line.specs.declared.commands.Command.{Command}
use Rattle.rgo_command_line.specs.declared.commands.Command.TheVariants.{Run, Check, Emit, Code, Big, Record, Replay, RunCode}
use Rattle.rgo_command_line.specs.declared.limits.RunOptions.{RunOptions}
use Rattle.rgo_command_line.specs.Commands.{command_of}
use Rattle.rgo_command_line.specs.Limits.{default_options}
use Rattle.rgo_big.specs.Big.{big_text}
use Rattle.rgo_run.specs.declared.endings.TextKind.{TextKind}
use Rattle.rgo_run.specs.declared.endings.TextKind.TheVariants as text_kind
use Rattle.rgo_run.specs.declared.endings.Ending.{Ending}
use Rattle.rgo_run.specs.declared.endings.Ending.TheVariants.{Valid, Ran, Usage, ReadFault, Refused, CodeRefused, WriteFault, NoMemory}
use Rattle.rgo_run.specs.declared.refusals.CodeTextRefusal.TheVariants as code_refusal
use Rattle.rgo_run.specs.declared.refusals.TextRefusal.TheVariants as refusal
use Rattle.rgo_run.specs.Calls.{AsksRun, Call, AsksForCommand, IsRunCall, SinkUse, SourceFailed, SourceHadNoFault, IsUntouched, text_kind_of, run_of_command}
use Rattle.rgo_run.specs.Endings.{status_of, is_run_status, is_fault_status}
use Rattle.rgo_run.specs.Reports.{ReportsEnding, LineHasNumber, Reports, in_short}
use Rattle.rgo_run.specs.Runs.{HasSourceRun, IsOneRun, IsSaid, Runnable, TextRunsTo, of_code, of_program}
use Rattle.rgo_run.specs.Texts.{AcceptedBy, IsTextOf, IsTextRead, AskSome, NotRead, PassesAs, ReadTooMuch, ChecksText, FailsAs, PerformsCommand}
use Rattle.rgo_run.specs.Headline.{EndsEmit, EndsRun, Headline, IsWriteFault}
use Rattle.rgo_run.proofs.EndingLemmas.{refused_status, run_of_status, short_of_refusal}
use Rattle.rgo_run.proofs.ClaimLemmas.{OnlyChecks, Outcome, accepted, ran, emitted, refused, no_memory, Went}
use Rattle.rgo_run.proofs.ClaimLemmas.{complete_checking, complete_emit, complete_run, emission, err_held, faults, first}
use Rattle.rgo_run.proofs.ClaimLemmas.{is_refused, no_write_fault, not_read_fault, print, ran_asks, status_10, status_9}
use Rattle.rgo_run.proofs.ClaimLemmas.{emit_ends, unknown, untouched, usage, valid, write_failed}

-- ---- calls that read their text, or had no memory for that

headline_told : (call : Call) (text : List ℕ) (e : Ending) → Went call text e → ReportsEnding text e call.status call.err → Headline call
headline_told call text e went t = record {
  text = text;
  is_text = went.is_text;
  ending = e;
  refusal = record {
    usage = usage call text e went.outcome;
    unknown = unknown call e went.asks;
    refused = is_refused call text e went.outcome;
    passes = valid call text e went.outcome;
    first = λ command c n. first call text e went.outcome command c;
    untouched = untouched call text e went.outcome;
  };
  print = print call text e went.outcome;
  emission = emission call text e went.outcome;
  end = record {
    read_failed = λ x. absurd (not_read_fault call text e went.outcome x);
    write_failed = write_failed call text e went.outcome;
    ran = ran_asks call text e went.outcome;
    told = t;
  };
  faults = faults call text e went t;
  complete = record {
    run = λ kind options c s o n. complete_run call text e went.outcome t kind options c o n;
    check = λ c s n. complete_checking call text e went.outcome t Check c tt n;
    emit = λ c s o n. complete_emit call text e went.outcome t c o n;
    code = λ c s n. complete_checking call text e went.outcome t Code c tt n;
  };
}

-- if no write failed, the whole print was written
pub whole_print : (end : RunEnd) (print : List ℕ) (old new : Option (List ℕ)) → (end ≡ run_end.WriteFault → ⊥)
    → RunPrints end print old new → Appends old new print
whole_print run_end.WriteFault print old new n g = absurd (n refl)
whole_print (run_end.Ended end) print old new n g = g
whole_print run_end.Deadlock print old new n g = g
whole_print (run_end.NoRoom why) print old new n g = g
whole_print run_end.CallsTooDeep print old new n g = g
whole_print run_end.StepsSpent print old new n g = g
whole_print run_end.GoroutinesSpent print old new n g = g
whole_print run_end.NoMemory print old new n g = g

pub no_line_source : (what : Runnable) (limits : Limits) (end : RunEnd) (t : TacState) → HasSourceRun what limits end t
    → HasSourceRun what limits run_end.NoMemory t
no_line_source (of_program program) limits end t s = record {
  picks = s.picks;
  state = s.state;
  leads = s.leads;
  printed = s.printed;
  ended = s.ended;
  deadlock = λ x. cc;
}
no_line_source (of_code code) limits end t s = s

-- if memory ran out, or a write failed, the counts of a run may be missing
pub nothing_said : (asked : Bool) (made : Counts) → IsSaid asked run_end.NoMemory made None × IsSaid asked run_end.WriteFault made None
nothing_said true made = (tt, tt)
nothing_said false made = (tt, tt)

-- a run whose lines found no memory counts as one that ran out of memory
abbrev pub no_line_run : (kind : TextKind) (options : RunOptions) (text : List ℕ) (out : SinkUse) (e : Ending)
    (r : TextRunsTo kind options text e out) → (r.run_end ≡ run_end.WriteFault → ⊥)
    → TextRunsTo kind options text (Ran kind run_end.NoMemory None) out
no_line_run kind options text out e r no_fault = record {
  what = r.what;
  is_what = r.is_what;
  run_end = run_end.NoMemory;
  stats = None;
  is_end = refl;
  runs = record {
    code = r.runs.code;
    is_code = r.runs.is_code;
    runs = record {
      picks = r.runs.runs.picks;
      tested = r.runs.runs.tested;
      state = r.runs.runs.state;
      ran = r.runs.runs.ran;
      early = r.runs.runs.early;
      ends = tt;
      gives = whole_print r.run_end r.runs.runs.state.printed out.old out.new no_fault r.runs.runs.gives;
    };
    source = no_line_source r.what options.limits r.run_end r.runs.runs.state r.runs.source;
    regions = record {
      events = r.runs.regions.events;
      late = r.runs.regions.late;
      state = r.runs.regions.state;
      last = r.runs.regions.last;
      run = r.runs.regions.run;
      more = r.runs.regions.more;
      is = r.runs.regions.is;
      printed = r.runs.regions.printed;
      safe = r.runs.regions.safe;
      within = r.runs.regions.within;
      lacks = λ why x. cc;
    };
  };
  said = (nothing_said options.stats (counts_of r.runs.regions.last)).0;
  failed = λ x. cc;
  held = λ _. r.held no_fault;
}

-- a run in which a write failed, without its counts
abbrev unsaid_run : (kind : TextKind) (options : RunOptions) (text : List ℕ) (out : SinkUse) (e : Ending)
    (r : TextRunsTo kind options text e out) → r.run_end ≡ run_end.WriteFault
    → TextRunsTo kind options text (Ran kind run_end.WriteFault None) out
unsaid_run kind options text out e r fault = record {
  what = r.what;
  is_what = r.is_what;
  run_end = r.run_end;
  stats = None;
  is_end = ap (λ end. Ran kind end None) (sym fault);
  runs = r.runs;
  said = subst (λ end. IsSaid options.stats end (counts_of r.runs.regions.last) None) (sym fault)
      (nothing_said options.stats (counts_of r.runs.regions.last)).1;
  failed = r.failed;
  held = r.held;
}

-- an ending of `emit` has no line with numbers, so its report needs no memory
no_place : (e : Ending) → EndsEmit e → LineHasNumber e → ⊥
no_place Valid ends h = h
no_place WriteFault ends h = h
no_place _ ends h = ends

-- words that ask for a run name a command
run_asks : (call : Call) (kind : TextKind) (options : RunOptions) → IsRunCall call kind options → AskSome call.words
run_asks call kind options r = by_command (command_of call.words) refl r
  where
    by_command : (asked : Option Command) → command_of call.words ≡ asked
        → option_and_then run_of_command asked ≡ Some (kind, options) → AskSome call.words
    by_command (Some command) is r = (command, is)
    by_command None is r = cc

-- the lines of a run found no memory
module _ (call : Call) (text : List ℕ) (e : Ending) (went : Went call text e) (kind : TextKind) (options : RunOptions)
    (c : IsRunCall call kind options) (r : TextRunsTo kind options text e call.out)
    (one : (AsksForCommand call (Record options) → ⊥) → IsOneRun r.runs) where
  is_one_still : (no_fault : r.run_end ≡ run_end.WriteFault → ⊥) → (AsksForCommand call (Record options) → ⊥)
      → IsOneRun (no_line_run kind options text call.out e r no_fault).runs
  is_one_still no_fault unrecorded = record { same = (one unrecorded).same; spent = λ x. cc }

  without_memory : (r.run_end ≡ run_end.WriteFault → ⊥) → ReportsEnding text NoMemory call.status call.err → Headline call
  without_memory no_fault t =
      headline_told call text (Ran kind run_end.NoMemory None) (record {
        is_text = went.is_text;
        held = went.held;
        asks = inl (run_asks call kind options c);
        outcome = ran kind options c (no_line_run kind options text call.out e r no_fault) (is_one_still no_fault);
      }) t

  no_line_of_run : (end : RunEnd) → r.run_end ≡ end → ReportsEnding text (in_short (Ran kind end r.stats)) call.status call.err → Headline call
  no_line_of_run run_end.WriteFault is t =
      headline_told call text (Ran kind run_end.WriteFault None) (record {
        is_text = went.is_text;
        held = went.held;
        asks = inl (run_asks call kind options c);
        outcome = ran kind options c (unsaid_run kind options text call.out e r is) one;
      }) t
  no_line_of_run (run_end.Ended end) is t = without_memory (λ x. cc) t
  no_line_of_run run_end.Deadlock is t = without_memory (λ x. cc) t
  no_line_of_run (run_end.NoRoom why) is t = without_memory (λ x. cc) t
  no_line_of_run run_end.CallsTooDeep is t = without_memory (λ x. cc) t
  no_line_of_run run_end.StepsSpent is t = without_memory (λ x. cc) t
  no_line_of_run run_end.GoroutinesSpent is t = without_memory (λ x. cc) t
  no_line_of_run run_end.NoMemory is t = without_memory (λ x. cc) t

-- a refusal whose line found no memory
no_line_of_refusal : (call : Call) (text : List ℕ) (e : Ending) → Went call text e → status_of e ≡ 1 → IsUntouched call.out
    → ReportsEnding text (in_short e) call.status call.err → Headline call
no_line_of_refusal call text e went refusal o t =
    headline_told call text NoMemory (record {
      is_text = went.is_text;
      held = went.held;
      asks = inr refl;
      outcome = no_memory refl o;
    }) (subst (λ x. ReportsEnding text x call.status call.err) (short_of_refusal e refusal) t)

no_line : (call : Call) (text : List ℕ) (e : Ending) → Went call text e → Outcome call text e → LineHasNumber e
    → ReportsEnding text (in_short e) call.status call.err → Headline call
no_line call text e went (accepted is command c k p o) h t = absurd (subst LineHasNumber is h)
no_line call text e went (ran kind options c r one) h t =
    no_line_of_run call text e went kind options c r one r.run_end refl
    (subst (λ x. ReportsEnding text (in_short x) call.status call.err) r.is_end t)
no_line call text e went (emitted c em) h t = absurd (no_place e (emit_ends call text e em) h)
no_line call text e went (refused command c f o) h t = no_line_of_refusal call text e went (refused_status (text_kind_of command) text e f) o t
no_line call text e went (no_memory is o) h t = absurd (subst LineHasNumber is h)

pub headline_of : (call : Call) (text : List ℕ) (e : Ending) → Went call text e → Reports text e call.status call.err → Headline call
headline_of call text e went (inl t) = headline_told call text e went t
headline_of call text e went (inr t) = no_line call text e went went.outcome t.0 t.1

-- a text that was not accepted, for a refusal or for lack of memory
failed_outcome : (call : Call) (command : Command) (text : List ℕ) (e : Ending) → AsksForCommand call command
    → FailsAs (text_kind_of command) text e → IsUntouched call.out → Outcome call text e
failed_outcome call command text NoMemory c f u = no_memory refl u
failed_outcome call command text e c f u = refused command c f u

checked_outcome : (call : Call) (command : Command) (text : List ℕ) (e : Ending) → AsksForCommand call command
    → OnlyChecks command → (PassesAs (text_kind_of command) text → AcceptedBy command text)
    → ChecksText (text_kind_of command) text e → IsUntouched call.out → Outcome call text e
checked_outcome call command text Valid c only by p u = accepted refl command c only (by p) u
checked_outcome call command text e c only by p u = failed_outcome call command text e c p u

performed_outcome : (call : Call) (command : Command) (text : List ℕ) (e : Ending) → AsksForCommand call command
    → PerformsCommand command text e call.out → Outcome call text e
performed_outcome call Check text e c p = checked_outcome call Check text e c tt (λ passes. passes) p.0 p.1
performed_outcome call Code text e c p = checked_outcome call Code text e c tt (λ passes. passes) p.0 p.1
performed_outcome call (Run options) text e c (inl r) = ran text_kind.Go options (ap (option_and_then run_of_command) c) r.0 (λ _. r.1)
performed_outcome call (Run options) text e c (inr f) = failed_outcome call (Run options) text e c f.0 f.1
performed_outcome call (RunCode options) text e c (inl r) =
    ran text_kind.Code options (ap (option_and_then run_of_command) c) r.0 (λ _. r.1)
performed_outcome call (RunCode options) text e c (inr f) = failed_outcome call (RunCode options) text e c f.0 f.1
performed_outcome call (Big n) text e c (inl r) = ran text_kind.Go default_options (ap (option_and_then run_of_command) c) r.0 (λ _. r.1)
performed_outcome call (Big n) text e c (inr f) = failed_outcome call (Big n) text e c f.0 f.1
performed_outcome call Replay text e c p = absurd p
performed_outcome call (Record options) text e c p = absurd p
performed_outcome call Emit text e c (inl em) = emitted c em
performed_outcome call Emit text e c (inr f) = failed_outcome call Emit text e c f.0 f.1

-- a call whose text was read
pub headline_of_text : (call : Call) (command : Command) (text : List ℕ) (e : Ending)
    → IsTextRead call.words call.source command text → PerformsCommand command text e call.out
    → Reports text e call.status call.err → Headline call
headline_of_text call command text e read performs reports =
    headline_of call text e (record {
      is_text = subst (λ o. IsTextOf o call.source.left text) (sym read.asked) read.is_text;
      held = read.held;
      asks = inl (command, read.asked);
      outcome = performed_outcome call command text e read.asked performs;
    }) reports

-- a call that has run a program with these options, and recorded it
pub headline_of_recorded : (call : Call) (options : RunOptions) (text : List ℕ) (e : Ending)
    → IsTextRead call.words call.source (Record options) text → TextRunsTo text_kind.Go options text e call.out
    → Reports text e call.status call.err → Headline call
headline_of_recorded call options text e read runs reports =
    headline_of call text e (record {
      is_text = subst (λ o. IsTextOf o call.source.left text) (sym read.asked) read.is_text;
      held = read.held;
      asks = inl (Record options, read.asked);
      outcome = ran text_kind.Go options (ap (option_and_then run_of_command) read.asked) runs (λ unrecorded. absurd (unrecorded read.asked));
    }) reports

-- a call of `record` without a run, since the text was rejected or memory ran out
pub headline_of_unrecorded : (call : Call) (options : RunOptions) (text : List ℕ) (e : Ending)
    → IsTextRead call.words call.source (Record options) text → FailsAs text_kind.Go text e → IsUntouched call.out
    → Reports text e call.status call.err → Headline call
headline_of_unrecorded call options text e read fails untouched reports =
    headline_of call text e (record {
      is_text = subst (λ o. IsTextOf o call.source.left text) (sym read.asked) read.is_text;
      held = read.held;
      asks = inl (Record options, read.asked);
      outcome = failed_outcome call (Record options) text e read.asked fails untouched;
    }) reports

-- ---- other calls

-- the large text if it is asked for, and otherwise a text that agrees with what the source reports; the headline names a text even if
-- none was read
abbrev left_text : Option (List ℕ) → List ℕ
left_text None = []
left_text (Some text) = text

abbrev some_text : Option Command → Option (List ℕ) → List ℕ
some_text (Some (Big n)) left = big_text n
some_text _ left = left_text left

is_left_text : (left : Option (List ℕ)) → IfSome left (λ bytes. left_text left ≡ bytes)
is_left_text None = tt
is_left_text (Some text) = refl

is_some_text : (asked : Option Command) (left : Option (List ℕ)) → IsTextOf asked left (some_text asked left)
is_some_text None left = is_left_text left
is_some_text (Some (Run options)) left = is_left_text left
is_some_text (Some Check) left = is_left_text left
is_some_text (Some Emit) left = is_left_text left
is_some_text (Some Code) left = is_left_text left
is_some_text (Some Replay) left = is_left_text left
is_some_text (Some (Record options)) left = is_left_text left
is_some_text (Some (RunCode options)) left = is_left_text left
is_some_text (Some (Big n)) left = refl

-- an ending that has nothing to do with a text
pub record IsOutside (e : Ending) : Type 0 where
  pub not_refused : status_of e ≡ 1 → ⊥
  pub not_valid : e ≡ Valid → ⊥
  pub no_run : EndsRun e → ⊥
  pub no_emit : EndsEmit e → ⊥
  pub no_write_fault : IsWriteFault e → ⊥
  pub not_ran : (kind : TextKind) (end : RunEnd) (stats : Option Tally) → e ≡ Ran kind end stats → ⊥

-- a call that did not read its text: its words name no command, or a read failed
headline_outside : (call : Call) (e : Ending) → IsOutside e → IsUntouched call.out → ReportsEnding (some_text (command_of call.words) call.source.left) e call.status call.err
    → (e ≡ Usage → command_of call.words ≡ None)
    → (command_of call.words ≡ None → (e ≡ Usage) ⊎ (e ≡ NoMemory))
    → (e ≡ ReadFault → SourceFailed call.source)
    → (is_fault_status (status_of e) ≡ false → SourceHadNoFault call.source)
    → ((command : Command) → AsksForCommand call command → (SourceFailed call.source → ⊥) → ⊥)
    → Headline call
headline_outside call e outside u t of_usage to_usage of_fault kept only = record {
  text = some_text (command_of call.words) call.source.left;
  is_text = is_some_text (command_of call.words) call.source.left;
  ending = e;
  refusal = record {
    usage = of_usage;
    unknown = to_usage;
    refused = λ s. absurd (outside.not_refused s);
    passes = λ x. absurd (outside.not_valid x);
    first = λ command c n. absurd (only command c n);
    untouched = λ _ _. u;
  };
  print = λ kind options c m. absurd (outside.no_run m);
  emission = λ c m. absurd (outside.no_emit m);
  end = record {
    read_failed = of_fault;
    write_failed = λ x. absurd (outside.no_write_fault x);
    ran = λ kind end stats x. absurd (outside.not_ran kind end stats x);
    told = t;
  };
  faults = record {
    read = λ s. of_fault (status_9 call _ e t s);
    write = λ s. elim (status_10 call _ e t s) [ inl w ↦ absurd (outside.no_write_fault w) | inr f ↦ inr f ];
    none = λ s. let h = err_held call _ e t s in (kept (subst (λ n. is_fault_status n ≡ false) h.1 s), u.1, h.0);
  };
  complete = record {
    run = λ kind options c s o n. let some = run_asks call kind options c in absurd (only some.0 some.1 s);
    check = λ c s n. absurd (only Check c s);
    emit = λ c s o n. absurd (only Emit c s);
    code = λ c s n. absurd (only Code c s);
  };
}

usage_outside : IsOutside Usage
usage_outside = record {
  not_refused = λ s. cc;
  not_valid = λ x. cc;
  no_run = λ m. m;
  no_emit = λ m. m;
  no_write_fault = no_write_fault Usage (λ kind stats x. cc) (λ x. cc);
  not_ran = λ kind end stats x. cc;
}

fault_outside : IsOutside ReadFault
fault_outside = record {
  not_refused = λ s. cc;
  not_valid = λ x. cc;
  no_run = λ m. m;
  no_emit = λ m. m;
  no_write_fault = no_write_fault ReadFault (λ kind stats x. cc) (λ x. cc);
  not_ran = λ kind end stats x. cc;
}

none_asked : (call : Call) → command_of call.words ≡ None → (command : Command) → AsksForCommand call command → ⊥
none_asked call n command c = cc

some_asked : (call : Call) → AskSome call.words → command_of call.words ≡ None → ⊥
some_asked call some n = let c = some.1 in cc

-- a source that had too many bytes left
too_much : (call : Call) (e : Ending) → (n : ReadTooMuch call.words call.source e) → IsUntouched call.out
    → Went call n.text e
too_much call e n u = record {
  is_text = subst (λ o. IsTextOf o call.source.left n.text) (sym n.asked) n.is_text;
  held = n.held;
  asks = inl (n.command, n.asked);
  outcome = refused n.command n.asked n.refused u;
}

pub headline_of_words : (call : Call) (e : Ending) → NotRead call.words call.source e → IsUntouched call.out
    → Reports [] e call.status call.err → Headline call
headline_of_words call Usage n u (inl t) =
    headline_outside call Usage usage_outside u t (λ _. n.0) (λ _. inl refl) (λ x. cc) (λ _. n.1)
    (λ command c _. none_asked call n.0 command c)
headline_of_words call ReadFault n u (inl t) =
    headline_outside call ReadFault fault_outside u t (λ x. cc) (λ none. absurd (some_asked call n.0 none)) (λ _. n.1)
    (λ s. cc) (λ command c no. no n.1)
headline_of_words call (Refused refusal.TooLong) n u (inl t) =
    headline_told call n.text (Refused refusal.TooLong) (too_much call (Refused refusal.TooLong) n u) t
headline_of_words call (CodeRefused code_refusal.TooLong) n u (inl t) =
    headline_told call n.text (CodeRefused code_refusal.TooLong) (too_much call (CodeRefused code_refusal.TooLong) n u) t
headline_of_words call NoMemory n u (inl t) =
    headline_told call (some_text (command_of call.words) call.source.left) NoMemory (record {
      is_text = is_some_text (command_of call.words) call.source.left;
      held = n;
      asks = inr refl;
      outcome = no_memory refl u;
    }) t
headline_of_words call Usage n u (inr t) = absurd t.0
headline_of_words call ReadFault n u (inr t) = absurd t.0
headline_of_words call (Refused refusal.TooLong) n u (inr t) = absurd t.0
headline_of_words call (CodeRefused code_refusal.TooLong) n u (inr t) = absurd t.0
headline_of_words call NoMemory n u (inr t) = absurd t.0
headline_of_words call _ n u t = absurd n

-- ---- what a status alone implies

told_run : (call : Call) (text : List ℕ) (e : Ending) → ReportsEnding text e call.status call.err
    → ((kind : TextKind) (end : RunEnd) (stats : Option Tally) → e ≡ Ran kind end stats
    → (options : RunOptions) × IsRunCall call kind options)
    → is_run_status call.status ≡ true → AsksRun call.words
told_run call text e (inl t) r s =
    let run = run_of_status e (subst (λ n. is_run_status n ≡ true) t.0 s) in
    let asks = r run.0 run.1 run.2 run.3 in
    (run.0, asks.0, asks.1)
told_run call text e (inr t) r s = absurd (let ten = subst (λ n. is_run_status n ≡ true) t.0 s in cc)

pub ran_by_status : (call : Call) → Headline call → is_run_status call.status ≡ true → AsksRun call.words
ran_by_status call h s = told_run call h.text h.ending h.end.told h.end.ran s
