-- What the stages of the compiler find out about a text, and the endings that report it.
use Rattle.std.proofs.Common.{◌≡◌, ℕ, ◌+◌, ◌*◌, ◌<◌, ◌≤◌, inl, List, [], length, Option, None, Some, IfSome, refl, ap, arith, subst, sym, ◌∙◌, append-nil}
use Rattle.rgo_outside.specs.Moves.{ReadsAll, GivesTooMany}
use Rattle.rgo_outside.specs.declared.whole.ReadEnd.{ReadEnd}
use Rattle.rgo_outside.specs.declared.whole.ReadEnd.TheVariants as read
use Rattle.rgo_outside.proofs.ToldLemmas.{ReadsAll-told, GivesTooMany-told}
use Rattle.rgo_lexer.specs.Refusals.{LexFails}
use Rattle.rgo_lexer.specs.declared.refusals.LexError.{LexError}
use Rattle.rgo_lexer.specs.declared.refusals.LexError.TheVariants as lex
use Rattle.rgo_ast.specs.Tree.{Program}
use Rattle.rgo_typing_rules.specs.Checks.{Refuses as TypeRefuses}
use Rattle.rgo_typing_rules.specs.Sites.{first_refusal}
use Rattle.rgo_typing_rules.specs.declared.errors.TypeError.{TypeError}
use Rattle.rgo_typing_rules.specs.declared.errors.TypeError.TheVariants as type
use Rattle.rgo_typed.specs.Tree.{Typed}
use Rattle.rgo_types.specs.Programs.{sites_of}
use Rattle.rgo_machine.specs.declared.limits.Shortage.{Shortage}
use Rattle.rgo_machine.specs.Deadlocks.{IsDeadlock}
use Rattle.rgo_machine.specs.Limits.{LeadsWithin}
use Rattle.rgo_machine.specs.declared.picks.Pick.{Pick}
use Rattle.rgo_machine.proofs.Waiting.{deadlocks_wait}
use Rattle.rgo_simulation.specs.Simulations.{RunsWithinAs}
use Rattle.rgo_meaning.specs.Source.{source, source_start}
use Rattle.rgo_tac.specs.Code.{Tac}
use Rattle.rgo_tac.specs.Tac.{TacState, tac, tac_start}
use Rattle.rgo_lower.proofs.follows.Whole.{lowering_simulates}
use Rattle.rgo_machine.specs.Ends.{RunEndsAs, RunsFreely}
use Rattle.rgo_machine.specs.declared.ends.RunEnd.{RunEnd}
use Rattle.rgo_machine.specs.declared.ends.RunEnd.TheVariants.{Deadlock, NoRoom, StepsSpent, WriteFault}
use Rattle.rgo_sound.proofs.offers.Offers.{names_only_live}
use Rattle.rgo_sound.proofs.counts.Room.{room_is_kept}
use Rattle.rgo_sound.proofs.Safe.{safety}
use Rattle.rgo_command_line.specs.Commands.{command_of}
use Rattle.rgo_command_line.specs.declared.commands.Command.{Command}
use Rattle.rgo_command_line.specs.declared.commands.Command.TheVariants.{Big, Check, Code, Emit, Record, Replay, Run, RunCode}
use Rattle.rgo_command_line.specs.Limits.{IsBig}
use Rattle.rgo_command_line.specs.declared.limits.RunOptions.{RunOptions}
use Rattle.rgo_big.specs.Big.{big_text}
use Rattle.rgo_command_line.specs.declared.commands.WordsError.{WordsError}
use Rattle.rgo_command_line.specs.declared.commands.WordsError.TheVariants as words
use Rattle.rgo_machine.specs.declared.limits.Limits.{Limits}
use Rattle.rgo_machine.specs.declared.limits.Sizes.{Sizes}
use Rattle.rgo_code.specs.Checked.{IsChecked}
use Rattle.rgo_code.specs.Code as code
use Rattle.rgo_code.specs.Erasure.{erased}
use Rattle.rgo_code.specs.NameRules.{Ascends}
use Rattle.rgo_region_machine.specs.Counts.{counts_of}
use Rattle.rgo_region_machine.specs.Machine.{Event, region_run}
use Rattle.rgo_region_machine.specs.Room.{roomy_run, LacksIn}
use Rattle.rgo_region_machine.specs.States.{RegionState, plain_at}
use Rattle.rgo_sound.specs.RegionRuns.{RegionRun}
use Rattle.rgo_sound.specs.Erasure.{picks_of}
use Rattle.rgo_region_machine.specs.declared.tallies.Tally.{Tally}
use Rattle.rgo_code_printing.specs.Text.{text_of}
use Rattle.rgo_code_text.specs.Walk.{RefusesCodeText as ReadFails}
use Rattle.rgo_code_text.specs.declared.refusals.ReadError.{ReadError}
use Rattle.rgo_code_text.specs.declared.refusals.ReadError.TheVariants as reading
use Rattle.rgo_checker.specs.Outcomes.{CheckFails}
use Rattle.rgo_checker.specs.declared.errors.CheckError.{CheckError}
use Rattle.rgo_checker.specs.declared.errors.CheckError.TheVariants as check
use Rattle.rgo_run.specs.declared.endings.TextKind.{TextKind}
use Rattle.rgo_run.specs.declared.endings.TextKind.TheVariants as text_kind
use Rattle.rgo_run.specs.declared.endings.Ending.{Ending}
use Rattle.rgo_run.specs.declared.endings.Ending.TheVariants.{Ran, Usage, Valid}
use Rattle.rgo_run.specs.declared.refusals.CodeTextError.{CodeTextError}
use Rattle.rgo_run.specs.declared.refusals.CodeTextError.TheVariants as code_text
use Rattle.rgo_run.specs.declared.refusals.TextError.{TextError}
use Rattle.rgo_run.specs.declared.refusals.TextError.TheVariants as text_failure
use Rattle.rgo_run.specs.Compiled.{IsCompiled, WritesCode}
use Rattle.rgo_run.specs.Constants.{TacConstantsFit}
use Rattle.rgo_run.specs.Calls.{SourceUse, SourceFailed, SourceHadNoFault, SinkUse, Failed, SinkHadNoFault, text_kind_of}
use Rattle.rgo_run.specs.Errors.{command_error, read_error, too_long, lex_error, type_error, reading_error, check_error, text_error, code_text_error}
use Rattle.rgo_run.specs.Runs.{HasSourceRun, IsCodeFor, IsRunnable, IsSaid, Runnable, SourceRun, of_code, of_program}
use Rattle.rgo_run.specs.CodeVerdicts.{IsTextOfCode, code_limit, CodePasses}
use Rattle.rgo_run.specs.Texts.{IsTextRead, IsTextOf, NotRead, ReadTooMuch, RefusedAs, ChecksText, CodeFails, SourceFailsAs, FailsAs, PerformsCommand, RunsOrFails, byte_limit}
use Rattle.rgo_run.specs.Verdicts.{IsTree, text_limit}
use Rattle.rgo_run.proofs.Accepting.{emitted_passes}
use Rattle.rgo_run.proofs.CodeLengths.{lines_take_bytes}

-- the command reads its text
abbrev pub Reads : Command → Type 0
Reads command = (n : ℕ) → command ≡ Big n → ⊥

-- what the source had left is the text of a command that reads its text
left_is_text : (command : Command) (left : Option (List ℕ)) (text : List ℕ) → Reads command
    → IfSome left (λ bytes. text ≡ bytes) → IsTextOf (Some command) left text
left_is_text (Run options) left text reads is = is
left_is_text Check left text reads is = is
left_is_text Emit left text reads is = is
left_is_text Code left text reads is = is
left_is_text Replay left text reads is = is
left_is_text (Record options) left text reads is = is
left_is_text (RunCode options) left text reads is = is
left_is_text (Big n) left text reads is = absurd (reads n refl)

-- the bytes that were read to the end are the text
pub all_read : (command : Command) (w : List (List ℕ)) (source : SourceUse) (rest : Option (List ℕ)) (bytes : List ℕ)
    → command_of w ≡ Some command → Reads command → ReadsAll (byte_limit (text_kind_of command)) source.left rest bytes
    → SourceHadNoFault source → IsTextRead w source command bytes
all_read command w source rest bytes asked reads read held = record {
  asked = asked;
  is_text = left_is_text command source.left bytes reads
      (ReadsAll-told (byte_limit (text_kind_of command)) source.left rest bytes (λ text. bytes ≡ text) read refl);
  within = read.within;
  held = held;
}

-- the large text is within the limit
pub big_read : (n : ℕ) (w : List (List ℕ)) (source : SourceUse) (text : List ℕ) → command_of w ≡ Some (Big n)
    → IsBig n → text ≡ big_text n → length text ≤ 71 * n + 364 → SourceHadNoFault source → IsTextRead w source (Big n) text
big_read n w source text asked few is short held = record {
  asked = asked;
  is_text = is;
  within = omega (arith, few.1, short);
  held = held;
}

-- more bytes than the limit are the beginning of a text that is longer
longer : (limit : ℕ) (left rest : Option (List ℕ)) → GivesTooMany limit left rest
    → (text : List ℕ) × IfSome left (λ bytes. text ≡ bytes) × (limit < length text)
longer limit None rest gave = (gave.0, tt, omega (arith, gave.1))
longer limit (Some text) rest gave = (text, refl, GivesTooMany-told limit (Some text) rest gave)

-- such a text is rejected
too_long_refused : (kind : TextKind) (text : List ℕ) → byte_limit kind < length text
    → RefusedAs kind text (too_long kind)
too_long_refused text_kind.Go text h = h
too_long_refused text_kind.Code text h = h

too_much : (command : Command) (w : List (List ℕ)) (source : SourceUse) (rest : Option (List ℕ))
    → command_of w ≡ Some command → Reads command → SourceHadNoFault source
    → GivesTooMany (byte_limit (text_kind_of command)) source.left rest → ReadTooMuch w source (too_long (text_kind_of command))
too_much command w source rest asked reads held gave =
    let t = longer (byte_limit (text_kind_of command)) source.left rest gave in
    record {
      command = command;
      asked = asked;
      held = held;
      text = t.0;
      is_text = left_is_text command source.left t.0 reads t.1;
      refused = too_long_refused (text_kind_of command) t.0 t.2;
    }

not_read : (kind : TextKind) (w : List (List ℕ)) (source : SourceUse) → ReadTooMuch w source (too_long kind)
    → NotRead w source (too_long kind)
not_read text_kind.Go w source much = much
not_read text_kind.Code w source much = much

pub limit_is_small : (kind : TextKind) → byte_limit kind ≤ code_limit
limit_is_small text_kind.Go = omega arith
limit_is_small text_kind.Code = omega arith

pub no_words : (w : List (List ℕ)) (source : SourceUse) (error : WordsError)
    → (error ≡ words.Usage → command_of w ≡ None) → SourceHadNoFault source → NotRead w source (command_error error)
no_words w source words.Usage asked held = (asked refl, held)
no_words w source words.NoMemory asked held = held

pub no_text : (command : Command) (w : List (List ℕ)) (source : SourceUse) (rest : Option (List ℕ)) (end : ReadEnd)
    → command_of w ≡ Some command
    → Reads command
    → (end ≡ read.Fault → SourceFailed source)
    → (end ≡ read.TooLong → SourceHadNoFault source × GivesTooMany (byte_limit (text_kind_of command)) source.left rest)
    → (end ≡ read.NoMemory → SourceHadNoFault source) → NotRead w source (read_error (text_kind_of command) end)
no_text command w source rest read.Fault asked reads fault long memory = ((command, asked), fault refl)
no_text command w source rest read.TooLong asked reads fault long memory =
    let h = long refl in not_read (text_kind_of command) w source (too_much command w source rest asked reads h.0 h.1)
no_text command w source rest read.NoMemory asked reads fault long memory = memory refl

pub no_usage : (kind : TextKind) (end : ReadEnd) → read_error kind end ≡ Usage → ⊥
no_usage kind read.Fault x = cc
no_usage text_kind.Go read.TooLong x = cc
no_usage text_kind.Code read.TooLong x = cc
no_usage kind read.NoMemory x = cc

pub lex_fails : (text : List ℕ) (error : LexError) → length text ≤ text_limit → LexFails text error
    → SourceFailsAs text (lex_error error)
lex_fails text lex.NoMemory within fails = tt
lex_fails text (lex.Refused refusal) within fails = (within, fails)

pub type_fails : (text : List ℕ) (tree : Program) (error : TypeError) → IsTree text tree
    → TypeRefuses error (first_refusal (sites_of tree)) → SourceFailsAs text (type_error error)
type_fails text tree type.NoMemory is_tree fails = tt
type_fails text tree (type.Refused refusal) is_tree fails = record { tree = tree; is_tree = is_tree; broken = fails }

-- ---- the endings that report why there is no program, or no code

pub text_fails : (text : List ℕ) (error : TextError) → SourceFailsAs text error → FailsAs text_kind.Go text (text_error error)
text_fails text text_failure.NoMemory fails = tt
text_fails text (text_failure.Refused why) fails = fails

pub code_text_fails : (text : List ℕ) (error : CodeTextError) → CodeFails text error
    → FailsAs text_kind.Code text (code_text_error error)
code_text_fails text code_text.NoMemory fails = tt
code_text_fails text (code_text.Refused why) fails = fails

pub checks_in_vain : (kind : TextKind) (text : List ℕ) (e : Ending) → FailsAs kind text e → ChecksText kind text e
checks_in_vain text_kind.Go text Valid fails = absurd fails
checks_in_vain text_kind.Code text Valid fails = absurd fails
checks_in_vain kind text e fails = fails

-- ---- the run of a program

of_deadlock : (code : Tac) (limits : Limits) (before steps : ℕ) (t : TacState) (end : RunEnd)
    → RunEndsAs (tac code) limits before steps t end → end ≡ Deadlock → IsDeadlock (tac code) t
of_deadlock code limits before steps t end h d = subst (λ e. RunEndsAs (tac code) limits before steps t e) d h

-- the run of the program that a run of its code follows
followed : (limits : Limits) (program : Typed) (code : Tac) (before steps : ℕ) (end : RunEnd) (t : TacState)
    → RunEndsAs (tac code) limits before steps t end
    → RunsWithinAs limits (tac code) t (source program) (source_start program) → SourceRun limits program end t
followed limits program code before steps end t ends run = record {
  picks = run.1;
  state = run.0;
  leads = run.2;
  printed = run.3.printed;
  ended = run.3.ended;
  deadlock = λ d. let dead = run.3.deadlock (of_deadlock code limits before steps t end ends d) in
      (dead, deadlocks_wait (source program) run.0 dead);
}

-- a run of the region machine, which is safe in each of its states; no step follows its end, since one goroutine is driven at a time
abbrev pub region_run_of : (code : code.Code) (sizes : Sizes) (end : RunEnd) (t : TacState) (events : List Event) (state : RegionState)
    → IsChecked code → Ascends code → roomy_run code sizes events ≡ Some state
    → plain_at state t.printed ≡ t → state.plain.printed ≡ t.printed
    → ((why : Shortage) → end ≡ NoRoom why → LacksIn code sizes why state) → RegionRun code sizes end t
region_run_of code sizes end t events state checked ascends leads is printed lacks = record {
  events = events;
  late = [];
  state = state;
  last = state;
  run = room_is_kept.is_run code sizes events state leads;
  more = subst (λ es. region_run code sizes.page_words es ≡ Some state) (sym (append-nil events))
      (room_is_kept.is_run code sizes events state leads);
  is = is;
  printed = printed;
  safe = λ before after s is run. (
    safety code sizes.page_words before s checked ascends run,
    λ g h r there names. names_only_live code sizes.page_words before s g h r checked ascends run there names,
  );
  within = λ before after s is run.
      room_is_kept.fits code sizes before after s state
      (subst (λ es. roomy_run code sizes es ≡ Some state) (sym (append-nil events) ∙ is) leads) run;
  lacks = lacks;
}

-- the run of the program, if one is run, that a run of its code follows
pub followed_if : (what : Runnable) (code : code.Code) (limits : Limits) (before : ℕ) (picks : List Pick) (end : RunEnd) (t : TacState)
    → IsCodeFor what code → LeadsWithin (tac (erased code)) limits (tac_start (erased code)) picks t
    → RunEndsAs (tac (erased code)) limits before (length picks) t end → HasSourceRun what limits end t
followed_if (of_program program) code limits before picks end t is ran ends =
    followed limits program (erased code) before (length picks) end t ends
    ((lowering_simulates program (erased code) is.lowered).backward_within limits picks t ran)
followed_if (of_code given) code limits before picks end t is ran ends = tt

pub ran : (kind : TextKind) (options : RunOptions) (text : List ℕ) (what : Runnable) (code : code.Code) (end : RunEnd)
    (stats : Option Tally) (out : SinkUse) → IsRunnable kind text what → IsCodeFor what code
    → (runs : RunsFreely (tac (erased code)) options.limits (tac_start (erased code)) end out.old out.new)
    → (regions : RegionRun code options.sizes end runs.state) → runs.picks ≡ picks_of code options.sizes regions.events
    → (end ≡ StepsSpent → (counts_of regions.last).steps < options.limits.steps + 1000 * (counts_of regions.last).goroutines)
    → IsSaid options.stats end (counts_of regions.last) stats
    → (end ≡ WriteFault → Failed out) → ((end ≡ WriteFault → ⊥) → SinkHadNoFault out)
    → RunsOrFails kind options text (Ran kind end stats) out
ran kind options text what code end stats out is_what is_code runs regions same spent said failed held = inl (
  record {
    what = what;
    is_what = is_what;
    run_end = end;
    stats = stats;
    is_end = refl;
    runs = record {
      code = code;
      is_code = is_code;
      runs = runs;
      source = followed_if what code options.limits runs.tested runs.picks end runs.state is_code runs.ran runs.ends;
      regions = regions;
    };
    said = said;
    failed = failed;
    held = held;
  },
  record { same = same; spent = spent },
)

-- ---- code that is printed

pub emitted : (text : List ℕ) (code : code.Code) (bytes : List ℕ) (e : Ending) (out : SinkUse) → IsCompiled text code
    → bytes ≡ text_of code → TacConstantsFit (erased code) → WritesCode bytes e out → PerformsCommand Emit text e out
emitted text code bytes e out is is_text fits writes = inl (
  bytes,
  record {
    code = code;
    compiled = is;
    is_text = is_text;
    accepted = λ short.
        subst CodePasses (sym is_text)
        (emitted_passes text code is fits (subst (λ b. length b ≤ code_limit) is_text short));
  },
  writes,
)

-- ---- code texts

pub read_fails : (text : List ℕ) (error : ReadError) → length text ≤ code_limit → ReadFails text error
    → CodeFails text (reading_error error)
read_fails text reading.NoMemory within fails = tt
read_fails text reading.TooLarge within fails = absurd (omega (arith, within, fails))
read_fails text (reading.Refused refusal) within fails = (within, fails)

pub check_fails : (text : List ℕ) (c : code.Code) (error : CheckError) → IsTextOfCode text c → CheckFails error c
    → CodeFails text (check_error error)
check_fails text c check.NoMemory is fails = tt
check_fails text c check.TooLarge is fails =
    let long = lines_take_bytes c in
    let same = ap (λ (t : List ℕ). length t) is.text_is in
    absurd (omega (arith, fails, long, same, is.within))
check_fails text c (check.Refused refusal) is fails = record { code = c; is_text = is; broken = fails }
