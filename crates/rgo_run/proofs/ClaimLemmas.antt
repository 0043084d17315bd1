-- Each claim of the headline by itself, from how a call ended that read its text. `Outcome` has a case for each way to end, and each
-- claim is a case analysis on it; so a new command needs a case here, and no claim changes.
use Rattle.std.proofs.Common.{◌≡◌, true, false, ℕ, ◌⊎◌, inl, inr, List, None, Some, Option, option_and_then, refl, sym, ◌∙◌, ap, subst}
use Rattle.std.proofs.lemmas.Option.{same_Some}
use Rattle.rgo_typed.specs.Tree.{Typed}
use Rattle.rgo_machine.specs.declared.limits.Shortage.{Shortage}
use Rattle.rgo_machine.specs.declared.limits.Shortage.TheVariants as shortage
use Rattle.rgo_region_machine.specs.declared.tallies.Tally.{Tally}
use Rattle.rgo_machine.specs.declared.ends.RunEnd.{RunEnd}
use Rattle.rgo_machine.specs.declared.ends.RunEnd.TheVariants as run_end
use Rattle.rgo_command_line.specs.declared.limits.RunOptions.{RunOptions}
use Rattle.rgo_command_line.specs.Commands.{command_of}
use Rattle.rgo_run.specs.declared.endings.TextKind.{TextKind}
use Rattle.rgo_run.specs.declared.endings.TextKind.TheVariants as text_kind
use Rattle.rgo_run.specs.declared.endings.Ending.{Ending}
use Rattle.rgo_run.specs.declared.endings.Ending.TheVariants.{Valid, Ran, Usage, ReadFault, Refused, CodeRefused, WriteFault, NoMemory}
use Rattle.rgo_command_line.specs.declared.commands.Command.{Command}
use Rattle.rgo_command_line.specs.declared.commands.Command.TheVariants.{Run, Check, Emit, Code, Big, Record, Replay, RunCode}
use Rattle.rgo_run.specs.Calls.{Call, AsksForCommand, IsRunCall, AsksEmit, SinkUse, SourceHadNoFault, Failed, SinkHadNoFault, SinkGrew}
use Rattle.rgo_run.specs.Calls.{IsUntouched, text_kind_of, run_of_command}
use Rattle.rgo_run.specs.Compiled.{Emits, IsCodeText, WritesCode}
use Rattle.rgo_run.specs.Endings.{status_of, status_of_run, is_fault_status, line_of}
use Rattle.rgo_run.specs.Reports.{ReportsEnding}
use Rattle.rgo_code.specs.Code.{Code as RegionCode}
use Rattle.rgo_code.specs.Erasure.{erased}
use Rattle.rgo_region_machine.specs.Counts.{counts_of}
use Rattle.rgo_run.specs.Runs.{IsCodeFor, IsOneRun, IsPlainCodeFor, IsRunnable, IsSaid, RunOf, Runnable, TextRunsTo, of_code, of_program}
use Rattle.rgo_run.specs.Texts.{IsTextOf, AskSome, PassesAs, RefusedAs, RefusedBy, AcceptedBy}
use Rattle.rgo_run.specs.Verdicts.{IsValidProgram, IsTypedProgram}
use Rattle.rgo_run.specs.Headline.{AlwaysHas, EndsRun, EndsEmit, IsOwnEnd, IsWriteFault, MayRun, MayEmit, NeverEnds, Print, Faults}
use Rattle.rgo_run.specs.Headline.{Suffices, RunsFor, RunsWhole, MustRunWhole, IsSilent, EmitsWhole}
use Rattle.rgo_run.proofs.EndingLemmas.{refused_status, not_one, one_is_no_run, one_is_no_emit, not_status_1, read_fault, write_fault}
use Rattle.rgo_run.proofs.CodeVerdictLemmas as codes
use Rattle.rgo_run.proofs.VerdictLemmas as verdicts

-- the command checks its text, and does nothing else with it
abbrev pub OnlyChecks : Command → Type 0
OnlyChecks Check = Unit {0}
OnlyChecks Code = Unit {0}
OnlyChecks _ = ⊥

-- how a call ended that read its text, or had no memory for that
pub data Outcome (call : Call) (text : List ℕ) (e : Ending) : Type 0 where
  accepted : e ≡ Valid → (command : Command) → AsksForCommand call command → OnlyChecks command → AcceptedBy command text
      → IsUntouched call.out → Outcome call text e
  ran : (kind : TextKind) (options : RunOptions) → IsRunCall call kind options → (r : TextRunsTo kind options text e call.out)
      → ((AsksForCommand call (Record options) → ⊥) → IsOneRun r.runs) → Outcome call text e
  emitted : AsksEmit call → Emits text e call.out → Outcome call text e
  refused : (command : Command) → AsksForCommand call command → RefusedBy command text e → IsUntouched call.out → Outcome call text e
  no_memory : e ≡ NoMemory → IsUntouched call.out → Outcome call text e

pub record Went (call : Call) (text : List ℕ) (e : Ending) : Type 0 where
  pub is_text : IsTextOf (command_of call.words) call.source.left text
  pub held : SourceHadNoFault call.source
  pub asks : AskSome call.words ⊎ (e ≡ NoMemory)
  pub outcome : Outcome call text e

told_whole : (call : Call) (text : List ℕ) (e : Ending) → ReportsEnding text e call.status call.err → (Failed call.err → ⊥)
    → (call.status ≡ status_of e) × SinkGrew call.err (line_of text e)
told_whole call text e (inl t) n = (t.0, t.1)
told_whole call text e (inr t) n = absurd (n t.1)

pub passes : (text : List ℕ) (program : Typed) → IsTypedProgram text program → IsValidProgram text
passes text program p = (p.tree, p.is_well_typed)

same_run : (call : Call) (k : TextKind) (l : RunOptions) (kind : TextKind) (options : RunOptions) → IsRunCall call k l
    → IsRunCall call kind options → ◌≡◌ {A = TextKind × RunOptions} (k, l) (kind, options)
same_run call k l kind options c d = same_Some (k, l) (kind, options) (sym c ∙ d)

same_command : (call : Call) (a b : Command) → AsksForCommand call a → AsksForCommand call b → a ≡ b
same_command call a b c d = cc

-- the command that is asked for runs a text of this kind, with these options
pub runs_with : (call : Call) (command : Command) (kind : TextKind) (options : RunOptions) → AsksForCommand call command
    → IsRunCall call kind options → run_of_command command ≡ Some (kind, options)
runs_with call command kind options c r = sym (ap (option_and_then run_of_command) c) ∙ r

no_run : (call : Call) (command : Command) (kind : TextKind) (options : RunOptions) → AsksForCommand call command
    → OnlyChecks command → IsRunCall call kind options → ⊥
no_run call command kind options c k r = by_command command k (runs_with call command kind options c r)
  where
    by_command : (command : Command) → OnlyChecks command → run_of_command command ≡ Some (kind, options) → ⊥
    by_command Check k r = cc
    by_command Code k r = cc
    by_command (Run _) k r = k
    by_command (RunCode _) k r = k
    by_command Emit k r = k
    by_command (Big n) k r = k
    by_command Replay k r = k
    by_command (Record _) k r = k

no_emit : (call : Call) (command : Command) → AsksForCommand call command → OnlyChecks command → AsksEmit call → ⊥
no_emit call command c k d = subst OnlyChecks (same_command call command Emit c d) k

run_or_emit : (call : Call) (kind : TextKind) (options : RunOptions) → AsksEmit call → IsRunCall call kind options → ⊥
run_or_emit call kind options c d = let none = runs_with call Emit kind options c d in cc

-- a command that runs a text of a kind is about that kind
run_kind : (command : Command) (kind : TextKind) (options : RunOptions) → run_of_command command ≡ Some (kind, options)
    → text_kind_of command ≡ kind
run_kind (Run o) kind options r = ap (λ (x : TextKind × RunOptions). x.0) (same_Some _ _ r)
run_kind (RunCode o) kind options r = ap (λ (x : TextKind × RunOptions). x.0) (same_Some _ _ r)
run_kind (Big n) kind options r = ap (λ (x : TextKind × RunOptions). x.0) (same_Some _ _ r)
run_kind Check kind options r = absurd cc
run_kind Emit kind options r = absurd cc
run_kind Code kind options r = absurd cc
run_kind Replay kind options r = absurd cc
run_kind (Record o) kind options r = ap (λ (x : TextKind × RunOptions). x.0) (same_Some _ _ r)

-- a refusal by a command that runs is that of a text of its kind
run_refused : (call : Call) (command : Command) (kind : TextKind) (options : RunOptions) (text : List ℕ) (e : Ending)
    → AsksForCommand call command → IsRunCall call kind options → RefusedBy command text e → RefusedAs kind text e
run_refused call command kind options text e c r f =
    subst (λ k. RefusedAs k text e) (run_kind command kind options (runs_with call command kind options c r)) f

-- ---- verdicts by kinds

one_refusal : (kind : TextKind) (text : List ℕ) (a b : Ending) → RefusedAs kind text a → RefusedAs kind text b → a ≡ b
one_refusal text_kind.Go text (Refused a) (Refused b) r s = ap Refused (verdicts.one_refusal text a b r s)
one_refusal text_kind.Code text (CodeRefused a) (CodeRefused b) r s = ap CodeRefused (codes.one_refusal text a b r s)
one_refusal text_kind.Go text (Refused a) _ r s = absurd s
one_refusal text_kind.Code text (CodeRefused a) _ r s = absurd s
one_refusal _ text _ b r s = absurd r

never_both : (kind : TextKind) (text : List ℕ) (why : Ending) → PassesAs kind text → RefusedAs kind text why → ⊥
never_both text_kind.Go text (Refused why) p r = verdicts.never_both text why p r
never_both text_kind.Code text (CodeRefused why) p r = codes.never_both text why p r
never_both _ text _ p r = r

-- what a command accepts is valid
accepted_passes : (command : Command) (text : List ℕ) → AcceptedBy command text → PassesAs (text_kind_of command) text
accepted_passes Check text p = p
accepted_passes Emit text p = p
accepted_passes Code text p = p
accepted_passes (Run options) text p = absurd p
accepted_passes (RunCode options) text p = absurd p
accepted_passes (Big n) text p = absurd p
accepted_passes Replay text p = absurd p
accepted_passes (Record options) text p = absurd p

-- what is run is valid
runnable_passes : (kind : TextKind) (text : List ℕ) (what : Runnable) → IsRunnable kind text what → PassesAs kind text
runnable_passes kind text (of_program program) is =
    subst (λ k. PassesAs k text) (sym is.0) (passes text program is.1)
runnable_passes kind text (of_code code) is =
    subst (λ k. PassesAs k text) (sym is.0) (record { code = code; is_text = is.1; checked = is.2 })

-- a text is one program, or one code
one_runnable : (kind : TextKind) (text : List ℕ) (a b : Runnable) → IsRunnable kind text a → IsRunnable kind text b → a ≡ b
one_runnable kind text (of_program p) (of_program q) is also =
    ap of_program (verdicts.one_program text p q is.1 also.1)
one_runnable kind text (of_code p) (of_code q) is also = ap of_code (codes.one_code text p q is.1 also.1)
one_runnable kind text (of_program p) (of_code q) is also =
    absurd (let same : text_kind.Go ≡ text_kind.Code = sym is.0 ∙ also.0 in cc)
one_runnable kind text (of_code p) (of_program q) is also =
    absurd (let same : text_kind.Code ≡ text_kind.Go = sym is.0 ∙ also.0 in cc)

-- the refusal of a text, by the command that was asked for
program_refused : (call : Call) (text : List ℕ) (command other : Command) (e : Ending) → AsksForCommand call command
    → AsksForCommand call other → RefusedBy command text e → RefusedBy other text e
program_refused call text command other e c d r = subst (λ x. RefusedBy x text e) (same_command call command other c d) r

-- ---- code that was printed

compiled_passes : (text bytes : List ℕ) → IsCodeText text bytes → IsValidProgram text
compiled_passes text bytes is = passes text is.compiled.program is.compiled.is_program

emits_ends : (bytes : List ℕ) (call : Call) (e : Ending) → WritesCode bytes e call.out → EndsEmit e
emits_ends bytes call Valid w = tt
emits_ends bytes call WriteFault w = tt
emits_ends bytes call _ w = absurd w

emit_status : (e : Ending) → EndsEmit e → status_of e ≡ 1 → ⊥
emit_status Valid ends s = cc
emit_status WriteFault ends s = cc
emit_status _ ends s = ends

pub emit_ends : (call : Call) (text : List ℕ) (e : Ending) → Emits text e call.out → EndsEmit e
emit_ends call text e em = emits_ends em.0 call e em.2

emit_is_no_run : (e : Ending) (kind : TextKind) (end : RunEnd) (stats : Option Tally) → EndsEmit e → e ≡ Ran kind end stats → ⊥
emit_is_no_run e kind end stats ends is = subst EndsEmit is ends

emit_failed : (bytes : List ℕ) (call : Call) (e : Ending) → WritesCode bytes e call.out → e ≡ WriteFault → Failed call.out
emit_failed bytes call WriteFault w x = w.0
emit_failed bytes call Valid w x = cc
emit_failed bytes call _ w x = absurd w

emit_held : (bytes : List ℕ) (call : Call) (e : Ending) → WritesCode bytes e call.out → (e ≡ WriteFault → ⊥) → SinkHadNoFault call.out
emit_held bytes call Valid w n = w.1
emit_held bytes call WriteFault w n = absurd (n refl)
emit_held bytes call _ w n = absurd w

-- ---- the refusal

pub usage : (call : Call) (text : List ℕ) (e : Ending) → Outcome call text e → e ≡ Usage → command_of call.words ≡ None
usage call text e (accepted is command c k p o) u = cc
usage call text e (ran kind options c r one) u = absurd (let is = r.is_end in cc)
usage call text e (emitted c em) u = absurd (subst EndsEmit u (emit_ends call text e em))
usage call text e (refused command c f o) u =
    absurd (not_one e Usage (refused_status (text_kind_of command) text e f) (λ s. cc) u)
usage call text e (no_memory is o) u = absurd (let memory = is in cc)

pub unknown : (call : Call) (e : Ending) → AskSome call.words ⊎ (e ≡ NoMemory) → command_of call.words ≡ None
    → (e ≡ Usage) ⊎ (e ≡ NoMemory)
unknown call e (inl asked) n = absurd (let some = asked.1 in cc)
unknown call e (inr is) n = inr is

pub is_refused : (call : Call) (text : List ℕ) (e : Ending) → Outcome call text e → status_of e ≡ 1
    → (command : Command) × AsksForCommand call command × RefusedBy command text e
is_refused call text e (accepted is command c k p o) s = absurd (let t = subst (λ x. status_of x ≡ 1) is s in cc)
is_refused call text e (ran kind options c r one) s = absurd (not_status_1 r.run_end (subst (λ x. status_of x ≡ 1) r.is_end s))
is_refused call text e (emitted c em) s = absurd (emit_status e (emit_ends call text e em) s)
is_refused call text e (refused command c f o) s = (command, c, f)
is_refused call text e (no_memory is o) s = absurd (let t = subst (λ x. status_of x ≡ 1) is s in cc)

pub valid : (call : Call) (text : List ℕ) (e : Ending) → Outcome call text e → e ≡ Valid
    → (command : Command) × AsksForCommand call command × AcceptedBy command text
valid call text e (accepted is command c k p o) x = (command, c, p)
valid call text e (ran kind options c r one) x = absurd (let is = r.is_end in cc)
valid call text e (emitted c em) x = (Emit, c, compiled_passes text em.0 em.1)
valid call text e (refused command c f o) x =
    absurd (not_one e Valid (refused_status (text_kind_of command) text e f) (λ s. cc) x)
valid call text e (no_memory is o) x = absurd (let memory = is in cc)

pub first : (call : Call) (text : List ℕ) (e : Ending) → Outcome call text e → (command : Command) → AsksForCommand call command
    → (why : Ending) → RefusedBy command text why → (e ≡ why) ⊎ (e ≡ NoMemory)
first call text e (accepted is other c k p o) command d why w =
    absurd (never_both (text_kind_of other) text why (accepted_passes other text p)
    (program_refused call text command other why d c w))
first call text e (ran kind options c r one) command d why w =
    absurd (never_both kind text why (runnable_passes kind text r.what r.is_what)
    (run_refused call command kind options text why d c w))
first call text e (emitted c em) command d why w =
    absurd (never_both text_kind.Go text why (compiled_passes text em.0 em.1) (program_refused call text command Emit why d c w))
first call text e (refused other c f o) command d why w =
    inl (one_refusal (text_kind_of other) text e why f (program_refused call text command other why d c w))
first call text e (no_memory is o) command d why w = inr is

pub untouched : (call : Call) (text : List ℕ) (e : Ending) → Outcome call text e → (MayRun call e → ⊥)
    → (MayEmit call e → ⊥) → IsUntouched call.out
untouched call text e (accepted is command c k p o) r m = o
untouched call text e (ran kind options c run one) r m = absurd (r ((kind, options, c), subst EndsRun (sym run.is_end) tt))
untouched call text e (emitted c em) r m = absurd (m (c, emit_ends call text e em))
untouched call text e (refused command c f o) r m = o
untouched call text e (no_memory is o) r m = o

-- ---- the print and the end

emit_no_run_end : (e : Ending) → EndsEmit e → EndsRun e → ⊥
emit_no_run_end Valid ends m = m
emit_no_run_end WriteFault ends m = m
emit_no_run_end _ ends m = ends

pub print : (call : Call) (text : List ℕ) (e : Ending) → Outcome call text e → Print call text e
print call text e (accepted is command c k p o) kind options d m = absurd (subst EndsRun is m)
print call text e (ran k l c r one) kind options d m =
    inl (subst (λ (x : TextKind × RunOptions). RunsFor call x.0 x.1 text e) (same_run call k l kind options c d) (r, one))
print call text e (emitted c em) kind options d m = absurd (emit_no_run_end e (emit_ends call text e em) m)
print call text e (refused command c f o) kind options d m =
    absurd (one_is_no_run e (refused_status (text_kind_of command) text e f) m)
print call text e (no_memory is o) kind options d m = inr (is, o)

pub emission : (call : Call) (text : List ℕ) (e : Ending) → Outcome call text e → AsksEmit call → EndsEmit e
    → Emits text e call.out
emission call text e (accepted is command c k p o) d m = absurd (no_emit call command c k d)
emission call text e (ran kind options c r one) d m = absurd (run_or_emit call kind options d c)
emission call text e (emitted c em) d m = em
emission call text e (refused command c f o) d m = absurd (one_is_no_emit e (refused_status (text_kind_of command) text e f) m)
emission call text e (no_memory is o) d m = absurd (subst EndsEmit is m)

pub not_read_fault : (call : Call) (text : List ℕ) (e : Ending) → Outcome call text e → e ≡ ReadFault → ⊥
not_read_fault call text e (accepted is command c k p o) x = cc
not_read_fault call text e (ran kind options c r one) x = let is = r.is_end in cc
not_read_fault call text e (emitted c em) x = subst EndsEmit x (emit_ends call text e em)
not_read_fault call text e (refused command c f o) x =
    not_one e ReadFault (refused_status (text_kind_of command) text e f) (λ s. cc) x
not_read_fault call text e (no_memory is o) x = let memory = is in cc

run_write_failed : (kind : TextKind) (options : RunOptions) (call : Call) (text : List ℕ) (e : Ending)
    → TextRunsTo kind options text e call.out → IsWriteFault e → Failed call.out
run_write_failed kind options call text e r (inl (other, stats, x)) =
    let is = r.is_end in let same : r.run_end ≡ run_end.WriteFault = cc in r.failed same
run_write_failed kind options call text e r (inr x) = absurd (let is = r.is_end in cc)

emit_write_failed : (call : Call) (text : List ℕ) (e : Ending) → Emits text e call.out → IsWriteFault e
    → Failed call.out
emit_write_failed call text e em (inl (kind, stats, x)) =
    absurd (emit_is_no_run e kind run_end.WriteFault stats (emit_ends call text e em) x)
emit_write_failed call text e em (inr x) = emit_failed em.0 call e em.2 x

-- an ending that is neither of the two failed writes
pub no_write_fault : (e : Ending) → ((kind : TextKind) (stats : Option Tally) → e ≡ Ran kind run_end.WriteFault stats → ⊥)
    → (e ≡ WriteFault → ⊥) → IsWriteFault e → ⊥
no_write_fault e run emit (inl (kind, stats, x)) = run kind stats x
no_write_fault e run emit (inr x) = emit x

-- an ending that is known differs from every other
not_other : (e is other : Ending) → e ≡ is → (is ≡ other → ⊥) → e ≡ other → ⊥
not_other e is other x n y = n (sym x ∙ y)

pub write_failed : (call : Call) (text : List ℕ) (e : Ending) → Outcome call text e → IsWriteFault e → Failed call.out
write_failed call text e (accepted is command c k p o) x =
    absurd (no_write_fault e (λ kind stats. not_other e Valid (Ran kind run_end.WriteFault stats) is (λ w. cc))
    (not_other e Valid WriteFault is (λ w. cc)) x)
write_failed call text e (ran kind options c r one) x = run_write_failed kind options call text e r x
write_failed call text e (emitted c em) x = emit_write_failed call text e em x
write_failed call text e (refused command c f o) x =
    let one = refused_status (text_kind_of command) text e f in
    absurd (no_write_fault e (λ kind stats. not_one e (Ran kind run_end.WriteFault stats) one (λ s. cc))
    (not_one e WriteFault one (λ s. cc)) x)
write_failed call text e (no_memory is o) x =
    absurd (no_write_fault e (λ kind stats. not_other e NoMemory (Ran kind run_end.WriteFault stats) is (λ w. cc))
    (not_other e NoMemory WriteFault is (λ w. cc)) x)

pub ran_asks : (call : Call) (text : List ℕ) (e : Ending) → Outcome call text e → (kind : TextKind) (end : RunEnd)
    (stats : Option Tally) → e ≡ Ran kind end stats → (options : RunOptions) × IsRunCall call kind options
ran_asks call text e (accepted is command c k p o) kind end stats x =
    absurd (not_other e Valid (Ran kind end stats) is (λ w. cc) x)
ran_asks call text e (ran k options c r one) kind end stats x =
    let is = r.is_end in
    let same : k ≡ kind = cc in
    (options, subst (λ k. IsRunCall call k options) same c)
ran_asks call text e (emitted c em) kind end stats x =
    absurd (emit_is_no_run e kind end stats (emit_ends call text e em) x)
ran_asks call text e (refused command c f o) kind end stats x =
    absurd (not_one e (Ran kind end stats) (refused_status (text_kind_of command) text e f) (not_status_1 end) x)
ran_asks call text e (no_memory is o) kind end stats x =
    absurd (not_other e NoMemory (Ran kind end stats) is (λ w. cc) x)

-- ---- faults

pub status_9 : (call : Call) (text : List ℕ) (e : Ending) → ReportsEnding text e call.status call.err → call.status ≡ 9 → e ≡ ReadFault
status_9 call text e (inl t) s = read_fault e (sym t.0 ∙ s)
status_9 call text e (inr t) s = absurd (let ten = t.0 in cc)

pub status_10 : (call : Call) (text : List ℕ) (e : Ending) → ReportsEnding text e call.status call.err → call.status ≡ 10
    → IsWriteFault e ⊎ Failed call.err
status_10 call text e (inl t) s = inl (write_fault e (sym t.0 ∙ s))
status_10 call text e (inr t) s = inr t.1

pub err_held : (call : Call) (text : List ℕ) (e : Ending) → ReportsEnding text e call.status call.err
    → is_fault_status call.status ≡ false → SinkHadNoFault call.err × (call.status ≡ status_of e)
err_held call text e (inl t) s = (t.2, t.0)
err_held call text e (inr t) s = absurd (let ten = subst (λ n. is_fault_status n ≡ false) t.0 s in cc)

-- if the status is not that of a fault, the ending is not a fault
not_fault : (call : Call) (e other : Ending) → is_fault_status (status_of other) ≡ true → call.status ≡ status_of e
    → is_fault_status call.status ≡ false → e ≡ other → ⊥
not_fault call e other is t s x =
    let no = subst (λ n. is_fault_status n ≡ false) (t ∙ ap status_of x) s in cc

out_held : (call : Call) (text : List ℕ) (e : Ending) → Outcome call text e
    → ((kind : TextKind) (stats : Option Tally) → e ≡ Ran kind run_end.WriteFault stats → ⊥) → (e ≡ WriteFault → ⊥)
    → SinkHadNoFault call.out
out_held call text e (accepted is command c k p o) n m = o.1
out_held call text e (ran kind options c r one) n m = r.held (λ w. n kind r.stats (r.is_end ∙ ap (λ end. Ran kind end r.stats) w))
out_held call text e (emitted c em) n m = emit_held em.0 call e em.2 m
out_held call text e (refused command c f o) n m = o.1
out_held call text e (no_memory is o) n m = o.1

faults_write : (call : Call) (text : List ℕ) (e : Ending) → Outcome call text e
    → IsWriteFault e ⊎ Failed call.err → Failed call.out ⊎ Failed call.err
faults_write call text e o (inl w) = inl (write_failed call text e o w)
faults_write call text e o (inr f) = inr f

pub faults : (call : Call) (text : List ℕ) (e : Ending) → Went call text e → ReportsEnding text e call.status call.err → Faults call
faults call text e went t = record {
  read = λ s. absurd (not_read_fault call text e went.outcome (status_9 call text e t s));
  write = λ s. faults_write call text e went.outcome (status_10 call text e t s);
  none = λ s. let h = err_held call text e t s in
      let run : (kind : TextKind) (stats : Option Tally) → e ≡ Ran kind run_end.WriteFault stats → ⊥ =
      λ kind stats. not_fault call e (Ran kind run_end.WriteFault stats) refl h.1 s in
      let emit = not_fault call e WriteFault refl h.1 s in
      (went.held, out_held call text e went.outcome run emit, h.0);
}

-- ---- completeness

-- a run of the program or code, and what is reported of it
abbrev RunsWith : RunOptions → Runnable → RunEnd → Option Tally → SinkUse → Type 0
RunsWith options what end stats out =
    (runs : RunOf what options end out) × IsSaid options.stats end (counts_of runs.regions.last) stats

-- without its regions the code that is run is the three-address code of what is run
plain_code : (what : Runnable) (code : RegionCode) → IsCodeFor what code → IsPlainCodeFor what (erased code)
plain_code (of_program program) code is = is.lowered
plain_code (of_code given) code is = ap erased is.0

module _ (kind : TextKind) (options : RunOptions) (call : Call) (text : List ℕ) (what : Runnable) (stats : Option Tally)
    (suffices : Suffices options what) where
  own : (end : RunEnd) → IsOwnEnd end → (r : RunsWith options what end stats call.out)
      → (call.status ≡ status_of_run end) × SinkGrew call.err (line_of text (Ran kind end stats))
      → RunsWhole kind options call text what
  own end is r t = record {
    end = end;
    is_own = is;
    runs = r.0;
    stats = stats;
    said = r.1;
    told = t.1;
    status = t.0;
  }

  lacks_none : (why : Shortage) → AlwaysHas options.sizes what why
      → (r : RunsWith options what (run_end.NoRoom why) stats call.out) → ⊥
  lacks_none why has r =
      has r.0.code r.0.is_code r.0.regions.events r.0.regions.state r.0.regions.run (r.0.regions.lacks why refl)

  never : (end : RunEnd) → NeverEnds options.limits what end → RunsWith options what end stats call.out → ⊥
  never end n r =
      n (erased r.0.code) (plain_code what r.0.code r.0.is_code) r.0.runs.tested r.0.runs.picks r.0.runs.state r.0.runs.ran r.0.runs.ends

  runs_whole : (end : RunEnd) → RunsWith options what end stats call.out
      → (call.status ≡ status_of_run end) × SinkGrew call.err (line_of text (Ran kind end stats))
      → (end ≡ run_end.WriteFault → ⊥) → RunsWhole kind options call text what ⊎ (call.status ≡ 11)
  runs_whole (run_end.Ended end) r t w = inl (own (run_end.Ended end) tt r t)
  runs_whole run_end.Deadlock r t w = inl (own run_end.Deadlock tt r t)
  runs_whole (run_end.NoRoom shortage.Pages) r t w = absurd (lacks_none shortage.Pages suffices.pages r)
  runs_whole (run_end.NoRoom shortage.Regions) r t w = absurd (lacks_none shortage.Regions suffices.regions r)
  runs_whole (run_end.NoRoom shortage.ObjectSize) r t w = absurd (lacks_none shortage.ObjectSize suffices.object_size r)
  runs_whole run_end.CallsTooDeep r t w = absurd (never run_end.CallsTooDeep suffices.calls r)
  runs_whole run_end.StepsSpent r t w = absurd (never run_end.StepsSpent suffices.steps r)
  runs_whole run_end.GoroutinesSpent r t w = absurd (never run_end.GoroutinesSpent suffices.goroutines r)
  runs_whole run_end.WriteFault r t w = absurd (w refl)
  runs_whole run_end.NoMemory r t w = inr t.0

-- an ending for lack of memory is reported as such
memory_status : (call : Call) (text : List ℕ) (e : Ending) → e ≡ NoMemory → ReportsEnding text e call.status call.err
    → (Failed call.err → ⊥) → call.status ≡ 11
memory_status call text e is t n = (told_whole call text e t n).0 ∙ ap status_of is

pub complete_run : (call : Call) (text : List ℕ) (e : Ending) → Outcome call text e → ReportsEnding text e call.status call.err
    → (kind : TextKind) (options : RunOptions) → IsRunCall call kind options → (Failed call.out → ⊥) → (Failed call.err → ⊥)
    → MustRunWhole kind options call text
complete_run call text e (accepted is command c k u o) t kind options d w n what p s =
    absurd (no_run call command kind options c k d)
complete_run call text e (ran k l c r one) t kind options d w n what p s =
    let same = same_run call k l kind options c d in
    let q = one_runnable kind text r.what what
    (subst (λ (x : TextKind × RunOptions). IsRunnable x.0 text r.what) same r.is_what) p in
    runs_whole kind options call text what r.stats s r.run_end
    (subst (λ (x : TextKind × RunOptions). RunsWith x.1 what r.run_end r.stats call.out) same
    (subst (λ x. RunsWith l x r.run_end r.stats call.out) q (r.runs, r.said)))
    (subst (λ x. (call.status ≡ status_of x) × SinkGrew call.err (line_of text x))
    (r.is_end ∙ ap (λ (x : TextKind × RunOptions). Ran x.0 r.run_end r.stats) same) (told_whole call text e t n))
    (λ f. w (r.failed f))
complete_run call text e (emitted c em) t kind options d w n what p s = absurd (run_or_emit call kind options c d)
complete_run call text e (refused command c f o) t kind options d w n what p s =
    absurd (never_both kind text e (runnable_passes kind text what p)
    (run_refused call command kind options text e c d f))
complete_run call text e (no_memory is o) t kind options d w n what p s = inr (memory_status call text e is t n)

-- a text that is only checked, and that the command accepts
pub complete_checking : (call : Call) (text : List ℕ) (e : Ending) → Outcome call text e
    → ReportsEnding text e call.status call.err → (command : Command) → AsksForCommand call command → OnlyChecks command
    → (Failed call.err → ⊥) → AcceptedBy command text → IsSilent call ⊎ (call.status ≡ 11)
complete_checking call text e (accepted is other c k u o) t command d only n p =
    let told = subst (λ x. (call.status ≡ status_of x) × SinkGrew call.err (line_of text x)) is (told_whole call text e t n) in
    inl (record { status = told.0; untouched = o; silent = told.1 })
complete_checking call text e (ran kind options c r one) t command d only n p = absurd (no_run call command kind options d only c)
complete_checking call text e (emitted c em) t command d only n p = absurd (no_emit call command d only c)
complete_checking call text e (refused other c f o) t command d only n p =
    absurd (never_both (text_kind_of command) text e (accepted_passes command text p)
    (program_refused call text other command e c d f))
complete_checking call text e (no_memory is o) t command d only n p = inr (memory_status call text e is t n)

emits_whole : (call : Call) (text : List ℕ) (e : Ending) (bytes : List ℕ) → IsCodeText text bytes
    → WritesCode bytes e call.out → (call.status ≡ status_of e) × SinkGrew call.err (line_of text e)
    → (Failed call.out → ⊥) → EmitsWhole call text
emits_whole call text Valid bytes is w t n = record {
  status = t.0;
  bytes = bytes;
  is_text = is;
  grew = w.0;
  held = w.1;
  silent = t.1;
}
emits_whole call text WriteFault bytes is w t n = absurd (n w.0)
emits_whole call text _ bytes is w t n = absurd w

pub complete_emit : (call : Call) (text : List ℕ) (e : Ending) → Outcome call text e → ReportsEnding text e call.status call.err
    → AsksEmit call → (Failed call.out → ⊥) → (Failed call.err → ⊥) → IsValidProgram text
    → EmitsWhole call text ⊎ (call.status ≡ 11)
complete_emit call text e (accepted is command c k u o) t d w n p = absurd (no_emit call command c k d)
complete_emit call text e (ran kind options c r one) t d w n p = absurd (run_or_emit call kind options d c)
complete_emit call text e (emitted c em) t d w n p =
    inl (emits_whole call text e em.0 em.1 em.2 (told_whole call text e t n) w)
complete_emit call text e (refused command c f o) t d w n p =
    absurd (never_both text_kind.Go text e p (program_refused call text command Emit e c d f))
complete_emit call text e (no_memory is o) t d w n p = inr (memory_status call text e is t n)
