-- The law of each access of a goroutine and of its steps without one. What a law requires can be read off the goroutine's own record. No
-- premise is about words: they may change before the access.
use Rattle.std.specs.Prelude.{◌≡◌, ◌<◌, ◌≤◌, ◌+◌, ◌%◌, ◌^◌, ℕ, bit_or, List, [], ◌∷◌, length, false, true, Option, Some}
use Rattle.rgo_sound.specs.Code.Code.{Call, CodeFn, CodeOp, Go, Print}
use Rattle.rgo_core_channels.specs.Records.{at_rest}
use Rattle.rgo_core_frames.specs.goroutines.Children.{child_records}
use Rattle.rgo_core_frames.specs.goroutines.Opening.{no_record}
use Rattle.rgo_core_frames.specs.steps.Prints.{printed_values}
use Rattle.rgo_core_frames.specs.steps.Local.{local}
use Rattle.rgo_core_frames.specs.steps.Quiet.{is_exit, quiet}
use Rattle.rgo_core_frames.specs.Records.{FramesRec as FrameRec, after_op}
use Rattle.rgo_core_frames.specs.shown.WordFrames.{word_called, word_moved, words_of}
use Rattle.rgo_core_memory.specs.Words.{clock_at, made_at}
use Rattle.rgo_sound.specs.Machine.Limits.{deepest, most_goroutines}
use Rattle.rgo_sound.specs.Machine.Lines.{printed_line}
use Rattle.rgo_sound.specs.Machine.declared.picks.End.TheVariants.{Exit}
use Rattle.rgo_sound.specs.RegionMachine.Owed.{code_function}
use Rattle.rgo_sound.specs.RegionMachine.States.{Duty, Ended, Stopped}
use Rattle.rgo_sound.specs.RegionMachine.declared.limits.Limit.{Limit}
use Rattle.rgo_sound.specs.RegionMachine.declared.limits.Limit.TheVariants.{Calls, Goroutines}
use Rattle.rgo_sound.specs.Tac.declared.regions.Class.{Class}
use Rattle.rgo_sound.specs.Typed.declared.statements.Piece.{Piece}
use Rattle.rgo_core.specs.runs.Causes.{ReachesLimit}
use Rattle.rgo_core.specs.Core.{Situation, Setup}
use Rattle.rgo_core.specs.Next.{IsAtOp}
use Rattle.rgo_core.specs.Records.{ClockRec, Record, begins_with, instructed, with_child, with_end, with_print, with_refusal}
use Rattle.rgo_core.specs.Steps.{IsStill, Moves, MovesEither}

-- the record after a print of these bytes, for which the clock was n
abbrev pub printed_by : (T : Setup) (c : Record) {op : CodeOp} → IsAtOp T.code c op → (bytes : List ℕ) → (clock : ℕ) → Record
printed_by T c a bytes n = record c {
  clock = with_print c.clock n bytes;
  frame = after_op T.code c.frame.holder a.w a.ws a.instr.op (word_moved a.w (a.w.next + 1) ∷ a.ws);
}

-- A print, of what the words of its operands show, draws a ticket. If the clock shows the end already, the bytes are kept as void.
abbrev pub PrintMove : Type 0
PrintMove = (T : Setup) (g : ℕ) (c : Record) (pieces : List Piece) (from removes : List ℕ)
    (a : IsAtOp T.code c (Print pieces from removes)) → c.side ≡ at_rest → length c.clock.prints < 2 ^ 43
    → Moves T g c clock_at (λ n. (n + 1) % 2 ^ 64)
    (λ n d. d ≡ printed_by T c a (printed_line pieces (printed_values a.fn a.w from)) n)

-- the record after it has started goroutine n, and that goroutine's, which runs this function
abbrev pub started_by : (T : Setup) (c : Record) {op : CodeOp} → IsAtOp T.code c op → (n : ℕ) → Record
started_by T c a n = record c {
  clock = with_child c.clock n;
  frame = after_op T.code c.frame.holder a.w a.ws a.instr.op (word_moved a.w (a.w.next + 1) ∷ a.ws);
}

abbrev pub first_in : List FrameRec → FrameRec
first_in [] = no_record
first_in (r ∷ rs) = r

abbrev pub child_of : (T : Setup) (c : Record) {op : CodeOp} → IsAtOp T.code c op → (function : ℕ) → CodeFn → (from : List ℕ) → Record
child_of T c {op} a f callee from =
    begins_with (first_in (child_records T.code c.frame.holder op (word_called callee f (words_of a.w from) ∷ [])))

-- A number is drawn for a goroutine, which starts with the arguments of its function; or there are as many as there may be. A
-- record draws no further number after a refusal, so that the word cannot grow without end.
abbrev pub StartMove : Type 0
StartMove = (T : Setup) (g : ℕ) (c : Record) (f : ℕ) (callee : CodeFn) (from : List ℕ) (passes : List Class) (removes : List ℕ)
    (a : IsAtOp T.code c (Go f from passes removes)) → code_function T.code f ≡ Some callee → c.side ≡ at_rest → c.clock.refused ≡ false
    → MovesEither T g c made_at (λ n. (n + 1) % 2 ^ 64)
    (λ n d. (most_goroutines T.limits ≤ n) × (d ≡ record c { clock = with_refusal c.clock }))
    (λ n d new. (n < most_goroutines T.limits) × (d ≡ started_by T c a n) × (new ≡ child_of T c a f callee from))

-- an instruction is counted, a duty is not
abbrev pub clock_after : List Duty → ClockRec → ClockRec
clock_after [] c = instructed c
clock_after (d ∷ ds) c = c

-- A local instruction or duty of the record that is not the return of `main` needs no access, if it leaves no more frames than
-- there may be. The bound is a premise here because the run of the rule stays within the limits.
abbrev pub LocalStill : Type 0
LocalStill = (T : Setup) (g : ℕ) (c : Record) (e : FrameRec) → c.side ≡ at_rest → quiet T.code g c.frame ≡ Some e
    → length e.frames ≤ deepest
    → IsStill T g c (record c { clock = clock_after c.frame.holder.duties c.clock; frame = e })

-- The return of `main` ends the run. It is a local step to the machine, but others have to see it, hence the access.
abbrev pub ExitMove : Type 0
ExitMove = (T : Setup) (g : ℕ) (c : Record) (e : FrameRec) → c.side ≡ at_rest → c.frame.holder.duties ≡ []
    → local T.code c.frame ≡ Some e → is_exit g e.frames ≡ true
    → Moves T g c clock_at (λ n. bit_or n (2 ^ 63))
    (λ n d. d ≡ record c { clock = with_end (instructed c.clock) n (Ended Exit); frame = e })

-- A run is ended for lack of room, or because it met a limit, if the cause holds whatever the rest of the table is; memory may
-- run out in any state.
abbrev pub StopMove : Type 0
StopMove = (T : Setup) (g : ℕ) (c : Record) (why : Limit) → ((x : Situation T g c) → ReachesLimit T.code T.sizes T.limits why x.s)
    → Moves T g c clock_at (λ n. bit_or n (2 ^ 63)) (λ n d. d ≡ record c { clock = with_end c.clock n (Stopped why) })

-- a goroutine that has as many frames as it may calls a function
abbrev pub CallsMove : Type 0
CallsMove = (T : Setup) (g : ℕ) (c : Record) (to : Option ℕ) (f : ℕ) (callee : CodeFn) (from : List ℕ) (passes : List Class)
    (protects removes : List ℕ) → IsAtOp T.code c (Call to f from passes protects removes) → code_function T.code f ≡ Some callee
    → length c.frame.frames ≡ deepest
    → Moves T g c clock_at (λ n. bit_or n (2 ^ 63)) (λ n d. d ≡ record c { clock = with_end c.clock n (Stopped Calls) })

-- A goroutine to which a number was refused starts another. There are still as many goroutines as there may be: one that has returned
-- stays in the machine's list.
abbrev pub FullMove : Type 0
FullMove = (T : Setup) (g : ℕ) (c : Record) (f : ℕ) (callee : CodeFn) (from : List ℕ) (passes : List Class) (removes : List ℕ)
    → IsAtOp T.code c (Go f from passes removes) → code_function T.code f ≡ Some callee → c.clock.refused ≡ true
    → Moves T g c clock_at (λ n. bit_or n (2 ^ 63)) (λ n d. d ≡ record c { clock = with_end c.clock n (Stopped Goroutines) })
