-- The status of each ending, and its lines on `err`. All commands report by this table; `replay` adds a few lines (Replayed.antt).
use Rattle.std.specs.Prelude.{ℕ, Bool, ◌||◌, List, [], ◌++◌, Option, None, Some, codes, decimal, ◌==◌}
use Rattle.rgo_lexer.specs.LexicalKinds as kinds
use Rattle.rgo_typing_rules.specs.RuleNames as rules
use Rattle.rgo_memory.specs.Traps as traps
use Rattle.rgo_machine.specs.declared.picks.End.TheVariants as the_end
use Rattle.rgo_machine.specs.declared.limits.Shortage.TheVariants as shortage
use Rattle.rgo_machine.specs.declared.ends.RunEnd.{RunEnd}
use Rattle.rgo_machine.specs.declared.ends.RunEnd.TheVariants as run_end
use Rattle.rgo_run.specs.declared.endings.Ending.{Ending}
use Rattle.rgo_run.specs.declared.endings.TextKind.{TextKind}
use Rattle.rgo_run.specs.declared.endings.TextKind.TheVariants as text_kind
use Rattle.rgo_code.specs.Checked.{rule_number}
use Rattle.rgo_run.specs.declared.endings.Ending.TheVariants.{Valid, Ran, Usage, ReadFault, Refused, CodeRefused, WriteFault, NoMemory}
use Rattle.rgo_run.specs.declared.refusals.CodeTextRefusal.{CodeTextRefusal}
use Rattle.rgo_run.specs.declared.refusals.CodeTextRefusal.TheVariants as code_refusal
use Rattle.rgo_run.specs.declared.refusals.TextRefusal.{TextRefusal}
use Rattle.rgo_run.specs.declared.refusals.TextRefusal.TheVariants as refusal
use Rattle.rgo_region_machine.specs.declared.tallies.Tally.{Tally}
use Rattle.rgo_run.specs.Positions.{position_of}

-- the status of a run's end; its line is `line_of_run`
abbrev pub status_of_run : RunEnd → ℕ
status_of_run (run_end.Ended the_end.Exit) = 0
status_of_run (run_end.Ended (the_end.Trap trap at)) = 2
status_of_run run_end.Deadlock = 3
status_of_run (run_end.NoRoom shortage.Pages) = 4
status_of_run (run_end.NoRoom shortage.Regions) = 5
status_of_run (run_end.NoRoom shortage.ObjectSize) = 6
status_of_run run_end.CallsTooDeep = 7
status_of_run run_end.StepsSpent = 8
status_of_run run_end.GoroutinesSpent = 12
status_of_run run_end.WriteFault = 10
status_of_run run_end.NoMemory = 11

-- the status of a call's end; its line is `line_of`
abbrev pub status_of : Ending → ℕ
status_of Valid = 0
status_of (Ran kind end stats) = status_of_run end
status_of Usage = 64
status_of ReadFault = 9
status_of (Refused why) = 1
status_of (CodeRefused why) = 1
status_of WriteFault = 10
status_of NoMemory = 11

-- a status that only a run returns; 0, 10 and 11 are not among them, since other endings have them, too
abbrev pub is_run_status : ℕ → Bool
is_run_status status =
    status == 2 || status == 3 || status == 4 || status == 5 || status == 6 || status == 7 || status == 8 || status == 12

-- a read or a write failed
abbrev pub is_fault_status : ℕ → Bool
is_fault_status status = status == 9 || status == 10

-- a message at a place of a text: `rgo: LINE:COLUMN: ` and the message
abbrev pub positioned : List ℕ → ℕ → List ℕ → List ℕ
positioned text at message =
    codes "rgo: " ++ (decimal (position_of text at).line
    ++ (codes ":" ++ (decimal (position_of text at).column ++ (codes ": " ++ message))))

-- a message at an instruction of a code text: `rgo: @PLACE: ` and the message; PLACE is the number in the text
abbrev pub placed_message : ℕ → List ℕ → List ℕ
placed_message at message = codes "rgo: @" ++ (decimal at ++ (codes ": " ++ message))

-- a message at a place, as a text of this kind reports places
abbrev pub located : TextKind → List ℕ → ℕ → List ℕ → List ℕ
located text_kind.Go text at message = positioned text at message
located text_kind.Code text at message = placed_message at message

-- a message that consists of a kind, a number and a name, such as a typing rule
abbrev pub kind_line : List ℕ → ℕ → List ℕ → List ℕ
kind_line kind number name = kind ++ (codes " " ++ (decimal number ++ (codes " " ++ (name ++ codes "\n"))))

-- a message on a line of a code text or a journal: `rgo: line LINE: ` and the message
abbrev pub numbered_line : ℕ → List ℕ → List ℕ
numbered_line line message = codes "rgo: line " ++ (decimal line ++ (codes ": " ++ message))

-- the line of a run's end; empty if `main` returned
abbrev pub line_of_run : TextKind → List ℕ → RunEnd → List ℕ
line_of_run kind text (run_end.Ended the_end.Exit) = []
line_of_run kind text (run_end.Ended (the_end.Trap trap at)) =
    located kind text at (kind_line (codes "trap") (traps.trap_number trap) (traps.trap_name trap))
line_of_run kind text run_end.Deadlock = codes "rgo: deadlock\n"
line_of_run kind text (run_end.NoRoom shortage.Pages) = codes "rgo: pages spent\n"
line_of_run kind text (run_end.NoRoom shortage.Regions) = codes "rgo: regions spent\n"
line_of_run kind text (run_end.NoRoom shortage.ObjectSize) = codes "rgo: object too large\n"
line_of_run kind text run_end.CallsTooDeep = codes "rgo: calls too deep\n"
line_of_run kind text run_end.StepsSpent = codes "rgo: steps spent\n"
line_of_run kind text run_end.GoroutinesSpent = codes "rgo: goroutines spent\n"
line_of_run kind text run_end.WriteFault = codes "rgo: write failed\n"
line_of_run kind text run_end.NoMemory = codes "rgo: out of memory\n"

-- the part of the line of counts that is about regions and pages
abbrev pub regions_made : Tally → List ℕ
regions_made tally =
    codes "regions " ++ (decimal tally.made ++ (codes " removed " ++ (decimal tally.removed
    ++ (codes " pages " ++ (decimal tally.taken ++ (codes " returned " ++ (decimal tally.returned ++ codes " ")))))))

-- the rest of that line
abbrev pub others_made : Tally → List ℕ
others_made tally =
    codes "objects " ++ (decimal tally.objects ++ (codes " goroutines " ++ (decimal tally.goroutines ++ codes "\n")))

-- the line of a run's counts, and then these lines
abbrev pub stats_lines : Tally → (lines : List ℕ) → List ℕ
stats_lines tally lines = codes "rgo: " ++ (regions_made tally ++ (others_made tally ++ lines))

-- the line of a run's end, after that of its counts; `None` if no counts were asked for, or if there was no memory for their line
abbrev pub lines_of_run : TextKind → List ℕ → RunEnd → Option Tally → List ℕ
lines_of_run kind text end None = line_of_run kind text end
lines_of_run kind text end (Some tally) = stats_lines tally (line_of_run kind text end)

-- the line of a rejected text
abbrev pub line_of_refusal : List ℕ → TextRefusal → List ℕ
line_of_refusal text refusal.TooLong = codes "rgo: text longer than 1048576 bytes\n"
line_of_refusal text (refusal.Lexical why) =
    positioned text why.at (kind_line (codes "lexical") (kinds.lexical_kind_number why.kind) (kinds.lexical_kind_name why.kind))
line_of_refusal text (refusal.Syntax at) = positioned text at (codes "syntax\n")
line_of_refusal text (refusal.Nesting at) = positioned text at (codes "nesting\n")
line_of_refusal text (refusal.Typing why) =
    positioned text why.at (kind_line (codes "type") (rules.typing_rule_number why.rule) (rules.typing_rule_name why.rule))

-- the line of a rejected code text
abbrev pub line_of_code_refusal : CodeTextRefusal → List ℕ
line_of_code_refusal code_refusal.TooLong = codes "rgo: text longer than 67108864 bytes\n"
line_of_code_refusal (code_refusal.NoForm line) = numbered_line line (codes "code text\n")
line_of_code_refusal (code_refusal.Breaks why) =
    numbered_line why.line (codes "code " ++ (decimal (rule_number why.rule) ++ codes "\n"))

-- The lines of an ending. It is one line, or none if `main` returned, the text was only checked, or its code was printed. The line
-- of counts comes before it if `--stats` asked for it.
abbrev pub line_of : List ℕ → Ending → List ℕ
line_of text Valid = []
line_of text (Ran kind end stats) = lines_of_run kind text end stats
line_of text Usage = codes "usage: rgo run [--steps N] [--pages N] [--page-words N] [--regions N] [--goroutines N] [--workers N] [--stats] | check | emit | code | big N | record [--steps N] [--pages N] [--page-words N] [--regions N] [--goroutines N] | replay | runcode [--steps N] [--pages N] [--page-words N] [--regions N] [--goroutines N] [--workers N] [--stats]\n"
line_of text ReadFault = codes "rgo: read failed\n"
line_of text (Refused why) = line_of_refusal text why
line_of text (CodeRefused why) = line_of_code_refusal why
line_of text WriteFault = codes "rgo: write failed\n"
line_of text NoMemory = codes "rgo: out of memory\n"
