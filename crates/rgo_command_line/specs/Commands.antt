-- What the words of a command line ask for, and what a reader of them returns.
use Rattle.std.specs.Prelude.{⊤, ◌≡◌, Bool, true, false, List, [], ◌∷◌, Option, Some, None, Result, MatchResult, codes}
use Rattle.std.specs.Prelude.{if◌then◌else◌, option_and_then, option_map}
use Rattle.std.specs.Str.{bytes_eq}
use Rattle.clap.specs.Words.{Kinds, Row, Text, fault_of, subcommand_of}
use Rattle.rgo_command_line.specs.Limits.{IsBig, LieInBounds, big_of, options_of, recording_of}
use Rattle.rgo_command_line.specs.Parser.{parser}
use Rattle.rgo_command_line.specs.declared.commands.Command.{Command}
use Rattle.rgo_command_line.specs.declared.commands.Command.TheVariants.{Run, Check, Emit, Code, Big, Record, Replay, RunCode}
use Rattle.rgo_command_line.specs.declared.commands.WordsError.{WordsError}
use Rattle.rgo_command_line.specs.declared.commands.WordsError.TheVariants.{Usage}

-- the command of a name, by what was found for its options
abbrev pub command_named : Text → List Row → Option Command
command_named name rows =
    if bytes_eq name (codes "run") then option_map Run (options_of rows)
    else (if bytes_eq name (codes "check") then Some Check
    else (if bytes_eq name (codes "emit") then Some Emit
    else (if bytes_eq name (codes "code") then Some Code
    else (if bytes_eq name (codes "big") then option_map Big (big_of rows)
    else (if bytes_eq name (codes "record") then option_map Record (recording_of rows)
    else (if bytes_eq name (codes "replay") then Some Replay
    else (if bytes_eq name (codes "runcode") then option_map RunCode (options_of rows) else None)))))))

-- the command of the subcommand that was met, if any
abbrev pub command_met : Option (Text × List Row) → Option Command
command_met = option_and_then (λ met. command_named met.0 met.1)

-- some kind of error applies to the words
abbrev pub has_fault : Kinds → Bool
has_fault [] = false
has_fault (kind ∷ rest) = true

-- `clap` refuses the words, whatever memory there is
abbrev pub is_refused : List Text → Bool
is_refused words = has_fault (fault_of parser words)

-- what the words ask for, if anything; the first is the program's name
abbrev pub command_of : List Text → Option Command
command_of words = if is_refused words then None else command_met (subcommand_of parser words)

-- The command that the words ask for is returned, and `Usage` only if they ask for nothing. `NoMemory` needs no cause.
abbrev pub ReadsCommand : List Text → Result Command WordsError → Type 0
ReadsCommand words answer = MatchResult answer
    (λ command. command_of words ≡ Some command)
    (λ error. error ≡ Usage → command_of words ≡ None)

-- the numbers of a command lie in their bounds
abbrev pub KeepsBounds : Command → Type 0
KeepsBounds (Run options) = LieInBounds options
KeepsBounds (Big n) = IsBig n
KeepsBounds (RunCode options) = LieInBounds options
KeepsBounds (Record options) = LieInBounds options × (options.stats ≡ false)
KeepsBounds _ = ⊤
