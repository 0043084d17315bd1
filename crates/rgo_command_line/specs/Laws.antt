-- Which words ask for a command, stated without a reader of words: the definition by `clap` is exact but long, and this is what a user
-- may rely on.
use Rattle.std.specs.Prelude.{◌≡◌, ◌⊎◌, ◌↔◌, ℕ, Bool, true, false, List, [], ◌∷◌, ◌++◌, Option, Some, None, codes}
use Rattle.std.specs.Prelude.{IsPermutation}
use Rattle.clap.specs.Words.{Text}
use Rattle.rgo_command_line.specs.Commands.{command_of}
use Rattle.rgo_command_line.specs.Limits.{PagesFit, big_by, default_options, goroutine_bounds, limit_by, page_bounds, page_word_bounds}
use Rattle.rgo_command_line.specs.Limits.{region_bounds, step_bounds, worker_bounds}
use Rattle.rgo_command_line.specs.declared.commands.Command.{Command}
use Rattle.rgo_command_line.specs.declared.commands.Command.TheVariants.{Run, Check, Emit, Code, Big, Record, Replay, RunCode}
use Rattle.rgo_command_line.specs.declared.limits.Bounds.{Bounds}
use Rattle.rgo_command_line.specs.declared.limits.RunOptions.{RunOptions}
use Rattle.rgo_machine.specs.declared.limits.Limits.{Limits}
use Rattle.rgo_machine.specs.declared.limits.Sizes.{Sizes}

-- the words that set the option of this name to this value: `--name value` or `--name=value`; without a value, no words
abbrev pub SetsOption : Text → Option Text → List Text → Type 0
SetsOption name None words = words ≡ []
SetsOption name (Some value) words =
    (words ≡ (codes "--" ++ name) ∷ value ∷ [])
    ⊎ (words ≡ (codes "--" ++ (name ++ (codes "=" ++ value))) ∷ [])

-- the words set the number of this option: to a value, or without words to its default
abbrev pub SetNumber : Text → Bounds → ℕ → List Text → Type 0
SetNumber name bounds n words = (value : Option Text) × (limit_by bounds value ≡ Some n) × SetsOption name value words

-- the word `--name` sets the flag of this name, and no words leave it unset
abbrev pub SetFlag : Text → Bool → List Text → Type 0
SetFlag name false words = words ≡ []
SetFlag name true words = words ≡ (codes "--" ++ name) ∷ []

-- the words of all groups, one group after the other
abbrev pub joined_groups : List (List Text) → List Text
joined_groups [] = []
joined_groups (group ∷ rest) = group ++ joined_groups rest

-- Words that set these options, each option at most once and in any order: each of the seven options
-- has a group of words, which is empty if the option does not occur, and the words are a permutation of
-- the seven groups, joined.
pub record SetOptions (options : RunOptions) (words : List Text) : Type 0 where
  pub steps : List Text
  pub goroutines : List Text
  pub pages : List Text
  pub page_words : List Text
  pub regions : List Text
  pub workers : List Text
  pub stats : List Text
  pub set_steps : SetNumber (codes "steps") step_bounds options.limits.steps steps
  pub set_goroutines : SetNumber (codes "goroutines") goroutine_bounds options.limits.goroutines goroutines
  pub set_pages : SetNumber (codes "pages") page_bounds options.sizes.pages pages
  pub set_page_words : SetNumber (codes "page-words") page_word_bounds options.sizes.page_words page_words
  pub set_regions : SetNumber (codes "regions") region_bounds options.sizes.regions regions
  pub set_workers : SetNumber (codes "workers") worker_bounds options.workers workers
  pub set_stats : SetFlag (codes "stats") options.stats stats
  pub fits : PagesFit options.sizes
  pub order : List (List Text)
  pub permuted : IsPermutation (steps ∷ goroutines ∷ pages ∷ page_words ∷ regions ∷ workers ∷ stats ∷ []) order
  pub whole : words ≡ joined_groups order

-- nothing, or a `--`
abbrev pub IsEnd : List Text → Type 0
IsEnd words = (words ≡ []) ⊎ (words ≡ codes "--" ∷ [])

-- any name of the program, the command's name, and nothing or a `--` after it
abbrev pub ArePlain : Text → List Text → Type 0
ArePlain name words = (program : Text) × (ending : List Text) × IsEnd ending × (words ≡ program ∷ name ∷ ending)

-- the words hold this number: alone, with a `--` after it, or with a `--` before it
abbrev pub HoldNumber : Text → List Text → Type 0
HoldNumber number words =
    (words ≡ number ∷ [])
    ⊎ ((words ≡ number ∷ codes "--" ∷ []) ⊎ (words ≡ codes "--" ∷ number ∷ []))

-- any name of the program, the name of a command that runs something, its options, and nothing or a `--` after them
abbrev pub AskToRun : Text → RunOptions → List Text → Type 0
AskToRun name options words = (program : Text) × (set ending : List Text)
    × SetOptions options set × IsEnd ending
    × (words ≡ program ∷ name ∷ (set ++ ending))

-- the same for `record`, with no word for the number of workers and none for the counts
abbrev pub AskToRecord : RunOptions → List Text → Type 0
AskToRecord options words = (program : Text) × (set ending : List Text)
    × (sets : SetOptions options set) × (sets.workers ≡ []) × (options.stats ≡ false) × IsEnd ending
    × (words ≡ program ∷ codes "record" ∷ (set ++ ending))

-- any name of the program, the command's name, and what the command takes: nothing, its options or its number
abbrev pub AreWordsOf : Command → List Text → Type 0
AreWordsOf (Run options) words = AskToRun (codes "run") options words
AreWordsOf (RunCode options) words = AskToRun (codes "runcode") options words
AreWordsOf (Record options) words = AskToRecord options words
AreWordsOf Check words = ArePlain (codes "check") words
AreWordsOf Emit words = ArePlain (codes "emit") words
AreWordsOf Code words = ArePlain (codes "code") words
AreWordsOf Replay words = ArePlain (codes "replay") words
AreWordsOf (Big n) words = (program number : Text) × (held : List Text)
    × (big_by number ≡ Some n) × HoldNumber number held
    × (words ≡ program ∷ codes "big" ∷ held)

-- these words ask for the command, and no others
abbrev pub AskExactly : Type 0
AskExactly = (words : List Text) (command : Command)
    → (command_of words ≡ Some command) ↔ AreWordsOf command words

-- after any name of the program these words ask for this
abbrev pub Ask : List Text → Option Command → Type 0
Ask words wanted = (program : Text) → command_of (program ∷ words) ≡ wanted

-- after any name of the program these words ask for a run with these options
abbrev pub AskForRun : List Text → RunOptions → Type 0
AskForRun words options = Ask (codes "run" ∷ words) (Some (Run options))

abbrev with_limits : Limits → RunOptions
with_limits limits = record default_options { limits = limits }

abbrev with_sizes : Sizes → RunOptions
with_sizes sizes = record default_options { sizes = sizes }

abbrev with_workers : ℕ → RunOptions
with_workers n = record default_options { workers = n }

-- some of the words that ask for a command
pub record AskForCommands : Type 0 where
  pub run : AskForRun [] default_options
  pub run_ended : AskForRun (codes "--" ∷ []) default_options
  pub apart : AskForRun (codes "--steps" ∷ codes "5" ∷ [])
      (with_limits (record { steps = 5; goroutines = 100000 }))
  pub joined : AskForRun (codes "--steps=5" ∷ [])
      (with_limits (record { steps = 5; goroutines = 100000 }))
  pub zeros : AskForRun (codes "--goroutines" ∷ codes "007" ∷ [])
      (with_limits (record { steps = 4398046511104; goroutines = 7 }))
  pub both : AskForRun (codes "--goroutines=1000000" ∷ codes "--steps" ∷ codes "1" ∷ codes "--" ∷ [])
      (with_limits (record { steps = 1; goroutines = 1000000 }))
  pub stats : AskForRun (codes "--stats" ∷ []) (record default_options { stats = true })
  pub one_page : AskForRun (codes "--pages=1" ∷ codes "--stats" ∷ [])
      (record default_options { sizes = record { page_words = 256; pages = 1; regions = 65536 }; stats = true })
  pub least_page : AskForRun (codes "--page-words" ∷ codes "16" ∷ [])
      (with_sizes (record { page_words = 16; pages = 4096; regions = 65536 }))
  pub most_page : AskForRun (codes "--page-words=4096" ∷ [])
      (with_sizes (record { page_words = 4096; pages = 4096; regions = 65536 }))
  pub most_words : AskForRun (codes "--pages=65536" ∷ codes "--page-words=256" ∷ [])
      (with_sizes (record { page_words = 256; pages = 65536; regions = 65536 }))
  pub workers : AskForRun (codes "--workers" ∷ codes "2" ∷ []) (with_workers 2)
  pub workers_joined : AskForRun (codes "--workers=2" ∷ []) (with_workers 2)
  pub least_workers : AskForRun (codes "--workers" ∷ codes "1" ∷ []) (with_workers 1)
  pub most_workers : AskForRun (codes "--workers=64" ∷ []) (with_workers 64)
  pub all : AskForRun (codes "--stats" ∷ codes "--regions" ∷ codes "3" ∷ codes "--page-words=64"
      ∷ codes "--goroutines=2" ∷ codes "--workers" ∷ codes "7" ∷ codes "--pages" ∷ codes "5"
      ∷ codes "--steps=9" ∷ codes "--" ∷ [])
      (record {
        limits = record { steps = 9; goroutines = 2 };
        sizes = record { page_words = 64; pages = 5; regions = 3 };
        workers = 7;
        stats = true;
      })
  pub run_code : Ask (codes "runcode" ∷ []) (Some (RunCode default_options))
  pub run_code_ended : Ask (codes "runcode" ∷ codes "--" ∷ []) (Some (RunCode default_options))
  pub run_code_workers : Ask (codes "runcode" ∷ codes "--workers" ∷ codes "2" ∷ []) (Some (RunCode (with_workers 2)))
  pub run_code_all : Ask (codes "runcode" ∷ codes "--stats" ∷ codes "--regions" ∷ codes "3" ∷ codes "--page-words=64"
      ∷ codes "--goroutines=2" ∷ codes "--workers" ∷ codes "7" ∷ codes "--pages" ∷ codes "5"
      ∷ codes "--steps=9" ∷ codes "--" ∷ [])
      (Some (RunCode (record {
        limits = record { steps = 9; goroutines = 2 };
        sizes = record { page_words = 64; pages = 5; regions = 3 };
        workers = 7;
        stats = true;
      })))
  pub check : Ask (codes "check" ∷ []) (Some Check)
  pub check_ended : Ask (codes "check" ∷ codes "--" ∷ []) (Some Check)
  pub emit : Ask (codes "emit" ∷ []) (Some Emit)
  pub emit_ended : Ask (codes "emit" ∷ codes "--" ∷ []) (Some Emit)
  pub code : Ask (codes "code" ∷ []) (Some Code)
  pub code_ended : Ask (codes "code" ∷ codes "--" ∷ []) (Some Code)
  pub recorded : Ask (codes "record" ∷ []) (Some (Record default_options))
  pub recorded_ended : Ask (codes "record" ∷ codes "--" ∷ []) (Some (Record default_options))
  pub recorded_steps : Ask (codes "record" ∷ codes "--steps=5" ∷ [])
      (Some (Record (with_limits (record { steps = 5; goroutines = 100000 }))))
  pub replay : Ask (codes "replay" ∷ []) (Some Replay)
  pub replay_ended : Ask (codes "replay" ∷ codes "--" ∷ []) (Some Replay)
  pub big : Ask (codes "big" ∷ codes "10" ∷ []) (Some (Big 10))
  pub big_ended : Ask (codes "big" ∷ codes "10" ∷ codes "--" ∷ []) (Some (Big 10))
  pub big_behind : Ask (codes "big" ∷ codes "--" ∷ codes "10" ∷ []) (Some (Big 10))
  pub big_zeros : Ask (codes "big" ∷ codes "007" ∷ []) (Some (Big 7))
  pub least_big : Ask (codes "big" ∷ codes "1" ∷ []) (Some (Big 1))
  pub most_big : Ask (codes "big" ∷ codes "10000" ∷ []) (Some (Big 10000))

-- some of the words that ask for nothing
pub record AskForNothing : Type 0 where
  pub no_words : command_of [] ≡ None
  pub no_command : Ask [] None
  pub help : Ask (codes "help" ∷ []) None
  pub help_flag : Ask (codes "--help" ∷ []) None
  pub version_flag : Ask (codes "--version" ∷ []) None
  pub unknown : Ask (codes "build" ∷ []) None
  pub twice : Ask (codes "run" ∷ codes "run" ∷ []) None
  pub before : Ask (codes "--steps=5" ∷ codes "run" ∷ []) None
  pub check_option : Ask (codes "check" ∷ codes "--steps=5" ∷ []) None
  pub check_workers : Ask (codes "check" ∷ codes "--workers=2" ∷ []) None
  pub emit_option : Ask (codes "emit" ∷ codes "--steps=5" ∷ []) None
  pub code_option : Ask (codes "code" ∷ codes "--steps=5" ∷ []) None
  pub record_workers : Ask (codes "record" ∷ codes "--workers=4" ∷ []) None
  pub record_stats : Ask (codes "record" ∷ codes "--stats" ∷ []) None
  pub record_no_steps : Ask (codes "record" ∷ codes "--steps=0" ∷ []) None
  pub replay_option : Ask (codes "replay" ∷ codes "--steps=5" ∷ []) None
  pub replay_twice : Ask (codes "replay" ∷ codes "replay" ∷ []) None
  pub two_commands : Ask (codes "emit" ∷ codes "code" ∷ []) None
  pub code_apart : Ask (codes "run" ∷ codes "code" ∷ []) None
  pub run_code_twice : Ask (codes "runcode" ∷ codes "runcode" ∷ []) None
  pub run_code_option_twice : Ask (codes "runcode" ∷ codes "--steps=5" ∷ codes "--steps=5" ∷ []) None
  pub run_code_no_steps : Ask (codes "runcode" ∷ codes "--steps=0" ∷ []) None
  pub run_code_many_workers : Ask (codes "runcode" ∷ codes "--workers=65" ∷ []) None
  pub option_twice : Ask (codes "run" ∷ codes "--steps=5" ∷ codes "--steps=5" ∷ []) None
  pub no_steps : Ask (codes "run" ∷ codes "--steps=0" ∷ []) None
  pub many_steps : Ask (codes "run" ∷ codes "--steps=4398046511105" ∷ []) None
  pub many_goroutines : Ask (codes "run" ∷ codes "--goroutines=1000001" ∷ []) None
  pub no_word_holds : Ask (codes "run" ∷ codes "--steps=18446744073709551617" ∷ []) None
  pub signed : Ask (codes "run" ∷ codes "--steps=+5" ∷ []) None
  pub empty : Ask (codes "run" ∷ codes "--steps=" ∷ []) None
  pub no_pages : Ask (codes "run" ∷ codes "--pages=0" ∷ []) None
  pub many_pages : Ask (codes "run" ∷ codes "--pages=65537" ∷ []) None
  pub small_page : Ask (codes "run" ∷ codes "--page-words=15" ∷ []) None
  pub large_page : Ask (codes "run" ∷ codes "--page-words=4097" ∷ []) None
  pub no_regions : Ask (codes "run" ∷ codes "--regions=0" ∷ []) None
  pub many_regions : Ask (codes "run" ∷ codes "--regions=65537" ∷ []) None
  pub no_workers : Ask (codes "run" ∷ codes "--workers=0" ∷ []) None
  pub many_workers : Ask (codes "run" ∷ codes "--workers=65" ∷ []) None
  pub workers_empty : Ask (codes "run" ∷ codes "--workers=" ∷ []) None
  pub workers_alone : Ask (codes "run" ∷ codes "--workers" ∷ []) None
  pub workers_twice : Ask (codes "run" ∷ codes "--workers=2" ∷ codes "--workers" ∷ codes "2" ∷ []) None
  pub many_words : Ask (codes "run" ∷ codes "--pages=65536" ∷ codes "--page-words=257" ∷ []) None
  pub stats_value : Ask (codes "run" ∷ codes "--stats=true" ∷ []) None
  pub stats_apart : Ask (codes "run" ∷ codes "--stats" ∷ codes "true" ∷ []) None
  pub stats_twice : Ask (codes "run" ∷ codes "--stats" ∷ codes "--stats" ∷ []) None
  pub big_alone : Ask (codes "big" ∷ []) None
  pub big_without : Ask (codes "big" ∷ codes "--" ∷ []) None
  pub big_none : Ask (codes "big" ∷ codes "0" ∷ []) None
  pub too_big : Ask (codes "big" ∷ codes "10001" ∷ []) None
  pub no_word_holds_big : Ask (codes "big" ∷ codes "18446744073709551617" ∷ []) None
  pub big_signed : Ask (codes "big" ∷ codes "+5" ∷ []) None
  pub big_below : Ask (codes "big" ∷ codes "--" ∷ codes "-5" ∷ []) None
  pub big_empty : Ask (codes "big" ∷ [] ∷ []) None
  pub big_twice : Ask (codes "big" ∷ codes "5" ∷ codes "5" ∷ []) None
  pub big_twice_apart : Ask (codes "big" ∷ codes "5" ∷ codes "--" ∷ codes "5" ∷ []) None
  pub big_option : Ask (codes "big" ∷ codes "--steps=5" ∷ codes "5" ∷ []) None
  pub big_option_after : Ask (codes "big" ∷ codes "5" ∷ codes "--stats" ∷ []) None
  pub big_workers : Ask (codes "big" ∷ codes "5" ∷ codes "--workers=2" ∷ []) None
