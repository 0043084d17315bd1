-- The command line as data of `clap`: which words it takes, and as what.
use Rattle.std.specs.Prelude.{Some, true, codes}
use Rattle.clap.specs.Words.{App, Rule, Text, new_app, new_rule, with_rule, with_subcommand}
use Rattle.clap.specs.declared.builder.action.ArgAction.TheVariants.{Set, SetTrue}

-- an option `--name N`, of which the words may have one
abbrev pub number_option : Text → Rule
number_option name = record (new_rule name) { long = Some name; action = Some Set }

-- an option `--name` without a value, of which the words may have one
abbrev pub flag_option : Text → Rule
flag_option name = record (new_rule name) { long = Some name; action = Some SetTrue }

-- a required word that is not an option
abbrev pub required_word : Text → Rule
required_word name = record (new_rule name) { action = Some Set; required = true }

-- a command that runs something, with the options of a run
abbrev pub run_parser : Text → App
run_parser name = with_rule (with_rule (with_rule (with_rule (with_rule (with_rule (with_rule (new_app name)
    (number_option (codes "steps"))) (number_option (codes "goroutines"))) (number_option (codes "pages")))
    (number_option (codes "page-words"))) (number_option (codes "regions"))) (number_option (codes "workers")))
    (flag_option (codes "stats"))

-- `big`, with its number of goroutines
abbrev pub big_parser : App
big_parser = with_rule (new_app (codes "big")) (required_word (codes "goroutines"))

-- the program, with no help and no version of its own
abbrev pub bare_parser : App
bare_parser = record (new_app (codes "rgo")) {
  top = record (new_app (codes "rgo")).top {
    disable_help_flag = true;
    disable_version_flag = true;
    disable_help_subcommand = true;
  };
}

-- with a subcommand that has no options
abbrev pub with_plain : App → Text → App
with_plain app name = with_subcommand app (new_app name).top

-- one level of subcommands, of which `run`, `record` and `runcode` have options, and `big` has a number
abbrev pub parser : App
parser = with_subcommand (with_plain (with_subcommand (with_subcommand (with_plain (with_plain (with_plain
    (with_subcommand bare_parser (run_parser (codes "run")).top)
    (codes "check")) (codes "emit")) (codes "code")) big_parser.top) (run_parser (codes "record")).top)
    (codes "replay")) (run_parser (codes "runcode")).top
