-- The words after a command's name are checked at that command's own level alone. `clap` walks through all words from the top; by this
-- the other proofs begin after the name, and `runcode` and `record` share those of `run`.
use Rattle.std.proofs.Common.{◌≡◌, ◌∙◌, refl, sym, ap, ap₂, codes, cond, Bool, true}
use Rattle.std.proofs.Common.{false, List, [], ◌∷◌, ◌++◌, Option, Some, None}
use Rattle.std.proofs.Common.{append-nil, append_assoc, option_map}
use Rattle.std.specs.List.{fold}
use Rattle.std.specs.Prelude.{◌||◌, if◌then◌else◌, is_some, option_and_then}
use Rattle.std.specs.Str.{bytes_eq}
use Rattle.clap.specs.Words.{App, Kinds, Row, Shape, Text, built, first_of}
use Rattle.clap.specs.Kinds.{or_else}
use Rattle.clap.specs.Simple.{built_leaf, entered, inherited, names_of, new_shape}
use Rattle.clap.specs.Walk.{Names, Walk, finished, nothing_held, rows_after, settled, walk, walk_from, walked}
use Rattle.clap.specs.Faults.{check_fault, defaults_fault, entered_fault, level_fault}
use Rattle.clap.specs.Faults.{settle_fault, turn_fault, walk_fault}
use Rattle.clap.proofs.OnLiterals.{clap_on_literals}
use Rattle.rgo_command_line.specs.Commands.{command_met, command_of, has_fault}
use Rattle.rgo_command_line.specs.Limits.{big_of, options_of, recording_of}
use Rattle.rgo_command_line.specs.Parser.{bare_parser, big_parser, parser, run_parser}
use Rattle.rgo_command_line.specs.declared.commands.Command.{Command}
use Rattle.rgo_command_line.specs.declared.limits.RunOptions.{RunOptions}
use Rattle.rgo_command_line.specs.declared.commands.Command.TheVariants.{Run, Check, Emit, Code, Big, Record, Replay, RunCode}
use Rattle.rgo_command_line.proofs.StrayLemmas.{stray, with_first}

abbrev app : App
app = built parser

abbrev top : Shape
top = app.top

abbrev names : Names
names = names_of app

-- the commands, as they are built
abbrev pub run_leaf : Shape
run_leaf = built_leaf (inherited bare_parser.top (run_parser (codes "run")).top)

abbrev pub run_code_leaf : Shape
run_code_leaf = built_leaf (inherited bare_parser.top (run_parser (codes "runcode")).top)

abbrev pub record_leaf : Shape
record_leaf = built_leaf (inherited bare_parser.top (run_parser (codes "record")).top)

abbrev pub big_leaf : Shape
big_leaf = built_leaf (inherited bare_parser.top big_parser.top)

-- the commands without options
pub data Plain : Type 0 where
  check : Plain
  emit : Plain
  code : Plain
  replay : Plain

abbrev pub name_of : Plain → Text
name_of check = codes "check"
name_of emit = codes "emit"
name_of code = codes "code"
name_of replay = codes "replay"

abbrev pub plain_command : Plain → Command
plain_command check = Check
plain_command emit = Emit
plain_command code = Code
plain_command replay = Replay

abbrev leaf : Plain → Shape
leaf p = built_leaf (inherited bare_parser.top (new_shape (name_of p)))

-- the walk over the words does not move once it has met a command
abbrev stopped_at : Text → List Text → Walk
stopped_at n acc = record (walk_from nothing_held) { stopped = Some (n, acc) }

stays : (n : Text) (acc rest : List Text)
    → fold (walked top.rules names) (stopped_at n acc) rest ≡ stopped_at n (acc ++ rest)
unfolding clap_on_literals
stays n acc [] = ap (stopped_at n) (sym (append-nil acc))
stays n acc (x ∷ xs) = stays n (acc ++ x ∷ []) xs ∙ ap (stopped_at n) (append_assoc acc (x ∷ []) xs)

no_fault : (n : Text) (acc rest : List Text) → walk_fault top names (stopped_at n acc) rest ≡ []
unfolding clap_on_literals
no_fault n acc [] = refl
no_fault n acc (x ∷ xs) = no_fault n (acc ++ x ∷ []) xs

-- what is wrong after the walk, by where it ended
abbrev end_fault : Walk → Kinds
end_fault w =
    or_else (settle_fault top.rules top.args_override_self w.held)
    (or_else (defaults_fault (settled top.rules w.held).rows top.rules)
    (check_fault top (finished top.rules w.held) (is_some (entered app w.stopped))))

-- the command by where the walk ended, and by what was wrong on its way
abbrev whole : Walk → Kinds → Option Command
whole w k =
    cond (has_fault (or_else k (or_else (entered_fault app w.stopped) (end_fault w))))
    None (command_met (entered app w.stopped))

pub just_one : (k : Kinds) → has_fault (or_else k []) ≡ has_fault k
just_one [] = refl
just_one (x ∷ xs) = refl

-- what is wrong with the words after a command
abbrev pub rest_fault : Shape → List Text → Kinds
rest_fault leaf rest = level_fault leaf [] nothing_held rest false []

-- What the words after `run` set: its options, and whether the number of workers is given.
abbrev pub Met : Type 0
Met = RunOptions × Bool

abbrev pub run_met : List Row → Option Met
run_met rows = option_map (λ options. (options, is_some (first_of (codes "workers") rows))) (options_of rows)

-- the commands with these options
abbrev pub of_run : Met → Option Command
of_run met = Some (Run met.0)

abbrev pub of_code : Met → Option Command
of_code met = Some (RunCode met.0)

abbrev pub of_record : Met → Option Command
of_record met = if met.1 || met.0.stats then None else Some (Record met.0)

-- what is wrong with the words comes first
by_fault : (b : Bool) (x : Option Command) (f : Met → Option Command) (m : Option Met) → x ≡ option_and_then f m
    → cond b None x ≡ option_and_then f (cond b None m)
by_fault true x f m e = refl
by_fault false x f m e = e

met_of_run : (rows : List Row) → option_map Run (options_of rows) ≡ option_and_then of_run (run_met rows)
met_of_run rows = by_options (options_of rows)
  where
    by_options : (o : Option RunOptions)
        → option_map Run o
        ≡ option_and_then of_run (option_map (λ options. (options, is_some (first_of (codes "workers") rows))) o)
    by_options None = refl
    by_options (Some options) = refl

met_of_code : (rows : List Row) → option_map RunCode (options_of rows) ≡ option_and_then of_code (run_met rows)
met_of_code rows = by_options (options_of rows)
  where
    by_options : (o : Option RunOptions)
        → option_map RunCode o
        ≡ option_and_then of_code (option_map (λ options. (options, is_some (first_of (codes "workers") rows))) o)
    by_options None = refl
    by_options (Some options) = refl

met_of_record : (rows : List Row) → option_map Record (recording_of rows) ≡ option_and_then of_record (run_met rows)
met_of_record rows = by_options (options_of rows)
  where
    given : Bool
    given = is_some (first_of (codes "workers") rows)

    by_given : (b : Bool) (options : RunOptions)
        → option_map Record (if b then None else Some options) ≡ (if b then None else Some (Record options))
    by_given true options = refl
    by_given false options = refl

    by_options : (o : Option RunOptions)
        → option_map Record (option_and_then (λ options. if given || options.stats then None else Some options) o)
        ≡ option_and_then of_record (option_map (λ options. (options, given)) o)
    by_options None = refl
    by_options (Some options) = by_given (given || options.stats) options

pub after_run : (program : Text) (rest : List Text)
    → command_of (program ∷ codes "run" ∷ rest)
    ≡ option_and_then of_run
    (cond (has_fault (rest_fault run_leaf rest)) None (run_met (rows_after run_leaf.rules [] rest)))
unfolding clap_on_literals
after_run program rest =
    ap₂ whole (stays (codes "run") [] rest) (no_fault (codes "run") [] rest)
    ∙ ap (λ b. cond b None (option_map Run (options_of rows))) (just_one (rest_fault run_leaf rest))
    ∙ by_fault (has_fault (rest_fault run_leaf rest)) (option_map Run (options_of rows)) of_run (run_met rows)
    (met_of_run rows)
  where
    rows : List Row
    rows = rows_after run_leaf.rules [] rest

-- `runcode` refuses the same words as `run`
same_walk_run_code : (w : Walk) (rest : List Text) → walk_fault run_code_leaf [] w rest ≡ walk_fault run_leaf [] w rest
unfolding walk_fault
same_walk_run_code w [] = refl
same_walk_run_code w (x ∷ xs) =
    ap (or_else (turn_fault run_leaf [] w x)) (same_walk_run_code (walked run_leaf.rules [] w x) xs)

same_fault_run_code : (rest : List Text) → rest_fault run_code_leaf rest ≡ rest_fault run_leaf rest
same_fault_run_code rest =
    let end = (walk run_leaf.rules [] nothing_held rest).held in
    ap (λ k. or_else k (or_else (settle_fault run_leaf.rules run_leaf.args_override_self end)
    (or_else (defaults_fault (settled run_leaf.rules end).rows run_leaf.rules)
    (check_fault run_leaf (finished run_leaf.rules end) false)))) (same_walk_run_code (walk_from nothing_held) rest)

-- after `runcode` the same words ask for the same options as after `run`
pub after_run_code : (program : Text) (rest : List Text)
    → command_of (program ∷ codes "runcode" ∷ rest)
    ≡ option_and_then of_code
    (cond (has_fault (rest_fault run_leaf rest)) None (run_met (rows_after run_leaf.rules [] rest)))
unfolding clap_on_literals
after_run_code program rest =
    ap₂ whole (stays (codes "runcode") [] rest) (no_fault (codes "runcode") [] rest)
    ∙ ap (λ b. cond b None (option_map RunCode (options_of rows)))
    (just_one (rest_fault run_code_leaf rest) ∙ ap has_fault (same_fault_run_code rest))
    ∙ by_fault (has_fault (rest_fault run_leaf rest)) (option_map RunCode (options_of rows)) of_code (run_met rows) (met_of_code rows)
  where
    rows : List Row
    rows = rows_after run_leaf.rules [] rest

-- `record` refuses the same words as `run`
same_walk_record : (w : Walk) (rest : List Text) → walk_fault record_leaf [] w rest ≡ walk_fault run_leaf [] w rest
unfolding walk_fault
same_walk_record w [] = refl
same_walk_record w (x ∷ xs) =
    ap (or_else (turn_fault run_leaf [] w x)) (same_walk_record (walked run_leaf.rules [] w x) xs)

same_fault_record : (rest : List Text) → rest_fault record_leaf rest ≡ rest_fault run_leaf rest
same_fault_record rest =
    let end = (walk run_leaf.rules [] nothing_held rest).held in
    ap (λ k. or_else k (or_else (settle_fault run_leaf.rules run_leaf.args_override_self end)
    (or_else (defaults_fault (settled run_leaf.rules end).rows run_leaf.rules)
    (check_fault run_leaf (finished run_leaf.rules end) false)))) (same_walk_record (walk_from nothing_held) rest)

-- and after `record`, but for the number of workers and the counts
pub after_record : (program : Text) (rest : List Text)
    → command_of (program ∷ codes "record" ∷ rest)
    ≡ option_and_then of_record
    (cond (has_fault (rest_fault run_leaf rest)) None (run_met (rows_after run_leaf.rules [] rest)))
unfolding clap_on_literals
after_record program rest =
    ap₂ whole (stays (codes "record") [] rest) (no_fault (codes "record") [] rest)
    ∙ ap (λ b. cond b None (option_map Record (recording_of rows)))
    (just_one (rest_fault record_leaf rest) ∙ ap has_fault (same_fault_record rest))
    ∙ by_fault (has_fault (rest_fault run_leaf rest)) (option_map Record (recording_of rows)) of_record (run_met rows) (met_of_record rows)
  where
    rows : List Row
    rows = rows_after run_leaf.rules [] rest

-- what the words after `big` ask for, if nothing is wrong with them
abbrev pub big_met : List Row → Option Command
big_met rows = option_map Big (big_of rows)

pub after_big : (program : Text) (rest : List Text)
    → command_of (program ∷ codes "big" ∷ rest)
    ≡ cond (has_fault (rest_fault big_leaf rest)) None (big_met (rows_after big_leaf.rules [] rest))
unfolding clap_on_literals
after_big program rest =
    ap₂ whole (stays (codes "big") [] rest) (no_fault (codes "big") [] rest)
    ∙ ap (λ b. cond b None (big_met (rows_after big_leaf.rules [] rest))) (just_one (rest_fault big_leaf rest))

after_plain : (p : Plain) (program : Text) (rest : List Text)
    → command_of (program ∷ name_of p ∷ rest)
    ≡ cond (has_fault (rest_fault (leaf p) rest)) None (Some (plain_command p))
unfolding clap_on_literals
after_plain check program rest =
    ap₂ whole (stays (codes "check") [] rest) (no_fault (codes "check") [] rest)
    ∙ ap (λ b. cond b None (Some Check)) (just_one (rest_fault (leaf check) rest))
after_plain emit program rest =
    ap₂ whole (stays (codes "emit") [] rest) (no_fault (codes "emit") [] rest)
    ∙ ap (λ b. cond b None (Some Emit)) (just_one (rest_fault (leaf emit) rest))
after_plain code program rest =
    ap₂ whole (stays (codes "code") [] rest) (no_fault (codes "code") [] rest)
    ∙ ap (λ b. cond b None (Some Code)) (just_one (rest_fault (leaf code) rest))
after_plain replay program rest =
    ap₂ whole (stays (codes "replay") [] rest) (no_fault (codes "replay") [] rest)
    ∙ ap (λ b. cond b None (Some Replay)) (just_one (rest_fault (leaf replay) rest))

refused : (p : Plain) (program : Text) (rest : List Text)
    → has_fault (rest_fault (leaf p) rest) ≡ true
    → command_of (program ∷ name_of p ∷ rest) ≡ None
refused p program rest e = after_plain p program rest ∙ ap (λ b. cond b None (Some (plain_command p))) e

-- a word after such a command that is not `--`
pub other_rest : (p : Plain) (program x : Text) (xs : List Text)
    → bytes_eq x (codes "--") ≡ false
    → command_of (program ∷ name_of p ∷ x ∷ xs) ≡ None
unfolding clap_on_literals
other_rest p program x xs e =
    refused p program (x ∷ xs)
    (with_first _ _ (with_first _ _ (stray (leaf p) [] None false true [] x refl e tt)))

-- a word after the `--`
pub more_rest : (p : Plain) (program x : Text) (xs : List Text)
    → command_of (program ∷ name_of p ∷ codes "--" ∷ x ∷ xs) ≡ None
unfolding clap_on_literals
more_rest p program x xs = refused p program (codes "--" ∷ x ∷ xs) refl
