-- The command line that the builders of `clap` make, one call at a time: the clauses of `parser` compare the result with plain data.
use Rattle.std.proofs.Common.{◌≡◌, ◌∙◌, ◌||◌, Bool, true, false, ap, ap₂, codes}
use Rattle.clap.specs.Words.{AddsArg, AddsSubcommand, App, Rule, Shape, app_of, new_app, rule_of, shape_of}
use Rattle.clap.specs.Words.{with_rule, with_subcommand}
use Rattle.clap.specs.Simple.{app_of_fields, on_top}
use Rattle.clap.specs.declared.builder.arg.Arg.{Arg}
use Rattle.clap.specs.declared.builder.command.Command.{Command}
use Rattle.clap.specs.declared.builder.command.Command.TheViews.{out-Command}
use Rattle.rgo_command_line.specs.Parser.{bare_parser}

-- an option of the builder is one of the data
pub with_arg : (old new : Command) (arg : Arg) (app : App) (rule : Rule)
    → AddsArg old arg new
    → arg.global ≡ false
    → app_of old ≡ app
    → rule_of arg ≡ rule
    → app_of new ≡ with_rule app rule
with_arg old new arg app rule adds local is_app is_rule = adds.shape local ∙ ap₂ with_rule is_app is_rule

-- an option that is the command's own leaves it without options for all
pub still_local : (old new : Command) (arg : Arg)
    → AddsArg old arg new
    → arg.global ≡ false
    → (out-Command old).has_globals ≡ false
    → (out-Command new).has_globals ≡ false
still_local old new arg adds local before = adds.globals ∙ ap₂ (λ (x y : Bool). x || y) before local

-- a subcommand of the builder is one of the data
pub with_command : (old new sub : Command) (app : App) (shape : Shape)
    → AddsSubcommand old sub new
    → (out-Command sub).has_globals ≡ false
    → app_of old ≡ app
    → shape_of sub ≡ shape
    → app_of new ≡ with_subcommand app shape
with_command old new sub app shape adds local is_app is_shape =
    adds.shape local ∙ ap₂ with_subcommand is_app is_shape

abbrev no_help_flag : Shape → Shape
no_help_flag shape = record shape { disable_help_flag = true }

abbrev no_version_flag : Shape → Shape
no_version_flag shape = record shape { disable_version_flag = true }

abbrev no_help_subcommand : Shape → Shape
no_help_subcommand shape = record shape { disable_help_subcommand = true }

-- the three settings, one after the other
pub with_settings : (c0 c1 c2 c3 : Command)
    → out-Command c1 ≡ record (out-Command c0) { disable_help_flag = true }
    → out-Command c2 ≡ record (out-Command c1) { disable_version_flag = true }
    → out-Command c3 ≡ record (out-Command c2) { disable_help_subcommand = true }
    → app_of c0 ≡ new_app (codes "rgo")
    → app_of c3 ≡ bare_parser
with_settings c0 c1 c2 c3 e1 e2 e3 new =
    let help : app_of c1 ≡ on_top no_help_flag (app_of c0) = ap app_of_fields e1 in
    let version : app_of c2 ≡ on_top no_version_flag (app_of c1) = ap app_of_fields e2 in
    let subcommand : app_of c3 ≡ on_top no_help_subcommand (app_of c2) = ap app_of_fields e3 in
    subcommand ∙ ap (on_top no_help_subcommand)
    (version ∙ ap (on_top no_version_flag)
    (help ∙ ap (on_top no_help_flag) new))
