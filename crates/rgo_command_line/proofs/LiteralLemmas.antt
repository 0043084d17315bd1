-- Words that are written out, and what they ask for.
use Rattle.std.proofs.Common.{refl}
use Rattle.clap.proofs.OnLiterals.{clap_on_literals}
use Rattle.rgo_command_line.specs.Laws.{AskForCommands, AskForNothing}

-- at words that are written out, `clap`'s definition computes what they ask for
pub commands : AskForCommands
unfolding clap_on_literals
commands = record {
  run = λ program. refl;
  run_ended = λ program. refl;
  apart = λ program. refl;
  joined = λ program. refl;
  zeros = λ program. refl;
  both = λ program. refl;
  stats = λ program. refl;
  one_page = λ program. refl;
  least_page = λ program. refl;
  most_page = λ program. refl;
  most_words = λ program. refl;
  workers = λ program. refl;
  workers_joined = λ program. refl;
  least_workers = λ program. refl;
  most_workers = λ program. refl;
  all = λ program. refl;
  run_code = λ program. refl;
  run_code_ended = λ program. refl;
  run_code_workers = λ program. refl;
  run_code_all = λ program. refl;
  check = λ program. refl;
  check_ended = λ program. refl;
  emit = λ program. refl;
  emit_ended = λ program. refl;
  code = λ program. refl;
  code_ended = λ program. refl;
  recorded = λ program. refl;
  recorded_ended = λ program. refl;
  recorded_steps = λ program. refl;
  replay = λ program. refl;
  replay_ended = λ program. refl;
  big = λ program. refl;
  big_ended = λ program. refl;
  big_behind = λ program. refl;
  big_zeros = λ program. refl;
  least_big = λ program. refl;
  most_big = λ program. refl;
}

pub nothing : AskForNothing
unfolding clap_on_literals
nothing = record {
  no_words = refl;
  no_command = λ program. refl;
  help = λ program. refl;
  help_flag = λ program. refl;
  version_flag = λ program. refl;
  unknown = λ program. refl;
  twice = λ program. refl;
  before = λ program. refl;
  check_option = λ program. refl;
  check_workers = λ program. refl;
  emit_option = λ program. refl;
  code_option = λ program. refl;
  record_workers = λ program. refl;
  record_stats = λ program. refl;
  record_no_steps = λ program. refl;
  replay_option = λ program. refl;
  replay_twice = λ program. refl;
  two_commands = λ program. refl;
  code_apart = λ program. refl;
  run_code_twice = λ program. refl;
  run_code_option_twice = λ program. refl;
  run_code_no_steps = λ program. refl;
  run_code_many_workers = λ program. refl;
  option_twice = λ program. refl;
  no_steps = λ program. refl;
  many_steps = λ program. refl;
  many_goroutines = λ program. refl;
  no_word_holds = λ program. refl;
  signed = λ program. refl;
  empty = λ program. refl;
  no_pages = λ program. refl;
  many_pages = λ program. refl;
  small_page = λ program. refl;
  large_page = λ program. refl;
  no_regions = λ program. refl;
  many_regions = λ program. refl;
  no_workers = λ program. refl;
  many_workers = λ program. refl;
  workers_empty = λ program. refl;
  workers_alone = λ program. refl;
  workers_twice = λ program. refl;
  many_words = λ program. refl;
  stats_value = λ program. refl;
  stats_apart = λ program. refl;
  stats_twice = λ program. refl;
  big_alone = λ program. refl;
  big_without = λ program. refl;
  big_none = λ program. refl;
  too_big = λ program. refl;
  no_word_holds_big = λ program. refl;
  big_signed = λ program. refl;
  big_below = λ program. refl;
  big_empty = λ program. refl;
  big_twice = λ program. refl;
  big_twice_apart = λ program. refl;
  big_option = λ program. refl;
  big_option_after = λ program. refl;
  big_workers = λ program. refl;
}
