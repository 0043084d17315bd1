-- The limits, sizes and workers of a run, as the options of `run` set them. That they lie in their bounds is part of every command that
-- the words ask for, so what runs a program has it as a premise.
use Rattle.std.specs.Prelude.{◌*◌, ◌≤◌, Bool, false, List, Option, Some, None, ℕ, codes, nat_le, option_and_then}
use Rattle.std.specs.Prelude.{if◌then◌else◌, ◌||◌, is_some, option_map}
use Rattle.std.specs.Option.{option_map_or}
use Rattle.std.specs.Str.{bytes_eq}
use Rattle.clap.specs.Words.{Row, Text, first_of}
use Rattle.rgo_command_line.specs.Numbers.{numeral_value, within}
use Rattle.rgo_command_line.specs.declared.limits.Bounds.{Bounds}
use Rattle.rgo_command_line.specs.declared.limits.RunOptions.{RunOptions}
use Rattle.rgo_machine.specs.declared.limits.Limits.{Limits}
use Rattle.rgo_machine.specs.declared.limits.Sizes.{Sizes}

-- the numbers that `--steps` takes, and the one without it; the most is 2 ^ 42
abbrev pub step_bounds : Bounds
step_bounds = record { least = 1; most = 4398046511104; default = 4398046511104 }

-- of `--goroutines`
abbrev pub goroutine_bounds : Bounds
goroutine_bounds = record { least = 1; most = 1000000; default = 100000 }

-- of `--pages`; all pages together are bounded by `most_words` as well
abbrev pub page_bounds : Bounds
page_bounds = record { least = 1; most = 65536; default = 4096 }

-- of `--page-words`
abbrev pub page_word_bounds : Bounds
page_word_bounds = record { least = 16; most = 4096; default = 256 }

-- of `--regions`
abbrev pub region_bounds : Bounds
region_bounds = record { least = 1; most = 65536; default = 65536 }

-- of `--workers`
abbrev pub worker_bounds : Bounds
worker_bounds = record { least = 1; most = 64; default = 4 }

-- the most goroutines of `big`
abbrev pub most_big : ℕ
most_big = 10000

-- a number of goroutines that `big` takes
abbrev pub IsBig : ℕ → Type 0
IsBig n = (1 ≤ n) × (n ≤ most_big)

-- the most words of all pages together
abbrev pub most_words : ℕ
most_words = 16777216

abbrev pub LiesInBounds : Bounds → ℕ → Type 0
LiesInBounds bounds n = (bounds.least ≤ n) × (n ≤ bounds.most)

-- each limit is one that its option takes
pub record LimitsLieInBounds (limits : Limits) : Type 0 where
  pub steps : LiesInBounds step_bounds limits.steps
  pub goroutines : LiesInBounds goroutine_bounds limits.goroutines

-- each size is one that its option takes
pub record SizesLieInBounds (sizes : Sizes) : Type 0 where
  pub pages : LiesInBounds page_bounds sizes.pages
  pub page_words : LiesInBounds page_word_bounds sizes.page_words
  pub regions : LiesInBounds region_bounds sizes.regions

-- all pages together have at most this many words
abbrev pub PagesFit : Sizes → Type 0
PagesFit sizes = sizes.pages * sizes.page_words ≤ most_words

-- each number is one that its option takes, and the pages are not too large together
pub record LieInBounds (options : RunOptions) : Type 0 where
  pub limits : LimitsLieInBounds options.limits
  pub sizes : SizesLieInBounds options.sizes
  pub workers : LiesInBounds worker_bounds options.workers
  pub fits : PagesFit options.sizes

-- the limit that an option sets by its value; the default without one
abbrev pub limit_by : Bounds → Option Text → Option ℕ
limit_by bounds None = Some bounds.default
limit_by bounds (Some text) = within bounds.least bounds.most (numeral_value text)

-- the limit that the option of this name sets
abbrev pub limit_of : Text → Bounds → List Row → Option ℕ
limit_of name bounds rows = limit_by bounds (first_of name rows)

-- whether the words have the flag of this name
abbrev pub is_given : Text → List Row → Bool
is_given name rows = option_map_or (λ value. bytes_eq value (codes "true")) (first_of name rows) false

-- the limits of a run, if each number is one that its option takes
abbrev pub limits_of : List Row → Option Limits
limits_of rows =
    option_and_then (λ steps. option_map (λ goroutines. record {
      steps = steps;
      goroutines = goroutines;
    }) (limit_of (codes "goroutines") goroutine_bounds rows))
    (limit_of (codes "steps") step_bounds rows)

-- the sizes, if the pages are not too large together
abbrev pub fitting : Sizes → Option Sizes
fitting sizes = if nat_le (sizes.pages * sizes.page_words) most_words then Some sizes else None

-- the sizes of a run, if each number is one that its option takes
abbrev pub sizes_of : List Row → Option Sizes
sizes_of rows =
    option_and_then (λ page_words. option_and_then (λ pages. option_and_then (λ regions. fitting (record {
      page_words = page_words;
      pages = pages;
      regions = regions;
    })) (limit_of (codes "regions") region_bounds rows))
    (limit_of (codes "pages") page_bounds rows))
    (limit_of (codes "page-words") page_word_bounds rows)

-- what the options of a run set
abbrev pub options_of : List Row → Option RunOptions
options_of rows =
    option_and_then (λ limits. option_and_then (λ sizes. option_map (λ workers. record {
      limits = limits;
      sizes = sizes;
      workers = workers;
      stats = is_given (codes "stats") rows;
    }) (limit_of (codes "workers") worker_bounds rows))
    (sizes_of rows))
    (limits_of rows)

-- What the options of `record` set: those of `run` except for the number of workers and the counts. None if the words have one of
-- these: a recorded run is on one thread and writes a journal in place of the counts.
abbrev pub recording_of : List Row → Option RunOptions
recording_of rows =
    option_and_then (λ options. if is_some (first_of (codes "workers") rows) || options.stats then None else Some options)
    (options_of rows)

-- what `run` sets without options
abbrev pub default_options : RunOptions
default_options = record {
  limits = record { steps = 4398046511104; goroutines = 100000 };
  sizes = record { page_words = 256; pages = 4096; regions = 65536 };
  workers = 4;
  stats = false;
}

-- the number of goroutines that this word asks `big` for, if `big` takes it
abbrev pub big_by : Text → Option ℕ
big_by text = within 1 most_big (numeral_value text)

-- the same, by what was found for the word
abbrev pub big_of : List Row → Option ℕ
big_of rows = option_and_then big_by (first_of (codes "goroutines") rows)
