-- The value that the rows of `run` have for each option, and what they ask for at the end of the words. Rows are in the order of the
-- words, so proofs compare them by these values and not as lists.
use Rattle.std.proofs.Common.{◌≡◌, ◌∙◌, refl, sym, ap, ap₂, subst, codes, cond, Bool, true, false, true≢false}
use Rattle.std.proofs.Common.{◌||◌, ℕ, List, [], ◌∷◌, ◌++◌, Option, Some, None, option_map}
use Rattle.std.specs.Prelude.{find, is_some, slice_get}
use Rattle.std.specs.List.{fold}
use Rattle.std.specs.Option.{option_and_then, option_map_or, option_or}
use Rattle.std.specs.Str.{bytes_eq}
use Rattle.clap.specs.Words.{Kinds, Row, Rule, Text, first_of}
use Rattle.clap.specs.Kinds.{or_else}
use Rattle.clap.specs.Walk.{default_rows, finished, has_row, more_values, reading_by, with_default, with_values}
use Rattle.clap.specs.Walk.{without}
use Rattle.clap.specs.Faults.{defaults_fault, given_default_fault}
use Rattle.clap.specs.declared.builder.value_parser.Reading.{Reading}
use Rattle.clap.specs.declared.parser.matches.ValueSource.{ValueSource}
use Rattle.clap.specs.declared.parser.matches.ValueSource.TheVariants.{DefaultValue, CommandLine}
use Rattle.clap.proofs.OnLiterals.{clap_on_literals}
use Rattle.rgo_command_line.specs.Commands.{has_fault}
use Rattle.rgo_command_line.specs.Limits.{fitting, goroutine_bounds, is_given, limit_by, page_bounds}
use Rattle.rgo_command_line.specs.Limits.{page_word_bounds, region_bounds, step_bounds, worker_bounds}
use Rattle.rgo_command_line.specs.declared.limits.RunOptions.{RunOptions}
use Rattle.rgo_command_line.proofs.RestLemmas.{Met, run_leaf, run_met}
use Rattle.rgo_command_line.proofs.RunLemmas.{at_no_more, between, end_fault, from, given}
use Rattle.rgo_command_line.proofs.StrayLemmas.{holding, option_of, stats_flag}
use Rattle.rgo_command_line.proofs.WordLemmas.{Name, Number, goroutines, number, number_text, page_words, pages}
use Rattle.rgo_command_line.proofs.WordLemmas.{regions, stats, steps, text_of, workers}

-- the first value in the row of this option, if there is one
abbrev pub status : Text → List Row → Option (Option Text)
status id rows = option_map (λ r. slice_get r.values 0) (find (λ r. bytes_eq r.id id) rows)

pub has_status : (id : Text) (rows : List Row) → has_row id rows ≡ is_some (status id rows)
has_status id [] = refl
has_status id (r ∷ rs) = by_first (bytes_eq r.id id) (has_status id rs)
  where
    by_first : (b : Bool) → has_row id rs ≡ is_some (status id rs) → (b || has_row id rs)
        ≡ is_some (option_map (λ (r : Row). slice_get r.values 0) (cond b (Some r) (find (λ r. bytes_eq r.id id) rs)))
    by_first true h = refl
    by_first false h = h

first_status : (id : Text) (rows : List Row) → first_of id rows ≡ option_and_then (λ v. v) (status id rows)
first_status id rows = by_row (find (λ r. bytes_eq r.id id) rows)
  where
    by_row : (row : Option Row)
        → option_and_then (λ r. slice_get r.values 0) row
        ≡ option_and_then (λ v. v) (option_map (λ r. slice_get r.values 0) row)
    by_row None = refl
    by_row (Some r) = refl

-- a row more
module _ (id : Text) (how : Reading) (source : ValueSource) (value : Text) where
  abbrev row : Row
  row = record { id = id; values = value ∷ []; count = None; source = Some source; reading = how }

  added_last : (rows : List Row)
      → has_row id rows ≡ false
      → with_values id how source (value ∷ []) rows ≡ rows ++ row ∷ []
  added_last [] e = refl
  added_last (r ∷ rs) e = by_first (bytes_eq r.id id) e (added_last rs)
    where
      by_first : (b : Bool) → (b || has_row id rs) ≡ false
          → (has_row id rs ≡ false → with_values id how source (value ∷ []) rs ≡ rs ++ row ∷ [])
          → cond b (more_values source (value ∷ []) r ++ rs) (r ∷ with_values id how source (value ∷ []) rs)
          ≡ r ∷ (rs ++ row ∷ [])
      by_first true e h = absurd (true≢false e)
      by_first false e h = ap (λ (t : List Row). r ∷ t) (h e)

  none_removed : (rows : List Row) → has_row id rows ≡ false → without id rows ≡ rows
  none_removed [] e = refl
  none_removed (r ∷ rs) e = by_first (bytes_eq r.id id) e (none_removed rs)
    where
      by_first : (b : Bool) → (b || has_row id rs) ≡ false
          → (has_row id rs ≡ false → without id rs ≡ rs)
          → cond b ([] ++ rs) (r ∷ without id rs) ≡ r ∷ rs
      by_first true e h = absurd (true≢false e)
      by_first false e h = ap (λ (t : List Row). r ∷ t) (h e)

  -- what the rows have then of an option
  abbrev HasThen : Text → List Row → List Row → Type 0
  HasThen q rows new = status q new ≡ option_or (status q rows) (cond (bytes_eq id q) (Some (Some value)) None)

  has_then : (q : Text) (rows : List Row) → HasThen q rows (rows ++ row ∷ [])
  has_then q [] = by_id (bytes_eq id q)
    where
      by_id : (b : Bool)
          → option_map (λ (r : Row). slice_get r.values 0) (cond b (Some row) None)
          ≡ cond b (Some (Some value)) None
      by_id true = refl
      by_id false = refl
  has_then q (r ∷ rs) = by_first (bytes_eq r.id q) (has_then q rs)
    where
      by_first : (b : Bool)
          → HasThen q rs (rs ++ row ∷ [])
          → option_map (λ (r : Row). slice_get r.values 0)
          (cond b (Some r) (find (λ r. bytes_eq r.id q) (rs ++ row ∷ [])))
          ≡ option_or (option_map (λ (r : Row). slice_get r.values 0)
          (cond b (Some r) (find (λ r. bytes_eq r.id q) rs))) (cond (bytes_eq id q) (Some (Some value)) None)
      by_first true h = refl
      by_first false h = h

  has_added : (q : Text) (rows : List Row)
      → has_row id rows ≡ false
      → HasThen q rows (with_values id how source (value ∷ []) rows)
  has_added q rows e = ap (status q) (added_last rows e) ∙ has_then q rows

  has_used : (q : Text) (rows : List Row)
      → has_row id rows ≡ false
      → HasThen q rows (with_values id how source (value ∷ []) (without id rows))
  has_used q rows e =
      ap (λ r. status q (with_values id how source (value ∷ []) r)) (none_removed rows e) ∙ has_added q rows e

-- the value of an option: some text, or of a flag `true`
abbrev pub IsValue : Name → Text → Type 0
IsValue (number n) value = Unit {0}
IsValue stats value = value ≡ codes "true"

has_given : (name : Name) (value q : Text) (rows : List Row)
    → has_row (text_of name) rows ≡ false
    → IsValue name value
    → status q (given name value rows)
    ≡ option_or (status q rows) (cond (bytes_eq (text_of name) q) (Some (Some value)) None)
has_given (number n) value q rows e is =
    has_used (number_text n) (reading_by (option_of (number_text n))) CommandLine value q rows e
has_given stats value q rows e is =
    subst (λ v. status q (given stats value rows)
    ≡ option_or (status q rows) (cond (bytes_eq (codes "stats") q) (Some (Some v)) None)) (sym is)
    (has_used (codes "stats") (reading_by stats_flag) CommandLine (codes "true") q rows e)

-- ---- all options

abbrev pub Values : Type 0
Values = Name → Option Text

-- the rows have these values
abbrev pub Shows : List Row → Values → Type 0
Shows rows values = (name : Name) → status (text_of name) rows ≡ option_map Some (values name)

-- the value of a flag is `true`
abbrev pub AreValues : Values → Type 0
AreValues values = (name : Name) (value : Text) → values name ≡ Some value → IsValue name value

-- with a value of one option more
abbrev pub with_value : Name → Text → Values → Values
with_value name value values q =
    option_or (values q) (cond (bytes_eq (text_of name) (text_of q)) (Some value) None)

pub shows_given : (name : Name) (value : Text) (rows : List Row) (values : Values)
    → has_row (text_of name) rows ≡ false
    → IsValue name value
    → Shows rows values
    → Shows (given name value rows) (with_value name value values)
shows_given name value rows values e is shows q =
    has_given name value (text_of q) rows e is
    ∙ ap (λ s. option_or s (cond (bytes_eq (text_of name) (text_of q)) (Some (Some value)) None)) (shows q)
    ∙ by_both (values q) (bytes_eq (text_of name) (text_of q))
  where
    by_both : (o : Option Text) (b : Bool)
        → option_or (option_map Some o) (cond b (Some (Some value)) None)
        ≡ option_map Some (option_or o (cond b (Some value) None))
    by_both (Some v) b = refl
    by_both None true = refl
    by_both None false = refl

pub shows_row : (name : Name) (rows : List Row) (values : Values)
    → Shows rows values
    → has_row (text_of name) rows ≡ is_some (values name)
shows_row name rows values shows = has_status (text_of name) rows ∙ ap is_some (shows name) ∙ by_value (values name)
  where
    by_value : (o : Option Text) → is_some (option_map Some o) ≡ is_some o
    by_value None = refl
    by_value (Some v) = refl

-- ---- at the end of the words

-- the options with these numbers and this flag, if none of them is missing
abbrev pub options_from : Option ℕ → Option ℕ → Option ℕ → Option ℕ → Option ℕ → Option ℕ → Bool → Option RunOptions
options_from s g p w r k is_stats =
    option_and_then (λ limits. option_and_then (λ sizes. option_map (λ workers. record {
      limits = limits;
      sizes = sizes;
      workers = workers;
      stats = is_stats;
    }) k) (option_and_then (λ page_words. option_and_then (λ pages. option_and_then (λ regions. fitting (record {
      page_words = page_words;
      pages = pages;
      regions = regions;
    })) r) p) w))
    (option_and_then (λ steps. option_map (λ goroutines. record {
      steps = steps;
      goroutines = goroutines;
    }) g) s)

-- the options that these texts and this flag set
abbrev pub options_by : Option Text → Option Text → Option Text → Option Text → Option Text → Option Text → Bool
    → Option RunOptions
options_by s g p w r k is_stats =
    options_from (limit_by step_bounds s) (limit_by goroutine_bounds g) (limit_by page_bounds p)
    (limit_by page_word_bounds w) (limit_by region_bounds r) (limit_by worker_bounds k) is_stats

-- what is set, by the values of the options
abbrev pub run_by : Values → Option Met
run_by v =
    option_map (λ options. (options, is_some (v (number workers)))) (options_by (v (number steps)) (v (number goroutines)) (v (number pages)) (v (number page_words))
    (v (number regions)) (v (number workers)) (is_some (v stats)))

same_rows : (b : Bool) (rows : List Row) → cond b rows rows ≡ rows
same_rows true rows = refl
same_rows false rows = refl

-- the options of `run` from the second on, the third on, and so on
abbrev from_stats : List Rule
from_stats = stats_flag ∷ []

abbrev from_workers : List Rule
from_workers = option_of (codes "workers") ∷ from_stats

abbrev from_regions : List Rule
from_regions = option_of (codes "regions") ∷ from_workers

abbrev from_page_words : List Rule
from_page_words = option_of (codes "page-words") ∷ from_regions

abbrev from_pages : List Rule
from_pages = option_of (codes "pages") ∷ from_page_words

abbrev from_goroutines : List Rule
from_goroutines = option_of (codes "goroutines") ∷ from_pages

-- an option with a number has no default
skips : (t : Text) (rest : List Rule) (rows : List Row)
    → fold with_default rows (option_of t ∷ rest) ≡ fold with_default rows rest
skips t rest rows = ap (λ r. fold with_default r rest) (same_rows (has_row t rows) rows)

finished_rows : (rows : List Row) → finished run_leaf.rules (holding rows None) ≡ with_default rows stats_flag
finished_rows rows =
    skips (codes "steps") from_goroutines rows ∙ skips (codes "goroutines") from_pages rows
    ∙ skips (codes "pages") from_page_words rows ∙ skips (codes "page-words") from_regions rows
    ∙ skips (codes "regions") from_workers rows ∙ skips (codes "workers") from_stats rows

none_wrong : (b : Bool) (k : Kinds) → cond (b || true) [] k ≡ []
none_wrong true k = refl
none_wrong false k = refl

skips_fault : (t : Text) (rest : List Rule) (rows : List Row)
    → defaults_fault rows (option_of t ∷ rest) ≡ defaults_fault rows rest
unfolding defaults_fault
skips_fault t rest rows =
    ap₂ (λ (k : Kinds) (r : List Row). or_else k (defaults_fault r rest))
    (none_wrong (has_row t rows) (given_default_fault (option_of t) [])) (same_rows (has_row t rows) rows)

stats_fault : (rows : List Row) → defaults_fault rows (stats_flag ∷ []) ≡ []
unfolding clap_on_literals
stats_fault rows = by_row (has_row (codes "stats") rows)
  where
    by_row : (b : Bool) → or_else (cond (b || false) [] (given_default_fault stats_flag (codes "false" ∷ []))) [] ≡ []
    by_row true = refl
    by_row false = refl

no_fault : (rows : List Row) → defaults_fault rows run_leaf.rules ≡ []
no_fault rows =
    skips_fault (codes "steps") from_goroutines rows ∙ skips_fault (codes "goroutines") from_pages rows
    ∙ skips_fault (codes "pages") from_page_words rows ∙ skips_fault (codes "page-words") from_regions rows
    ∙ skips_fault (codes "regions") from_workers rows ∙ skips_fault (codes "workers") from_stats rows
    ∙ stats_fault rows

no_end_fault : (rows : List Row) → has_fault (end_fault (holding rows None)) ≡ false
no_end_fault rows = ap (λ k. has_fault (or_else k [])) (no_fault rows)

-- the rows with the default of the flag have these values
record Gives (rows : List Row) (values : Values) : Type 0 where
  numbers : (n : Number) → first_of (number_text n) rows ≡ values (number n)
  flag : is_given (codes "stats") rows ≡ is_some (values stats)

by_values : (o : Option Text) → option_and_then (λ (v : Option Text). v) (option_map Some o) ≡ o
by_values None = refl
by_values (Some v) = refl

shows_first : (rows : List Row) (values : Values) → Shows rows values
    → (name : Name) → first_of (text_of name) rows ≡ values name
shows_first rows values shows name =
    first_status (text_of name) rows ∙ ap (option_and_then (λ v. v)) (shows name) ∙ by_values (values name)

gives_all : (rows : List Row) (values : Values)
    → Shows rows values
    → AreValues values
    → Gives (with_default rows stats_flag) values
gives_all rows values shows are = by_row (has_row (codes "stats") rows) refl
  where
    by_flag : (o : Option Text) → values stats ≡ o
        → option_map_or (λ value. bytes_eq value (codes "true")) o false ≡ is_some o
    by_flag None e = refl
    by_flag (Some v) e = ap (λ value. bytes_eq value (codes "true")) (are stats v e)

    defaulted : List Row
    defaulted = default_rows (codes "stats") (reading_by stats_flag) (codes "false" ∷ []) rows

    by_row : (b : Bool) → has_row (codes "stats") rows ≡ b → Gives (cond b rows defaulted) values
    by_row true e = record {
      numbers = λ n. shows_first rows values shows (number n);
      flag =
          ap (λ o. option_map_or (λ value. bytes_eq value (codes "true")) o false)
          (shows_first rows values shows stats)
          ∙ by_flag (values stats) refl;
    }
    by_row false e = record {
      numbers = λ n. first_status (number_text n) defaulted ∙ ap (option_and_then (λ v. v)) (kept n)
          ∙ by_values (values (number n));
      flag =
          ap (λ o. option_map_or (λ value. bytes_eq value (codes "true")) o false)
          (first_status (codes "stats") defaulted ∙ ap (option_and_then (λ v. v)) default)
          ∙ by_none (values stats) (sym (shows_row stats rows values shows) ∙ e);
    }
      where
        has : (q : Text) → status q defaulted
            ≡ option_or (status q rows) (cond (bytes_eq (codes "stats") q) (Some (Some (codes "false"))) None)
        has q = has_added (codes "stats") (reading_by stats_flag) DefaultValue (codes "false") q rows e

        or_none : (o : Option (Option Text)) → option_or o None ≡ o
        or_none None = refl
        or_none (Some v) = refl

        kept : (n : Number) → status (number_text n) defaulted ≡ option_map Some (values (number n))
        kept steps = has (codes "steps") ∙ or_none _ ∙ shows (number steps)
        kept goroutines = has (codes "goroutines") ∙ or_none _ ∙ shows (number goroutines)
        kept pages = has (codes "pages") ∙ or_none _ ∙ shows (number pages)
        kept page_words = has (codes "page-words") ∙ or_none _ ∙ shows (number page_words)
        kept regions = has (codes "regions") ∙ or_none _ ∙ shows (number regions)
        kept workers = has (codes "workers") ∙ or_none _ ∙ shows (number workers)

        no_status : (o : Option (Option Text)) → is_some o ≡ false → o ≡ None
        no_status None e = refl
        no_status (Some v) e = absurd (true≢false e)

        default : status (codes "stats") defaulted ≡ Some (Some (codes "false"))
        default =
            has (codes "stats")
            ∙ ap (λ o. option_or o (Some (Some (codes "false"))))
            (no_status (status (codes "stats") rows) (sym (has_status (codes "stats") rows) ∙ e))

        by_none : (o : Option Text) → is_some o ≡ false → false ≡ is_some o
        by_none o e = sym e

-- what the rows ask for at the end of the words
pub at_end : (rows : List Row) (values : Values)
    → Shows rows values
    → AreValues values
    → from (between rows None) [] ≡ run_by values
at_end rows values shows are =
    at_no_more rows
    ∙ ap₂ (λ (b : Bool) (r : List Row). cond b None (run_met r)) (no_end_fault rows) (finished_rows rows)
    ∙ (λ i. option_map (λ options. (options, is_some (all.numbers workers i))) (options_by (all.numbers steps i) (all.numbers goroutines i) (all.numbers pages i)
    (all.numbers page_words i) (all.numbers regions i) (all.numbers workers i) (all.flag i)))
  where
    all : Gives (with_default rows stats_flag) values
    all = gives_all rows values shows are
