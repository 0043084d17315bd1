-- Which words ask for a command, in both directions: `command_of`, which follows `clap`, against the groups of words of Laws.antt. For
-- options `OptionLemmas` carries it; here the cases of the commands are put together.
use Rattle.std.proofs.Common.{◌≡◌, ◌∙◌, refl, sym, ap, ap₂, subst, codes, cond, Bool, true, false, List, [], ◌∷◌, ◌++◌, map}
use Rattle.std.proofs.Common.{Option, Some, None, inl, inr, ℕ, ◌*◌, ◌≤◌, nat_le, option_map, arith}
use Rattle.std.specs.Prelude.{◌||◌, if◌then◌else◌, is_some, option_and_then}
use Rattle.std.proofs.lemmas.Option.{same_Some}
use Rattle.std.specs.List.Sorted.{IsPermutation}
use Rattle.std.specs.Str.{bytes_eq}
use Rattle.std.specs.Str.Parse.{digits_value}
use Rattle.std.proofs.lemmas.Bool.Decides.{nat_tests}
use Rattle.std.proofs.lemmas.List.Sorted.{IsPermutation-map}
use Rattle.std.proofs.lemmas.Slice.Eq.{bytes_eq-Decides}
use Rattle.clap.specs.Words.{Text}
use Rattle.rgo_command_line.specs.Commands.{command_of}
use Rattle.rgo_command_line.specs.Laws.{ArePlain, AreWordsOf, AskExactly, AskToRun, SetsOption, IsEnd, SetFlag, SetOptions}
use Rattle.rgo_command_line.specs.Laws.{HoldNumber, joined_groups}
use Rattle.rgo_command_line.specs.Limits.{PagesFit, big_by, goroutine_bounds, limit_by, most_words, page_bounds, page_word_bounds}
use Rattle.rgo_command_line.specs.Limits.{region_bounds, step_bounds, worker_bounds}
use Rattle.rgo_command_line.specs.Numbers.{is_numeral, within}
use Rattle.rgo_command_line.specs.declared.commands.Command.{Command}
use Rattle.rgo_command_line.specs.declared.commands.Command.TheVariants.{Run, Check, Emit, Code, Big, Record, Replay, RunCode}
use Rattle.rgo_command_line.specs.declared.limits.Bounds.{Bounds}
use Rattle.rgo_command_line.specs.declared.limits.RunOptions.{RunOptions}
use Rattle.rgo_machine.specs.declared.limits.Sizes.{Sizes}
use Rattle.rgo_command_line.proofs.BigLemmas as big
use Rattle.rgo_command_line.proofs.FirstWordLemmas.{other_word}
use Rattle.rgo_command_line.proofs.OptionLemmas.{AreOptions, Gives, IsNumeral, MetOptions, asks, met_options}
use Rattle.rgo_command_line.proofs.OrderLemmas.{names, names_in_order}
use Rattle.rgo_command_line.proofs.RestLemmas.{Met, Plain, check, code, emit, more_rest, name_of, of_code, of_record, of_run, other_rest, plain_command}
use Rattle.rgo_command_line.proofs.RestLemmas.{replay}
use Rattle.rgo_command_line.proofs.LiteralLemmas.{commands, nothing}
use Rattle.rgo_command_line.proofs.RunLemmas.{at_first, at_first_of_code, at_first_of_record, between, from}
use Rattle.rgo_command_line.proofs.StatusLemmas.{Values, options_from, run_by}
use Rattle.rgo_command_line.proofs.WordLemmas.{Name, Number, goroutines, number, page_words, pages, regions}
use Rattle.rgo_command_line.proofs.WordLemmas.{stats, steps, workers}

-- the words are those of the command that they ask for
abbrev Tells : List Text → Type 0
Tells words = (command : Command) → command_of words ≡ Some command → AreWordsOf command words

tells_nothing : (words : List Text) → command_of words ≡ None → Tells words
tells_nothing words none command e = cc

-- ---- the options of a run

-- the values set these options
record Sets (v : Values) (options : RunOptions) : Type 0 where
  is_steps : limit_by step_bounds (v (number steps)) ≡ Some options.limits.steps
  is_goroutines : limit_by goroutine_bounds (v (number goroutines)) ≡ Some options.limits.goroutines
  is_pages : limit_by page_bounds (v (number pages)) ≡ Some options.sizes.pages
  is_page_words : limit_by page_word_bounds (v (number page_words)) ≡ Some options.sizes.page_words
  is_regions : limit_by region_bounds (v (number regions)) ≡ Some options.sizes.regions
  is_workers : limit_by worker_bounds (v (number workers)) ≡ Some options.workers
  is_stats : is_some (v stats) ≡ options.stats
  fits : PagesFit options.sizes

fits_by : (n : ℕ) → nat_le n most_words ≡ true → n ≤ most_words
fits_by n e = grind (arith, nat_tests, e)

test_fits : (n : ℕ) → n ≤ most_words → nat_le n most_words ≡ true
test_fits n h = grind (arith, nat_tests, h)

-- the number of workers that the values set, if any, and the options that they set
abbrev with_workers_of : Values → RunOptions → Met
with_workers_of v options = (options, is_some (v (number workers)))

abbrev Found : Values → Met → Type 0
Found v met = (options : RunOptions) × Sets v options × (with_workers_of v options ≡ met)

found : (v : Values) (met : Met) → run_by v ≡ Some met → Found v met
found v met asked =
    by_numbers (limit_by step_bounds (v (number steps))) (limit_by goroutine_bounds (v (number goroutines)))
    (limit_by page_bounds (v (number pages))) (limit_by page_word_bounds (v (number page_words)))
    (limit_by region_bounds (v (number regions))) (limit_by worker_bounds (v (number workers)))
    refl refl refl refl refl refl asked
  where
    by_fit : (s g k : ℕ) (sizes : Sizes) (b : Bool)
        → nat_le (sizes.pages * sizes.page_words) most_words ≡ b
        → limit_by step_bounds (v (number steps)) ≡ Some s
        → limit_by goroutine_bounds (v (number goroutines)) ≡ Some g
        → limit_by page_bounds (v (number pages)) ≡ Some sizes.pages
        → limit_by page_word_bounds (v (number page_words)) ≡ Some sizes.page_words
        → limit_by region_bounds (v (number regions)) ≡ Some sizes.regions
        → limit_by worker_bounds (v (number workers)) ≡ Some k
        → option_map (with_workers_of v) (option_and_then (λ (z : Sizes). Some (record {
          limits = record { steps = s; goroutines = g };
          sizes = z;
          workers = k;
          stats = is_some (v stats);
        })) (cond b (Some sizes) None)) ≡ Some met
        → Found v met
    by_fit s g k sizes false fit hs hg hp hw hr hk e = cc
    by_fit s g k sizes true fit hs hg hp hw hr hk e =
        let options : RunOptions = record {
          limits = record { steps = s; goroutines = g };
          sizes = sizes;
          workers = k;
          stats = is_some (v stats);
        } in
        let is : with_workers_of v options ≡ met = cc in (
          options,
          record {
            is_steps = hs;
            is_goroutines = hg;
            is_pages = hp;
            is_page_words = hw;
            is_regions = hr;
            is_workers = hk;
            is_stats = refl;
            fits = fits_by (sizes.pages * sizes.page_words) fit;
          },
          is,
        )

    -- if the number of workers is not one that its option takes, nothing is asked for
    no_workers : (sizes : Sizes) (b : Bool)
        → option_map (with_workers_of v) (option_and_then (λ (z : Sizes). None) (cond b (Some sizes) None)) ≡ Some met
        → Found v met
    no_workers sizes false e = cc
    no_workers sizes true e = cc

    by_numbers : (s g p w r k : Option ℕ)
        → limit_by step_bounds (v (number steps)) ≡ s
        → limit_by goroutine_bounds (v (number goroutines)) ≡ g
        → limit_by page_bounds (v (number pages)) ≡ p
        → limit_by page_word_bounds (v (number page_words)) ≡ w
        → limit_by region_bounds (v (number regions)) ≡ r
        → limit_by worker_bounds (v (number workers)) ≡ k
        → option_map (with_workers_of v) (options_from s g p w r k (is_some (v stats))) ≡ Some met
        → Found v met
    by_numbers None g p w r k hs hg hp hw hr hk e = cc
    by_numbers (Some s) None p w r k hs hg hp hw hr hk e = cc
    by_numbers (Some s) (Some g) p None r k hs hg hp hw hr hk e = cc
    by_numbers (Some s) (Some g) None (Some w) r k hs hg hp hw hr hk e = cc
    by_numbers (Some s) (Some g) (Some p) (Some w) None k hs hg hp hw hr hk e = cc
    by_numbers (Some s) (Some g) (Some p) (Some w) (Some r) None hs hg hp hw hr hk e =
        no_workers (record { page_words = w; pages = p; regions = r }) (nat_le (p * w) most_words) e
    by_numbers (Some s) (Some g) (Some p) (Some w) (Some r) (Some k) hs hg hp hw hr hk e =
        by_fit s g k (record { page_words = w; pages = p; regions = r }) (nat_le (p * w) most_words) refl
        hs hg hp hw hr hk e

-- the words set these options, and end; if `is_given` is false, none of them gives the number of workers
abbrev SetAndEnd : List Text → RunOptions → (is_given : Bool) → Type 0
SetAndEnd rest options is_given =
    (set ending : List Text) × (sets : SetOptions options set) × (is_given ≡ false → sets.workers ≡ [])
    × IsEnd ending × (rest ≡ set ++ ending)

abbrev AsksSo : List Text → Met → Type 0
AsksSo rest met = SetAndEnd rest met.0 met.1

asks_so : (rest : List Text) (met : Met) → from (between [] None) rest ≡ Some met → AsksSo rest met
asks_so rest met asked = by_met (met_options rest)
  where
    no_words : (value : Option Text) (mine : List Text) → Gives (number workers) value mine → is_some value ≡ false
        → mine ≡ []
    no_words None mine give is = give
    no_words (Some text) mine give is = cc

    flag : (value : Option Text) (b : Bool) (mine : List Text)
        → is_some value ≡ b
        → Gives stats value mine
        → SetFlag (codes "stats") b mine
    flag None false mine is give = give
    flag (Some v) true mine is give = give.1
    flag None true mine is give = cc
    flag (Some v) false mine is give = cc

    of_options : (v : Values) (options : RunOptions)
        → AreOptions v rest
        → Sets v options
        → SetAndEnd rest options (is_some (v (number workers)))
    of_options v options are sets = (
      joined_groups (map are.words are.order),
      are.ending,
      record {
        steps = are.words (number steps);
        goroutines = are.words (number goroutines);
        pages = are.words (number pages);
        page_words = are.words (number page_words);
        regions = are.words (number regions);
        workers = are.words (number workers);
        stats = are.words stats;
        set_steps = (v (number steps), sets.is_steps, are.gives (number steps));
        set_goroutines = (v (number goroutines), sets.is_goroutines, are.gives (number goroutines));
        set_pages = (v (number pages), sets.is_pages, are.gives (number pages));
        set_page_words = (v (number page_words), sets.is_page_words, are.gives (number page_words));
        set_regions = (v (number regions), sets.is_regions, are.gives (number regions));
        set_workers = (v (number workers), sets.is_workers, are.gives (number workers));
        set_stats = flag (v stats) options.stats (are.words stats) sets.is_stats (are.gives stats);
        fits = sets.fits;
        order = map are.words are.order;
        permuted = IsPermutation-map are.words names are.order are.permuted;
        whole = refl;
      },
      no_words (v (number workers)) (are.words (number workers)) (are.gives (number workers)),
      are.ends,
      are.whole,
    )

    by_found : (v : Values) → AreOptions v rest → Found v met → AsksSo rest met
    by_found v are (options, sets, is) = subst (AsksSo rest) is (of_options v options are sets)

    by_met : MetOptions rest → AsksSo rest met
    by_met (inl none) = absurd (let nothing : None ≡ Some met = sym none ∙ asked in cc)
    by_met (inr (v, are, is)) = by_found v are (found v met (sym is ∙ asked))

-- words that set options and end, after the name of a command
named_words : (name program : Text) (rest : List Text) (met : Met) → AsksSo rest met
    → AskToRun name met.0 (program ∷ name ∷ rest)
named_words name program rest met (set, ending, sets, none, ends, is) =
    (program, set, ending, sets, ends, ap (λ r. program ∷ name ∷ r) is)

-- the words after a command that has options are those of the command that they ask for
module _ (name program : Text) (rest : List Text) (of_met : Met → Option Command)
    (first : command_of (program ∷ name ∷ rest) ≡ option_and_then of_met (from (between [] None) rest))
    (are : (met : Met) (command : Command) → AsksSo rest met → of_met met ≡ Some command
    → AreWordsOf command (program ∷ name ∷ rest)) where
  after_options : Tells (program ∷ name ∷ rest)
  after_options command e = by_asked (from (between [] None) rest) refl (sym first ∙ e)
    where
      by_asked : (asked : Option Met) → from (between [] None) rest ≡ asked → option_and_then of_met asked ≡ Some command
          → AreWordsOf command (program ∷ name ∷ rest)
      by_asked None met same = absurd (let none : None ≡ Some command = same in cc)
      by_asked (Some met) is same = are met command (asks_so rest met is) same

after_run : (program : Text) (rest : List Text) → Tells (program ∷ codes "run" ∷ rest)
after_run program rest = after_options (codes "run") program rest of_run (at_first program rest) are
  where
    are : (met : Met) (command : Command) → AsksSo rest met → of_run met ≡ Some command
        → AreWordsOf command (program ∷ codes "run" ∷ rest)
    are met command asks same =
        let is : Run met.0 ≡ command = same_Some _ _ same in
        subst (λ c. AreWordsOf c (program ∷ codes "run" ∷ rest)) is (named_words (codes "run") program rest met asks)

after_code : (program : Text) (rest : List Text) → Tells (program ∷ codes "runcode" ∷ rest)
after_code program rest = after_options (codes "runcode") program rest of_code (at_first_of_code program rest) are
  where
    are : (met : Met) (command : Command) → AsksSo rest met → of_code met ≡ Some command
        → AreWordsOf command (program ∷ codes "runcode" ∷ rest)
    are met command asks same =
        let is : RunCode met.0 ≡ command = same_Some _ _ same in
        subst (λ c. AreWordsOf c (program ∷ codes "runcode" ∷ rest)) is
        (named_words (codes "runcode") program rest met asks)

after_record : (program : Text) (rest : List Text) → Tells (program ∷ codes "record" ∷ rest)
after_record program rest =
    after_options (codes "record") program rest of_record (at_first_of_record program rest) are
  where
    words : List Text
    words = program ∷ codes "record" ∷ rest

    by_given : (options : RunOptions) (given counts : Bool) (command : Command) → SetAndEnd rest options given
        → options.stats ≡ counts → (if given || counts then None else Some (Record options)) ≡ Some command
        → AreWordsOf command words
    by_given options true counts command asks is same = absurd (let none : None ≡ Some command = same in cc)
    by_given options false true command asks is same = absurd (let none : None ≡ Some command = same in cc)
    by_given options false false command (set, ending, sets, none, ends, whole) is same =
        subst (λ c. AreWordsOf c words) (same_Some _ _ same)
        (program, set, ending, sets, none refl, is, ends, ap (λ r. program ∷ codes "record" ∷ r) whole)

    are : (met : Met) (command : Command) → AsksSo rest met → of_record met ≡ Some command → AreWordsOf command words
    are met command asks same = by_given met.0 met.1 met.0.stats command asks refl same

-- what sets a number is a numeral
sets_by_numeral : (bounds : Bounds) (n : Number) (value : Option Text) (k : ℕ)
    → limit_by bounds value ≡ Some k
    → IsNumeral (number n) value
sets_by_numeral bounds n None k e = tt
sets_by_numeral bounds n (Some text) k e = by_numeral (is_numeral text) e
  where
    by_numeral : (b : Bool)
        → within bounds.least bounds.most (cond b (Some (digits_value 10 text)) None) ≡ Some k
        → b ≡ true
    by_numeral true e = refl
    by_numeral false e = cc

-- words that set these options ask for them
asks_set : (options : RunOptions) (set ending : List Text)
    → (sets : SetOptions options set)
    → IsEnd ending
    → from (between [] None) (set ++ ending) ≡ Some (options, is_some sets.set_workers.0)
asks_set options set ending sets ends =
    ap (λ w. from (between [] None) (w ++ ending)) (sets.whole ∙ ap joined_groups places.2)
    ∙ asks values words ending gives numerals ends places.0 places.1
    ∙ (rw (
      sets.set_steps.1,
      sets.set_goroutines.1,
      sets.set_pages.1,
      sets.set_page_words.1,
      sets.set_regions.1,
      sets.set_workers.1,
      test_fits (options.sizes.pages * options.sizes.page_words) sets.fits,
      flag_is options.stats,
    ) refl)
  where
    values : Values
    values (number steps) = sets.set_steps.0
    values (number goroutines) = sets.set_goroutines.0
    values (number pages) = sets.set_pages.0
    values (number page_words) = sets.set_page_words.0
    values (number regions) = sets.set_regions.0
    values (number workers) = sets.set_workers.0
    values stats = cond options.stats (Some (codes "true")) None

    words : Name → List Text
    words (number steps) = sets.steps
    words (number goroutines) = sets.goroutines
    words (number pages) = sets.pages
    words (number page_words) = sets.page_words
    words (number regions) = sets.regions
    words (number workers) = sets.workers
    words stats = sets.stats

    flag_is : (b : Bool) → is_some (cond b (Some (codes "true")) None) ≡ b
    flag_is true = refl
    flag_is false = refl

    flag : (b : Bool) (mine : List Text)
        → SetFlag (codes "stats") b mine
        → Gives stats (cond b (Some (codes "true")) None) mine
    flag true mine is = (refl, is)
    flag false mine is = is

    gives : (name : Name) → Gives name (values name) (words name)
    gives (number steps) = sets.set_steps.2
    gives (number goroutines) = sets.set_goroutines.2
    gives (number pages) = sets.set_pages.2
    gives (number page_words) = sets.set_page_words.2
    gives (number regions) = sets.set_regions.2
    gives (number workers) = sets.set_workers.2
    gives stats = flag options.stats sets.stats sets.set_stats

    numerals : (name : Name) → IsNumeral name (values name)
    numerals (number steps) = sets_by_numeral step_bounds steps _ _ sets.set_steps.1
    numerals (number goroutines) = sets_by_numeral goroutine_bounds goroutines _ _ sets.set_goroutines.1
    numerals (number pages) = sets_by_numeral page_bounds pages _ _ sets.set_pages.1
    numerals (number page_words) = sets_by_numeral page_word_bounds page_words _ _ sets.set_page_words.1
    numerals (number regions) = sets_by_numeral region_bounds regions _ _ sets.set_regions.1
    numerals (number workers) = sets_by_numeral worker_bounds workers _ _ sets.set_workers.1
    numerals stats = tt

    places : (places : List Name) × IsPermutation names places × (sets.order ≡ map words places)
    places = names_in_order words names sets.order sets.permuted

-- ---- commands without options

alone : (p : Plain) (program : Text) → command_of (program ∷ name_of p ∷ []) ≡ Some (plain_command p)
alone check = commands.check
alone emit = commands.emit
alone code = commands.code
alone replay = commands.replay

ended : (p : Plain) (program : Text) → command_of (program ∷ name_of p ∷ codes "--" ∷ []) ≡ Some (plain_command p)
ended check = commands.check_ended
ended emit = commands.emit_ended
ended code = commands.code_ended
ended replay = commands.replay_ended

are_words : (p : Plain) (words : List Text) → ArePlain (name_of p) words → AreWordsOf (plain_command p) words
are_words check words are = are
are_words emit words are = are
are_words code words are = are
are_words replay words are = are

tells_plain : (p : Plain) (program : Text) (rest : List Text)
    → IsEnd rest
    → command_of (program ∷ name_of p ∷ rest) ≡ Some (plain_command p)
    → Tells (program ∷ name_of p ∷ rest)
tells_plain p program rest ends is command e =
    let same : plain_command p ≡ command = cc in
    subst (λ c. AreWordsOf c (program ∷ name_of p ∷ rest)) same
    (are_words p (program ∷ name_of p ∷ rest) (program, rest, ends, refl))

after_plain : (p : Plain) (program : Text) (rest : List Text) → Tells (program ∷ name_of p ∷ rest)
after_plain p program [] = tells_plain p program [] (inl refl) (alone p program)
after_plain p program (x ∷ xs) = by_dashes xs (bytes_eq x (codes "--")) refl
  where
    at_dashes : (more : List Text) → Tells (program ∷ name_of p ∷ codes "--" ∷ more)
    at_dashes [] = tells_plain p program (codes "--" ∷ []) (inr refl) (ended p program)
    at_dashes (y ∷ ys) = tells_nothing _ (more_rest p program y ys)

    by_dashes : (more : List Text) (b : Bool)
        → bytes_eq x (codes "--") ≡ b
        → Tells (program ∷ name_of p ∷ x ∷ more)
    by_dashes more false e = tells_nothing _ (other_rest p program x more e)
    by_dashes more true e =
        subst (λ w. Tells (program ∷ name_of p ∷ w ∷ more)) (sym ((bytes_eq-Decides x (codes "--")).0 e))
        (at_dashes more)

-- a word that is the name of such a command
at_plain : (p : Plain) (program w : Text) (rest : List Text)
    → bytes_eq (name_of p) w ≡ true
    → Tells (program ∷ w ∷ rest)
at_plain p program w rest e =
    subst (λ w. Tells (program ∷ w ∷ rest)) ((bytes_eq-Decides (name_of p) w).0 e) (after_plain p program rest)

-- ---- the number of `big`

after_big : (program : Text) (rest : List Text) → Tells (program ∷ codes "big" ∷ rest)
after_big program rest command e = by_found (big.found rest)
  where
    words : List Text
    words = program ∷ codes "big" ∷ rest

    -- the number is what the words ask for
    by_number : (x : Text) → HoldNumber x rest
        → (n : Option ℕ) → big_by x ≡ n
        → option_map Big n ≡ Some command
        → AreWordsOf command words
    by_number x holds None is given = cc
    by_number x holds (Some n) is given =
        let same : Big n ≡ command = cc in
        subst (λ c. AreWordsOf c words) same (program, x, rest, is, holds, refl)

    by_found : big.Found rest → AreWordsOf command words
    by_found (inl none) = tells_nothing words (big.at_first program rest ∙ none) command e
    by_found (inr (x, holds, is)) =
        by_number x holds (big_by x) refl (sym is ∙ sym (big.at_first program rest) ∙ e)

tells : (words : List Text) → Tells words
tells [] = tells_nothing [] nothing.no_words
tells (program ∷ []) = tells_nothing (program ∷ []) (nothing.no_command program)
tells (program ∷ w ∷ rest) = by_run (bytes_eq (codes "run") w) refl
  where
    by_run_code : (b : Bool)
        → bytes_eq (codes "run") w ≡ false
        → bytes_eq (codes "check") w ≡ false
        → bytes_eq (codes "emit") w ≡ false
        → bytes_eq (codes "code") w ≡ false
        → bytes_eq (codes "big") w ≡ false
        → bytes_eq (codes "record") w ≡ false
        → bytes_eq (codes "replay") w ≡ false
        → bytes_eq (codes "runcode") w ≡ b
        → Tells (program ∷ w ∷ rest)
    by_run_code true r c e o g d p is =
        subst (λ w. Tells (program ∷ w ∷ rest)) ((bytes_eq-Decides (codes "runcode") w).0 is) (after_code program rest)
    by_run_code false r c e o g d p is =
        tells_nothing (program ∷ w ∷ rest)
        (other_word program w rest
        (record { run = r; check = c; emit = e; code = o; big = g; recorded = d; replay = p; run_code = is }))

    by_replay : (b : Bool)
        → bytes_eq (codes "run") w ≡ false
        → bytes_eq (codes "check") w ≡ false
        → bytes_eq (codes "emit") w ≡ false
        → bytes_eq (codes "code") w ≡ false
        → bytes_eq (codes "big") w ≡ false
        → bytes_eq (codes "record") w ≡ false
        → bytes_eq (codes "replay") w ≡ b
        → Tells (program ∷ w ∷ rest)
    by_replay true r c e o g d is = at_plain replay program w rest is
    by_replay false r c e o g d is = by_run_code (bytes_eq (codes "runcode") w) r c e o g d is refl

    by_record : (b : Bool)
        → bytes_eq (codes "run") w ≡ false
        → bytes_eq (codes "check") w ≡ false
        → bytes_eq (codes "emit") w ≡ false
        → bytes_eq (codes "code") w ≡ false
        → bytes_eq (codes "big") w ≡ false
        → bytes_eq (codes "record") w ≡ b
        → Tells (program ∷ w ∷ rest)
    by_record true r c e o g is =
        subst (λ w. Tells (program ∷ w ∷ rest)) ((bytes_eq-Decides (codes "record") w).0 is) (after_record program rest)
    by_record false r c e o g is = by_replay (bytes_eq (codes "replay") w) r c e o g is refl

    by_big : (b : Bool)
        → bytes_eq (codes "run") w ≡ false
        → bytes_eq (codes "check") w ≡ false
        → bytes_eq (codes "emit") w ≡ false
        → bytes_eq (codes "code") w ≡ false
        → bytes_eq (codes "big") w ≡ b
        → Tells (program ∷ w ∷ rest)
    by_big true r c e o is =
        subst (λ w. Tells (program ∷ w ∷ rest)) ((bytes_eq-Decides (codes "big") w).0 is) (after_big program rest)
    by_big false r c e o is = by_record (bytes_eq (codes "record") w) r c e o is refl

    by_code : (b : Bool)
        → bytes_eq (codes "run") w ≡ false
        → bytes_eq (codes "check") w ≡ false
        → bytes_eq (codes "emit") w ≡ false
        → bytes_eq (codes "code") w ≡ b
        → Tells (program ∷ w ∷ rest)
    by_code true r c e is = at_plain code program w rest is
    by_code false r c e is = by_big (bytes_eq (codes "big") w) r c e is refl

    by_emit : (b : Bool)
        → bytes_eq (codes "run") w ≡ false
        → bytes_eq (codes "check") w ≡ false
        → bytes_eq (codes "emit") w ≡ b
        → Tells (program ∷ w ∷ rest)
    by_emit true r c is = at_plain emit program w rest is
    by_emit false r c is = by_code (bytes_eq (codes "code") w) r c is refl

    by_check : (b : Bool)
        → bytes_eq (codes "run") w ≡ false
        → bytes_eq (codes "check") w ≡ b
        → Tells (program ∷ w ∷ rest)
    by_check true r is = at_plain check program w rest is
    by_check false r is = by_emit (bytes_eq (codes "emit") w) r is refl

    by_run : (b : Bool) → bytes_eq (codes "run") w ≡ b → Tells (program ∷ w ∷ rest)
    by_run true is =
        subst (λ w. Tells (program ∷ w ∷ rest)) ((bytes_eq-Decides (codes "run") w).0 is) (after_run program rest)
    by_run false is = by_check (bytes_eq (codes "check") w) is refl

ask_plain : (p : Plain) (words : List Text) → ArePlain (name_of p) words → command_of words ≡ Some (plain_command p)
ask_plain p words (program, ending, inl none, is) =
    ap command_of (is ∙ ap (λ e. program ∷ name_of p ∷ e) none) ∙ alone p program
ask_plain p words (program, ending, inr dashes, is) =
    ap command_of (is ∙ ap (λ e. program ∷ name_of p ∷ e) dashes) ∙ ended p program

-- an option without words has no value
none_given : (value : Option Text) (mine : List Text) → SetsOption (codes "workers") value mine → mine ≡ []
    → is_some value ≡ false
none_given None mine give empty = refl
none_given (Some text) mine (inl give) empty = absurd (let one : [] ≡ (codes "--" ++ codes "workers") ∷ text ∷ [] = sym empty ∙ give in cc)
none_given (Some text) mine (inr give) empty =
    absurd (let one : [] ≡ (codes "--" ++ (codes "workers" ++ (codes "=" ++ text))) ∷ [] = sym empty ∙ give in cc)

ask : (words : List Text) (command : Command) → AreWordsOf command words → command_of words ≡ Some command
ask words (Run options) (program, set, ending, sets, ends, is) =
    ap command_of is ∙ at_first program (set ++ ending) ∙ ap (option_and_then of_run) (asks_set options set ending sets ends)
ask words (RunCode options) (program, set, ending, sets, ends, is) =
    ap command_of is ∙ at_first_of_code program (set ++ ending)
    ∙ ap (option_and_then of_code) (asks_set options set ending sets ends)
ask words (Record options) (program, set, ending, sets, none, plain, ends, is) =
    ap command_of is ∙ at_first_of_record program (set ++ ending)
    ∙ ap (option_and_then of_record) (asks_set options set ending sets ends)
    ∙ ap₂ (λ (b c : Bool). if b || c then None else Some (Record options))
    (none_given sets.set_workers.0 sets.workers sets.set_workers.2 none) plain
ask words Check are = ask_plain check words are
ask words Emit are = ask_plain emit words are
ask words Code are = ask_plain code words are
ask words Replay are = ask_plain replay words are
ask words (Big n) (program, x, held, given, holds, is) =
    ap command_of is ∙ big.at_first program held ∙ big.asks x n held given holds

pub exactly : AskExactly
exactly words command = (tells words command, ask words command)
