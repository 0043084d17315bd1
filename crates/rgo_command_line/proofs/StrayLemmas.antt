-- A word that a command does not take is a fault, whatever follows it: a later fault may be added, but none is lost.
use Rattle.std.proofs.Common.{◌≡◌, refl, sym, codes, Bool, true, false, true≢false, ℕ, List, [], ◌∷◌, length}
use Rattle.std.proofs.Common.{Option, Some, None}
use Rattle.std.specs.Prelude.{⊤, slice_get, find}
use Rattle.std.specs.Option.{option_map_or}
use Rattle.std.specs.Str.{bytes_eq, chars}
use Rattle.clap.specs.Words.{Kinds, Row, Rule, Shape, Text}
use Rattle.clap.specs.Kinds.{or_else}
use Rattle.clap.specs.Lexer.{long_of, short_of}
use Rattle.clap.specs.Simple.{filled}
use Rattle.clap.specs.Walk.{Held, Names, Step, after_flag, answers_to, bundle_met, bundle_step, idle, long_or_other}
use Rattle.clap.specs.Walk.{plain, short_or_plain, walk_from}
use Rattle.clap.specs.Faults.{bundle_fault, bundle_step_fault, flag_word_fault, flags_fault, step_fault, turn_fault}
use Rattle.clap.proofs.OnLiterals.{clap_on_literals}
use Rattle.rgo_command_line.specs.Commands.{has_fault}
use Rattle.rgo_command_line.specs.Parser.{flag_option, number_option}

-- a fault is not lost where another may follow
pub with_first : (a b : Kinds) → has_fault a ≡ true → has_fault (or_else a b) ≡ true
with_first [] b e = absurd (true≢false (sym e))
with_first (k ∷ ks) b e = refl

-- an option as it is built
abbrev pub option_of : Text → Rule
option_of name = filled (number_option name)

-- the flag as it is built
abbrev pub stats_flag : Rule
stats_flag = filled (flag_option (codes "stats"))

-- the options of `run`, or none
abbrev pub rules_of : Bool → List Rule
rules_of true =
    option_of (codes "steps") ∷ option_of (codes "goroutines") ∷ option_of (codes "pages")
    ∷ option_of (codes "page-words") ∷ option_of (codes "regions") ∷ option_of (codes "workers") ∷ stats_flag ∷ []
rules_of false = []

-- the command, with such options
abbrev pub with_rules : Bool → Shape → Bool → Shape
with_rules is_run s is_leaf = record s { rules = rules_of is_run; is_leaf = is_leaf }

-- what is held between two words
abbrev pub holding : List Row → Option (Text × List Text) → Held
holding rows pending = record { rows = rows; pending = pending; skip = 0 }

-- the text is the name of no option of `run`
pub record IsNoOption (text : Text) : Type 0 where
  pub steps : bytes_eq (codes "steps") text ≡ false
  pub goroutines : bytes_eq (codes "goroutines") text ≡ false
  pub pages : bytes_eq (codes "pages") text ≡ false
  pub page_words : bytes_eq (codes "page-words") text ≡ false
  pub regions : bytes_eq (codes "regions") text ≡ false
  pub workers : bytes_eq (codes "workers") text ≡ false
  pub stats : bytes_eq (codes "stats") text ≡ false

-- no option of these is called by what the word has after its dashes
abbrev pub IsUnknown : Bool → Text → Type 0
IsUnknown false w = ⊤
IsUnknown true w = (p : Text × Option Text) → long_of w ≡ Some p → IsNoOption p.0

module _ (s : Shape) (rows : List Row) (pending : Option (Text × List Text)) where
  abbrev again : Bool
  again = s.args_override_self

  abbrev held : Held
  held = holding rows pending

  -- what is wrong with such a word
  abbrev met_fault : Bool → Bool → Held × Step → Kinds
  met_fault r is_leaf met = step_fault (with_rules r s is_leaf) 1 met.0 met.1

  -- by the first character of a short flag
  by_char : (r is_leaf : Bool) (c : Option ℕ) (flags w : Text) (k : ℕ)
      → let met = bundle_step (rules_of r) c flags 0 plain held (bundle_met (rules_of r) k) in
      has_fault (or_else (bundle_step_fault (rules_of r) again c flags 0 held (flags_fault (rules_of r) again k))
      (met_fault r is_leaf (after_flag (rules_of r) idle w met.0 met.1))) ≡ true
  by_char true true None flags w k = refl
  by_char true false None flags w k = refl
  by_char false true None flags w k = refl
  by_char false false None flags w k = refl
  by_char true is_leaf (Some x) flags w k = refl
  by_char false is_leaf (Some x) flags w k = refl

  by_short : (r is_leaf : Bool) (short : Option Text) (w : Text)
      → has_fault (or_else (option_map_or (λ flags. bundle_fault (rules_of r) again flags held) short [])
      (met_fault r is_leaf (short_or_plain (rules_of r) idle w short held))) ≡ true
  unfolding clap_on_literals
  by_short true true None w = refl
  by_short true false None w = refl
  by_short false true None w = refl
  by_short false false None w = refl
  by_short true true (Some []) w = refl
  by_short true false (Some []) w = refl
  by_short false true (Some []) w = refl
  by_short false false (Some []) w = refl
  by_short r is_leaf (Some (x ∷ xs)) w = by_char r is_leaf (slice_get (chars (x ∷ xs)) 0) (x ∷ xs) w (length xs)

  by_long : (r is_leaf : Bool) (long : Option (Text × Option Text)) (w : Text)
      → long_of w ≡ long
      → IsUnknown r w
      → has_fault (or_else (flag_word_fault (rules_of r) again long w held)
      (met_fault r is_leaf (long_or_other (rules_of r) idle w long held))) ≡ true
  by_long true is_leaf (Some p) w e unknown =
      let none = unknown p e in
      rw (none.steps, none.goroutines, none.pages, none.page_words, none.regions, none.workers, none.stats) refl
  by_long false is_leaf (Some p) w e unknown = refl
  by_long r is_leaf None w e unknown = by_short r is_leaf (short_of w) w

  -- a word that names no subcommand and no option, and is not `--`, is a fault if no option waits for it
  pub stray : (r is_leaf : Bool) (names : Names) (w : Text)
      → find (answers_to w) names ≡ None
      → bytes_eq w (codes "--") ≡ false
      → IsUnknown r w
      → has_fault (turn_fault (with_rules r s is_leaf) names (walk_from held) w) ≡ true
  stray r is_leaf names w no_name no_dashes unknown =
      rw (no_name, no_dashes) (by_long r is_leaf (long_of w) w refl unknown)
