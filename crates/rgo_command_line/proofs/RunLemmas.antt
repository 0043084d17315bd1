-- What the words after `run` ask for, one word at a time: the steps of `clap`'s walk, each as an equation. An option may wait for its
-- value between two words, so a state of the walk is its rows and what waits.
use Rattle.std.proofs.Common.{◌≡◌, ◌∙◌, refl, sym, ap, ap₂, codes, cond, Bool}
use Rattle.std.proofs.Common.{true, false, ◌||◌, ◌&&◌, ℕ, List, [], ◌∷◌}
use Rattle.std.proofs.Common.{Option, Some, None, ◌⊎◌, inl, inr}
use Rattle.std.specs.List.{fold}
use Rattle.std.specs.Prelude.{if◌then◌else◌, option_and_then, slice_get}
use Rattle.std.specs.Str.{bytes_eq, chars}
use Rattle.clap.specs.Words.{Kinds, Row, Text}
use Rattle.clap.specs.Kinds.{or_else}
use Rattle.clap.specs.Lexer.{long_of, short_of}
use Rattle.clap.specs.Walk.{Held, Waiting, Walk, finished, has_row}
use Rattle.clap.specs.Walk.{option, settled, settled_rows, used, walk_from, walked}
use Rattle.clap.specs.Faults.{check_fault, defaults_fault, settle_fault, turn_fault, walk_fault}
use Rattle.clap.specs.declared.error.kind.ErrorKind.TheVariants.{ArgumentConflict}
use Rattle.clap.proofs.OnLiterals.{clap_on_literals}
use Rattle.rgo_command_line.specs.Commands.{command_of, has_fault}
use Rattle.rgo_command_line.specs.Numbers.{is_numeral}
use Rattle.rgo_command_line.proofs.RestLemmas.{Met, after_record, after_run, after_run_code, just_one, of_code, of_record, of_run}
use Rattle.rgo_command_line.proofs.RestLemmas.{run_leaf, run_met}
use Rattle.rgo_command_line.proofs.StrayLemmas.{IsNoOption, IsUnknown, holding, option_of, stats_flag, stray}
use Rattle.rgo_command_line.proofs.StrayLemmas.{with_first}
use Rattle.rgo_command_line.proofs.WordLemmas.{Kind, Name, Number, IsPlain, dashed, dashes}
use Rattle.rgo_command_line.proofs.WordLemmas.{goroutines, joined, kind_of_word, named}
use Rattle.rgo_command_line.proofs.WordLemmas.{number, number_text, numeral_is_plain, other, page_words, pages}
use Rattle.rgo_command_line.proofs.WordLemmas.{regions, stats, steps, text_of, valued, workers}

-- what is wrong after the walk
abbrev pub end_fault : Held → Kinds
end_fault held =
    or_else (settle_fault run_leaf.rules run_leaf.args_override_self held)
    (or_else (defaults_fault (settled run_leaf.rules held).rows run_leaf.rules)
    (check_fault run_leaf (finished run_leaf.rules held) false))

-- what the words set, with this wrong on the way, and with what is held after them
abbrev verdict : Kinds → Held → Option Met
verdict k held = cond (has_fault (or_else k (end_fault held))) None (run_met (finished run_leaf.rules held))

-- what the words ask for that follow those that led here
unfoldable pub from : Walk → List Text → Option Met
from w rest = verdict (walk_fault run_leaf [] w rest) (fold (walked run_leaf.rules []) w rest).held

-- between two words, where an option may have its value without being a row, and may wait for one
abbrev standing : List Row → Option (Text × List Text) → Waiting → Walk
standing rows pending waits = record (walk_from (holding rows pending)) { waiting = waits }

-- between two words, where no option waits for a value
abbrev pub between : List Row → Option (Text × List Text) → Walk
between rows pending = walk_from (holding rows pending)

-- after an option that waits for its value
abbrev pub waiting : List Row → Number → Walk
waiting rows n = standing rows (Some (number_text n, [])) (option (number_text n))

-- What is wrong with the option that is not a row yet, and the rows with it: `clap` adds a row only when the next option begins or the
-- words end.
abbrev settling : List Row → Option (Text × List Text) → Kinds
settling rows pending = settle_fault run_leaf.rules run_leaf.args_override_self (holding rows pending)

abbrev settled_at : List Row → Option (Text × List Text) → List Row
settled_at rows pending = settled_rows run_leaf.rules pending rows

pub at_first : (program : Text) (rest : List Text)
    → command_of (program ∷ codes "run" ∷ rest) ≡ option_and_then of_run (from (between [] None) rest)
unfolding from
at_first program rest = after_run program rest

-- the words after `runcode` are read as those after `run`
pub at_first_of_code : (program : Text) (rest : List Text)
    → command_of (program ∷ codes "runcode" ∷ rest) ≡ option_and_then of_code (from (between [] None) rest)
unfolding from
at_first_of_code program rest = after_run_code program rest

-- and those after `record`
pub at_first_of_record : (program : Text) (rest : List Text)
    → command_of (program ∷ codes "record" ∷ rest) ≡ option_and_then of_record (from (between [] None) rest)
unfolding from
at_first_of_record program rest = after_record program rest

-- at the end of the words
pub at_no_more : (rows : List Row)
    → from (between rows None) []
    ≡ cond (has_fault (end_fault (holding rows None))) None (run_met (finished run_leaf.rules (holding rows None)))
unfolding from clap_on_literals
at_no_more rows = refl

by_turn : (k turns : Kinds) (held : Held)
    → verdict (or_else k turns) held ≡ cond (has_fault k) None (verdict turns held)
by_turn [] turns held = refl
by_turn (x ∷ xs) turns held = refl

-- one word more
turn : (w : Walk) (x : Text) (xs : List Text)
    → from w (x ∷ xs) ≡ cond (has_fault (turn_fault run_leaf [] w x)) None (from (walked run_leaf.rules [] w x) xs)
unfolding from walk_fault
turn w x xs = by_turn (turn_fault run_leaf [] w x) (walk_fault run_leaf [] (walked run_leaf.rules [] w x) xs)
    (fold (walked run_leaf.rules []) (walked run_leaf.rules [] w x) xs).held

-- whether a word is wrong, and where it leads otherwise
record Leads (w : Walk) (x : Text) (is_wrong : Bool) (v : Walk) : Type 0 where
  wrong : has_fault (turn_fault run_leaf [] w x) ≡ is_wrong
  walk : walked run_leaf.rules [] w x ≡ v

leads : (w v : Walk) (x : Text) (xs : List Text) (b : Bool)
    → Leads w x b v
    → from w (x ∷ xs) ≡ cond b None (from v xs)
leads w v x xs b l = turn w x xs ∙ ap₂ (λ (c : Bool) (u : Walk). cond c None (from u xs)) l.wrong l.walk

stops : (w : Walk) (x : Text) (xs : List Text)
    → has_fault (turn_fault run_leaf [] w x) ≡ true
    → from w (x ∷ xs) ≡ None
stops w x xs e = turn w x xs ∙ ap (λ (b : Bool). cond b None (from (walked run_leaf.rules [] w x) xs)) e

-- the rows with an option that was not given before
abbrev pub given : Name → Text → List Row → List Row
given (number n) value rows = used (option_of (number_text n)) (value ∷ []) rows
given stats value rows = used stats_flag [] rows

-- what the words ask for that follow an option and its value
abbrev pub after : List Row → Name → Text → List Text → Option Met
after rows name value rest =
    cond (has_row (text_of name) rows) None (from (between (given name value rows) None) rest)

-- a word that `run` does not take
pub at_other : (rows : List Row) (pending : Option (Text × List Text)) (x : Text) (xs : List Text)
    → bytes_eq x (codes "--") ≡ false
    → IsUnknown true x
    → from (between rows pending) (x ∷ xs) ≡ None
at_other rows pending x xs no_dashes unknown =
    stops (between rows pending) x xs (stray run_leaf rows pending true true [] x refl no_dashes unknown)

-- a `--` ends the words
ends_at : (rows : List Row) (pending : Option (Text × List Text)) (t : Text)
    → from (standing rows pending (option t)) (codes "--" ∷ []) ≡ from (standing rows pending (option t)) []
unfolding from clap_on_literals
ends_at rows pending t = refl

pub at_ending : (rows : List Row) (pending : Option (Text × List Text))
    → from (between rows pending) (codes "--" ∷ []) ≡ from (between rows pending) []
unfolding from clap_on_literals
at_ending rows pending = refl

more_at : (rows : List Row) (pending : Option (Text × List Text)) (t x : Text) (xs : List Text)
    → from (standing rows pending (option t)) (codes "--" ∷ x ∷ xs) ≡ None
unfolding from clap_on_literals
more_at rows pending t x xs = refl

pub at_more : (rows : List Row) (pending : Option (Text × List Text)) (x : Text) (xs : List Text)
    → from (between rows pending) (codes "--" ∷ x ∷ xs) ≡ None
unfolding from clap_on_literals
at_more rows pending x xs = refl

-- an option that has its value is wrong if there is a row of it: it appears at most once
once : (b : Bool) → has_fault (or_else (if b && true then ArgumentConflict ∷ [] else []) []) ≡ b
once true = refl
once false = refl

once_after : (k : Kinds) (b : Bool)
    → has_fault (or_else (or_else k (or_else (if b && true then ArgumentConflict ∷ [] else []) [])) [])
    ≡ (has_fault k || b)
once_after [] true = refl
once_after [] false = refl
once_after (x ∷ xs) b = refl

-- an option's name, whose value is to come
abbrev LeadsNamed : Number → List Row → Option (Text × List Text) → Type 0
LeadsNamed n rows pending =
    Leads (between rows pending) (dashed (number n)) (has_fault (settling rows pending))
    (waiting (settled_at rows pending) n)

leads_named : (n : Number) (rows : List Row) (pending : Option (Text × List Text)) → LeadsNamed n rows pending
unfolding clap_on_literals
leads_named steps rows pending = record { wrong = just_one (settling rows pending); walk = refl }
leads_named goroutines rows pending = record { wrong = just_one (settling rows pending); walk = refl }
leads_named pages rows pending = record { wrong = just_one (settling rows pending); walk = refl }
leads_named page_words rows pending = record { wrong = just_one (settling rows pending); walk = refl }
leads_named regions rows pending = record { wrong = just_one (settling rows pending); walk = refl }
leads_named workers rows pending = record { wrong = just_one (settling rows pending); walk = refl }

-- a whole option in one word
abbrev LeadsWhole : Name → Text → Text → List Row → Option (Text × List Text) → Type 0
LeadsWhole name value x rows pending =
    Leads (between rows pending) x
    (has_fault (settling rows pending) || has_row (text_of name) (settled_at rows pending))
    (between (given name value (settled_at rows pending)) None)

leads_joined : (n : Number) (value : Text) (rows : List Row) (pending : Option (Text × List Text))
    → LeadsWhole (number n) value (joined (number n) value) rows pending
unfolding clap_on_literals
leads_joined steps value rows pending =
    record {
      wrong = once_after (settling rows pending) (has_row (codes "steps") (settled_at rows pending));
      walk = refl;
    }
leads_joined goroutines value rows pending = record {
  wrong = once_after (settling rows pending) (has_row (codes "goroutines") (settled_at rows pending));
  walk = refl;
}
leads_joined pages value rows pending =
    record {
      wrong = once_after (settling rows pending) (has_row (codes "pages") (settled_at rows pending));
      walk = refl;
    }
leads_joined page_words value rows pending = record {
  wrong = once_after (settling rows pending) (has_row (codes "page-words") (settled_at rows pending));
  walk = refl;
}
leads_joined regions value rows pending = record {
  wrong = once_after (settling rows pending) (has_row (codes "regions") (settled_at rows pending));
  walk = refl;
}
leads_joined workers value rows pending = record {
  wrong = once_after (settling rows pending) (has_row (codes "workers") (settled_at rows pending));
  walk = refl;
}

leads_flag : (value : Text) (rows : List Row) (pending : Option (Text × List Text))
    → LeadsWhole stats value (dashed stats) rows pending
unfolding clap_on_literals
leads_flag value rows pending =
    record {
      wrong = once_after (settling rows pending) (has_row (codes "stats") (settled_at rows pending));
      walk = refl;
    }

-- a flag with a value
pub at_flag_value : (rows : List Row) (pending : Option (Text × List Text)) (value : Text) (xs : List Text)
    → from (between rows pending) (joined stats value ∷ xs) ≡ None
unfolding clap_on_literals
at_flag_value rows pending value xs = stops (between rows pending) (joined stats value) xs refl

pub at_joined : (rows : List Row) (n : Number) (value : Text) (xs : List Text)
    → from (between rows None) (joined (number n) value ∷ xs) ≡ after rows (number n) value xs
at_joined rows n value xs = leads _ _ (joined (number n) value) xs _ (leads_joined n value rows None)

pub at_flag : (rows : List Row) (value : Text) (xs : List Text)
    → from (between rows None) (dashed stats ∷ xs) ≡ after rows stats value xs
at_flag rows value xs = leads _ _ (dashed stats) xs _ (leads_flag value rows None)

pub at_dashed : (rows : List Row) (n : Number) (xs : List Text)
    → from (between rows None) (dashed (number n) ∷ xs) ≡ from (waiting rows n) xs
at_dashed rows n xs = leads _ _ (dashed (number n)) xs _ (leads_named n rows None)

-- an option that waits for its value has none
no_value : (n : Number) (rows : List Row) → has_fault (settling rows (Some (number_text n, []))) ≡ true
unfolding clap_on_literals
no_value steps rows = refl
no_value goroutines rows = refl
no_value pages rows = refl
no_value page_words rows = refl
no_value regions rows = refl
no_value workers rows = refl

pub at_no_value : (rows : List Row) (n : Number) → from (waiting rows n) [] ≡ None
unfolding from clap_on_literals
at_no_value rows n =
    ap (λ (b : Bool). cond b None (run_met (finished run_leaf.rules (holding rows (Some (number_text n, []))))))
    (with_first _ _ (no_value n rows))

-- the words after an option that has its value, and is not yet a row
abbrev Settles : List Row → Option (Text × List Text) → List Text → Type 0
Settles rows pending rest = from (between rows pending) rest
    ≡ cond (has_fault (settling rows pending)) None (from (between (settled_at rows pending) None) rest)

by_end : (k ends : Kinds) (met : Option Met)
    → cond (has_fault (or_else k ends)) None met ≡ cond (has_fault k) None (cond (has_fault ends) None met)
by_end [] ends met = refl
by_end (x ∷ xs) ends met = refl

settles_end : (rows : List Row) (pending : Option (Text × List Text)) → Settles rows pending []
unfolding from clap_on_literals
settles_end rows pending =
    by_end (settling rows pending) (end_fault (holding (settled_at rows pending) None))
    (run_met (finished run_leaf.rules (holding (settled_at rows pending) None)))

-- what asks for nothing in both
both_none : (x y : Option Met) (b : Bool) → x ≡ None → y ≡ None → x ≡ cond b None y
both_none x y true e f = e
both_none x y false e f = e ∙ sym f

one_after : (a b : Bool) (x : Option Met) → cond (a || b) None x ≡ cond a None (cond b None x)
one_after true b x = refl
one_after false b x = refl

settles : (rows : List Row) (pending : Option (Text × List Text)) (rest : List Text) → Settles rows pending rest
settles rows pending [] = settles_end rows pending
settles rows pending (x ∷ xs) = by_kind x xs (kind_of_word x)
  where
    b : Bool
    b = has_fault (settling rows pending)

    whole : (name : Name) (value : Text) (x : Text) (xs : List Text)
        → LeadsWhole name value x rows pending
        → LeadsWhole name value x (settled_at rows pending) None
        → Settles rows pending (x ∷ xs)
    whole name value x xs here there =
        leads _ _ x xs _ here
        ∙ one_after b (has_row (text_of name) (settled_at rows pending)) _
        ∙ ap (λ (o : Option Met). cond b None o) (sym (leads _ _ x xs _ there))

    by_kind : (x : Text) (xs : List Text) → Kind x → Settles rows pending (x ∷ xs)
    by_kind _ [] dashes =
        at_ending rows pending ∙ settles_end rows pending
        ∙ ap (λ (o : Option Met). cond b None o) (sym (at_ending (settled_at rows pending) None))
    by_kind _ (y ∷ ys) dashes = both_none _ _ b (at_more _ _ y ys) (at_more _ _ y ys)
    by_kind _ xs (named (number n)) =
        leads _ _ (dashed (number n)) xs _ (leads_named n rows pending)
        ∙ ap (λ (o : Option Met). cond b None o) (sym (at_dashed (settled_at rows pending) n xs))
    by_kind _ xs (named stats) =
        whole stats [] (dashed stats) xs (leads_flag [] rows pending) (leads_flag [] (settled_at rows pending) None)
    by_kind _ xs (valued (number n) value) =
        whole (number n) value (joined (number n) value) xs (leads_joined n value rows pending)
        (leads_joined n value (settled_at rows pending) None)
    by_kind _ xs (valued stats value) =
        both_none _ _ b (at_flag_value _ _ value xs) (at_flag_value _ _ value xs)
    by_kind _ xs (other x no_dashes unknown) =
        both_none _ _ b (at_other _ _ x xs no_dashes unknown) (at_other _ _ x xs no_dashes unknown)

-- with its value it is a row, if there was none of it
record IsSettled (n : Number) (value : Text) (rows : List Row) : Type 0 where
  wrong : has_fault (settling rows (Some (number_text n, value ∷ []))) ≡ has_row (number_text n) rows
  rows_are : settled_at rows (Some (number_text n, value ∷ [])) ≡ given (number n) value rows

is_settled : (n : Number) (value : Text) (rows : List Row) → IsSettled n value rows
unfolding clap_on_literals
is_settled steps value rows = record { wrong = once (has_row (codes "steps") rows); rows_are = refl }
is_settled goroutines value rows = record { wrong = once (has_row (codes "goroutines") rows); rows_are = refl }
is_settled pages value rows = record { wrong = once (has_row (codes "pages") rows); rows_are = refl }
is_settled page_words value rows = record { wrong = once (has_row (codes "page-words") rows); rows_are = refl }
is_settled regions value rows = record { wrong = once (has_row (codes "regions") rows); rows_are = refl }
is_settled workers value rows = record { wrong = once (has_row (codes "workers") rows); rows_are = refl }

settles_number : (rows : List Row) (n : Number) (value : Text) (rest : List Text)
    → from (between rows (Some (number_text n, value ∷ []))) rest ≡ after rows (number n) value rest
settles_number rows n value rest =
    settles rows (Some (number_text n, value ∷ [])) rest
    ∙ ap₂ (λ (b : Bool) (r : List Row). cond b None (from (between r None) rest))
    (is_settled n value rows).wrong (is_settled n value rows).rows_are

-- the word after an option's name is its value
record Pushes (rows : List Row) (n : Number) (x : Text) : Type 0 where
  no_fault : turn_fault run_leaf [] (waiting rows n) x ≡ []
  walk : walked run_leaf.rules [] (waiting rows n) x ≡ between rows (Some (number_text n, x ∷ []))

pushed : (rows : List Row) (n : Number) (x : Text) (xs : List Text)
    → Pushes rows n x
    → from (waiting rows n) (x ∷ xs) ≡ after rows (number n) x xs
pushed rows n x xs pushes =
    turn (waiting rows n) x xs
    ∙ ap₂ (λ (k : Kinds) (w : Walk). cond (has_fault k) None (from w xs)) pushes.no_fault pushes.walk
    ∙ settles_number rows n x xs

-- a word without dashes
pushes_plain : (rows : List Row) (n : Number) (x : Text) → IsPlain x → Pushes rows n x
unfolding clap_on_literals
pushes_plain rows steps x plain = record {
  no_fault = rw (plain.no_dashes, plain.no_long, plain.no_short) refl;
  walk = rw (plain.no_dashes, plain.no_long, plain.no_short) refl;
}
pushes_plain rows goroutines x plain = record {
  no_fault = rw (plain.no_dashes, plain.no_long, plain.no_short) refl;
  walk = rw (plain.no_dashes, plain.no_long, plain.no_short) refl;
}
pushes_plain rows pages x plain = record {
  no_fault = rw (plain.no_dashes, plain.no_long, plain.no_short) refl;
  walk = rw (plain.no_dashes, plain.no_long, plain.no_short) refl;
}
pushes_plain rows page_words x plain = record {
  no_fault = rw (plain.no_dashes, plain.no_long, plain.no_short) refl;
  walk = rw (plain.no_dashes, plain.no_long, plain.no_short) refl;
}
pushes_plain rows regions x plain = record {
  no_fault = rw (plain.no_dashes, plain.no_long, plain.no_short) refl;
  walk = rw (plain.no_dashes, plain.no_long, plain.no_short) refl;
}
pushes_plain rows workers x plain = record {
  no_fault = rw (plain.no_dashes, plain.no_long, plain.no_short) refl;
  walk = rw (plain.no_dashes, plain.no_long, plain.no_short) refl;
}

-- a numeral is the value
pub at_numeral : (rows : List Row) (n : Number) (x : Text) (xs : List Text)
    → is_numeral x ≡ true
    → from (waiting rows n) (x ∷ xs) ≡ after rows (number n) x xs
at_numeral rows n x xs numeral = pushed rows n x xs (pushes_plain rows n x (numeral_is_plain x numeral))

-- another word is the value, or asks for nothing
abbrev Meets : List Row → Number → Text → List Text → Type 0
Meets rows n x xs =
    (from (waiting rows n) (x ∷ xs) ≡ None) ⊎ (from (waiting rows n) (x ∷ xs) ≡ after rows (number n) x xs)

meets_dashes : (rows : List Row) (n : Number) (xs : List Text) → from (waiting rows n) (codes "--" ∷ xs) ≡ None
meets_dashes rows n [] = ends_at rows (Some (number_text n, [])) (number_text n) ∙ at_no_value rows n
meets_dashes rows n (y ∷ ys) = more_at rows (Some (number_text n, [])) (number_text n) y ys

-- an option where another waits for its value
meets_named : (rows : List Row) (pending : Option (Text × List Text)) (t : Text) (name : Name)
    → has_fault (settling rows pending) ≡ true
    → has_fault (turn_fault run_leaf [] (standing rows pending (option t)) (dashed name)) ≡ true
unfolding clap_on_literals
meets_named rows pending t (number steps) e = with_first _ _ e
meets_named rows pending t (number goroutines) e = with_first _ _ e
meets_named rows pending t (number pages) e = with_first _ _ e
meets_named rows pending t (number page_words) e = with_first _ _ e
meets_named rows pending t (number regions) e = with_first _ _ e
meets_named rows pending t (number workers) e = with_first _ _ e
meets_named rows pending t stats e = with_first _ _ (with_first _ _ e)

meets_joined : (rows : List Row) (pending : Option (Text × List Text)) (t : Text) (name : Name) (value : Text)
    → has_fault (settling rows pending) ≡ true
    → has_fault (turn_fault run_leaf [] (standing rows pending (option t)) (joined name value)) ≡ true
unfolding clap_on_literals
meets_joined rows pending t (number steps) value e = with_first _ _ (with_first _ _ e)
meets_joined rows pending t (number goroutines) value e = with_first _ _ (with_first _ _ e)
meets_joined rows pending t (number pages) value e = with_first _ _ (with_first _ _ e)
meets_joined rows pending t (number page_words) value e = with_first _ _ (with_first _ _ e)
meets_joined rows pending t (number regions) value e = with_first _ _ (with_first _ _ e)
meets_joined rows pending t (number workers) value e = with_first _ _ (with_first _ _ e)
meets_joined rows pending t stats value e = refl

meets_unknown : (rows : List Row) (pending : Option (Text × List Text)) (t x : Text) (p : Text × Option Text)
    → bytes_eq x (codes "--") ≡ false
    → long_of x ≡ Some p
    → IsNoOption p.0
    → has_fault (turn_fault run_leaf [] (standing rows pending (option t)) x) ≡ true
unfolding clap_on_literals
meets_unknown rows pending t x p d l none =
    rw (d, l, none.steps, none.goroutines, none.pages, none.page_words, none.regions, none.workers, none.stats) refl

-- flags that begin with no character
pushes_flags : (rows : List Row) (n : Number) (x flags : Text)
    → bytes_eq x (codes "--") ≡ false
    → long_of x ≡ None
    → short_of x ≡ Some flags
    → slice_get (chars flags) 0 ≡ None
    → Pushes rows n x
unfolding clap_on_literals
pushes_flags rows steps x [] d l s f = record { no_fault = rw (d, l, s) refl; walk = rw (d, l, s) refl }
pushes_flags rows goroutines x [] d l s f = record { no_fault = rw (d, l, s) refl; walk = rw (d, l, s) refl }
pushes_flags rows pages x [] d l s f = record { no_fault = rw (d, l, s) refl; walk = rw (d, l, s) refl }
pushes_flags rows page_words x [] d l s f = record { no_fault = rw (d, l, s) refl; walk = rw (d, l, s) refl }
pushes_flags rows regions x [] d l s f = record { no_fault = rw (d, l, s) refl; walk = rw (d, l, s) refl }
pushes_flags rows workers x [] d l s f = record { no_fault = rw (d, l, s) refl; walk = rw (d, l, s) refl }
pushes_flags rows steps x (c ∷ cs) d l s f =
    record { no_fault = rw (d, l, s, f) refl; walk = rw (d, l, s, f) refl }
pushes_flags rows goroutines x (c ∷ cs) d l s f =
    record { no_fault = rw (d, l, s, f) refl; walk = rw (d, l, s, f) refl }
pushes_flags rows pages x (c ∷ cs) d l s f =
    record { no_fault = rw (d, l, s, f) refl; walk = rw (d, l, s, f) refl }
pushes_flags rows page_words x (c ∷ cs) d l s f =
    record { no_fault = rw (d, l, s, f) refl; walk = rw (d, l, s, f) refl }
pushes_flags rows regions x (c ∷ cs) d l s f =
    record { no_fault = rw (d, l, s, f) refl; walk = rw (d, l, s, f) refl }
pushes_flags rows workers x (c ∷ cs) d l s f =
    record { no_fault = rw (d, l, s, f) refl; walk = rw (d, l, s, f) refl }

no_first : slice_get (chars []) 0 ≡ None
unfolding clap_on_literals
no_first = refl

meets_flags : (rows : List Row) (pending : Option (Text × List Text)) (t x : Text) (c : ℕ) (cs : Text) (y : ℕ)
    → bytes_eq x (codes "--") ≡ false
    → long_of x ≡ None
    → short_of x ≡ Some (c ∷ cs)
    → slice_get (chars (c ∷ cs)) 0 ≡ Some y
    → has_fault (turn_fault run_leaf [] (standing rows pending (option t)) x) ≡ true
unfolding clap_on_literals
meets_flags rows pending t x c cs y d l s f = rw (d, l, s, f) refl

pub at_value : (rows : List Row) (n : Number) (x : Text) (xs : List Text) → Meets rows n x xs
at_value rows n x xs = by_kind x (kind_of_word x)
  where
    pending : Option (Text × List Text)
    pending = Some (number_text n, [])

    none_at : (x : Text) → has_fault (turn_fault run_leaf [] (waiting rows n) x) ≡ true → Meets rows n x xs
    none_at x e = inl (stops (waiting rows n) x xs e)

    by_char : (x : Text) (c : ℕ) (cs : Text) (first : Option ℕ)
        → slice_get (chars (c ∷ cs)) 0 ≡ first
        → bytes_eq x (codes "--") ≡ false
        → long_of x ≡ None
        → short_of x ≡ Some (c ∷ cs)
        → Meets rows n x xs
    by_char x c cs None f d l s = inr (pushed rows n x xs (pushes_flags rows n x (c ∷ cs) d l s f))
    by_char x c cs (Some y) f d l s = none_at x (meets_flags rows pending (number_text n) x c cs y d l s f)

    by_short : (x : Text) (short : Option Text)
        → short_of x ≡ short
        → bytes_eq x (codes "--") ≡ false
        → long_of x ≡ None
        → Meets rows n x xs
    by_short x None s d l =
        inr (pushed rows n x xs (pushes_plain rows n x (record { no_dashes = d; no_long = l; no_short = s })))
    by_short x (Some []) s d l = inr (pushed rows n x xs (pushes_flags rows n x [] d l s no_first))
    by_short x (Some (c ∷ cs)) s d l = by_char x c cs (slice_get (chars (c ∷ cs)) 0) refl d l s

    by_long : (x : Text) (long : Option (Text × Option Text))
        → long_of x ≡ long
        → bytes_eq x (codes "--") ≡ false
        → IsUnknown true x
        → Meets rows n x xs
    by_long x None l d unknown = by_short x (short_of x) refl d l
    by_long x (Some p) l d unknown = none_at x (meets_unknown rows pending (number_text n) x p d l (unknown p l))

    by_kind : (x : Text) → Kind x → Meets rows n x xs
    by_kind _ dashes = inl (meets_dashes rows n xs)
    by_kind _ (named name) =
        none_at (dashed name) (meets_named rows pending (number_text n) name (no_value n rows))
    by_kind _ (valued name value) =
        none_at (joined name value) (meets_joined rows pending (number_text n) name value (no_value n rows))
    by_kind _ (other x no_dashes unknown) = by_long x (long_of x) refl no_dashes unknown
